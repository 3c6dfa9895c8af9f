-- what show writes of an audit
use Rattle.std.specs.Prelude.{◌≡◌, ℕ, Bool, List, Option, Some, None, IfSome, Ok, Err, is_none, length, unwrap_or}
use Rattle.fy_acts.specs.declared.entry.Entry.{Entry}
use Rattle.fy_acts.specs.declared.version.Version.{Version}
use Rattle.fy_audit.specs.Audit.{Audit, AuditOf, audit_of}
use Rattle.fy_cluster.specs.Setup.{Setup}
use Rattle.fy_check.specs.CheckTexts.{IsFound}
use Rattle.fy_check.specs.Checked.{IsChecked}
use Rattle.fy_check.specs.declared.check.Finding.{Finding}
use Rattle.fy_events.specs.Columns.{AreTimeColumns, events_before}
use Rattle.fy_events.specs.Events.{EventsOf}
use Rattle.fy_events.specs.declared.columns.TimeColumns.{TimeColumns}
use Rattle.fy_events.specs.declared.event.Event.{Event}
use Rattle.fy_events.specs.declared.events.EventsFault.{EventsFault}
use Rattle.fy_picture.specs.Recording.{HasRecorded, Recording}
use Rattle.fy_picture.specs.declared.TheConstants.{MOST_COLUMNS}
use Rattle.fy_replay.specs.Replayed.{HasFirstBad}
use Rattle.fy_svg.specs.Documents.{IsDocument}
use Rattle.fy_show.specs.declared.held.Held.{Held}
use Rattle.fy_show.specs.declared.show.Drawn.{Drawn}

-- how many entries are before the first bad one
abbrev pub good_of : Finding → ℕ
good_of finding = unwrap_or finding.first_bad finding.count

-- the drawing is that of an audit's entries before the first bad one, or of all, in columns that
-- end as listed, or else are even
pub record HasDrawn (setup : Setup) (audit : Audit) (laid : Option (List ℕ)) (drawing : Recording) :
    Type 0 where
  pub version : drawing.version ≡ audit.version
  pub those : HasRecorded setup audit.entries drawing
  pub laid_is : drawing.columns.laid ≡ laid

-- the drawing is that of an audit's entries before the first bad one, in the columns that the
-- events of these entries give
pub record HasDrawnByTime (setup : Setup) (audit : Audit) (finding : Finding) (events : List Event)
    (drawing : Recording) : Type 0 where
  pub columns : TimeColumns
  pub are_columns : AreTimeColumns (events_before events (good_of finding)) (good_of finding)
      MOST_COLUMNS columns
  pub drawn : HasDrawn setup audit (Some columns.ends.items) drawing

-- the bytes are an audit, and the drawing is that of its entries before the first bad one, or of
-- all, in columns that end as listed, or else are even
pub record IsDrawn (setup : Setup) (bytes : List ℕ) (laid : Option (List ℕ)) (drawing : Recording) :
    Type 0 where
  pub audit : Audit
  pub read : AuditOf bytes (Ok audit)
  pub drawn : HasDrawn setup audit laid drawing

-- the bytes are an audit, and the drawing is that of its entries before the first bad one, in the
-- columns that the events of these entries give
pub record IsDrawnByTime (setup : Setup) (bytes : List ℕ) (finding : Finding) (events : List Event)
    (drawing : Recording) : Type 0 where
  pub audit : Audit
  pub read : AuditOf bytes (Ok audit)
  pub drawn : HasDrawnByTime setup audit finding events drawing

-- an audit in even columns, and how many entries it has
pub record IsDrawnEvenly (setup : Setup) (bytes : List ℕ) (drawn : Drawn) : Type 0 where
  pub is : IsDrawn setup bytes None drawn.drawing
  pub count : drawn.count ≡ length is.audit.entries

-- SHOW: known bytes of an audit that was read and checked, whether it is legal, its drawing in even
-- columns, and what holds of the document of that
abbrev pub HasDocument : Setup → Option (List ℕ) → Bool → (List ℕ → Type 0) → Type 0
HasDocument setup known legal P =
    IfSome known (λ bytes. IsChecked setup bytes legal
    × (drawing : Recording) × IsDrawn setup bytes None drawing
    × (text : List ℕ) × IsDocument drawing text × P text)

-- the bytes are the audit of the journal that is held, and so many entries are in it
pub record IsHeld (bytes : List ℕ) (held : Held) : Type 0 where
  pub read : AuditOf bytes (Ok (audit_of held.journal))
  pub count : held.count ≡ length held.journal.entries

-- each journal is legal under its version or has a first bad entry
abbrev pub JournalsHaveFindings : Type 0
JournalsHaveFindings =
    (version : Version) (setup : Setup) (entries : List Entry) →
    (first_bad : Option ℕ) × HasFirstBad version setup entries first_bad

-- known bytes of an audit, its finding, and known bytes of a file of events
abbrev pub IfBothKnown : Setup → (audit events : Option (List ℕ))
    → (List ℕ → Finding → List ℕ → Type 0) → Type 0
IfBothKnown setup audit events P =
    IfSome audit (λ bytes. IfSome events (λ lines. (finding : Finding)
    × IsFound setup bytes finding × P bytes finding lines))

-- SHOW by time: the audit is said to be legal where it is, the file has events of its entries, and
-- this holds of the document of the drawing in the columns that they give
abbrev pub HasTimedDocument : Setup → (audit events : Option (List ℕ)) → Bool → (List ℕ → Type 0)
    → Type 0
HasTimedDocument setup audit events legal P =
    IfBothKnown setup audit events (λ bytes finding lines. (legal ≡ is_none finding.first_bad)
    × (told : List Event) × EventsOf finding.count lines (Ok told)
    × (drawing : Recording) × IsDrawnByTime setup bytes finding told drawing
    × (text : List ℕ) × IsDocument drawing text × P text)

-- the audit was read, and the file of events is refused by this fault
abbrev pub AreRefused : Setup → (audit events : Option (List ℕ)) → EventsFault → Type 0
AreRefused setup audit events fault =
    IfBothKnown setup audit events (λ _ finding lines. EventsOf finding.count lines (Err fault))
