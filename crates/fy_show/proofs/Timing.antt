-- what is known of the document of an audit and its events
use Rattle.std.proofs.Common.{◌≡◌, ◌∙◌, ℕ, List, [], length, Option, Some, None, Ok, Err, Bool, true, false, refl, ap, sym, subst, arith}
use Rattle.std.specs.Prelude.{IfSome, is_none, is_some, not}
use Rattle.std.proofs.lemmas.Bool.{false≢true}
use Rattle.std.proofs.KnownBytes.{Consumes-nil}
use Rattle.fy_lines.specs.Readings.{ReadsAtMost}
use Rattle.fy_acts.specs.declared.version.Version.{Version}
use Rattle.fy_acts.specs.declared.entry.Entry.{Entry}
use Rattle.fy_audit.specs.Audit.{Audit, AuditOf, audit_of}
use Rattle.fy_audit.specs.declared.audit.AuditFault.{AuditFault}
use Rattle.fy_events.specs.Events.{EventsOf}
use Rattle.fy_events.specs.declared.event.Event.{Event}
use Rattle.fy_events.specs.declared.events.EventsFault.{EventsFault}
use Rattle.fy_cluster.specs.Setup.{Setup}
use Rattle.fy_replay.specs.Replayed.{HasFirstBad}
use Rattle.fy_check.specs.CheckTexts.{IsFound}
use Rattle.fy_check.specs.declared.check.Finding.{Finding}
use Rattle.fy_streams.specs.declared.stop.Stop.{Stop}
use Rattle.fy_streams.specs.declared.stop.Stop.TheVariants.{JudgeTooLong, JudgeLine, Config, Script, JournalFull, Audit as AuditStop, Events, SwarmClose, Read, Write, NoMemory}
use Rattle.fy_streams.specs.Stops.{IfAuditFault, IfEventsFault}
use Rattle.fy_picture.specs.Recording.{Recording}
use Rattle.fy_svg.specs.Documents.{IsDocument}
use Rattle.fy_check.specs.Inputs.{IsReadInto}
use Rattle.fy_show.specs.declared.held.Held.{Held}
use Rattle.fy_show.specs.Shows.{AreRefused, HasDrawnByTime, HasTimedDocument, IsDrawnByTime, IsHeld, JournalsHaveFindings}

-- what follows of a fault of the events, whichever it is
pub map_events : (stop : Stop) (P Q : EventsFault → Type 0) →
    ((fault : EventsFault) → P fault → Q fault) → IfEventsFault stop P → IfEventsFault stop Q
map_events JudgeTooLong P Q gives holds = tt
map_events (JudgeLine line fault) P Q gives holds = tt
map_events (Config fault) P Q gives holds = tt
map_events (Script fault) P Q gives holds = tt
map_events JournalFull P Q gives holds = tt
map_events (AuditStop fault) P Q gives holds = tt
map_events (Events fault) P Q gives holds = gives fault holds
map_events SwarmClose P Q gives holds = tt
map_events Read P Q gives holds = tt
map_events Write P Q gives holds = tt
map_events NoMemory P Q gives holds = tt

-- what follows of a fault of the audit, where there is none
pub no_audit : (stop : Stop) (P : AuditFault → Type 0) → IfAuditFault stop (λ _. ⊥) →
    IfAuditFault stop P
no_audit JudgeTooLong P none = tt
no_audit (JudgeLine line fault) P none = tt
no_audit (Config fault) P none = tt
no_audit (Script fault) P none = tt
no_audit JournalFull P none = tt
no_audit (AuditStop fault) P none = absurd none
no_audit (Events fault) P none = tt
no_audit SwarmClose P none = tt
no_audit Read P none = tt
no_audit Write P none = tt
no_audit NoMemory P none = tt

-- what isn't read gives nothing
pub reads_none : (known : Option (List ℕ)) (most : ℕ) → ReadsAtMost known known most
reads_none known most = ([], Consumes-nil known, omega arith)

-- what holds of bytes that were read holds of those that a reader is known to give
pub holds_known : (known : Option (List ℕ)) (read : List ℕ) (P : List ℕ → Type 0) →
    IfSome known (λ bytes. read ≡ bytes) → P read → IfSome known P
holds_known None read P same holds = tt
holds_known (Some bytes) read P same holds = subst P same holds

-- what is first bad in the journal of an audit was found of it
found_of : (setup : Setup) (bytes : List ℕ) (held : Held) (finding : Finding) → IsHeld bytes held →
    finding.count ≡ held.count →
    HasFirstBad held.journal.version setup held.journal.entries finding.first_bad →
    IsFound setup bytes finding
found_of setup bytes held finding is same first =
    record { audit = audit_of held.journal; read = is.read; count = same ∙ is.count; first = first }

drawn_of : (setup : Setup) (bytes : List ℕ) (held : Held) (finding : Finding) (events : List Event)
    (drawing : Recording) → IsHeld bytes held →
    HasDrawnByTime setup (audit_of held.journal) finding events drawing →
    IsDrawnByTime setup bytes finding events drawing
drawn_of setup bytes held finding events drawing is drawn =
    record { audit = audit_of held.journal; read = is.read; drawn = drawn }

-- an audit that is held, and the events of its entries, have a document
pub has_timed_document : (setup : Setup) (audit events : Option (List ℕ)) (held : Held)
    (told : List Event) (legal : Bool) (P : List ℕ → Type 0) →
    IfSome audit (λ bytes. IsHeld bytes held) →
    IfSome events (λ lines. EventsOf held.count lines (Ok told)) →
    (finding : Finding) → finding.count ≡ held.count →
    HasFirstBad held.journal.version setup held.journal.entries finding.first_bad →
    legal ≡ is_none finding.first_bad → (drawing : Recording) →
    HasDrawnByTime setup (audit_of held.journal) finding told drawing →
    (text : List ℕ) → IsDocument drawing text → P text → HasTimedDocument setup audit events legal P
has_timed_document setup None events held told legal P is are finding same first legal_is drawing drawn text of holds = tt
has_timed_document setup (Some bytes) None held told legal P is are finding same first legal_is drawing drawn text of holds = tt
has_timed_document setup (Some bytes) (Some lines) held told legal P is are finding same first legal_is drawing drawn text of holds = (
  finding,
  found_of setup bytes held finding is same first,
  (
    legal_is,
    told,
    subst (λ n. EventsOf n lines (Ok told)) (sym same) are,
    drawing,
    drawn_of setup bytes held finding told drawing is drawn,
    text,
    of,
    holds,
  ),
)

-- an audit that is held, and events that are refused
pub are_refused : (setup : Setup) (audit events : Option (List ℕ)) (held : Held)
    (fault : EventsFault) → JournalsHaveFindings → IfSome audit (λ bytes. IsHeld bytes held) →
    IfSome events (λ lines. EventsOf held.count lines (Err fault)) →
    AreRefused setup audit events fault
are_refused setup None events held fault law is refused = tt
are_refused setup (Some bytes) None held fault law is refused = tt
are_refused setup (Some bytes) (Some lines) held fault law is refused =
    let found = law held.journal.version setup held.journal.entries in
    let finding : Finding = record { count = held.count; first_bad = found.0 } in
    (finding, found_of setup bytes held finding is refl found.1, refused)

-- where a test says that there is none, there is none
pub none_where : (o : Option ℕ) (none : Bool) → not none ≡ is_some o → none ≡ true → o ≡ None
none_where None none same is = refl
none_where (Some at) true same is = absurd (false≢true same)
none_where (Some at) false same is = absurd (false≢true is)

-- where a journal has what was read, its bytes are the audit of it
pub is_held : (known : Option (List ℕ)) (read begun : Version) (held : Held) → begun ≡ read →
    IfSome known (λ bytes. IsReadInto bytes read held.count
    (λ entries. (held.journal.entries ≡ entries) × (held.journal.version ≡ begun))) →
    IfSome known (λ bytes. IsHeld bytes held)
is_held None read begun held is has = tt
is_held (Some bytes) read begun held is has =
    let version : has.audit.version ≡ held.journal.version = sym (has.holds.1 ∙ is ∙ has.version_is) in
    let moved = subst (λ v. AuditOf bytes (Ok (let a : Audit = record { version = v; entries = has.audit.entries } in a))) version has.read in
    record {
      read = subst (λ es. AuditOf bytes (Ok (let a : Audit = record { version = held.journal.version; entries = es } in a))) (sym has.holds.0) moved;
      count = has.count_is ∙ sym (ap (λ (es : List Entry). length es) has.holds.0);
    }
