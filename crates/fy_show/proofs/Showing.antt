-- what is known of the document that show writes
use Rattle.std.proofs.Common.{◌≡◌, ◌∙◌, ℕ, List, Option, Some, None, Result, Ok, Err, Bool, true, false, refl, ap, subst, sym}
use Rattle.std.specs.Prelude.{IfSome, OnOk, is_none, is_some, not}
use Rattle.std.proofs.lemmas.Bool.{true≢false}
use Rattle.fy_acts.specs.declared.version.Version.{Version}
use Rattle.fy_cluster.specs.Setup.{Setup}
use Rattle.fy_check.specs.Checked.{IsChecked}
use Rattle.fy_check.specs.Inputs.{IsReadInto}
use Rattle.fy_svg.specs.Documents.{IsDocument}
use Rattle.fy_picture.specs.Recording.{HasRecorded, Recording, begun}
use Rattle.fy_picture.proofs.Recorders.{first_of}
use Rattle.fy_show.specs.declared.show.Drawn.{Drawn}
use Rattle.fy_show.specs.Shows.{HasDocument, IsDrawn, IsDrawnEvenly}

-- what three facts of a call that went well give
pub all_on_ok : {T E : Type 0} (result : Result T E) (P Q R S : Type 0) → (P → Q → R → S)
    → OnOk result P → OnOk result Q → OnOk result R → OnOk result S
all_on_ok (Ok done) P Q R S gives p q r = gives p q r
all_on_ok (Err fault) P Q R S gives p q r = tt

-- an audit that was read into a drawing, which began so, was drawn
pub drawn_of : (setup : Setup) (bytes : List ℕ) (version : Version) (laid : Option (List ℕ)) (count : ℕ) (start now : Recording)
    → start ≡ begun version setup laid
    → IsReadInto bytes version count (λ entries. HasRecorded start.execution.setup entries now
    × (now.version ≡ start.version) × (now.columns.laid ≡ start.columns.laid))
    → IsDrawn setup bytes laid now
drawn_of setup bytes version laid count start now is read = record {
  audit = read.audit;
  read = read.read;
  drawn = record {
    version = read.holds.1 ∙ ap (λ (r : Recording). r.version) is ∙ read.version_is;
    those = subst (λ s. HasRecorded s read.audit.entries now) (ap (λ (r : Recording). r.execution.setup) is) read.holds.0;
    laid_is = read.holds.2 ∙ ap (λ (r : Recording). r.columns.laid) is;
  };
}

-- so was one in even columns, where its bytes are known
pub drawn_known : (setup : Setup) (known : Option (List ℕ)) (version : Version) (start : Recording) (drawn : Drawn)
    → start ≡ begun version setup None
    → IfSome known (λ bytes. IsReadInto bytes version drawn.count (λ entries. HasRecorded start.execution.setup entries drawn.drawing
    × (drawn.drawing.version ≡ start.version) × (drawn.drawing.columns.laid ≡ start.columns.laid)))
    → IfSome known (λ bytes. IsDrawnEvenly setup bytes drawn)
unfolding drawn_of
drawn_known setup None version start drawn is read = tt
drawn_known setup (Some bytes) version start drawn is read =
    record { is = drawn_of setup bytes version None drawn.count start drawn.drawing is read; count = read.count_is }

pub none_is : (o : Option ℕ) (none : Bool) → not none ≡ is_some o → none ≡ is_none o
none_is None true is = refl
none_is None false is = absurd (true≢false is)
none_is (Some at) true is = absurd (true≢false (sym is))
none_is (Some at) false is = refl

-- and so it is checked
pub checked_known : (setup : Setup) (known : Option (List ℕ)) (drawn : Drawn) (legal : Bool) → legal ≡ is_none drawn.drawing.first_bad
    → IfSome known (λ bytes. IsDrawnEvenly setup bytes drawn) → IfSome known (λ bytes. IsChecked setup bytes legal × IsDrawn setup bytes None drawn.drawing)
checked_known setup None drawn legal is holds = tt
checked_known setup (Some bytes) drawn legal is holds = (
  record {
    finding = record { count = drawn.count; first_bad = drawn.drawing.first_bad };
    found = record {
      audit = holds.is.audit;
      read = holds.is.read;
      count = holds.count;
      first = first_of holds.is.audit.version setup holds.is.audit.entries drawn.drawing holds.is.drawn.those holds.is.drawn.version;
    };
    legal_is = is;
  },
  holds.is,
)

-- an audit that was read and checked has a document that was drawn to its end
pub has_document : (setup : Setup) (known : Option (List ℕ)) (legal : Bool) (drawing : Recording)
    (P : List ℕ → Type 0) →
    IfSome known (λ bytes. IsChecked setup bytes legal × IsDrawn setup bytes None drawing) →
    (text : List ℕ) → IsDocument drawing text → P text → HasDocument setup known legal P
has_document setup None legal drawing P is text of holds = tt
has_document setup (Some bytes) legal drawing P is text of holds =
    (is.0, drawing, is.1, text, of, holds)
