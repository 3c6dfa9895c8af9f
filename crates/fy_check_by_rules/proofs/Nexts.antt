-- whether an entry may come next
use Rattle.std.proofs.Common.{◌≡◌, ◌↔◌, ℕ, ◌+◌, ◌<◌, Bool, true, false, List, [], ◌∷◌, ◌++◌, length, take, get_or, IsTrue, sym, ◌∙◌, subst, arith}
use Rattle.std.proofs.lemmas.Bool.{false≢true}
use Rattle.std.proofs.lemmas.List.{length-take-le}
use Rattle.fy_acts.specs.declared.entry.Entry.{Entry}
use Rattle.fy_acts.specs.declared.version.Version.{Version}
use Rattle.fy_cluster.specs.Setup.{Setup}
use Rattle.fy_cluster.specs.Versions.{LegalUnder, NextLegalUnder}
use Rattle.fy_acts.specs.Versions.{knows}
use Rattle.fy_replay.specs.Check.{IsFirstBad}
use Rattle.fy_check_by_rules.proofs.Lists.{one_more}

-- the entry with its journal is legal where the test is true
abbrev pub Tells : Version → Setup → List Entry → Entry → Bool → Type 0
Tells version c journal e may = IsTrue may ↔ LegalUnder version c (journal ++ e ∷ [])

pub not_known : NextLegalUnder → (version : Version) (c : Setup) (journal : List Entry) (e : Entry) → LegalUnder version c journal → knows version e.act ≡ false → Tells version c journal e false
not_known law version c journal e l k = (
  λ f. absurd (false≢true f),
  λ more. absurd (false≢true (sym k ∙ ((law version c journal e l).0 more).1)),
)

-- ---- the entries one after another

-- an entry that may not come next is the first bad one
pub first_bad : (version : Version) (c : Setup) (entries : List Entry) (i : ℕ) (e : Entry) (next : Bool) → i < length entries → e ≡ get_or entries i e → e.at ≡ length (take i entries)
    → LegalUnder version c (take i entries) → Tells version c (take i entries) e next → next ≡ false → IsFirstBad version c entries e.at
first_bad version c entries i e next l is place legal told no_more =
    let at_i : i ≡ e.at = sym (place ∙ length-take-le i entries (omega arith)) in
    subst (IsFirstBad version c entries) at_i (record {
      good = legal;
      bad = λ more. false≢true (sym no_more ∙ told.1 (subst (LegalUnder version c) (one_more entries i e l is) more));
    })
