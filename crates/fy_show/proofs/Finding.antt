-- each journal has a finding
use Rattle.std.proofs.Common.{◌≡◌, ◌⊎◌, ◌<◌, inl, inr, ℕ, Bool, true, false, List, [], ◌∷◌, ◌++◌, length, Option, Some, None, IsTrue, nat_eq, refl, sym, subst, arith, rules, append_assoc, append-nil}
use Rattle.std.specs.Bool.{Decides}
use Rattle.std.proofs.Math.Seq.{take-append_seam, take-append-add}
use Rattle.std.proofs.lemmas.Bool.{cases_lt, false≢true}
use Rattle.fy_acts.specs.Versions.{knows}
use Rattle.fy_acts.specs.declared.entry.Entry.{Entry}
use Rattle.fy_acts.specs.declared.reply.Reply.{Reply}
use Rattle.fy_acts.specs.declared.version.Version.{Version}
use Rattle.fy_cluster.specs.History.{history}
use Rattle.fy_cluster.specs.Replies.{reply}
use Rattle.fy_cluster.specs.Setup.{Setup}
use Rattle.fy_cluster.specs.Versions.{LegalUnder, NextLegalUnder}
use Rattle.fy_replay.specs.Replayed.{HasFirstBad}
use Rattle.fy_show.specs.Shows.{JournalsHaveFindings}

-- a fact that holds or doesn't
abbrev Settled : Type 0 → Type 0
Settled P = P ⊎ (P → ⊥)

by_test : (test : Bool) (P : Type 0) → Decides test P → Settled P
by_test true P decides = inl (decides.0 refl)
by_test false P decides = inr (λ p. absurd (false≢true (decides.1 p)))

below : (m n : ℕ) → Settled (m < n)
below m n = elim (cases_lt m n) [ inl less ↦ inl less | inr more ↦ inr (λ less. omega arith) ]

both : {P Q : Type 0} → Settled P → Settled Q → Settled (P × Q)
both (inl p) (inl q) = inl (p, q)
both (inr never) q = inr (λ w. never w.0)
both (inl p) (inr never) = inr (λ w. never w.1)

said : {P Q : Type 0} → Settled P → (P → Q) → (Q → P) → Settled Q
said (inl p) forth back = inl (forth p)
said (inr never) forth back = inr (λ q. never (back q))

-- a test tells whether replies are the same
abbrev pub RepliesTested : Type 0
RepliesTested = (a b : Reply) → (test : Bool) × Decides test (a ≡ b)

-- an entry may come next in a legal journal, or not
next : NextLegalUnder → RepliesTested → (version : Version) (c : Setup) (journal : List Entry) (e : Entry) → LegalUnder version c journal → Settled (LegalUnder version c (journal ++ e ∷ []))
next law tested version c journal e legal =
    let same = tested e.reply (reply c (history c journal) e.by e.act) in
    let place : Decides (nat_eq e.at (length journal)) (e.at ≡ length journal) = search rules in
    said
    (both (below (length journal) c.limit)
    (both (by_test (nat_eq e.at (length journal)) (e.at ≡ length journal) place)
    (both (by_test same.0 (e.reply ≡ reply c (history c journal) e.by e.act) same.1)
    (by_test (knows version e.act) (IsTrue (knows version e.act)) (λ known. known, λ known. known)))))
    (λ w. (law version c journal e legal).1 (record { room = w.0; place = w.1.0; right = w.1.1.0 }, w.1.1.1))
    (λ more. let w = (law version c journal e legal).0 more in (w.0.room, (w.0.place, (w.0.right, w.1))))

-- where the entries before are legal, they all are, or there is a first bad one
from : NextLegalUnder → RepliesTested → (version : Version) (c : Setup) (before after : List Entry) → LegalUnder version c before → (first : Option ℕ) × HasFirstBad version c (before ++ after) first
from law tested version c before [] legal = (None, subst (LegalUnder version c) (sym (append-nil before)) legal)
from law tested version c before (e ∷ after) legal =
    elim (next law tested version c before e legal) [
      | inl more ↦
          subst (λ entries. (first : Option ℕ) × HasFirstBad version c entries first) (append_assoc before (e ∷ []) after)
          (from law tested version c (before ++ e ∷ []) after more)
      | inr never ↦ (
        Some (length before),
        record {
          good = subst (LegalUnder version c) (sym (take-append_seam before (e ∷ after))) legal;
          bad = λ legal. never (subst (LegalUnder version c) (take-append-add before (e ∷ after) 1) legal);
        },
      )
    ]

pub journals_have_findings : NextLegalUnder → RepliesTested → JournalsHaveFindings
journals_have_findings law tested version setup entries =
    from law tested version setup [] entries (record { legal = (omega arith, tt); known = refl })
