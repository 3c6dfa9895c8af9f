-- fronts of a legal journal are legal, so that a journal has one answer
use Rattle.std.proofs.Common.{◌≡◌, ℕ, zero, suc, ◌+◌, ◌<◌, ◌≤◌, inl, inr, true, List, [], ◌∷◌, ◌++◌, take, drop, Ok, Err, refl, sym, ap, subst, arith}
use Rattle.std.proofs.lemmas.Bool.{and_parts, and_from, cases_lt}
use Rattle.std.proofs.lemmas.List.{take-append-drop}
use Rattle.fy_acts.specs.declared.entry.Entry.{Entry}
use Rattle.fy_acts.specs.declared.version.Version.{Version}
use Rattle.fy_cluster.specs.Setup.{Setup}
use Rattle.fy_cluster.specs.Survival.{FrontsLegal}
use Rattle.fy_cluster.specs.Versions.{LegalUnder, knows_all}
use Rattle.fy_acts.specs.Versions.{knows}
use Rattle.fy_replay.specs.declared.fault.CheckFault.TheVariants.{BadEntry, NoMemory}
use Rattle.fy_replay.specs.Check.{IsFirstBad, OneAnswer, LegalIsOk}

known_front : (version : Version) (xs ys : List Entry) → knows_all version (xs ++ ys) ≡ true → knows_all version xs ≡ true
known_front version [] ys k = refl
known_front version (x ∷ xs) ys k =
    let both = and_parts (knows version x.act) _ k in
    and_from _ _ both.0 (known_front version xs ys both.1)

front_legal : FrontsLegal → (version : Version) (c : Setup) (n : ℕ) (xs : List Entry) → LegalUnder version c xs → LegalUnder version c (take n xs)
front_legal fronts version c n xs l =
    let whole : LegalUnder version c (take n xs ++ drop n xs) = subst (LegalUnder version c) (sym (take-append-drop n xs)) l in
    record {
      legal = fronts c (take n xs) (drop n xs) whole.legal;
      known = known_front version (take n xs) (drop n xs) whole.known;
    }

-- a front of a front
take-within : (m n : ℕ) (xs : List Entry) → m ≤ n → take m (take n xs) ≡ take m xs
take-within zero n xs l = refl
take-within (suc m) zero xs l = absurd (omega arith)
take-within (suc m) (suc n) [] l = refl
take-within (suc m) (suc n) (x ∷ xs) l = ap (λ ys. x ∷ ys) (take-within m n xs (omega arith))

not_before : FrontsLegal → (version : Version) (c : Setup) (xs : List Entry) (m n : ℕ) → IsFirstBad version c xs m → IsFirstBad version c xs n → m < n → ⊥
not_before fronts version c xs m n bad_at_m bad_at_n l =
    bad_at_m.bad
    (subst (LegalUnder version c) (take-within (m + 1) n xs (omega arith))
    (front_legal fronts version c (m + 1) (take n xs) bad_at_n.good))

never_bad : FrontsLegal → (version : Version) (c : Setup) (xs : List Entry) (n : ℕ) → LegalUnder version c xs → IsFirstBad version c xs n → ⊥
never_bad fronts version c xs n l bad_at_n = bad_at_n.bad (front_legal fronts version c (n + 1) xs l)

pub one_answer : FrontsLegal → OneAnswer
one_answer fronts version c xs (Ok done) (Ok done') a b = refl
one_answer fronts version c xs (Ok done) (Err (BadEntry n)) a b = absurd (never_bad fronts version c xs n a b)
one_answer fronts version c xs (Ok done) (Err NoMemory) a b = absurd b
one_answer fronts version c xs (Err (BadEntry m)) (Ok done) a b = absurd (never_bad fronts version c xs m b a)
one_answer fronts version c xs (Err (BadEntry m)) (Err (BadEntry n)) a b =
    elim (cases_lt m n) [
      | inl less ↦ absurd (not_before fronts version c xs m n a b less)
      | inr more ↦ elim (cases_lt n m) [
        | inl less ↦ absurd (not_before fronts version c xs n m b a less)
        | inr less ↦ ap (λ k. Err (BadEntry k)) (let same : m ≡ n = omega arith in same)
      ]
    ]
one_answer fronts version c xs (Err (BadEntry m)) (Err NoMemory) a b = absurd b
one_answer fronts version c xs (Err NoMemory) y a b = absurd a

pub legal_is_ok : FrontsLegal → LegalIsOk
legal_is_ok fronts version c xs (Ok done) a l = refl
legal_is_ok fronts version c xs (Err (BadEntry n)) a l = absurd (never_bad fronts version c xs n l a)
legal_is_ok fronts version c xs (Err NoMemory) a l = absurd a
