-- numbers that differ, and entries counted by whose they are
use Rattle.std.proofs.Common.{◌≡◌, ◌≢◌, ℕ, zero, suc, ◌+◌, ◌<◌, ◌≤◌, eqb, List, [], ◌∷◌, length, slice_index_or, Contains, Bool, true, false, true≢false, nat_lt, ◌||◌, arith, sym, refl, ap, ◌∙◌, subst, ◌⊎◌, inl, inr, ⊎_elim, ne_eqb}
use Rattle.std.specs.List.{IsDistinct, AllByRecursion, list_any}
use Rattle.std.proofs.lemmas.Map.Steps.{length-le_from_distinct_below}
use Rattle.std.proofs.lemmas.Bool.Decides.{nat_tests}
use mathlib.Core.Option.{some, some-ne-none, some-injective}
use native.Mathlib.Decide.{ℕ_discrete}
use lib.ListN.{get_elem?}
use Rattle.fy_acts.specs.declared.entry.Entry.{Entry}
use Rattle.fy_actors.specs.Desk.{entries_by}
use Rattle.fy_actors.proofs.Playing.{by_first}
use Rattle.fy_shared.specs.Turnstile.{NotAmong, Distinct}
use Rattle.fy_shared.proofs.Journals.{by_passed}

-- numbers that differ, and that are there

here_first : (a x : ℕ) (xs : List ℕ) → Dec (x ≡ a)
    → ((k : ℕ) × (get_elem? xs k ≡ some a)) ⊎ NotAmong a xs
    → ((k : ℕ) × (get_elem? (x ∷ xs) k ≡ some a)) ⊎ NotAmong a (x ∷ xs)
here_first a x xs (yes e) r = inl (0, ap (λ (n : ℕ). some n) e)
here_first a x xs (no n) r =
    ⊎_elim (λ (t : (k : ℕ) × (get_elem? xs k ≡ some a)). inl (suc t.0, t.1))
    (λ (t : NotAmong a xs). inr (n, t)) r

here_or_not : (a : ℕ) (ds : List ℕ) → ((k : ℕ) × (get_elem? ds k ≡ some a)) ⊎ NotAmong a ds
here_or_not a [] = inr tt
here_or_not a (x ∷ xs) = here_first a x xs (ℕ_discrete x a) (here_or_not a xs)

apart_all : (x : ℕ) (xs : List ℕ) → NotAmong x xs → AllByRecursion (λ y. eqb x y ≡ false) xs
apart_all x [] n = tt
apart_all x (y ∷ ys) n = (ne_eqb x y (λ e. n.0 (sym e)), apart_all x ys n.1)

to_distinct : (xs : List ℕ) → Distinct xs → IsDistinct eqb xs
unfolding IsDistinct
to_distinct [] d = tt
to_distinct (x ∷ xs) d = (apart_all x xs d.0, to_distinct xs d.1)

below_first : (n x q : ℕ) (xs : List ℕ) → Dec (q ≡ x) → x < n → (list_any (eqb q) xs ≡ true → q < n)
    → list_any (eqb q) (x ∷ xs) ≡ true → q < n
below_first n x q xs (yes e) less more h = omega arith
below_first n x q xs (no ne) less more h =
    more (sym (ap (λ (t : Bool). t || list_any (eqb q) xs) (ne_eqb q x ne)) ∙ h)

below_any : (n : ℕ) (xs : List ℕ) → ((k x : ℕ) → get_elem? xs k ≡ some x → x < n) → (q : ℕ)
    → list_any (eqb q) xs ≡ true → q < n
below_any n [] b q h = absurd (true≢false (sym h))
below_any n (x ∷ xs) b q h =
    below_first n x q xs (ℕ_discrete q x) (b 0 x refl) (below_any n xs (λ k y e. b (suc k) y e) q) h

pub most_below : (n : ℕ) (xs : List ℕ) → Distinct xs → ((k x : ℕ) → get_elem? xs k ≡ some x → x < n)
    → length xs ≤ n
most_below n xs d b = length-le_from_distinct_below xs n (to_distinct xs d) (below_any n xs b)

-- numbers below n that differ, as many as n, are all of them
pub all_there : (n : ℕ) (xs : List ℕ) → Distinct xs → ((k x : ℕ) → get_elem? xs k ≡ some x → x < n)
    → n ≤ length xs → (a : ℕ) → a < n → (k : ℕ) × (get_elem? xs k ≡ some a)
all_there n xs d b many a less =
    ⊎_elim (λ (t : (k : ℕ) × (get_elem? xs k ≡ some a)). t)
    (λ (t : NotAmong a xs). absurd (let long = most_below n (a ∷ xs) (t, d) below in omega arith))
    (here_or_not a xs)
  where
    below : (k x : ℕ) → get_elem? (a ∷ xs) k ≡ some x → x < n
    below zero x e = let same : a ≡ x = some-injective a x e in omega arith
    below (suc k) x e = b k x e

abbrev keep_else : (n x : ℕ) → Dec (x ≡ n) → List ℕ → List ℕ
keep_else n x (yes e) ys = ys
keep_else n x (no ne) ys = x ∷ ys

-- the list without n
abbrev cut : ℕ → List ℕ → List ℕ
cut n [] = []
cut n (x ∷ ys) = keep_else n x (ℕ_discrete x n) (cut n ys)

keep_no_longer : (n x : ℕ) (d : Dec (x ≡ n)) (ys : List ℕ)
    → length (keep_else n x d ys) ≤ suc (length ys)
keep_no_longer n x (yes e) ys = omega arith
keep_no_longer n x (no ne) ys = omega arith

cut_no_longer : (n : ℕ) (ys : List ℕ) → length (cut n ys) ≤ length ys
cut_no_longer n [] = omega arith
cut_no_longer n (y ∷ ys) = let p = cut_no_longer n ys in let q =
    keep_no_longer n y (ℕ_discrete y n) (cut n ys) in omega arith

keep_shorter : (n x : ℕ) (d : Dec (x ≡ n)) (ys : List ℕ) → x ≡ n
    → length (keep_else n x d ys) ≤ length ys
keep_shorter n x (yes e) ys is = omega arith
keep_shorter n x (no ne) ys is = absurd (ne is)

cut_shorter : (n : ℕ) (ys : List ℕ) (k : ℕ) → get_elem? ys k ≡ some n
    → length (cut n ys) < length ys
cut_shorter n [] k e = absurd (some-ne-none n (sym e))
cut_shorter n (y ∷ ys) zero e = let p = cut_no_longer n ys in let q =
    keep_shorter n y (ℕ_discrete y n) (cut n ys) (some-injective y n e) in omega arith
cut_shorter n (y ∷ ys) (suc k) e = let p = cut_shorter n ys k e in let q =
    keep_no_longer n y (ℕ_discrete y n) (cut n ys) in omega arith

keep_back : (n a y : ℕ) (d : Dec (y ≡ n)) (zs ys : List ℕ) → a ≢ n → (NotAmong a zs → NotAmong a ys)
    → NotAmong a (keep_else n y d zs) → NotAmong a (y ∷ ys)
keep_back n a y (yes e) zs ys ne more t = ((λ x. ne (sym x ∙ e)), more t)
keep_back n a y (no nn) zs ys ne more t = (t.0, more t.1)

cut_back : (n a : ℕ) (ys : List ℕ) → a ≢ n → NotAmong a (cut n ys) → NotAmong a ys
cut_back n a [] ne t = tt
cut_back n a (y ∷ ys) ne t =
    keep_back n a y (ℕ_discrete y n) (cut n ys) ys ne (cut_back n a ys ne) t

-- of n numbers one isn't among fewer
pub missing_one : (n : ℕ) (xs : List ℕ) → length xs < n → (a : ℕ) × (a < n) × NotAmong a xs
missing_one zero xs few = absurd (omega arith)
missing_one (suc n) xs few = ⊎_elim
    (λ (t : (k : ℕ) × (get_elem? xs k ≡ some n)).
    let less = cut_shorter n xs t.0 t.1 in
    let m = missing_one n (cut n xs) (omega arith) in
    let low = m.1 in
    (m.0, (omega arith), cut_back n m.0 xs (λ e. omega arith) m.2))
    (λ (t : NotAmong n xs). (n, (omega arith), t))
    (here_or_not n xs)

-- a number that stands at some place is contained
pub contains_at : (xs : List ℕ) (k a : ℕ) → get_elem? xs k ≡ some a
    → (k < length xs) × (slice_index_or xs k a ≡ a)
contains_at [] k a e = absurd (some-ne-none a (sym e))
contains_at (x ∷ xs) zero a e = (omega arith, some-injective x a e)
contains_at (x ∷ xs) (suc k) a e =
    let rest = contains_at xs k a e in
    let within = rest.0 in
    (omega arith, rest.1)

pub contained : (xs : List ℕ) (a : ℕ) → ((k : ℕ) × (get_elem? xs k ≡ some a)) → Contains xs a
contained xs a there = let at = contains_at xs there.0 a there.1 in (there.0, at.0, at.1)

-- how many of the entries are of these actors
abbrev pub sizes : List ℕ → List Entry → ℕ
sizes [] log = 0
sizes (a ∷ xs) log = length (entries_by a log) + sizes xs log

sizes_none : (xs : List ℕ) → sizes xs [] ≡ 0
sizes_none [] = refl
sizes_none (a ∷ xs) = let rest = sizes_none xs in omega arith

-- an entry of none of them counts for none
sizes_passed : (xs : List ℕ) (e : Entry) (es : List Entry) → NotAmong e.by xs
    → sizes xs (e ∷ es) ≡ sizes xs es
sizes_passed [] e es n = refl
sizes_passed (a ∷ xs) e es n =
    let rest = sizes_passed xs e es n.1 in
    let passed : length (entries_by a (e ∷ es)) ≡ length (entries_by a es) =
    ap (λ (l : List Entry). length l) (by_passed a e es (λ is. n.0 (sym is))) in
    omega arith

-- an entry of one of them counts for one
sizes_at : (a : ℕ) (xs : List ℕ) (e : Entry) (es : List Entry) → NotAmong a xs
    → (a ≢ e.by → sizes xs (e ∷ es) ≡ suc (sizes xs es)) → Dec (a ≡ e.by)
    → sizes (a ∷ xs) (e ∷ es) ≡ suc (sizes (a ∷ xs) es)
sizes_at a xs e es apart later (yes is) =
    let first : length (entries_by a (e ∷ es)) ≡ suc (length (entries_by a es)) =
    ap (λ (l : List Entry). length l) (by_first a e es (sym is)) in
    let rest : sizes xs (e ∷ es) ≡ sizes xs es =
    sizes_passed xs e es (subst (λ (n : ℕ). NotAmong n xs) is apart) in
    omega arith
sizes_at a xs e es apart later (no n) =
    let passed : length (entries_by a (e ∷ es)) ≡ length (entries_by a es) =
    ap (λ (l : List Entry). length l) (by_passed a e es (λ is. n (sym is))) in
    let rest = later n in
    omega arith

among_rest : (a b : ℕ) (xs : List ℕ) → a ≢ b
    → ((k : ℕ) × (get_elem? (a ∷ xs) k ≡ some b)) → (k : ℕ) × (get_elem? xs k ≡ some b)
among_rest a b xs n (zero, at) = absurd (n (some-injective a b at))
among_rest a b xs n (suc k, at) = (k, at)

sizes_first : (xs : List ℕ) (e : Entry) (es : List Entry) → Distinct xs
    → ((k : ℕ) × (get_elem? xs k ≡ some e.by)) → sizes xs (e ∷ es) ≡ suc (sizes xs es)
sizes_first [] e es d there = absurd (some-ne-none e.by (sym there.1))
sizes_first (a ∷ xs) e es d there =
    sizes_at a xs e es d.0
    (λ n. sizes_first xs e es d.1 (among_rest a e.by xs n there)) (ℕ_discrete a e.by)

none_cons : (e : Entry) (es : List Entry) → e ∷ es ≡ [] → ⊥
none_cons e es is = let long = ap (λ (l : List Entry). length l) is in absurd (omega arith)

-- an entry behind which others stand is of one of so many actors, if strangers have none
by_below : (n : ℕ) (e : Entry) (es : List Entry)
    → ((a : ℕ) → n ≤ a → entries_by a (e ∷ es) ≡ []) → e.by < n
by_below n e es strangers = at (nat_lt e.by n) refl
  where
    at : (b : Bool) → nat_lt e.by n ≡ b → e.by < n
    at true is = grind (arith, nat_tests)
    at false is =
        let above : n ≤ e.by = grind (arith, nat_tests) in
        absurd (none_cons e (entries_by e.by es)
        (sym (by_first e.by e es refl) ∙ strangers e.by above))

strangers_later : (n a : ℕ) (e : Entry) (es : List Entry)
    → ((a : ℕ) → n ≤ a → entries_by a (e ∷ es) ≡ []) → n ≤ a → entries_by a es ≡ []
strangers_later n a e es strangers above =
    let less = by_below n e es strangers in
    sym (by_passed a e es (λ is. omega arith)) ∙ strangers a above

-- where each of so many actors is among these, and nobody else has entries, they count them all
pub sizes_all : (n : ℕ) (xs : List ℕ) (log : List Entry) → Distinct xs
    → ((a : ℕ) → a < n → (k : ℕ) × (get_elem? xs k ≡ some a))
    → ((a : ℕ) → n ≤ a → entries_by a log ≡ []) → sizes xs log ≡ length log
sizes_all n xs [] d all strangers = sizes_none xs
sizes_all n xs (e ∷ es) d all strangers =
    let first = sizes_first xs e es d (all e.by (by_below n e es strangers)) in
    let rest =
    sizes_all n xs es d all (λ a above. strangers_later n a e es strangers above) in
    omega arith
