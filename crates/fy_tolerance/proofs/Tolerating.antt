-- why a tolerance is right
use Rattle.std.proofs.Common.{◌≡◌, ℕ, ◌+◌, ◌-◌, ◌<◌, ◌≤◌, zero, suc, ◌⊎◌, inl, inr, Bool, true, false, not, ◌&&◌, ◌||◌, ◌==◌, cond, List, [], ◌∷◌, ◌++◌, get_or, length, map, take, drop, min, append_assoc, Some, refl, sym, ap, ap₂, subst, ◌∙◌, true≢false, arith}
use Rattle.std.specs.List.{AllZip}
use Rattle.std.specs.Prelude.{slice_get}
use Rattle.std.proofs.lemmas.Option.{get_or_from_slice_get, slice_get-get_or}
use Rattle.std.proofs.lemmas.List.{append-nil, drop-map}
use Rattle.std.proofs.Math.Seq.{drop-cons}
use Rattle.std.specs.Ordering.{nat_cmp, eq_by_cmp}
use Rattle.std.specs.FinSet as sets
use Rattle.std.specs.Cmp.{nat_cmp_total, unsigned_tied}
use Rattle.std.proofs.lemmas.Bool.Decides.{nat_tests}
use Rattle.std.proofs.lemmas.Bool.{cases_lt}
use Rattle.fy_locality.specs.declared.locality.Locality.{Locality}
use Rattle.fy_policy.specs.Counted.{number_of}
use Rattle.fy_policy.specs.Laws.{MoreOfMapSatisfies}
use Rattle.fy_policy.specs.Sat.{Sat}
use Rattle.fy_policy.specs.Tree.{Tree}
use Rattle.fy_policy.proofs.Toggling.{number-len}
use Rattle.fy_decide.specs.Safety.{with_set, without_set, MayDestroy}
use Rattle.fy_decide.specs.declared.dead_book.Loss.{Loss}
use Rattle.fy_decide.specs.declared.dead_book.Loss.TheVariants.{Emptied, Gone}
use Rattle.fy_decide.specs.DeadBook.{Losses, may_lose}
use Rattle.fy_tolerance.specs.Bears.{ToleratesAny, IsTooMany, IsTolerance, least_any, borne_pairs}
use Rattle.fy_tolerance.specs.declared.tolerance.Tolerance.{Tolerance}
use Rattle.fy_tolerance.proofs.Costing.{number-more, none-number}

-- ---- numbers that tie
pub tied_is : (q p : ℕ) → eq_by_cmp nat_cmp q p ≡ true → q ≡ p
tied_is q p e = same (sym (unsigned_tied q p) ∙ e)
  where
    same : (q == p) ≡ true → q ≡ p
    same f = grind (arith, nat_tests)

pub is_tied : (q p : ℕ) → q ≡ p → eq_by_cmp nat_cmp q p ≡ true
is_tied q p e = unsigned_tied q p ∙ same e
  where
    same : q ≡ p → (q == p) ≡ true
    same f = grind (arith, nat_tests)

pub untied : (q p : ℕ) → (q ≡ p → ⊥) → eq_by_cmp nat_cmp q p ≡ false
untied q p differ = go (eq_by_cmp nat_cmp q p) refl
  where
    go : (b : Bool) → eq_by_cmp nat_cmp q p ≡ b → b ≡ false
    go true e = absurd (differ (tied_is q p e))
    go false e = refl

-- ---- sets that may be lost
-- what may be lost may be lost with fewer
pub less : MoreOfMapSatisfies → (processes : List Locality) (policy : Tree) (d l s t : ℕ → Bool) (loss : Loss) → ((p : ℕ) → p < length processes → s p ≡ true → t p ≡ true) → MayDestroy processes (policy ∷ []) d l t loss → MayDestroy processes (policy ∷ []) d l s loss
less more processes policy d l s t loss within may = go loss may
  where
    either : (d s t : Bool) → (s ≡ true → t ≡ true) → (d || s) ≡ true → (d || t) ≡ true
    either true s t w h = refl
    either false s t w h = w h

    stays : (l s t : Bool) → (s ≡ true → t ≡ true) → (l && not t) ≡ true → (l && not s) ≡ true
    stays true true t w h = absurd (true≢false (sym h ∙ ap not (w refl)))
    stays true false t w h = refl
    stays false s t w h = h

    short : (Sat processes policy (with_set d t) → ⊥) → Sat processes policy (with_set d s) → ⊥
    short never sat = never (more processes policy (with_set d s) (with_set d t) (λ p below h. either (d p) (s p) (t p) (within p below) h) sat)

    go : (loss : Loss) → MayDestroy processes (policy ∷ []) d l t loss → MayDestroy processes (policy ∷ []) d l s loss
    go Emptied may = (short may.0, tt)
    go Gone may = ((short may.0.0, tt), (more processes policy (without_set l t) (without_set l s) (λ p below h. stays (l p) (s p) (t p) (within p below) h) may.1.0, tt))

-- nobody may be lost
pub nobody : MoreOfMapSatisfies → (processes : List Locality) (policy : Tree) (d l s : ℕ → Bool) (loss : Loss) → (Sat processes policy d → ⊥) → Sat processes policy l → ((p : ℕ) → s p ≡ false) → MayDestroy processes (policy ∷ []) d l s loss
nobody more processes policy d l s loss short met none = go loss
  where
    either : (d s : Bool) → s ≡ false → (d || s) ≡ true → d ≡ true
    either true s e h = refl
    either false s e h = absurd (true≢false (sym h ∙ e))

    stays : (l s : Bool) → s ≡ false → l ≡ true → (l && not s) ≡ true
    stays l s e h = ap (λ b. b && not s) h ∙ ap not e

    not_sat : Sat processes policy (with_set d s) → ⊥
    not_sat sat = short (more processes policy (with_set d s) d (λ p below h. either (d p) (s p) (none p) h) sat)

    go : (loss : Loss) → MayDestroy processes (policy ∷ []) d l s loss
    go Emptied = (not_sat, tt)
    go Gone = ((not_sat, tt), (more processes policy l (without_set l s) (λ p below h. stays (l p) (s p) (none p) h) met, tt))

-- of a set with one member at most, below a bound: nobody, or one alone
pub one_at_most : (s : ℕ → Bool) (n : ℕ) → number_of s n ≤ 1 → ((p : ℕ) → p < n → s p ≡ false) ⊎ ((p : ℕ) × (p < n) × ((q : ℕ) → q < n → s q ≡ true → q ≡ p))
one_at_most s zero few = inl (λ p h. absurd (omega arith))
one_at_most s (suc n) few = go (one_at_most s n) (s n) refl
  where
    go : (number_of s n ≤ 1 → ((p : ℕ) → p < n → s p ≡ false) ⊎ ((p : ℕ) × (p < n) × ((q : ℕ) → q < n → s q ≡ true → q ≡ p))) → (b : Bool) → s n ≡ b → ((p : ℕ) → p < suc n → s p ≡ false) ⊎ ((p : ℕ) × (p < suc n) × ((q : ℕ) → q < suc n → s q ≡ true → q ≡ p))
    go below_n true is =
        let none : number_of s n ≡ 0 = (let shown : cond true 1 0 + number_of s n ≤ 1 = subst (λ b. cond b 1 0 + number_of s n ≤ 1) is few in omega arith) in
        inr (
          n,
          omega arith,
          λ q below h. elim (cases_lt q n) [
            | inl lower ↦ absurd (true≢false (sym h ∙ none-number s n q none lower))
            | inr upper ↦ omega arith
          ],
        )
    go below_n false is =
        let rest : number_of s n ≤ 1 = (let shown : cond false 1 0 + number_of s n ≤ 1 = subst (λ b. cond b 1 0 + number_of s n ≤ 1) is few in omega arith) in
        elim (below_n rest) [
          | inl none ↦ inl (λ p below. elim (cases_lt p n) [
            | inl lower ↦ none p lower
            | inr upper ↦ (let same : p ≡ n = omega arith in ap s same ∙ is)
          ])
          | inr one ↦ inr (
            one.0,
            (let below : one.0 < n = one.1 in omega arith),
            λ q below h. elim (cases_lt q n) [
              | inl lower ↦ one.2 q lower h
              | inr upper ↦ (let same : q ≡ n = omega arith in absurd (true≢false (sym h ∙ ap s same ∙ is)))
            ],
          )
        ]

pub is_in_one : (p q : ℕ) → sets.contains (sets.insert (sets.empty {R = nat_cmp}) p) q ≡ true → q ≡ p
is_in_one p q h = either (eq_by_cmp nat_cmp q p) (sets.contains (sets.empty {R = nat_cmp}) q) (sets.contains-empty nat_cmp q) (sym (sets.contains-insert nat_cmp_total (sets.empty {R = nat_cmp}) p q) ∙ h) refl
  where
    either : (a b : Bool) → b ≡ false → (a || b) ≡ true → eq_by_cmp nat_cmp q p ≡ a → q ≡ p
    either true b e f is = tied_is q p is
    either false b e f is = absurd (true≢false (sym f ∙ e))

pub in_one : (p : ℕ) → sets.contains (sets.insert (sets.empty {R = nat_cmp}) p) p ≡ true
in_one p = sets.contains-insert nat_cmp_total (sets.empty {R = nat_cmp}) p p ∙ ap (λ b. b || sets.contains (sets.empty {R = nat_cmp}) p) (is_tied p p refl)

pub len_one : (p : ℕ) → sets.len (sets.insert (sets.empty {R = nat_cmp}) p) ≡ 1
len_one p =
    sets.len-insert nat_cmp_total (sets.empty {R = nat_cmp}) p
    ∙ ap (λ b. cond b (sets.len (sets.empty {R = nat_cmp})) (sets.len (sets.empty {R = nat_cmp}) + 1)) (sets.contains-empty nat_cmp p)
    ∙ ap (λ n. n + 1) (sets.len-empty nat_cmp)

-- where each one may be lost alone, so may any one
pub any_one : MoreOfMapSatisfies → (processes : List Locality) (policy : Tree) (d l : ℕ → Bool) (loss : Loss) → (Sat processes policy d → ⊥) → Sat processes policy l
    → ((p : ℕ) → p < length processes → MayDestroy processes (policy ∷ []) d l (sets.contains (sets.insert (sets.empty {R = nat_cmp}) p)) loss)
    → (s : ℕ → Bool) → number_of s (length processes) ≤ 1 → MayDestroy processes (policy ∷ []) d l s loss
any_one more processes policy d l loss short met each s few =
    elim (one_at_most s (length processes) few) [
      | inl none ↦ less more processes policy d l s (λ p. false) loss (λ p below h. absurd (true≢false (sym h ∙ none p below))) (nobody more processes policy d l (λ p. false) loss short met (λ p. refl))
      | inr one ↦ less more processes policy d l s (sets.contains (sets.insert (sets.empty {R = nat_cmp}) one.0)) loss (λ q below h. ap (sets.contains (sets.insert (sets.empty {R = nat_cmp}) one.0)) (one.2 q below h) ∙ in_one one.0) (each one.0 one.1)
    ]

-- a set has no fewer members than there are below a bound
pub number_in_set : (s : sets.FinSet nat_cmp) (n : ℕ) → number_of (sets.contains s) n ≤ sets.len s
number_in_set s zero = omega arith
number_in_set s (suc n) = go (number_in_set s n) (number_in_set (sets.remove s n) n) (sets.contains s n) refl
  where
    go : number_of (sets.contains s) n ≤ sets.len s → number_of (sets.contains (sets.remove s n)) n ≤ sets.len (sets.remove s n) → (b : Bool) → sets.contains s n ≡ b → cond (sets.contains s n) 1 0 + number_of (sets.contains s) n ≤ sets.len s
    go rest fewer_rest false is = rw is (omega arith)
    go rest fewer_rest true is =
        let same : number_of (sets.contains s) n ≤ number_of (sets.contains (sets.remove s n)) n = number-more _ _ n (λ q below h. others q below h) in
        let fewer : sets.len (sets.remove s n) ≡ sets.len s - 1 = sets.len-remove nat_cmp_total s n ∙ ap (λ b. cond b (sets.len s - 1) (sets.len s)) is in
        let some : 1 ≤ sets.len s = not_zero (sets.len s) refl in
        rw is (omega arith)
      where
        others : (q : ℕ) → q < n → sets.contains s q ≡ true → sets.contains (sets.remove s n) q ≡ true
        others q below h = sets.contains-remove nat_cmp_total s n q ∙ ap₂ (λ a b. not a && b) (untied q n (λ same. (let lower : n < n = subst (λ k. k < n) same below in omega arith))) h

        not_zero : (k : ℕ) → sets.len s ≡ k → 1 ≤ k
        not_zero zero e = absurd (true≢false (sym is ∙ ap (λ (t : sets.FinSet nat_cmp). sets.contains t n) (sets.empty_of_len s e) ∙ sets.contains-empty nat_cmp n))
        not_zero (suc k) e = omega arith

-- where one more than any so many is too many, no greater number is borne
pub exact_is_greatest : (dead : Losses) (policy : Tree) (loss : Loss) (any : ℕ) (set : sets.FinSet nat_cmp) → IsTooMany dead policy loss (sets.contains set) → sets.len set ≡ any + 1 → (count : ℕ) → ToleratesAny dead policy loss count → count ≤ any
exact_is_greatest dead policy loss any set never exact count borne =
    elim (cases_lt any count) [
      | inl over ↦ absurd (never (borne (sets.contains set) (let few : number_of (sets.contains set) (length dead.processes) ≤ sets.len set = number_in_set set (length dead.processes) in omega arith)))
      | inr within ↦ within
    ]

-- a fact of one case holds of an equal one
pub carried : (X : List Locality → Tree → sets.FinSet nat_cmp → sets.FinSet nat_cmp → Type 0) (ps ps' : List Locality) (q q' : Tree) (d d' l l' : sets.FinSet nat_cmp) → ps ≡ ps' → q ≡ q' → d ≡ d' → l ≡ l' → X ps q d l → X ps' q' d' l'
carried X ps ps' q q' d d' l l' a b e f x =
    subst (λ (v : sets.FinSet nat_cmp). X ps' q' d' v) f (subst (λ (v : sets.FinSet nat_cmp). X ps' q' v l) e (subst (λ (v : Tree). X ps' v d l) b (subst (λ (v : List Locality). X v q d l) a x)))

-- a proper part of a set is within the set without a member
pub parts_of : MoreOfMapSatisfies → (processes : List Locality) (policy : Tree) (d l : ℕ → Bool) (set : sets.FinSet nat_cmp) (loss : Loss)
    → ((p : ℕ) → sets.contains set p ≡ true → MayDestroy processes (policy ∷ []) d l (sets.contains (sets.remove set p)) loss)
    → (part : ℕ → Bool) (p : ℕ) → ((q : ℕ) → part q ≡ true → sets.contains set q ≡ true) → sets.contains set p ≡ true → part p ≡ false → MayDestroy processes (policy ∷ []) d l part loss
parts_of more processes policy d l set loss each part p within is lacks =
    less more processes policy d l part (sets.contains (sets.remove set p)) loss (λ q below h. stays q h (within q h)) (each p is)
  where
    stays : (q : ℕ) → part q ≡ true → sets.contains set q ≡ true → sets.contains (sets.remove set p) q ≡ true
    stays q h g = sets.contains-remove nat_cmp_total set p q ∙ ap₂ (λ a b. not a && b) (untied q p (λ same. true≢false (sym h ∙ ap part same ∙ lacks))) g

-- ---- all policies at once
pub together : (processes : List Locality) (policy : Tree) (policies : List Tree) (d l s : ℕ → Bool) (loss : Loss) → MayDestroy processes (policy ∷ []) d l s loss → MayDestroy processes policies d l s loss → MayDestroy processes (policy ∷ policies) d l s loss
together processes policy policies d l s Emptied one rest = (one.0, rest)
together processes policy policies d l s Gone one rest = ((one.0.0, rest.0), (one.1.0, rest.1))

none_lost : (processes : List Locality) (d l s : ℕ → Bool) (loss : Loss) → MayDestroy processes [] d l s loss
none_lost processes d l s Emptied = tt
none_lost processes d l s Gone = (tt, tt)

pub least_within : (most : ℕ) (found : List Tolerance) → least_any most found ≤ most
least_within most [] = omega arith
least_within most (one ∷ found) = let rest : least_any (min most one.any) found ≤ min most one.any = least_within (min most one.any) found in omega arith

pub all_bear : (dead : Losses) (loss : Loss) (s : ℕ → Bool) (policies : List Tree) (found : List Tolerance) (most : ℕ) → AllZip (λ policy one. IsTolerance dead policy loss one) policies found → number_of s (length dead.processes) ≤ least_any most found
    → MayDestroy dead.processes policies (sets.contains dead.destroyed) (sets.contains dead.left) s loss
all_bear dead loss s [] [] most all few = none_lost dead.processes (sets.contains dead.destroyed) (sets.contains dead.left) s loss
all_bear dead loss s [] (one ∷ found) most all few = absurd all
all_bear dead loss s (policy ∷ policies) [] most all few = absurd all
all_bear dead loss s (policy ∷ policies) (one ∷ found) most all few =
    let within : least_any (min most one.any) found ≤ min most one.any = least_within (min most one.any) found in
    together dead.processes policy policies (sets.contains dead.destroyed) (sets.contains dead.left) s loss
    (all.0.any s (let small : number_of s (length dead.processes) ≤ least_any (min most one.any) found = few in omega arith))
    (all_bear dead loss s policies found (min most one.any) all.1 few)

-- a policy at a place of a list is the one that was read there
pub read_at : (ps qs : List Tree) (i : ℕ) (policy found : Tree) → found ≡ get_or ps i found → ps ≡ qs → slice_get qs i ≡ Some policy → found ≡ policy
read_at ps qs i policy found is same at = is ∙ ap (λ xs. get_or xs i found) same ∙ get_or_from_slice_get qs i policy found at

-- a policy that was read at a place stands there
pub stands_at : (ps qs : List Tree) (i : ℕ) (found : Tree) → found ≡ get_or ps i found → ps ≡ qs → i < length ps → slice_get qs i ≡ Some found
stands_at ps qs i found is same below = ap (λ xs. slice_get xs i) (sym same) ∙ slice_get-get_or ps i found below ∙ ap Some (sym is)

-- one more of a list of policies, with its tolerance
pub zips_on : {B : Type 0} (R : Tree → B → Type 0) (policies : List Tree) (i : ℕ) (found more : List B) (one : B) → i < length policies → AllZip R (take i policies) found → more ≡ found ++ one ∷ [] → ((policy : Tree) → slice_get policies i ≡ Some policy → R policy one) → AllZip R (take (suc i) policies) more
zips_on R [] i found more one below all push each = absurd (omega arith)
zips_on R (policy ∷ policies) zero [] more one below all push each = subst (λ xs. AllZip R (policy ∷ []) xs) (sym push) (each policy refl, tt)
zips_on R (policy ∷ policies) zero (z ∷ found) more one below all push each = absurd all
zips_on R (policy ∷ policies) (suc i) [] more one below all push each = absurd all
zips_on R (policy ∷ policies) (suc i) (z ∷ found) more one below all push each =
    subst (λ xs. AllZip R (policy ∷ take (suc i) policies) xs) (sym push)
    (all.0, zips_on R policies i found (found ++ one ∷ []) one (omega arith) all.1 refl each)

-- one more of a list, mapped, before those that are to come
pub maps_on : {A B : Type 0} (f : A → B) (xs : List A) (j : ℕ) (x : A) (found more : List B) (y : B) (whole : List B) → j < length xs → x ≡ get_or xs j x → more ≡ found ++ y ∷ [] → y ≡ f x → found ++ map f (drop j xs) ≡ whole → more ++ map f (drop (j + 1) xs) ≡ whole
maps_on f xs j x found more y whole below at push is before =
    let next : j + 1 ≡ suc j = omega arith in
    ap₂ (λ a n. a ++ map f (drop n xs)) push next
    ∙ append_assoc found (y ∷ []) (map f (drop (suc j) xs))
    ∙ ap (λ z. found ++ (z ∷ map f (drop (suc j) xs))) (is ∙ ap f at)
    ∙ ap (λ zs. found ++ map f zs) (sym (drop-cons xs j x below))
    ∙ before

-- where none are to come, that is all
pub maps_end : {A B : Type 0} (f : A → B) (xs : List A) (j : ℕ) (found whole : List B) → length xs ≤ j → found ++ map f (drop j xs) ≡ whole → found ≡ whole
maps_end f xs j found whole past is = sym (append-nil found) ∙ ap (λ zs. found ++ map f zs) (sym (none_behind xs j past)) ∙ is
  where
    none_behind : {A : Type 0} (xs : List A) (j : ℕ) → length xs ≤ j → drop j xs ≡ []
    none_behind [] zero past = refl
    none_behind [] (suc j) past = refl
    none_behind (x ∷ xs) zero past = absurd (omega arith)
    none_behind (x ∷ xs) (suc j) past = none_behind xs j (omega arith)

-- the row of one set more
pub pairs_on : (dead : Losses) (loss : Loss) (sets' : List (sets.FinSet nat_cmp)) (i : ℕ) (rows more : List (List Bool)) (row : List Bool) (one : sets.FinSet nat_cmp) (whole : List (List Bool)) → i < length sets' → slice_get sets' i ≡ Some one → more ≡ rows ++ row ∷ []
    → row ≡ map (λ other. may_lose dead (with_set (sets.contains one) (sets.contains other)) loss) (drop (suc i) sets')
    → rows ++ borne_pairs dead loss (drop i (map (λ set. sets.contains set) sets')) ≡ whole
    → more ++ borne_pairs dead loss (drop (suc i) (map (λ set. sets.contains set) sets')) ≡ whole
pairs_on dead loss sets' i rows more row one whole below at push is before =
    let c : sets.FinSet nat_cmp → ℕ → Bool = (λ set. sets.contains set) in
    let here : drop i (map c sets') ≡ c one ∷ map c (drop (suc i) sets') =
    drop-map c i sets' ∙ ap (map c) (drop-cons sets' i one below ∙ ap (λ x. x ∷ drop (suc i) sets') (get_or_from_slice_get sets' i one one at)) in
    let behind : drop (suc i) (map c sets') ≡ map c (drop (suc i) sets') = drop-map c (suc i) sets' in
    let said : row ≡ map (λ second. may_lose dead (with_set (c one) second) loss) (map c (drop (suc i) sets')) = is ∙ sym (map_of_map (λ second. may_lose dead (with_set (c one) second) loss) c (drop (suc i) sets')) in
    ap₂ (λ a b. a ++ borne_pairs dead loss b) push behind
    ∙ append_assoc rows (row ∷ []) (borne_pairs dead loss (map c (drop (suc i) sets')))
    ∙ ap (λ r. rows ++ (r ∷ borne_pairs dead loss (map c (drop (suc i) sets')))) said
    ∙ ap (λ b. rows ++ borne_pairs dead loss b) (sym here)
    ∙ before
  where
    map_of_map : {A B C : Type 0} (f : B → C) (g : A → B) (xs : List A) → map f (map g xs) ≡ map (λ x. f (g x)) xs
    map_of_map f g [] = refl
    map_of_map f g (x ∷ xs) = ap (λ ys. f (g x) ∷ ys) (map_of_map f g xs)

-- ---- the least set
-- each member that matters is a process of the map
pub of_map : MoreOfMapSatisfies → (processes : List Locality) (policy : Tree) (d l : ℕ → Bool) (set : sets.FinSet nat_cmp) (loss : Loss)
    → (MayDestroy processes (policy ∷ []) d l (sets.contains set) loss → ⊥)
    → ((p : ℕ) → sets.contains set p ≡ true → MayDestroy processes (policy ∷ []) d l (sets.contains (sets.remove set p)) loss)
    → (p : ℕ) → sets.contains set p ≡ true → p < length processes
of_map more processes policy d l set loss never each p is = elim (cases_lt p (length processes)) [
  | inl below ↦ below
  | inr past ↦ absurd (never (less more processes policy d l (sets.contains set) (sets.contains (sets.remove set p)) loss
      (λ q below h. sets.contains-remove nat_cmp_total set p q ∙ ap₂ (λ a b. not a && b) (untied q p (λ same. (let under : q < length processes = below in omega arith))) h)
      (each p is)))
]

-- a set within one of no more than it takes, that is itself too many, has just so many
pub just_so_many : MoreOfMapSatisfies → (processes : List Locality) (policy : Tree) (d l : ℕ → Bool) (set given : sets.FinSet nat_cmp) (least : ℕ) (loss : Loss)
    → (MayDestroy processes (policy ∷ []) d l (sets.contains set) loss → ⊥)
    → ((p : ℕ) → sets.contains set p ≡ true → MayDestroy processes (policy ∷ []) d l (sets.contains (sets.remove set p)) loss)
    → ((p : ℕ) → sets.contains set p ≡ true → sets.contains given p ≡ true)
    → number_of (sets.contains given) (length processes) ≤ least
    → ((s : ℕ → Bool) → number_of s (length processes) ≤ least - 1 → MayDestroy processes (policy ∷ []) d l s loss)
    → sets.len set ≡ least - 1 + 1
just_so_many more processes policy d l set given least loss never each within few any =
    let here : number_of (sets.contains set) (length processes) ≡ sets.len set = number-len set (length processes) (of_map more processes policy d l set loss never each) in
    let small : number_of (sets.contains set) (length processes) ≤ number_of (sets.contains given) (length processes) = number-more (sets.contains set) (sets.contains given) (length processes) (λ q below h. within q h) in
    elim (cases_lt (least - 1) (number_of (sets.contains set) (length processes))) [
      | inl over ↦ omega arith
      | inr under ↦ absurd (never (any (sets.contains set) under))
    ]
