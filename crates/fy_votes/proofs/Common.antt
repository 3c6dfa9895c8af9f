-- how many processes two groups have in common, and a set that is all that they have
use Rattle.std.proofs.Common.{◌≡◌, ◌≢◌, ℕ, ◌+◌, ◌-◌, ◌<◌, ◌≤◌, inl, inr, Bool, true, false, cond, eqb, not, ◌&&◌, ◌||◌, min, Option, Some, None, List, length, refl, sym, ap, subst, ◌∙◌, arith}
use Rattle.std.specs.Prelude.{IfSome, IfNone, nat_lt}
use Rattle.std.specs.Ordering.{nat_cmp}
use Rattle.std.specs.FinSet as sets
use Rattle.std.proofs.lemmas.Bool.{false≢true, cases_lt}
use Rattle.std.proofs.lemmas.Bool.Decides.{nat_tests}
use Rattle.fy_locality.specs.declared.locality.Locality.{Locality}
use Rattle.fy_locality.specs.Locality.{NamesDiffer}
use Rattle.fy_policy.specs.Counted.{number_of}
use Rattle.fy_policy.specs.Laws.{AQuorumIsLeft, MoreOfMapSatisfies, TestIsSatisfaction}
use Rattle.fy_policy.specs.Sat.{Sat}
use Rattle.fy_policy.specs.Tree.{Tree}
use Rattle.fy_policy.proofs.Tallied.{number-le, number-none, number-toggled}
use Rattle.fy_policy.proofs.Toggling.{number-len}
use Rattle.fy_decide.specs.Safety.{with_set, without_set}
use Rattle.fy_decide.specs.DeadBook.{Losses}
use Rattle.fy_tolerance.specs.declared.tolerance.Tolerance.{Tolerance}
use Rattle.fy_tolerance.proofs.Costing.{number-more, number-split}
use Rattle.fy_tolerance.proofs.Tolerating.{number_in_set}
use Rattle.fy_votes.specs.Counting.{any_of}
use Rattle.fy_votes.specs.Forgetting.{FewerMayForget, IsForgetting, Takes}
use Rattle.fy_votes.specs.Votes.{MayForget}
use Rattle.fy_votes.specs.declared.forgetting.Forgetting.{Forgetting}
use Rattle.fy_votes.proofs.ByCount.{it_is_out, others_stay, so_many_satisfy, without, without_is}
use Rattle.fy_votes.proofs.Electing.{search_below}
use Rattle.fy_votes.proofs.Numbers.{all_told, meet_by_number}

-- a set and those of another that it hasn't
pub number-with : (s t : ℕ → Bool) (n : ℕ) → number_of (with_set s t) n ≡ number_of s n + number_of (without_set t s) n
number-with s t n = number-split (with_set s t) s (without_set t s) n (λ q. apart (s q) (t q))
  where
    apart : (a b : Bool) → cond (a || b) 1 0 ≡ cond a 1 0 + cond (b && not a) 1 0
    apart true true = refl
    apart true false = refl
    apart false true = refl
    apart false false = refl

either : (a b : Bool) → a ≡ true → (a || (b && not a)) ≡ true
either true b e = refl
either false b e = absurd (false≢true e)

-- whoever satisfies a policy has more processes outside a set than it takes beside it
more_outside : MoreOfMapSatisfies → (processes : List Locality) (policy : Tree) (beside s : ℕ → Bool) (found : Tolerance) → Takes processes policy beside found → Sat processes policy s → found.any + 1 ≤ number_of (without_set s beside) (length processes)
more_outside more processes policy beside s found takes sat = elim (cases_lt found.any (number_of (without_set s beside) (length processes))) [
  | inl over ↦ omega arith
  | inr few ↦ absurd (takes.any (without_set s beside) few (more processes policy s (with_set beside (without_set s beside)) (λ p below h. inside (beside p) (s p) h) sat))
]
  where
    inside : (b s : Bool) → s ≡ true → (b || (s && not b)) ≡ true
    inside true s h = refl
    inside false true h = refl
    inside false false h = absurd (false≢true h)

module _ (more : MoreOfMapSatisfies) (dead : Losses) (writes elections : Tree) (written : Tolerance) where
  abbrev pub count : ℕ
  count = length dead.processes

  abbrev pub destroyed : ℕ → Bool
  destroyed = sets.contains dead.destroyed

  module _ (takes_w : Takes dead.processes writes destroyed written) where
    -- ---- any fewer may forget
    module _ (voted : Tolerance) (takes_e : Takes dead.processes elections destroyed voted) where
      pub in_common : (fewest : ℕ) → fewest ≤ number_of destroyed count + (written.any + 1) + (voted.any + 1) - count → FewerMayForget dead writes elections fewest
      in_common fewest within s few writers voters wrote voted_for =
          let more_w : written.any + 1 ≤ number_of (without_set writers destroyed) count = more_outside more dead.processes writes destroyed writers written takes_w wrote in
          let more_e : voted.any + 1 ≤ number_of (without_set voters destroyed) count = more_outside more dead.processes elections destroyed voters voted takes_e voted_for in
          let with_w : number_of (with_set destroyed writers) count ≡ number_of destroyed count + number_of (without_set writers destroyed) count = number-with destroyed writers count in
          let met = meet_by_number dead.processes (with_set destroyed writers) (without_set voters destroyed) s (omega arith) in
          let is = outside (destroyed met.process) (writers met.process) (voters met.process) (s met.process) met.wrote met.votes met.remembers in
          record { process = met.process; there = met.there; wrote = is.0; votes = is.1; remembers = is.2 }
        where
          outside : (d w v s : Bool) → (d || w) ≡ true → (v && not d) ≡ true → s ≡ false → (w ≡ true) × (v ≡ true) × ((d || s) ≡ false)
          outside true w true s a b c = absurd (false≢true b)
          outside true w false s a b c = absurd (false≢true b)
          outside false true true s a b c = (refl, refl, c)
          outside false true false s a b c = absurd (false≢true b)
          outside false false v s a b c = absurd (false≢true a)

    -- ---- those named may not
    abbrev pub IsAllBut : sets.FinSet nat_cmp → Type 0
    IsAllBut others = (p : ℕ) → sets.contains others p ≡ ((nat_lt p count && not (sets.contains written.too_many p)) || destroyed p)

    abbrev pub IsNeeded : (others set : sets.FinSet nat_cmp) → Tolerance → Type 0
    IsNeeded others set found = (p : ℕ) → sets.contains set p ≡ ((nat_lt p count && not (sets.contains others p)) && sets.contains found.too_many p)

    -- the processes in a common group, by what is known of one
    nobody : (l w d o t s : Bool) → l ≡ true → o ≡ ((l && not w) || d) → s ≡ ((l && not o) && t) → (d || w) ≡ true → (o || t) ≡ true → (d || s) ≡ false → ⊥
    nobody l w true o t s a b c e f g = false≢true (sym g)
    nobody true true false true t s a b c e f g = false≢true (sym b)
    nobody true true false false true s a b c e f g = false≢true (sym g ∙ c)
    nobody true true false false false s a b c e f g = false≢true f
    nobody true false false o t s a b c e f g = false≢true e
    nobody false w false o t s a b c e f g = false≢true a

    is_below : (p n : ℕ) → p < n → nat_lt p n ≡ true
    is_below p n h = grind (arith, nat_tests)

    pub needed_is_too_many : (others set : sets.FinSet nat_cmp) (found : Tolerance) → IsAllBut others → Takes dead.processes elections (sets.contains others) found → IsNeeded others set found
        → MayForget dead.processes writes elections (with_set destroyed (sets.contains set)) → ⊥
    needed_is_too_many others set found all_but takes needed may =
        let met = may (with_set destroyed (sets.contains written.too_many)) (with_set (sets.contains others) (sets.contains found.too_many)) takes_w.enough takes.enough in
        let p : ℕ = met.process in
        nobody (nat_lt p count) (sets.contains written.too_many p) (destroyed p) (sets.contains others p) (sets.contains found.too_many p) (sets.contains set p) (is_below p count met.there) (all_but p) (needed p) met.wrote met.votes met.remembers

    pub none_is_too_many : (others set : sets.FinSet nat_cmp) → IsAllBut others → Sat dead.processes elections (sets.contains others) → set ≡ sets.empty
        → MayForget dead.processes writes elections (with_set destroyed (sets.contains set)) → ⊥
    none_is_too_many others set all_but sat none may =
        let met = may (with_set destroyed (sets.contains written.too_many)) (sets.contains others) takes_w.enough sat in
        let p : ℕ = met.process in
        let lacks : sets.contains set p ≡ false = ap (λ (t : sets.FinSet nat_cmp). sets.contains t p) none ∙ sets.contains-empty nat_cmp p in
        nobody (nat_lt p count) (sets.contains written.too_many p) (destroyed p) (sets.contains others p) false (sets.contains set p) (is_below p count met.there) (all_but p) (lacks ∙ never (nat_lt p count && not (sets.contains others p))) met.wrote (also (sets.contains others p) met.votes) met.remembers
      where
        never : (b : Bool) → false ≡ (b && false)
        never true = refl
        never false = refl

        also : (b : Bool) → b ≡ true → (b || false) ≡ true
        also true e = refl
        also false e = absurd (false≢true e)

    pub destroyed_are_too_many : (set : sets.FinSet nat_cmp) → Sat dead.processes elections destroyed → set ≡ sets.empty
        → MayForget dead.processes writes elections (with_set destroyed (sets.contains set)) → ⊥
    destroyed_are_too_many set sat none may =
        let met = may (with_set destroyed (sets.contains written.too_many)) destroyed takes_w.enough sat in
        gone (destroyed met.process) (sets.contains set met.process) met.votes met.remembers
      where
        gone : (d s : Bool) → d ≡ true → (d || s) ≡ false → ⊥
        gone true s a b = false≢true (sym b)
        gone false s a b = false≢true a

  -- ---- what a set that may not forget says of numbers
  module _ (set : sets.FinSet nat_cmp) (too_many : MayForget dead.processes writes elections (with_set destroyed (sets.contains set)) → ⊥) where
    -- no more may forget than it has, whoever they are
    pub no_greater : (n : ℕ) → FewerMayForget dead writes elections n → n ≤ sets.len set
    no_greater n may = elim (cases_lt (sets.len set) n) [
      | inl over ↦ absurd (too_many (may (sets.contains set) (let few : number_of (sets.contains set) count ≤ sets.len set = number_in_set set count in omega arith)))
      | inr within ↦ within
    ]

-- ---- where both policies count processes, the set has no more than two groups have in common
module _ (quorum : AQuorumIsLeft) (tested : TestIsSatisfaction) (more : MoreOfMapSatisfies) (dead : Losses) (writes elections : Tree) (written voted found : Tolerance) (differ : NamesDiffer dead.processes)
    (takes_w : Takes dead.processes writes (destroyed more dead writes elections written) written) (takes_e : Takes dead.processes elections (destroyed more dead writes elections written) voted)
    (others set : sets.FinSet nat_cmp) (all_but : IsAllBut more dead writes elections written takes_w others) (takes : Takes dead.processes elections (sets.contains others) found) (needed : IsNeeded more dead writes elections written takes_w others set found) where
  abbrev n : ℕ
  n = length dead.processes

  abbrev gone : ℕ → Bool
  gone = sets.contains dead.destroyed

  parts : (l o t : Bool) → ((l && not o) && t) ≡ true → (l ≡ true) × (o ≡ false) × (t ≡ true)
  parts true false true e = (refl, refl, refl)
  parts true true t e = absurd (false≢true e)
  parts true false false e = absurd (false≢true e)
  parts false o t e = absurd (false≢true e)

  pub is_needed : (q : ℕ) → sets.contains set q ≡ true → (nat_lt q n ≡ true) × (sets.contains others q ≡ false) × (sets.contains found.too_many q ≡ true)
  is_needed q is = parts (nat_lt q n) (sets.contains others q) (sets.contains found.too_many q) (sym (needed q) ∙ is)

  others_many : n ≤ number_of (sets.contains others) n + sets.len written.too_many
  others_many =
      let all : number_of (sets.contains others) n + number_of (λ p. not (sets.contains others p)) n ≡ n = all_told (sets.contains others) n in
      let written_are : number_of (λ p. not (sets.contains others p)) n ≤ number_of (sets.contains written.too_many) n = number-more _ _ n (λ q below h. wrote q below h) in
      let few : number_of (sets.contains written.too_many) n ≤ sets.len written.too_many = number_in_set written.too_many n in
      omega arith
    where
      is_below : (p m : ℕ) → p < m → nat_lt p m ≡ true
      is_below p m h = grind (arith, nat_tests)

      without_it : (l w d o : Bool) → l ≡ true → o ≡ ((l && not w) || d) → not o ≡ true → w ≡ true
      without_it true true d o a b c = refl
      without_it true false d o a b c = absurd (false≢true (sym (ap not b) ∙ c))
      without_it false w d o a b c = absurd (false≢true a)

      wrote : (q : ℕ) → q < n → not (sets.contains others q) ≡ true → sets.contains written.too_many q ≡ true
      wrote q below h = without_it (nat_lt q n) (sets.contains written.too_many q) (gone q) (sets.contains others q) (is_below q n below) (all_but q) h

  module _ (w e : ℕ) (writes_is : writes ≡ any_of w) (elections_is : elections ≡ any_of e) where
    no_more_than : number_of (sets.contains set) n ≤ number_of gone n + (written.any + 1) + (voted.any + 1) - n
    no_more_than = elim (search_below (sets.contains set) n) [
      | inl one ↦
          let p : ℕ = one.0 in
          let is = is_needed p one.2 in
          let part : ℕ → Bool = without (sets.contains found.too_many) p in
          let rest : ℕ → Bool = without (sets.contains set) p in
          let few : number_of (with_set (sets.contains others) part) n < e = short part (takes.least part p (within (sets.contains found.too_many) p) is.2 (it_is_out (sets.contains found.too_many) p)) in
          let more_part : number_of (with_set (sets.contains others) rest) n ≤ number_of (with_set (sets.contains others) part) n = number-more _ _ n (λ q below h. also (sets.contains others q) _ _ (λ r. rest_in p q r) h) in
          let split : number_of (with_set (sets.contains others) rest) n ≡ number_of (sets.contains others) n + number_of (without_set rest (sets.contains others)) n = number-with (sets.contains others) rest n in
          let apart : number_of rest n ≤ number_of (without_set rest (sets.contains others)) n = number-more _ _ n (λ q below h. outside rest q h (is_needed q (within (sets.contains set) p q h)).1) in
          let toggled : number_of rest n + cond (sets.contains set p) 1 0 ≡ number_of (sets.contains set) n + cond (rest p) 1 0 = number-toggled (sets.contains set) rest n p one.1 (λ q other. others_stay (sets.contains set) p q other) in
          let many : n ≤ number_of (sets.contains others) n + sets.len written.too_many = others_many in
          let exact : sets.len written.too_many ≡ written.any + 1 = (takes_w.counted w writes_is).1 in
          let counted : e ≤ number_of gone n + voted.any + 1 = (takes_e.counted e elections_is).0 in
          sums _ _ _ _ _ _ _ _ _ _ _ _ few more_part split apart toggled (ap (λ b. cond b 1 0) one.2) (ap (λ b. cond b 1 0) (it_is_out (sets.contains set) p)) many exact counted
      | inr none ↦ (let nobody : number_of (sets.contains set) n ≡ 0 = number-none (sets.contains set) n none in omega arith)
    ]
      where
        within : (s : ℕ → Bool) (p q : ℕ) → without s p q ≡ true → s q ≡ true
        within s p q h = first (s q) _ (sym (without_is s p q) ∙ h)
          where
            first : (a b : Bool) → (a && b) ≡ true → a ≡ true
            first true b e = refl
            first false b e = e

        rest_in : (p q : ℕ) → without (sets.contains set) p q ≡ true → without (sets.contains found.too_many) p q ≡ true
        rest_in p q h = without_is (sets.contains found.too_many) p q ∙ both (sets.contains set q) (sets.contains found.too_many q) (eqb q p) (λ is. (is_needed q is).2) (sym (without_is (sets.contains set) p q) ∙ h)
          where
            both : (s t u : Bool) → (s ≡ true → t ≡ true) → (s && not u) ≡ true → (t && not u) ≡ true
            both true t u a b = ap (λ x. x && not u) (a refl) ∙ b
            both false t u a b = absurd (false≢true b)

        also : (o r t : Bool) → (r ≡ true → t ≡ true) → (o || r) ≡ true → (o || t) ≡ true
        also true r t a b = refl
        also false r t a b = a b

        outside : (r : ℕ → Bool) (q : ℕ) → r q ≡ true → sets.contains others q ≡ false → (r q && not (sets.contains others q)) ≡ true
        outside r q a b = ap (λ x. x && not (sets.contains others q)) a ∙ ap not b

        short : (part : ℕ → Bool) → (Sat dead.processes elections (with_set (sets.contains others) part) → ⊥) → number_of (with_set (sets.contains others) part) n < e
        short part never = elim (cases_lt (number_of (with_set (sets.contains others) part) n) e) [
          | inl few ↦ few
          | inr many ↦ absurd (never (subst (λ t. Sat dead.processes t (with_set (sets.contains others) part)) (sym elections_is) (so_many_satisfy quorum tested dead.processes e (with_set (sets.contains others) part) differ many)))
        ]

        sums : (part rest' others' apart' here all one' none' wide gone' written' voted' : ℕ) → part < e → rest' ≤ part → rest' ≡ others' + apart' → here ≤ apart' → here + one' ≡ all + none' → one' ≡ 1 → none' ≡ 0 → n ≤ others' + wide → wide ≡ written' + 1 → e ≤ gone' + voted' + 1 → all ≤ gone' + (written' + 1) + (voted' + 1) - n
        sums part rest' others' apart' here all one' none' wide gone' written' voted' a b c d f g h i j k = omega arith

-- ---- all of it
module _ (quorum : AQuorumIsLeft) (tested : TestIsSatisfaction) (more : MoreOfMapSatisfies) (dead : Losses) (writes elections : Tree) (written : Tolerance) (differ : NamesDiffer dead.processes) (few : length dead.processes ≤ 1024)
    (takes_w : Takes dead.processes writes (sets.contains dead.destroyed) written) (found : Forgetting) where
  -- the destroyed alone elect
  pub elected_by_destroyed : Sat dead.processes elections (sets.contains dead.destroyed) → found.fewest ≡ 0 → found.too_many ≡ sets.empty → IsForgetting dead writes elections found
  elected_by_destroyed sat zero_is empty_is =
      let too_many = destroyed_are_too_many more dead writes elections written takes_w found.too_many sat empty_is in
      record {
        fewer = λ s small. absurd (let none : number_of s (length dead.processes) < found.fewest = small in omega arith);
        too_many = too_many;
        greatest = λ same n may. (let within : n ≤ sets.len found.too_many = no_greater more dead writes elections written found.too_many too_many n may in omega arith);
        counted = λ w e a b. ap sets.len empty_is ∙ sets.len-empty nat_cmp ∙ sym zero_is;
      }

  module _ (voted : Tolerance) (takes_e : Takes dead.processes elections (sets.contains dead.destroyed) voted)
      (fewest_is : found.fewest ≡ min (number_of (sets.contains dead.destroyed) (length dead.processes) + (written.any + 1) + (voted.any + 1) - length dead.processes) 1025)
      (others : sets.FinSet nat_cmp) (all_but : IsAllBut more dead writes elections written takes_w others) where
    fewer : FewerMayForget dead writes elections found.fewest
    fewer = in_common more dead writes elections written takes_w voted takes_e found.fewest (omega arith)

    -- the others elect
    none_needed : Sat dead.processes elections (sets.contains others) → found.too_many ≡ sets.empty → IsForgetting dead writes elections found
    none_needed sat empty_is =
        let too_many = none_is_too_many more dead writes elections written takes_w others found.too_many all_but sat empty_is in
        let within : found.fewest ≤ sets.len found.too_many = no_greater more dead writes elections written found.too_many too_many found.fewest fewer in
        let nobody : sets.len found.too_many ≡ 0 = ap sets.len empty_is ∙ sets.len-empty nat_cmp in
        record {
          fewer = fewer;
          too_many = too_many;
          greatest = λ same n may. (let fits : n ≤ sets.len found.too_many = no_greater more dead writes elections written found.too_many too_many n may in omega arith);
          counted = λ w e a b. omega arith;
        }

    -- they need some of the writers
    some_needed : (taken : Tolerance) → Takes dead.processes elections (sets.contains others) taken → IsNeeded more dead writes elections written takes_w others found.too_many taken → IsForgetting dead writes elections found
    some_needed taken takes needed =
        let too_many = needed_is_too_many more dead writes elections written takes_w others found.too_many taken all_but takes needed in
        let within : found.fewest ≤ sets.len found.too_many = no_greater more dead writes elections written found.too_many too_many found.fewest fewer in
        record {
          fewer = fewer;
          too_many = too_many;
          greatest = λ same n may. (let fits : n ≤ sets.len found.too_many = no_greater more dead writes elections written found.too_many too_many n may in omega arith);
          counted = λ w e a b. exact within
              (no_more_than quorum tested more dead writes elections written voted taken differ takes_w takes_e others found.too_many all_but takes needed w e a b)
              (number-len found.too_many (length dead.processes) (λ q is. below q (is_needed quorum tested more dead writes elections written voted taken differ takes_w takes_e others found.too_many all_but takes needed q is).0));
        }
      where
        below : (q : ℕ) → nat_lt q (length dead.processes) ≡ true → q < length dead.processes
        below q h = grind (arith, nat_tests)

        exact : found.fewest ≤ sets.len found.too_many → number_of (sets.contains found.too_many) (length dead.processes) ≤ number_of (sets.contains dead.destroyed) (length dead.processes) + (written.any + 1) + (voted.any + 1) - length dead.processes → number_of (sets.contains found.too_many) (length dead.processes) ≡ sets.len found.too_many → sets.len found.too_many ≡ found.fewest
        exact a b c =
            let fits : number_of (sets.contains found.too_many) (length dead.processes) ≤ length dead.processes = number-le (sets.contains found.too_many) (length dead.processes) in
            omega arith

    pub is_forgetting : (beside : Option Tolerance) → IfNone beside (Sat dead.processes elections (sets.contains others)) → IfSome beside (Takes dead.processes elections (sets.contains others))
        → IfNone beside (found.too_many ≡ sets.empty) → IfSome beside (IsNeeded more dead writes elections written takes_w others found.too_many) → IsForgetting dead writes elections found
    is_forgetting None sat takes empty_is needed = none_needed sat empty_is
    is_forgetting (Some taken) sat takes empty_is needed = some_needed taken takes needed

  -- whether it takes voters beside the destroyed or not
  pub forgetting : (voted beside : Option Tolerance) (others : sets.FinSet nat_cmp)
      → IfNone voted (Sat dead.processes elections (sets.contains dead.destroyed)) → IfSome voted (Takes dead.processes elections (sets.contains dead.destroyed))
      → IfNone voted (found.fewest ≡ 0) → IfSome voted (λ v. found.fewest ≡ min (number_of (sets.contains dead.destroyed) (length dead.processes) + (written.any + 1) + (v.any + 1) - length dead.processes) 1025)
      → IsAllBut more dead writes elections written takes_w others
      → IfNone beside (Sat dead.processes elections (sets.contains others)) → IfSome beside (Takes dead.processes elections (sets.contains others))
      → IfNone beside (found.too_many ≡ sets.empty) → IfSome beside (IsNeeded more dead writes elections written takes_w others found.too_many)
      → IsForgetting dead writes elections found
  forgetting None None others sat takes zero_is fewest_is all_but sat_others takes_others empty_is needed = elected_by_destroyed sat zero_is empty_is
  forgetting None (Some taken) others sat takes zero_is fewest_is all_but sat_others takes_others empty_is needed =
      absurd (takes_others.any (λ p. false) (let none : number_of (λ p. false) (length dead.processes) ≡ 0 = number-none (λ p. false) (length dead.processes) (λ p below. refl) in omega arith)
      (more dead.processes elections (sets.contains dead.destroyed) (with_set (sets.contains others) (λ p. false)) (λ p below h. joined (sets.contains others p) (all_but p ∙ also _ _ h)) sat))
    where
      also : (a d : Bool) → d ≡ true → (a || d) ≡ true
      also true d h = refl
      also false d h = h

      joined : (o : Bool) → o ≡ true → (o || false) ≡ true
      joined true h = refl
      joined false h = absurd (false≢true h)
  forgetting (Some voted) beside others sat takes zero_is fewest_is all_but sat_others takes_others empty_is needed =
      is_forgetting voted takes fewest_is others all_but beside sat_others takes_others empty_is needed

-- ---- what is known of the processes and the destroyed as they are had
pub record Known (elections : Tree) (written : Tolerance) (votes beside : Option Tolerance) (others : sets.FinSet nat_cmp) (found : Forgetting) (processes : List Locality) (gone : sets.FinSet nat_cmp) : Type 0 where
  pub differ : NamesDiffer processes
  pub few : length processes ≤ 1024
  pub sat_votes : IfNone votes (Sat processes elections (sets.contains gone))
  pub takes_votes : IfSome votes (Takes processes elections (sets.contains gone))
  pub zero_is : IfNone votes (found.fewest ≡ 0)
  pub fewest_is : IfSome votes (λ v. found.fewest ≡ min (number_of (sets.contains gone) (length processes) + (written.any + 1) + (v.any + 1) - length processes) 1025)
  pub all_but : (p : ℕ) → sets.contains others p ≡ ((nat_lt p (length processes) && not (sets.contains written.too_many p)) || sets.contains gone p)
  pub sat_others : IfNone beside (Sat processes elections (sets.contains others))
  pub takes_others : IfSome beside (Takes processes elections (sets.contains others))
  pub empty_is : IfNone beside (found.too_many ≡ sets.empty)
  pub needed : IfSome beside (λ t. (p : ℕ) → sets.contains found.too_many p ≡ ((nat_lt p (length processes) && not (sets.contains others p)) && sets.contains t.too_many p))

pub forgetting_known : AQuorumIsLeft → TestIsSatisfaction → MoreOfMapSatisfies → (dead : Losses) (writes elections : Tree) (written : Tolerance) (votes beside : Option Tolerance) (others : sets.FinSet nat_cmp) (found : Forgetting) (processes : List Locality) (gone : sets.FinSet nat_cmp)
    → processes ≡ dead.processes → gone ≡ dead.destroyed → Takes dead.processes writes (sets.contains dead.destroyed) written → Known elections written votes beside others found processes gone → IsForgetting dead writes elections found
forgetting_known quorum tested more dead writes elections written votes beside others found processes gone same_processes same_gone takes_w known0 =
    let known : Known elections written votes beside others found dead.processes dead.destroyed =
    subst (λ (d : sets.FinSet nat_cmp). Known elections written votes beside others found dead.processes d) same_gone
    (subst (λ (ps : List Locality). Known elections written votes beside others found ps gone) same_processes known0) in
    forgetting quorum tested more dead writes elections written known.differ known.few takes_w found votes beside others
    known.sat_votes known.takes_votes known.zero_is known.fewest_is known.all_but known.sat_others known.takes_others known.empty_is known.needed
