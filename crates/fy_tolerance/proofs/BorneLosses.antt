-- why so many processes may be lost together
use Rattle.std.proofs.Common.{◌≡◌, ℕ, ◌+◌, ◌-◌, ◌<◌, ◌≤◌, zero, suc, Bool, true, false, not, ◌&&◌, ◌||◌, cond, List, [], ◌∷◌, ◌++◌, length, map, take, Some, refl, sym, ap, subst, ◌∙◌, true≢false, arith}
use Rattle.std.specs.Prelude.{slice_get}
use Rattle.std.specs.List.{AllByRecursion}
use Rattle.std.specs.Ordering.{nat_cmp}
use Rattle.std.specs.FinSet as sets
use Rattle.std.specs.Cmp.{nat_cmp_total}
use Rattle.fy_locality.specs.declared.locality.Locality.{Locality}
use Rattle.fy_policy.specs.Counted.{number_of}
use Rattle.fy_policy.specs.Laws.{MoreOfMapSatisfies, TestIsSatisfaction}
use Rattle.fy_policy.specs.Sat.{Sat, satisfies}
use Rattle.fy_policy.specs.Tree.{Tree}
use Rattle.fy_decide.specs.Safety.{with_set, without_set, MayDestroy}
use Rattle.fy_decide.specs.declared.dead_book.Loss.{Loss}
use Rattle.fy_decide.specs.declared.dead_book.Loss.TheVariants.{Emptied, Gone}
use Rattle.fy_decide.specs.DeadBook.{Losses, may_lose, struck}
use Rattle.fy_tolerance.specs.Bears.{lost_as_allowed}
use Rattle.fy_tolerance.specs.Costs.{NeedsAtLeast, LacksAtLeast}
use Rattle.fy_tolerance.proofs.Costing.{number-more, none-number}

pub each_at : {X : Type 0} (P : X → Type 0) (xs : List X) (i : ℕ) (x : X) → AllByRecursion P xs → slice_get xs i ≡ Some x → P x
each_at P [] i x h e = absurd (let y : ⊥ = cc in y)
each_at P (y ∷ ys) zero x h e = let same : y ≡ x = cc in subst P same h.0
each_at P (y ∷ ys) (suc i) x h e = each_at P ys i x h.1 e

module _ (processes : List Locality) (policy : Tree) (tested : TestIsSatisfaction) (more : MoreOfMapSatisfies) where
  -- fewer than it takes don't satisfy the policy
  pub short-with : (all destroyed : ℕ → Bool) (least count : ℕ) → ((p : ℕ) → p < length processes → all p ≡ true) → NeedsAtLeast processes policy all destroyed least → (Sat processes policy destroyed → ⊥) → count ≤ least - 1
      → (s : ℕ → Bool) → number_of s (length processes) ≤ count → Sat processes policy (with_set destroyed s) → ⊥
  short-with all destroyed least count left_with_value needed short few s small sat =
      let lost : ℕ → Bool = λ p. all p && (destroyed p || s p) in
      let still : Sat processes policy lost = more processes policy (with_set destroyed s) lost (λ p below h. ap (λ b. b && (destroyed p || s p)) (left_with_value p below) ∙ h) sat in
      let passes : satisfies processes policy lost ≡ true = (tested processes policy lost).1 still in
      let costs : least ≤ number_of (λ p. lost p && not (destroyed p)) (length processes) = needed lost (λ p h. first (all p) _ h) passes in
      let few_cost : number_of (λ p. lost p && not (destroyed p)) (length processes) ≤ number_of s (length processes) = number-more _ s (length processes) (λ p below h. new (all p) (destroyed p) (s p) h) in
      let nobody : number_of s (length processes) ≡ 0 = omega arith in
      short (more processes policy (with_set destroyed s) destroyed (λ p below h. old (destroyed p) (s p) (none-number s (length processes) p nobody below) h) sat)
    where
      first : (a b : Bool) → (a && b) ≡ true → a ≡ true
      first true b e = refl
      first false b e = e

      new : (a d s : Bool) → ((a && (d || s)) && not d) ≡ true → s ≡ true
      new true true s e = absurd (true≢false (sym e))
      new true false true e = refl
      new true false false e = absurd (true≢false (sym e))
      new false d s e = absurd (true≢false (sym e))

      old : (d s : Bool) → s ≡ false → (d || s) ≡ true → d ≡ true
      old true s e h = refl
      old false s e h = absurd (true≢false (sym h ∙ e))

  -- those left without fewer than it takes satisfy it
  pub satisfied-without : (left : ℕ → Bool) (least count : ℕ) → LacksAtLeast processes policy left least → Sat processes policy left → count ≤ least - 1
      → (s : ℕ → Bool) → number_of s (length processes) ≤ count → Sat processes policy (without_set left s)
  satisfied-without left least count lacked met few s small = go (satisfies processes policy (without_set left s)) refl
    where
      first : (a b : Bool) → (a && b) ≡ true → a ≡ true
      first true b e = refl
      first false b e = e

      gone : (l s : Bool) → (l && not (l && not s)) ≡ true → s ≡ true
      gone true true e = refl
      gone true false e = absurd (true≢false (sym e))
      gone false s e = absurd (true≢false (sym e))

      stays : (l s : Bool) → s ≡ false → l ≡ true → (l && not s) ≡ true
      stays l s e h = ap (λ b. b && not s) h ∙ ap not e

      go : (b : Bool) → satisfies processes policy (without_set left s) ≡ b → Sat processes policy (without_set left s)
      go true e = (tested processes policy (without_set left s)).0 e
      go false e =
          let lacks : least ≤ number_of (λ p. left p && not (without_set left s p)) (length processes) = lacked (without_set left s) (λ p h. first (left p) _ h) e in
          let few_lack : number_of (λ p. left p && not (without_set left s p)) (length processes) ≤ number_of s (length processes) = number-more _ s (length processes) (λ p below h. gone (left p) (s p) h) in
          let nobody : number_of s (length processes) ≡ 0 = omega arith in
          more processes policy left (without_set left s) (λ p below h. stays (left p) (s p) (none-number s (length processes) p nobody below) h) met

pub with-is : (destroyed set both : sets.FinSet nat_cmp) → both ≡ sets.union destroyed set → sets.contains both ≡ with_set (sets.contains destroyed) (sets.contains set)
with-is destroyed set both is = λ i p. (ap (λ s. sets.contains s p) is ∙ sets.contains-union nat_cmp_total destroyed set p) i

pub without-is : (left set rest : sets.FinSet nat_cmp) → rest ≡ sets.difference left set → sets.contains rest ≡ without_set (sets.contains left) (sets.contains set)
without-is left set rest is = λ i p. (ap (λ s. sets.contains s p) is ∙ sets.contains-difference nat_cmp_total left set p) i

-- what may be lost doesn't satisfy the policy with the destroyed
pub may-short : (processes : List Locality) (policy : Tree) (destroyed left s : ℕ → Bool) (loss : Loss) → MayDestroy processes (policy ∷ []) destroyed left s loss → Sat processes policy (with_set destroyed s) → ⊥
may-short processes policy destroyed left s Emptied may = may.0
may-short processes policy destroyed left s Gone may = may.0.0

-- ---- the losses of a cluster
pub lost-processes : (s : sets.FinSet nat_cmp) (loss : Loss) (dead : Losses) → (lost_as_allowed s loss dead).processes ≡ dead.processes
lost-processes s loss dead = go (may_lose dead (sets.contains s) loss) loss
  where
    go : (b : Bool) (loss : Loss) → (cond b (struck dead s loss) dead).processes ≡ dead.processes
    go true Emptied = refl
    go true Gone = refl
    go false loss = refl

pub lost-policies : (s : sets.FinSet nat_cmp) (loss : Loss) (dead : Losses) → (lost_as_allowed s loss dead).policies ≡ dead.policies
lost-policies s loss dead = go (may_lose dead (sets.contains s) loss) loss
  where
    go : (b : Bool) (loss : Loss) → (cond b (struck dead s loss) dead).policies ≡ dead.policies
    go true Emptied = refl
    go true Gone = refl
    go false loss = refl

take_pushed : {A : Type 0} (xs : List A) (i : ℕ) (x : A) → slice_get xs i ≡ Some x → take (suc i) xs ≡ take i xs ++ x ∷ []
take_pushed [] i x e = absurd (let y : ⊥ = cc in y)
take_pushed (y ∷ ys) zero x e = let same : y ≡ x = cc in ap (λ z. z ∷ []) same
take_pushed (y ∷ ys) (suc i) x e = ap (λ zs. y ∷ zs) (take_pushed ys i x e)

pub map_pushed : {A B : Type 0} (f : A → B) (xs : List A) (x : A) → map f (xs ++ x ∷ []) ≡ map f xs ++ f x ∷ []
map_pushed f [] x = refl
map_pushed f (y ∷ ys) x = ap (λ zs. f y ∷ zs) (map_pushed f ys x)

-- one more of a list, mapped
pub map_more : {A B : Type 0} (f : A → B) (xs : List A) (i : ℕ) (x : A) (ys zs : List B) (y : B) → slice_get xs i ≡ Some x → ys ≡ map f (take i xs) → zs ≡ ys ++ y ∷ [] → y ≡ f x → zs ≡ map f (take (i + 1) xs)
map_more f xs i x ys zs y at before push is =
    push ∙ ap (λ us. us ++ y ∷ []) before ∙ ap (λ u. map f (take i xs) ++ u ∷ []) is ∙ sym (map_pushed f (take i xs) x) ∙ ap (map f) (sym (take_pushed xs i x at)) ∙ ap (λ n. map f (take n xs)) (let e : suc i ≡ i + 1 = omega arith in e)
