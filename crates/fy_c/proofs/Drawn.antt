-- plans: how many words they take, what is told of their acts, and what is given of them
use Rattle.std.proofs.Common.{arith, ◌≡◌, ◌∙◌, ◌≤◌, ◌+◌, ◌-◌, ℕ, zero, suc, List, [], ◌∷◌, ◌++◌, length, map, refl, sym, ap, ap₂, subst}
use Rattle.std.specs.Prelude.{take, drop, replicate, Result, Ok, Err, IfOk, IfErr}
use Rattle.std.proofs.lemmas.List.{take_all, length_push}
use Rattle.std.proofs.lemmas.List.FromFn.{length-map-range_with_len}
use Rattle.rand_chacha.specs.ChaCha.{ChaCha}
use Rattle.fy_locality.specs.declared.locality.Locality.{Locality}
use Rattle.fy_kinds.specs.declared.kind.Kind.{Kind}
use Rattle.fy_kinds.specs.Kinds.{rank}
use Rattle.fy_acts.specs.declared.act.Act.{Act}
use Rattle.fy_acts.specs.declared.act.Act.TheVariants.{Clog, Unclog}
use Rattle.fy_actors.specs.Schedules.{process_target, swizzle_acts, attrition_act, attrition_acts}
use Rattle.fy_actors.specs.declared.plans.SwizzlePlan.{SwizzlePlan}
use Rattle.fy_actors.specs.Words.{stream_outputs}
use Rattle.fy_players.specs.declared.faults.Plan.{Plan}
use Rattle.fy_players.specs.Draws.{stream_of}
use Rattle.fy_players.specs.Faults.{FaultState, fault_of}
use Rattle.fy_players.specs.Orders.{StrikesOnce, StrikesInTurn}
use Rattle.fy_c.specs.declared.planning.FyOrder.{FyOrder}
use Rattle.fy_c.specs.declared.status.Status.{Status}
use Rattle.fy_c.specs.Planning.{order_of, orders_of, clog_of, unclog_of, kill_of, AreOrdersOf, Gives}

-- ---- words

pub word_count : (seed stream count : ℕ) → length (stream_outputs seed stream count) ≡ count
unfolding stream_outputs
word_count seed stream count = length-map-range_with_len _ 0 count

-- ---- what is told of acts

pub drop_zeros : (n m : ℕ) → drop {A = ℕ} n (replicate m 0) ≡ replicate (m - n) 0
drop_zeros zero m = ap (λ k. replicate k 0) (let e : m ≡ m - 0 = omega arith in e)
drop_zeros (suc n) zero = ap (λ k. replicate k 0) (let e : 0 ≡ 0 - suc n = omega arith in e)
drop_zeros (suc n) (suc m) =
    drop_zeros n m ∙ ap (λ k. replicate k 0) (let e : m - n ≡ suc m - suc n = omega arith in e)

map_twice : {X Y Z : Type 0} (f : X → Y) (g : Y → Z) (xs : List X) →
    map (λ x. g (f x)) xs ≡ map g (map f xs)
map_twice f g [] = refl
map_twice f g (x ∷ xs) = ap (λ ys. g (f x) ∷ ys) (map_twice f g xs)

map_joined : {X Y : Type 0} (g : X → Y) (xs ys : List X) → map g (xs ++ ys) ≡ map g xs ++ map g ys
map_joined g [] ys = refl
map_joined g (x ∷ xs) ys = ap (λ zs. g x ∷ zs) (map_joined g xs ys)

-- the orders of a swizzle, each by its process
pub told_swizzle : (processes : List Locality) (plan : SwizzlePlan) (ticks i : ℕ)
    (orders : List FyOrder) →
    orders
    ≡ map (clog_of processes ticks) plan.clogs.items
    ++ map (unclog_of processes) (take i plan.frees.items) → length plan.frees.items ≤ i →
    orders ≡ orders_of (swizzle_acts processes plan ticks)
told_swizzle processes plan ticks i orders are all =
    are
    ∙ ap (λ ps. map (clog_of processes ticks) plan.clogs.items ++ map (unclog_of processes) ps)
    (take_all i plan.frees.items all)
    ∙ ap₂ (λ (xs ys : List FyOrder). xs ++ ys)
    (map_twice (λ p. Clog (process_target processes p) ticks) order_of plan.clogs.items)
    (map_twice (λ p. Unclog (process_target processes p)) order_of plan.frees.items)
    ∙ sym (map_joined order_of (map (λ p. Clog (process_target processes p) ticks) plan.clogs.items)
    (map (λ p. Unclog (process_target processes p)) plan.frees.items))

-- the orders of an attrition, each by its machine
pub told_attrition : (kind floor : Kind) (tear i : ℕ) (ordered : rank floor ≤ rank kind)
    (machines : List (List ℕ)) (orders : List FyOrder) →
    orders ≡ map (kill_of kind floor tear) (take i machines) → length machines ≤ i →
    orders ≡ orders_of (attrition_acts kind floor tear ordered machines)
told_attrition kind floor tear i ordered machines orders are all =
    are
    ∙ ap (map (kill_of kind floor tear)) (take_all i machines all)
    ∙ map_twice (attrition_act kind floor tear ordered) order_of machines

-- ---- orders of turns

-- so many turns were taken, and these are their orders
pub record AreTold (processes : List Locality) (plan : Plan) (seed actor count : ℕ)
    (now : FaultState × ChaCha) (orders : List FyOrder) : Type 0 where
  pub acts : List Act
  pub turns : StrikesInTurn processes (fault_of seed plan, stream_of seed actor) acts now
  pub all : length acts ≡ count
  pub told : orders ≡ orders_of acts

pub none_told : (processes : List Locality) (plan : Plan) (seed actor : ℕ)
    (now : FaultState × ChaCha) (orders : List FyOrder) →
    now ≡ (fault_of seed plan, stream_of seed actor) → orders ≡ [] →
    AreTold processes plan seed actor 0 now orders
none_told processes plan seed actor now orders begun nothing = record {
  acts = [];
  turns = subst (StrikesInTurn processes (fault_of seed plan, stream_of seed actor) [])
      (sym begun) StrikesInTurn.none;
  all = refl;
  told = nothing;
}

pub one_more_told : (processes : List Locality) (plan : Plan) (seed actor count : ℕ)
    (was now : FaultState × ChaCha) (orders after : List FyOrder) (made : Act) (order : FyOrder) →
    AreTold processes plan seed actor count was orders → StrikesOnce processes was now made →
    order ≡ order_of made → after ≡ orders ++ order ∷ [] →
    AreTold processes plan seed actor (count + 1) now after
one_more_told processes plan seed actor count was now orders after made order are once is more = record {
  acts = are.acts ++ made ∷ [];
  turns = StrikesInTurn.more are.acts was now made are.turns once;
  all = length_push are.acts made ∙ ap (λ n. n + 1) are.all;
  told = more
      ∙ (ap₂ (λ (xs : List FyOrder) (x : FyOrder). xs ++ x ∷ []) are.told is
      ∙ sym (map_joined order_of are.acts (made ∷ [])));
}

pub told_all : (processes : List Locality) (plan : Plan) (seed actor count : ℕ)
    (now : FaultState × ChaCha) (orders : List FyOrder) →
    AreTold processes plan seed actor count now orders →
    AreOrdersOf processes plan seed actor count orders
told_all processes plan seed actor count now orders are = record {
  acts = are.acts;
  are = record { last = now; turns = are.turns };
  turns = are.all;
  told = are.told;
}

-- ---- what is given

-- what a plan is of which orders are given, and what is told of none
pub given : {V : Type 0} (items : V → List FyOrder) (IsPlan : V → Type 0)
    (Holds : List FyOrder → List FyOrder → ℕ → Status → Type 0) (plan : Result V Status)
    (before after : List FyOrder) (told : ℕ) (status : Status) →
    ((it : V) → IsPlan it → Gives (items it) before after told status →
    Holds before after told status) →
    IfOk plan IsPlan → IfErr plan (λ why. (orders : List FyOrder) → Holds orders orders 0 why) →
    IfOk plan (λ it. Gives (items it) before after told status) →
    IfErr plan (λ why. (status ≡ why) × (told ≡ 0) × (after ≡ before)) →
    Holds before after told status
given items IsPlan Holds (Ok it) before after told status holds is none gives stays =
    holds it is gives
given items IsPlan Holds (Err why) before after told status holds is none gives stays =
    subst (Holds before after told) (sym stays.0)
    (subst (λ n. Holds before after n why) (sym stays.1)
    (subst (λ orders. Holds before orders 0 why) (sym stays.2) (none before)))
