-- operations with numbers in place of their values, and what is judged of them
use Rattle.std.proofs.Common.{inl, inr, ◌⊎◌, ◌≡◌, ◌∙◌, ℕ, ◌+◌, ◌<◌, ◌≤◌, Bool, true, false, List, [], ◌∷◌, ◌++◌, length, map, take, get_or, All, None, Some, nat_eq, nat_lt, refl, sym, ap, subst, arith, ltb-true, ltb-false, eq-eqb}
use Rattle.std.specs.List.{IsDistinct}
use Rattle.std.proofs.lemmas.Bool.{cases_eq}
use Rattle.std.proofs.lemmas.List.{take_more, get_or_append_left, map-append, length-append}
use Rattle.std.proofs.Math.Seq.{take-length}
use Rattle.std.proofs.lemmas.List.Elements.{All-push, All-weaker, All-contains, All-head, All-tail}
use Rattle.std.proofs.lemmas.Map.Keys.{apart_from_distinct}
use Rattle.std.proofs.lemmas.Option.{unwrap_or-slice_get}
use Rattle.fy_registers.specs.declared.operation.Act.{Act}
use Rattle.fy_registers.specs.declared.operation.Act.TheVariants.{Write, Read}
use Rattle.fy_registers.specs.declared.operation.Operation.{Operation}
use Rattle.fy_registers.specs.declared.evidence.Judgement.{Judgement}
use Rattle.fy_registers.specs.Linear.{value_in, value_of, IsHistory}
use Rattle.fy_registers.specs.Evidence.{Judges}
use Rattle.fy_registers.proofs.Histories.{is_earlier}
use Rattle.fy_values.specs.Renumbering.{act_by, operation_by, judgement_by, KeepsApart}
use Rattle.fy_values.specs.Values.{EndsInTime, IsInTime, value_at, IsActOf, AreNumbered}
use Rattle.fy_values.proofs.Maps.{pairs_unmap, All-unmap}
use Rattle.fy_values.proofs.Renumbered.{judges_after}

-- ---- in time
pub out_of_order : (h : List Operation)
    → ((k : ℕ) × (k + 1 < length h) × ((d : Operation) → false ≡ is_earlier (get_or h k d) (get_or h (k + 1) d)))
    → Operation → IsInTime h → ⊥
out_of_order h (k, below, tested) d in_time =
    let low = in_time.in_order k (k + 1) d (omega arith) below in
    let high = ltb-false _ _ (sym (tested d)) in omega arith

-- ---- the value of a number
-- it stays where values are added behind the others
value_stays : (values : List ℕ) (more number : ℕ) → number < length values
    → value_at (values ++ more ∷ []) number ≡ value_at values number
value_stays values more number below =
    unwrap_or-slice_get (values ++ more ∷ []) number 0
    ∙ get_or_append_left values (more ∷ []) 0 number below ∙ sym (unwrap_or-slice_get values number 0)

-- two numbers of one value are one
one_number : (values : List ℕ) → IsDistinct nat_eq values → (m n : ℕ) → m < length values
    → n < length values → value_at values m ≡ value_at values n → m ≡ n
one_number values once m n m_below n_below e = go (cases_eq m n)
  where
    same : get_or values m 0 ≡ get_or values n 0
    same = sym (unwrap_or-slice_get values m 0) ∙ e ∙ unwrap_or-slice_get values n 0

    never : (i j : ℕ) → i < j → j < length values → get_or values i 0 ≡ get_or values j 0 → ⊥
    never i j less below is =
        let yes = eq-eqb (get_or values i 0) (get_or values j 0) is in
        let no = apart_from_distinct nat_eq values i j 0 once less below in
        let x : true ≡ false = sym yes ∙ no in cc

    by : (b : Bool) → nat_lt m n ≡ b → (m ≡ n → ⊥) → m ≡ n
    by true less differ = absurd (never m n (ltb-true m n less) n_below same)
    by false less differ =
        let up = ltb-false m n less in
        absurd (never n m (omega arith) m_below (sym same))

    go : (m ≡ n) ⊎ (m ≡ n → ⊥) → m ≡ n
    go (inl is) = is
    go (inr differ) = by (nat_lt m n) refl differ

-- ---- what is judged
module _ (h : List Operation) (values : List ℕ) (numbered : List Operation)
    (are : AreNumbered h values numbered) where
  apart : KeepsApart (value_at values) numbered
  apart one other v w one_in other_in one_value other_value e =
      one_number values are.once v w
      (All-contains (λ (o : Operation). (number : ℕ) → value_of o ≡ Some number → number < length values)
      numbered one are.within one_in v one_value)
      (All-contains (λ (o : Operation). (number : ℕ) → value_of o ≡ Some number → number < length values)
      numbered other are.within other_in w other_value) e

  pub judges_values : (judgement : Judgement) → Judges numbered judgement
      → Judges h (judgement_by (value_at values) judgement)
  judges_values judgement is =
      subst (λ os. Judges os (judgement_by (value_at values) judgement)) are.same
      (judges_after (value_at values) numbered apart judgement is)

  pub is_history : IsInTime h → IsHistory numbered
  is_history in_time =
      let again : IsInTime (map (operation_by (value_at values)) numbered) =
      subst IsInTime (sym are.same) in_time in
      record {
        in_order = pairs_unmap (operation_by (value_at values)) (λ one later. one.began < later.began)
            numbered again.in_order;
        each = λ k d below. record {
          ends = All-unmap (operation_by (value_at values)) EndsInTime numbered again.each k d below;
          below = λ number value.
              let low = are.within k d below number value in
              let few = are.few in omega arith;
        };
      }

-- ---- numbering
-- the values stay those that they were, or one stands behind them
abbrev Adds : List ℕ → List ℕ → Type 0
Adds before after = (after ≡ before) ⊎ ((value : ℕ) × (after ≡ before ++ value ∷ []))

longer : (before after : List ℕ) → Adds before after → length before ≤ length after
longer before after (inl same) = let e = ap length same in omega arith
longer before after (inr (value, is)) =
    let e = ap length is in let more = length-append before (value ∷ []) in omega arith

few_more : (before after : List ℕ) → Adds before after → length after ≤ length before + 1
few_more before after (inl same) = let e = ap length same in omega arith
few_more before after (inr (value, is)) =
    let e = ap length is in let more = length-append before (value ∷ []) in omega arith

stays : (before after : List ℕ) → Adds before after → (number : ℕ) → number < length before
    → value_at after number ≡ value_at before number
stays before after (inl same) number below = ap (λ values. value_at values number) same
stays before after (inr (value, is)) number below =
    ap (λ values. value_at values number) is ∙ value_stays before value number below

-- numbers keep their values in acts
act_stays : (before after : List ℕ) → Adds before after → (act : Act)
    → ((number : ℕ) → value_in act ≡ Some number → number < length before)
    → act_by (value_at after) act ≡ act_by (value_at before) act
act_stays before after adds (Write number) within =
    ap Write (stays before after adds number (within number refl))
act_stays before after adds (Read (Some number)) within =
    ap (λ n. Read (Some n)) (stays before after adds number (within number refl))
act_stays before after adds (Read None) within = refl

abbrev IsNumbered : List ℕ → Operation → Type 0
IsNumbered values o = (number : ℕ) → value_of o ≡ Some number → number < length values

-- and in operations
all_stay : (before after : List ℕ) → Adds before after → (os : List Operation)
    → All (IsNumbered before) os
    → map (operation_by (value_at after)) os ≡ map (operation_by (value_at before)) os
all_stay before after adds [] within = refl
all_stay before after adds (o ∷ os) within =
    let acts = act_stays before after adds o.act (All-head (IsNumbered before) o os within) in
    let more = all_stay before after adds os (All-tail (IsNumbered before) o os within) in
    (λ i. record { act = acts i; began = o.began; ended = o.ended } ∷ more i)

-- one operation more
module _ (h : List Operation) (i : ℕ) (d : Operation) (below : i < length h) (values : List ℕ)
    (numbered : List Operation) (are : AreNumbered (take i h) values numbered) (after : List ℕ)
    (act : Act) (acts : IsActOf values after (get_or h i d).act act) where
  abbrev next : Operation
  next = record { act = act; began = (get_or h i d).began; ended = (get_or h i d).ended }

  pub numbered_more : AreNumbered (take (i + 1) h) after (numbered ++ next ∷ [])
  numbered_more = record {
    same =
        map-append (operation_by (value_at after)) numbered (next ∷ [])
        ∙ ap (λ os. os ++ operation_by (value_at after) next ∷ [])
        (all_stay values after acts.added numbered are.within ∙ are.same)
        ∙ ap (λ o. take i h ++ o ∷ []) own ∙ sym (take_more h i d below);
    within = All-push (IsNumbered after) numbered next
        (All-weaker (IsNumbered values) (IsNumbered after)
        (λ o within number value. let low = within number value in
        let up = longer values after acts.added in omega arith) numbered are.within)
        acts.within;
    once = acts.once are.once;
    few =
        let fewer = few_more values after acts.added in
        let few = are.few in
        let more = length-append numbered (next ∷ []) in omega arith;
  }
    where
      own : operation_by (value_at after) next ≡ get_or h i d
      own = let same = acts.at in
          (λ j. record { act = same j; began = (get_or h i d).began; ended = (get_or h i d).ended })

pub numbered_all : (h : List Operation) (i : ℕ) (values : List ℕ) (numbered : List Operation)
    → i ≡ length h → AreNumbered (take i h) values numbered → AreNumbered h values numbered
numbered_all h i values numbered is are =
    subst (λ os. AreNumbered os values numbered) (ap (λ n. take n h) is ∙ take-length h) are
