-- other numbers in place of values: an order stays one, and so does what shows that there is none
use Rattle.std.proofs.Common.{inl, inr, ◌⊎◌, ◌≡◌, ◌≢◌, ◌∙◌, ℕ, List, [], ◌∷◌, map, Option, Some, None, option_map, refl, sym, ap, subst}
use Rattle.std.specs.List.{Contains, AllPairs}
use Rattle.fy_registers.specs.declared.operation.Act.{Act}
use Rattle.fy_registers.specs.declared.operation.Act.TheVariants.{Write, Read}
use Rattle.fy_registers.specs.declared.operation.Operation.{Operation}
use Rattle.fy_registers.specs.declared.evidence.Span.{Span}
use Rattle.fy_registers.specs.declared.evidence.Evidence.{Evidence}
use Rattle.fy_registers.specs.declared.evidence.Evidence.TheVariants.{Unwritten, BeforeWrite, Nothing, Conflict}
use Rattle.fy_registers.specs.declared.evidence.Judgement.{Judgement}
use Rattle.fy_registers.specs.declared.evidence.Judgement.TheVariants.{Linearizable, Not, Twice}
use Rattle.fy_registers.specs.Linear.{value_in, value_of, HasEnded, IsBefore, held_after, IsAnswered, AreAnswered, IsLinearization, IsLinearizable, IsWrittenOnce}
use Rattle.fy_registers.specs.Evidence.{IsReadOf, IsWriteOf, IsSpanOf, Shows, Judges}
use Rattle.fy_registers.proofs.Lists.{contains_here, contains_there, contains_cases, contains_none, pairs_weaker}
use Rattle.fy_values.specs.Renumbering.{act_by, operation_by, span_by, evidence_by, judgement_by, KeepsApart, RenumberingKeeps}
use Rattle.fy_values.proofs.Maps.{map_into, map_from, pairs_map, pairs_unmap}

-- ---- acts
value_act : (f : ℕ → ℕ) (a : Act) → value_in (act_by f a) ≡ option_map f (value_in a)
value_act f (Write v) = refl
value_act f (Read answer) = refl

held_act : (f : ℕ → ℕ) (held : Option ℕ) (a : Act)
    → held_after (option_map f held) (act_by f a) ≡ option_map f (held_after held a)
held_act f held (Write v) = refl
held_act f held (Read answer) = refl

answered_act : (f : ℕ → ℕ) (held : Option ℕ) (a : Act) → IsAnswered held a
    → IsAnswered (option_map f held) (act_by f a)
answered_act f held (Write v) answered = tt
answered_act f held (Read answer) answered = ap (option_map f) answered

-- a write was one before
write_act : (f : ℕ → ℕ) (a : Act) (v : ℕ) → act_by f a ≡ Write v
    → (w : ℕ) × (a ≡ Write w) × (f w ≡ v)
write_act f (Write w) v e = (w, refl, cc)
write_act f (Read answer) v e = absurd (cc)

-- ---- an order before is one after
module _ (f : ℕ → ℕ) where
  answered_by : (held : Option ℕ) (xs : List Operation) → AreAnswered held xs
      → AreAnswered (option_map f held) (map (operation_by f) xs)
  answered_by held [] answered = tt
  answered_by held (x ∷ xs) answered = (
    answered_act f held x.act answered.0,
    subst (λ now. AreAnswered now (map (operation_by f) xs)) (sym (held_act f held x.act))
        (answered_by (held_after held x.act) xs answered.1),
  )

module _ (f : ℕ → ℕ) (h : List Operation) (apart : KeepsApart f h) where
  abbrev F : Operation → Operation
  F = operation_by f

  -- operations of the history that become one were one
  same_act : (o p : Operation) → Contains h o → Contains h p → (a b : Act) → o.act ≡ a → p.act ≡ b
      → act_by f a ≡ act_by f b → a ≡ b
  same_act o p o_in p_in (Write v) (Write w) ea eb e =
      let values : f v ≡ f w = cc in
      ap Write (apart o p v w o_in p_in (ap value_in ea) (ap value_in eb) values)
  same_act o p o_in p_in (Write v) (Read answer) ea eb e = absurd (cc)
  same_act o p o_in p_in (Read answer) (Write w) ea eb e = absurd (cc)
  same_act o p o_in p_in (Read (Some v)) (Read (Some w)) ea eb e =
      let values : f v ≡ f w = cc in
      ap (λ n. Read (Some n)) (apart o p v w o_in p_in (ap value_in ea) (ap value_in eb) values)
  same_act o p o_in p_in (Read (Some v)) (Read None) ea eb e = absurd (cc)
  same_act o p o_in p_in (Read None) (Read (Some w)) ea eb e = absurd (cc)
  same_act o p o_in p_in (Read None) (Read None) ea eb e = refl

  same : (o p : Operation) → Contains h o → Contains h p → F o ≡ F p → o ≡ p
  same o p o_in p_in e =
      let acts = same_act o p o_in p_in o.act p.act refl refl (ap (λ (q : Operation). q.act) e) in
      let begun = ap (λ (q : Operation). q.began) e in
      let ends = ap (λ (q : Operation). q.ended) e in
      (λ i. record { act = acts i; began = begun i; ended = ends i })

  pub order_after : IsLinearizable h → IsLinearizable (map F h)
  order_after (order, is) = (
    map F order,
    record {
      taken = λ o among. let its = map_from F order o among in
          subst (λ q. Contains (map F h) q) its.2 (map_into F h its.0 (is.taken its.0 its.1));
      complete = λ o among ended. let its = map_from F h o among in
          subst (λ q. Contains (map F order) q) its.2 (map_into F order its.0
          (is.complete its.0 its.1 (subst HasEnded (sym its.2) ended)));
      once = pairs_map F (λ one later. one ≢ later) order apart_after;
      in_time = pairs_map F (λ one later. IsBefore later one → ⊥) order is.in_time;
      answered = answered_by f None order is.answered;
    },
  )
    where
      apart_after : AllPairs (λ one later. F one ≢ F later) order
      apart_after = pairs_weaker (λ one later. one ≢ later) (λ one later. F one ≢ F later) order
          (λ a b a_in b_in differ e. differ (same a b (is.taken a a_in) (is.taken b b_in) e)) is.once

  -- ---- an order after is one before
  -- what is held is a value of the history
  abbrev IsHeldValue : Option ℕ → Type 0
  IsHeldValue held = (v : ℕ) → held ≡ Some v → (o : Operation) × Contains h o × (value_of o ≡ Some v)

  same_answer : (o : Operation) → Contains h o → (answer held : Option ℕ) → value_of o ≡ answer
      → IsHeldValue held → option_map f answer ≡ option_map f held → answer ≡ held
  same_answer o o_in (Some v) (Some w) value known e =
      let values : f v ≡ f w = cc in
      let its = known w refl in
      ap Some (apart o its.0 v w o_in its.1 value its.2 values)
  same_answer o o_in (Some v) None value known e = absurd (cc)
  same_answer o o_in None (Some w) value known e = absurd (cc)
  same_answer o o_in None None value known e = refl

  answered_from : (held : Option ℕ) (xs : List Operation) → ((o : Operation) → Contains xs o → Contains h o)
      → IsHeldValue held → AreAnswered (option_map f held) (map F xs) → AreAnswered held xs
  answered_from held [] within known answered = tt
  answered_from held (x ∷ xs) within known answered = (
    here x.act refl answered.0,
    answered_from (held_after held x.act) xs (λ o among. within o (contains_there x o xs among))
        (λ v e. now x.act refl v e)
        (subst (λ next. AreAnswered next (map F xs)) (held_act f held x.act) answered.1),
  )
    where
      x_in : Contains h x
      x_in = within x (contains_here x xs)

      here : (a : Act) → x.act ≡ a → IsAnswered (option_map f held) (act_by f a) → IsAnswered held a
      here (Write v) is e = tt
      here (Read answer) is e = same_answer x x_in answer held (ap value_in is) known e

      now : (a : Act) → x.act ≡ a → (v : ℕ) → held_after held a ≡ Some v
          → (o : Operation) × Contains h o × (value_of o ≡ Some v)
      now (Write w) is v e = (x, x_in, ap value_in is ∙ e)
      now (Read answer) is v e = known v e

  -- operations that are of the history after are so of those before
  pulled : (os : List Operation) → ((o : Operation) → Contains os o → Contains (map F h) o)
      → (ps : List Operation) × (map F ps ≡ os) × ((p : Operation) → Contains ps p → Contains h p)
  pulled [] within = ([], refl, λ p among. absurd (contains_none p among))
  pulled (o ∷ os) within =
      let its = map_from F h o (within o (contains_here o os)) in
      let more = pulled os (λ q among. within q (contains_there o q os among)) in (
        its.0 ∷ more.0,
        (λ i. its.2 i ∷ more.1 i),
        λ p among. go its.0 its.1 more.0 more.2 p (contains_cases its.0 p more.0 among),
      )
    where
      go : (q : Operation) → Contains h q → (ps : List Operation)
          → ((p : Operation) → Contains ps p → Contains h p) → (p : Operation)
          → (p ≡ q) ⊎ Contains ps p → Contains h p
      go q q_in ps more p (inl is) = subst (λ z. Contains h z) (sym is) q_in
      go q q_in ps more p (inr there) = more p there

  order_of_pulled : (ps : List Operation) → ((p : Operation) → Contains ps p → Contains h p)
      → IsLinearization (map F h) (map F ps) → IsLinearization h ps
  order_of_pulled ps within is = record {
    taken = within;
    complete = λ o among ended.
        let its = map_from F ps (F o) (is.complete (F o) (map_into F h o among) ended) in
        subst (λ q. Contains ps q) (same its.0 o (within its.0 its.1) among its.2) its.1;
    once = pairs_weaker (λ one later. F one ≢ F later) (λ one later. one ≢ later) ps
        (λ a b a_in b_in differ e. differ (ap F e))
        (pairs_unmap F (λ one later. one ≢ later) ps is.once);
    in_time = pairs_unmap F (λ one later. IsBefore later one → ⊥) ps is.in_time;
    answered = answered_from None ps within (λ v e. absurd (cc)) is.answered;
  }

  pub order_before : IsLinearizable (map F h) → IsLinearizable h
  order_before (order, is) =
      let its = pulled order is.taken in
      (its.0, order_of_pulled its.0 its.2 (subst (λ os. IsLinearization (map F h) os) (sym its.1) is))

  -- ---- what shows that there is none
  value_by : (o : Operation) (v : ℕ) → value_of o ≡ Some v → value_of (F o) ≡ Some (f v)
  value_by o v e = value_act f o.act ∙ ap (option_map f) e

  read_by : (answer : Option ℕ) (o : Operation) → IsReadOf h answer o
      → IsReadOf (map F h) (option_map f answer) (F o)
  read_by answer o is = record {
    within = map_into F h o is.within;
    act = ap (act_by f) is.act;
    ended = is.ended;
  }

  write_by : (v : ℕ) (o : Operation) → IsWriteOf h v o → IsWriteOf (map F h) (f v) (F o)
  write_by v o is = record { within = map_into F h o is.within; act = ap (act_by f) is.act }

  span_after : (v : ℕ) (span : Span) → IsSpanOf h v span → IsSpanOf (map F h) (f v) (span_by f span)
  span_after v span is = record {
    first = map_into F h span.first is.first;
    first_value = value_by span.first v is.first_value;
    last = map_into F h span.last is.last;
    last_value = value_by span.last v is.last_value;
    last_done = go is.last_done;
  }
    where
      go : HasEnded span.last ⊎ (span.last.act ≡ Write v)
          → HasEnded (F span.last) ⊎ ((F span.last).act ≡ Write (f v))
      go (inl ended) = inl ended
      go (inr wrote) = inr (ap (act_by f) wrote)

  -- a write after is one of the same value before
  write_from : (p : Operation) (v : ℕ) → Contains h p → value_of p ≡ Some v → (o : Operation)
      → IsWriteOf (map F h) (f v) o → (q : Operation) × IsWriteOf h v q
  write_from p v p_in value o is =
      let its = map_from F h o is.within in
      let wrote = write_act f its.0.act (f v) (ap (λ (q : Operation). q.act) its.2 ∙ is.act) in
      let was = apart its.0 p wrote.0 v its.1 p_in (ap value_in wrote.1) value wrote.2 in
      (its.0, record { within = its.1; act = wrote.1 ∙ ap Write was })

  once_after : IsWrittenOnce h → IsWrittenOnce (map F h)
  once_after once one other v one_in other_in one_wrote other_wrote =
      let p = map_from F h one one_in in
      let q = map_from F h other other_in in
      let p_wrote = write_act f p.0.act v (ap (λ (o : Operation). o.act) p.2 ∙ one_wrote) in
      let q_wrote = write_act f q.0.act v (ap (λ (o : Operation). o.act) q.2 ∙ other_wrote) in
      let values = apart p.0 q.0 p_wrote.0 q_wrote.0 p.1 q.1 (ap value_in p_wrote.1)
      (ap value_in q_wrote.1) (p_wrote.2 ∙ sym q_wrote.2) in
      sym p.2
      ∙ ap F (once p.0 q.0 q_wrote.0 p.1 q.1 (p_wrote.1 ∙ ap Write values) q_wrote.1) ∙ q.2

  shows_after : (evidence : Evidence) → Shows h evidence → Shows (map F h) (evidence_by f evidence)
  shows_after (Unwritten read) (v, is, none) = (
    f v,
    read_by (Some v) read is,
    λ o wrote. let its = write_from read v is.within (ap value_in is.act) o wrote in none its.0 its.1,
  )
  shows_after (BeforeWrite read write) (v, is, wrote, before) =
      (f v, read_by (Some v) read is, write_by v write wrote, before)
  shows_after (Nothing ended read) (v, among, value, is, before) =
      (f v, map_into F h ended among, value_by ended v value, read_by None read is, before)
  shows_after (Conflict one other) (v, w, differ, of_one, of_other, before, later) = (
    f v,
    f w,
    (λ e. differ (apart one.first other.first v w of_one.first of_other.first of_one.first_value
        of_other.first_value e)),
    span_after v one of_one,
    span_after w other of_other,
    before,
    later,
  )

  pub judges_after : (judgement : Judgement) → Judges h judgement
      → Judges (map F h) (judgement_by f judgement)
  judges_after Linearizable (once, there_is) = (once_after once, order_after there_is)
  judges_after (Not evidence) (once, shown, none) =
      (once_after once, shows_after evidence shown, λ after. none (order_before after))
  judges_after (Twice one other) (v, of_one, of_other, differ) = (
    f v,
    write_by v one of_one,
    write_by v other of_other,
    λ e. differ (same one other of_one.within of_other.within e),
  )

pub renumbering_keeps : RenumberingKeeps
renumbering_keeps f h apart =
    ((λ before. order_after f h apart before), (λ after. order_before f h apart after))
