-- what is judged of the keys of a history that was read
use Rattle.std.proofs.Common.{◌≡◌, ◌≢◌, ◌∙◌, ℕ, ◌<◌, ◌≤◌, Bool, true, false, nat_lt, List, [], ◌∷◌, length, get_or, All, Option, None, Some, IfSome, option_map, slice_get, refl, sym, ap, subst, arith, ltb-true, ltb-false}
use Rattle.std.specs.List.{Contains}
use Rattle.std.proofs.lemmas.Option.{slice_get-get_or, get_or_from_slice_get, slice_get_within}
use Rattle.fy_history.specs.Names.{text_at, number_of}
use Rattle.fy_history.specs.Progress.{Text}
use Rattle.fy_history.specs.Sound.{IsSound}
use Rattle.fy_history.specs.declared.history.History.{History}
use Rattle.fy_registers.specs.declared.operation.Act.{Act}
use Rattle.fy_registers.specs.declared.operation.Act.TheVariants.{Write, Read}
use Rattle.fy_registers.specs.declared.operation.Operation.{Operation}
use Rattle.fy_registers.specs.declared.keyed.Keyed.{Keyed}
use Rattle.fy_registers.specs.declared.evidence.Span.{Span}
use Rattle.fy_registers.specs.declared.evidence.Evidence.{Evidence}
use Rattle.fy_registers.specs.declared.evidence.Evidence.TheVariants.{Unwritten, BeforeWrite, Nothing, Conflict}
use Rattle.fy_registers.specs.declared.evidence.Judgement.{Judgement}
use Rattle.fy_registers.specs.declared.evidence.Judgement.TheVariants.{Linearizable, Not, Twice}
use Rattle.fy_registers.specs.Linear.{value_in, value_of, held_after, IsAnswered, AreAnswered, IsLinearizable, IsBefore}
use Rattle.fy_registers.specs.Evidence.{IsReadOf, IsWriteOf, IsSpanOf, Shows}
use Rattle.fy_registers.specs.Keys.{of_key}
use Rattle.fy_registers.proofs.Lists.{contains_here, contains_there, contains_none, pairs_none}
use Rattle.fy_registers.proofs.KeyParts.{with_key, from_key}
use Rattle.fy_values.specs.Values.{IsJudgedInTime}
use Rattle.fy_keys.specs.Operations.{all_of}
use Rattle.fy_keys.specs.Registers.{operations_of, holds_after, Finds, AllFind, IsLinear}
use Rattle.fy_keys.specs.Judged.{IsJudgedOf, IsJudgement, AreJudged, ReadAreJudged}
use Rattle.fy_keys.specs.declared.judged.Judged.{Judged}
use Rattle.fy_history.proofs.Apart.{AreApart, one_number, number_of_text}
use Rattle.fy_history.proofs.Taking.{read_is_sound}
use Rattle.fy_keys.proofs.Operating as operating

-- ---- operations with the same members
module _ (h now : List Operation) (into : (o : Operation) → Contains h o → Contains now o)
    (from : (o : Operation) → Contains now o → Contains h o) where
  linear_there : IsLinearizable h → IsLinearizable now
  linear_there (order, is) = (
    order,
    record {
      taken = λ o among. into o (is.taken o among);
      complete = λ o among ended. is.complete o (from o among) ended;
      once = is.once;
      in_time = is.in_time;
      answered = is.answered;
    },
  )

  read_there : (answer : Option ℕ) (o : Operation) → IsReadOf h answer o → IsReadOf now answer o
  read_there answer o is = record { within = into o is.within; act = is.act; ended = is.ended }

  write_there : (v : ℕ) (o : Operation) → IsWriteOf h v o → IsWriteOf now v o
  write_there v o is = record { within = into o is.within; act = is.act }

  write_back : (v : ℕ) (o : Operation) → IsWriteOf now v o → IsWriteOf h v o
  write_back v o is = record { within = from o is.within; act = is.act }

  span_there : (v : ℕ) (span : Span) → IsSpanOf h v span → IsSpanOf now v span
  span_there v span is = record {
    first = into span.first is.first;
    first_value = is.first_value;
    last = into span.last is.last;
    last_value = is.last_value;
    last_done = is.last_done;
  }

  shows_there : (evidence : Evidence) → Shows h evidence → Shows now evidence
  shows_there (Unwritten read) (v, is, none) =
      (v, read_there (Some v) read is, λ o wrote. none o (write_back v o wrote))
  shows_there (BeforeWrite read write) (v, is, wrote, before) =
      (v, read_there (Some v) read is, write_there v write wrote, before)
  shows_there (Nothing ended read) (v, among, value, is, before) =
      (v, into ended among, value, read_there None read is, before)
  shows_there (Conflict one other) (v, w, differ, of_one, of_other, before, later) =
      (v, w, differ, span_there v one of_one, span_there w other of_other, before, later)

-- a list without members
empty : {X : Type 0} (xs : List X) → ((x : X) → Contains xs x → ⊥) → xs ≡ []
empty [] none = refl
empty (x ∷ xs) none = absurd (none x (contains_here x xs))

nothing_is_linearizable : IsLinearizable []
nothing_is_linearizable = (
  [],
  record {
    taken = λ o among. among;
    complete = λ o among ended. among;
    once = pairs_none (λ one later. one ≢ later);
    in_time = pairs_none (λ one later. IsBefore later one → ⊥);
    answered = tt;
  },
)

-- ---- numbers and texts
holds_number : (names : List Text) (held : Option ℕ) (a : Act)
    → holds_after names (option_map (text_at names) held) a ≡ option_map (text_at names) (held_after held a)
holds_number names held (Write v) = refl
holds_number names held (Read answer) = refl

finds_number : (names : List Text) (held : Option ℕ) (a : Act) → IsAnswered held a
    → Finds names (option_map (text_at names) held) a
finds_number names held (Write v) is = tt
finds_number names held (Read answer) is = ap (option_map (text_at names)) is

find_numbers : (names : List Text) (held : Option ℕ) (xs : List Operation) → AreAnswered held xs
    → AllFind names (option_map (text_at names) held) xs
find_numbers names held [] is = tt
find_numbers names held (x ∷ xs) is = (
  finds_number names held x.act is.0,
  subst (λ now. AllFind names now xs) (sym (holds_number names held x.act))
      (find_numbers names (held_after held x.act) xs is.1),
)

-- numbers of texts that stand apart are one where their texts are
module _ (names : List Text) (apart : AreApart names) where
  abbrev IsNumber : Option ℕ → Type 0
  IsNumber number = (v : ℕ) → number ≡ Some v → v < length names

  same_number : (one other : Option ℕ) → IsNumber one → IsNumber other
      → option_map (text_at names) one ≡ option_map (text_at names) other → one ≡ other
  same_number (Some v) (Some w) v_is w_is e =
      let texts : text_at names v ≡ text_at names w = cc in
      ap Some (one_number names apart v w (v_is v refl) (w_is w refl) texts)
  same_number (Some v) None v_is w_is e = absurd (cc)
  same_number None (Some w) v_is w_is e = absurd (cc)
  same_number None None v_is w_is e = refl

  answers_number : (held : Option ℕ) (a : Act) → IsNumber held → IsNumber (value_in a)
      → Finds names (option_map (text_at names) held) a → IsAnswered held a
  answers_number held (Write v) known here e = tt
  answers_number held (Read answer) known here e = same_number answer held here known e

  still_number : (held : Option ℕ) (a : Act) → IsNumber held → IsNumber (value_in a)
      → IsNumber (held_after held a)
  still_number held (Write v) known here = here
  still_number held (Read answer) known here = known

  answer_numbers : (held : Option ℕ) (xs : List Operation) → IsNumber held
      → ((o : Operation) → Contains xs o → IsNumber (value_of o))
      → AllFind names (option_map (text_at names) held) xs → AreAnswered held xs
  answer_numbers held [] known each is = tt
  answer_numbers held (x ∷ xs) known each is =
      let here : IsNumber (value_in x.act) = each x (contains_here x xs) in (
        answers_number held x.act known here is.0,
        answer_numbers (held_after held x.act) xs (still_number held x.act known here)
            (λ o among. each o (contains_there x o xs among))
            (subst (λ now. AllFind names now xs) (holds_number names held x.act) is.1),
      )

-- ---- what is judged
module _ (history : History) (judged : Judged) (is : IsJudgedOf history judged)
    (kept : IsSound history) where
  abbrev names : List Text
  names = history.names

  abbrev ops : List Keyed
  ops = judged.operations.items

  abbrev judgements : List (Option Judgement)
  judgements = judged.judgements.items

  abbrev all_ops : ℕ → List Operation
  all_ops key = of_key key (all_of history)

  abbrev key_ops : ℕ → List Operation
  key_ops key = of_key key ops

  into : (key : ℕ) (o : Operation) → Contains (all_ops key) o → Contains (key_ops key) o
  into key o among = operating.key_into history kept ops is.same is.order key o among

  from : (key : ℕ) (o : Operation) → Contains (key_ops key) o → Contains (all_ops key) o
  from key o among = operating.key_from history kept ops is.same is.order key o among

  -- texts instead of numbers, and back
  linear_text : (key : Text) → IsLinearizable (all_ops (number_of names key)) → IsLinear history key
  linear_text key (order, it) = (
    order,
    record {
      taken = it.taken;
      complete = it.complete;
      once = it.once;
      in_time = it.in_time;
      found = find_numbers names None order it.answered;
    },
  )

  linear_number : (key : Text) → IsLinear history key → IsLinearizable (all_ops (number_of names key))
  linear_number key (order, it) = (
    order,
    record {
      taken = it.taken;
      complete = it.complete;
      once = it.once;
      in_time = it.in_time;
      answered = answer_numbers names kept.apart None order (λ v e. absurd (cc))
          (λ o among v e. operating.value_named history kept
          (with_key (number_of names key) o)
          (from_key (number_of names key) (all_of history) o (it.taken o among)) v e)
          it.found;
    },
  )

  -- a key whose number no text has has no operation
  unnamed : (key : ℕ) → length names ≤ key → key_ops key ≡ []
  unnamed key past = empty (key_ops key) (λ o among.
      let less = operating.key_named history kept (with_key key o)
      (from_key key (all_of history) o (from key o among)) in omega arith)

  one_judged : (key : Text) (judgement : Option Judgement)
      → IsJudgedInTime (key_ops (number_of names key)) judgement → IsJudgement history key judgement
  one_judged key None not =
      absurd (not (operating.in_time history kept ops is.same is.order (number_of names key)))
  one_judged key (Some Linearizable) it =
      let n = number_of names key in
      linear_text key (linear_there (key_ops n) (all_ops n) (from n) (into n) it.1)
  one_judged key (Some (Not evidence)) it =
      let n = number_of names key in (
        shows_there (key_ops n) (all_ops n) (from n) (into n) evidence it.1,
        λ linear. it.2 (linear_there (all_ops n) (key_ops n) (into n) (from n) (linear_number key linear)),
      )
  one_judged key (Some (Twice one other)) (v, of_one, of_other, differ) =
      let n = number_of names key in
      differ (operating.once history kept ops is.same is.order n one other v
      of_one.within of_other.within of_one.act of_other.act)

  each : (key : Text) → IfSome (slice_get judgements (number_of names key)) (IsJudgement history key)
  each key = by (slice_get judgements (number_of names key)) (is.each (number_of names key))
    where
      by : (o : Option (Option Judgement)) → IfSome o (IsJudgedInTime (key_ops (number_of names key)))
          → IfSome o (IsJudgement history key)
      by None it = tt
      by (Some judgement) it = one_judged key judgement it

  others : (key : Text) → length judgements ≤ number_of names key → operations_of history key ≡ []
  others key past =
      let n = number_of names key in
      let none = is.others n past in
      empty (all_ops n) (λ o among.
      contains_none o (subst (λ os. Contains os o) none (into n o among)))

  -- all together
  all_linear : All (λ it. it ≡ Some Linearizable) judgements → (key : Text) → IsLinear history key
  all_linear all key = by (slice_get judgements n) refl (each key)
    where
      n : ℕ
      n = number_of names key

      by : (o : Option (Option Judgement)) → slice_get judgements n ≡ o
          → IfSome o (IsJudgement history key) → IsLinear history key
      by None e it = linear_text key (subst IsLinearizable (sym (others key (past (nat_lt n (length judgements)) refl))) nothing_is_linearizable)
        where
          past : (b : Bool) → nat_lt n (length judgements) ≡ b → length judgements ≤ n
          past true less =
              let z : None ≡ Some (get_or judgements n None) = sym e ∙ slice_get-get_or judgements n None (ltb-true n (length judgements) less) in
              absurd (cc)
          past false less = ltb-false n (length judgements) less
      by (Some judgement) e it =
          let same = sym (get_or_from_slice_get judgements n judgement judgement e)
          ∙ all n judgement (slice_get_within judgements n judgement e) in
          subst (IsJudgement history key) same it

  -- a number whose text is linearizable
  number_linear : ((key : Text) → IsLinear history key) → (n : ℕ) → IsLinearizable (key_ops n)
  number_linear linear n = by (nat_lt n (length names)) refl
    where
      by : (b : Bool) → nat_lt n (length names) ≡ b → IsLinearizable (key_ops n)
      by true less =
          let same = number_of_text names kept.apart n (ltb-true n (length names) less) in
          linear_there (all_ops n) (key_ops n) (into n) (from n)
          (subst (λ k. IsLinearizable (all_ops k)) same (linear_number (text_at names n) (linear (text_at names n))))
      by false less =
          subst IsLinearizable (sym (unnamed n (ltb-false n (length names) less))) nothing_is_linearizable

  judged_linear : (n : ℕ) (judgement : Option Judgement) → IsLinearizable (key_ops n)
      → IsJudgedInTime (key_ops n) judgement → judgement ≡ Some Linearizable
  judged_linear n None linear not =
      absurd (not (operating.in_time history kept ops is.same is.order n))
  judged_linear n (Some Linearizable) linear it = refl
  judged_linear n (Some (Not evidence)) linear it = absurd (it.2 linear)
  judged_linear n (Some (Twice one other)) linear (v, of_one, of_other, differ) =
      absurd (differ (operating.once history kept ops is.same is.order n one other v
      of_one.within of_other.within of_one.act of_other.act))

  linear_all : ((key : Text) → IsLinear history key) → All (λ it. it ≡ Some Linearizable) judgements
  linear_all linear k d below =
      judged_linear k (get_or judgements k d) (number_linear linear k)
      (subst (λ o. IfSome o (IsJudgedInTime (key_ops k))) (slice_get-get_or judgements k d below) (is.each k))

  pub are_judged : AreJudged history judged
  are_judged = record {
    same = is.same;
    apart = kept.apart;
    each = each;
    others = others;
    all = ((λ all. all_linear all), (λ linear. linear_all linear));
  }

pub read_are_judged : ReadAreJudged
read_are_judged known bytes history judged read is =
    are_judged history judged is (read_is_sound known bytes history read)
