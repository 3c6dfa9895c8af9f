-- the operations of a history that was read: none ended before it began, and each value is written
-- once
use Rattle.std.proofs.Common.{inl, inr, ◌⊎◌, ◌≡◌, ◌≢◌, ◌∙◌, ℕ, ◌<◌, ◌≤◌, Bool, true, false, List, length, get_or, Option, None, Some, nat_eq, refl, sym, ap, subst, arith, eq-eqb, ne_eqb}
use Rattle.std.specs.List.{Contains, AllPairs, IsDistinct, filter_map}
use Rattle.std.specs.List.Sorted.{IsPermutation, IsNonDecreasingBy}
use Rattle.std.proofs.lemmas.List.Elements.{Contains-append_cases, Contains-get_or}
use Rattle.std.proofs.lemmas.List.Sorted.{Contains-permutation, IsPermutation-sym}
use Rattle.std.proofs.lemmas.Map.Keys.{apart_from_distinct, IsDistinct-from_apart, IsDistinct-IsPermutation}
use Rattle.std.specs.Cmp.{nat_eq_equiv}
use Rattle.fy_history.specs.Sound.{write_line, read_line, IsSound}
use Rattle.fy_history.specs.declared.history.Place.{Place}
use Rattle.fy_history.specs.declared.history.End.{End}
use Rattle.fy_history.specs.declared.history.End.TheVariants.{Open, Done, Undone, Refused, Unknown}
use Rattle.fy_history.specs.declared.history.Write.{Write}
use Rattle.fy_history.specs.declared.history.Answer.{Answer}
use Rattle.fy_history.specs.declared.history.Answer.TheVariants.{Unanswered, Nothing, Value}
use Rattle.fy_history.specs.declared.history.Read.{Read}
use Rattle.fy_history.specs.declared.history.History.{History}
use Rattle.fy_registers.specs.declared.operation.Act.TheVariants as act
use Rattle.fy_registers.specs.declared.operation.Operation.{Operation}
use Rattle.fy_registers.specs.declared.keyed.Keyed.{Keyed}
use Rattle.fy_registers.specs.Linear.{value_in, value_of, IsWrittenOnce}
use Rattle.fy_registers.specs.Keys.{of_key}
use Rattle.fy_registers.proofs.Lists.{pairs_append}
use Rattle.fy_registers.proofs.KeyParts.{with_key, from_key, into_key, pairs_of_key}
use Rattle.fy_values.specs.Values.{EndsInTime, IsInTime}
use Rattle.fy_keys.specs.Operations.{line_of, operation, written_by, written, answered_by, answered, all_of, began_of}
use Rattle.fy_history.proofs.Members.{one_member}
use Rattle.fy_keys.proofs.Members.{filter_map_from, filter_map_pairs}

-- ---- what an operation has of the history
abbrev SamePair : Write → Write → Type 0
SamePair a b = (a.key ≡ b.key) × (a.value ≡ b.value)

-- where it ended is where the history says so
abbrev EndsAs : Option Place → Option ℕ → Type 0
EndsAs place ended = (end : ℕ) → ended ≡ Some end → (p : Place) × (place ≡ Some p) × (p.line ≡ end)

ends_there : (place : Option Place) → EndsAs place (line_of place)
ends_there None end e = absurd (cc)
ends_there (Some p) end e = (p, refl, cc)

ends_never : (place : Option Place) → EndsAs place None
ends_never place end e = absurd (cc)

pub record IsOfWrite (w : Write) (o : Keyed) : Type 0 where
  pub key : o.key ≡ w.key
  pub act : o.operation.act ≡ act.Write w.value
  pub began : began_of o ≡ write_line w
  pub ends : EndsAs w.ended o.operation.ended

made_write : (w : Write) (o : Keyed) (ended : Option ℕ) → EndsAs w.ended ended
    → Some (operation w.key (act.Write w.value) w.began ended) ≡ Some o → IsOfWrite w o
made_write w o ended ends e =
    let is : operation w.key (act.Write w.value) w.began ended ≡ o = cc in
    subst (IsOfWrite w) is (record { key = refl; act = refl; began = refl; ends = ends })

of_write : (w : Write) (o : Keyed) → written w ≡ Some o → IsOfWrite w o
of_write w o = by w.end
  where
    by : (end : End) → written_by end w ≡ Some o → IsOfWrite w o
    by Open e = made_write w o None (ends_never w.ended) e
    by Done e = made_write w o (line_of w.ended) (ends_there w.ended) e
    by Undone e = absurd (cc)
    by Refused e = made_write w o None (ends_never w.ended) e
    by Unknown e = made_write w o None (ends_never w.ended) e

pub record IsOfRead (r : Read) (o : Keyed) : Type 0 where
  pub key : o.key ≡ r.key
  pub answer : Option ℕ
  pub act : o.operation.act ≡ act.Read answer
  pub value : (v : ℕ) → answer ≡ Some v → r.answer ≡ Value v
  pub began : began_of o ≡ read_line r
  pub ends : EndsAs r.ended o.operation.ended

made_read : (r : Read) (o : Keyed) (answer : Option ℕ) → ((v : ℕ) → answer ≡ Some v → r.answer ≡ Value v)
    → Some (operation r.key (act.Read answer) r.began (line_of r.ended)) ≡ Some o → IsOfRead r o
made_read r o answer value e =
    let is : operation r.key (act.Read answer) r.began (line_of r.ended) ≡ o = cc in
    subst (IsOfRead r) is (record {
      key = refl;
      answer = answer;
      act = refl;
      value = value;
      began = refl;
      ends = ends_there r.ended;
    })

of_read : (r : Read) (o : Keyed) → answered r ≡ Some o → IsOfRead r o
of_read r o = by r.node r.answer refl
  where
    by : (node : Option ℕ) (answer : Answer) → r.answer ≡ answer → answered_by node answer r ≡ Some o → IsOfRead r o
    by (Some node) answer is e = absurd (cc)
    by None Unanswered is e = absurd (cc)
    by None Nothing is e = made_read r o None (λ v none. absurd (cc)) e
    by None (Value value) is e = made_read r o (Some value) (λ v some. is ∙ ap Value (cc)) e

module _ (history : History) (sound : IsSound history) where
  abbrev writes : List Write
  writes = history.writes.items

  abbrev reads : List Read
  reads = history.reads.items

  -- an operation is of a write or a read
  source : (o : Keyed) → Contains (all_of history) o
      → ((w : Write) × Contains writes w × IsOfWrite w o) ⊎ ((r : Read) × Contains reads r × IsOfRead r o)
  source o among = go (Contains-append_cases (filter_map written writes) (filter_map answered reads) o among)
    where
      go : Contains (filter_map written writes) o ⊎ Contains (filter_map answered reads) o
          → ((w : Write) × Contains writes w × IsOfWrite w o) ⊎ ((r : Read) × Contains reads r × IsOfRead r o)
      go (inl there) = let its = filter_map_from written writes o there in
          inl (its.0, its.1, of_write its.0 o its.2)
      go (inr there) = let its = filter_map_from answered reads o there in
          inr (its.0, its.1, of_read its.0 o its.2)

  -- no two begin at one line
  abbrev Elsewhere : Keyed → Keyed → Type 0
  Elsewhere one other = began_of one ≡ began_of other → ⊥

  pub begin_apart : AllPairs Elsewhere (all_of history)
  begin_apart = pairs_append Elsewhere (filter_map written writes) (filter_map answered reads)
      (filter_map_pairs written (λ one later. write_line one < write_line later) Elsewhere
      (λ a b y z y_is z_is less e. let ya = (of_write a y y_is).began in
      let zb = (of_write b z z_is).began in omega arith) writes sound.writes_rise)
      (filter_map_pairs answered (λ one later. read_line one < read_line later) Elsewhere
      (λ a b y z y_is z_is less e. let ya = (of_read a y y_is).began in
      let zb = (of_read b z z_is).began in omega arith) reads sound.reads_rise)
      (λ y z y_in z_in e. let w = filter_map_from written writes y y_in in
      let r = filter_map_from answered reads z z_in in
      sound.elsewhere w.0 r.0 w.1 r.1
      (sym (of_write w.0 y w.2).began ∙ e ∙ (of_read r.0 z r.2).began))

  -- none ends before it began
  pub end_late : (o : Keyed) → Contains (all_of history) o → EndsInTime o.operation
  end_late o among end e = go (source o among)
    where
      go : ((w : Write) × Contains writes w × IsOfWrite w o) ⊎ ((r : Read) × Contains reads r × IsOfRead r o)
          → began_of o ≤ end
      go (inl its) =
          let at = its.2.ends end e in
          let late = (sound.each_write its.0 its.1).ends at.0 at.1 in
          let began = its.2.began in let line = at.2 in omega arith
      go (inr its) =
          let at = its.2.ends end e in
          let late = (sound.each_read its.0 its.1).ends at.0 at.1 in
          let began = its.2.began in let line = at.2 in omega arith

  -- keys and values are numbers of texts
  pub key_named : (o : Keyed) → Contains (all_of history) o → o.key < length history.names
  key_named o among = go (source o among)
    where
      go : ((w : Write) × Contains writes w × IsOfWrite w o) ⊎ ((r : Read) × Contains reads r × IsOfRead r o)
          → o.key < length history.names
      go (inl its) = let less = (sound.each_write its.0 its.1).key in let is = its.2.key in omega arith
      go (inr its) = let less = (sound.each_read its.0 its.1).key in let is = its.2.key in omega arith

  pub value_named : (o : Keyed) → Contains (all_of history) o → (v : ℕ) → value_of o.operation ≡ Some v
      → v < length history.names
  value_named o among v e = go (source o among)
    where
      go : ((w : Write) × Contains writes w × IsOfWrite w o) ⊎ ((r : Read) × Contains reads r × IsOfRead r o)
          → v < length history.names
      go (inl its) =
          let same : Some its.0.value ≡ Some v = sym (ap value_in its.2.act) ∙ e in
          let is : its.0.value ≡ v = cc in
          let less = (sound.each_write its.0 its.1).value in omega arith
      go (inr its) =
          (sound.each_read its.0 its.1).value v (its.2.value v (sym (ap value_in its.2.act) ∙ e))

  -- no value of a key is written twice
  pub written_once : (one other : Keyed) (v : ℕ) → Contains (all_of history) one
      → Contains (all_of history) other → one.key ≡ other.key → one.operation.act ≡ act.Write v
      → other.operation.act ≡ act.Write v → began_of one ≡ began_of other
  written_once one other v one_in other_in keys one_wrote other_wrote =
      go (source one one_in) (source other other_in)
    where
      go : ((w : Write) × Contains writes w × IsOfWrite w one) ⊎ ((r : Read) × Contains reads r × IsOfRead r one)
          → ((w : Write) × Contains writes w × IsOfWrite w other) ⊎ ((r : Read) × Contains reads r × IsOfRead r other)
          → began_of one ≡ began_of other
      go (inl a) (inl b) =
          let a_value : act.Write a.0.value ≡ act.Write v = sym a.2.act ∙ one_wrote in
          let b_value : act.Write b.0.value ≡ act.Write v = sym b.2.act ∙ other_wrote in
          let values : a.0.value ≡ b.0.value = cc in
          let same_keys : a.0.key ≡ b.0.key = sym a.2.key ∙ keys ∙ b.2.key in
          a.2.began
          ∙ ap write_line (one_member SamePair writes
          (λ i j d less below is. sound.once i j d less below is.0 is.1) a.0 b.0 a.1 b.1
          (same_keys, values) (sym same_keys, sym values))
          ∙ sym b.2.began
      go (inl a) (inr b) = let z : act.Read b.2.answer ≡ act.Write v = sym b.2.act ∙ other_wrote in absurd (cc)
      go (inr a) b = let z : act.Read a.2.answer ≡ act.Write v = sym a.2.act ∙ one_wrote in absurd (cc)

  -- ---- the operations as they began
  module _ (ops : List Keyed) (same : IsPermutation (all_of history) ops)
      (order : IsNonDecreasingBy began_of ops) where
    pub into_ops : (o : Keyed) → Contains (all_of history) o → Contains ops o
    into_ops o among = Contains-permutation (all_of history) ops o same among

    pub from_ops : (o : Keyed) → Contains ops o → Contains (all_of history) o
    from_ops o among =
        Contains-permutation ops (all_of history) o (IsPermutation-sym (all_of history) ops same) among

    abbrev Earlier : Keyed → Keyed → Type 0
    Earlier one later = began_of one < began_of later

    abbrev at_one : Keyed → Keyed → Bool
    at_one one other = nat_eq (began_of one) (began_of other)

    rise : AllPairs Earlier ops
    rise i j d less below =
        let apart : IsDistinct at_one ops = IsDistinct-IsPermutation at_one
        (λ x y. nat_eq_equiv.symm (began_of x) (began_of y)) (all_of history) ops same
        (IsDistinct-from_apart at_one (all_of history)
        (λ k l e before within. ne_eqb _ _ (begin_apart k l e before within))) in
        let no = apart_from_distinct at_one ops i j d apart less below in
        let up : began_of (get_or ops i d) ≤ began_of (get_or ops j d) = order i j d (omega arith) below in
        let differ : began_of (get_or ops i d) ≢ began_of (get_or ops j d) =
        λ is. let z : true ≡ false = sym (eq-eqb _ _ is) ∙ no in cc in
        omega arith

    pub in_time : (key : ℕ) → IsInTime (of_key key ops)
    in_time key = record {
      in_order = pairs_of_key Earlier (λ one later. one.began < later.began) key (λ o p less. less) ops rise;
      each = λ k d below. end_late (with_key key (get_or (of_key key ops) k d))
          (from_ops _ (from_key key ops _ (Contains-get_or (of_key key ops) k d below)));
    }

    -- the operations of a key are those of the history
    pub key_into : (key : ℕ) (o : Operation) → Contains (of_key key (all_of history)) o → Contains (of_key key ops) o
    key_into key o among = into_key key ops o (into_ops _ (from_key key (all_of history) o among))

    pub key_from : (key : ℕ) (o : Operation) → Contains (of_key key ops) o → Contains (of_key key (all_of history)) o
    key_from key o among = into_key key (all_of history) o (from_ops _ (from_key key ops o among))

    pub once : (key : ℕ) → IsWrittenOnce (of_key key ops)
    once key one other v one_in other_in one_wrote other_wrote =
        let rising = (in_time key).in_order in
        let begun = written_once (with_key key one) (with_key key other) v
        (from_ops _ (from_key key ops one one_in)) (from_ops _ (from_key key ops other other_in))
        refl one_wrote other_wrote in
        one_member (λ a b. a.began ≡ b.began) (of_key key ops)
        (λ i j d less below is. let rises = rising i j d less below in omega arith)
        one other one_in other_in begun (sym begun)
