-- what an operation more changes of what is seen
use Rattle.std.proofs.Common.{inl, inr, ◌⊎◌, ◌≡◌, ℕ, ◌+◌, ◌<◌, ◌≤◌, Bool, true, false, cond, nat_lt, List, [], ◌∷◌, ◌++◌, length, take, get_or, set, Some, None, Option, refl, sym, ap, subst, ◌∙◌, arith, ltb-true, ltb-false}
use Rattle.std.specs.List.{Contains}
use Rattle.std.proofs.lemmas.List.{get_or_default, take_more, get_or-set_same, get_or-set_other, get_or-take, length-take-le, length-set}
use Rattle.std.proofs.lemmas.List.Elements.{Contains-push, Contains-push_cases, Contains-append_left, Contains-get_or}
use Rattle.std.proofs.lemmas.Bool.{cases_eq}
use Rattle.fy_registers.specs.declared.operation.Act.{Act}
use Rattle.fy_registers.specs.declared.operation.Act.TheVariants.{Write, Read}
use Rattle.fy_registers.specs.declared.operation.Operation.{Operation}
use Rattle.fy_registers.specs.declared.zone.Ended.{Ended}
use Rattle.fy_registers.specs.declared.zone.Seen.{Seen}
use Rattle.fy_registers.specs.Linear.{value_in, value_of, HasEnded, IsHistory}
use Rattle.fy_registers.specs.Evidence.{IsWriteOf}
use Rattle.fy_registers.specs.Zones.{HasRoom, next_write, next_ended, AreEnded, IsSeen}

module _ (done : List Operation) (o : Operation) where
  abbrev more : List Operation
  more = done ++ o ∷ []

  kept : (x : Operation) → Contains done x → Contains more x
  kept x among = Contains-append_left done (o ∷ []) x among

  -- ---- an operation of another value
  module _ (v : ℕ) (other : value_of o ≡ Some v → ⊥) where
    before : (x : Operation) → Contains more x → value_of x ≡ Some v → Contains done x
    before x among value = go (Contains-push_cases done o x among)
      where
        go : Contains done x ⊎ (o ≡ x) → Contains done x
        go (inl there) = there
        go (inr is) = absurd (other (ap value_of is ∙ value))

    ended_kept : (e : Ended) → AreEnded done v e → AreEnded more v e
    ended_kept e are = record {
      first = kept e.first are.first;
      first_value = are.first_value;
      first_end = are.first_end;
      least = λ x among value end ended. are.least x (before x among value) value end ended;
      last = kept e.last are.last;
      last_value = are.last_value;
      last_ended = are.last_ended;
      latest = λ x among value ended. are.latest x (before x among value) value ended;
    }

    pub seen_still : (s : Seen) → IsSeen done v s → IsSeen more v s
    seen_still s seen = record {
      write = λ x e. let writes = seen.write x e in record { within = kept x writes.within; act = writes.act };
      written = λ x writes. seen.written x (record { within = before x writes.within (ap value_in writes.act); act = writes.act });
      ended = λ e is. ended_kept e (seen.ended e is);
      all_ended = λ x among value ended. seen.all_ended x (before x among value) value ended;
    }

  -- ---- an operation of this value
  module _ (v : ℕ) (value_is : value_of o ≡ Some v) (newest : (x : Operation) → Contains done x → x.began < o.began) where
    here : Contains more o
    here = Contains-push done o

    in_more : (P : Operation → Type 0) → ((x : Operation) → Contains done x → P x) → P o → (x : Operation) → Contains more x → P x
    in_more P old new x among = go (Contains-push_cases done o x among)
      where
        go : Contains done x ⊎ (o ≡ x) → P x
        go (inl there) = old x there
        go (inr is) = subst P is new

    writes_more : (s : Seen) → IsSeen done v s → (act : Act) → o.act ≡ act → (x : Operation) → next_write s.write o act ≡ Some x → IsWriteOf more v x
    writes_more s seen (Write u) is x e =
        let same : o ≡ x = cc in
        let values : Some u ≡ Some v = ap value_in (sym is) ∙ value_is in
        let equal : u ≡ v = cc in
        subst (λ q. IsWriteOf more v q) same (record { within = here; act = is ∙ ap Write equal })
    writes_more s seen (Read answer) is x e = let writes = seen.write x e in record { within = kept x writes.within; act = writes.act }

    written_more : (s : Seen) → IsSeen done v s → (act : Act) → o.act ≡ act → (x : Operation) → IsWriteOf more v x → (w : Operation) × (next_write s.write o act ≡ Some w)
    written_more s seen (Write u) is x writes = (o, refl)
    written_more s seen (Read answer) is x writes = go (Contains-push_cases done o x writes.within)
      where
        go : Contains done x ⊎ (o ≡ x) → (w : Operation) × (s.write ≡ Some w)
        go (inl there) = seen.written x (record { within = there; act = writes.act })
        go (inr same) = let acts : Read answer ≡ Write v = sym is ∙ ap (λ (q : Operation). q.act) same ∙ writes.act in absurd (let z : ⊥ = cc in z)

    -- where it hasn't ended, those that ended are the same
    ended_old : o.ended ≡ None → (e : Ended) → AreEnded done v e → AreEnded more v e
    ended_old none e are = record {
      first = kept e.first are.first;
      first_value = are.first_value;
      first_end = are.first_end;
      least = in_more (λ x. value_of x ≡ Some v → (end : ℕ) → x.ended ≡ Some end → e.end ≤ end) are.least (λ value end ended. let z : ⊥ = cc in absurd z);
      last = kept e.last are.last;
      last_value = are.last_value;
      last_ended = are.last_ended;
      latest = in_more (λ x. value_of x ≡ Some v → HasEnded x → x.began ≤ e.last.began) are.latest (λ value (end, ended). let z : ⊥ = cc in absurd z);
    }

    -- it is the last one that ended, and the first where no other ended earlier
    ended_first : (end : ℕ) → o.ended ≡ Some end → ((x : Operation) → Contains done x → value_of x ≡ Some v → (at : ℕ) → x.ended ≡ Some at → end ≤ at) → AreEnded more v (record { first = o; end = end; last = o })
    ended_first end ends least = record {
      first = here;
      first_value = value_is;
      first_end = ends;
      least = in_more (λ x. value_of x ≡ Some v → (at : ℕ) → x.ended ≡ Some at → end ≤ at) least (λ value at ended. let same : end ≡ at = cc in omega arith);
      last = here;
      last_value = value_is;
      last_ended = (end, ends);
      latest = in_more (λ x. value_of x ≡ Some v → HasEnded x → x.began ≤ o.began) (λ x among value ended. let less = newest x among in omega arith) (λ value ended. omega arith);
    }

    ended_later : (end : ℕ) → o.ended ≡ Some end → (e : Ended) → AreEnded done v e → e.end ≤ end → AreEnded more v (record { first = e.first; end = e.end; last = o })
    ended_later end ends e are later = record {
      first = kept e.first are.first;
      first_value = are.first_value;
      first_end = are.first_end;
      least = in_more (λ x. value_of x ≡ Some v → (at : ℕ) → x.ended ≡ Some at → e.end ≤ at) are.least (λ value at ended. let same : end ≡ at = cc in omega arith);
      last = here;
      last_value = value_is;
      last_ended = (end, ends);
      latest = in_more (λ x. value_of x ≡ Some v → HasEnded x → x.began ≤ o.began) (λ x among value ended. let less = newest x among in omega arith) (λ value ended. omega arith);
    }

    earlier : (end : ℕ) → o.ended ≡ Some end → (e : Ended) → AreEnded done v e → (b : Bool) → nat_lt end e.end ≡ b → AreEnded more v (cond b (record { first = o; end = end; last = o }) (record { first = e.first; end = e.end; last = o }))
    earlier end ends e are true is = ended_first end ends (λ x among value at ended. let low = are.least x among value at ended in let less = ltb-true end e.end is in omega arith)
    earlier end ends e are false is = ended_later end ends e are (ltb-false end e.end is)

    ended_more : (s : Seen) → IsSeen done v s → (old : Option Ended) → s.ended ≡ old → (ended : Option ℕ) → o.ended ≡ ended → (e : Ended) → next_ended old o ended ≡ Some e → AreEnded more v e
    ended_more s seen old was None is e now = ended_old is e (seen.ended e (was ∙ now))
    ended_more s seen None was (Some end) is e now =
        let same : record { first = o; end = end; last = o } ≡ e = cc in
        subst (λ q. AreEnded more v q) same
        (ended_first end is (λ x among value at ended. let some = seen.all_ended x among value (at, ended) in let none : None ≡ Some some.0 = sym was ∙ some.1 in absurd (let z : ⊥ = cc in z)))
    ended_more s seen (Some f) was (Some end) is e now =
        let same : cond (nat_lt end f.end) (record { first = o; end = end; last = o }) (record { first = f.first; end = f.end; last = o }) ≡ e = cc in
        subst (λ q. AreEnded more v q) same (earlier end is f (seen.ended f was) (nat_lt end f.end) refl)

    all_more : (s : Seen) → IsSeen done v s → (old : Option Ended) → s.ended ≡ old → (ended : Option ℕ) → o.ended ≡ ended → (x : Operation) → Contains more x → value_of x ≡ Some v → HasEnded x → (e : Ended) × (next_ended old o ended ≡ Some e)
    all_more s seen old was None is x among value ended = go (Contains-push_cases done o x among)
      where
        go : Contains done x ⊎ (o ≡ x) → (e : Ended) × (old ≡ Some e)
        go (inl there) = let some = seen.all_ended x there value ended in (some.0, sym was ∙ some.1)
        go (inr same) = let none : None ≡ Some ended.0 = sym is ∙ ap (λ (q : Operation). q.ended) same ∙ ended.1 in absurd (let z : ⊥ = cc in z)
    all_more s seen None was (Some end) is x among value ended = (record { first = o; end = end; last = o }, refl)
    all_more s seen (Some f) was (Some end) is x among value ended = (cond (nat_lt end f.end) (record { first = o; end = end; last = o }) (record { first = f.first; end = f.end; last = o }), refl)

    pub seen_more : (s : Seen) → IsSeen done v s → IsSeen more v (record { write = next_write s.write o o.act; ended = next_ended s.ended o o.ended })
    seen_more s seen = record {
      write = writes_more s seen o.act refl;
      written = written_more s seen o.act refl;
      ended = ended_more s seen s.ended refl o.ended refl;
      all_ended = all_more s seen s.ended refl o.ended refl;
    }

-- ---- the table
-- what is seen of each value in the first operations
abbrev pub SeenSoFar : List Operation → ℕ → List Seen → Type 0
SeenSoFar h i table = HasRoom h (length table) × ((v : ℕ) (d : Seen) → v < length table → IsSeen (take i h) v (get_or table v d))

-- those before an operation began before it
pub began_before : (h : List Operation) → IsHistory h → (i : ℕ) (o : Operation) → i < length h → ((d : Operation) → get_or h i d ≡ o) → (x : Operation) → Contains (take i h) x → x.began < o.began
began_before h history i o below at x (k, less, is) =
    let size = length-take-le i h (omega arith) in
    let inside : k < i = omega arith in
    let there : get_or h k x ≡ x = sym (get_or-take i h k x inside) ∙ is in
    let row = history.in_order k i x inside below in
    subst (λ (q : Operation). q.began < o.began) there (subst (λ (q : Operation). (get_or h k x).began < q.began) (at x) row)

module _ (h : List Operation) (history : IsHistory h) (i : ℕ) (o : Operation) (below : i < length h) (at : (d : Operation) → get_or h i d ≡ o) where
  pub next_is : take (i + 1) h ≡ take i h ++ o ∷ []
  next_is = take_more h i o below ∙ ap (λ q. take i h ++ q ∷ []) (at o)

  -- an operation without a value leaves the table
  pub table_still : (table : List Seen) → SeenSoFar h i table → value_of o ≡ None → SeenSoFar h (i + 1) table
  table_still table so_far none = (
    so_far.0,
    λ v d less. subst (λ xs. IsSeen xs v (get_or table v d)) (sym next_is)
        (seen_still (take i h) o v (λ e. let x : None ≡ Some v = sym none ∙ e in cc) (get_or table v d) (so_far.1 v d less)),
  )

  -- an operation of a value is added there
  pub table_more : (table : List Seen) → SeenSoFar h i table
      → (v : ℕ) → v < length table → value_of o ≡ Some v → (s s' : Seen) → ((d : Seen) → get_or table v d ≡ s) → s' ≡ record { write = next_write s.write o o.act; ended = next_ended s.ended o o.ended }
      → SeenSoFar h (i + 1) (set table v s')
  table_more table so_far v inside value s s' was now = ((λ x among u e. subst (λ n. u < n) (sym (length-set table v s')) (so_far.0 x among u e)), λ u d less. go u d less (cases_eq u v))
    where
      at_value : (d : Seen) → IsSeen (take (i + 1) h) v (get_or (set table v s') v d)
      at_value d = subst (λ q. IsSeen (take (i + 1) h) v q) (sym (get_or-set_same table v s' d inside ∙ now))
          (subst (λ xs. IsSeen xs v (record { write = next_write s.write o o.act; ended = next_ended s.ended o o.ended })) (sym next_is)
          (seen_more (take i h) o v value (began_before h history i o below at) s (subst (λ q. IsSeen (take i h) v q) (was d) (so_far.1 v d inside))))

      go : (u : ℕ) (d : Seen) → u < length (set table v s') → (u ≡ v) ⊎ (u ≡ v → ⊥) → IsSeen (take (i + 1) h) u (get_or (set table v s') u d)
      go u d less (inl same) = subst (λ q. IsSeen (take (i + 1) h) q (get_or (set table v s') q d)) (sym same) (at_value d)
      go u d less (inr other) =
          let size = length-set table v s' in
          subst (λ q. IsSeen (take (i + 1) h) u q) (sym (get_or-set_other table v u s' d other))
          (subst (λ xs. IsSeen xs u (get_or table u d)) (sym next_is)
          (seen_still (take i h) o u (λ e. other (let both : Some u ≡ Some v = sym e ∙ value in let equal : u ≡ v = cc in equal)) (get_or table u d) (so_far.1 u d (omega arith))))

-- ---- a step of the loop
module _ (h : List Operation) (history : IsHistory h) (i : ℕ) (d0 : Operation) (below : i < length h) (table : List Seen) (so_far : SeenSoFar h i table) where
  pub seen_step : (v : ℕ) → value_of (get_or h i d0) ≡ Some v → (s : Seen) → s ≡ get_or table v s
      → (write : Option Operation) → write ≡ next_write s.write (get_or h i d0) (get_or h i d0).act
      → (ended : Option Ended) → ended ≡ next_ended s.ended (get_or h i d0) (get_or h i d0).ended
      → SeenSoFar h (i + 1) (set table v (record { write = write; ended = ended }))
  seen_step v value s is write write_is ended ended_is =
      let inside : v < length table = so_far.0 (get_or h i d0) (Contains-get_or h i d0 below) v value in
      table_more h history i (get_or h i d0) below (λ d. get_or_default h i d d0 below) table so_far v inside value s (record { write = write; ended = ended })
      (λ d. get_or_default table v d s inside ∙ sym is)
      (λ k. record { write = write_is k; ended = ended_is k })

  pub seen_same : value_of (get_or h i d0) ≡ None → SeenSoFar h (i + 1) table
  seen_same none = table_still h history i (get_or h i d0) below (λ d. get_or_default h i d d0 below) table so_far none
