-- where evidence is shown there is no order
use Rattle.std.proofs.Common.{inl, inr, ◌⊎◌, ◌≡◌, ◌≢◌, ℕ, List, [], ◌∷◌, Some, None, Option, refl, sym, ap, subst, ◌∙◌}
use Rattle.std.specs.List.{Contains, AllPairs}
use Rattle.fy_registers.specs.declared.operation.Act.{Act}
use Rattle.fy_registers.specs.declared.operation.Act.TheVariants.{Write, Read}
use Rattle.fy_registers.specs.declared.operation.Operation.{Operation}
use Rattle.fy_registers.specs.declared.evidence.Span.{Span}
use Rattle.fy_registers.specs.declared.evidence.Evidence.{Evidence}
use Rattle.fy_registers.specs.declared.evidence.Evidence.TheVariants.{Unwritten, BeforeWrite, Nothing, Conflict}
use Rattle.fy_registers.specs.Linear.{value_in, value_of, HasEnded, IsBefore, held_after, IsAnswered, AreAnswered, IsLinearization, IsWrittenOnce}
use Rattle.fy_registers.specs.Evidence.{IsReadOf, IsWriteOf, IsSpanOf, Shows, EvidenceRefutes}
use Rattle.fy_registers.proofs.Lists.{contains_here, contains_there, contains_cases, contains_none, pairs_head, pairs_tail}

-- one stands before a later one
abbrev Other : Operation → Operation → Type 0
Other one later = one ≢ later

abbrev InTime : Operation → Operation → Type 0
InTime one later = IsBefore later one → ⊥

module _ (h : List Operation) (written_once : IsWrittenOnce h) where
  -- the rest of an order, where nothing writes what is held
  record Runs (held : Option ℕ) (order : List Operation) : Type 0 where
    fresh : (o : Operation) (v : ℕ) → Contains order o → o.act ≡ Write v → held ≡ Some v → ⊥
    taken : (o : Operation) → Contains order o → Contains h o
    once : AllPairs Other order
    in_time : AllPairs InTime order
    answered : AreAnswered held order

  fresh_after : (held : Option ℕ) (p : Operation) (later : List Operation) → Runs held (p ∷ later) → (act : Act) → p.act ≡ act → (o : Operation) (v : ℕ) → Contains later o → o.act ≡ Write v → held_after held act ≡ Some v → ⊥
  fresh_after held p later runs (Write u) is o v among writes holds =
      let same : u ≡ v = cc in
      let p_writes : p.act ≡ Write v = is ∙ ap Write same in
      pairs_head Other p o later runs.once among
      (written_once p o v (runs.taken p (contains_here p later)) (runs.taken o (contains_there p o later among)) p_writes writes)
  fresh_after held p later runs (Read answer) is o v among writes holds = runs.fresh o v (contains_there p o later among) writes holds

  tail : (held : Option ℕ) (p : Operation) (later : List Operation) → Runs held (p ∷ later) → Runs (held_after held p.act) later
  tail held p later runs = record {
    fresh = fresh_after held p later runs p.act refl;
    taken = λ o among. runs.taken o (contains_there p o later among);
    once = pairs_tail Other p later runs.once;
    in_time = pairs_tail InTime p later runs.in_time;
    answered = runs.answered.1;
  }

  -- an operation leaves what it wrote or read
  held_is : (held : Option ℕ) (act : Act) → IsAnswered held act → held_after held act ≡ value_in act
  held_is held (Write v) ok = refl
  held_is held (Read answer) ok = sym ok

  -- what writes a value of which an operation is
  abbrev Writer : List Operation → Option ℕ → Type 0
  Writer order x = (w : Operation) × (v : ℕ) × Contains order w × (w.act ≡ Write v) × (x ≡ Some v)

  -- a value that an operation wrote or read is held already, or written in the order
  here : (held : Option ℕ) (p : Operation) (later : List Operation) → (act : Act) → p.act ≡ act → IsAnswered held act → (x : Option ℕ) → value_in act ≡ x → (held ≡ x) ⊎ Writer (p ∷ later) x
  here held p later (Write v) is ok x e = inr (p, v, contains_here p later, is, sym e)
  here held p later (Read answer) is ok x e = inl (sym ok ∙ e)

  onward : (held : Option ℕ) (p : Operation) (later : List Operation) → (act : Act) → p.act ≡ act → (x : Option ℕ) → (held_after held act ≡ x) ⊎ Writer later x → (held ≡ x) ⊎ Writer (p ∷ later) x
  onward held p later (Write v) is x (inl e) = inr (p, v, contains_here p later, is, sym e)
  onward held p later (Read answer) is x (inl e) = inl e
  onward held p later act is x (inr (w, v, among, writes, e)) = inr (w, v, contains_there p w later among, writes, e)

  found : (held : Option ℕ) (order : List Operation) → Runs held order → (o : Operation) → Contains order o → (x : Option ℕ) → value_of o ≡ x → (held ≡ x) ⊎ Writer order x
  found held [] runs o among x e = absurd (contains_none o among)
  found held (p ∷ later) runs o among x e = go (λ among. found (held_after held p.act) later (tail held p later runs) o among x e) (contains_cases p o later among)
    where
      go : (Contains later o → (held_after held p.act ≡ x) ⊎ Writer later x) → (o ≡ p) ⊎ Contains later o → (held ≡ x) ⊎ Writer (p ∷ later) x
      go recur (inl is) = here held p later p.act refl runs.answered.0 x (ap value_of (sym is) ∙ e)
      go recur (inr among) = onward held p later p.act refl x (recur among)

  -- a value that is held isn't written later, so those behind that have it follow at once
  held_on : (held : Option ℕ) (p : Operation) (later : List Operation) → Runs held (p ∷ later) → (d : Operation) → Contains later d → value_of d ≡ held → held_after held p.act ≡ held
  held_on held p later runs d among e = go (found (held_after held p.act) later (tail held p later runs) d among held e)
    where
      go : (held_after held p.act ≡ held) ⊎ Writer later held → held_after held p.act ≡ held
      go (inl is) = is
      go (inr (w, v, among, writes, is)) = absurd (runs.fresh w v (contains_there p w later among) writes is)

  -- none of another value ends before one of the value that is held begins
  no_return : (held x : Option ℕ) → held ≡ x → (order : List Operation) → Runs held order → (c d : Operation) → Contains order c → Contains order d → value_of d ≡ x → (value_of c ≡ x → ⊥) → IsBefore c d → ⊥
  no_return held x is [] runs c d c_in d_in d_of c_not before = contains_none c c_in
  no_return held x is (p ∷ later) runs c d c_in d_in d_of c_not before =
      go (λ now c_later d_later. no_return (held_after held p.act) x now later (tail held p later runs) c d c_later d_later d_of c_not before) (contains_cases p c later c_in) (contains_cases p d later d_in)
    where
      after_is : Contains later d → held_after held p.act ≡ x
      after_is among = held_on held p later runs d among (d_of ∙ sym is) ∙ is

      go : (held_after held p.act ≡ x → Contains later c → Contains later d → ⊥) → (c ≡ p) ⊎ Contains later c → (d ≡ p) ⊎ Contains later d → ⊥
      go recur (inl c_is) (inl d_is) = c_not (ap value_of (c_is ∙ sym d_is) ∙ d_of)
      go recur (inl c_is) (inr d_later) = c_not (ap value_of c_is ∙ sym (held_is held p.act runs.answered.0) ∙ after_is d_later)
      go recur (inr c_later) (inl d_is) = pairs_head InTime p c later runs.in_time c_later (subst (λ o. IsBefore c o) d_is before)
      go recur (inr c_later) (inr d_later) = recur (after_is d_later) c_later d_later

  -- of two values, not each is there before the other
  no_conflict : (held : Option ℕ) (order : List Operation) → Runs held order → (x y : Option ℕ) → (x ≡ y → ⊥) → (a b c d : Operation) → Contains order a → Contains order b → Contains order c → Contains order d → value_of a ≡ x → value_of b ≡ y → value_of c ≡ y → value_of d ≡ x → IsBefore a b → IsBefore c d → ⊥
  no_conflict held [] runs x y differ a b c d a_in b_in c_in d_in a_of b_of c_of d_of first second = contains_none a a_in
  no_conflict held (p ∷ later) runs x y differ a b c d a_in b_in c_in d_in a_of b_of c_of d_of first second =
      go (λ a_later b_later c_later d_later. no_conflict (held_after held p.act) later (tail held p later runs) x y differ a b c d a_later b_later c_later d_later a_of b_of c_of d_of first second)
      (contains_cases p a later a_in) (contains_cases p b later b_in) (contains_cases p c later c_in) (contains_cases p d later d_in)
    where
      rest : Runs (held_after held p.act) later
      rest = tail held p later runs

      leaves : held_after held p.act ≡ value_of p
      leaves = held_is held p.act runs.answered.0

      early : (o q : Operation) → Contains later o → q ≡ p → IsBefore o q → ⊥
      early o q among is before = pairs_head InTime p o later runs.in_time among (subst (λ z. IsBefore o z) is before)

      go : (Contains later a → Contains later b → Contains later c → Contains later d → ⊥) → (a ≡ p) ⊎ Contains later a → (b ≡ p) ⊎ Contains later b → (c ≡ p) ⊎ Contains later c → (d ≡ p) ⊎ Contains later d → ⊥
      go recur (inl a_is) (inl b_is) _ _ = differ (sym a_of ∙ ap value_of (a_is ∙ sym b_is) ∙ b_of)
      go recur (inr a_later) (inl b_is) _ _ = early a b a_later b_is first
      go recur _ (inr b_later) (inl c_is) (inl d_is) = differ (sym d_of ∙ ap value_of (d_is ∙ sym c_is) ∙ c_of)
      go recur _ (inr b_later) (inr c_later) (inl d_is) = early c d c_later d_is second
      go recur (inl a_is) (inr b_later) (inl c_is) (inr d_later) = differ (sym a_of ∙ ap value_of (a_is ∙ sym c_is) ∙ c_of)
      go recur (inl a_is) (inr b_later) (inr c_later) (inr d_later) =
          no_return (held_after held p.act) x (leaves ∙ ap value_of (sym a_is) ∙ a_of) later rest c d c_later d_later d_of (λ e. differ (sym e ∙ c_of)) second
      go recur (inr a_later) (inr b_later) (inl c_is) (inr d_later) =
          no_return (held_after held p.act) y (leaves ∙ ap value_of (sym c_is) ∙ c_of) later rest a b a_later b_later b_of (λ e. differ (sym a_of ∙ e)) first
      go recur (inr a_later) (inr b_later) (inr c_later) (inr d_later) =
          recur a_later b_later c_later d_later

  -- no read ends before the write of its value begins
  read_behind : (held : Option ℕ) (order : List Operation) → Runs held order → (v : ℕ) (r w : Operation) → Contains order r → Contains order w → r.act ≡ Read (Some v) → w.act ≡ Write v → IsBefore r w → ⊥
  read_behind held [] runs v r w r_in w_in reads writes before = contains_none r r_in
  read_behind held (p ∷ later) runs v r w r_in w_in reads writes before =
      go (λ r_later w_later. read_behind (held_after held p.act) later (tail held p later runs) v r w r_later w_later reads writes before) (contains_cases p r later r_in) (contains_cases p w later w_in)
    where
      answered : (act : Act) → act ≡ Read (Some v) → IsAnswered held act → held ≡ Some v
      answered (Write u) e ok = cc
      answered (Read answer) e ok = let is : answer ≡ Some v = cc in sym ok ∙ is

      go : (Contains later r → Contains later w → ⊥) → (r ≡ p) ⊎ Contains later r → (w ≡ p) ⊎ Contains later w → ⊥
      go recur (inl r_is) (inl w_is) = let e : Read (Some v) ≡ Write v = sym reads ∙ ap (λ (o : Operation). o.act) (r_is ∙ sym w_is) ∙ writes in cc
      go recur (inr r_later) (inl w_is) = pairs_head InTime p r later runs.in_time r_later (subst (λ o. IsBefore r o) w_is before)
      go recur (inl r_is) (inr w_later) = runs.fresh w v (contains_there p w later w_later) writes (answered p.act (ap (λ (o : Operation). o.act) (sym r_is) ∙ reads) runs.answered.0)
      go recur (inr r_later) (inr w_later) = recur r_later w_later

  module _ (order : List Operation) (is : IsLinearization h order) where
    runs : Runs None order
    runs = record {
      fresh = λ o v among writes e. let x : ⊥ = cc in x;
      taken = is.taken;
      once = is.once;
      in_time = is.in_time;
      answered = is.answered;
    }

    -- the write of a value that stands in the order stands there
    writer : (v : ℕ) (o : Operation) → Contains order o → value_of o ≡ Some v → (w : Operation) × Contains order w × (w.act ≡ Write v)
    writer v o among e = go (found None order runs o among (Some v) e)
      where
        go : (None ≡ Some v) ⊎ Writer order (Some v) → (w : Operation) × Contains order w × (w.act ≡ Write v)
        go (inl never) = absurd (let x : ⊥ = cc in x)
        go (inr (w, u, among, writes, e)) = (w, among, writes ∙ ap Write (let same : u ≡ v = cc in same))

    placed : (v : ℕ) (o w : Operation) → Contains order o → value_of o ≡ Some v → Contains h w → w.act ≡ Write v → Contains order w
    placed v o w among e within writes =
        let its = writer v o among e in
        subst (λ z. Contains order z) (written_once its.0 w v (is.taken its.0 its.1) within its.2 writes) its.1

    unwritten : (v : ℕ) (r : Operation) → IsReadOf h (Some v) r → ((o : Operation) → IsWriteOf h v o → ⊥) → ⊥
    unwritten v r reads none =
        let its = writer v r (is.complete r reads.within reads.ended) (ap value_in reads.act) in
        none its.0 (record { within = is.taken its.0 its.1; act = its.2 })

    span_first : (v : ℕ) (s : Span) → IsSpanOf h v s → HasEnded s.first → Contains order s.first
    span_first v s span ended = is.complete s.first span.first ended

    span_last : (v : ℕ) (s : Span) → IsSpanOf h v s → HasEnded s.first → Contains order s.last
    span_last v s span ended = go span.last_done
      where
        go : HasEnded s.last ⊎ (s.last.act ≡ Write v) → Contains order s.last
        go (inl done) = is.complete s.last span.last done
        go (inr writes) = placed v s.first s.last (span_first v s span ended) span.first_value span.last writes

    ended_of : (a b : Operation) → IsBefore a b → HasEnded a
    ended_of a b (end, at, less) = (end, at)

    pub refuted : (evidence : Evidence) → Shows h evidence → ⊥
    refuted (Unwritten read) (v, reads, none) = unwritten v read reads none
    refuted (BeforeWrite read write) (v, reads, writes, before) =
        let in_order = is.complete read reads.within reads.ended in
        read_behind None order runs v read write in_order (placed v read write in_order (ap value_in reads.act) writes.within writes.act) reads.act writes.act before
    refuted (Nothing ended read) (v, within, of, reads, before) =
        no_return None None refl order runs ended read (is.complete ended within (ended_of ended read before)) (is.complete read reads.within reads.ended) (ap value_in reads.act) (λ e. let x : None ≡ Some v = sym e ∙ of in cc) before
    refuted (Conflict one other) (v, w, differ, one_is, other_is, first, second) =
        let one_ended = ended_of one.first other.last first in
        let other_ended = ended_of other.first one.last second in
        no_conflict None order runs (Some v) (Some w) (λ e. differ (let same : v ≡ w = cc in same)) one.first other.last other.first one.last
        (span_first v one one_is one_ended) (span_last w other other_is other_ended) (span_first w other other_is other_ended) (span_last v one one_is one_ended)
        one_is.first_value other_is.last_value other_is.first_value one_is.last_value first second

pub evidence_refutes : EvidenceRefutes
evidence_refutes h evidence once shows (order, is) = refuted h once order is evidence shows
