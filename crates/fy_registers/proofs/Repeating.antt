-- which write of a value the table has
use Rattle.std.proofs.Common.{inl, inr, ◌⊎◌, ◌≡◌, ℕ, ◌+◌, ◌<◌, List, [], ◌∷◌, ◌++◌, length, take, get_or, Some, None, sym, ap, subst, ◌∙◌}
use Rattle.std.specs.List.{Contains}
use Rattle.std.proofs.lemmas.List.{take_more, get_or_default}
use Rattle.std.proofs.Math.Seq.{take-length}
use Rattle.std.proofs.lemmas.List.Elements.{Contains-push_cases, Contains-get_or}
use Rattle.fy_registers.specs.declared.operation.Act.TheVariants.{Write}
use Rattle.fy_registers.specs.declared.operation.Operation.{Operation}
use Rattle.fy_registers.specs.declared.zone.Seen.{Seen}
use Rattle.fy_registers.specs.Linear.{value_in, IsWrittenOnce}
use Rattle.fy_registers.specs.Evidence.{IsTwice}
use Rattle.fy_registers.specs.Zones.{AreSeen}

-- each write of the first operations is the one that the table has
abbrev pub AreAlone : List Operation → ℕ → List Seen → Type 0
AreAlone h i table = (o : Operation) (v : ℕ) (d : Seen) → Contains (take i h) o → o.act ≡ Write v →
    (get_or table v d).write ≡ Some o

module _ (h : List Operation) (i : ℕ) (o : Operation) (below : i < length h) (at : (d : Operation) → get_or h i d ≡ o) (table : List Seen) where
  next_is : take (i + 1) h ≡ take i h ++ o ∷ []
  next_is = take_more h i o below ∙ ap (λ q. take i h ++ q ∷ []) (at o)

  pub alone_more : AreAlone h i table → ((v : ℕ) (d : Seen) → o.act ≡ Write v → (get_or table v d).write ≡ Some o) → AreAlone h (i + 1) table
  alone_more so_far here x v d among writes = go (Contains-push_cases (take i h) o x (subst (λ xs. Contains xs x) next_is among))
    where
      go : Contains (take i h) x ⊎ (o ≡ x) → (get_or table v d).write ≡ Some x
      go (inl there) = so_far x v d there writes
      go (inr same) = here v d (ap (λ (q : Operation). q.act) same ∙ writes) ∙ ap Some same

pub alone_ends : (h : List Operation) (table : List Seen) → (d : Seen) → AreAlone h (length h) table → IsWrittenOnce h
alone_ends h table d alone one other v one_in other_in one_writes other_writes =
    let first = alone one v d (subst (λ xs. Contains xs one) (sym (take-length h)) one_in) one_writes in
    let second = alone other v d (subst (λ xs. Contains xs other) (sym (take-length h)) other_in) other_writes in
    let both : Some one ≡ Some other = sym first ∙ second in
    let equal : one ≡ other = cc in equal

-- ---- a step of the loop
module _ (h : List Operation) (table : List Seen) (seen : AreSeen h table) (i : ℕ) (d0 : Operation) (below : i < length h) (v : ℕ) (writes : (get_or h i d0).act ≡ Write v) where
  pub value_below : v < length table
  value_below =
      seen.room (get_or h i d0) (Contains-get_or h i d0 below) v (ap value_in writes)

  pub twice_found : (e : Seen) (w : Operation) → (get_or table v e).write ≡ Some w → (w ≡ get_or h i d0 → ⊥) → IsTwice h (get_or h i d0) w
  twice_found e w is other =
      (v, record { within = Contains-get_or h i d0 below; act = writes }, (seen.each v e value_below).write w is, λ same. other (sym same))

  same_default : (d e : Seen) → (get_or table v d).write ≡ (get_or table v e).write
  same_default d e = ap (λ (s : Seen). s.write) (get_or_default table v d e value_below)

  alone_here : (e : Seen) → (get_or table v e).write ≡ Some (get_or h i d0) → AreAlone h i table → AreAlone h (i + 1) table
  alone_here e is so_far = alone_more h i (get_or h i d0) below (λ d. get_or_default h i d d0 below) table so_far
      (λ u d act. let both : Write v ≡ Write u = sym writes ∙ act in let equal : u ≡ v = cc in
      ap (λ q. (get_or table q d).write) equal ∙ same_default d e ∙ is)

  pub alone_same : (e : Seen) (w : Operation) → (get_or table v e).write ≡ Some w → w ≡ get_or h i d0 → AreAlone h i table → AreAlone h (i + 1) table
  alone_same e w is same so_far = alone_here e (is ∙ ap Some same) so_far

  pub alone_none : (e : Seen) → (get_or table v e).write ≡ None → AreAlone h i table → AreAlone h (i + 1) table
  alone_none e none so_far =
      let some = (seen.each v e value_below).written (get_or h i d0) (record { within = Contains-get_or h i d0 below; act = writes }) in
      let never : None ≡ Some some.0 = sym none ∙ some.1 in absurd (let x : ⊥ = cc in x)

pub alone_other : (h : List Operation) (table : List Seen) (i : ℕ) (d0 : Operation) → i < length h → ((v : ℕ) → (get_or h i d0).act ≡ Write v → ⊥) → AreAlone h i table → AreAlone h (i + 1) table
alone_other h table i d0 below none so_far = alone_more h i (get_or h i d0) below (λ d. get_or_default h i d d0 below) table so_far (λ v d act. absurd (none v act))
