-- the place of the process with a name is where it is found
use Rattle.std.proofs.Common.{◌≡◌, ◌≢◌, ◌∙◌, ◌<◌, ℕ, Bool, true, false, List, length, Option, Some, None, option_map, refl, sym, ap, arith}
use Rattle.std.specs.Prelude.{slice_get, bytes_eq, IfSome, IfNone, option_and_then}
use Rattle.std.proofs.lemmas.Slice.Eq.{bytes_eq-Decides}
use Rattle.fy_locality.specs.Locality.{value_of, NamesDiffer}
use Rattle.fy_locality.specs.declared.ProcId.{ProcId}
use Rattle.fy_locality.specs.declared.key.Key.TheVariants.{Process}
use Rattle.fy_locality.specs.declared.locality.Locality.{Locality}
use Rattle.fy_config.specs.Config.{index_of}
use Rattle.fy_config.proofs.Places.{NotYet, position_here, position_none}

-- a process with a name has it as its value
has_value_at :
    (processes : List Locality) (name : List ℕ) (k : ℕ) (x : Locality)
    → slice_get processes k ≡ Some x → bytes_eq x.process name ≡ true
    → value_of processes Process k ≡ Some name
has_value_at processes name k x at same =
    ap (option_and_then (λ (q : Locality). Some q.process)) at ∙ ap Some ((bytes_eq-Decides x.process name).0 same)

-- none has the name before a place
none_before :
    (processes : List Locality) (name : List ℕ) (i : ℕ)
    → ((k : ℕ) → k < i → value_of processes Process k ≢ Some name)
    → NotYet (λ q. bytes_eq q.process name) processes i
none_before processes name i differ = record { none = λ k x h at. go k x h at (bytes_eq x.process name) refl }
  where
    go : (k : ℕ) (x : Locality) → k < i → slice_get processes k ≡ Some x
        → (b : Bool) → bytes_eq x.process name ≡ b → bytes_eq x.process name ≡ false
    go k x h at false is = is
    go k x h at true is = absurd (differ k h (has_value_at processes name k x at is))

pub found_place :
    (processes : List Locality) (name : List ℕ) (found : Option ProcId)
    → NamesDiffer processes
    → IfSome found (λ p. value_of processes Process p.0 ≡ Some name)
    → IfSome found (λ p. p.0 < length processes)
    → IfNone found ((p : ℕ) → value_of processes Process p ≢ Some name)
    → option_map (λ p. p.0) found ≡ index_of processes name
found_place processes name None differ has within missing =
    sym (position_none (λ (q : Locality). bytes_eq q.process name) processes (length processes)
    (none_before processes name (length processes) (λ k h. missing k)) (omega arith))
found_place processes name (Some p) differ has within missing =
    sym (go (slice_get processes p.0) refl has)
  where
    before : NotYet (λ q. bytes_eq q.process name) processes p.0
    before = none_before processes name p.0 (λ k h e. let same : k ≡ p.0 = differ k p.0 name e has in absurd (let c : ⊥ = omega arith in c))

    go : (o : Option Locality) → slice_get processes p.0 ≡ o
        → option_and_then (λ (q : Locality). Some q.process) (slice_get processes p.0) ≡ Some name
        → index_of processes name ≡ Some p.0
    go None is e =
        let none : option_and_then (λ (q : Locality). Some q.process) (slice_get processes p.0) ≡ None = ap (option_and_then (λ (q : Locality). Some q.process)) is in
        absurd (let c : ⊥ = cc in c)
    go (Some x) is e =
        let one : option_and_then (λ (q : Locality). Some q.process) (slice_get processes p.0) ≡ Some x.process = ap (option_and_then (λ (q : Locality). Some q.process)) is in
        let same : x.process ≡ name = cc in
        position_here (λ (q : Locality). bytes_eq q.process name) processes p.0 x before is ((bytes_eq-Decides x.process name).1 same)
