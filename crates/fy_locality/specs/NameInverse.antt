-- why the bytes of a name are its characters and zeros: these lemmas stand here since the model of
-- `Name` cites them
use Rattle.std.specs.Prelude.{◌≡◌, ℕ, ◌-◌, ◌<◌, List, ◌++◌, length, take, replicate}
use Rattle.std.proofs.Common.{inl, inr, sym, ◌∙◌, arith}
use Rattle.std.proofs.lemmas.List.{same_lists, length-take-le, length-append, length-replicate, get_or_append_left, get_or-append_right, get_or-replicate, get_or-take, get_or_default}
use Rattle.std.proofs.lemmas.Bool.{cases_lt}
use Rattle.fy_locality.specs.Name.{IsStored, padded}

pub length-stored : (bytes : List ℕ) (len : ℕ) → IsStored bytes len → length (take len bytes) ≡ len
length-stored bytes len h = length-take-le len bytes (omega (arith, h.count, h.within))

zeros_end :
    (bytes : List ℕ) (len : ℕ) → IsStored bytes len
    → (k : ℕ) → k < length (take len bytes ++ replicate (32 - length (take len bytes)) 0) → k < 32
zeros_end bytes len h k below =
    omega (
      arith,
      length-append (take len bytes) (replicate (32 - length (take len bytes)) 0),
      length-replicate {A = ℕ} (32 - length (take len bytes)) 0,
      length-stored bytes len h,
      h.within,
    )

pub padded-take : (bytes : List ℕ) (len : ℕ) → IsStored bytes len → padded (take len bytes) ≡ bytes
unfolding padded
padded-take bytes len h =
    let front : length (take len bytes) ≡ len = length-stored bytes len h in
    let behind
    : length (take len bytes ++ replicate (32 - length (take len bytes)) 0) ≡ length bytes =
    omega (
      arith,
      length-append (take len bytes) (replicate (32 - length (take len bytes)) 0),
      length-replicate {A = ℕ} (32 - length (take len bytes)) 0,
      h.count,
      h.within,
    ) in
    same_lists _ _ behind (λ k d below.
    elim (cases_lt k len) [
      | inl lt ↦
          get_or_append_left (take len bytes) _ d k (omega arith)
          ∙ get_or-take len bytes k d lt
      | inr ge ↦
          let inside : k < 32 = zeros_end bytes len h k below in
          get_or-append_right (take len bytes) _ len k d front ge
          ∙ get_or-replicate (32 - length (take len bytes)) (k - len) 0 d (omega arith)
          ∙ sym (h.zeros k ge) ∙ get_or_default bytes k 0 d (omega (arith, h.count))
    ])
