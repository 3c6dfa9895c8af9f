-- how many members words have at most, and how large
use Rattle.std.specs.Prelude.{◌≡◌, ℕ, ◌+◌, ◌<◌, ◌≤◌, Bool, true, false, ◌&&◌, List}
use Rattle.std.specs.FinSet as set
use Rattle.std.specs.Ordering.{nat_cmp}
use Rattle.std.specs.Cmp.{nat_cmp_total}
use Rattle.std.proofs.Common.{zero, suc, refl, sym, ◌∙◌, arith, cond, ltb}
use Rattle.std.proofs.lemmas.Bool.Decides.{nat_tests}
use Rattle.fy_locality.specs.Members.{has_bit, members_below, members}
use Rattle.fy_locality.specs.MembersInverse.{contains-members}

pub members_are : (ws : List ℕ) → members ws ≡ members_below ws 1024
unfolding members
members_are ws = refl

pub len-members_below : (ws : List ℕ) (n : ℕ) → set.len (members_below ws n) ≤ n
unfolding members_below
len-members_below ws zero = let e : set.len (set.empty {R = nat_cmp}) ≡ 0 = set.len-empty nat_cmp in omega arith
len-members_below ws (suc n) =
    let before : set.len (members_below ws n) ≤ n = len-members_below ws n in
    elim (has_bit ws n) as (λ b. set.len (cond b (set.insert (members_below ws n) n) (members_below ws n)) ≤ suc n) [
      | true ↦ let e : set.len (set.insert (members_below ws n) n) ≡ cond (set.contains (members_below ws n) n) (set.len (members_below ws n)) (set.len (members_below ws n) + 1) = set.len-insert nat_cmp_total _ n in grind (arith, nat_tests)
      | false ↦ omega arith
    ]

-- every member is below 1024
pub small_members : (ws : List ℕ) (q : ℕ) → set.contains (members ws) q ≡ true → q < 1024
small_members ws q h = small q (has_bit ws q) (sym (contains-members ws q) ∙ h)
  where
    small : (q : ℕ) (b : Bool) → (ltb q 1024 && b) ≡ true → q < 1024
    small q b h = grind (arith, nat_tests)
