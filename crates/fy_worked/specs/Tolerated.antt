-- four processes in two zones and three in three, of which nothing is lost, and answers to what
-- their policy bears
use Rattle.std.specs.Prelude.{ℕ, List, [], ◌∷◌, None, codes}
use Rattle.std.specs.FinSet as sets
use Rattle.fy_locality.specs.declared.locality.Locality.{Locality}
use Rattle.fy_locality.specs.declared.key.Key.TheVariants.{Zone}
use Rattle.fy_policy.specs.Tree.{Tree, one, across}
use Rattle.fy_decide.specs.declared.dead_book.Loss.{Loss}
use Rattle.fy_decide.specs.declared.dead_book.Loss.TheVariants.{Emptied}
use Rattle.fy_decide.specs.DeadBook.{Losses}
use Rattle.fy_tolerance.specs.Bears.{IsTolerance}

-- a process on a machine of its own, in a zone
abbrev pub located : (process machine zone : List ℕ) → Locality
located process machine zone =
    record {
      process = process;
      machine = machine;
      zone = zone;
      data_hall = None;
      data_center = None;
    }

-- two processes in each of two zones
abbrev pub four_processes : List Locality
four_processes =
    located (codes "p0") (codes "m0") (codes "z0")
    ∷ located (codes "p1") (codes "m1") (codes "z0")
    ∷ located (codes "p2") (codes "m2") (codes "z1")
    ∷ located (codes "p3") (codes "m3") (codes "z1")
    ∷ []

-- a process in each of three zones
abbrev pub three_processes : List Locality
three_processes =
    located (codes "p0") (codes "m0") (codes "z0")
    ∷ located (codes "p1") (codes "m1") (codes "z1")
    ∷ located (codes "p2") (codes "m2") (codes "z2")
    ∷ []

-- a process in each of two zones
abbrev pub in_two_zones : Tree
in_two_zones = across 2 Zone one

-- a process in each of three zones
abbrev pub in_three_zones : Tree
in_three_zones = across 3 Zone one

-- nobody is destroyed, and all four are left
abbrev pub untouched : Losses
untouched = record {
  processes = four_processes;
  policies = in_two_zones ∷ [];
  destroyed = sets.empty;
  left = sets.from_list (0 ∷ 1 ∷ 2 ∷ 3 ∷ []);
}

-- of a kind of loss the policy of two zones bears any so many of the four, and these are too many
abbrev pub Bears : Loss → (any : ℕ) → (too_many : List ℕ) → Type 0
Bears loss any too_many =
    IsTolerance untouched in_two_zones loss
    (record { any = any; too_many = sets.from_list too_many })

-- nobody is destroyed, and all three are left
abbrev pub three_untouched : Losses
three_untouched = record {
  processes = three_processes;
  policies = in_three_zones ∷ [];
  destroyed = sets.empty;
  left = sets.from_list (0 ∷ 1 ∷ 2 ∷ []);
}

-- of three that are emptied the policy of three zones bears any so many, and these are too many
abbrev pub ThreeBear : (any : ℕ) → (too_many : List ℕ) → Type 0
ThreeBear any too_many =
    IsTolerance three_untouched in_three_zones Emptied
    (record { any = any; too_many = sets.from_list too_many })
