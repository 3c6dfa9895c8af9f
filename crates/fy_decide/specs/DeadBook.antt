-- what a DeadBook is seen as
use Rattle.std.specs.Prelude.{◌≡◌, ℕ, Bool, true, List}
use Rattle.std.specs.Ordering.{nat_cmp}
use Rattle.std.specs.FinSet as sets
use Rattle.fy_locality.specs.declared.locality.Locality.{Locality}
use Rattle.fy_policy.specs.Tree.{Tree}
use Rattle.fy_decide.specs.Safety.{AreShort, AreSatisfied, MayDestroy, may_destroy, everyone}
use Rattle.fy_decide.specs.declared.dead_book.Loss.{Loss}
use Rattle.fy_decide.specs.declared.dead_book.Loss.TheVariants.{Emptied, Gone}

-- the processes and the policies of a cluster, who is destroyed and who is left
pub record Losses : Type 0 where
  pub processes : List Locality
  pub policies : List Tree
  pub destroyed : sets.FinSet nat_cmp
  pub left : sets.FinSet nat_cmp

-- the destroyed are short of every policy, and those left satisfy each
pub record IsSafe (dead : Losses) : Type 0 where
  pub short : AreShort dead.processes dead.policies (sets.contains dead.destroyed)
  pub satisfied : AreSatisfied dead.processes dead.policies (sets.contains dead.left)

-- of these processes and policies, with nobody destroyed and everyone left
pub record IsFresh (processes : List Locality) (policies : List Tree) (dead : Losses) : Type 0
  where
    pub processes_are : dead.processes ≡ processes
    pub policies_are : dead.policies ≡ policies
    pub none_destroyed : dead.destroyed ≡ sets.empty
    pub all_left : (q : ℕ) → sets.contains dead.left q ≡ everyone processes q

-- whether the policies bear the loss of a set, by a dead book
abbrev pub MayLose : Losses → (ℕ → Bool) → Loss → Type 0
MayLose dead s loss =
    MayDestroy dead.processes dead.policies
    (sets.contains dead.destroyed) (sets.contains dead.left) s loss

-- the same as a test
abbrev pub may_lose : Losses → (ℕ → Bool) → Loss → Bool
may_lose dead s loss =
    may_destroy dead.processes dead.policies
    (sets.contains dead.destroyed) (sets.contains dead.left) s loss

-- a dead book after the loss of a set
abbrev pub struck : Losses → sets.FinSet nat_cmp → Loss → Losses
struck dead s Emptied = record dead { destroyed = sets.union dead.destroyed s }
struck dead s Gone = record dead {
  destroyed = sets.union dead.destroyed s;
  left = sets.difference dead.left s;
}

-- a process may be healed where it is destroyed and still left
pub record MayHeal (dead : Losses) (p : ℕ) : Type 0 where
  pub destroyed : sets.contains dead.destroyed p ≡ true
  pub left : sets.contains dead.left p ≡ true

-- a dead book once process p is healed: it isn't destroyed any more
abbrev pub healed : ℕ → Losses → Losses
healed p dead = record dead { destroyed = sets.remove dead.destroyed p }
