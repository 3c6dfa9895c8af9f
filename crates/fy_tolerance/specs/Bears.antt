-- what a cluster bears: sets of processes are tests on their numbers
use Rattle.std.specs.Prelude.{◌≡◌, ℕ, ◌+◌, ◌≤◌, Bool, true, false, ◌&&◌, cond, List, [], ◌∷◌, length, map, min}
use Rattle.std.specs.List.{AllZip, fold}
use Rattle.std.specs.Ordering.{nat_cmp}
use Rattle.std.specs.FinSet as sets
use Rattle.fy_locality.specs.declared.key.Key.{Key}
use Rattle.fy_locality.specs.declared.key.Key.TheVariants.{Process, Machine, Zone, DataHall, DataCenter}
use Rattle.fy_locality.specs.declared.locality.Locality.{Locality}
use Rattle.fy_locality.specs.Locality.{has_value, values_of}
use Rattle.fy_policy.specs.Counted.{number_of}
use Rattle.fy_policy.specs.Tree.{Tree}
use Rattle.fy_decide.specs.declared.dead_book.Loss.{Loss}
use Rattle.fy_decide.specs.declared.dead_book.Loss.TheVariants.{Emptied, Gone}
use Rattle.fy_decide.specs.DeadBook.{Losses, IsFresh, MayLose, may_lose, struck}
use Rattle.fy_decide.specs.Safety.{AreShort, AreSatisfied, MayDestroy, everyone, with_set, without_set}
use Rattle.fy_tolerance.specs.Costs.{HasNoAnd, IsWithin}
use Rattle.fy_tolerance.specs.declared.borne.Borne.{Borne}
use Rattle.fy_tolerance.specs.declared.borne.Findings.{Findings}
use Rattle.fy_tolerance.specs.declared.groups.Group.{Group}
use Rattle.fy_tolerance.specs.declared.parts.Part.{Part}
use Rattle.fy_tolerance.specs.declared.tolerance.Tolerance.{Tolerance}

-- as far as one policy of a dead book goes, a set may be lost
abbrev pub MayLoseBy : Losses → Tree → (ℕ → Bool) → Loss → Type 0
MayLoseBy dead policy s loss =
    MayDestroy dead.processes (policy ∷ [])
    (sets.contains dead.destroyed) (sets.contains dead.left) s loss

-- by a policy, every set of at most so many processes may be lost
abbrev pub ToleratesAny : Losses → Tree → Loss → ℕ → Type 0
ToleratesAny dead policy loss count =
    (s : ℕ → Bool) → number_of s (length dead.processes) ≤ count → MayLoseBy dead policy s loss

-- by a policy, the set may not be lost
abbrev pub IsTooMany : Losses → Tree → Loss → (ℕ → Bool) → Type 0
IsTooMany dead policy loss s = MayLoseBy dead policy s loss → ⊥

-- by a policy, each part of the set that lacks a member of it may be lost
abbrev pub PartsMayBeLost : Losses → Tree → Loss → (ℕ → Bool) → Type 0
PartsMayBeLost dead policy loss s =
    (part : ℕ → Bool) (p : ℕ) → IsWithin part s → s p ≡ true → part p ≡ false
    → MayLoseBy dead policy part loss

-- a set that may not be lost by a policy has no more processes than the least number found
pub record IsWitness (dead : Losses) (policy : Tree) (loss : Loss) (found : Part) : Type 0 where
  pub too_many : IsTooMany dead policy loss (sets.contains found.set)
  pub small : number_of (sets.contains found.set) (length dead.processes) ≤ found.least

-- What one policy bears. Any so many processes may be lost. Those named may not, and every proper
-- part of them may. Where they are one more, no greater number is borne: they are so beside 0, and
-- for every policy that has no And.
pub record IsTolerance (dead : Losses) (policy : Tree) (loss : Loss) (found : Tolerance) : Type 0
  where
    pub any : ToleratesAny dead policy loss found.any
    pub too_many : IsTooMany dead policy loss (sets.contains found.too_many)
    pub least : PartsMayBeLost dead policy loss (sets.contains found.too_many)
    pub greatest : sets.len found.too_many ≡ found.any + 1
        → (count : ℕ) → ToleratesAny dead policy loss count → count ≤ found.any
    pub none : found.any ≡ 0 → sets.len found.too_many ≡ 1
    pub exact : HasNoAnd policy → sets.len found.too_many ≡ found.any + 1

-- the processes left that have a value of a key: those of a machine, a zone, a hall or a data
-- centre
abbrev pub left_with_value : Losses → Key → List ℕ → ℕ → Bool
left_with_value dead key value p = sets.contains dead.left p && has_value dead.processes key value p

-- of each value of a key whether those left with it may be lost
abbrev pub borne_values : Losses → Key → Loss → List Bool
borne_values dead key loss =
    map (λ value. may_lose dead (left_with_value dead key value) loss) (values_of dead.processes key)

-- of each set, and of each set behind it, whether both may be lost together
abbrev pub borne_pairs : Losses → Loss → List (ℕ → Bool) → List (List Bool)
borne_pairs dead loss [] = []
borne_pairs dead loss (first ∷ behind) =
    map (λ second. may_lose dead (with_set first second) loss) behind
    ∷ borne_pairs dead loss behind

-- which values of a key, and which pairs of them, may be lost whole
pub record IsGroup (dead : Losses) (key : Key) (loss : Loss) (found : Group) : Type 0 where
  pub of_key : found.key ≡ key
  pub alone : found.alone.items ≡ borne_values dead key loss
  pub pairs : map (λ row. row.items) found.pairs.items
      ≡ borne_pairs dead loss (map (left_with_value dead key) (values_of dead.processes key))

-- the least of these numbers, and of how many processes there are
abbrev pub least_any : ℕ → List Tolerance → ℕ
least_any processes found = fold (λ least one. min least one.any) processes found

-- All that is borne of a kind of loss: by each policy a tolerance; the least of their numbers, of
-- which any set may be lost by all policies at once; and of each key which values.
pub record IsBorne (dead : Losses) (loss : Loss) (found : Borne) : Type 0 where
  pub of_loss : found.loss ≡ loss
  pub tolerances : AllZip (λ policy one. IsTolerance dead policy loss one)
      dead.policies found.tolerances.items
  pub any : found.any ≡ least_any (length dead.processes) found.tolerances.items
  pub borne : (s : ℕ → Bool) → number_of s (length dead.processes) ≤ found.any → MayLose dead s loss
  pub processes : found.processes.items ≡ borne_values dead Process loss
  pub machines : IsGroup dead Machine loss found.machines
  pub zones : IsGroup dead Zone loss found.zones
  pub halls : IsGroup dead DataHall loss found.halls
  pub data_centers : IsGroup dead DataCenter loss found.data_centers

-- what a cluster bears of each kind of loss, and who is left
pub record IsFindings (dead : Losses) (found : Findings) : Type 0 where
  pub left : found.left ≡ dead.left
  pub emptied : IsBorne dead Emptied found.emptied
  pub gone : IsBorne dead Gone found.gone

-- a dead book once a set was lost, where the policies bear that; else as it was
abbrev pub lost_as_allowed : sets.FinSet nat_cmp → Loss → Losses → Losses
lost_as_allowed s loss dead =
    cond (may_lose dead (sets.contains s) loss) (struck dead s loss) dead

-- a new dead book once the gone were lost, and then the destroyed
abbrev pub IsAfterLosses :
    List Locality → List Tree → (destroyed gone : sets.FinSet nat_cmp) → Losses → Type 0
IsAfterLosses processes policies destroyed gone dead =
    (begun : Losses) × IsFresh processes policies begun
    × (dead ≡ lost_as_allowed destroyed Emptied (lost_as_allowed gone Gone begun))

-- a book has exactly these destroyed, and all but these are left
pub record HasLost
    (processes : List Locality) (destroyed gone : sets.FinSet nat_cmp) (dead : Losses) : Type 0
  where
    pub destroyed_are : (p : ℕ) → sets.contains dead.destroyed p ≡ sets.contains destroyed p
    pub left_are : (p : ℕ) → sets.contains dead.left p
        ≡ without_set (everyone processes) (sets.contains gone) p

-- where the destroyed are short of every policy, those who aren't gone satisfy each, and the gone
-- are among the destroyed, no loss is dropped
abbrev pub NothingIsDropped : Type 0
NothingIsDropped =
    (processes : List Locality) (policies : List Tree) (destroyed gone : sets.FinSet nat_cmp)
    (dead : Losses)
    → IsAfterLosses processes policies destroyed gone dead
    → AreShort processes policies (sets.contains destroyed)
    → AreSatisfied processes policies (without_set (everyone processes) (sets.contains gone))
    → IsWithin (sets.contains gone) (sets.contains destroyed)
    → HasLost processes destroyed gone dead
