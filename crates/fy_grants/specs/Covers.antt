-- for each actor and deed a set of processes, which says whom the actor's grants cover
use Rattle.std.specs.Prelude.{◌≡◌, ℕ, Bool, ◌&&◌, ◌||◌, not, List, [], length, slice_index_or}
use Rattle.std.specs.Ordering.{nat_cmp}
use Rattle.std.specs.FinSet as sets
use Rattle.fy_locality.specs.declared.locality.Locality.{Locality}
use Rattle.fy_kinds.specs.declared.kind.Kind.TheVariants.{RebootProcess, Reboot, RebootAndDelete, KillInstantly}
use Rattle.fy_kinds.specs.declared.kind_set.KindSet.{KindSet}
use Rattle.fy_kinds.specs.Kinds.{Deed, Striking, Clogging, has, only, no_deed}
use Rattle.fy_grants.specs.declared.grant.Grant.{Grant}
use Rattle.fy_grants.specs.declared.cover.Cover.{Cover}
use Rattle.fy_grants.specs.Rights.{IsCounted, is_covered}

-- the set that is kept for a deed
abbrev pub set_at : Cover → Deed → sets.FinSet nat_cmp
set_at cover (Striking RebootProcess) = cover.reboot_process
set_at cover (Striking Reboot) = cover.reboot
set_at cover (Striking RebootAndDelete) = cover.reboot_and_delete
set_at cover (Striking KillInstantly) = cover.kill_instantly
set_at cover Clogging = cover.clog

-- the cover of no grants
abbrev pub bare : Cover
bare = record {
  everyone = no_deed;
  reboot_process = sets.empty;
  reboot = sets.empty;
  reboot_and_delete = sets.empty;
  kill_instantly = sets.empty;
  clog = sets.empty;
}

-- whether process p is covered from a deed: everyone is, or p is in its set
abbrev pub covers : Cover → Deed → ℕ → Bool
covers cover deed p = has cover.everyone deed || sets.contains (set_at cover deed) p

-- a cover says of each deed exactly whom the grants cover
abbrev pub IsCoverOf : List Locality → List Grant → Cover → Type 0
IsCoverOf processes grants cover =
    (deed : Deed) (p : ℕ) → covers cover deed p ≡ is_covered processes grants (only deed) p

-- the kinds are one deed, and the group is the set that is kept for it
pub record IsGroupOf (cover : Cover) (kinds : KindSet) (group : sets.FinSet nat_cmp)
    : Type 0 where
  pub deed : Deed
  pub single : kinds ≡ only deed
  pub is : group ≡ set_at cover deed

-- the kinds are one deed, and `uncovered` are those of a set whom the cover leaves open to it
pub record LeavesOpen (cover : Cover) (kinds : KindSet) (set uncovered : sets.FinSet nat_cmp)
    : Type 0 where
  pub deed : Deed
  pub single : kinds ≡ only deed
  pub those : (p : ℕ)
      → sets.contains uncovered p ≡ (sets.contains set p && not (covers cover deed p))

-- the kinds are one deed, and `is` says whether the cover covers process p from it
pub record Tells (cover : Cover) (kinds : KindSet) (p : ℕ) (is : Bool) : Type 0 where
  pub deed : Deed
  pub single : kinds ≡ only deed
  pub told : is ≡ covers cover deed p

-- what a Book keeps: the grants are counted, and each actor has its cover
pub record IsGrantBook (processes : List Locality) (grants : List (List Grant)) (given : ℕ)
    (covers : List Cover) : Type 0 where
  pub counted : IsCounted grants given
  pub count : length covers ≡ length grants
  pub each : (actor : ℕ) →
      IsCoverOf processes (slice_index_or grants actor []) (slice_index_or covers actor bare)
