-- who may do what: grants of actors and protections of processes
use Rattle.std.specs.Prelude.{◌≡◌, ◌≤◌, ℕ, Bool, true, ◌&&◌, List, [], ◌∷◌, ◌++◌, length, remove, replicate, slice_index_or, slice_set, Option, Some, None, nat_le, if◌then◌else◌}
use Rattle.std.specs.List.{list_any, sum_by}
use Rattle.fy_locality.specs.declared.locality.Locality.{Locality}
use Rattle.fy_locality.specs.Locality.{has_value}
use Rattle.fy_kinds.specs.declared.kind_set.KindSet.{KindSet}
use Rattle.fy_kinds.specs.Kinds.{no_deed, has_all, has_some}
use Rattle.fy_grants.specs.declared.grant.Grant.{Grant}
use Rattle.fy_grants.specs.declared.grant.Scope.{Scope}
use Rattle.fy_grants.specs.declared.grant.Scope.TheVariants.{All, Where}
use Rattle.fy_grants.specs.declared.book.BookFault.{BookFault}
use Rattle.fy_grants.specs.declared.book.BookFault.TheVariants.{NoActor, NoSuch, Full}
use Rattle.fy_grants.specs.declared.book.TheConstants.{MOST_GRANTS}

-- the processes, the grants of each actor in order, and what each process is protected from
pub record Rights : Type 0 where
  pub processes : List Locality
  pub grants : List (List Grant)
  pub protections : List KindSet

-- an actor's grants; an actor that isn't there has none
abbrev pub grants_of : Rights → ℕ → List Grant
grants_of rights actor = slice_index_or rights.grants actor []

-- what a process is protected from
abbrev pub protections_of : Rights → ℕ → KindSet
protections_of rights p = slice_index_or rights.protections p no_deed

-- how many grants there are in all
abbrev pub grant_count : Rights → ℕ
grant_count rights = sum_by length rights.grants

-- no grants of so many actors, and no protections of these processes
abbrev pub no_rights : ℕ → List Locality → Rights
no_rights actors processes = record {
  processes = processes;
  grants = replicate actors [];
  protections = replicate (length processes) no_deed;
}

-- ---- who is covered, and who is protected

-- whether a process is in a scope
abbrev pub is_in_scope : List Locality → Scope → ℕ → Bool
is_in_scope processes All p = true
is_in_scope processes (Where target) p = has_value processes target.key target.value p

-- whether a grant has all the deeds asked for and covers process p
abbrev pub is_granted : List Locality → Grant → KindSet → ℕ → Bool
is_granted processes grant asked p =
    has_all grant.kinds asked && is_in_scope processes grant.scope p

-- whether some of the grants does
abbrev pub is_covered : List Locality → List Grant → KindSet → ℕ → Bool
is_covered processes grants asked p = list_any (λ grant. is_granted processes grant asked p) grants

-- whether process p is protected from some of the deeds asked for
abbrev pub is_protected : Rights → KindSet → ℕ → Bool
is_protected rights asked p = has_some (protections_of rights p) asked

-- ---- changes

-- why a grant isn't given, in order
abbrev pub give_refusal : Rights → Grant → Option BookFault
give_refusal rights grant =
    if nat_le (length rights.grants) grant.actor then Some NoActor
    else (if nat_le MOST_GRANTS (grant_count rights) then Some Full else None)

-- the grant is put last in its actor's list
abbrev pub with_grant : Rights → Grant → Rights
with_grant rights grant = record {
  processes = rights.processes;
  grants = slice_set rights.grants grant.actor (grants_of rights grant.actor ++ grant ∷ []);
  protections = rights.protections;
}

-- why a grant isn't taken, in order
abbrev pub take_refusal : Rights → ℕ → ℕ → Option BookFault
take_refusal rights actor index =
    if nat_le (length rights.grants) actor then Some NoActor
    else (if nat_le (length (grants_of rights actor)) index then Some NoSuch else None)

-- the actor's list closes up
abbrev pub without_grant : Rights → ℕ → ℕ → Rights
without_grant rights actor index = record {
  processes = rights.processes;
  grants = slice_set rights.grants actor (remove (grants_of rights actor) index);
  protections = rights.protections;
}

-- a process is protected from other deeds than before
abbrev pub with_protection : Rights → ℕ → KindSet → Rights
with_protection rights p kinds = record {
  processes = rights.processes;
  grants = rights.grants;
  protections = slice_set rights.protections p kinds;
}

-- ---- what a Book keeps

-- the number of grants that it counts, which is within the limit
pub record IsCounted (grants : List (List Grant)) (given : ℕ) : Type 0 where
  pub all : given ≡ sum_by length grants
  pub few : given ≤ MOST_GRANTS
