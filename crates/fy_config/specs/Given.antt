-- what is kept of a table once it is read: names, and none where a text is no name
use Rattle.std.specs.Prelude.{ℕ, List, Bool, true, Option, Some, None, map, if◌then◌else◌}
use Rattle.fy_locality.specs.Name.{is_name}
use Rattle.fy_locality.specs.Locality.{are_names}
use Rattle.fy_locality.specs.declared.locality.Locality.{Locality}
use Rattle.fy_kinds.specs.Members.{Members}
use Rattle.fy_grants.specs.declared.grant.Scope.{Scope}
use Rattle.fy_grants.specs.declared.grant.Scope.TheVariants.{All, Where}
use Rattle.fy_cluster.specs.declared.role.Role.{Role}
use Rattle.fy_config.specs.declared.given.GivenGrant.{GivenGrant}
use Rattle.fy_config.specs.declared.given.GivenActor.{GivenActor}
use Rattle.fy_config.specs.declared.given.GivenProtection.{GivenProtection}

-- a text that is a name
abbrev pub name_given : List ℕ → Option (List ℕ)
name_given text = if is_name text then Some text else None

-- a process whose texts are names
abbrev pub process_given : Locality → Option Locality
process_given texts = if are_names texts then Some texts else None

-- whether the value of a scope is a name
abbrev pub has_name : Scope → Bool
has_name All = true
has_name (Where target) = is_name target.value

-- a scope whose value is a name
abbrev pub scope_given : Scope → Option Scope
scope_given scope = if has_name scope then Some scope else None

-- a grant of kinds and a scope
abbrev pub grant_given : Members × Scope → GivenGrant
grant_given grant = record { kinds = grant.0; scope = scope_given grant.1 }

-- an actor's role and grants
abbrev pub actor_given : Role × List (Members × Scope) → Role × List GivenGrant
actor_given actor = (actor.0, map grant_given actor.1)

-- what an actor that was kept is seen as
abbrev pub actor_kept : GivenActor → Role × List GivenGrant
actor_kept actor = (actor.role, actor.grants.items)

-- a protection of a process by its name
abbrev pub protection_given : List ℕ × Members → GivenProtection
protection_given protection =
    record { process = name_given protection.0; kinds = protection.1 }
