-- what is kept of the parts of a table
use Rattle.std.proofs.Common.{◌≡◌, Option, Some, None, option_map}
use Rattle.fy_kinds.specs.Members.{Members}
use Rattle.fy_grants.specs.declared.grant.Scope.{Scope}
use Rattle.fy_config.specs.declared.given.GivenGrant.{GivenGrant}
use Rattle.fy_config.specs.Given.{scope_given, grant_given}
use Rattle.fy_locality.specs.Chain.{◌>>=◌}

-- a grant of kinds and a scope that are kept
abbrev pub grant_kept : Members → Option Scope → GivenGrant
grant_kept kinds scope = record { kinds = kinds; scope = scope }

pub grant_built :
    (kinds : Members) (scope : Option Scope) (spelt : Option Members) (meant : Option Scope)
    → Some kinds ≡ spelt → Some scope ≡ option_map scope_given meant
    → Some (grant_kept kinds scope)
    ≡ option_map grant_given (spelt >>= λ k. meant >>= λ s. Some (k, s))
grant_built kinds scope None meant e h = absurd (let none : ⊥ = cc in none)
grant_built kinds scope (Some k) None e h = absurd (let none : ⊥ = cc in none)
grant_built kinds scope (Some k) (Some s) e h = cc
