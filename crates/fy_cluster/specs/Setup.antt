-- what a cluster begins with
use Rattle.std.specs.Prelude.{◌≡◌, ℕ, Bool, true, ◌&&◌, nat_lt, nat_le, List, length, Option, Some, if◌then◌else◌}
use Rattle.std.specs.List.{list_all, AllByRecursion}
use Rattle.std.specs.Option.{option_map}
use Rattle.fy_locality.specs.declared.locality.Locality.{Locality}
use Rattle.fy_policy.specs.Tree.{Tree, IsPolicy}
use Rattle.fy_policy.specs.Sat.{Sat}
use Rattle.fy_grants.specs.declared.grant.Grant.{Grant}
use Rattle.fy_grants.specs.declared.book.TheConstants.{MOST_GRANTS}
use Rattle.fy_decide.specs.Safety.{everyone, first_unmet}
use Rattle.fy_policy.specs.declared.limits.TheConstants.{MOST_POLICIES}
use Rattle.fy_cluster.specs.declared.config.TheConstants.{MOST_ACTORS, MOST_JOURNAL_ENTRIES}
use Rattle.fy_cluster.specs.declared.role.Role.{Role}
use Rattle.fy_cluster.specs.declared.config.Protection.{Protection}
use Rattle.fy_cluster.specs.declared.config.MakeFault.{MakeFault}
use Rattle.fy_cluster.specs.declared.config.MakeFault.TheVariants.{Limit, PolicyUnmet}

-- processes and policies, the role of each actor, the first grants in order and the first
-- protections, and how long the journal may get
pub record Setup : Type 0 where
  pub processes : List Locality
  pub policies : List Tree
  pub roles : List Role
  pub grants : List Grant
  pub protections : List Protection
  pub limit : ℕ

-- the setup of these parts
abbrev pub setup_of : List Locality → List Tree → List Role → List Grant → List Protection
    → ℕ → Setup
setup_of processes policies roles grants protections limit =
    record {
      processes = processes;
      policies = policies;
      roles = roles;
      grants = grants;
      protections = protections;
      limit = limit;
    }

-- every policy is within its limits, and all processes together satisfy it
abbrev pub IsMet : Setup → Type 0
IsMet c = AllByRecursion (λ P. IsPolicy P × Sat c.processes P (everyone c.processes)) c.policies

-- from the least to the most
abbrev pub is_between : ℕ → ℕ → ℕ → Bool
is_between least most n = nat_le least n && nat_le n most

-- 1 to 8 policies, 1 to 64 actors, at most 4096 grants, each of an actor that is there, each
-- protection of a process that is there, and a journal of 1 to 2^20 entries
abbrev pub is_in_range : Setup → Bool
is_in_range c =
    is_between 1 MOST_POLICIES (length c.policies)
    && is_between 1 MOST_ACTORS (length c.roles)
    && nat_le (length c.grants) MOST_GRANTS
    && list_all (λ grant. nat_lt grant.actor (length c.roles)) c.grants
    && list_all (λ protection. nat_lt protection.process.0 (length c.processes)) c.protections
    && is_between 1 MOST_JOURNAL_ENTRIES c.limit

-- everything is in its range, and every policy is met
pub record IsSetup (c : Setup) : Type 0 where
  pub in_range : is_in_range c ≡ true
  pub met : IsMet c

-- why parts make no setup: the range comes first, and then the first policy that isn't met
abbrev pub config_refusal : Setup → Option MakeFault
config_refusal c =
    if is_in_range c then option_map PolicyUnmet (first_unmet c.processes c.policies)
    else Some Limit
