-- what is kept of the parts of a file
use Rattle.std.specs.Prelude.{◌≡◌, ◌&&◌, ℕ, Bool, not, nat_le, is_some, sum_by, length, List, [], ◌∷◌, map, Option, option_map, Result, Ok, Err}
use Rattle.std.specs.List.{find}
use Rattle.fy_locality.specs.declared.TheConstants.{MOST_PROCESSES}
use Rattle.fy_policy.specs.declared.limits.TheConstants.{MOST_POLICIES}
use Rattle.fy_grants.specs.declared.book.TheConstants.{MOST_GRANTS}
use Rattle.fy_cluster.specs.Setup.{is_between}
use Rattle.fy_cluster.specs.declared.config.TheConstants.{MOST_ACTORS}
use Rattle.fy_config.specs.declared.limits.TheConstants.{MOST_PROTECTIONS}
use Rattle.fy_config.specs.declared.fault.Part.{Part}
use Rattle.fy_config.specs.declared.fault.Part.TheVariants.{JournalLimit, Policies, Process, Actor, Protect}
use Rattle.fy_config.specs.declared.given.GivenActor.{GivenActor}
use Rattle.fy_config.specs.declared.fields.GivenFields.{GivenFields}
use Rattle.fy_config.specs.declared.fault.ConfigFault.{ConfigFault}
use Rattle.fy_config.specs.declared.fault.ConfigFault.TheVariants.{NoMemory}
use Rattle.fy_config.specs.Given.{process_given, actor_given, actor_kept, protection_given}
use Rattle.fy_config.specs.Config.{Fields, limit_given}

-- the fields are those that were given, with names in place of texts
pub record HoldsFields (given : GivenFields) (f : Fields) : Type 0 where
  pub journal_limit : given.journal_limit ≡ limit_given f.journal_limit
  pub policies : map (λ text. text.now) given.policies.items ≡ f.policies
  pub processes : given.processes.items ≡ map process_given f.processes
  pub actors : map actor_kept given.actors.items ≡ map actor_given f.actors
  pub protections : given.protections.items ≡ map protection_given f.protections

-- the answer is what the parts spell; an allocation failure can take the place of any
abbrev pub FieldsOrOom : Result GivenFields ConfigFault → Result Fields ConfigFault → Type 0
FieldsOrOom (Ok given) spelt = (f : Fields) × (spelt ≡ Ok f) × HoldsFields given f
FieldsOrOom (Err NoMemory) spelt = Unit {0}
FieldsOrOom (Err fault) spelt = spelt ≡ Err fault

-- how many grants the actors have in all
abbrev pub grant_count : List GivenActor → ℕ
grant_count actors = sum_by (λ actor. length actor.grants.items) actors

-- whether there are 1 to 64 actors with at most 4096 grants in all
abbrev pub are_actors_within : List GivenActor → Bool
are_actors_within actors =
    is_between 1 MOST_ACTORS (length actors) && nat_le (grant_count actors) MOST_GRANTS

-- for each part, whether what was given of it is in its range
abbrev pub given_ranges : GivenFields → List (Part × Bool)
given_ranges given =
    (JournalLimit, is_some given.journal_limit)
    ∷ (Policies, is_between 1 MOST_POLICIES (length given.policies.items))
    ∷ (Process, is_between 1 MOST_PROCESSES (length given.processes.items))
    ∷ (Actor, are_actors_within given.actors.items)
    ∷ (Protect, nat_le (length given.protections.items) MOST_PROTECTIONS)
    ∷ []

-- the first part that was given outside its range
abbrev pub first_given_outside : GivenFields → Option Part
first_given_outside given =
    option_map (λ part. part.0) (find (λ part. not part.1) (given_ranges given))
