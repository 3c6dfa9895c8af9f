-- what the texts of a file name, as the parts that are read after one another are told it
use Rattle.std.specs.Prelude.{◌≡◌, ℕ, List, Bool, true, bytes_eq, is_some, map, Option, Some, None, option_map, Result, Ok, Err}
use Rattle.std.specs.List.{list_any, list_all, flat_map, enumerate_from}
use Rattle.fy_locality.specs.declared.locality.Locality.{Locality}
use Rattle.fy_grants.specs.declared.grant.Grant.{Grant}
use Rattle.fy_cluster.specs.Setup.{Setup, config_refusal}
use Rattle.fy_cluster.specs.declared.config.MakeFault.TheVariants as make
use Rattle.fy_config.specs.declared.fault.Part.{Part}
use Rattle.fy_config.specs.declared.fault.ConfigFault.{ConfigFault}
use Rattle.fy_config.specs.declared.fault.ConfigFault.TheVariants.{TooLong, Toml, Field, Limit, Name, Policy, PolicyUnmet, NoMemory}
use Rattle.fy_config.specs.declared.given.GivenGrant.{GivenGrant}
use Rattle.fy_config.specs.declared.reading.Numbered.{Numbered}
use Rattle.fy_config.specs.Config.{Fields, bad_name_at, first_bad_name, grants_of, protection_in, IsFirstRefused}

-- a bad name at the first place of a part that is bad; an allocation failure can take its place
abbrev pub IsNameFault : Part → Option ℕ → ConfigFault → Type 0
IsNameFault part bad NoMemory = Unit {0}
IsNameFault part bad fault = bad_name_at part bad ≡ Some fault

-- what a part gives where no place of it is bad, and else its first bad name
abbrev pub NamesAre : {A : Type 0} → Part → Option ℕ → (A → Type 0) → Result A ConfigFault → Type 0
NamesAre part bad P (Ok x) = (bad ≡ None) × P x
NamesAre part bad P (Err fault) = IsNameFault part bad fault

-- a process that is no name, or has the name of one before
abbrev pub is_bad_given : List Locality → Option Locality → Bool
is_bad_given before None = true
is_bad_given before (Some process) = list_any (λ p. bytes_eq p.process process.process) before

-- a grant of the actor with this number, where its scope is known
abbrev pub grant_by : ℕ → GivenGrant → Option Grant
grant_by number given =
    option_map (λ scope. record { actor = number; kinds = given.kinds; scope = scope }) given.scope

-- whether the scopes of all grants are known
abbrev pub have_scopes : List GivenGrant → Bool
have_scopes grants = list_all (λ grant. is_some grant.scope) grants

-- the fault of the first text that is of no policy; an allocation failure can take its place
abbrev pub IsPolicyFault : List (List ℕ) → ConfigFault → Type 0
IsPolicyFault texts NoMemory = Unit {0}
IsPolicyFault texts (Policy index) = IsFirstRefused texts index
IsPolicyFault texts TooLong = ⊥
IsPolicyFault texts Toml = ⊥
IsPolicyFault texts (Field part) = ⊥
IsPolicyFault texts (Limit part) = ⊥
IsPolicyFault texts (Name part index) = ⊥
IsPolicyFault texts (PolicyUnmet index) = ⊥

-- the parts are those of the file, with a number for each name
pub record IsNumbered (f : Fields) (parts : Numbered) : Type 0 where
  pub processes : parts.map ≡ f.processes
  pub roles : parts.roles.items ≡ map (λ actor. actor.0) f.actors
  pub grants : parts.grants.items ≡ flat_map grants_of (enumerate_from 0 f.actors)
  pub protections : parts.protections.items ≡ map (protection_in f.processes) f.protections

-- the numbered parts of a file, or its first bad name
abbrev pub AreNumbered : Fields → Result Numbered ConfigFault → Type 0
AreNumbered f (Ok parts) = (first_bad_name f ≡ None) × IsNumbered f parts
AreNumbered f (Err fault) = first_bad_name f ≡ Some fault

-- the configuration of a setup, or its first policy that isn't met
abbrev pub IsMade : Setup → Result Setup ConfigFault → Type 0
IsMade setup (Ok config) = (config ≡ setup) × (config_refusal setup ≡ None)
IsMade setup (Err (PolicyUnmet index)) = config_refusal setup ≡ Some (make.PolicyUnmet index)
IsMade setup (Err _) = ⊥
