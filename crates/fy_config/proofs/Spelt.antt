-- what all parts of a file spell, by what each of them does
use Rattle.std.proofs.Common.{◌≡◌, ℤ, ℕ, Bool, true, List, Option, Some, None, Ok, option_map, refl}
use Rattle.fy_locality.specs.declared.locality.Locality.{Locality}
use Rattle.fy_kinds.specs.Members.{Members}
use Rattle.fy_grants.specs.declared.grant.Scope.{Scope}
use Rattle.fy_cluster.specs.declared.role.Role.{Role}
use Rattle.fy_config.specs.Config.{Fields, fields_from}

-- what is kept of something is kept of some value
pub some_of :
    {A B : Type 0} (g : A → B) (o : Option A) (y : B)
    → Some y ≡ option_map g o → (x : A) × (o ≡ Some x) × (y ≡ g x)
some_of g None y e = absurd (let none : ⊥ = cc in none)
some_of g (Some x) y e = (x, refl, cc)

-- parts that each spell something, and no other key
pub all_spelt :
    (f : Fields)
    (limit : Option ℤ) (policies : Option (List (List ℕ))) (processes : Option (List Locality))
    (actors : Option (List (Role × List (Members × Scope))))
    (protections : Option (List (List ℕ × Members))) (known : Option Bool)
    → limit ≡ Some f.journal_limit → policies ≡ Some f.policies → processes ≡ Some f.processes
    → actors ≡ Some f.actors → protections ≡ Some f.protections → known ≡ Some true
    → fields_from limit policies processes actors protections known ≡ Ok f
all_spelt f limit policies processes actors protections known h1 h2 h3 h4 h5 h6 =
    rw (h1, h2, h3, h4, h5, h6)
