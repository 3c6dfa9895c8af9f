use Rattle.std.proofs.Common.{◌≡◌, Some, None, Err, Option, refl}
use Rattle.fy_cluster.specs.Setup.{setup_of, config_refusal}
use Rattle.fy_cluster.specs.declared.config.MakeFault.{MakeFault}
use Rattle.fy_config.proofs.reading.config_made.Goals as goal

pub returns-in-Ok : goal.returns-in-Ok
returns-in-Ok c = (c.in-Ok.ensures.value, go _ refl)
  where
    go : (o : Option MakeFault)
        → config_refusal (setup_of c.args.map c.args.policies.items c.args.roles.items c.args.grants.items c.args.protections.items c.args.limit) ≡ o
        → config_refusal (setup_of c.args.map c.args.policies.items c.args.roles.items c.args.grants.items c.args.protections.items c.args.limit) ≡ None
    go None is = is
    go (Some fault) is =
        let err : c.make.result ≡ Err fault = c.make.ensures.refused fault is in
        let ok = c.in-Ok.is in
        absurd (let none : ⊥ = cc in none)
