use Rattle.std.proofs.Common.{◌∙◌, sym, ap, arith}
use Rattle.std.specs.Prelude.{option_and_then}
use Rattle.std.proofs.lemmas.Option.{IfSome_then}
use Rattle.fy_config.specs.Config.{index_of}
use Rattle.fy_config.proofs.Found.{found_place}
use Rattle.fy_config.proofs.names.process_named.Goals as goal

pub returns-clause-place : goal.returns-clause-place
returns-clause-place c =
    found_place c.args.map.now c.in_ok-name.name c.find.result c.names_differ.ensures
    c.find.ensures.found c.find.ensures.within c.find.ensures.missing
    ∙ sym (ap (option_and_then (index_of c.args.map.now)) c.in_ok-name.was)

pub returns-clause-small : goal.returns-clause-small
returns-clause-small c =
    IfSome_then c.find.result c.find.ensures.within (λ p h. omega (arith, c.len-count.ensures.few))
