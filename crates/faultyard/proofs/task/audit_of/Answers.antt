use Rattle.std.proofs.Common.{rules, ◌≡◌, ◌∙◌, false, true, codes, sym, ap, is_some}
use Rattle.clap.specs.Words.{found_of}
use Rattle.clap.proofs.WalkLemmas.{first_value-rows}
use Rattle.faultyard.proofs.task.audit_of.Goals as goal

pub unreachable-requires : goal.unreachable-requires
unreachable-requires c =
    let bad : false ≡ true = ap is_some (c.in-None.ensures ∙ first_value-rows (found_of c.args.given.now) (codes "audit")) ∙ c.requires in
    absurd (search rules)

pub returns : goal.returns
returns c = sym (c.in-Some.ensures ∙ first_value-rows (found_of c.args.given.now) (codes "audit"))
