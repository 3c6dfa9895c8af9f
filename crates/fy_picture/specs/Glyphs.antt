-- what a glyph shows of an order: it stands at each process that the order's target names, is
-- filled exactly where the order struck as ordered, and its title names the rule that stood
-- against more
use Rattle.std.specs.Prelude.{Bool, false, ◌==◌, Option, None, is_none}
use Rattle.fy_kinds.specs.Kinds.{rank}
use Rattle.fy_kinds.specs.declared.verdict.Rule.{Rule}
use Rattle.fy_acts.specs.declared.act.Act.{Act}
use Rattle.fy_acts.specs.declared.act.Act.TheVariants.{Kill, Clog, Unclog}
use Rattle.fy_acts.specs.declared.reply.Reply.{Reply}
use Rattle.fy_acts.specs.declared.reply.Reply.TheVariants.{Verdict, Ruled}
use Rattle.fy_cluster.specs.History.{some_is}

-- a kill struck by the ordered kind, told by its rank; a clog or an end of clogs has no rule
-- against it
abbrev pub struck_as_ordered : Act → Reply → Bool
struck_as_ordered (Kill order) (Verdict verdict) =
    some_is (λ kind. rank kind == rank order.kind) verdict.struck
struck_as_ordered (Clog target ticks) (Ruled rule) = is_none rule
struck_as_ordered (Unclog target) (Ruled rule) = is_none rule
struck_as_ordered _ _ = false

-- the rule that a reply names
abbrev pub rule_of : Reply → Option Rule
rule_of (Verdict verdict) = verdict.rule
rule_of (Ruled rule) = rule
rule_of _ = None
