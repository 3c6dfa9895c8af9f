-- whether something else was done for an order than its reply says
use Rattle.std.specs.Prelude.{Bool, true, false, not, ◌==◌, Option, Some, None, is_none, if◌then◌else◌}
use Rattle.fy_kinds.specs.Kinds.{rank}
use Rattle.fy_kinds.specs.declared.kind.Kind.{Kind}
use Rattle.fy_acts.specs.declared.act.Act.{Act}
use Rattle.fy_acts.specs.declared.act.Act.TheVariants as act
use Rattle.fy_acts.specs.declared.reply.Reply.{Reply}
use Rattle.fy_acts.specs.declared.reply.Reply.TheVariants as reply
use Rattle.fy_events.specs.declared.event.Done.{Done}
use Rattle.fy_events.specs.declared.event.Done.TheVariants.{Untold, Nothing, Kill, Clog}

-- what is done where a kill strikes so
abbrev pub struck_done : Option Kind → Done
struck_done None = Nothing
struck_done (Some kind) = Kill kind

-- what the reply to a kill or a clog says is done
abbrev pub answered : Act → Reply → Option Done
answered (act.Kill order) (reply.Verdict verdict) = Some (struck_done verdict.struck)
answered (act.Kill order) _ = Some Nothing
answered (act.Clog target ticks) (reply.Ruled rule) = Some (if is_none rule then Clog else Nothing)
answered (act.Clog target ticks) _ = Some Nothing
answered _ _ = None

-- the same was done
abbrev pub same_done : Done → Done → Bool
same_done Untold Untold = true
same_done Nothing Nothing = true
same_done (Kill a) (Kill b) = rank a == rank b
same_done Clog Clog = true
same_done _ _ = false

-- something was done, and the reply says something else
abbrev pub differs : Option Done → Done → Bool
differs None done = false
differs (Some answer) Untold = false
differs (Some answer) done = not (same_done answer done)
