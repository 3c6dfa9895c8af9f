-- rounds: the acts of a plan that are drawn at once, from a stream of their own
use Rattle.std.specs.Prelude.{ℕ, List, ◌++◌, length, map, drop}
use Rattle.std.proofs.Common.{lit≤}
use Rattle.fy_locality.specs.declared.locality.Locality.{Locality}
use Rattle.fy_kinds.specs.declared.kind.Kind.TheVariants.{Reboot, RebootAndDelete}
use Rattle.fy_acts.specs.declared.act.Act.{Act}
use Rattle.fy_acts.specs.declared.act.Act.TheVariants.{Clog, Unclog}
use Rattle.fy_actors.specs.Plans.{chosen, shuffled, machines_to_kill, everyone, plan_words}
use Rattle.fy_actors.specs.Schedules.{process_target, attrition_acts}
use Rattle.fy_players.specs.declared.rounds.TheConstants.{EVERY_MACHINE}

-- a swizzle of all processes: each that is chosen is clogged for so many ticks, and then freed in a
-- shuffled order
abbrev pub swizzle_by : List Locality → (words : List ℕ) → (ticks : ℕ) → List Act
swizzle_by processes words ticks =
    let those = everyone processes in
    map (λ p. Clog (process_target processes p) ticks) (chosen words those)
    ++ map (λ p. Unclog (process_target processes p))
    (shuffled (drop (length those) words) (chosen words those))

-- a round of a swizzle
abbrev pub swizzle_round : List Locality → (seed stream ticks : ℕ) → List Act
swizzle_round processes seed stream ticks =
    swizzle_by processes (plan_words processes seed stream) ticks

-- a round of an attrition: every machine, in a shuffled order, is emptied or at least rebooted; the
-- stream's number is the tear too
abbrev pub attrition_round : List Locality → (seed stream : ℕ) → List Act
attrition_round processes seed stream =
    attrition_acts RebootAndDelete Reboot stream (lit≤ tt)
    (machines_to_kill (plan_words processes seed stream) processes EVERY_MACHINE 0)
