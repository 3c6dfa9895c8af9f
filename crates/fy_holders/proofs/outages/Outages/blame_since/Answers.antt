use Rattle.std.proofs.Common.{◌≤◌, ◌∙◌, length, ap, sym, subst}
use Rattle.fy_cluster.specs.Execution.{Execution}
use Rattle.fy_cluster.specs.Setup.{Setup}
use Rattle.fy_holders.specs.Noted.{IsSince}
use Rattle.fy_holders.specs.Blames.{IsToBlame}
use Rattle.fy_holders.specs.Turns.{AreTurnsOfEach, AreTurnsUpTo}
use Rattle.fy_holders.proofs.Since.{since_covered, turns_up_to}
use Rattle.fy_holders.proofs.outages.Outages.blame_since.Goals as goal

pub move_to-requires-clause-turns : goal.move_to-requires-clause-turns
move_to-requires-clause-turns c = subst (AreTurnsUpTo c.self.inside.end) (sym c.deref.ensures.value) (turns_up_to _ _ _ _ c.self.invariant.noted.end_is c.self.invariant.noted.turns_are)

pub returns-clause-blame : goal.returns-clause-blame
returns-clause-blame c = λ within.
    let noted = c.self.invariant.noted in
    let place : c.args.position ≤ c.self.inside.end = subst (λ n. c.args.position ≤ n) (ap (λ (x : Execution). length x.journal) (sym c.self.view_is) ∙ sym noted.end_is) within in
    let turns = subst (AreTurnsOfEach c.config-config.result.now c.self.inside.cluster.journal) (sym c.deref.ensures.value) (subst (λ (s : Setup). AreTurnsOfEach s c.self.inside.cluster.journal c.self.inside.turns.items) (sym c.config-config.ensures) noted.turns_are) in
    let was = subst (λ (s : Setup). IsSince s c.self.inside.cluster.journal c.self.inside.since) (sym c.config-config.ensures) c.self.invariant.since_is in
    let since = c.move_to.ensures.since c.self.inside.cluster.journal turns noted.end_is was in
    let blame = since_covered c.config-config.result.now c.self.inside.cluster.journal c.move_to.new.since c.args.position since (c.move_to.ensures.covers place) in
    subst (λ (x : Execution). IsToBlame x.setup x.journal c.args.position c.move_to.new.since.blame) c.self.view_is
    (subst (λ (s : Setup). IsToBlame s c.self.inside.cluster.journal c.args.position c.move_to.new.since.blame) c.config-config.ensures blame)
