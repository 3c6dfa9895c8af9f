use Rattle.std.proofs.Common.{◌≡◌, sym, subst}
use Rattle.std.specs.Prelude.{None, IsTrue}
use Rattle.fy_cluster.specs.Execution.{Execution}
use Rattle.fy_cluster.specs.Setup.{Setup}
use Rattle.fy_holders.specs.Noted.{AreNoted, IsSince}
use Rattle.fy_holders.specs.Turns.{AreTurnsOfEach, AreTurnsUpTo}
use Rattle.fy_holders.specs.Watched.{Watched}
use Rattle.fy_holders.proofs.Since.{turns_up_to}
use Rattle.fy_holders.proofs.watch.Watch.finish.Goals as goal

pub since_of-since-requires-clause-turns : goal.since_of-since-requires-clause-turns
since_of-since-requires-clause-turns c =
    let sound = c.self.invariant (subst (λ (w : Watched). IsTrue w.is_whole) (sym c.self.view_is) c.in_ok-check_whole.ensures.whole) (subst (λ (w : Watched). w.replayed.first_bad ≡ None) (sym c.self.view_is) c.requires) in
    subst (AreTurnsUpTo c.self.inside.end) (sym c.deref.ensures.value) (turns_up_to _ _ _ _ sound.noted.end_is sound.noted.turns_are)

pub invariant_of-result : goal.invariant_of-result
invariant_of-result c =
    let inside = c.self.inside in
    let sound = c.self.invariant (subst (λ (w : Watched). IsTrue w.is_whole) (sym c.self.view_is) c.in_ok-check_whole.ensures.whole) (subst (λ (w : Watched). w.replayed.first_bad ≡ None) (sym c.self.view_is) c.requires) in
    let x : Execution = c.into_cluster-cluster.result in
    let same = sym c.into_cluster-cluster.ensures in
    let noted : AreNoted x.setup x.journal inside.end inside.turns.items inside.heals.items inside.answers.items = subst (λ (x : Execution). AreNoted x.setup x.journal inside.end inside.turns.items inside.heals.items inside.answers.items) same sound.noted in
    let turns = subst (AreTurnsOfEach c.config.result.now x.journal) (sym c.deref.ensures.value) (subst (λ (s : Setup). AreTurnsOfEach s x.journal inside.turns.items) (sym c.config.ensures) noted.turns_are) in
    record {
      noted = noted;
      since_is = subst (λ (s : Setup). IsSince s x.journal c.since_of-since.result) c.config.ensures (c.since_of-since.ensures.since x.journal turns noted.end_is);
    }
