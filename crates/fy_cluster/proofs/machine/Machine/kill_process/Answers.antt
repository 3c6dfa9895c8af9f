use Rattle.std.proofs.Common.{◌≡◌, ◌<◌, length, Some, Ok, ◌∙◌, ap, sym, subst, refl, not, slice_get}
use Rattle.fy_locality.specs.declared.key.Key.TheVariants.{Process}
use Rattle.fy_locality.specs.Locality.{value_of}
use Rattle.fy_acts.specs.declared.act.Act.TheVariants.{Kill}
use Rattle.fy_cluster.specs.Setup.{Setup}
use Rattle.fy_cluster.specs.Standing.{targets_by}
use Rattle.fy_cluster.proofs.Entering.{by_stranger, by_someone, none_when}
use Rattle.fy_cluster.proofs.Judged.{named_within}
use Rattle.fy_cluster.proofs.machine.Machine.kill_process.Goals as goal

pub returns-then-is_none : goal.returns-then-is_none
returns-then-is_none g c =
    by_stranger g.point c.args.by (Kill c.args.order.now) _ c.requires.0 c.requires.1.1.0 (ap (λ (s : Setup). slice_get s.roles c.args.by) (sym c.requires.1.0) ∙ sym c.role.ensures ∙ none_when c.role.result c.is_none.result c.is_none.ensures c.if-is_none.true)

pub process_targets-found-requires : goal.process_targets-found-requires
process_targets-found-requires g c =
    subst (λ processes. c.args.process.0 < length processes) (sym c.requires.0.dead.processes) (named_within g.point.setup.processes c.args.process.0 _ c.requires.1.1.1.name)

pub strike-requires : goal.strike-requires
strike-requires g c =
    let value = c.args.order.now.target.value in (
      c.requires.0,
      (
        c.requires.1.1.0,
        λ p.
            c.process_targets-found.ensures.those value
            (subst (λ processes. value_of processes Process c.args.process.0 ≡ Some value) (sym c.requires.0.dead.processes) c.requires.1.1.1.name) p
            ∙ ap (λ key. targets_by c.args.self.now (record { key = key; value = value }) p) (sym c.requires.1.1.1.key),
      ),
    )

pub returns : goal.returns
returns g c =
    by_someone g.point c.args.by (Kill c.args.order.now) c.role.result (Ok c.strike.result) c.strike.new.self c.requires.1.1.0 (ap (λ (s : Setup). slice_get s.roles c.args.by) (sym c.requires.1.0) ∙ sym c.role.ensures)
    (c.is_none.ensures ∙ ap not c.if-is_none.false)
    (λ role. refl)
    c.strike.ensures
