use Rattle.std.proofs.Common.{◌∙◌, sym, ap, slice_get}
use Rattle.fy_cluster.specs.Setup.{Setup}
use Rattle.fy_cluster.proofs.Entering.{by_stranger, by_wrong_role, by_actor}
use Rattle.fy_cluster.proofs.machine.Machine.reply.Goals as goal

pub returns-in_default : goal.returns-in_default
returns-in_default g c =
    by_stranger g.point c.args.by c.args.act.now _ c.requires.0 c.requires.1.1.0 (ap (λ (s : Setup). slice_get s.roles c.args.by) (sym c.requires.1.0) ∙ sym c.in_default.ensures)

pub returns-then-not-may : goal.returns-then-not-may
returns-then-not-may g c =
    by_wrong_role g.point c.args.by c.args.act.now c.in-Some.role _ c.requires.0 c.requires.1.1.0 (ap (λ (s : Setup). slice_get s.roles c.args.by) (sym c.requires.1.0) ∙ sym c.in-Some.ensures)
    (sym c.if-not-may.ensures)

pub returns : goal.returns
returns g c =
    by_actor g.point c.args.by c.args.act.now c.in-Some.role c.act.result c.act.new.self c.requires.1.1.0 (ap (λ (s : Setup). slice_get s.roles c.args.by) (sym c.requires.1.0) ∙ sym c.in-Some.ensures)
    (sym c.if-not-may.ensures)
    c.act.ensures
