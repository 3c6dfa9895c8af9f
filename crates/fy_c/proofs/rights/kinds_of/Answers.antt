use Rattle.std.proofs.Common.{◌∙◌, ap}
use Rattle.std.specs.Prelude.{◌/◌, ◌%◌, ◌==◌}
use Rattle.fy_c.specs.Making.{NoKinds}
use Rattle.fy_c.proofs.KindBits.{asked, gathered_are, no_such_bits}
use Rattle.fy_c.proofs.rights.kinds_of.Goals as goal

pub returns-clause-kinds : goal.returns-clause-kinds
returns-clause-kinds c =
    let bits = c.args.bits in
    gathered_are bits c.asked-mild.result c.asked-reboot.result c.asked-delete.result
    c.asked-kill.result c.asked-clog.result c.union.result c.union-2.result c.union-3.result
    c.union-4.result c.if-bits-ge32.false
    (c.asked-mild.ensures ∙ ap (asked (bits % 2 == 1)) c.of.ensures)
    (c.asked-reboot.ensures ∙ ap (asked (bits / 2 % 2 == 1)) c.of-2.ensures)
    (c.asked-delete.ensures ∙ ap (asked (bits / 4 % 2 == 1)) c.of-3.ensures)
    (c.asked-kill.ensures ∙ ap (asked (bits / 8 % 2 == 1)) c.of-4.ensures)
    (c.asked-clog.ensures ∙ ap (asked (bits / 16 % 2 == 1)) c.of_clog.ensures)
    c.union.ensures c.union-2.ensures c.union-3.ensures c.union-4.ensures

pub returns-then-bits-ge32-clause-none : goal.returns-then-bits-ge32-clause-none
returns-then-bits-ge32-clause-none c =
    NoKinds.no_kinds (no_such_bits c.args.bits c.if-bits-ge32.true)
