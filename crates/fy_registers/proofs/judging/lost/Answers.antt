use Rattle.fy_registers.proofs.Rows.{first_without, first_with, nothing_shown, if_none}
use Rattle.fy_registers.proofs.judging.lost.Goals as goal

pub returns-in_err-read-clause-none : goal.returns-in_err-read-clause-none
returns-in_err-read-clause-none c =
    if_none _ c.from_residual.result (first_without c.args.operations.now c.args.zones.now c.last_of_nothing.result c.last_of_nothing.ensures c.in_err-read.was)

pub returns-in_err-zone-clause-none : goal.returns-in_err-zone-clause-none
returns-in_err-zone-clause-none c =
    if_none _ c.from_residual-in_err-zone.result
    (first_with c.args.operations.now c.args.zones.now c.last_of_nothing.result c.last_of_nothing.ensures c.in_ok-read.read c.in_ok-read.was c.in_err-zone.ensures.none)

pub returns-clause-found : goal.returns-clause-found
returns-clause-found c =
    nothing_shown c.args.operations.now c.args.zones.now c.last_of_nothing.result c.last_of_nothing.ensures c.requires.zones c.in_ok-read.read c.in_ok-read.was c.in_ok-zone.zone c.in_ok-zone.ensures.found c.in_ok-zone.ensures.before
