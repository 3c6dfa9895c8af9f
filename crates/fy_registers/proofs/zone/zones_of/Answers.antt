use Rattle.std.proofs.Common.{ap, ◌≡◌, ◌+◌, List, length, None, sym, subst, ◌∙◌, arith}
use Rattle.std.proofs.Common.{Vec, Global}
use Rattle.fy_registers.specs.declared.operation.Operation.{Operation}
use Rattle.fy_registers.specs.declared.zone.Seen.{Seen}
use Rattle.fy_registers.specs.declared.zone.Zone.{Zone}
use Rattle.fy_registers.specs.Zones.{AreSeen}
use Rattle.fy_registers.proofs.Zoning.{ZonesSoFar, judged_not, zones_step_found, zones_skip, zones_end}
use Rattle.fy_registers.proofs.zone.zones_of.Goals as goal
use Rattle.fy_registers.proofs.zone.zones_of.Goals.{in-Some-found+in_ok-push, in_default-found}

abbrev no_seen : Seen
no_seen = record { write = None; ended = None }

-- the table shows the operations
table_seen : (h : List Operation) (items table : List Seen) → table ≡ items → AreSeen h items → AreSeen h table
table_seen h items table is seen = subst (λ t. AreSeen h t) (sym is) seen

pub returns-in-Err : goal.returns-in-Err
returns-in-Err c =
    judged_not c.args.operations.now c.deref-seen-items.result.now (table_seen c.args.operations.now c.in_ok-table.table.items c.deref-seen-items.result.now c.deref-seen-items.ensures.value c.in_ok-table.ensures) c.loop-value.value no_seen c.loop-value-test.true
    c.requires c.in_default.ensures.none c.in-Err.evidence c.in-Err.ensures.none

pub loop-value-preserved : goal.loop-value-preserved
loop-value-preserved c =
    let h = c.args.operations.now in
    let table = c.deref-seen-items.result.now in
    let i = c.loop-value.value in
    let seen = table_seen c.args.operations.now c.in_ok-table.table.items c.deref-seen-items.result.now c.deref-seen-items.ensures.value c.in_ok-table.ensures in
    elim c.match-found.branch [
      | in-Some-found+in_ok-push w ↦ subst (λ (zones : List Zone). ZonesSoFar h table (i + 1) zones) (sym w.in_ok-push.ensures.items ∙ ap (λ (t : Vec Zone Global). t.items) (sym w.zones-is))
          (zones_step_found h table seen i no_seen c.loop-value-test.true c.loop-value.zones.items c.loop-value.invariant c.in-Ok.found c.in-Ok.ensures.zone w.in-Some-found.zone w.in-Some-found.is)
      | in_default-found w ↦ subst (λ (t : Vec Zone Global). ZonesSoFar h table (i + 1) t.items) (sym w.zones-is)
          (zones_skip h table seen i no_seen c.loop-value-test.true c.loop-value.zones.items c.loop-value.invariant c.in-Ok.found c.in-Ok.ensures.zone w.in_default-found.is)
    ]

pub returns : goal.returns
returns c = (
  c.in_default.ensures.none,
  zones_end c.args.operations.now c.deref-seen-items.result.now (table_seen c.args.operations.now c.in_ok-table.table.items c.deref-seen-items.result.now c.deref-seen-items.ensures.value c.in_ok-table.ensures)
      no_seen c.loop-value.zones.items (subst (λ i. ZonesSoFar c.args.operations.now c.deref-seen-items.result.now i c.loop-value.zones.items) (let same : c.loop-value.value ≡ length c.deref-seen-items.result.now = omega arith in same) c.loop-value.invariant),
)
