use Rattle.std.proofs.Common.{◌≡◌, get_or, arith}
use Rattle.fy_kinds.specs.Kinds.{Striking, Clogging, all_kinds, place}
use Rattle.fy_kinds.specs.declared.kind.Kind.{Kind}
use Rattle.fy_kinds.specs.declared.kind.Kind.TheVariants.{RebootProcess}
use Rattle.fy_spelling.proofs.ScannedLists.{nothing_read, read_more, read_on, placed}
use Rattle.fy_spelling.proofs.scan.lists.kinds.Goals as goal
use Rattle.fy_spelling.proofs.scan.lists.kinds.Goals.{in-Some, in_default}

pub loop-kind-init : goal.loop-kind-init
loop-kind-init c = rw c.empty-found.ensures (nothing_read c.args.line.now)

pub loop-kind-preserved : goal.loop-kind-preserved
loop-kind-preserved c =
    let i = c.loop-kind.kind-index in
    let kind : Kind = get_or all_kinds i RebootProcess in
    let found = c.loop-kind.found in
    let later = c.loop-kind.later in
    elim c.match-listed.branch [
      | in-Some w ↦
          rw (w.found-is, w.later-is, w.rest-is, w.insert.ensures, w.of.ensures)
          (read_more c.args.line.now c.loop-kind.rest.now w.in-Some.after.now found (Striking kind)
          later i (placed i c.loop-kind-test.true) c.loop-kind.invariant
          (rw c.text.ensures at w.in-Some.ensures))
      | in_default w ↦
          rw (w.found-is, w.later-is, w.rest-is)
          (read_on c.args.line.now c.loop-kind.rest.now found later i c.loop-kind.invariant)
    ]

pub returns-in-Some-listed : goal.returns-in-Some-listed
returns-in-Some-listed c =
    let end : place Clogging ≡ c.loop-kind.kind-index = omega arith in
    rw (c.union.ensures, c.of_clog.ensures)
    (read_more c.args.line.now c.loop-kind.rest.now c.in-Some-listed.after.now c.loop-kind.found
    Clogging c.loop-kind.later c.loop-kind.kind-index end c.loop-kind.invariant
    c.in-Some-listed.ensures).text
