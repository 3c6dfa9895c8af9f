use Rattle.std.proofs.Common.{rules, arith, ◌≡◌, ◌∙◌, ◌≤◌, ◌+◌, true, false, length, sym, ap, subst}
use Rattle.fy_locality.specs.declared.TheConstants.{MOST_PROCESSES}
use Rattle.fy_cluster.specs.Setup.{Setup}
use Rattle.fy_players.specs.Storage.{is_taken}
use Rattle.fy_players.proofs.Spreads.{AreTaken, taken_of, one_more, are_members}
use Rattle.fy_players.proofs.storage.spread.Goals as goal

pub loop-p-preserved : goal.loop-p-preserved
loop-p-preserved c =
    let test = is_taken c.args.cluster.now c.args.first c.args.step in
    subst (AreTaken test (c.loop-p.p + 1)) (sym c.in_ok-push_where.ensures)
    (one_more test c.loop-p.p c.loop-p.members.items c.is_taken-taken.result
    (sym c.is_taken-taken.ensures) c.loop-p.invariant)

pub unreachable-requires : goal.unreachable-requires
unreachable-requires c =
    let test = is_taken c.args.cluster.now c.args.first c.args.step in
    let ends = c.loop-p.auto.p-end in
    let count = c.len-p-end.ensures.count in
    let small = c.len-p-end.ensures.few in
    let few : c.loop-p.p ≤ MOST_PROCESSES = omega arith in
    let bad : false ≡ true =
    c.in_default.ensures.accepted
    (are_members test c.loop-p.p c.loop-p.members.items c.loop-p.invariant few) in
    absurd (search rules)

pub returns : goal.returns
returns c =
    let test = is_taken c.args.cluster.now c.args.first c.args.step in
    let ends = c.loop-p.auto.p-end in
    let ended = c.loop-p-test.false in
    let count = c.len-p-end.ensures.count in
    let same : length c.map.result.now ≡ length c.args.cluster.now.setup.processes =
    ap length c.map.ensures ∙ ap (λ (s : Setup). length s.processes) c.config.ensures in
    let all : c.loop-p.p ≡ length c.args.cluster.now.setup.processes = omega arith in
    c.in-Ok.ensures.made ∙ (c.loop-p.invariant.made ∙ ap (taken_of test) all)
