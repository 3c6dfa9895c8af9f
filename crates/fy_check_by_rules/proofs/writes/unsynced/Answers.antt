use Rattle.std.proofs.Common.{[], ◌≡◌, ◌<◌, ◌+◌, ◌++◌, length, get_or, take, None, sym, ◌∙◌, ap, ap₂, arith, rules}
use Rattle.std.specs.Prelude.{option_to_list, if◌then◌else◌}
use Rattle.fy_cluster.specs.History.{writes, unsynced}
use Rattle.fy_check_by_rules.specs.Written.{is_open, place}
use Rattle.fy_check_by_rules.specs.Past.{as_step, past}
use Rattle.fy_check_by_rules.specs.Later.{later_after}
use Rattle.fy_check_by_rules.proofs.Written.{later_at, rest-all, written-next, written_all}
use Rattle.fy_check_by_rules.proofs.Places.{unsynced_by_places}
use Rattle.fy_check_by_rules.proofs.writes.unsynced.Goals as goal

pub loop-i-preserved : goal.loop-i-preserved
loop-i-preserved c =
    let steps = c.args.before.now.steps.now in
    let i = c.loop-i.i in
    let p = c.args.p.0 in
    let s = c.index-steps-i.result in
    let within : i < length steps = c.loop-i-test.true in
    let is : s ≡ get_or steps i s = c.index-steps-i.is in
    let pushed : c.put.new.list.items ≡ c.loop-i.list.items ++ option_to_list c.open_write-open.result = search rules in
    let write : c.open_write-open.result ≡ (if is_open p (later_at steps (i + 1)) (place (past (take i steps)) p) then writes (as_step [] s) p else None) =
    c.open_write-open.ensures (past (take (i + 1) steps)) (place (past (take i steps)) p)
    ∙ ap (λ later. if is_open p (later_after (past (take (i + 1) steps)) later) (place (past (take i steps)) p) then writes (as_step [] s) p else None) (rest-all steps (i + 1)) in
    pushed ∙ ap₂ (λ items rec. items ++ option_to_list rec) c.loop-i.invariant write ∙ sym (written-next p (is_open p) steps i s within is)

pub returns : goal.returns
returns c =
    let steps = c.args.before.now.steps.now in
    let p = c.args.p.0 in
    written_all p (is_open p) steps c.loop-i.i c.loop-i.list.items (unsynced (past steps) p) (omega (arith, c.loop-i-test.false)) c.loop-i.invariant (unsynced_by_places (past steps) p)
