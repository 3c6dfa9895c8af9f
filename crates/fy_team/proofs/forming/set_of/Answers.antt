use Rattle.std.proofs.Common.{◌||◌, eqb, get_or, take, ap, sym, ◌∙◌}
use Rattle.std.specs.Ordering.{nat_cmp}
use Rattle.std.specs.FinSet as sets
use Rattle.std.specs.Cmp.{nat_cmp_total, unsigned_tied}
use Rattle.std.proofs.lemmas.List.{take_all}
use Rattle.std.proofs.lemmas.List.Folds.{list_any_more}
use Rattle.fy_locality.specs.declared.ProcId.{ProcId}
use Rattle.fy_locality.specs.declared.TheConstants.{MOST_PROCESSES}
use Rattle.fy_team.specs.Teams.{is_among}
use Rattle.fy_team.proofs.Rising.{all_below, either_way}
use Rattle.fy_team.proofs.forming.set_of.Goals as goal

pub loop-p-init : goal.loop-p-init
loop-p-init c = λ q. ap (λ s. sets.contains s q) c.empty-set.ensures ∙ sets.contains-empty nat_cmp q

pub put-requires : goal.put-requires
put-requires c = all_below MOST_PROCESSES c.args.members.now c.requires c.loop-p.p-index _ c.loop-p-test.true

pub loop-p-preserved : goal.loop-p-preserved
loop-p-preserved c = λ q.
    let p : ProcId = get_or c.args.members.now c.loop-p.p-index (record { 0 = 0 }) in
    ap (λ s. sets.contains s q) c.put.ensures
    ∙ sets.contains-insert nat_cmp_total c.loop-p.set p.0 q
    ∙ ap (λ b. b || sets.contains c.loop-p.set q) (unsigned_tied q p.0)
    ∙ ap (λ b. eqb q p.0 || b) (c.loop-p.invariant q)
    ∙ either_way q p.0 (is_among (take c.loop-p.p-index c.args.members.now) q)
    ∙ sym (list_any_more (λ m. eqb m.0 q) c.args.members.now c.loop-p.p-index (record { 0 = 0 }) c.loop-p-test.true)

pub returns : goal.returns
returns c = λ q. c.loop-p.invariant q ∙ ap (λ ps. is_among ps q) (take_all _ _ c.loop-p-test.false)
