use Rattle.std.proofs.Common.{◌≡◌, ◌↔◌, ◌<◌, ◌&&◌, ◌+◌, suc, true, false, drop, get_or, ap, subst, ◌∙◌, arith}
use Rattle.std.specs.List.{AllPairs}
use Rattle.std.proofs.lemmas.List.{drop_all}
use Rattle.fy_locality.specs.declared.ProcId.{ProcId}
use Rattle.fy_team.specs.Members.{rises_from}
use Rattle.fy_team.proofs.Rising.{rises-at, rises-AllPairs, untested}
use Rattle.fy_team.proofs.members.rise.Goals as goal

pub returns-then-number-low : goal.returns-then-number-low
returns-then-number-low c =
    let p : ProcId = get_or c.args.processes.now c.loop-p.p-index (record { 0 = 0 }) in
    let lower : p.0 < c.loop-p.low = omega arith in
    let fails : rises_from 0 c.args.processes.now ≡ false =
    c.loop-p.invariant
    ∙ rises-at c.loop-p.low c.args.processes.now c.loop-p.p-index (record { 0 = 0 }) c.loop-p-test.true
    ∙ ap (λ b. b && rises_from (p.0 + 1) (drop (suc c.loop-p.p-index) c.args.processes.now)) (untested c.loop-p.low p.0 lower) in
    subst (λ b. (b ≡ true) ↔ AllPairs (λ (x y : ProcId). x.0 < y.0) c.args.processes.now) fails (rises-AllPairs c.args.processes.now)

pub returns : goal.returns
returns c =
    let passes : rises_from 0 c.args.processes.now ≡ true = c.loop-p.invariant ∙ ap (rises_from c.loop-p.low) (drop_all c.loop-p.p-index c.args.processes.now c.loop-p-test.false) in
    subst (λ b. (b ≡ true) ↔ AllPairs (λ (x y : ProcId). x.0 < y.0) c.args.processes.now) passes (rises-AllPairs c.args.processes.now)
