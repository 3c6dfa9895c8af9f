use Rattle.std.proofs.Common.{◌≡◌, ◌<◌, length, arith}
use Rattle.std.proofs.lemmas.Result.{IfOk-weaker, IfErr-weaker}
use Rattle.fy_c.specs.KillingProcess.{NoOrderOn}
use Rattle.fy_c.proofs.Processes.{no_kinds_on}
use Rattle.fy_c.proofs.killing_process.kinds_on.Goals as goal

pub returns-then-process-len-clause-none : goal.returns-then-process-len-clause-none
returns-then-process-len-clause-none c = λ tear.
    NoOrderOn.no_process
    (let count : c.len.result ≡ length c.args.map.now = c.len.ensures.count in
    let past = c.if-process-len.true in
    omega arith)

pub returns-clause-given : goal.returns-clause-given
returns-clause-given c =
    let there : c.args.process < length c.args.map.now =
    (let count : c.len.result ≡ length c.args.map.now = c.len.ensures.count in
    let before = c.if-process-len.false in
    omega arith) in
    IfOk-weaker c.kinds_of.result _ _
    (λ kinds are. λ tear. record { process = there; kind_is = are.kind_is; floor_is = are.floor_is })
    c.kinds_of.ensures.kinds

pub returns-clause-ordered : goal.returns-clause-ordered
returns-clause-ordered c =
    IfOk-weaker c.kinds_of.result _ _ (λ kinds are. are.ordered) c.kinds_of.ensures.kinds

pub returns-clause-none : goal.returns-clause-none
returns-clause-none c =
    let there : c.args.process < length c.args.map.now =
    (let count : c.len.result ≡ length c.args.map.now = c.len.ensures.count in
    let before = c.if-process-len.false in
    omega arith) in
    IfErr-weaker c.kinds_of.result _ _ (λ status none. λ tear. no_kinds_on _ _ status there none)
    c.kinds_of.ensures.none
