use Rattle.std.proofs.Common.{◌≡◌, ap, eqb-true, eq-eqb, rules}
use Rattle.std.specs.Bool.{Decides}
use Rattle.std.specs.Prelude.{nat_eq}
use Rattle.std.specs.Ordering.{on}
use Rattle.std.proofs.lemmas.Slice.Eq.{slice_eq-Decides}
use Rattle.fy_locality.specs.declared.ProcId.{ProcId}
use Rattle.fy_team.specs.Members.{same_numbers}
use Rattle.fy_team.proofs.members.MembersPartialEq.eq.Goals as goal

-- processes of one number are one process
same_process : (p q : ProcId) → Decides (on (λ p. p.0) nat_eq p q) (p ≡ q)
same_process p q = (λ e. ap (λ n. record { 0 = n }) (eqb-true p.0 q.0 e), λ e. eq-eqb p.0 q.0 (ap (λ (r : ProcId). r.0) e))

pub returns-clause-same : goal.returns-clause-same
returns-clause-same c =
    let test : c.eq.result ≡ same_numbers c.args.self.now c.args.other.now = search rules in
    slice_eq-Decides same_process c.args.self.now c.args.other.now c.eq.result test
