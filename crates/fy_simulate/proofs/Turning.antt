-- turns one after another
use Rattle.std.proofs.Common.{arith, ◌≡◌, ◌∙◌, ◌+◌, ℕ, suc, List, Ok, Err, ap, subst}
use Rattle.std.specs.Prelude.{Result, OnOk}
use Rattle.std.specs.Result.{result_or}
use Rattle.fy_acts.specs.declared.entry.Entry.{Entry}
use Rattle.fy_audit.specs.AuditText.{audit_text}
use Rattle.fy_acts.specs.declared.version.Version.{Version}
use Rattle.fy_acts.specs.declared.version.Version.TheVariants.{Second}
use Rattle.fy_cluster.specs.Setup.{Setup}
use Rattle.fy_cluster.specs.Execution.{Execution}
use Rattle.fy_players.specs.declared.faults.Plan.{Plan}
use Rattle.fy_simulate.specs.Simulate.{Stage, OneTurn, Turns, IsSimulated, HasSimulatedAudit}

-- a turn changes no setup
pub setup_kept : (lots : List ℕ) (was now : Stage) → OneTurn lots was now → now.execution.setup ≡ was.execution.setup
setup_kept lots was now one = ap (λ (x : Execution). x.setup) one.takes.takes.execution

-- and one turn more
pub one_more : (lots : List ℕ) (start was now : Stage) (n : ℕ) → Turns lots start n was → OneTurn lots was now → Turns lots start (n + 1) now
one_more lots start was now n turns one =
    subst (λ (m : ℕ). Turns lots start m now) (let e : suc n ≡ n + 1 = omega arith in e)
    (Turns.more n was now turns one)

-- what holds where a turn is taken holds where a turn is taken or else an allocation failed
pub held_past : {T E D : Type 0} (P : Type 0) (r : Result T E) (refused : D) (x : T) → OnOk r P → Ok x ≡ result_or r (Err refused) → P
held_past P (Ok y) refused x holds is = holds
held_past P (Err fault) refused x holds is = let bad : ⊥ = cc in absurd bad

-- the audit of a simulated journal
pub has_audit : (c : Setup) (seed : ℕ) (plan : Plan) (acts : ℕ) (journal : List Entry) (version : Version) (entries : List Entry) (P : List ℕ → Type 0)
    → IsSimulated c seed plan acts journal → entries ≡ journal → version ≡ Second → P (audit_text version entries)
    → HasSimulatedAudit c seed plan acts P
has_audit c seed plan acts journal version entries P is same second holds =
    (journal, is, subst P (ap (audit_text version) same ∙ ap (λ v. audit_text v journal) second) holds)
