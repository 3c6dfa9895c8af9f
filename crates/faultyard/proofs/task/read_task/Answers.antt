use Rattle.std.proofs.Common.{arith, codes, inl, inr, map}
use Rattle.std.specs.Prelude.{string_bytes}
use Rattle.std.proofs.lemmas.Result.{err_from_is_err_and}
use Rattle.faultyard.proofs.CommandLemmas.{faultless, fails_by, has_audit, has_config, has_seed, is_explain_of, is_task_of, met_task}
use Rattle.faultyard.specs.declared.task.Task.TheVariants.{Judge, Run, Check, Swarm, Simulate, Guard, Show, Bears, Verdict, Linear, Config}
use Rattle.faultyard.proofs.task.read_task.Goals as goal

pub returns-in-judge-clause-refused : goal.returns-in-judge-clause-refused
returns-in-judge-clause-refused c = faultless _ (map string_bytes c.args.words.now) c.in_ok-faultyard.ensures c.in_ok-matches.ensures.kinds

pub returns-in-run-clause-refused : goal.returns-in-run-clause-refused
returns-in-run-clause-refused c = faultless _ (map string_bytes c.args.words.now) c.in_ok-faultyard.ensures c.in_ok-matches.ensures.kinds

pub returns-in-check-clause-refused : goal.returns-in-check-clause-refused
returns-in-check-clause-refused c = faultless _ (map string_bytes c.args.words.now) c.in_ok-faultyard.ensures c.in_ok-matches.ensures.kinds

pub returns-in-swarm-clause-refused : goal.returns-in-swarm-clause-refused
returns-in-swarm-clause-refused c = faultless _ (map string_bytes c.args.words.now) c.in_ok-faultyard.ensures c.in_ok-matches.ensures.kinds

pub returns-in-simulate-clause-refused : goal.returns-in-simulate-clause-refused
returns-in-simulate-clause-refused c = faultless _ (map string_bytes c.args.words.now) c.in_ok-faultyard.ensures c.in_ok-matches.ensures.kinds

pub returns-in-guard-clause-refused : goal.returns-in-guard-clause-refused
returns-in-guard-clause-refused c = faultless _ (map string_bytes c.args.words.now) c.in_ok-faultyard.ensures c.in_ok-matches.ensures.kinds

pub returns-in-show-clause-refused : goal.returns-in-show-clause-refused
returns-in-show-clause-refused c = faultless _ (map string_bytes c.args.words.now) c.in_ok-faultyard.ensures c.in_ok-matches.ensures.kinds

pub returns-in-bears-clause-refused : goal.returns-in-bears-clause-refused
returns-in-bears-clause-refused c = faultless _ (map string_bytes c.args.words.now) c.in_ok-faultyard.ensures c.in_ok-matches.ensures.kinds

pub returns-in-verdict-clause-refused : goal.returns-in-verdict-clause-refused
returns-in-verdict-clause-refused c = faultless _ (map string_bytes c.args.words.now) c.in_ok-faultyard.ensures c.in_ok-matches.ensures.kinds

pub returns-in-linear-clause-refused : goal.returns-in-linear-clause-refused
returns-in-linear-clause-refused c = faultless _ (map string_bytes c.args.words.now) c.in_ok-faultyard.ensures c.in_ok-matches.ensures.kinds

pub returns-in-config-clause-refused : goal.returns-in-config-clause-refused
returns-in-config-clause-refused c = faultless _ (map string_bytes c.args.words.now) c.in_ok-faultyard.ensures c.in_ok-matches.ensures.kinds

pub returns-in_err-matches-clause-refused : goal.returns-in_err-matches-clause-refused
returns-in_err-matches-clause-refused c =
    let p = err_from_is_err_and c.from_residual-in_err-matches.result c.from_residual-in_err-matches.ensures.1 in
    rw (p.1, p.2)
    (fails_by _ (map string_bytes c.args.words.now) c.in_err-matches.field-0.0 c.in_ok-faultyard.ensures c.in_err-matches.ensures.kinds)

pub returns-in-judge-clause-task : goal.returns-in-judge-clause-task
returns-in-judge-clause-task c = is_task_of _ (map string_bytes c.args.words.now) c.in_ok-matches.matches c.in-Some.name.now c.in-Some.given.now Judge c.in_ok-faultyard.ensures
    c.in_ok-matches.ensures.matches c.in-Some.ensures.name c.in-Some.ensures.rows c.in-judge.is

pub returns-in-run-clause-task : goal.returns-in-run-clause-task
returns-in-run-clause-task c = is_task_of _ (map string_bytes c.args.words.now) c.in_ok-matches.matches c.in-Some.name.now c.in-Some.given.now (Run c.config_of.result) c.in_ok-faultyard.ensures
    c.in_ok-matches.ensures.matches c.in-Some.ensures.name c.in-Some.ensures.rows (c.in-run.is, c.config_of.ensures)

pub returns-in-check-clause-task : goal.returns-in-check-clause-task
returns-in-check-clause-task c = is_task_of _ (map string_bytes c.args.words.now) c.in_ok-matches.matches c.in-Some.name.now c.in-Some.given.now (Check c.config_of-in-check.result) c.in_ok-faultyard.ensures
    c.in_ok-matches.ensures.matches c.in-Some.ensures.name c.in-Some.ensures.rows (c.in-check.is, c.config_of-in-check.ensures)

pub returns-in-swarm-clause-task : goal.returns-in-swarm-clause-task
returns-in-swarm-clause-task c = is_task_of _ (map string_bytes c.args.words.now) c.in_ok-matches.matches c.in-Some.name.now c.in-Some.given.now (Swarm c.config_of-in-swarm.result c.seed_of.result) c.in_ok-faultyard.ensures
    c.in_ok-matches.ensures.matches c.in-Some.ensures.name c.in-Some.ensures.rows (c.in-swarm.is, c.config_of-in-swarm.ensures, c.seed_of.ensures)

pub returns-in-simulate-clause-task : goal.returns-in-simulate-clause-task
returns-in-simulate-clause-task c = is_task_of _ (map string_bytes c.args.words.now) c.in_ok-matches.matches c.in-Some.name.now c.in-Some.given.now
    (Simulate c.config_of-in-simulate.result c.seed_of-in-simulate.result c.acts_of.result c.plan_of.result) c.in_ok-faultyard.ensures
    c.in_ok-matches.ensures.matches c.in-Some.ensures.name c.in-Some.ensures.rows
    (c.in-simulate.is, c.config_of-in-simulate.ensures, c.seed_of-in-simulate.ensures, c.acts_of.ensures, c.plan_of.ensures)

pub returns-in-guard-clause-task : goal.returns-in-guard-clause-task
returns-in-guard-clause-task c = is_task_of _ (map string_bytes c.args.words.now) c.in_ok-matches.matches c.in-Some.name.now c.in-Some.given.now (Guard c.config_of-in-guard.result c.after_of.result c.is_set.result) c.in_ok-faultyard.ensures
    c.in_ok-matches.ensures.matches c.in-Some.ensures.name c.in-Some.ensures.rows (c.in-guard.is, c.config_of-in-guard.ensures, c.after_of.ensures, c.is_set.ensures)

pub returns-in-show-clause-task : goal.returns-in-show-clause-task
returns-in-show-clause-task c = is_task_of _ (map string_bytes c.args.words.now) c.in_ok-matches.matches c.in-Some.name.now c.in-Some.given.now (Show c.config_of-in-show.result c.times_of.result) c.in_ok-faultyard.ensures
    c.in_ok-matches.ensures.matches c.in-Some.ensures.name c.in-Some.ensures.rows (c.in-show.is, c.config_of-in-show.ensures, c.times_of.ensures)

pub returns-in-bears-clause-task : goal.returns-in-bears-clause-task
returns-in-bears-clause-task c = is_task_of _ (map string_bytes c.args.words.now) c.in_ok-matches.matches c.in-Some.name.now c.in-Some.given.now (Bears c.config_of-in-bears.result c.form_of.result c.after_of-in-bears.result c.elections_of.result) c.in_ok-faultyard.ensures
    c.in_ok-matches.ensures.matches c.in-Some.ensures.name c.in-Some.ensures.rows (c.in-bears.is, c.config_of-in-bears.ensures, c.form_of.ensures, c.after_of-in-bears.ensures, c.elections_of.ensures)

pub returns-in-verdict-clause-task : goal.returns-in-verdict-clause-task
returns-in-verdict-clause-task c = is_task_of _ (map string_bytes c.args.words.now) c.in_ok-matches.matches c.in-Some.name.now c.in-Some.given.now (Verdict c.config_of-in-verdict.result c.audit_of.result c.is_set-in-verdict.result) c.in_ok-faultyard.ensures
    c.in_ok-matches.ensures.matches c.in-Some.ensures.name c.in-Some.ensures.rows (c.in-verdict.is, c.config_of-in-verdict.ensures, c.audit_of.ensures, c.is_set-in-verdict.ensures)

pub returns-in-linear-clause-task : goal.returns-in-linear-clause-task
returns-in-linear-clause-task c = is_task_of _ (map string_bytes c.args.words.now) c.in_ok-matches.matches c.in-Some.name.now c.in-Some.given.now Linear c.in_ok-faultyard.ensures
    c.in_ok-matches.ensures.matches c.in-Some.ensures.name c.in-Some.ensures.rows c.in-linear.is

pub returns-in-config-clause-task : goal.returns-in-config-clause-task
returns-in-config-clause-task c = is_task_of _ (map string_bytes c.args.words.now) c.in_ok-matches.matches c.in-Some.name.now c.in-Some.given.now (Config c.config_of-in-config.result) c.in_ok-faultyard.ensures
    c.in_ok-matches.ensures.matches c.in-Some.ensures.name c.in-Some.ensures.rows (c.in-config.is, c.config_of-in-config.ensures)

pub returns-in-judge-clause-explain : goal.returns-in-judge-clause-explain
returns-in-judge-clause-explain c = is_explain_of _ (map string_bytes c.args.words.now) c.in_ok-matches.matches c.in-Some.name.now c.in-Some.given.now c.is_set-explain.result c.in_ok-faultyard.ensures
    c.in_ok-matches.ensures.matches c.in-Some.ensures.name c.in-Some.ensures.rows c.is_set-explain.ensures

pub returns-in-run-clause-explain : goal.returns-in-run-clause-explain
returns-in-run-clause-explain c = is_explain_of _ (map string_bytes c.args.words.now) c.in_ok-matches.matches c.in-Some.name.now c.in-Some.given.now c.is_set-explain.result c.in_ok-faultyard.ensures
    c.in_ok-matches.ensures.matches c.in-Some.ensures.name c.in-Some.ensures.rows c.is_set-explain.ensures

pub returns-in-check-clause-explain : goal.returns-in-check-clause-explain
returns-in-check-clause-explain c = is_explain_of _ (map string_bytes c.args.words.now) c.in_ok-matches.matches c.in-Some.name.now c.in-Some.given.now c.is_set-explain.result c.in_ok-faultyard.ensures
    c.in_ok-matches.ensures.matches c.in-Some.ensures.name c.in-Some.ensures.rows c.is_set-explain.ensures

pub returns-in-swarm-clause-explain : goal.returns-in-swarm-clause-explain
returns-in-swarm-clause-explain c = is_explain_of _ (map string_bytes c.args.words.now) c.in_ok-matches.matches c.in-Some.name.now c.in-Some.given.now c.is_set-explain.result c.in_ok-faultyard.ensures
    c.in_ok-matches.ensures.matches c.in-Some.ensures.name c.in-Some.ensures.rows c.is_set-explain.ensures

pub returns-in-simulate-clause-explain : goal.returns-in-simulate-clause-explain
returns-in-simulate-clause-explain c = is_explain_of _ (map string_bytes c.args.words.now) c.in_ok-matches.matches c.in-Some.name.now c.in-Some.given.now c.is_set-explain.result c.in_ok-faultyard.ensures
    c.in_ok-matches.ensures.matches c.in-Some.ensures.name c.in-Some.ensures.rows c.is_set-explain.ensures

pub returns-in-guard-clause-explain : goal.returns-in-guard-clause-explain
returns-in-guard-clause-explain c = is_explain_of _ (map string_bytes c.args.words.now) c.in_ok-matches.matches c.in-Some.name.now c.in-Some.given.now c.is_set-explain.result c.in_ok-faultyard.ensures
    c.in_ok-matches.ensures.matches c.in-Some.ensures.name c.in-Some.ensures.rows c.is_set-explain.ensures

pub returns-in-show-clause-explain : goal.returns-in-show-clause-explain
returns-in-show-clause-explain c = is_explain_of _ (map string_bytes c.args.words.now) c.in_ok-matches.matches c.in-Some.name.now c.in-Some.given.now c.is_set-explain.result c.in_ok-faultyard.ensures
    c.in_ok-matches.ensures.matches c.in-Some.ensures.name c.in-Some.ensures.rows c.is_set-explain.ensures

pub returns-in-bears-clause-explain : goal.returns-in-bears-clause-explain
returns-in-bears-clause-explain c = is_explain_of _ (map string_bytes c.args.words.now) c.in_ok-matches.matches c.in-Some.name.now c.in-Some.given.now c.is_set-explain.result c.in_ok-faultyard.ensures
    c.in_ok-matches.ensures.matches c.in-Some.ensures.name c.in-Some.ensures.rows c.is_set-explain.ensures

pub returns-in-verdict-clause-explain : goal.returns-in-verdict-clause-explain
returns-in-verdict-clause-explain c = is_explain_of _ (map string_bytes c.args.words.now) c.in_ok-matches.matches c.in-Some.name.now c.in-Some.given.now c.is_set-explain.result c.in_ok-faultyard.ensures
    c.in_ok-matches.ensures.matches c.in-Some.ensures.name c.in-Some.ensures.rows c.is_set-explain.ensures

pub returns-in-linear-clause-explain : goal.returns-in-linear-clause-explain
returns-in-linear-clause-explain c = is_explain_of _ (map string_bytes c.args.words.now) c.in_ok-matches.matches c.in-Some.name.now c.in-Some.given.now c.is_set-explain.result c.in_ok-faultyard.ensures
    c.in_ok-matches.ensures.matches c.in-Some.ensures.name c.in-Some.ensures.rows c.is_set-explain.ensures

pub returns-in-config-clause-explain : goal.returns-in-config-clause-explain
returns-in-config-clause-explain c = is_explain_of _ (map string_bytes c.args.words.now) c.in_ok-matches.matches c.in-Some.name.now c.in-Some.given.now c.is_set-explain.result c.in_ok-faultyard.ensures
    c.in_ok-matches.ensures.matches c.in-Some.ensures.name c.in-Some.ensures.rows c.is_set-explain.ensures

pub config_of-requires-in-config : goal.config_of-requires-in-config
config_of-requires-in-config c = has_config c.in-Some.name.now (codes "config") c.in-Some.given.now c.in-config.is (λ e. omega arith) (λ e. omega arith)
    (met_task _ (map string_bytes c.args.words.now) c.in_ok-matches.matches c.in-Some.name.now c.in-Some.given.now c.in_ok-faultyard.ensures
    c.in_ok-matches.ensures.kinds c.in_ok-matches.ensures.matches c.in-Some.ensures.name c.in-Some.ensures.rows)

pub config_of-requires-in-verdict : goal.config_of-requires-in-verdict
config_of-requires-in-verdict c = has_config c.in-Some.name.now (codes "verdict") c.in-Some.given.now c.in-verdict.is (λ e. omega arith) (λ e. omega arith)
    (met_task _ (map string_bytes c.args.words.now) c.in_ok-matches.matches c.in-Some.name.now c.in-Some.given.now c.in_ok-faultyard.ensures
    c.in_ok-matches.ensures.kinds c.in_ok-matches.ensures.matches c.in-Some.ensures.name c.in-Some.ensures.rows)

pub audit_of-requires : goal.audit_of-requires
audit_of-requires c = has_audit c.in-Some.name.now c.in-Some.given.now c.in-verdict.is
    (met_task _ (map string_bytes c.args.words.now) c.in_ok-matches.matches c.in-Some.name.now c.in-Some.given.now c.in_ok-faultyard.ensures
    c.in_ok-matches.ensures.kinds c.in_ok-matches.ensures.matches c.in-Some.ensures.name c.in-Some.ensures.rows)

pub config_of-requires-in-check : goal.config_of-requires-in-check
config_of-requires-in-check c = has_config c.in-Some.name.now (codes "check") c.in-Some.given.now c.in-check.is (λ e. omega arith) (λ e. omega arith)
    (met_task _ (map string_bytes c.args.words.now) c.in_ok-matches.matches c.in-Some.name.now c.in-Some.given.now c.in_ok-faultyard.ensures
    c.in_ok-matches.ensures.kinds c.in_ok-matches.ensures.matches c.in-Some.ensures.name c.in-Some.ensures.rows)

pub config_of-requires-in-swarm : goal.config_of-requires-in-swarm
config_of-requires-in-swarm c = has_config c.in-Some.name.now (codes "swarm") c.in-Some.given.now c.in-swarm.is (λ e. omega arith) (λ e. omega arith)
    (met_task _ (map string_bytes c.args.words.now) c.in_ok-matches.matches c.in-Some.name.now c.in-Some.given.now c.in_ok-faultyard.ensures
    c.in_ok-matches.ensures.kinds c.in_ok-matches.ensures.matches c.in-Some.ensures.name c.in-Some.ensures.rows)

pub config_of-requires-in-simulate : goal.config_of-requires-in-simulate
config_of-requires-in-simulate c = has_config c.in-Some.name.now (codes "simulate") c.in-Some.given.now c.in-simulate.is (λ e. omega arith) (λ e. omega arith)
    (met_task _ (map string_bytes c.args.words.now) c.in_ok-matches.matches c.in-Some.name.now c.in-Some.given.now c.in_ok-faultyard.ensures
    c.in_ok-matches.ensures.kinds c.in_ok-matches.ensures.matches c.in-Some.ensures.name c.in-Some.ensures.rows)

pub seed_of-requires-in-simulate : goal.seed_of-requires-in-simulate
seed_of-requires-in-simulate c = has_seed c.in-Some.name.now c.in-Some.given.now (inr c.in-simulate.is)
    (met_task _ (map string_bytes c.args.words.now) c.in_ok-matches.matches c.in-Some.name.now c.in-Some.given.now c.in_ok-faultyard.ensures
    c.in_ok-matches.ensures.kinds c.in_ok-matches.ensures.matches c.in-Some.ensures.name c.in-Some.ensures.rows)

pub config_of-requires-in-guard : goal.config_of-requires-in-guard
config_of-requires-in-guard c = has_config c.in-Some.name.now (codes "guard") c.in-Some.given.now c.in-guard.is (λ e. omega arith) (λ e. omega arith)
    (met_task _ (map string_bytes c.args.words.now) c.in_ok-matches.matches c.in-Some.name.now c.in-Some.given.now c.in_ok-faultyard.ensures
    c.in_ok-matches.ensures.kinds c.in_ok-matches.ensures.matches c.in-Some.ensures.name c.in-Some.ensures.rows)

pub config_of-requires-in-show : goal.config_of-requires-in-show
config_of-requires-in-show c = has_config c.in-Some.name.now (codes "show") c.in-Some.given.now c.in-show.is (λ e. omega arith) (λ e. omega arith)
    (met_task _ (map string_bytes c.args.words.now) c.in_ok-matches.matches c.in-Some.name.now c.in-Some.given.now c.in_ok-faultyard.ensures
    c.in_ok-matches.ensures.kinds c.in_ok-matches.ensures.matches c.in-Some.ensures.name c.in-Some.ensures.rows)

pub config_of-requires-in-bears : goal.config_of-requires-in-bears
config_of-requires-in-bears c = has_config c.in-Some.name.now (codes "bears") c.in-Some.given.now c.in-bears.is (λ e. omega arith) (λ e. omega arith)
    (met_task _ (map string_bytes c.args.words.now) c.in_ok-matches.matches c.in-Some.name.now c.in-Some.given.now c.in_ok-faultyard.ensures
    c.in_ok-matches.ensures.kinds c.in_ok-matches.ensures.matches c.in-Some.ensures.name c.in-Some.ensures.rows)

pub seed_of-requires : goal.seed_of-requires
seed_of-requires c = has_seed c.in-Some.name.now c.in-Some.given.now (inl c.in-swarm.is)
    (met_task _ (map string_bytes c.args.words.now) c.in_ok-matches.matches c.in-Some.name.now c.in-Some.given.now c.in_ok-faultyard.ensures
    c.in_ok-matches.ensures.kinds c.in_ok-matches.ensures.matches c.in-Some.ensures.name c.in-Some.ensures.rows)

pub config_of-requires : goal.config_of-requires
config_of-requires c = has_config c.in-Some.name.now (codes "run") c.in-Some.given.now c.in-run.is (λ e. omega arith) (λ e. omega arith)
    (met_task _ (map string_bytes c.args.words.now) c.in_ok-matches.matches c.in-Some.name.now c.in-Some.given.now c.in_ok-faultyard.ensures
    c.in_ok-matches.ensures.kinds c.in_ok-matches.ensures.matches c.in-Some.ensures.name c.in-Some.ensures.rows)

pub unreachable-requires-in_default-name : goal.unreachable-requires-in_default-name
unreachable-requires-in_default-name c =
    let task = met_task _ (map string_bytes c.args.words.now) c.in_ok-matches.matches c.in-Some.name.now c.in-Some.given.now c.in_ok-faultyard.ensures
    c.in_ok-matches.ensures.kinds c.in_ok-matches.ensures.matches c.in-Some.ensures.name c.in-Some.ensures.rows in
    elim task [
      | inl (inl judge) ↦ absurd (c.in_default-name.not-judge judge)
      | inl (inr linear) ↦ absurd (c.in_default-name.not-linear linear)
      | inr has ↦ elim has.0 [
        | inl run ↦ absurd (c.in_default-name.not-run run)
        | inr (inl check) ↦ absurd (c.in_default-name.not-check check)
        | inr (inr (inl swarm)) ↦ absurd (c.in_default-name.not-swarm swarm)
        | inr (inr (inr (inl simulate))) ↦ absurd (c.in_default-name.not-simulate simulate)
        | inr (inr (inr (inr (inl guard)))) ↦ absurd (c.in_default-name.not-guard guard)
        | inr (inr (inr (inr (inr (inl show))))) ↦ absurd (c.in_default-name.not-show show)
        | inr (inr (inr (inr (inr (inr (inl bears)))))) ↦ absurd (c.in_default-name.not-bears bears)
        | inr (inr (inr (inr (inr (inr (inr (inl verdict))))))) ↦ absurd (c.in_default-name.not-verdict verdict)
        | inr (inr (inr (inr (inr (inr (inr (inr config))))))) ↦ absurd (c.in_default-name.not-config config)
      ]
    ]
