use Rattle.std.proofs.Common.{ap, ap₂, ◌≡◌, ◌∙◌}
use Rattle.std.proofs.lemmas.Result.{IfOk-weaker}
use Rattle.clap.specs.Words.{App, app_of, with_subcommand}
use Rattle.faultyard.specs.Commands.{bare_command, explained, judge_command, run_command, check_command, swarm_command, simulate_command, guard_command, show_command, bears_command, verdict_command, linear_command}
use Rattle.faultyard.proofs.CommandLemmas.{plain_is_local}
use Rattle.faultyard.proofs.task.faultyard.Goals as goal

pub returns : goal.returns
returns c =
    let top : (a b : App) → a ≡ b → a.top ≡ b.top = λ a b is. ap (λ x. x.top) is in
    let plain : (a b : App) → a ≡ b → a.top.is_plain ≡ b.top.is_plain = λ a b is. ap (λ x. x.top.is_plain) is in
    let first : app_of c.in_ok-subcommand.field-0 ≡ with_subcommand bare_command judge_command.top =
    c.in_ok-subcommand.ensures.shape (plain_is_local c.judge.result (plain _ _ c.judge.ensures)) ∙ ap₂ with_subcommand c.bare.ensures (top _ _ c.judge.ensures) in
    let second : app_of c.in_ok-subcommand-2.field-0 ≡ with_subcommand (with_subcommand bare_command judge_command.top) (explained run_command).top =
    c.in_ok-subcommand-2.ensures.shape (plain_is_local _ (plain _ _ (c.in_ok-explained.ensures ∙ ap explained c.in_ok-run.ensures))) ∙ ap₂ with_subcommand first (top _ _ (c.in_ok-explained.ensures ∙ ap explained c.in_ok-run.ensures)) in
    let third : app_of c.in_ok-subcommand-3.field-0 ≡ with_subcommand (with_subcommand (with_subcommand bare_command judge_command.top) (explained run_command).top) (explained check_command).top =
    c.in_ok-subcommand-3.ensures.shape (plain_is_local _ (plain _ _ (c.in_ok-explained-2.ensures ∙ ap explained c.in_ok-check.ensures))) ∙ ap₂ with_subcommand second (top _ _ (c.in_ok-explained-2.ensures ∙ ap explained c.in_ok-check.ensures)) in
    let fourth : app_of c.in_ok-subcommand-4.field-0 ≡ with_subcommand (with_subcommand (with_subcommand (with_subcommand bare_command judge_command.top) (explained run_command).top) (explained check_command).top) (explained swarm_command).top =
    c.in_ok-subcommand-4.ensures.shape (plain_is_local _ (plain _ _ (c.in_ok-explained-3.ensures ∙ ap explained c.in_ok-swarm.ensures))) ∙ ap₂ with_subcommand third (top _ _ (c.in_ok-explained-3.ensures ∙ ap explained c.in_ok-swarm.ensures)) in
    let fifth : app_of c.in_ok-subcommand-5.field-0 ≡ with_subcommand (with_subcommand (with_subcommand (with_subcommand (with_subcommand bare_command judge_command.top) (explained run_command).top) (explained check_command).top) (explained swarm_command).top) (explained simulate_command).top =
    c.in_ok-subcommand-5.ensures.shape (plain_is_local _ (plain _ _ (c.in_ok-explained-4.ensures ∙ ap explained c.in_ok-simulate.ensures))) ∙ ap₂ with_subcommand fourth (top _ _ (c.in_ok-explained-4.ensures ∙ ap explained c.in_ok-simulate.ensures)) in
    let sixth : app_of c.in_ok-subcommand-6.field-0 ≡ with_subcommand (with_subcommand (with_subcommand (with_subcommand (with_subcommand (with_subcommand bare_command judge_command.top) (explained run_command).top) (explained check_command).top) (explained swarm_command).top) (explained simulate_command).top) (explained guard_command).top =
    c.in_ok-subcommand-6.ensures.shape (plain_is_local _ (plain _ _ (c.in_ok-explained-5.ensures ∙ ap explained c.in_ok-guard.ensures))) ∙ ap₂ with_subcommand fifth (top _ _ (c.in_ok-explained-5.ensures ∙ ap explained c.in_ok-guard.ensures)) in
    let seventh : app_of c.in_ok-subcommand-7.field-0 ≡ with_subcommand (with_subcommand (with_subcommand (with_subcommand (with_subcommand (with_subcommand (with_subcommand bare_command judge_command.top) (explained run_command).top) (explained check_command).top) (explained swarm_command).top) (explained simulate_command).top) (explained guard_command).top) (explained show_command).top =
    c.in_ok-subcommand-7.ensures.shape (plain_is_local _ (plain _ _ (c.in_ok-explained-6.ensures ∙ ap explained c.in_ok-show.ensures))) ∙ ap₂ with_subcommand sixth (top _ _ (c.in_ok-explained-6.ensures ∙ ap explained c.in_ok-show.ensures)) in
    let eighth : app_of c.in_ok-subcommand-8.field-0 ≡ with_subcommand (with_subcommand (with_subcommand (with_subcommand (with_subcommand (with_subcommand (with_subcommand (with_subcommand bare_command judge_command.top) (explained run_command).top) (explained check_command).top) (explained swarm_command).top) (explained simulate_command).top) (explained guard_command).top) (explained show_command).top) (explained bears_command).top =
    c.in_ok-subcommand-8.ensures.shape (plain_is_local _ (plain _ _ (c.in_ok-explained-7.ensures ∙ ap explained c.in_ok-bears.ensures))) ∙ ap₂ with_subcommand seventh (top _ _ (c.in_ok-explained-7.ensures ∙ ap explained c.in_ok-bears.ensures)) in
    let ninth : app_of c.in_ok-subcommand-9.field-0 ≡ with_subcommand (with_subcommand (with_subcommand (with_subcommand (with_subcommand (with_subcommand (with_subcommand (with_subcommand (with_subcommand bare_command judge_command.top) (explained run_command).top) (explained check_command).top) (explained swarm_command).top) (explained simulate_command).top) (explained guard_command).top) (explained show_command).top) (explained bears_command).top) (explained verdict_command).top =
    c.in_ok-subcommand-9.ensures.shape (plain_is_local _ (plain _ _ (c.in_ok-explained-8.ensures ∙ ap explained c.in_ok-verdict.ensures))) ∙ ap₂ with_subcommand eighth (top _ _ (c.in_ok-explained-8.ensures ∙ ap explained c.in_ok-verdict.ensures)) in
    let tenth : app_of c.in_ok-subcommand-10.field-0 ≡ with_subcommand (with_subcommand (with_subcommand (with_subcommand (with_subcommand (with_subcommand (with_subcommand (with_subcommand (with_subcommand (with_subcommand bare_command judge_command.top) (explained run_command).top) (explained check_command).top) (explained swarm_command).top) (explained simulate_command).top) (explained guard_command).top) (explained show_command).top) (explained bears_command).top) (explained verdict_command).top) linear_command.top =
    c.in_ok-subcommand-10.ensures.shape (plain_is_local c.linear.result (plain _ _ c.linear.ensures)) ∙ ap₂ with_subcommand ninth (top _ _ c.linear.ensures) in
    IfOk-weaker c.subcommand-11.result _ _ (λ m h. h.shape (plain_is_local _ (plain _ _ (c.in_ok-explained-9.ensures ∙ ap explained c.in_ok-config_check.ensures))) ∙ ap₂ with_subcommand tenth (top _ _ (c.in_ok-explained-9.ensures ∙ ap explained c.in_ok-config_check.ensures))) c.subcommand-11.ensures
