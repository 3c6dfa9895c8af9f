use Rattle.std.proofs.Common.{inr, ◌∙◌, ap}
use Rattle.std.proofs.lemmas.Result.{IfOk-weaker, IfErr-weaker}
use Rattle.fy_cluster.specs.Execution.{opened}
use Rattle.fy_lines.specs.Readings.{ReadsWithinLine, ReadsInsideLine}
use Rattle.fy_spelling.specs.declared.command.TheConstants.{MOST_LINE_BYTES}
use Rattle.fy_guard.proofs.Heading.{all_headed, appends_headed, at_least_headed, before_headed, header_short, short_headed, some_headed, turn_headed}
use Rattle.fy_guard.proofs.guard.run_guard.Goals as goal

pub returns-in_err-write_header-clause-front_out : goal.returns-in_err-write_header-clause-front_out
returns-in_err-write_header-clause-front_out g c _ =
    header_short c.args.questions c.args.config.now (g.R.Read.remaining c.args.reader.now) _ _
    c.in_err-write_header.ensures.short

pub returns-clause-answered : goal.returns-clause-answered
returns-clause-answered g c =
    let same = c.in_ok-cluster.ensures ∙ ap opened c.in_ok-config.ensures in
    IfOk-weaker c.answer_lines.result _ _
    (λ done those. (
      those.0,
      all_headed c.args.questions c.args.config.now c.in_ok-cluster.cluster same _ _ _
          (appends_headed _ _ _ c.in_ok-write_header.ensures.out) those.1,
    ))
    c.answer_lines.ensures.answered

pub returns-clause-refused : goal.returns-clause-refused
returns-clause-refused g c =
    let same = c.in_ok-cluster.ensures ∙ ap opened c.in_ok-config.ensures in
    IfErr-weaker c.answer_lines.result _ _
    (λ stop those. before_headed c.args.questions c.args.config.now c.in_ok-cluster.cluster same _ stop _ _
    (appends_headed _ _ _ c.in_ok-write_header.ensures.out) those)
    c.answer_lines.ensures.refused

pub returns-clause-in_turn : goal.returns-clause-in_turn
returns-clause-in_turn g c =
    let same = c.in_ok-cluster.ensures ∙ ap opened c.in_ok-config.ensures in
    inr (turn_headed c.args.questions c.args.config.now c.in_ok-cluster.cluster same ReadsWithinLine _ _ _ _
    (at_least_headed _ _ _ c.in_ok-write_header.ensures.out) c.answer_lines.ensures.in_turn)

pub returns-clause-read_fault : goal.returns-clause-read_fault
returns-clause-read_fault g c is =
    let same = c.in_ok-cluster.ensures ∙ ap opened c.in_ok-config.ensures in
    turn_headed c.args.questions c.args.config.now c.in_ok-cluster.cluster same
    (λ rest left. ReadsInsideLine rest left MOST_LINE_BYTES) _ _ _ _
    (appends_headed _ _ _ c.in_ok-write_header.ensures.out) (c.answer_lines.ensures.read_fault is)

pub returns-clause-no_memory : goal.returns-clause-no_memory
returns-clause-no_memory g c is =
    let same = c.in_ok-cluster.ensures ∙ ap opened c.in_ok-config.ensures in
    inr (turn_headed c.args.questions c.args.config.now c.in_ok-cluster.cluster same ReadsWithinLine _ _ _ _
    (appends_headed _ _ _ c.in_ok-write_header.ensures.out) (c.answer_lines.ensures.no_memory is))

pub returns-clause-front_out : goal.returns-clause-front_out
returns-clause-front_out g c is =
    let same = c.in_ok-cluster.ensures ∙ ap opened c.in_ok-config.ensures in
    some_headed c.args.questions c.args.config.now c.in_ok-cluster.cluster same _ _ _
    (short_headed _ _ _ c.in_ok-write_header.ensures.out) (c.answer_lines.ensures.front_out is)
