use Rattle.std.proofs.Common.{rules, ◌+◌, ◌∙◌, [], length, take, refl, sym, ap, subst}
use Rattle.std.specs.Prelude.{IsSomeAnd}
use Rattle.std.proofs.lemmas.List.{take_all, length-take-le}
use Rattle.std.proofs.lemmas.Option.{slice_get_read}
use Rattle.fy_acts.specs.declared.entry.Entry.{Entry}
use Rattle.fy_cluster.specs.Execution.{Execution}
use Rattle.fy_picture.specs.Layouts.{AreEven, IsWidth}
use Rattle.fy_picture.specs.Pictures.{IsPicture}
use Rattle.fy_picture.specs.Recording.{HasRecorded, Recording}
use Rattle.fy_picture.proofs.Recorders.{all_are_legal, all_recorded, bad_of_all, next_place, one_more_recorded, upto}
use Rattle.fy_picture.proofs.picture.draw.Goals as goal

pub loop-entry-init : goal.loop-entry-init
loop-entry-init c = (
  subst (λ setup. HasRecorded setup [] c.in_ok-recorder.recorder) c.in_ok-try_copy.ensures
      c.in_ok-recorder.ensures.recorded,
  ap (λ (r : Recording). r.first_bad) c.in_ok-recorder.ensures.begun,
  ap (λ (r : Recording). r.columns.laid) c.in_ok-recorder.ensures.begun,
  ap (λ (r : Recording). r.version) c.in_ok-recorder.ensures.begun ∙ c.version.ensures,
)

pub enter-requires : goal.enter-requires
enter-requires c = λ none.
    let entries = c.args.journal.now.entries in
    let i = c.loop-entry.entry-index in
    ap (λ (x : Entry). x.at) c.in_ok-try_copy-2.ensures.equal
    ∙ c.invariant.ensures.numbered i c.entry-item.result (slice_get_read entries (length entries) i c.entry-item.result refl (search rules) (search rules))
    ∙ sym (length-take-le i entries (search rules))
    ∙ next_place c.args.config.now (take i entries) c.loop-entry.recorder c.loop-entry.invariant.0 none

pub loop-entry-preserved : goal.loop-entry-preserved
loop-entry-preserved c = (
  one_more_recorded c.args.config.now c.args.journal.now.entries c.loop-entry.entry-index c.entry-item.result _ c.enter.new.self (search rules) (search rules)
      c.in_ok-try_copy-2.ensures.equal
      (c.in_ok-enter.ensures.entered c.args.config.now _ c.loop-entry.invariant.0),
  sym c.first_bad.ensures ∙ c.in_default.is,
  c.in_ok-enter.ensures.laid ∙ c.loop-entry.invariant.2,
  c.in_ok-enter.ensures.version ∙ c.loop-entry.invariant.3,
)

pub returns-in-Some-clause-bad : goal.returns-in-Some-clause-bad
returns-in-Some-clause-bad c =
    bad_of_all c.args.journal.now.version c.args.config.now c.args.journal.now.entries (c.loop-entry.entry-index + 1) c.in-Some.at c.enter.new.self
    (one_more_recorded c.args.config.now c.args.journal.now.entries c.loop-entry.entry-index c.entry-item.result _ c.enter.new.self (search rules) (search rules)
    c.in_ok-try_copy-2.ensures.equal
    (c.in_ok-enter.ensures.entered c.args.config.now _ c.loop-entry.invariant.0))
    (sym c.first_bad.ensures ∙ c.in-Some.is) (c.in_ok-enter.ensures.version ∙ c.loop-entry.invariant.3)

pub returns-clause-picture : goal.returns-clause-picture
returns-clause-picture c =
    let entries = c.args.journal.now.entries in
    let all = take_all c.loop-entry.entry-index entries (search rules) in
    let is = all_recorded c.args.config.now (take c.loop-entry.entry-index entries) c.loop-entry.recorder c.loop-entry.invariant.0 c.loop-entry.invariant.1 in
    subst (λ (x : Execution). IsPicture x.setup x.journal c.in_ok-finish.field-0) (is ∙ ap (upto c.args.config.now) all) c.in_ok-finish.ensures.picture

pub returns-clause-even : goal.returns-clause-even
returns-clause-even c =
    let entries = c.args.journal.now.entries in
    let all = take_all c.loop-entry.entry-index entries (search rules) in
    let is = all_recorded c.args.config.now (take c.loop-entry.entry-index entries) c.loop-entry.recorder c.loop-entry.invariant.0 c.loop-entry.invariant.1 in
    let picture = c.in_ok-finish.field-0 in
    subst (λ (x : Execution). AreEven (length x.journal) picture.columns.items × IsSomeAnd picture.width (IsWidth (length x.journal)))
    (is ∙ ap (upto c.args.config.now) all) (c.in_ok-finish.ensures.even c.loop-entry.invariant.2)

pub returns-clause-legal : goal.returns-clause-legal
returns-clause-legal c =
    all_are_legal c.args.journal.now.version c.args.config.now c.args.journal.now.entries c.loop-entry.entry-index c.loop-entry.recorder (search rules) c.loop-entry.invariant.0
    c.loop-entry.invariant.1 c.loop-entry.invariant.3
