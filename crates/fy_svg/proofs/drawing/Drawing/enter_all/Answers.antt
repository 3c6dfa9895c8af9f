use Rattle.std.proofs.Common.{rules, ◌+◌, ◌∙◌, length, take, refl, sym, ap, subst}
use Rattle.std.specs.Prelude.{is_some}
use Rattle.std.proofs.lemmas.List.{length-take-le, take_all}
use Rattle.std.proofs.lemmas.Option.{slice_get_read}
use Rattle.fy_acts.specs.declared.entry.Entry.{Entry}
use Rattle.fy_picture.specs.Recording.{HasRecorded}
use Rattle.fy_picture.proofs.Recorders.{bad_recorded_of_all, next_place, none_is_bad, none_of, one_more_recorded}
use Rattle.fy_svg.proofs.drawing.Drawing.enter_all.Goals as goal

pub loop-entry-init : goal.loop-entry-init
loop-entry-init c = ((λ s has. has), none_is_bad c.requires.0 c.args.self.now c.requires.1, refl, refl)

pub enter-requires : goal.enter-requires
enter-requires c = λ none.
    let entries = c.args.journal.now.entries in
    let i = c.loop-entry.entry-index in
    ap (λ (x : Entry). x.at) c.in_ok-try_copy.ensures.equal
    ∙ c.invariant.ensures.numbered i c.entry-item.result (slice_get_read entries (length entries) i c.entry-item.result refl (search rules) (search rules))
    ∙ sym (length-take-le i entries (search rules))
    ∙ next_place c.requires.0 (take i entries) c.loop-entry.self (c.loop-entry.invariant.0 c.requires.0 c.requires.1) none

pub loop-entry-preserved : goal.loop-entry-preserved
loop-entry-preserved c = (
  (λ s has.
      one_more_recorded s c.args.journal.now.entries c.loop-entry.entry-index c.entry-item.result _ c.enter.new.self (search rules) (search rules)
      c.in_ok-try_copy.ensures.equal (c.in_ok-enter.ensures.entered s _ (c.loop-entry.invariant.0 s has))),
  sym c.first_bad.ensures ∙ none_of c.first_bad.result c.is_some.result c.is_some.ensures c.if-is_some.false,
  c.in_ok-enter.ensures.version ∙ c.loop-entry.invariant.2,
  c.in_ok-enter.ensures.laid ∙ c.loop-entry.invariant.3,
)

pub returns-then-is_some-clause-entered : goal.returns-then-is_some-clause-entered
returns-then-is_some-clause-entered c = λ s has.
    bad_recorded_of_all s c.args.journal.now.entries (c.loop-entry.entry-index + 1) c.enter.new.self
    (one_more_recorded s c.args.journal.now.entries c.loop-entry.entry-index c.entry-item.result _ c.enter.new.self (search rules) (search rules)
    c.in_ok-try_copy.ensures.equal (c.in_ok-enter.ensures.entered s _ (c.loop-entry.invariant.0 s has)))
    (ap is_some (sym c.first_bad.ensures) ∙ sym c.is_some.ensures ∙ c.if-is_some.true)

pub returns-clause-entered : goal.returns-clause-entered
returns-clause-entered c = λ s has.
    subst (λ es. HasRecorded s es c.loop-entry.self) (take_all c.loop-entry.entry-index c.args.journal.now.entries (search rules)) (c.loop-entry.invariant.0 s has)
