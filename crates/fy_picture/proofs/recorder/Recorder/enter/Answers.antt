use Rattle.std.proofs.Common.{◌≡◌, ◌∙◌, ◌++◌, ◌∷◌, [], None, length, refl, sym, subst, ap}
use Rattle.std.specs.Prelude.{is_some, IfSome, IsTrue}
use Rattle.fy_acts.specs.declared.entry.Entry.{Entry}
use Rattle.fy_cluster.specs.Execution.{Execution}
use Rattle.fy_cluster.specs.Versions.{LegalUnder}
use Rattle.fy_replay.specs.Replayed.{HasReplayed}
use Rattle.fy_picture.specs.Recorder.{recording}
use Rattle.fy_picture.specs.Recording.{HasRecorded, Recording}
use Rattle.fy_picture.proofs.Recorders.{bad_recorded, good_recorded, legal_next, none_of, replayed_by, replayed_next}
use Rattle.fy_picture.proofs.recorder.Recorder.enter.Goals as goal

pub enter-requires-2-clause-legal : goal.enter-requires-2-clause-legal
enter-requires-2-clause-legal c =
    let inside = c.self.inside in
    let sound = c.self.invariant (subst (λ (r : Recording). IsTrue r.is_whole) (sym c.self.view_is) c.in_ok-check_whole.ensures.whole) in
    let none = none_of c.enter.new.self.first_bad c.is_some.result (c.is_some.ensures ∙ ap is_some c.first_bad.ensures) c.if-is_some.false in
    (legal_next inside.recorded.state c.enter.new.self c.args.entry none
    (replayed_next inside.recorded.state inside.replayer c.enter.new.self c.args.entry c.in_ok-copy.copy c.in_ok-copy.ensures.equal sound.legal sound.same c.enter.ensures.stays c.in_ok-enter.ensures.entered none)).legal

pub invariant_of-self-2 : goal.invariant_of-self-2
invariant_of-self-2 c whole =
    let inside = c.self.inside in
    let sound = c.self.invariant (subst (λ (r : Recording). IsTrue r.is_whole) (sym c.self.view_is) c.in_ok-check_whole.ensures.whole) in
    let none = none_of c.enter.new.self.first_bad c.is_some.result (c.is_some.ensures ∙ ap is_some c.first_bad.ensures) c.if-is_some.false in
    let next = replayed_next inside.recorded.state inside.replayer c.enter.new.self c.args.entry c.in_ok-copy.copy c.in_ok-copy.ensures.equal sound.legal sound.same c.enter.ensures.stays c.in_ok-enter.ensures.entered none in
    let state = c.in_ok-enter-2.ensures.state in
    record {
      recorded = c.in_ok-enter-2.ensures.recorded;
      legal = subst (λ (x : Execution). LegalUnder c.enter.new.self.version x.setup x.journal) (sym state)
          (legal_next inside.recorded.state c.enter.new.self c.args.entry none next);
      same = λ _. next.execution none ∙ sym state;
    }

pub returns-then-is_some-clause-entered : goal.returns-then-is_some-clause-entered
returns-then-is_some-clause-entered c = λ s so_far has.
    let inside = c.self.inside in
    let sound = c.self.invariant (subst (λ (r : Recording). IsTrue r.is_whole) (sym c.self.view_is) c.in_ok-check_whole.ensures.whole) in
    let was : HasRecorded s so_far (recording inside) = subst (HasRecorded s so_far) (sym c.self.view_is) has in
    let replayed = c.in_ok-enter.ensures.entered s so_far (replayed_by s so_far (recording inside) inside.replayer refl refl sound.same was) in
    let copied = subst (λ (x : Entry). HasReplayed s (so_far ++ x ∷ []) c.enter.new.self) c.in_ok-copy.ensures.equal replayed in
    bad_recorded s so_far c.args.entry (recording inside) _ inside.replayer c.enter.new.self refl refl refl was copied.first
    (sym (c.is_some.ensures ∙ ap is_some c.first_bad.ensures) ∙ c.if-is_some.true) c.enter.ensures.stays
    (subst (λ (x : Entry). inside.replayer.first_bad ≡ None → IfSome c.enter.new.self.first_bad (λ at. at ≡ x.at)) c.in_ok-copy.ensures.equal c.in_ok-enter.ensures.place)
    (subst (λ (r : Recording). r.first_bad ≡ None → c.args.entry.at ≡ length r.execution.journal) (sym c.self.view_is) c.requires)
    refl

pub returns-clause-entered : goal.returns-clause-entered
returns-clause-entered c = λ s so_far has.
    let inside = c.self.inside in
    let sound = c.self.invariant (subst (λ (r : Recording). IsTrue r.is_whole) (sym c.self.view_is) c.in_ok-check_whole.ensures.whole) in
    let none = none_of c.enter.new.self.first_bad c.is_some.result (c.is_some.ensures ∙ ap is_some c.first_bad.ensures) c.if-is_some.false in
    let next = replayed_next inside.recorded.state inside.replayer c.enter.new.self c.args.entry c.in_ok-copy.copy c.in_ok-copy.ensures.equal sound.legal sound.same c.enter.ensures.stays c.in_ok-enter.ensures.entered none in
    let was : HasRecorded s so_far (recording inside) = subst (HasRecorded s so_far) (sym c.self.view_is) has in
    let replayed = c.in_ok-enter.ensures.entered s so_far (replayed_by s so_far (recording inside) inside.replayer refl refl sound.same was) in
    let copied = subst (λ (x : Entry). HasReplayed s (so_far ++ x ∷ []) c.enter.new.self) c.in_ok-copy.ensures.equal replayed in
    good_recorded s (so_far ++ c.args.entry ∷ []) _ copied.first none
    (c.in_ok-enter-2.ensures.state ∙ sym (next.execution none) ∙ copied.execution none)
