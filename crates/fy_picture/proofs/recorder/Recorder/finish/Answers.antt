use Rattle.std.proofs.Common.{◌∙◌, length, sym, subst, ap}
use Rattle.std.specs.Prelude.{IfOk, IsSome, IsTrue}
use Rattle.fy_picture.specs.declared.picture.Picture.{Picture}
use Rattle.fy_picture.specs.Layouts.{AreAllMade}
use Rattle.fy_picture.specs.Recording.{Recording}
use Rattle.fy_picture.proofs.recorder.Recorder.finish.Goals as goal

pub finish-requires : goal.finish-requires
finish-requires c = (c.self.invariant (subst (λ (r : Recording). IsTrue r.is_whole) (sym c.self.view_is) c.in_ok-check_whole.ensures.whole)).recorded

pub returns-clause-laid : goal.returns-clause-laid
returns-clause-laid c = λ ends laid order.
    subst (λ (r : Recording). IfOk c.finish.result (λ (picture : Picture). AreAllMade ends (length r.execution.journal) picture.columns.items)) c.self.view_is
    (c.finish.ensures.laid ends (ap (λ (r : Recording). r.columns.laid) c.self.view_is ∙ laid) order)

pub returns-clause-uneven : goal.returns-clause-uneven
returns-clause-uneven c = λ laid.
    c.finish.ensures.uneven (subst IsSome (sym (ap (λ (r : Recording). r.columns.laid) c.self.view_is)) laid)
