use Rattle.std.proofs.Common.{◌∙◌}
use Rattle.fy_decide.proofs.Tallying.{all_over}
use Rattle.fy_decide.proofs.dead_book.DeadBook.try_copy.Goals as goal

pub copied_tallies-requires : goal.copied_tallies-requires
copied_tallies-requires c =
    all_over _ _ _ _ _ (c.in_ok-map.ensures.ok ∙ c.in_ok-try_copy.ensures ∙ c.deref.ensures) (c.deref-2.ensures.value ∙ c.self.invariant.destroyed_agree)

pub copied_tallies-requires-2 : goal.copied_tallies-requires-2
copied_tallies-requires-2 c =
    all_over _ _ _ _ _ (c.in_ok-map.ensures.ok ∙ c.in_ok-try_copy.ensures ∙ c.deref.ensures) (c.deref-3.ensures.value ∙ c.self.invariant.left_agree)
