use Rattle.std.proofs.Common.{◌*◌, ◌+◌, sym, subst, ◌∙◌, arith}
use Rattle.std.specs.Prelude.{slice_index}
use Rattle.std.specs.Int.{w64, trailing_zeros}
use Rattle.fy_locality.specs.Members.{IsLeast, StartsAt, members}
use Rattle.fy_locality.proofs.Counting.{none_below_zeros, least-first_word, nobody}
use Rattle.fy_locality.proofs.process_set.ProcSet.least_from.Goals as goal

pub returns-then-word-ne0-clause-some : goal.returns-then-word-ne0-clause-some
returns-then-word-ne0-clause-some c =
    let starts : StartsAt c.args.first (members c.self.inside.words) = subst (StartsAt c.args.first) (sym c.self.view_is) c.requires in
    subst (λ s. IsLeast s (c.loop-k.k * 64 + trailing_zeros w64 (slice_index c.self.inside.words c.loop-k.k))) c.self.view_is
    (least-first_word c.self.inside.words c.loop-k.k c.self.invariant c.loop-k-test.true (none_below_zeros _ _ _ starts c.loop-k.invariant) c.if-word-ne0.true).1

pub returns-clause-none : goal.returns-clause-none
returns-clause-none c =
    let starts : StartsAt c.args.first (members c.self.inside.words) = subst (StartsAt c.args.first) (sym c.self.view_is) c.requires in
    sym c.self.view_is ∙ nobody c.self.inside.words (none_below_zeros _ _ 16 starts (λ k low h. c.loop-k.invariant k low (omega arith)))
