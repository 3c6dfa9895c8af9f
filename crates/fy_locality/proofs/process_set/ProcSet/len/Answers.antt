use Rattle.std.proofs.Common.{◌≡◌, ◌≤◌, ◌*◌, ◌+◌, sym, ap, ◌∙◌, arith}
use Rattle.std.specs.Prelude.{count_ones, slice_index}
use Rattle.std.specs.FinSet as sets
use Rattle.fy_locality.specs.Members.{members_below}
use Rattle.fy_locality.proofs.Sizes.{len-members_below}
use Rattle.fy_locality.proofs.Counting.{len-none, len-word, len-all}
use Rattle.fy_locality.proofs.process_set.ProcSet.len.Goals as goal

pub loop-word-init : goal.loop-word-init
loop-word-init c = sym (len-none c.self.inside.words)

pub overflow_add-count : goal.overflow_add-count
overflow_add-count c =
    let before : c.loop-word.count ≡ sets.len (members_below c.self.inside.words (c.loop-word.word-index * 64)) = c.loop-word.invariant in
    let more : sets.len (members_below c.self.inside.words ((c.loop-word.word-index + 1) * 64)) ≡ sets.len (members_below c.self.inside.words (c.loop-word.word-index * 64)) + count_ones (slice_index c.self.inside.words c.loop-word.word-index) = len-word _ _ c.self.invariant in
    let few : sets.len (members_below c.self.inside.words ((c.loop-word.word-index + 1) * 64)) ≤ (c.loop-word.word-index + 1) * 64 = len-members_below _ _ in
    omega arith

pub loop-word-preserved : goal.loop-word-preserved
loop-word-preserved c =
    ap (λ n. n + count_ones (slice_index c.self.inside.words c.loop-word.word-index)) c.loop-word.invariant
    ∙ sym (len-word c.self.inside.words c.loop-word.word-index c.self.invariant)

pub returns-clause-count : goal.returns-clause-count
returns-clause-count c =
    let done : c.loop-word.word-index ≡ 16 = omega arith in
    c.loop-word.invariant ∙ ap (λ k. sets.len (members_below c.self.inside.words (k * 64))) done ∙ len-all c.self.inside.words ∙ ap sets.len c.self.view_is

pub returns-clause-bounded : goal.returns-clause-bounded
returns-clause-bounded c =
    let count : c.loop-word.count ≡ sets.len (members_below c.self.inside.words (c.loop-word.word-index * 64)) = c.loop-word.invariant in
    let few : sets.len (members_below c.self.inside.words (c.loop-word.word-index * 64)) ≤ c.loop-word.word-index * 64 = len-members_below _ _ in
    omega arith
