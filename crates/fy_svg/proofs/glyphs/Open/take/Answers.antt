use Rattle.std.proofs.Common.{rules, ◌≡◌, ◌∙◌, ◌-◌, ◌<◌, ◌++◌, length, ap, arith, sym, subst}
use Rattle.std.specs.FinSet as sets
use Rattle.std.specs.List.{filter}
use Rattle.std.proofs.lemmas.List.{append-nil}
use Rattle.fy_picture.proofs.Moving.{len-smaller, no_least}
use Rattle.fy_svg.specs.Marks.{AreMarked, is_mark}
use Rattle.fy_svg.proofs.Places.{none_behind, none_below, nobody_marked, taken_marked, taken_next}
use Rattle.fy_svg.proofs.glyphs.Open.take.Goals as goal

pub loop-p-init : goal.loop-p-init
loop-p-init c = record {
  marked = c.self.invariant;
  all = ap (λ xs. xs ++ filter is_mark c.self.inside.marks.items) c.new-taken.ensures.items ∙ ap (filter is_mark) c.self.view_is;
}

pub loop-p-smaller : goal.loop-p-smaller
loop-p-smaller c =
    subst (λ s. sets.len s < sets.len c.loop-p.self-inside.marked) (sym c.drop_one.ensures)
    (len-smaller c.loop-p.self-inside.marked c.in-Some.p.0 c.in-Some.ensures.some.present)

pub loop-p-preserved : goal.loop-p-preserved
loop-p-preserved c =
    let ms = c.loop-p.self-inside.marks.items in
    let marked = c.loop-p.self-inside.marked in
    let p = c.in-Some.p.0 in
    let are = c.loop-p.invariant.marked in
    record {
      marked =
          subst (λ xs. AreMarked xs c.drop_one.new.self) (sym c.in_ok-take_mark.ensures.marks)
          (taken_marked ms marked c.drop_one.new.self p c.drop_one.ensures are);
      all =
          taken_next ms c.take_mark.new.marks.items c.loop-p.taken.items c.take_mark.new.taken.items p
          (λ q below. sym (are.each q (let small = c.in-Some.ensures.small in omega arith)) ∙ c.in-Some.ensures.some.none_below q below)
          c.in_ok-take_mark.ensures.marks c.in_ok-take_mark.ensures.taken
          ∙ c.loop-p.invariant.all;
    }

pub invariant_of-self : goal.invariant_of-self
invariant_of-self c =
    subst (λ xs. AreMarked xs c.loop-p.self-inside.marked) (sym c.in_err-take_mark.ensures.kept) c.loop-p.invariant.marked

pub invariant_of-self-in_err-take_mark-2 : goal.invariant_of-self-in_err-take_mark-2
invariant_of-self-in_err-take_mark-2 c =
    subst (λ xs. AreMarked xs c.loop-p.self-inside.marked) (sym c.in_err-take_mark-2.ensures.kept) c.loop-p.invariant.marked

pub invariant_of-self-2 : goal.invariant_of-self-2
invariant_of-self-2 c =
    let marked = c.loop-p.self-inside.marked in
    subst (λ xs. AreMarked xs marked) (sym c.in_ok-take_mark-2.ensures.marks)
    (nobody_marked c.loop-p.self-inside.marks.items marked c.saturating_sub-nobody.result (no_least _ _ c.least.ensures.none c.in_default.not-Some) c.loop-p.invariant.marked)

pub returns-clause-taken : goal.returns-clause-taken
returns-clause-taken c =
    let ms = c.loop-p.self-inside.marks.items in
    let marked = c.loop-p.self-inside.marked in
    let nobody = c.saturating_sub-nobody.result in
    let are = c.loop-p.invariant.marked in
    let more = c.take_mark-2.new.taken.items in
    let left = c.take_mark-2.new.marks.items in
    let none = no_least _ _ c.least.ensures.none c.in_default.not-Some in
    let long : c.len.result ≡ length ms = search rules in
    let last : nobody ≡ length ms - 1 = c.saturating_sub-nobody.ensures ∙ ap (λ n. n - 1) long in
    sym (append-nil more)
    ∙ ap (λ xs. more ++ xs) (sym (ap (filter is_mark) c.in_ok-take_mark-2.ensures.marks ∙ none_behind ms marked nobody last none are))
    ∙ taken_next ms left c.loop-p.taken.items more nobody (none_below ms marked nobody last none are) c.in_ok-take_mark-2.ensures.marks c.in_ok-take_mark-2.ensures.taken
    ∙ c.loop-p.invariant.all

pub returns-clause-none : goal.returns-clause-none
returns-clause-none c =
    let ms = c.loop-p.self-inside.marks.items in
    let nobody = c.saturating_sub-nobody.result in
    let long : c.len.result ≡ length ms = search rules in
    let last : nobody ≡ length ms - 1 = c.saturating_sub-nobody.ensures ∙ ap (λ n. n - 1) long in
    ap (filter is_mark) c.in_ok-take_mark-2.ensures.marks
    ∙ none_behind ms c.loop-p.self-inside.marked nobody last (no_least _ _ c.least.ensures.none c.in_default.not-Some) c.loop-p.invariant.marked
