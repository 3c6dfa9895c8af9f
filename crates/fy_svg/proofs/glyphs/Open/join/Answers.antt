use Rattle.std.proofs.Common.{rules, ◌<◌, length, refl, slice_set, sym, subst}
use Rattle.std.specs.Prelude.{nat_lt}
use Rattle.std.proofs.lemmas.Option.{slice_get_read}
use Rattle.fy_svg.specs.Marks.{AreMarked, JoinsMark}
use Rattle.fy_svg.proofs.Places.{harder_marked, joins, milder_marked, past_marked}
use Rattle.fy_svg.proofs.glyphs.Open.join.Goals as goal
use Rattle.fy_svg.proofs.glyphs.Open.join.Goals.{else-is_harder-via-then-is_harder+else-place, else-is_harder-via-else-is_harder}

pub invariant_of-self : goal.invariant_of-self
invariant_of-self c =
    let ms = c.self.inside.marks.items in
    let p = c.args.mark.process in
    let there = c.index-there.result.now in
    let within : p < length ms = search rules in
    subst (λ m. AreMarked (slice_set ms p m) c.put.new.self) (sym c.joined.ensures)
    (harder_marked ms c.self.inside.marked there c.args.mark p (slice_get_read ms (length ms) p there refl within c.index-there.ensures) within c.self.invariant c.put.new.self c.if-is_harder.true c.put.ensures)

pub invariant_of-self-else-place : goal.invariant_of-self-else-place
invariant_of-self-else-place c =
    let ms = c.self.inside.marks.items in
    let p = c.args.mark.process in
    let there = c.index-there.result.now in
    let within : p < length ms = search rules in
    subst (λ m. AreMarked (slice_set ms p m) c.self.inside.marked) (sym c.joined.ensures)
    (past_marked ms c.self.inside.marked there c.args.mark p (slice_get_read ms (length ms) p there refl within c.index-there.ensures) within c.self.invariant c.if-place.false)

pub invariant_of-self-else-is_harder : goal.invariant_of-self-else-is_harder
invariant_of-self-else-is_harder c =
    let ms = c.self.inside.marks.items in
    let p = c.args.mark.process in
    let there = c.index-there.result.now in
    let within : p < length ms = search rules in
    subst (λ m. AreMarked (slice_set ms p m) c.self.inside.marked) (sym c.joined.ensures)
    (milder_marked ms c.self.inside.marked there c.args.mark p (slice_get_read ms (length ms) p there refl within c.index-there.ensures) within c.self.invariant c.if-is_harder.false)

pub returns-then-place : goal.returns-then-place
returns-then-place c =
    let ms = c.self.inside.marks.items in
    let p = c.args.mark.process in
    let there = c.index-there.result.now in
    let within : p < length ms = search rules in
    joins c.args.mark there c.joined.result c.args.self.now ms c.self.view_is (slice_get_read ms (length ms) p there refl within c.index-there.ensures) c.joined.ensures

pub returns-else-is_harder : goal.returns-else-is_harder
returns-else-is_harder c =
    let mark = c.args.mark in
    let ms = c.self.inside.marks.items in
    let there = c.index-there.result.now in
    let within : mark.process < length ms = search rules in
    let joined_so = joins mark there c.joined.result c.args.self.now ms c.self.view_is (slice_get_read ms (length ms) mark.process there refl within c.index-there.ensures) c.joined.ensures in
    elim c.else-is_harder.branch [
      | else-is_harder-via-then-is_harder+else-place w ↦ subst (λ new. JoinsMark mark c.args.self.now new (nat_lt there.weight mark.weight)) (sym w.self-is) joined_so
      | else-is_harder-via-else-is_harder w ↦ subst (λ new. JoinsMark mark c.args.self.now new (nat_lt there.weight mark.weight)) (sym w.self-is) joined_so
    ]
