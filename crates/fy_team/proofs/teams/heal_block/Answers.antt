use Rattle.std.proofs.Common.{◌≡◌, ◌+◌, ◌*◌, map, set, ap, sym, subst, ◌∙◌, arith}
use Rattle.std.proofs.lemmas.List.{get_or_default, length-map}
use Rattle.std.specs.FinSet as sets
use Rattle.fy_team.specs.Index.{MarksSeen, HealedWithin}
use Rattle.fy_team.specs.declared.blocks.TheConstants.{BLOCK}
use Rattle.fy_team.proofs.Keeping.{held}
use Rattle.fy_team.proofs.Kept.{healed_apart, MarksSeen-healed}
use Rattle.fy_team.proofs.teams.heal_block.Goals as goal

pub returns-then-not-contains-clause-healed : goal.returns-then-not-contains-clause-healed
returns-then-not-contains-clause-healed c =
    healed_apart (map held c.args.records.now.items) c.args.marked.now.items c.args.block c.args.p.0 c.requires.seen
    (ap (λ s. sets.contains s c.args.p.0) (sym (c.index.ensures ∙ get_or_default c.args.marked.now.items c.args.block c.index.result.now sets.empty c.requires.there))
    ∙ sym c.contains.ensures
    ∙ c.if-not-contains.true)

pub returns-clause-seen : goal.returns-clause-seen
returns-clause-seen c =
    let old = c.args.records.now.items in
    let new = c.heal_records.new.records.items in
    let from : c.args.block * BLOCK ≡ BLOCK * c.args.block = omega arith in
    subst (λ s. MarksSeen (map held new) (set c.args.marked.now.items c.args.block s)) (sym c.drop_one.ensures)
    (MarksSeen-healed (map held old) (map held new) c.args.marked.now.items c.args.block c.args.p.0 c.index_mut.result.now c.requires.there c.index_mut.ensures.value
    (length-map new held ∙ c.heal_records.ensures.count ∙ sym (length-map old held))
    (subst (λ n. HealedWithin n (n + BLOCK) c.args.p.0 (map held old) (map held new)) from c.heal_records.ensures.healed)
    c.requires.seen)
