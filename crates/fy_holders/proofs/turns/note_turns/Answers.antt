use Rattle.std.proofs.Common.{◌<◌, ◌≤◌, length, refl, sym, subst, rules}
use Rattle.std.proofs.lemmas.Option.{slice_get_read}
use Rattle.std.specs.FinSet as sets
use Rattle.fy_holders.proofs.Noting.{len-smaller, no_least, notes_none, notes_past, notes_one, notes_all}
use Rattle.fy_holders.proofs.turns.note_turns.Goals as goal

pub loop-p-init : goal.loop-p-init
loop-p-init c = notes_none c.args.turned.now c.args.position c.args.turns.now.items

pub loop-p-smaller : goal.loop-p-smaller
loop-p-smaller c = subst (λ s. sets.len s < sets.len c.loop-p.rest) (sym c.drop_one.ensures) (len-smaller c.loop-p.rest c.in-Some.p.0 c.in-Some.ensures.some.present)

pub loop-p-smaller-in-Continue-1 : goal.loop-p-smaller-in-Continue-1
loop-p-smaller-in-Continue-1 c = subst (λ s. sets.len s < sets.len c.loop-p.rest) (sym c.drop_one.ensures) (len-smaller c.loop-p.rest c.in-Some.p.0 c.in-Some.ensures.some.present)

pub loop-p-preserved : goal.loop-p-preserved
loop-p-preserved c =
    let past : length c.loop-p.turns.items ≤ c.in-Some.p.0 = search rules in
    notes_past c.args.turned.now c.loop-p.rest c.drop_one.new.self c.args.position c.in-Some.p.0 c.args.turns.now.items c.loop-p.turns.items c.drop_one.ensures past c.loop-p.invariant

pub loop-p-preserved-in-Continue-1 : goal.loop-p-preserved-in-Continue-1
loop-p-preserved-in-Continue-1 c =
    let within : c.in-Some.p.0 < length c.loop-p.turns.items = search rules in
    let there = slice_get_read c.loop-p.turns.items _ c.in-Some.p.0 c.index_mut.result.now refl within c.index_mut.ensures.value in
    notes_one c.args.turned.now c.loop-p.rest c.drop_one.new.self c.args.position c.in-Some.p.0 c.args.turns.now.items c.loop-p.turns.items _ c.index_mut.result.now c.push.new.self c.drop_one.ensures c.in-Some.ensures.some.present within
    there c.in_ok-push.ensures.items refl c.loop-p.invariant

pub returns : goal.returns
returns c = record {
  count = c.loop-p.invariant.count;
  noted = notes_all c.args.turned.now c.loop-p.rest c.args.position c.args.turns.now.items c.loop-p.turns.items (no_least _ _ c.least.ensures.none c.in_default.not-Some) c.loop-p.invariant;
}
