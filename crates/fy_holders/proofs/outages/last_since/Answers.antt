use Rattle.std.proofs.Common.{sym, subst, refl}
use Rattle.std.specs.Prelude.{Some, None}
use Rattle.std.proofs.lemmas.Option.{slice_get_read}
use Rattle.fy_holders.specs.Turns.{AreTurns, IsLast}
use Rattle.fy_holders.proofs.Since.{last_before, last_never}
use Rattle.fy_holders.proofs.outages.last_since.Goals as goal

pub last_destroyed-requires : goal.last_destroyed-requires
last_destroyed-requires c =
    let there = slice_get_read c.args.turns.now _ c.args.p c.index-turns-p.result refl c.requires.within c.index-turns-p.is in
    subst (AreTurns c.args.end) (sym c.deref.ensures.value) (c.requires.turns c.args.p c.index-turns-p.result there)

pub returns-in-Some : goal.returns-in-Some
returns-in-Some c =
    let there = slice_get_read c.args.turns.now _ c.args.p c.index-turns-p.result refl c.requires.within c.index-turns-p.is in
    (c.index-turns-p.result, there, subst (λ ts. IsLast c.args.end ts (Some c.in-Some.last)) c.deref.ensures.value c.in-Some.ensures, c.if-from-last.true)

pub returns-in-Some-2 : goal.returns-in-Some-2
returns-in-Some-2 c =
    let there = slice_get_read c.args.turns.now _ c.args.p c.index-turns-p.result refl c.requires.within c.index-turns-p.is in
    let is = subst (λ ts. IsLast c.args.end ts (Some c.in-Some.last)) c.deref.ensures.value c.in-Some.ensures in
    (c.index-turns-p.result, there, last_before c.args.from c.args.end c.in-Some.last c.index-turns-p.result.items is c.if-from-last.false)

pub returns-in-None : goal.returns-in-None
returns-in-None c =
    let there = slice_get_read c.args.turns.now _ c.args.p c.index-turns-p.result refl c.requires.within c.index-turns-p.is in
    let is = subst (λ ts. IsLast c.args.end ts None) c.deref.ensures.value c.in-None.ensures in
    (c.index-turns-p.result, there, λ k low high. last_never c.args.end c.index-turns-p.result.items is k)
