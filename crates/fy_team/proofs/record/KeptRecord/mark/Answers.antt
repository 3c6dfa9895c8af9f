use Rattle.std.proofs.Common.{◌≡◌, ℕ, ◌+◌, ◌-◌, ◌<◌, ◌&&◌, ◌||◌, Bool, false, not, cond, eqb, List, ap, sym, ◌∙◌, arith}
use Rattle.std.specs.List.{AllPairs}
use Rattle.std.specs.FinSet as sets
use Rattle.fy_locality.specs.declared.ProcId.{ProcId}
use Rattle.fy_team.specs.Teams.{all_marked, is_among}
use Rattle.fy_team.specs.Counts.{Counted, CountsMissing, missing_among}
use Rattle.fy_team.proofs.Counting.{flag_number, one_fewer, none_missing}
use Rattle.fy_team.proofs.record.KeptRecord.mark.Goals as goal
use mir.Val.{bool_byte}

-- what a mark takes off, and what is missing from then on
parts : (members : List ProcId) (was kept : Counted) (p off : ℕ) (fewer : Bool) → AllPairs (λ p q. p.0 < q.0) members → CountsMissing members was → kept ≡ was → kept.held.acked ≡ false
    → fewer ≡ (not (sets.contains was.held.marks p) && is_among members p) → off ≡ bool_byte fewer → kept.missing ≡ off + missing_among (sets.insert kept.held.marks p) members
parts members was kept p off fewer rising counted same still is_fewer is_off =
    ap (λ (it : Counted). it.missing) same
    ∙ counted.right (ap (λ (it : Counted). it.held.acked) (sym same) ∙ still)
    ∙ one_fewer was.held.marks p members rising
    ∙ ap (λ n. n + missing_among (sets.insert was.held.marks p) members) (ap (λ b. cond b 1 0) (sym is_fewer) ∙ flag_number fewer ∙ sym is_off)
    ∙ ap (λ (it : Counted). off + missing_among (sets.insert it.held.marks p) members) (sym same)

pub overflow_sub-self : goal.overflow_sub-self
overflow_sub-self c =
    omega (arith, parts c.args.members.now c.args.self.now _ c.args.p.0 c.from.result c.is_missing-fewer.result c.invariant.ensures.rising c.requires.counted c.self.view_is c.if-not-self.true c.is_missing-fewer.ensures c.from.ensures)

left : (missing off rest : ℕ) → missing ≡ off + rest → missing - off ≡ rest
left missing off rest is = omega arith

pub returns-then-not-self-clause-counted : goal.returns-then-not-self-clause-counted
returns-then-not-self-clause-counted c = record {
  right = λ _.
      left _ _ _ (parts c.args.members.now c.args.self.now _ c.args.p.0 c.from.result c.is_missing-fewer.result c.invariant.ensures.rising c.requires.counted c.self.view_is c.if-not-self.true c.is_missing-fewer.ensures c.from.ensures)
      ∙ ap (λ marks. missing_among marks c.args.members.now) (sym c.put.ensures);
}

pub returns-then-not-self-clause-held : goal.returns-then-not-self-clause-held
returns-then-not-self-clause-held c =
    let inside = c.self.inside in
    let marks = sets.insert inside.marks c.args.p.0 in
    let rest : inside.missing - c.from.result ≡ missing_among marks c.args.members.now =
    left _ _ _ (parts c.args.members.now c.args.self.now _ c.args.p.0 c.from.result c.is_missing-fewer.result c.invariant.ensures.rising c.requires.counted c.self.view_is c.if-not-self.true c.is_missing-fewer.ensures c.from.ensures) in
    ap (λ marks. record { team = inside.team; payload = inside.payload; marks = marks; acked = eqb (inside.missing - c.from.result) 0 }) c.put.ensures
    ∙ ap (λ acked. record { team = inside.team; payload = inside.payload; marks = marks; acked = acked })
    (ap (λ n. eqb n 0) rest ∙ none_missing marks c.args.members.now ∙ ap (λ b. b || all_marked marks c.args.members.now) (sym c.if-not-self.true))
    ∙ ap (λ (kept : Counted). record kept.held { marks = sets.insert kept.held.marks c.args.p.0; acked = kept.held.acked || all_marked (sets.insert kept.held.marks c.args.p.0) c.args.members.now }) c.self.view_is
