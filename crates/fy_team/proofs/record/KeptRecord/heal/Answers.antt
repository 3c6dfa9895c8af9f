use Rattle.std.proofs.Common.{◌≡◌, ℕ, ◌+◌, ◌<◌, Bool, true, false, cond, List, ap, sym, subst, ◌∙◌, arith}
use Rattle.std.specs.List.{AllPairs}
use Rattle.fy_locality.specs.declared.ProcId.{ProcId}
use mir.Val.{bool_byte}
use Rattle.std.specs.FinSet as sets
use Rattle.fy_team.specs.Teams.{Record, is_among, healed_record}
use Rattle.fy_team.specs.Counts.{Counted, CountsMissing, missing_among}
use Rattle.fy_team.proofs.Counting.{flag_number, one_more, missing_few, remove_absent}
use Rattle.fy_team.proofs.record.KeptRecord.heal.Goals as goal
use Rattle.fy_team.proofs.record.KeptRecord.heal.Goals.{else-not-self-via-then-not-self+else-contains, else-not-self-via-else-not-self}

pub drop_one-requires : goal.drop_one-requires
drop_one-requires c = c.invariant.ensures c.args.p.0 (sym c.contains.ensures ∙ c.if-contains.true)

pub returns-else-not-self-clause-held : goal.returns-else-not-self-clause-held
returns-else-not-self-clause-held c =
    let inside = c.self.inside in
    let it : Record = record { team = inside.team; payload = inside.payload; marks = inside.marks; acked = inside.acked } in
    let without : Record = record it { marks = sets.remove it.marks c.args.p.0 } in
    let same : it ≡ healed_record c.args.p.0 it = elim c.else-not-self.branch [
      | else-not-self-via-then-not-self+else-contains w ↦ ap (λ marks. record it { marks = marks }) (remove_absent inside.marks c.args.p.0 (sym w.contains.ensures ∙ w.if-contains.false)) ∙ sym (ap (λ b. cond b it without) w.if-not-self.true)
      | else-not-self-via-else-not-self w ↦ sym (ap (λ b. cond b it without) w.if-not-self.false)
    ] in
    subst (λ (kept : Counted). kept.held ≡ healed_record c.args.p.0 kept.held) c.self.view_is same

-- what is missing once a mark is taken off
parts : (members : List ProcId) (was kept : Counted) (p more : ℕ) (member : Bool) → AllPairs (λ p q. p.0 < q.0) members → CountsMissing members was → kept ≡ was → kept.held.acked ≡ false
    → sets.contains kept.held.marks p ≡ true → member ≡ is_among members p → more ≡ bool_byte member → kept.missing + more ≡ missing_among (sets.remove kept.held.marks p) members
parts members was kept p more member rising counted same still there is_member is_more =
    ap (λ n. n + more) (ap (λ (it : Counted). it.missing) same ∙ counted.right (ap (λ (it : Counted). it.held.acked) (sym same) ∙ still) ∙ ap (λ (it : Counted). missing_among it.held.marks members) (sym same))
    ∙ ap (λ n. missing_among kept.held.marks members + n) (is_more ∙ sym (flag_number member) ∙ ap (λ b. cond b 1 0) is_member)
    ∙ sym (one_more kept.held.marks p members rising there)

pub overflow_add-self : goal.overflow_add-self
overflow_add-self c =
    omega (
      arith,
      parts c.args.members.now c.args.self.now (record { held = record { team = c.self.inside.team; payload = c.self.inside.payload; marks = c.self.inside.marks; acked = c.self.inside.acked }; missing = c.self.inside.missing }) c.args.p.0 c.from.result c.has.result c.invariant-then-contains.ensures.rising c.requires c.self.view_is c.if-not-self.true (sym c.contains.ensures ∙ c.if-contains.true) c.has.ensures c.from.ensures,
      missing_few (sets.remove c.self.inside.marks c.args.p.0) c.args.members.now,
      c.invariant-then-contains.ensures.few,
    )

pub returns-then-contains-clause-counted : goal.returns-then-contains-clause-counted
returns-then-contains-clause-counted c = record {
  right = λ _.
      parts c.args.members.now c.args.self.now (record { held = record { team = c.self.inside.team; payload = c.self.inside.payload; marks = c.self.inside.marks; acked = c.self.inside.acked }; missing = c.self.inside.missing }) c.args.p.0 c.from.result c.has.result c.invariant-then-contains.ensures.rising c.requires c.self.view_is c.if-not-self.true (sym c.contains.ensures ∙ c.if-contains.true) c.has.ensures c.from.ensures
      ∙ ap (λ marks. missing_among marks c.args.members.now) (sym c.drop_one.ensures);
}
