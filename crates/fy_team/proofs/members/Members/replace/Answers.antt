use Rattle.std.proofs.Common.{◌≡◌, ◌<◌, ◌≤◌, true, false, true≢false, not, cond, eqb, ltb, List, length, filter, sym, ap, subst, ◌∙◌, rules, arith, vec_len}
use Rattle.std.specs.List.{AllPairs, insert}
use Rattle.std.specs.List.Sorted.{IsPartitionPoint}
use Rattle.std.specs.Vec.{vec_capacity}
use Rattle.std.proofs.lemmas.Fn.{filter_same}
use Rattle.std.proofs.lemmas.List.Sorted.{IsPartitionPoint-from_clause, IsPartitionedBy-ltb}
use Rattle.fy_locality.specs.declared.ProcId.{ProcId}
use Rattle.fy_team.specs.Teams.{AreMembers, is_among, swapped}
use Rattle.fy_team.proofs.Swapping.{inserted, numbers_rise, staying_rise, stays_apart, fewer_stay, AreMembers-swapped}
use Rattle.fy_team.proofs.members.Members.replace.Goals.{After-insert-inserted}
use Rattle.fy_team.proofs.members.Members.replace.Goals as goal

-- who is left
left : (c : After-insert-inserted) → c.retain.new.self.items ≡ filter (λ p. not (eqb p.0 c.args.out.0)) c.self.inside.processes.items
left c = filter_same _ (λ (p : ProcId). not (eqb p.0 c.args.out.0)) _ (λ p b f' called. search rules) _ _ c.retain.ensures.filtered

member : (c : After-insert-inserted) → is_among c.self.inside.processes.items c.args.out.0 ≡ true
member c = ap (λ ps. is_among ps c.args.out.0) c.self.view_is ∙ c.requires.member

-- the one that left made room
room : (c : After-insert-inserted) → vec_len c.retain.new.self < vec_capacity c.retain.new.self
room c =
    let fewer : length (filter (λ p. not (eqb p.0 c.args.out.0)) c.self.inside.processes.items) < length c.self.inside.processes.items = fewer_stay c.args.out c.self.inside.processes.items (member c) in
    let same : length c.retain.new.self.items ≡ length (filter (λ p. not (eqb p.0 c.args.out.0)) c.self.inside.processes.items) = ap length (left c) in
    omega (arith, c.retain.new.self.ok.0, c.self.inside.processes.ok.0, c.self.inside.processes.ok.1, c.retain.ensures.capacity)

becomes : (c : After-insert-inserted) → c.insert-inserted.new.self.items ≡ swapped c.args.out c.args.into c.self.inside.processes.items
becomes c =
    let old : List ProcId = c.self.inside.processes.items in
    let staying : List ProcId = filter (λ p. not (eqb p.0 c.args.out.0)) old in
    let place = c.partition_point-place.result in
    let slice : c.deref.result.now ≡ staying = c.deref.ensures.value ∙ left c in
    let rise : AllPairs (λ p q. p.0 < q.0) c.deref.result.now = subst (AllPairs (λ p q. p.0 < q.0)) (sym slice) (staying_rise c.args.out old c.self.invariant.rising) in
    let parted : IsPartitionPoint (λ (p : ProcId). ltb p.0 c.args.into.0 ≡ true) (λ (p : ProcId). ltb p.0 c.args.into.0 ≡ false) c.deref.result.now place =
    IsPartitionPoint-from_clause (λ (p : ProcId). ltb p.0 c.args.into.0) c.deref.result.now place c.partition_point-place.ensures.partitioned (IsPartitionedBy-ltb (λ (p : ProcId). p.0) c.deref.result.now c.args.into.0 (numbers_rise _ rise)) (λ a r f' called. search rules) in
    let apart : is_among staying c.args.into.0 ≡ false = stays_apart c.args.out c.args.into old (ap (λ ps. is_among ps c.args.into.0) c.self.view_is ∙ c.requires.stranger) in
    c.insert-inserted.ensures.items
    ∙ ap (λ b. cond b (insert c.retain.new.self.items place c.args.into) c.retain.new.self.items) (c.insert-inserted.ensures.succeeds (room c))
    ∙ ap (λ ps. insert ps place c.args.into) (left c)
    ∙ inserted c.args.into place staying
    (let within : place ≤ length staying = omega (arith, c.partition_point-place.ensures.bound, ap length slice) in within)
    (subst (λ ps. IsPartitionPoint (λ (p : ProcId). ltb p.0 c.args.into.0 ≡ true) (λ (p : ProcId). ltb p.0 c.args.into.0 ≡ false) ps place) slice parted)
    apart

pub invariant_of-self : goal.invariant_of-self
invariant_of-self c = subst AreMembers (sym (becomes c.before.before.before)) (AreMembers-swapped c.args.out c.args.into c.self.inside.processes.items (member c.before.before.before) c.self.invariant)

pub returns : goal.returns
returns c = becomes c.before.before.before ∙ ap (swapped c.args.out c.args.into) c.self.view_is

pub prove-unreachable-requires : goal.prove-unreachable-requires
prove-unreachable-requires c =
    true≢false (sym (c.insert-inserted.ensures.succeeds (room c.before.before.before)) ∙ sym c.is_ok.ensures.value ∙ c.if-prove.true)
