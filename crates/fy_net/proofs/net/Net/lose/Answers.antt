use Rattle.std.proofs.Common.{◌≡◌, ◌∙◌, Some, None, refl, sym, ap}
use Rattle.std.specs.Prelude.{Option}
use Rattle.fy_net.specs.declared.fault.NetFault.{NetFault}
use Rattle.fy_net.specs.Net.{NetState, without_message, without, lose_refusal, missing_refusal}
use Rattle.fy_net.specs.Slots.{there_of}
use Rattle.fy_net.proofs.Keeping.{found_there, kept_left}
use Rattle.fy_net.proofs.Slots.{some_slot}
use Rattle.fy_net.proofs.net.Net.lose.Goals as goal

pub vacate-requires-clause-there : goal.vacate-requires-clause-there
vacate-requires-clause-there c = found_there c.self.inside.pool.slots.items c.args.number c.in-Some.place c.in-Some.ensures.found

pub invariant_of-self : goal.invariant_of-self
invariant_of-self c =
    let left : there_of c.vacate.new.self.slots.items ≡ without c.args.number (there_of c.self.inside.pool.slots.items) = ap there_of (c.vacate.ensures.slot some_slot) ∙ c.in-Some.ensures.found.others some_slot in
    kept_left c.self.inside c.self.invariant c.vacate.new.self c.vacate.ensures.pool c.args.number c.vacate.ensures.like left

pub returns-clause-refused : goal.returns-clause-refused
returns-clause-refused c =
    let none : lose_refusal c.args.self.now c.args.number ≡ None = sym (ap (λ (net : NetState). lose_refusal net c.args.number) c.self.view_is) ∙ ap missing_refusal (c.in-Some.ensures.found.says some_slot) in
    λ fault is. absurd (let e : ◌≡◌ {A = Option NetFault} None (Some fault) = sym none ∙ is in cc)

pub returns-clause-lost : goal.returns-clause-lost
returns-clause-lost c =
    let left : there_of c.vacate.new.self.slots.items ≡ without c.args.number (there_of c.self.inside.pool.slots.items) = ap there_of (c.vacate.ensures.slot some_slot) ∙ c.in-Some.ensures.found.others some_slot in
    λ none. (refl, rw (left, c.vacate.ensures.like.sent) (ap (without_message c.args.number) c.self.view_is))
