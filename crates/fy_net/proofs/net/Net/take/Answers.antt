use Rattle.std.proofs.Common.{◌≡◌, ◌∙◌, cond, Some, None, refl, sym, ap}
use Rattle.std.specs.Prelude.{Option}
use Rattle.fy_net.specs.declared.fault.NetFault.{NetFault}
use Rattle.fy_net.specs.declared.fault.NetFault.TheVariants.{Clogged}
use Rattle.fy_net.specs.declared.message.Body.{Body}
use Rattle.fy_net.specs.Kept.{net_state}
use Rattle.fy_net.specs.Net.{NetState, body_of, without_message, without, process_of, is_clogged, take_refusal, clog_refusal}
use Rattle.fy_net.specs.Slots.{there_of}
use Rattle.fy_net.proofs.Keeping.{found_there, kept_left}
use Rattle.fy_net.proofs.Slots.{some_slot}
use Rattle.fy_net.proofs.net.Net.take.Goals as goal
use Rattle.fy_net.proofs.net.Net.take.Goals.{After-clog_lasts}

-- what is refused, by whether the clog lasts
refusal : (c : After-clog_lasts) → take_refusal c.args.self.now c.args.number ≡ cond c.clog_lasts.result (Some Clogged) None
refusal c =
    let net = net_state c.self.inside in
    let says : body_of net.in_flight c.args.number ≡ Some c.body.result = c.in-Some.ensures.found.says some_slot ∙ ap (λ (b : Body). Some b) (sym (c.body.ensures some_slot)) in
    let clog_lasts : c.clog_lasts.result ≡ is_clogged net (process_of c.body.result) = c.clog_lasts.ensures ∙ (rw (c.deref.ensures.value, c.process.ensures) refl) in
    sym (ap (λ (t : NetState). take_refusal t c.args.number) c.self.view_is) ∙ ap (clog_refusal net) says ∙ ap (λ b. cond b (Some Clogged) None) (sym clog_lasts)

pub returns-then-clog_lasts-clause-refused : goal.returns-then-clog_lasts-clause-refused
returns-then-clog_lasts-clause-refused c =
    let is_clog : take_refusal c.args.self.now c.args.number ≡ Some Clogged = refusal (goal.at.returns-then-clog_lasts-clause-refused c).After-clog_lasts ∙ ap (λ b. cond b (Some Clogged) None) c.if-clog_lasts.true in
    λ fault is. (let e : ◌≡◌ {A = Option NetFault} (Some Clogged) (Some fault) = sym is_clog ∙ is in cc, refl)

pub returns-then-clog_lasts-clause-taken : goal.returns-then-clog_lasts-clause-taken
returns-then-clog_lasts-clause-taken c =
    let is_clog : take_refusal c.args.self.now c.args.number ≡ Some Clogged = refusal (goal.at.returns-then-clog_lasts-clause-taken c).After-clog_lasts ∙ ap (λ b. cond b (Some Clogged) None) c.if-clog_lasts.true in
    λ none. absurd (let e : ◌≡◌ {A = Option NetFault} (Some Clogged) None = sym is_clog ∙ none in cc)

pub vacate-requires-clause-there : goal.vacate-requires-clause-there
vacate-requires-clause-there c = found_there c.self.inside.pool.slots.items c.args.number c.in-Some.place c.in-Some.ensures.found

pub invariant_of-self : goal.invariant_of-self
invariant_of-self c =
    let left : there_of c.vacate.new.self.slots.items ≡ without c.args.number (there_of c.self.inside.pool.slots.items) = ap there_of (c.vacate.ensures.slot some_slot) ∙ c.in-Some.ensures.found.others some_slot in
    kept_left c.self.inside c.self.invariant c.vacate.new.self c.vacate.ensures.pool c.args.number c.vacate.ensures.like left

pub returns-clause-refused : goal.returns-clause-refused
returns-clause-refused c =
    let none : take_refusal c.args.self.now c.args.number ≡ None = refusal (goal.at.returns-clause-refused c).After-clog_lasts ∙ ap (λ b. cond b (Some Clogged) None) c.if-clog_lasts.false in
    λ fault is. absurd (let e : ◌≡◌ {A = Option NetFault} None (Some fault) = sym none ∙ is in cc)

pub returns-clause-taken : goal.returns-clause-taken
returns-clause-taken c =
    let left : there_of c.vacate.new.self.slots.items ≡ without c.args.number (there_of c.self.inside.pool.slots.items) = ap there_of (c.vacate.ensures.slot some_slot) ∙ c.in-Some.ensures.found.others some_slot in
    λ none. (
      sym (ap (λ (net : NetState). body_of net.in_flight c.args.number) c.self.view_is) ∙ c.in-Some.ensures.found.says some_slot ∙ ap (λ (b : Body). Some b) (sym (c.vacate.ensures.body some_slot)),
      rw (left, c.vacate.ensures.like.sent) (ap (without_message c.args.number) c.self.view_is),
    )
