use Rattle.std.proofs.Common.{◌≡◌, ◌∙◌, true, false, nat_lt, slice_index, sym, ap, subst}
use Rattle.fy_net.specs.Net.{NetState, is_clogged}
use Rattle.fy_net.proofs.Clogs.{Set, Finds, finds_none, finds_more, finds_all, found_put, found_same}
use Rattle.fy_net.proofs.net.Net.all_clogged.Goals as goal

pub loop-p-init : goal.loop-p-init
loop-p-init c =
    let net = c.self.inside in
    subst (λ (rest : Set). Finds net.may_be_clogged rest c.empty-clogged.result (λ q. nat_lt net.clock (slice_index net.until.items q))) (sym (c.into_iter-p-iterator.ensures.into_iter_gives ∙ c.iter-p-items.ensures)) (finds_none net.may_be_clogged c.empty-clogged.result (λ q. nat_lt net.clock (slice_index net.until.items q)) c.empty-clogged.ensures)

pub loop-p-preserved-then-clog_lasts : goal.loop-p-preserved-then-clog_lasts
loop-p-preserved-then-clog_lasts c =
    let net = c.self.inside in
    let lasts : nat_lt net.clock (slice_index net.until.items c.in-Some.p.0) ≡ true = rw (← c.deref.ensures.value) (sym c.clog_lasts.ensures ∙ c.if-clog_lasts.true) in
    finds_more c.in-Some.p.0 c.in-Some.ensures.steps.0 c.in-Some.ensures.steps.1 (found_put c.loop-p.clogged c.in-Some.p.0 (nat_lt net.clock (slice_index net.until.items c.in-Some.p.0)) lasts c.put.ensures) c.loop-p.invariant

pub loop-p-preserved : goal.loop-p-preserved
loop-p-preserved c =
    let net = c.self.inside in
    let lasts : nat_lt net.clock (slice_index net.until.items c.in-Some.p.0) ≡ false = rw (← c.deref.ensures.value) (sym c.clog_lasts.ensures ∙ c.if-clog_lasts.false) in
    finds_more c.in-Some.p.0 c.in-Some.ensures.steps.0 c.in-Some.ensures.steps.1 (found_same c.loop-p.clogged c.in-Some.p.0 (nat_lt net.clock (slice_index net.until.items c.in-Some.p.0)) lasts) c.loop-p.invariant

pub returns : goal.returns
returns c q =
    finds_all c.in-None.ensures.steps.0 c.self.invariant.clogs c.loop-p.invariant q
    ∙ ap (λ (net : NetState). is_clogged net q) c.self.view_is
