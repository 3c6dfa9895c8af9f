use Rattle.std.proofs.Common.{rules, ◌<◌, ◌≤◌, length, sym, ap, subst, slice_set, arith}
use Rattle.fy_net.specs.Net.{NetState}
use Rattle.fy_net.proofs.Clogs.{Holds, holds_dropped}
use Rattle.fy_net.proofs.net.Net.unclog.Goals as goal

pub invariant_of-self : goal.invariant_of-self
invariant_of-self c =
    let net = c.self.inside in
    let over : c.min.result ≤ net.clock = omega (arith, c.min.ensures) in
    let there : c.args.p.0 < length net.until.items = omega (arith, c.requires, ap (λ (t : NetState). length t.until) c.self.view_is) in
    record {
      sound = search rules;
      pool = c.self.invariant.pool;
      processes = search rules;
      few = c.self.invariant.few;
      spare = c.self.invariant.spare;
      clogs = subst (λ set. Holds set net.clock (slice_set net.until.items c.args.p.0 c.min.result)) (sym c.drop_one.ensures) (holds_dropped net.may_be_clogged net.clock net.until.items c.args.p.0 c.min.result over there c.self.invariant.clogs);
    }
