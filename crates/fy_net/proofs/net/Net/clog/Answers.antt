use Rattle.std.proofs.Common.{rules, sym, subst, slice_set}
use Rattle.fy_net.proofs.Clogs.{Holds, holds_put}
use Rattle.fy_net.proofs.net.Net.clog.Goals as goal

pub invariant_of-self : goal.invariant_of-self
invariant_of-self c =
    let net = c.self.inside in
    record {
      sound = search rules;
      pool = c.self.invariant.pool;
      processes = search rules;
      few = c.self.invariant.few;
      spare = c.self.invariant.spare;
      clogs = subst (λ set. Holds set net.clock (slice_set net.until.items c.args.p.0 c.max.result)) (sym c.put.ensures) (holds_put net.may_be_clogged net.clock net.until.items c.args.p.0 c.max.result c.self.invariant.clogs);
    }
