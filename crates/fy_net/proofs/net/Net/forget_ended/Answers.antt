use Rattle.std.proofs.Common.{◌∙◌, sym, ap}
use Rattle.fy_net.specs.Net.{NetState, is_clogged}
use Rattle.fy_net.proofs.net.Net.forget_ended.Goals as goal

pub invariant_of-self : goal.invariant_of-self
invariant_of-self c =
    record {
      sound = c.self.invariant.sound;
      pool = c.self.invariant.pool;
      processes = c.self.invariant.processes;
      few = c.self.invariant.few;
      spare = c.self.invariant.spare;
      clogs = λ p out. ap (λ (net : NetState). is_clogged net p) c.self.view_is ∙ sym (c.all_clogged-self-inside.ensures p) ∙ out;
    }
