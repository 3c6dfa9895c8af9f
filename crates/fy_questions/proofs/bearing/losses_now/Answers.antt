use Rattle.std.proofs.Common.{◌&&◌, not, nat_lt, length, ap, ap₂, ◌∙◌}
use Rattle.std.specs.Cmp.{nat_cmp_total}
use Rattle.std.specs.FinSet as sets
use Rattle.fy_cluster.specs.Execution.{history_of}
use Rattle.fy_cluster.specs.Setup.{Setup}
use Rattle.fy_cluster.specs.History.{gone, up}
use Rattle.fy_questions.proofs.Lost.{asleep_of_left, gone_of_left}
use Rattle.fy_questions.proofs.bearing.losses_now.Goals as goal

pub returns : goal.returns
returns c =
    let s = c.args.cluster.now.setup in
    let h = history_of c.args.cluster.now in record {
      destroyed = c.destroyed.ensures;
      gone = λ p.
          ap (λ t. sets.contains t p) c.difference.ensures
          ∙ sets.contains-difference nat_cmp_total c.everyone.result c.left-left.result p
          ∙ ap₂ (λ a b. a && not b)
          (c.everyone.ensures p ∙ ap (λ xs. nat_lt p (length xs)) (c.map.ensures ∙ ap (λ (x : Setup). x.processes) c.config.ensures)) (c.left-left.ensures p)
          ∙ gone_of_left (nat_lt p (length s.processes)) (gone h p);
      down = λ p.
          ap (λ t. sets.contains t p) c.difference-2.ensures
          ∙ sets.contains-difference nat_cmp_total c.left-left.result c.up.result p
          ∙ ap₂ (λ a b. a && not b) (c.left-left.ensures p) (c.up.ensures p)
          ∙ asleep_of_left (nat_lt p (length s.processes)) (gone h p) (up h p);
    }
