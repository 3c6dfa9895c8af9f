use Rattle.std.proofs.Common.{◌≡◌, ◌+◌, ◌++◌, ◌∷◌, [], ◌∙◌, length, length-append, subst, ap, arith}
use Rattle.fy_cluster.specs.Execution.{history_of}
use Rattle.fy_cluster.specs.History.{keeper}
use Rattle.fy_picture.specs.Keeping.{ListsKeepers}
use Rattle.fy_picture.proofs.Afters.{values_more}
use Rattle.fy_picture.proofs.keeping.keepers_of.Goals as goal

pub loop-rec-init : goal.loop-rec-init
loop-rec-init c = record { count_is = ap length c.new-keepers.ensures.items; each = λ r l. absurd (omega arith) }

pub loop-rec-preserved : goal.loop-rec-preserved
loop-rec-preserved c =
    let execution = c.args.cluster.now in
    let pushed : c.push.new.self.items ≡ c.loop-rec.keepers.items ++ c.keeper.result ∷ [] = c.in_ok-push.ensures.items in
    record {
      count_is = ap length pushed ∙ length-append c.loop-rec.keepers.items (c.keeper.result ∷ []) ∙ ap (λ n. n + 1) c.loop-rec.invariant.count_is;
      each = values_more (λ r. keeper execution.setup (history_of execution) r) c.loop-rec.keepers.items c.push.new.self.items c.loop-rec.rec
          c.loop-rec.invariant.count_is c.loop-rec.invariant.each
          (pushed ∙ ap (λ x. c.loop-rec.keepers.items ++ x ∷ []) c.keeper.ensures.keeper);
    }

pub returns : goal.returns
returns c =
    let at_end : c.loop-rec.rec ≡ c.args.count = omega arith in
    subst (λ n. ListsKeepers c.args.cluster.now n c.loop-rec.keepers.items) at_end c.loop-rec.invariant
