use Rattle.std.proofs.Common.{length, sym, subst, ap}
use Rattle.fy_cluster.specs.Execution.{Execution}
use Rattle.fy_picture.specs.Keeping.{AreAckedAt}
use Rattle.fy_picture.specs.Layouts.{AreSoFar}
use Rattle.fy_picture.proofs.Laying.{so_far_none}
use Rattle.fy_picture.proofs.Recordings.{show_none, none_acked}
use Rattle.fy_picture.proofs.recorded.Recorded.begin.Goals as goal

pub returns-clause-recorded : goal.returns-clause-recorded
returns-clause-recorded c =
    let opened = c.in_ok-state.ensures in
    record {
      count = ap (λ (x : Execution). length x.journal) (sym opened);
      columns = show_none c.in_ok-state.state.setup c.in_ok-state.state.journal c.new.result.items c.new.ensures.items;
      laid = subst (λ (x : Execution). AreSoFar c.args.plan (length x.journal) c.new.result.items) (sym opened)
          (so_far_none c.args.plan c.new.result.items c.requires c.new.ensures.items);
      acked = subst (λ (x : Execution). AreAckedAt x.setup x.journal c.new-2.result.items) (sym opened)
          (none_acked c.args.config c.new-2.result.items c.new-2.ensures.items);
    }
