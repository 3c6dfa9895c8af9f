use Rattle.std.proofs.Common.{◌∙◌, List, ap}
use Rattle.std.specs.List.{list_any}
use Rattle.fy_records.specs.declared.disks.Found.{Found}
use Rattle.fy_records.specs.Evidence.{is_held_by}
use Rattle.fy_records.proofs.Same.{held_there}
use Rattle.fy_records.proofs.evidence.disks_with.Goals as goal

pub returns : goal.returns
returns c h is process =
    let write = c.args.write.now in
    c.in_ok-nodes.ensures process
    ∙ ap (λ (fs : List Found). list_any (is_held_by write.value process) fs) c.founds_of.ensures.founds
    ∙ held_there h.disks c.args.index.now.founds.items write.key write.value process is.founds
