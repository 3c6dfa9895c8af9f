use Rattle.std.proofs.Common.{◌∙◌, List, ◌&&◌, not, length, ap}
use Rattle.fy_records.specs.declared.disks.Extent.{Extent}
use Rattle.fy_records.specs.declared.disks.Found.{Found}
use Rattle.fy_records.specs.Founds.{is_found, is_clear_of}
use Rattle.fy_records.specs.Traces.{all_below}
use Rattle.fy_records.proofs.Same.{found_is_there, on_no_disk_is}
use Rattle.fy_records.proofs.JudgedLemmas.{judged_from}
use Rattle.fy_records.proofs.judge.judge.Goals as goal

pub first_verdict-shown-requires : goal.first_verdict-shown-requires
first_verdict-shown-requires c = c.reads_of.ensures.gathered

pub returns : goal.returns
returns c h is =
    let write = c.args.write in
    let index = c.args.index.now in
    let shown = c.first_verdict-shown in
    let on_disk =
    c.is_on_disk-on_disk.ensures
    ∙ ap (λ (fs : List Found). is_found fs write.value) c.founds_of-founds.ensures.founds
    ∙ found_is_there h.disks index.founds.items write.key write.value is.founds in
    let on_none =
    c.is_on_no_disk-on_no_disk.ensures
    ∙ ap (λ (es : List Extent). not (is_found c.founds_of-founds.result.now write.value) && all_below (length es) (is_clear_of es c.founds_of-founds.result.now)) c.extents.ensures
    ∙ ap (λ (fs : List Found). not (is_found fs write.value) && all_below (length index.extents.items) (is_clear_of index.extents.items fs)) c.founds_of-founds.ensures.founds
    ∙ on_no_disk_is h.disks index.founds.items index.extents.items h.processes write.key write.value is.founds is.extents in
    judged_from h write c.args.acked index.reads.items c.reads_of.result.now c.written.result c.is_on_disk-on_disk.result c.is_on_no_disk-on_no_disk.result shown.result.verdict shown.result.seen c.read_of.result shown.result.stale_nanos is.reads c.reads_of.ensures.reads (c.written.ensures ∙ is.written) on_disk on_none shown.ensures.verdict shown.ensures.shown shown.ensures.stale c.read_of.ensures
