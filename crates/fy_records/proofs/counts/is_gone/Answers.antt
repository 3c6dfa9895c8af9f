use Rattle.std.proofs.Common.{◌∙◌, ◌&&◌, List, ap, subst}
use Rattle.std.specs.Prelude.{Contains, ◌==◌}
use Rattle.fy_records.specs.declared.seen.Seen.{Seen}
use Rattle.fy_records.specs.Lines.{all_reads}
use Rattle.fy_records.proofs.Same.{same_kept}
use Rattle.fy_records.specs.Reads.{Reads, tells, ended_before}
use Rattle.fy_records.proofs.Gone.{gone_is, none_told}
use Rattle.fy_records.proofs.counts.is_gone.Goals as goal

pub returns-in-Some : goal.returns-in-Some
returns-in-Some c h is =
    let same = same_kept (λ (seen : Seen). seen.read.key == c.args.write.key) (all_reads h) c.args.index.now.reads.items is.reads in
    c.is_lost_since.ensures h is
    ∙ gone_is h c.args.write c.in-Some.told
    (λ line. c.in-Some.ensures.before line ∙ ap (λ (some : Reads). some (λ seen. tells c.args.write.value seen && ended_before line seen)) (c.reads_of.ensures.same h is))
    (c.in-Some.ensures.there.0, same.both c.in-Some.ensures.there.0 (subst (λ (rs : List Seen). Contains rs c.in-Some.ensures.there.0) c.reads_of.ensures.reads c.in-Some.ensures.there.1), c.in-Some.ensures.there.2, c.in-Some.ensures.there.3)

pub returns-in-None : goal.returns-in-None
returns-in-None c h is =
    none_told h c.args.write
    (λ line. c.in-None.ensures.before line ∙ ap (λ (some : Reads). some (λ seen. tells c.args.write.value seen && ended_before line seen)) (c.reads_of.ensures.same h is))
