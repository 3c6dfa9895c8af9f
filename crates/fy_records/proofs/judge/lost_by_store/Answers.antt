use Rattle.std.proofs.Common.{◌≡◌, ◌∙◌, ◌&&◌, not, sym, ap, subst}
use Rattle.std.specs.Prelude.{nat_lt}
use Rattle.fy_records.specs.declared.seen.Seen.{Seen}
use Rattle.fy_records.specs.Found.{some_of, FindsOne}
use Rattle.fy_records.specs.Reads.{lacks, is_store_read}
use Rattle.fy_records.specs.Verdicts.{shows_store_loss}
use Rattle.fy_records.proofs.Finding.{finds_one, found_or_not}
use Rattle.fy_records.proofs.judge.lost_by_store.Goals as goal

pub returns-clause-found : goal.returns-clause-found
returns-clause-found c =
    let reads = c.args.reads.now in
    let case = c.args.case in
    let last = c.latest-last.result in
    let told = c.latest-told.result in
    let here = λ (seen : Seen). lacks seen && is_store_read case.since.line seen in
    let test = λ (seen : Seen).
    here seen && not (nat_lt seen.read.began.line last) && not (nat_lt seen.read.began.line told) in
    let shows = shows_store_loss (some_of reads) case in
    let same : (seen : Seen) → test seen ≡ shows seen =
    λ seen.
    ap (λ b. here seen && not b && not (nat_lt seen.read.began.line told)) (c.latest-last.ensures seen.read.began.line)
    ∙ ap (λ b. here seen && not (some_of reads (λ later. is_store_read case.since.line later && nat_lt seen.read.began.line later.read.began.line)) && not b) (c.latest-told.ensures seen.read.began.line) in
    subst (FindsOne shows reads) (sym c.lacking_from.ensures) (finds_one shows test reads (λ seen there. same seen))

pub returns-clause-whether : goal.returns-clause-whether
returns-clause-whether c = found_or_not (shows_store_loss (some_of c.args.reads.now) c.args.case) c.args.reads.now c.lacking_from.result (returns-clause-found c)
