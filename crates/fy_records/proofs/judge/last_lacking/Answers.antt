use Rattle.std.proofs.Common.{◌≡◌, ◌∙◌, ◌&&◌, not, sym, ap, subst}
use Rattle.std.specs.Prelude.{Contains, nat_lt}
use Rattle.std.specs.List.{list_any}
use Rattle.fy_records.specs.declared.TheConstants.{MINUTE_NANOS}
use Rattle.fy_records.specs.declared.seen.Seen.{Seen}
use Rattle.fy_records.specs.Found.{some_of, reaches, FindsOne}
use Rattle.fy_records.specs.Reads.{lacks, is_of_store, is_at_end, is_answered, same_process, passes}
use Rattle.fy_records.specs.Verdicts.{lacks_to_end}
use Rattle.fy_records.proofs.Finding.{finds_one}
use Rattle.fy_records.proofs.Processes.{later_of_one, first_of_one}
use Rattle.fy_records.proofs.judge.last_lacking.Goals as goal

pub returns : goal.returns
returns c =
    let reads = c.args.reads.now in
    let written = c.args.written in
    let last = c.latest-last.result in
    let first = c.earliest_nanos-first.result in
    let here = λ (seen : Seen).
    not (is_of_store seen) && is_at_end written seen && is_answered seen in
    let test = λ (seen : Seen).
    lacks seen && (here seen && not (nat_lt seen.read.began.line last))
    && reaches first MINUTE_NANOS seen.read.began.nanos && passes c.args.test seen in
    let shows = λ (seen : Seen). lacks_to_end (some_of reads) written seen && passes c.args.test seen in
    let same : (seen : Seen) → Contains reads seen → test seen ≡ shows seen =
    λ seen there.
    ap (λ b. lacks seen && (here seen && not b) && reaches first MINUTE_NANOS seen.read.began.nanos && passes c.args.test seen)
    (c.latest-last.ensures seen.read.began.line
    ∙ later_of_one reads written seen c.requires there)
    ∙ ap (λ b. lacks seen && (here seen && not (list_any (λ later. same_process seen later && is_answered later && is_at_end written later && nat_lt seen.read.began.line later.read.began.line) reads)) && b && passes c.args.test seen)
    (c.earliest_nanos-first.ensures MINUTE_NANOS seen.read.began.nanos
    ∙ first_of_one reads written seen c.requires there) in
    subst (FindsOne shows reads) (sym c.lacking_late.ensures) (finds_one shows test reads same)
