use Rattle.std.proofs.Common.{◌≡◌, ◌∙◌, ◌&&◌, true, false, not, refl, sym, ap, subst, arith}
use Rattle.std.specs.Prelude.{nat_lt}
use Rattle.fy_records.specs.declared.seen.Seen.{Seen}
use Rattle.fy_records.specs.Found.{some_of, FindsOne}
use Rattle.fy_records.specs.Reads.{lacks}
use Rattle.fy_records.specs.Verdicts.{is_last_lacking}
use Rattle.fy_records.proofs.Finding.{finds_one, finds_alike, found_or_not, if_found, last_is_there}
use Rattle.fy_records.proofs.judge.last_lacking_after.Goals as goal

pub returns-then-last-line-clause-whether : goal.returns-then-last-line-clause-whether
returns-then-last-line-clause-whether c =
    let none : nat_lt c.args.line c.latest-last.result ≡ false = grind (arith, c.if-last-line.true) in
    sym none ∙ c.latest-last.ensures c.args.line

pub returns-clause-found : goal.returns-clause-found
returns-clause-found c =
    let reads = c.args.reads.now in
    let last = c.latest-last.result in
    let test = λ (seen : Seen). lacks seen && not (nat_lt seen.read.began.line last) in
    let found = subst (FindsOne test reads) (sym c.lacking_since.ensures) (finds_one test test reads (λ seen there. refl)) in
    if_found (is_last_lacking (some_of reads)) reads c.lacking_since.result
    (finds_alike (is_last_lacking (some_of reads)) test reads c.lacking_since.result
    (λ seen. ap (λ b. lacks seen && not b) (c.latest-last.ensures seen.read.began.line)) found)

pub returns-clause-whether : goal.returns-clause-whether
returns-clause-whether c =
    let reads = c.args.reads.now in
    let last = c.latest-last.result in
    let test = λ (seen : Seen). lacks seen && not (nat_lt seen.read.began.line last) in
    let found = subst (FindsOne test reads) (sym c.lacking_since.ensures) (finds_one test test reads (λ seen there. refl)) in
    let some : nat_lt c.args.line last ≡ true = grind (arith, c.if-last-line.false) in
    found_or_not test reads c.lacking_since.result found
    ∙ last_is_there lacks reads c.args.line last c.latest-last.ensures (omega (arith, c.if-last-line.false))
    ∙ sym some ∙ c.latest-last.ensures c.args.line
