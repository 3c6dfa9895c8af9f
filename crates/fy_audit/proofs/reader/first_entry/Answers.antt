use Rattle.std.proofs.Common.{◌≤◌, ◌<◌, ◌∷◌, length, append-nil, sym, rules}
use Rattle.fy_spelling.specs.declared.command.TheConstants.{MOST_LINE_BYTES}
use Rattle.fy_audit.proofs.LineFaults.{no_last, long_front}
use Rattle.fy_audit.proofs.reader.first_entry.Goals as goal

pub returns-then-rest-gt-MOST_LINE_BYTES-clause-fault : goal.returns-then-rest-gt-MOST_LINE_BYTES-clause-fault
returns-then-rest-gt-MOST_LINE_BYTES-clause-fault c =
    let rest = c.args.rest.now in
    let long : MOST_LINE_BYTES < length rest = search rules in
    long_front c.args.version c.args.place rest rest _ (sym (append-nil rest)) c.in-None.ensures.none long

pub returns-else-rest-gt-MOST_LINE_BYTES-clause-fault : goal.returns-else-rest-gt-MOST_LINE_BYTES-clause-fault
returns-else-rest-gt-MOST_LINE_BYTES-clause-fault c =
    let rest = c.args.rest.now in
    let short : length rest ≤ MOST_LINE_BYTES = search rules in
    no_last c.args.version c.args.place rest c.requires c.in-None.ensures.none short

pub returns-then-line-gt-MOST_LINE_BYTES-clause-fault : goal.returns-then-line-gt-MOST_LINE_BYTES-clause-fault
returns-then-line-gt-MOST_LINE_BYTES-clause-fault c =
    let line = c.in-Some.line.now in
    let long : MOST_LINE_BYTES < length line = search rules in
    let is = c.in-Some.ensures.some in
    long_front c.args.version c.args.place c.args.rest.now line (10 ∷ c.in-Some.after.now) is.0 is.1 long
