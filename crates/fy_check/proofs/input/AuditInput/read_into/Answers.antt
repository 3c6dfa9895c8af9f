use Rattle.std.proofs.Common.{rules, ◌≡◌, ◌∙◌, None, Ok, sym}
use Rattle.fy_check.proofs.Taking.{read_into_known}
use Rattle.fy_check.proofs.input.AuditInput.read_into.Goals as goal

pub returns-clause-read : goal.returns-clause-read
returns-clause-read g c = λ known first.
    let was = c.loop-entry.invariant in
    let taken = was.1 known first in
    let ended : c.next_entry.result ≡ Ok None = search rules in
    read_into_known known c.loop-entry.self.version _ _ was.0 _ (c.next_entry.ensures.ended ended known was.0 taken)
    (sym was.4) (c.place.ensures ∙ c.next_entry.ensures.count ended ∙ taken.place) was.2
