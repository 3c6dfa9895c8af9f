use Rattle.fy_show.proofs.Finding.{journals_have_findings}
use Rattle.fy_show.proofs.laws.journals_have_findings.Goals as goal

pub returns : goal.returns
returns c = journals_have_findings c.versions.ensures.next (λ a b. (_, c.equal_is_the_same.ensures.replies a b))
