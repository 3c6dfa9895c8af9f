use Rattle.std.proofs.Common.{◌∙◌, sym}
use Rattle.fy_guard.proofs.Going.{journal_of, of_first}
use Rattle.fy_guard.proofs.going_on.cluster_after.Goals as goal

pub returns-in-First-clause-first : goal.returns-in-First-clause-first
returns-in-First-clause-first c = λ setup bytes is.
    of_first setup bytes c.args.audit c.requires (sym c.version.ensures ∙ c.in-First.is) is

pub returns-in-Second-clause-journal : goal.returns-in-Second-clause-journal
returns-in-Second-clause-journal c = λ setup bytes is.
    journal_of setup bytes c.args.audit c.into_cluster.result c.requires
    (sym c.version.ensures ∙ c.in-Second.is) c.into_cluster.ensures is
