use Rattle.std.proofs.Common.{◌≡◌, length, subst}
use Rattle.fy_holders.specs.Destroyed.{destroyed_at}
use Rattle.fy_verdict.proofs.Wholes.{destroyed_is}
use Rattle.fy_verdict.proofs.entries.is_destroyed_at.Goals as goal

pub returns : goal.returns
returns c = λ lines.
    let setup = c.args.outages.now.setup in
    let journal = c.args.outages.now.journal in
    let p = c.args.process.0 in
    subst (λ k. c.was_destroyed.result ≡ destroyed_at setup journal k p)
    (c.position_at.ensures.position (length journal) lines)
    (destroyed_is setup journal c.position_at.result p c.was_destroyed.result c.was_destroyed.ensures.there
    c.was_destroyed.ensures.nobody (c.position_at.ensures.within (length journal) lines))
