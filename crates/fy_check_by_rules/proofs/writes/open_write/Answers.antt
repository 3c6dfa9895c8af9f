use Rattle.std.proofs.Common.{[], ℕ, None, sym, ◌∙◌, ap}
use Rattle.std.specs.Prelude.{Option, if◌then◌else◌}
use Rattle.fy_cluster.specs.History.{writes}
use Rattle.fy_check_by_rules.specs.Past.{as_step}
use Rattle.fy_check_by_rules.proofs.writes.open_write.Goals as goal

pub returns-then-not-is_open : goal.returns-then-not-is_open
returns-then-not-is_open c = λ h place.
    let write : Option ℕ = writes (as_step [] c.args.step.now) c.args.p.0 in
    sym (ap (λ b. if b then write else None) (sym (c.is_open.ensures h place) ∙ c.if-not-is_open.true))

pub returns : goal.returns
returns c = λ h place.
    let write : Option ℕ = writes (as_step [] c.args.step.now) c.args.p.0 in
    c.writes.ensures ∙ sym (ap (λ b. if b then write else None) (sym (c.is_open.ensures h place) ∙ c.if-not-is_open.false))
