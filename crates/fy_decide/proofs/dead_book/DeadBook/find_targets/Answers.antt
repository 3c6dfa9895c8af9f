use Rattle.std.proofs.Common.{rules, ◌≡◌, ◌∙◌, ap, sym}
use Rattle.std.specs.FinSet as sets
use Rattle.fy_locality.specs.declared.key.Key.TheVariants.{Process}
use Rattle.fy_decide.specs.Targets.{targeted}
use Rattle.fy_decide.specs.Verdicts.{targets}
use Rattle.fy_decide.proofs.Alone.{in-one}
use Rattle.fy_decide.proofs.dead_book.DeadBook.find_targets.Goals as goal

pub returns-in-Some : goal.returns-in-Some
returns-in-Some c =
    let key : c.args.target.now.key ≡ Process = search rules in
    λ q.
    in-one (targeted c.one.result) c.in-Some.p.0 q c.one.ensures.targeted
    ∙ c.in-Some.ensures.alone q
    ∙ ap (λ k. targets c.args.self.now.processes (sets.contains c.args.self.now.left) (record { key = k; value = c.args.target.now.value }) q) (sym key)
