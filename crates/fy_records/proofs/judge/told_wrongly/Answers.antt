use Rattle.std.proofs.Common.{refl, sym, subst}
use Rattle.fy_records.specs.Found.{FindsOne}
use Rattle.fy_records.proofs.Finding.{finds_one, found_or_not}
use Rattle.fy_records.proofs.judge.told_wrongly.Goals as goal

pub returns-clause-found : goal.returns-clause-found
returns-clause-found c =
    subst (FindsOne (λ seen. seen.wrong) c.args.reads.now) (sym c.wrong_read.ensures)
    (finds_one (λ seen. seen.wrong) (λ seen. seen.wrong) c.args.reads.now (λ seen there. refl))

pub returns-clause-whether : goal.returns-clause-whether
returns-clause-whether c =
    found_or_not (λ seen. seen.wrong) c.args.reads.now c.wrong_read.result (returns-clause-found c)
