use Rattle.std.proofs.Common.{◌≡◌, ℕ, true, arith}
use Rattle.std.specs.Prelude.{nat_lt, nat_le}
use Rattle.std.proofs.lemmas.List.Sums.{prefix_len-le-length}
use Rattle.fy_records.proofs.Columns.{front_longer}
use Rattle.fy_records.proofs.keys.range_of.Goals as goal

-- what is less is no greater
milder : (key x : ℕ) → nat_lt x key ≡ true → nat_le x key ≡ true
milder key x less = grind (arith, less)

pub returns-clause-order : goal.returns-clause-order
returns-clause-order c =
    let key = c.args.key in
    omega (arith, c.count_before.ensures, c.count_up_to.ensures, front_longer (λ x. nat_lt x key) (λ x. nat_le x key) (milder key) c.args.keys.now)

pub returns-clause-within : goal.returns-clause-within
returns-clause-within c =
    omega (arith, c.count_up_to.ensures, prefix_len-le-length (λ x. nat_le x c.args.key) c.args.keys.now)
