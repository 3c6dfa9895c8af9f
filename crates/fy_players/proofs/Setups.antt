-- setups have few policies
use Rattle.std.proofs.Common.{arith, ◌≡◌, ◌≤◌, true, length}
use Rattle.std.specs.Prelude.{nat_le}
use Rattle.std.proofs.lemmas.Bool.{and_parts}
use Rattle.std.proofs.lemmas.Bool.Decides.{nat_tests}
use Rattle.fy_cluster.specs.Setup.{Setup, is_between, is_in_range}

pub few_policies : (setup : Setup) → is_in_range setup ≡ true → length setup.policies ≤ 8
few_policies setup range =
    let first = and_parts _ (is_between 1 1048576 setup.limit) range in
    let second = (and_parts _ _ first.0).0 in
    let third = (and_parts _ _ second).0 in
    let fourth = (and_parts _ _ third).0 in
    let count = length setup.policies in
    let policies : is_between 1 8 count ≡ true = (and_parts (is_between 1 8 count) _ fourth).0 in
    let few : nat_le count 8 ≡ true = (and_parts (nat_le 1 count) (nat_le count 8) policies).1 in
    grind (arith, nat_tests)
