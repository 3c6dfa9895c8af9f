-- lots and actors before the first turn
use Rattle.std.proofs.Common.{arith, ◌≡◌, ◌∙◌, ◌≤◌, ◌<◌, ◌+◌, ℕ, suc, true, List, [], ◌∷◌, ◌++◌, length, drop, refl, sym, ap, subst, drop-cons}
use Rattle.std.specs.Prelude.{Some, replicate, slice_get, nat_le}
use Rattle.std.specs.List.{All}
use Rattle.std.proofs.lemmas.Bool.{and_parts}
use Rattle.std.proofs.lemmas.Bool.Decides.{nat_tests}
use Rattle.std.proofs.lemmas.List.{drop_all, length-replicate}
use Rattle.std.proofs.lemmas.List.Elements.{All-nil, All-append, All-replicate}
use Rattle.std.proofs.lemmas.Option.{get_or_from_slice_get, slice_get_within}
use Rattle.fy_cluster.specs.Setup.{Setup, is_between, is_in_range}
use Rattle.fy_cluster.specs.declared.role.Role.{Role}
use Rattle.fy_cluster.specs.declared.role.Role.TheVariants.{Fault, Storage, Operator}
use Rattle.fy_players.specs.declared.faults.Plan.{Plan}
use Rattle.fy_players.specs.Turns.{player_of}
use Rattle.fy_simulate.specs.Simulate.{lots_of, lots_from, players_from}

-- ---- one role after another

opened_at : (roles : List Role) (a : ℕ) (role : Role) → slice_get roles a ≡ Some role → drop a roles ≡ role ∷ drop (suc a) roles
opened_at roles a role is =
    drop-cons roles a role (slice_get_within roles a role is)
    ∙ ap (λ r. r ∷ drop (suc a) roles) (get_or_from_slice_get roles a role role is)

next : (a : ℕ) → suc a ≡ a + 1
next a = omega arith

pub lots_step : (roles : List Role) (a : ℕ) (role : Role) → slice_get roles a ≡ Some role
    → lots_from a (drop a roles) ≡ replicate (lots_of role) a ++ lots_from (a + 1) (drop (a + 1) roles)
lots_step roles a role is =
    ap (lots_from a) (opened_at roles a role is)
    ∙ ap (λ n. replicate (lots_of role) a ++ lots_from n (drop n roles)) (next a)

pub lots_end : (roles : List Role) (a : ℕ) → length roles ≤ a → lots_from a (drop a roles) ≡ []
lots_end roles a past = ap (lots_from a) (drop_all a roles past)

pub players_step : (seed : ℕ) (plan : Plan) (roles : List Role) (a : ℕ) (role : Role) → slice_get roles a ≡ Some role
    → players_from seed plan a (drop a roles)
    ≡ player_of seed plan a role ∷ players_from seed plan (a + 1) (drop (a + 1) roles)
players_step seed plan roles a role is =
    ap (players_from seed plan a) (opened_at roles a role is)
    ∙ ap (λ n. player_of seed plan a role ∷ players_from seed plan n (drop n roles)) (next a)

pub players_end : (seed : ℕ) (plan : Plan) (roles : List Role) (a : ℕ) → length roles ≤ a → players_from seed plan a (drop a roles) ≡ []
players_end seed plan roles a past = ap (players_from seed plan a) (drop_all a roles past)

-- ---- how many there are

pub players_count : (seed : ℕ) (plan : Plan) (a : ℕ) (roles : List Role) → length (players_from seed plan a roles) ≡ length roles
players_count seed plan a [] = refl
players_count seed plan a (role ∷ roles) = ap suc (players_count seed plan (suc a) roles)

pub lots_within : (a n : ℕ) (roles : List Role) → a + length roles ≤ n → All (λ x. x < n) (lots_from a roles)
lots_within a n [] room = All-nil (λ x. x < n)
lots_within a n (role ∷ roles) room =
    All-append (λ x. x < n) (replicate (lots_of role) a) (lots_from (suc a) roles)
    (All-replicate (λ x. x < n) (lots_of role) a (omega arith))
    (lots_within (suc a) n roles (omega arith))

some_lot : (role : Role) → 0 < lots_of role
some_lot Storage = omega arith
some_lot Fault = omega arith
some_lot Operator = omega arith

longer : (xs ys : List ℕ) → 0 < length xs → 0 < length (xs ++ ys)
longer [] ys some = absurd (let none : ⊥ = omega arith in none)
longer (x ∷ xs) ys some = omega arith

pub lots_some : (roles : List Role) → 0 < length roles → 0 < length (lots_from 0 roles)
lots_some [] some = absurd (let none : ⊥ = omega arith in none)
lots_some (role ∷ roles) some =
    longer (replicate (lots_of role) 0) (lots_from 1 roles)
    (subst (λ n. 0 < n) (sym (length-replicate (lots_of role) 0)) (some_lot role))

-- ---- a setup has actors

pub roles_some : (setup : Setup) → is_in_range setup ≡ true → 0 < length setup.roles
roles_some setup range =
    let first = and_parts _ (is_between 1 1048576 setup.limit) range in
    let second = (and_parts _ _ first.0).0 in
    let third = (and_parts _ _ second).0 in
    let fourth = (and_parts _ _ third).0 in
    let count = length setup.roles in
    let roles : is_between 1 64 count ≡ true = (and_parts _ (is_between 1 64 count) fourth).1 in
    let some : nat_le 1 count ≡ true = (and_parts (nat_le 1 count) (nat_le count 64) roles).0 in
    grind (arith, nat_tests)
