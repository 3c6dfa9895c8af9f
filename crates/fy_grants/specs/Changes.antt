-- what the laws of rights after a change state
use Rattle.std.specs.Prelude.{◌≡◌, ◌↔◌, ◌<◌, ◌==◌, ◌+◌, ◌++◌, ◌∷◌, ℕ, Bool, true, Option, [], length, remove, option_map, if◌then◌else◌}
use Rattle.fy_locality.specs.declared.ProcId.{ProcId}
use Rattle.fy_kinds.specs.declared.kind_set.KindSet.{KindSet}
use Rattle.fy_grants.specs.declared.grant.Grant.{Grant}
use Rattle.fy_grants.specs.Least.{LeastWith, least_with}
use Rattle.fy_grants.specs.Rights.{Rights, grants_of, protections_of, grant_count, with_grant, without_grant, with_protection}

-- a grant goes to its actor's list alone
abbrev pub GivenToOne : Type 0
GivenToOne = (rights : Rights) (grant : Grant) (a : ℕ) → grant.actor < length rights.grants
    → grants_of (with_grant rights grant) a
    ≡ (if grant.actor == a then grants_of rights a ++ grant ∷ [] else grants_of rights a)

-- a grant leaves its actor's list alone
abbrev pub TakenFromOne : Type 0
TakenFromOne = (rights : Rights) (actor index a : ℕ) → actor < length rights.grants
    → grants_of (without_grant rights actor index) a
    ≡ (if actor == a then remove (grants_of rights a) index else grants_of rights a)

-- a grant that is given is one more
abbrev pub GivenIsCounted : Type 0
GivenIsCounted = (rights : Rights) (grant : Grant) → grant.actor < length rights.grants
    → grant_count (with_grant rights grant) ≡ grant_count rights + 1

-- one process has other protections than before, and no other has
abbrev pub ProtectedOne : Type 0
ProtectedOne = (rights : Rights) (p q : ℕ) (kinds : KindSet) → p < length rights.protections
    → protections_of (with_protection rights p kinds) q
    ≡ (if p == q then kinds else protections_of rights q)

-- the least process of a set that passes a test is the first number found below a bound of the set
abbrev pub LeastIsFirst : Type 0
LeastIsFirst = (count : ℕ) (set test : ℕ → Bool) (found : Option ProcId)
    → ((q : ℕ) → set q ≡ true → q < count)
    → LeastWith set test found ↔ (option_map (λ p. p.0) found ≡ least_with count set test)
