-- what the laws of policies and of their texts state
use Rattle.std.specs.Prelude.{◌≡◌, ◌≢◌, ◌↔◌, ◌+◌, ◌++◌, ◌<◌, ◌≤◌, ◌||◌, ℕ, Bool, true, false, not, cond, List, length, slice_index_or, None, Result, Ok, Err}
use Rattle.std.specs.List.{list_all}
use Rattle.std.proofs.Common.{Global, Vec}
use Rattle.fy_locality.specs.declared.locality.Locality.{Locality}
use Rattle.fy_locality.specs.declared.key.Key.{Key}
use Rattle.fy_locality.specs.declared.key.Key.TheVariants.{Process}
use Rattle.fy_locality.specs.Locality.{NamesDiffer, value_of}
use Rattle.fy_policy.specs.declared.fault.PolicyFault.{PolicyFault}
use Rattle.fy_policy.specs.declared.fault.PolicyFault.TheVariants.{NoMemory}
use Rattle.fy_policy.specs.declared.limits.TheConstants.{MOST_TEXT_BYTES}
use Rattle.fy_policy.specs.declared.shape.Shape.{Shape, And}
use Rattle.fy_policy.specs.Counted.{number_of, passing}
use Rattle.fy_policy.specs.Reading.{Reads}
use Rattle.fy_policy.specs.Sat.{Sat, IsValueOf, group, outside, satisfies}
use Rattle.fy_policy.specs.Shape.{tree_of}
use Rattle.fy_policy.specs.Text.{text}
use Rattle.fy_policy.specs.Tree.{Tree, one, across, IsPolicy, IsWellFormed}

-- the empty set satisfies no policy
abbrev pub EmptySatisfiesNone : Type 0
EmptySatisfiesNone =
    (processes : List Locality) (policy : Tree) (s : ℕ → Bool)
    → IsPolicy policy → ((p : ℕ) → s p ≡ false) → Sat processes policy s → ⊥

-- a larger set satisfies what a smaller one does
abbrev pub MoreSatisfies : Type 0
MoreSatisfies =
    (processes : List Locality) (policy : Tree) (s t : ℕ → Bool)
    → ((p : ℕ) → s p ≡ true → t p ≡ true) → Sat processes policy s → Sat processes policy t

-- so does a set that is larger as far as the processes of the map go
abbrev pub MoreOfMapSatisfies : Type 0
MoreOfMapSatisfies =
    (processes : List Locality) (policy : Tree) (s t : ℕ → Bool)
    → ((p : ℕ) → p < length processes → s p ≡ true → t p ≡ true)
    → Sat processes policy s → Sat processes policy t

-- the values of a key whose groups satisfy a policy are one value, where its group does, and those
-- of the processes outside it
abbrev pub ValuesPassApart : Type 0
ValuesPassApart =
    (processes : List Locality) (key : Key) (policy : Tree) (v : List ℕ) (s : ℕ → Bool)
    → IsWellFormed policy → IsValueOf processes key v
    → passing processes key policy s
    ≡ cond (satisfies processes policy (group processes key v s)) 1 0
    + passing processes key policy (outside processes key v s)

-- a process without the key changes nothing
abbrev pub KeylessPassNothing : Type 0
KeylessPassNothing =
    (processes : List Locality) (key : Key) (policy : Tree) (p : ℕ) (s t : ℕ → Bool)
    → value_of processes key p ≡ None → ((q : ℕ) → q ≢ p → s q ≡ t q)
    → passing processes key policy s ≡ passing processes key policy t

-- of nobody there is no value whose group satisfies a policy
abbrev pub NobodyPasses : Type 0
NobodyPasses =
    (processes : List Locality) (key : Key) (policy : Tree) (s : ℕ → Bool)
    → IsWellFormed policy → ((p : ℕ) → s p ≡ false) → passing processes key policy s ≡ 0

-- an And is satisfied where each of its parts is
abbrev pub AndIsEach : Type 0
AndIsEach =
    (processes : List Locality) (parts : Vec Shape Global) (s : ℕ → Bool)
    → satisfies processes (tree_of (And parts)) s
    ≡ list_all (λ part. satisfies processes (tree_of part) s) parts.items

-- each part of a well formed And is well formed
abbrev pub PartsAreWellFormed : Type 0
PartsAreWellFormed =
    (parts : Vec Shape Global) (i : ℕ) (default : Shape)
    → IsWellFormed (tree_of (And parts)) → i < length parts.items
    → IsWellFormed (tree_of (slice_index_or parts.items i default))

-- a set passes the test exactly where it satisfies the policy
abbrev pub TestIsSatisfaction : Type 0
TestIsSatisfaction =
    (processes : List Locality) (policy : Tree) (s : ℕ → Bool)
    → (satisfies processes policy s ≡ true) ↔ Sat processes policy s

-- where the holders with the destroyed satisfy a policy, and the destroyed alone don't, some holder
-- isn't destroyed
abbrev pub SomeHolderIsLeft : Type 0
SomeHolderIsLeft =
    (processes : List Locality) (policy : Tree) (holders destroyed : ℕ → Bool)
    → Sat processes policy (λ p. holders p || destroyed p)
    → (Sat processes policy destroyed → ⊥)
    → (p : ℕ) × (p < length processes) × (holders p ≡ true) × (destroyed p ≡ false)

-- where the destroyed of n processes don't satisfy Across(k,processid,One()), n - k + 1 or more
-- aren't destroyed
abbrev pub AQuorumIsLeft : Type 0
AQuorumIsLeft =
    (processes : List Locality) (k : ℕ) (destroyed : ℕ → Bool)
    → NamesDiffer processes
    → (Sat processes (across k Process one) destroyed → ⊥)
    → length processes + 1 ≤ number_of (λ p. not (destroyed p)) (length processes) + k

-- bytes begin with the text of one tree at most
abbrev pub TextIsOfOnePolicy : Type 0
TextIsOfOnePolicy = (t u : Tree) (x y : List ℕ) → text t ++ x ≡ text u ++ y → (t ≡ u) × (x ≡ y)

-- a policy's text is short
abbrev pub TextIsShort : Type 0
TextIsShort = (t : Tree) → IsPolicy t → length (text t) ≤ MOST_TEXT_BYTES

-- a policy's text reads as the policy
abbrev pub TextReadsBack : Type 0
TextReadsBack = (t : Tree) → IsPolicy t → Reads (text t) (Ok t)

-- two answers for the same bytes are one, where neither is an allocation failure
abbrev pub ReadingIsSettled : Type 0
ReadingIsSettled =
    (bytes : List ℕ) (a b : Result Tree PolicyFault)
    → Reads bytes a → Reads bytes b
    → (a ≡ Err NoMemory → ⊥) → (b ≡ Err NoMemory → ⊥) → a ≡ b
