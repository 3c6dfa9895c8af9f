-- what may be done to whom: the bar of a deed, and the verdict on an order
use Rattle.std.specs.Prelude.{◌≡◌, ◌↔◌, ℕ, Bool, ◌&&◌, not, List, [], ◌∷◌, ◌++◌, length, Option, Some, None, option_map, is_none, nat_le, if◌then◌else◌}
use Rattle.std.specs.List.{find, list_any, range_with_len}
use Rattle.std.specs.FinSet as sets
use Rattle.fy_locality.specs.declared.ProcId.{ProcId}
use Rattle.fy_locality.specs.declared.locality.Locality.{Locality}
use Rattle.fy_locality.specs.declared.key.Key.TheVariants.{Process}
use Rattle.fy_locality.specs.Locality.{value_of, has_value}
use Rattle.fy_policy.specs.Tree.{Tree}
use Rattle.fy_kinds.specs.declared.kind.Kind.{Kind}
use Rattle.fy_kinds.specs.declared.kind.Kind.TheVariants.{RebootProcess, Reboot, RebootAndDelete, KillInstantly}
use Rattle.fy_kinds.specs.declared.order.Target.{Target}
use Rattle.fy_kinds.specs.Orders.{Order}
use Rattle.fy_kinds.specs.declared.verdict.Rule.{Rule}
use Rattle.fy_kinds.specs.declared.verdict.Rule.TheVariants.{NoTarget, NoGrant, Protected, TooManyDestroyed, TooFewLeft}
use Rattle.fy_kinds.specs.declared.verdict.Verdict.{Verdict}
use Rattle.fy_kinds.specs.Kinds.{Deed, Striking, rank, is_destroying, destroys_for_good, is_kill_which, has, only}
use Rattle.fy_grants.specs.declared.grant.Grant.{Grant}
use Rattle.fy_grants.specs.Least.{least_with}
use Rattle.fy_grants.specs.Rights.{Rights, grants_of, protections_of, is_covered}
use Rattle.fy_decide.specs.declared.dead_book.Loss.{Loss}
use Rattle.fy_decide.specs.declared.dead_book.Loss.TheVariants.{Emptied, Gone}
use Rattle.fy_decide.specs.DeadBook.{Losses}
use Rattle.fy_decide.specs.Safety.{MayDestroy, with_set, without_set, first_satisfied, first_short}

-- all that an answer to an actor rests on: the actor's grants, who is protected from what, the
-- destroyed, those left
pub record Situation : Type 0 where
  pub processes : List Locality
  pub policies : List Tree
  pub grants : List Grant
  pub is_protected : ℕ → Deed → Bool
  pub destroyed : ℕ → Bool
  pub left : ℕ → Bool

-- the situation of an actor by the dead book and the book of grants
abbrev pub situation_of : Losses → Rights → ℕ → Situation
situation_of dead rights actor = record {
  processes = dead.processes;
  policies = dead.policies;
  grants = grants_of rights actor;
  is_protected = λ p deed. has (protections_of rights p) deed;
  destroyed = sets.contains dead.destroyed;
  left = sets.contains dead.left;
}

-- those left that have the target's value of its key
abbrev pub targets : List Locality → (left : ℕ → Bool) → Target → ℕ → Bool
targets processes left target p = left p && has_value processes target.key target.value p

-- the numbers of the processes, from the least
abbrev pub numbers : Situation → List ℕ
numbers situation = range_with_len 0 (length situation.processes)

-- the least process of a set that passes a test
abbrev pub least : Situation → (set test : ℕ → Bool) → Option ProcId
least situation set test =
    option_map (λ p. record { 0 = p }) (least_with (length situation.processes) set test)

-- whether some grant of the actor has the deed and covers process p
abbrev pub is_granted_to : Situation → Deed → ℕ → Bool
is_granted_to situation deed p = is_covered situation.processes situation.grants (only deed) p

-- the first three rules, of permission, each where it bars the deed at these processes: there is no
-- target; the least process that no grant with the deed covers; the least that is protected from it
abbrev pub permission_rules : Situation → Deed → (ℕ → Bool) → List (Option Rule)
permission_rules situation deed s =
    (if list_any s (numbers situation) then None else Some NoTarget)
    ∷ option_map NoGrant (least situation s (λ p. not (is_granted_to situation deed p)))
    ∷ option_map Protected (least situation s (λ p. situation.is_protected p deed))
    ∷ []

-- the least policy that the destroyed with a set satisfy
abbrev pub too_many_destroyed : Situation → (ℕ → Bool) → Option ℕ
too_many_destroyed situation s =
    first_satisfied situation.processes situation.policies (with_set situation.destroyed s)

-- the least policy that those left without a set are short of
abbrev pub too_few_left : Situation → (ℕ → Bool) → Option ℕ
too_few_left situation s =
    first_short situation.processes situation.policies (without_set situation.left s)

-- the last two, of replication: the least policy that the destroyed with these processes satisfy;
-- the least that those left without them are short of
abbrev pub loss_rules : Situation → Deed → (ℕ → Bool) → List (Option Rule)
loss_rules situation deed s =
    (if is_kill_which is_destroying deed
    then option_map TooManyDestroyed (too_many_destroyed situation s) else None)
    ∷ (if is_kill_which destroys_for_good deed
    then option_map TooFewLeft (too_few_left situation s) else None)
    ∷ []

-- the first of some rules that bars
abbrev pub first_rule : List (Option Rule) → Option Rule
first_rule [] = None
first_rule (None ∷ rest) = first_rule rest
first_rule (Some rule ∷ rest) = Some rule

-- the bar of a deed: the first of the five rules that bars it, or none
unfoldable pub bar : Situation → Deed → (ℕ → Bool) → Option Rule
bar situation deed s = first_rule (permission_rules situation deed s ++ loss_rules situation deed s)

-- the kinds, hardest first
abbrev pub hardest_first : List Kind
hardest_first = KillInstantly ∷ RebootAndDelete ∷ Reboot ∷ RebootProcess ∷ []

-- whether a kind is one from the ordered one down to the floor
abbrev pub is_allowed : Order → Kind → Bool
is_allowed order kind =
    nat_le (rank order.floor) (rank kind) && nat_le (rank kind) (rank order.kind)

-- the hardest kind from the ordered one down to the floor that has no bar
abbrev pub hardest : Situation → Order → (ℕ → Bool) → Option Kind
hardest situation order s =
    find (λ kind. is_allowed order kind && is_none (bar situation (Striking kind) s)) hardest_first

-- those of an order's target that are left
abbrev pub order_targets : Situation → Order → ℕ → Bool
order_targets situation order = targets situation.processes situation.left order.target

-- an order names process p alone, by its name
pub record NamesProcess (processes : List Locality) (p : ℕ) (order : Order) : Type 0 where
  pub key : order.target.key ≡ Process
  pub name : value_of processes Process p ≡ Some order.target.value

-- the verdict on an order: what strikes its targets, and the bar of the ordered kind
unfoldable pub verdict : Situation → Order → Verdict
verdict situation order = record {
  struck = hardest situation order (order_targets situation order);
  rule = bar situation (Striking order.kind) (order_targets situation order);
}

-- the loss that a kind brings, where it destroys
abbrev pub loss_of : Kind → Option Loss
loss_of RebootProcess = None
loss_of Reboot = None
loss_of RebootAndDelete = Some Emptied
loss_of KillInstantly = Some Gone

-- ---- what the laws of verdicts state

-- no rule is named exactly where the ordered kind strikes
abbrev pub RuleIsNamedForLess : Type 0
RuleIsNamedForLess = (situation : Situation) (order : Order)
    → ((verdict situation order).rule ≡ None)
    ↔ ((verdict situation order).struck ≡ Some order.kind)

-- the loss of a set may be taken down, by a situation
abbrev pub MayBeLost : Situation → (ℕ → Bool) → Loss → Type 0
MayBeLost situation s loss =
    MayDestroy situation.processes situation.policies situation.destroyed situation.left s loss

-- what strikes may destroy its targets
abbrev pub StruckMayBeDestroyed : Type 0
StruckMayBeDestroyed = (situation : Situation) (order : Order) (kind : Kind) (loss : Loss)
    → (verdict situation order).struck ≡ Some kind → loss_of kind ≡ Some loss
    → MayBeLost situation (order_targets situation order) loss
