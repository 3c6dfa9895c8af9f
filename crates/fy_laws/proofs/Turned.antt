-- answers with one thing turned: the words of a verdict refute each
use Rattle.std.proofs.Common.{◌≡◌, ◌≤◌, arith, [], ◌∷◌, Option, Some, None, refl, leb-true, ltb-true, true≢false, slice_get, subst}
use Rattle.std.specs.Prelude.{codes}
use Rattle.std.specs.List.{IsDistinct}
use Rattle.std.proofs.lemmas.Bool.{false≢true}
use Rattle.fy_policy.specs.Laws.{TestIsSatisfaction}
use Rattle.fy_policy.specs.Sat.{Sat}
use Rattle.fy_policy.specs.Tree.{Tree}
use Rattle.fy_kinds.specs.declared.kind.Kind.{Kind}
use Rattle.fy_kinds.specs.declared.kind.Kind.TheVariants.{RebootAndDelete, KillInstantly}
use Rattle.fy_kinds.specs.declared.verdict.Rule.{Rule}
use Rattle.fy_kinds.specs.declared.verdict.Rule.TheVariants.{NoTarget, NoGrant, Protected, TooManyDestroyed, TooFewLeft}
use Rattle.fy_decide.specs.Safety.{with_set, without_set}
use Rattle.fy_decide.specs.Verdicts.{order_targets}
use Rattle.fy_decide.specs.Hardest.{MayStrike, IsAllowed, VerdictAnswers}
use Rattle.fy_laws.specs.Clusters.{six, four, in_two_zones, six_processes, four_processes, process}
use Rattle.fy_laws.specs.Strikes.{one_zone, second_kill}
use Rattle.fy_laws.specs.Judged.{situation_after, StrikesAfter, NamesAfter, first_kill, nobody_killed, kill_alone, reboot_alone, one_emptied, one_protected, two_protected, emptied_and_protected, six_twice}
use Rattle.fy_laws.proofs.Played.{cluster_on_literals}
use Rattle.fy_laws.proofs.FromWords.{right_strikes, right_names, struck_allowed, struck_may, struck_hardest, none_struck, none_named, target_named, grant_named, protection_named, destroyed_named, left_named}

-- ---- what struck

-- the first zone may be killed for good
killed_allowed : IsAllowed first_kill KillInstantly
killed_allowed = record { floor = leb-true 1 3 refl; ordered = leb-true 3 3 refl }

may_be_killed : VerdictAnswers → MayStrike (situation_after six [] 1) KillInstantly (order_targets (situation_after six [] 1) first_kill)
unfolding cluster_on_literals
may_be_killed law = struck_may _ first_kill _ (Some KillInstantly) KillInstantly refl (right_strikes law six [] 1 first_kill (Some KillInstantly) refl)

pub milder_struck : VerdictAnswers → (found : Option Kind) → found ≡ Some RebootAndDelete → StrikesAfter six [] 1 first_kill found → ⊥
milder_struck law found e it = struck_hardest _ first_kill _ found RebootAndDelete e it KillInstantly (ltb-true 2 3 refl) killed_allowed (may_be_killed law)

pub nobody_struck : VerdictAnswers → (found : Option Kind) → found ≡ None → StrikesAfter six [] 1 first_kill found → ⊥
nobody_struck law found e it = none_struck _ first_kill _ found e it KillInstantly killed_allowed (may_be_killed law)

-- with the second zone the destroyed would be in two zones
two_destroyed : Sat six_processes in_two_zones (with_set (situation_after six one_zone 1).destroyed (order_targets (situation_after six one_zone 1) second_kill))
unfolding Sat IsDistinct
two_destroyed = record {
  names = codes "z0" ∷ codes "z1" ∷ [];
  many = leb-true 2 2 refl;
  different = ((refl, tt), (tt, tt));
  each = (((0, refl), (0, ltb-true 0 6 refl, refl)), (((2, refl), (2, ltb-true 2 6 refl, refl)), tt));
}

pub second_killed : (found : Option Kind) → found ≡ Some KillInstantly → StrikesAfter six one_zone 1 second_kill found → ⊥
second_killed found e it = ((struck_may _ second_kill _ found KillInstantly e it).short refl).0 two_destroyed

pub second_emptied : (found : Option Kind) → found ≡ Some RebootAndDelete → StrikesAfter six one_zone 1 second_kill found → ⊥
second_emptied found e it = ((struck_may _ second_kill _ found RebootAndDelete e it).short refl).0 two_destroyed

-- without the first of two zones those left would be in one
pub one_left : TestIsSatisfaction → (found : Option Kind) → found ≡ Some KillInstantly → StrikesAfter four [] 1 first_kill found → ⊥
unfolding cluster_on_literals
one_left law found e it = false≢true ((law four_processes in_two_zones _).1 ((struck_may _ first_kill _ found KillInstantly e it).satisfied refl).0)

three_in_two : 3 ≤ 2 → ⊥
three_in_two le = omega arith

pub milder_than_floor : (found : Option Kind) → found ≡ Some RebootAndDelete → StrikesAfter four [] 1 kill_alone found → ⊥
milder_than_floor found e it = three_in_two (struck_allowed _ kill_alone _ found RebootAndDelete e it).floor

three_in_one : 3 ≤ 1 → ⊥
three_in_one le = omega arith

pub harder_than_ordered : (found : Option Kind) → found ≡ Some KillInstantly → StrikesAfter six [] 1 reboot_alone found → ⊥
harder_than_ordered found e it = three_in_one (struck_allowed _ reboot_alone _ found KillInstantly e it).ordered

pub ungranted_struck : (found : Option Kind) → found ≡ Some RebootAndDelete → StrikesAfter four [] 2 first_kill found → ⊥
ungranted_struck found e it = false≢true ((struck_may _ first_kill _ found RebootAndDelete e it).granted 0 refl)

pub protected_struck : (found : Option Kind) → found ≡ Some KillInstantly → StrikesAfter six one_protected 1 first_kill found → ⊥
protected_struck found e it = true≢false ((struck_may _ first_kill _ found KillInstantly e it).unprotected 1 refl)

pub nobody_there : VerdictAnswers → (found : Option Kind) → found ≡ Some KillInstantly → StrikesAfter six [] 1 nobody_killed found → ⊥
unfolding cluster_on_literals
nobody_there law found e it = target_named _ KillInstantly _ (Some NoTarget) refl (right_names law six [] 1 nobody_killed (Some NoTarget) refl) (struck_may _ nobody_killed _ found KillInstantly e it).target

-- ---- the rule that is named

pub grant_there : (found : Option Rule) → found ≡ Some (NoGrant (process 0)) → NamesAfter six [] 1 first_kill found → ⊥
grant_there found e it = false≢true (grant_named _ KillInstantly _ found (process 0) e it).passes

pub no_protection : (found : Option Rule) → found ≡ Some (Protected (process 0)) → NamesAfter six [] 1 first_kill found → ⊥
no_protection found e it = false≢true (protection_named _ KillInstantly _ found (process 0) e it).1.passes

-- the one policy of the six
the_policy : (P : Tree) → slice_get six.policies 0 ≡ Some P → P ≡ in_two_zones
the_policy P e = cc

pub few_destroyed : VerdictAnswers → (found : Option Rule) → found ≡ Some (TooManyDestroyed 0) → NamesAfter six [] 1 first_kill found → ⊥
few_destroyed law found e it =
    let s = situation_after six [] 1 in
    let first = (destroyed_named _ KillInstantly _ found 0 e it).2 in
    ((may_be_killed law).short refl).0 (subst (λ P. Sat six_processes P (with_set s.destroyed (order_targets s first_kill))) (the_policy first.policy first.at) first.holds)

pub enough_left : VerdictAnswers → (found : Option Rule) → found ≡ Some (TooFewLeft 0) → NamesAfter six [] 1 first_kill found → ⊥
enough_left law found e it =
    let s = situation_after six [] 1 in
    let first = (left_named _ KillInstantly _ found 0 e it).1 in
    subst (λ P. Sat six_processes P (without_set s.left (order_targets s first_kill)) → ⊥) (the_policy first.policy first.at) first.holds ((may_be_killed law).satisfied refl).0

pub no_rule_named : (found : Option Rule) → found ≡ None → NamesAfter six one_zone 1 second_kill found → ⊥
no_rule_named found e it = ((none_named _ KillInstantly _ found e it).short refl).0 two_destroyed

pub grant_of_nobody : (found : Option Rule) → found ≡ Some (NoGrant (process 0)) → NamesAfter six [] 1 nobody_killed found → ⊥
grant_of_nobody found e it = false≢true (grant_named _ KillInstantly _ found (process 0) e it).member

pub target_there : (found : Option Rule) → found ≡ Some NoTarget → NamesAfter six [] 3 first_kill found → ⊥
target_there found e it = target_named _ KillInstantly _ found e it (0, refl)

pub protection_before_grant : (found : Option Rule) → found ≡ Some (Protected (process 1)) → NamesAfter six one_protected 3 first_kill found → ⊥
protection_before_grant found e it = false≢true ((protection_named _ KillInstantly _ found (process 1) e it).0 0 refl)

pub replication_before_grant : (found : Option Rule) → found ≡ Some (TooManyDestroyed 0) → NamesAfter six one_emptied 3 second_kill found → ⊥
replication_before_grant found e it = false≢true ((destroyed_named _ KillInstantly _ found 0 e it).0 2 refl)

pub replication_before_protection : (found : Option Rule) → found ≡ Some (TooManyDestroyed 0) → NamesAfter six emptied_and_protected 1 second_kill found → ⊥
replication_before_protection found e it = true≢false ((destroyed_named _ KillInstantly _ found 0 e it).1 3 refl)

four_destroyed : Sat four_processes in_two_zones (with_set (situation_after four one_emptied 1).destroyed (order_targets (situation_after four one_emptied 1) second_kill))
unfolding Sat IsDistinct
four_destroyed = record {
  names = codes "z0" ∷ codes "z1" ∷ [];
  many = leb-true 2 2 refl;
  different = ((refl, tt), (tt, tt));
  each = (((0, refl), (0, ltb-true 0 4 refl, refl)), (((2, refl), (2, ltb-true 2 4 refl, refl)), tt));
}

pub left_before_destroyed : (found : Option Rule) → found ≡ Some (TooFewLeft 0) → NamesAfter four one_emptied 1 second_kill found → ⊥
left_before_destroyed found e it = (left_named _ KillInstantly _ found 0 e it).0.0 four_destroyed

pub greater_without_grant : (found : Option Rule) → found ≡ Some (NoGrant (process 1)) → NamesAfter six [] 3 first_kill found → ⊥
greater_without_grant found e it = true≢false ((grant_named _ KillInstantly _ found (process 1) e it).none_below 0 (ltb-true 0 1 refl) refl)

pub greater_protected : (found : Option Rule) → found ≡ Some (Protected (process 1)) → NamesAfter six two_protected 1 first_kill found → ⊥
greater_protected found e it = true≢false ((protection_named _ KillInstantly _ found (process 1) e it).1.none_below 0 (ltb-true 0 1 refl) refl)

pub later_policy : (found : Option Rule) → found ≡ Some (TooManyDestroyed 1) → NamesAfter six_twice one_zone 1 second_kill found → ⊥
later_policy found e it = (destroyed_named _ KillInstantly _ found 1 e it).2.none_before 0 in_two_zones (ltb-true 0 1 refl) refl two_destroyed

-- ---- whether one is

pub milder_or_killed : Some RebootAndDelete ≡ Some KillInstantly → ⊥
milder_or_killed e = absurd (let y : ⊥ = cc in y)

pub rule_or_none : Some (TooFewLeft 0) ≡ None → ⊥
rule_or_none e = absurd (let y : ⊥ = cc in y)
