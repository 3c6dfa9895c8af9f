-- a machine before anything happened keeps the empty history
use Rattle.std.proofs.Common.{◌==◌, ◌≡◌, ℕ, zero, suc, ◌+◌, ◌<◌, ◌≤◌, Bool, true, false, ◌&&◌, ◌||◌, not, List, [], ◌∷◌, ◌++◌, length, take, replicate, slice_get, Some, None, refl, sym, ◌∙◌, ap, nat_lt, get_or, arith, append-nil, append_assoc, eqb-true, filter, if◌then◌else◌, nat_le}
use Rattle.std.proofs.lemmas.Bool.Decides.{nat_tests}
use Rattle.std.proofs.lemmas.List.{length-replicate, get_or-replicate}
use Rattle.std.proofs.lemmas.List.Elements.{filter_more}
use Rattle.std.proofs.lemmas.Option.{slice_get-get_or}
use Rattle.std.proofs.lemmas.Iterator.Adapters.{position_from-zero}
use Rattle.std.specs.List.{position_from, list_any, list_all, AllByRecursion}
use Rattle.std.proofs.lemmas.Bool.{and_parts, true≢false}
use Rattle.std.proofs.lemmas.List.Folds.{list_any_more, list_all_at}
use Rattle.fy_locality.specs.declared.locality.Locality.{Locality}
use Rattle.fy_policy.specs.Tree.{Tree, IsPolicy}
use Rattle.fy_policy.specs.Sat.{Sat, satisfies}
use Rattle.fy_kinds.specs.declared.kind_set.KindSet.{KindSet}
use Rattle.fy_kinds.specs.declared.kind.Kind.TheVariants.{RebootProcess, Reboot, RebootAndDelete, KillInstantly}
use Rattle.fy_kinds.specs.Kinds.{Deed, Striking, Clogging, has, in_either, no_deed}
use Rattle.fy_grants.specs.declared.book.TheConstants.{MOST_GRANTS}
use Rattle.fy_grants.specs.declared.grant.Grant.{Grant}
use Rattle.fy_grants.specs.Rights.{Rights, grants_of, protections_of, grant_count, with_grant, with_protection, no_rights}
use Rattle.fy_grants.specs.Changes.{ProtectedOne}
use Rattle.fy_decide.specs.Safety.{everyone, first_unmet}
use Rattle.std.specs.FinSet as sets
use Rattle.std.specs.Ordering.{nat_cmp}
use Rattle.fy_decide.specs.declared.dead_book.MakeFault.TheVariants.{Unmet, NoMemory}
use Rattle.fy_decide.specs.DeadBook.{IsFresh}
use Rattle.fy_net.specs.Net.{quiet}
use Rattle.fy_team.specs.Teams.{no_teams}
use Rattle.fy_cluster.specs.declared.machine.Machine.{Machine}
use Rattle.fy_cluster.specs.declared.config.Protection.{Protection}
use Rattle.fy_cluster.specs.declared.config.TheConstants.{MOST_JOURNAL_ENTRIES}
use Rattle.fy_cluster.specs.Setup.{Setup, IsMet, IsSetup, is_between}
use Rattle.fy_cluster.specs.Rules.{grants_to, some_protects}
use Rattle.fy_cluster.proofs.Grants.{GivesLists}
use Rattle.fy_cluster.proofs.Records.{Tested}
use Rattle.fy_acts.specs.declared.entry.Entry.{Entry}
use Rattle.fy_disk.specs.Disk.{empty_disk}
use Rattle.fy_cluster.specs.Standing.{Refines, RefinesRights, RefinesJournal}

and_true : (b : Bool) → b ≡ (b && true)
and_true true = refl
and_true false = refl

pub stands_at_start : (c : Setup) (m : Machine) → length c.processes ≤ 1024 → IsFresh c.processes c.policies m.dead → RefinesRights c [] m.book → m.disks ≡ replicate (length c.processes) empty_disk
    → ((p : ℕ) → sets.contains m.up p ≡ nat_lt p (length c.processes)) → m.net ≡ quiet (length c.processes) → m.teams ≡ no_teams → Refines c [] m
stands_at_start c m few fresh rights disks up net teams = record {
  dead = record {
    processes = fresh.processes_are;
    policies = fresh.policies_are;
    few = few;
    destroyed = λ p. ap (λ s. sets.contains s p) fresh.none_destroyed ∙ sets.contains-empty nat_cmp p;
    left = λ p. fresh.all_left p ∙ and_true (nat_lt p (length c.processes));
  };
  rights = rights;
  disks = record {
    count = ap length disks ∙ length-replicate (length c.processes) empty_disk;
    each = λ p l. ap (λ ds. slice_get ds p) disks ∙ slice_get-get_or (replicate (length c.processes) empty_disk) p empty_disk (let n = length-replicate (length c.processes) empty_disk in omega arith) ∙ ap Some (get_or-replicate (length c.processes) p empty_disk empty_disk l);
  };
  up = record { each = λ p l. up p ∙ (let there : nat_lt p (length c.processes) ≡ true = grind (arith, nat_tests) in there) };
  net = rw net (record {
    in_flight = refl;
    sent_so_far = refl;
    clock = refl;
    count = length-replicate (length c.processes) 0;
    ends = λ p l. get_or-replicate {A = ℕ} (length c.processes) p 0 0 l;
    early = λ n l. refl;
    few = omega arith;
  });
  teams = rw teams (record { teams = refl; records = refl; marks = λ r p. refl; acked = λ r. refl });
}

-- ---- no policy is unmet

none_unmet : Tested → (processes : List Locality) (policies : List Tree) (i : ℕ) → AllByRecursion (λ P. IsPolicy P × Sat processes P (everyone processes)) policies → position_from (λ P. not (satisfies processes P (everyone processes))) i policies ≡ None
none_unmet tested processes [] i met = refl
none_unmet tested processes (P ∷ policies) i met = rw ((tested processes P (everyone processes)).1 met.0.1) (none_unmet tested processes policies (i + 1) met.1)

pub all_met : Tested → (c : Setup) → IsMet c → first_unmet c.processes c.policies ≡ None
all_met tested c met = position_from-zero (λ P. not (satisfies c.processes P (everyone c.processes))) c.policies ∙ none_unmet tested c.processes c.policies 0 met

pub not_unmet : (i : ℕ) → Unmet i ≡ NoMemory → ⊥
not_unmet i e = cc

-- ---- the first grants

-- the first so many grants are given
pub record GivenUpTo (old new : Rights) (grants : List Grant) (i : ℕ) : Type 0 where
  pub map : new.processes ≡ old.processes
  pub actors : length new.grants ≡ length old.grants
  pub protections : new.protections ≡ old.protections
  pub count : grant_count new ≡ grant_count old + i
  pub lists : (a : ℕ) → grants_of new a ≡ grants_of old a ++ grants_to a (take i grants)

pub given_next : GivesLists → ((rights : Rights) (grant : Grant) → length (with_grant rights grant).grants ≡ length rights.grants)
    → ((rights : Rights) (grant : Grant) → grant.actor < length rights.grants → grant_count (with_grant rights grant) ≡ grant_count rights + 1)
    → (old new next : Rights) (grants : List Grant) (i : ℕ) (grant : Grant) → i < length grants → grant ≡ get_or grants i grant → grant.actor < length old.grants → next ≡ with_grant new grant
    → GivenUpTo old new grants i → GivenUpTo old next grants (i + 1)
given_next lists actors counted old new next grants i grant within is known given k = rw given (record {
  map = k.map;
  actors = actors new grant ∙ k.actors;
  protections = k.protections;
  count = counted new grant there ∙ (let count = k.count in omega arith);
  lists = λ a. lists new grant a there ∙ ap (λ own. if grant.actor == a then own ++ grant ∷ [] else own) (k.lists a) ∙ at a (grant.actor == a) refl;
})
  where
    there : grant.actor < length new.grants
    there = let same = k.actors in omega arith

    of : ℕ → Grant → Bool
    of a grant = grant.actor == a

    more : (a : ℕ) (b : Bool) → (grant.actor == a) ≡ b → filter (of a) (take (i + 1) grants) ≡ filter (of a) (take i grants) ++ (if b then grant ∷ [] else [])
    more a b e =
        filter_more (of a) grants i grant within
        ∙ ap (λ (g : Grant). filter (of a) (take i grants) ++ (if of a g then g ∷ [] else [])) (sym is)
        ∙ ap (λ t. filter (of a) (take i grants) ++ (if t then grant ∷ [] else [])) e

    at : (a : ℕ) (b : Bool) → (grant.actor == a) ≡ b
        → (if b then (grants_of old a ++ filter (of a) (take i grants)) ++ grant ∷ [] else grants_of old a ++ filter (of a) (take i grants)) ≡ grants_of old a ++ filter (of a) (take (i + 1) grants)
    at a true e = append_assoc (grants_of old a) (filter (of a) (take i grants)) (grant ∷ []) ∙ ap (λ xs. grants_of old a ++ xs) (sym (more a true e))
    at a false e = ap (λ xs. grants_of old a ++ xs) (sym (more a false e ∙ append-nil (filter (of a) (take i grants))))

-- the first so many protections are added
pub record ProtectedUpTo (old new : Rights) (protections : List Protection) (i : ℕ) : Type 0 where
  pub map : new.processes ≡ old.processes
  pub processes : length new.protections ≡ length old.protections
  pub grants : new.grants ≡ old.grants
  pub kinds : (p : ℕ) (deed : Deed) → has (protections_of new p) deed ≡ (some_protects (take i protections) p deed || has (protections_of old p) deed)

or_swapped : (a b c : Bool) → ((a || b) || c) ≡ ((a || c) || b)
or_swapped true b c = refl
or_swapped false true true = refl
or_swapped false true false = refl
or_swapped false false true = refl
or_swapped false false false = refl

or_none : (a : Bool) → a ≡ (a || false)
or_none true = refl
or_none false = refl

pub protected_next : ProtectedOne
    → ((rights : Rights) (p : ℕ) (kinds : KindSet) → length (with_protection rights p kinds).protections ≡ length rights.protections)
    → ((a b : KindSet) (d : Deed) → has (in_either a b) d ≡ (has a d || has b d))
    → (old new next : Rights) (protections : List Protection) (i : ℕ) (it : Protection) → i < length protections → it ≡ get_or protections i it → it.process.0 < length old.protections
    → next ≡ with_protection new it.process.0 (in_either (protections_of new it.process.0) it.kinds)
    → ProtectedUpTo old new protections i → ProtectedUpTo old next protections (i + 1)
protected_next one processes either old new next protections i it within is known added k = rw added (record {
  map = k.map;
  processes = processes new it.process.0 _ ∙ k.processes;
  grants = k.grants;
  kinds = λ p deed. ap (λ kinds. has kinds deed) (one new it.process.0 p (in_either (protections_of new it.process.0) it.kinds) there) ∙ at p deed (it.process.0 == p) refl;
})
  where
    there : it.process.0 < length new.protections
    there = let same = k.processes in omega arith

    of : ℕ → Deed → Protection → Bool
    of p deed it = it.process.0 == p && has it.kinds deed

    more : (p : ℕ) (deed : Deed) (b : Bool) → (it.process.0 == p) ≡ b → (list_any (of p deed) (take i protections) || (b && has it.kinds deed)) ≡ list_any (of p deed) (take (i + 1) protections)
    more p deed b e = sym (
        list_any_more (of p deed) protections i it within
        ∙ ap (λ (j : Protection). list_any (of p deed) (take i protections) || of p deed j) (sym is)
        ∙ ap (λ t. list_any (of p deed) (take i protections) || (t && has it.kinds deed)) e)

    at : (p : ℕ) (deed : Deed) (b : Bool) → (it.process.0 == p) ≡ b
        → has (if b then in_either (protections_of new it.process.0) it.kinds else protections_of new p) deed ≡ (list_any (of p deed) (take (i + 1) protections) || has (protections_of old p) deed)
    at p deed true e =
        either (protections_of new it.process.0) it.kinds deed
        ∙ ap (λ q. has (protections_of new q) deed || has it.kinds deed) (eqb-true it.process.0 p e)
        ∙ ap (λ t. t || has it.kinds deed) (k.kinds p deed)
        ∙ or_swapped (list_any (of p deed) (take i protections)) (has (protections_of old p) deed) (has it.kinds deed)
        ∙ ap (λ t. t || has (protections_of old p) deed) (more p deed true e)
    at p deed false e =
        k.kinds p deed
        ∙ ap (λ t. t || has (protections_of old p) deed) (or_none (list_any (of p deed) (take i protections)) ∙ more p deed false e)

-- ---- the cluster

pub kept_at_start : (c : Setup) (journal : List Entry) (m : Machine) → journal ≡ [] → IsSetup c → Refines c [] m → RefinesJournal c journal m
kept_at_start c journal m none setup stands = rw none (record { setup = setup; legal = (omega arith, tt); stands = stands })

-- ---- the first rights

all_of : {X : Type 0} (p : X → Bool) (xs : List X) → list_all p xs ≡ true → (k : ℕ) (d : X) → k < length xs → p (get_or xs k d) ≡ true
all_of p xs h k d l = go (p (get_or xs k d)) refl
  where
    go : (b : Bool) → p (get_or xs k d) ≡ b → b ≡ true
    go true e = refl
    go false e = absurd (true≢false (sym h ∙ list_all_at p xs k d l e))

-- what is known of a setup's grants and protections
pub record InRange (c : Setup) : Type 0 where
  pub few : length c.grants ≤ MOST_GRANTS
  pub grants : (k : ℕ) (d : Grant) → k < length c.grants → (get_or c.grants k d).actor < length c.roles
  pub protections : (k : ℕ) (d : Protection) → k < length c.protections → (get_or c.protections k d).process.0 < length c.processes

pub in_range : (c : Setup) → IsSetup c → InRange c
in_range c setup =
    let five = (and_parts _ (is_between 1 MOST_JOURNAL_ENTRIES c.limit) setup.in_range).0 in
    let four = and_parts _ (list_all (λ (it : Protection). nat_lt it.process.0 (length c.processes)) c.protections) five in
    let three = and_parts _ (list_all (λ (grant : Grant). nat_lt grant.actor (length c.roles)) c.grants) four.0 in
    let most : nat_le (length c.grants) MOST_GRANTS ≡ true = (and_parts _ (nat_le (length c.grants) MOST_GRANTS) three.0).1 in
    record {
      few = grind (arith, nat_tests);
      grants = λ k d l. below _ _ (all_of (λ (grant : Grant). nat_lt grant.actor (length c.roles)) c.grants three.1 k d l);
      protections = λ k d l. below _ _ (all_of (λ (it : Protection). nat_lt it.process.0 (length c.processes)) c.protections four.1 k d l);
    }
  where
    below : (a b : ℕ) → nat_lt a b ≡ true → a < b
    below a b e = grind (arith, nat_tests)

-- no grants and no protections
always : {A : Type 0} (n i : ℕ) (x : A) → get_or (replicate n x) i x ≡ x
always zero i x = refl
always (suc n) zero x = refl
always (suc n) (suc i) x = always n i x

none_has : (deed : Deed) → has no_deed deed ≡ false
none_has (Striking RebootProcess) = refl
none_has (Striking Reboot) = refl
none_has (Striking RebootAndDelete) = refl
none_has (Striking KillInstantly) = refl
none_has Clogging = refl

module _ (c : Setup) (setup : IsSetup c) (book : Rights) (made : book ≡ no_rights (length c.roles) c.processes) where
  pub for_actors : (k : ℕ) (d : Grant) → k < length c.grants → (get_or c.grants k d).actor < length book.grants
  for_actors k d l = rw made (let n = length-replicate (length c.roles) (let none : List Grant = [] in none) in let a = (in_range c setup).grants k d l in omega arith)

  pub for_processes : (k : ℕ) (d : Protection) → k < length c.protections → (get_or c.protections k d).process.0 < length book.protections
  for_processes k d l = rw made (let n = length-replicate (length c.processes) no_deed in let a = (in_range c setup).protections k d l in omega arith)

  pub first_kept : (given last : Rights) → ((a : ℕ) → grants_of given a ≡ grants_of book a ++ grants_to a c.grants) → length given.grants ≡ length book.grants → given.protections ≡ book.protections → given.processes ≡ book.processes
      → ((p : ℕ) (deed : Deed) → has (protections_of last p) deed ≡ (some_protects c.protections p deed || has (protections_of given p) deed)) → length last.protections ≡ length given.protections → last.grants ≡ given.grants → last.processes ≡ given.processes
      → RefinesRights c [] last
  first_kept given last lists actors same map kinds processes grants last_map = record {
    map = last_map ∙ map ∙ ap (λ (r : Rights). r.processes) made;
    actors = ap length grants ∙ actors ∙ ap (λ (r : Rights). length r.grants) made ∙ length-replicate (length c.roles) (let none : List Grant = [] in none);
    processes = processes ∙ ap length same ∙ ap (λ (r : Rights). length r.protections) made ∙ length-replicate (length c.processes) no_deed;
    grants = λ a. ap (λ gs. get_or gs a []) grants ∙ lists a ∙ ap (λ (r : Rights). grants_of r a ++ grants_to a c.grants) made ∙ ap (λ own. own ++ grants_to a c.grants) (always (length c.roles) a []);
    protections = λ p deed. kinds p deed ∙ ap (λ ps. some_protects c.protections p deed || has (get_or ps p no_deed) deed) (same ∙ ap (λ (r : Rights). r.protections) made) ∙ ap (λ k. some_protects c.protections p deed || has k deed) (always (length c.processes) p no_deed) ∙ ap (λ b. some_protects c.protections p deed || b) (none_has deed) ∙ sym (or_none (some_protects c.protections p deed));
  }
