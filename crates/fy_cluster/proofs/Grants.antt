-- grants and protections change
use Rattle.std.proofs.Common.{◌==◌, ◌≡◌, ℕ, suc, ◌+◌, ◌<◌, ◌≤◌, List, ◌∷◌, [], ◌++◌, Bool, true, false, ◌&&◌, ◌||◌, not, Some, None, refl, sym, ◌∙◌, ap, nat_le, length, fold, arith, if◌then◌else◌, get_or, remove, eqb-true, ◌⊎◌, inl, inr}
use Rattle.std.proofs.lemmas.Bool.Decides.{nat_tests}
use Rattle.std.specs.List.{sum_by, range_with_len}
use Rattle.fy_locality.specs.declared.ProcId.{ProcId}
use Rattle.fy_kinds.specs.declared.kind_set.KindSet.{KindSet}
use Rattle.fy_kinds.specs.Kinds.{Deed, has, in_either, in_first_alone}
use Rattle.fy_grants.specs.declared.book.TheConstants.{MOST_GRANTS}
use Rattle.fy_grants.specs.declared.grant.Grant.{Grant}
use Rattle.fy_grants.specs.declared.book.BookFault.{BookFault}
use Rattle.fy_grants.specs.declared.book.BookFault.TheVariants.{NoActor as NoActorThere, NoSuch as NoneThere, Full as FullBook, NoMemory as NoMemoryLeft}
use Rattle.fy_grants.specs.Rights.{Rights, grants_of, protections_of, give_refusal, take_refusal, with_grant, without_grant, with_protection, grant_count as count_of}
use Rattle.fy_acts.specs.declared.act.Act.TheVariants.{Give, Take, Protect, Unprotect}
use Rattle.fy_acts.specs.declared.reply.Reply.TheVariants.{Done, No}
use Rattle.fy_acts.specs.declared.reply.Refusal.TheVariants.{NoProcess, NoActor, Full, NoSuch}
use Rattle.fy_cluster.specs.declared.machine.Machine.{Machine}
use Rattle.fy_cluster.specs.Setup.{Setup}
use Rattle.fy_cluster.specs.History.{History, Step}
use Rattle.fy_cluster.specs.Rules.{grants, is_protected}
use Rattle.fy_cluster.specs.Replies.{first_refusal_or, refusals, answer, no_process, no_actor, grant_count}
use Rattle.fy_cluster.specs.Standing.{Refines, Point, StepsTo, StepsToOrOom, step_at, RefinesRights, reply_to_fault}
use Rattle.fy_cluster.proofs.Still.{only_rights}
use Rattle.fy_cluster.proofs.Refusals.{refuse}
use Rattle.fy_cluster.proofs.Results.{neither, either}

-- ---- how many grants there are

fold_same : (f : ℕ → ℕ) (lists : List (List Grant)) (acc k : ℕ) → ((i : ℕ) → i < length lists → length (get_or lists i []) ≡ f (k + i))
    → fold (λ a own. a + length own) acc lists ≡ fold (λ a n. a + f n) acc (range_with_len k (length lists))
fold_same f [] acc k w = refl
fold_same f (own ∷ lists) acc k w =
    let first : length own ≡ f k = w 0 (omega arith) ∙ ap f (omega arith) in
    ap (λ n. fold (λ a own. a + length own) (acc + n) lists) first
    ∙ fold_same f lists (acc + f k) (k + 1) (λ i l. w (suc i) (omega arith) ∙ ap f (omega arith))

pub count_same : (c : Setup) (h : History) (rights : Rights) → RefinesRights c h rights → count_of rights ≡ grant_count c h
count_same c h rights k =
    fold_same (λ a. length (grants c h a)) rights.grants 0 0 (λ i l. ap length (k.grants i) ∙ ap (λ a. length (grants c h a)) (let e : i ≡ 0 + i = omega arith in e))
    ∙ ap (λ n. sum_by (λ a. length (grants c h a)) (range_with_len 0 n)) k.actors

or_swap : (a b : Bool) → (a || b) ≡ (b || a)
or_swap true true = refl
or_swap true false = refl
or_swap false true = refl
or_swap false false = refl

and_swap : (a b : Bool) → (a && b) ≡ (b && a)
and_swap true true = refl
and_swap true false = refl
and_swap false true = refl
and_swap false false = refl

past : (c : Setup) (p n : ℕ) → n ≡ length c.processes → n ≤ p → no_process c p ≡ true
past c p n e l = grind (arith, nat_tests)

within : (c : Setup) (p n : ℕ) → n ≡ length c.processes → p < n → no_process c p ≡ false
within c p n e l = grind (arith, nat_tests)

-- ---- give and take

give_reply : (c : Setup) (h : History) (by : ℕ) (grant : Grant) (a b : Bool) → no_actor c grant.actor ≡ a → nat_le MOST_GRANTS (grant_count c h) ≡ b
    → first_refusal_or (refusals c h (Give grant)) (answer c h by (Give grant)) ≡ first_refusal_or ((a, NoActor) ∷ (b, Full) ∷ []) Done
unfolding refusals answer
give_reply c h by grant a b e f = rw (e, f) refl

take_reply : (c : Setup) (h : History) (by actor index : ℕ) (a b : Bool) → no_actor c actor ≡ a → nat_le (length (grants c h actor)) index ≡ b
    → first_refusal_or (refusals c h (Take actor index)) (answer c h by (Take actor index)) ≡ first_refusal_or ((a, NoActor) ∷ (b, NoSuch) ∷ []) Done
unfolding refusals answer
take_reply c h by actor index a b e f = rw (e, f) refl

abbrev pub GivesLists : Type 0
GivesLists = (rights : Rights) (grant : Grant) (a : ℕ) → grant.actor < length rights.grants → grants_of (with_grant rights grant) a ≡ (if grant.actor == a then grants_of rights a ++ grant ∷ [] else grants_of rights a)

abbrev pub TakesLists : Type 0
TakesLists = (rights : Rights) (actor index a : ℕ) → actor < length rights.grants → grants_of (without_grant rights actor index) a ≡ (if actor == a then remove (grants_of rights a) index else grants_of rights a)

given : GivesLists → ((rights : Rights) (grant : Grant) → length (with_grant rights grant).grants ≡ length rights.grants)
    → (point : Point) (grant : Grant) (m : Machine) → Refines point.setup point.before m → nat_le (length m.book.grants) grant.actor ≡ false → nat_le MOST_GRANTS (grant_count point.setup point.before) ≡ false
    → StepsTo point (Give grant) Done (record m { book = with_grant m.book grant })
given lists actors point grant machine k e f = record {
  right = sym (give_reply c h point.by grant false false (ap (λ n. nat_le n grant.actor) (sym k.rights.actors) ∙ e) f);
  stands = only_rights point (Give grant) Done machine (with_grant machine.book grant) refl refl k record {
    map = k.rights.map;
    actors = actors machine.book grant ∙ k.rights.actors;
    processes = k.rights.processes;
    grants = λ a. lists machine.book grant a there ∙ ap (λ own. if grant.actor == a then own ++ grant ∷ [] else own) (k.rights.grants a);
    protections = k.rights.protections;
  };
}
  where
    c : Setup
    c = point.setup

    h : History
    h = point.before

    m : Step
    m = step_at point (Give grant) Done

    there : grant.actor < length machine.book.grants
    there = grind (arith, nat_tests)

-- a grant that is given
pub give_ok : GivesLists → ((rights : Rights) (grant : Grant) → length (with_grant rights grant).grants ≡ length rights.grants)
    → (point : Point) (grant : Grant) (m : Machine) (book : Rights) → Refines point.setup point.before m → give_refusal m.book grant ≡ None → book ≡ with_grant m.book grant
    → StepsTo point (Give grant) Done (record m { book = book })
give_ok lists actors point grant m book k clear is =
    let both = neither (nat_le (length m.book.grants) grant.actor) (nat_le MOST_GRANTS (count_of m.book)) NoActorThere FullBook clear in
    rw is (given lists actors point grant m k both.0 (ap (nat_le MOST_GRANTS) (sym (count_same point.setup point.before m.book k.rights)) ∙ both.1))

-- one that isn't
pub give_err : (point : Point) (grant : Grant) (m : Machine) (book : Rights) (fault : BookFault) → Refines point.setup point.before m
    → (give_refusal m.book grant ≡ Some fault) ⊎ ((give_refusal m.book grant ≡ None) × (fault ≡ NoMemoryLeft)) → book ≡ m.book
    → StepsToOrOom point (Give grant) (reply_to_fault fault) (record m { book = book })
give_err point grant m book fault k (inr out) is = rw (out.1, is) (refl, k)
give_err point grant m book fault k (inl why) is =
    elim (either (nat_le (length m.book.grants) grant.actor) (nat_le MOST_GRANTS (count_of m.book)) NoActorThere FullBook fault why) [
      | inl w ↦ rw (w.1, is) (refuse point (Give grant) NoActor m k (give_reply c h point.by grant true _ (actors ∙ w.0) refl))
      | inr w ↦ rw (w.2, is) (refuse point (Give grant) Full m k (give_reply c h point.by grant false true (actors ∙ w.0) (ap (nat_le MOST_GRANTS) (sym (count_same c h m.book k.rights)) ∙ w.1)))
    ]
  where
    c : Setup
    c = point.setup

    h : History
    h = point.before

    actors : no_actor c grant.actor ≡ nat_le (length m.book.grants) grant.actor
    actors = ap (λ n. nat_le n grant.actor) (sym k.rights.actors)

-- ---- take

taken : TakesLists → ((rights : Rights) (actor index : ℕ) → length (without_grant rights actor index).grants ≡ length rights.grants)
    → (point : Point) (actor index : ℕ) (m : Machine) → Refines point.setup point.before m → nat_le (length m.book.grants) actor ≡ false → nat_le (length (grants_of m.book actor)) index ≡ false
    → StepsTo point (Take actor index) Done (record m { book = without_grant m.book actor index })
taken lists actors point actor index machine k e f = record {
  right = sym (take_reply c h point.by actor index false false (ap (λ n. nat_le n actor) (sym k.rights.actors) ∙ e) (ap (λ own. nat_le (length own) index) (sym (k.rights.grants actor)) ∙ f));
  stands = only_rights point (Take actor index) Done machine (without_grant machine.book actor index) refl refl k record {
    map = k.rights.map;
    actors = actors machine.book actor index ∙ k.rights.actors;
    processes = k.rights.processes;
    grants = λ a. lists machine.book actor index a there ∙ ap (λ own. if actor == a then remove own index else own) (k.rights.grants a);
    protections = k.rights.protections;
  };
}
  where
    c : Setup
    c = point.setup

    h : History
    h = point.before

    m : Step
    m = step_at point (Take actor index) Done

    there : actor < length machine.book.grants
    there = grind (arith, nat_tests)

-- a grant that is taken
pub take_ok : TakesLists → ((rights : Rights) (actor index : ℕ) → length (without_grant rights actor index).grants ≡ length rights.grants)
    → (point : Point) (actor index : ℕ) (m : Machine) (book : Rights) → Refines point.setup point.before m → take_refusal m.book actor index ≡ None → book ≡ without_grant m.book actor index
    → StepsTo point (Take actor index) Done (record m { book = book })
take_ok lists actors point actor index m book k clear is =
    let both = neither (nat_le (length m.book.grants) actor) (nat_le (length (grants_of m.book actor)) index) NoActorThere NoneThere clear in
    rw is (taken lists actors point actor index m k both.0 both.1)

-- one that isn't
pub take_err : (point : Point) (actor index : ℕ) (m : Machine) (book : Rights) (fault : BookFault) → Refines point.setup point.before m
    → take_refusal m.book actor index ≡ Some fault → book ≡ m.book → StepsToOrOom point (Take actor index) (reply_to_fault fault) (record m { book = book })
take_err point actor index m book fault k why is =
    elim (either (nat_le (length m.book.grants) actor) (nat_le (length (grants_of m.book actor)) index) NoActorThere NoneThere fault why) [
      | inl w ↦ rw (w.1, is) (refuse point (Take actor index) NoActor m k (take_reply c h point.by actor index true _ (actors ∙ w.0) refl))
      | inr w ↦ rw (w.2, is) (refuse point (Take actor index) NoSuch m k (take_reply c h point.by actor index false true (actors ∙ w.0) (ap (λ own. nat_le (length own) index) (sym (k.rights.grants actor)) ∙ w.1)))
    ]
  where
    c : Setup
    c = point.setup

    h : History
    h = point.before

    actors : no_actor c actor ≡ nat_le (length m.book.grants) actor
    actors = ap (λ n. nat_le n actor) (sym k.rights.actors)

-- ---- protections

protect_reply : (c : Setup) (h : History) (by : ℕ) (p : ProcId) (kinds : KindSet) (a : Bool) → no_process c p.0 ≡ a
    → first_refusal_or (refusals c h (Protect p kinds)) (answer c h by (Protect p kinds)) ≡ first_refusal_or ((a, NoProcess) ∷ []) Done
unfolding refusals answer
protect_reply c h by p kinds a e = rw e refl

unprotect_reply : (c : Setup) (h : History) (by : ℕ) (p : ProcId) (kinds : KindSet) (a : Bool) → no_process c p.0 ≡ a
    → first_refusal_or (refusals c h (Unprotect p kinds)) (answer c h by (Unprotect p kinds)) ≡ first_refusal_or ((a, NoProcess) ∷ []) Done
unfolding refusals answer
unprotect_reply c h by p kinds a e = rw e refl

pub protect_nobody : (point : Point) (p : ProcId) (kinds : KindSet) (m : Machine) → Refines point.setup point.before m → length m.book.protections ≤ p.0 → StepsTo point (Protect p kinds) (No NoProcess) m
protect_nobody point p kinds m k l = refuse point (Protect p kinds) NoProcess m k (protect_reply point.setup point.before point.by p kinds true (past point.setup p.0 (length m.book.protections) k.rights.processes l))

pub unprotect_nobody : (point : Point) (p : ProcId) (kinds : KindSet) (m : Machine) → Refines point.setup point.before m → length m.book.protections ≤ p.0 → StepsTo point (Unprotect p kinds) (No NoProcess) m
unprotect_nobody point p kinds m k l = refuse point (Unprotect p kinds) NoProcess m k (unprotect_reply point.setup point.before point.by p kinds true (past point.setup p.0 (length m.book.protections) k.rights.processes l))

abbrev pub ChangesOne : Type 0
ChangesOne = (rights : Rights) (p q : ℕ) (kinds : KindSet) → p < length rights.protections → protections_of (with_protection rights p kinds) q ≡ (if p == q then kinds else protections_of rights q)

abbrev pub KeepsCount : Type 0
KeepsCount = (rights : Rights) (p : ℕ) (kinds : KindSet) → length (with_protection rights p kinds).protections ≡ length rights.protections

pub protected : ChangesOne → KeepsCount → ((a b : KindSet) (d : Deed) → has (in_either a b) d ≡ (has a d || has b d))
    → (point : Point) (p : ProcId) (kinds : KindSet) (m : Machine) (book : Rights) → Refines point.setup point.before m → p.0 < length m.book.protections
    → book ≡ with_protection m.book p.0 (in_either (protections_of m.book p.0) kinds) → StepsTo point (Protect p kinds) Done (record m { book = book })
protected one count together point p kinds machine book k l is = rw is (record {
  right = sym (protect_reply c h point.by p kinds false (within c p.0 (length machine.book.protections) k.rights.processes l));
  stands = only_rights point (Protect p kinds) Done machine (with_protection machine.book p.0 (in_either (protections_of machine.book p.0) kinds)) refl refl k record {
    map = k.rights.map;
    actors = k.rights.actors;
    processes = count machine.book p.0 _ ∙ k.rights.processes;
    grants = k.rights.grants;
    protections = λ q deed. ap (λ ks. has ks deed) (one machine.book p.0 q _ l) ∙ at q deed (p.0 == q) refl;
  };
})
  where
    c : Setup
    c = point.setup

    h : History
    h = point.before

    m : Step
    m = step_at point (Protect p kinds) Done

    at : (q : ℕ) (deed : Deed) (b : Bool) → (p.0 == q) ≡ b → has (if b then in_either (protections_of machine.book p.0) kinds else protections_of machine.book q) deed ≡ (b && has kinds deed || is_protected c h q deed)
    at q deed true e =
        let same : p.0 ≡ q = eqb-true p.0 q e in
        together (protections_of machine.book p.0) kinds deed ∙ ap (λ b. b || has kinds deed) (k.rights.protections p.0 deed ∙ ap (λ q. is_protected c h q deed) same) ∙ or_swap (is_protected c h q deed) (has kinds deed)
    at q deed false e = k.rights.protections q deed

pub unprotected : ChangesOne → KeepsCount → ((a b : KindSet) (d : Deed) → has (in_first_alone a b) d ≡ (has a d && not (has b d)))
    → (point : Point) (p : ProcId) (kinds : KindSet) (m : Machine) (book : Rights) → Refines point.setup point.before m → p.0 < length m.book.protections
    → book ≡ with_protection m.book p.0 (in_first_alone (protections_of m.book p.0) kinds) → StepsTo point (Unprotect p kinds) Done (record m { book = book })
unprotected one count apart point p kinds machine book k l is = rw is (record {
  right = sym (unprotect_reply c h point.by p kinds false (within c p.0 (length machine.book.protections) k.rights.processes l));
  stands = only_rights point (Unprotect p kinds) Done machine (with_protection machine.book p.0 (in_first_alone (protections_of machine.book p.0) kinds)) refl refl k record {
    map = k.rights.map;
    actors = k.rights.actors;
    processes = count machine.book p.0 _ ∙ k.rights.processes;
    grants = k.rights.grants;
    protections = λ q deed. ap (λ ks. has ks deed) (one machine.book p.0 q _ l) ∙ at q deed (p.0 == q) refl;
  };
})
  where
    c : Setup
    c = point.setup

    h : History
    h = point.before

    m : Step
    m = step_at point (Unprotect p kinds) Done

    at : (q : ℕ) (deed : Deed) (b : Bool) → (p.0 == q) ≡ b → has (if b then in_first_alone (protections_of machine.book p.0) kinds else protections_of machine.book q) deed ≡ (not (b && has kinds deed) && is_protected c h q deed)
    at q deed true e =
        let same : p.0 ≡ q = eqb-true p.0 q e in
        apart (protections_of machine.book p.0) kinds deed ∙ ap (λ b. b && not (has kinds deed)) (k.rights.protections p.0 deed ∙ ap (λ q. is_protected c h q deed) same) ∙ and_swap (is_protected c h q deed) (not (has kinds deed))
    at q deed false e = k.rights.protections q deed
