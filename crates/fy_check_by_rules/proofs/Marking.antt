-- marks after one step more
use Rattle.std.proofs.Common.{◌≡◌, ℕ, ◌+◌, ◌<◌, ◌==◌, Bool, true, false, ◌||◌, ◌&&◌, List, [], length, take, get_or, refl, sym, ◌∙◌, ap, ap₂, arith}
use Rattle.std.specs.List.{list_all}
use Rattle.std.proofs.lemmas.Bool.Decides.{nat_tests}
use Rattle.fy_locality.specs.declared.ProcId.{ProcId}
use Rattle.fy_team.specs.Teams.{is_among}
use Rattle.fy_cluster.specs.History.{History, delivers_ack_of, marked_after, marked, acked, members_for}
use Rattle.fy_cluster.specs.Replies.{is_acked_with}
use Rattle.fy_check_by_rules.specs.declared.step.FoundStep.{FoundStep}
use Rattle.fy_check_by_rules.specs.Past.{as_step, past}
use Rattle.fy_check_by_rules.proofs.Pasts.{past_next}

pub marked_next : (steps : List FoundStep) (i : ℕ) (s : FoundStep) (rec : ℕ) (old new : List ProcId) (was : Bool) → i < length steps → s ≡ get_or steps i s → was ≡ acked (past (take i steps)) rec
    → ((p : ℕ) → is_among old p ≡ marked (past (take i steps)) rec p) → ((p : ℕ) → is_among new p ≡ marked_after (as_step [] s) rec p was (is_among old p))
    → (p : ℕ) → is_among new p ≡ marked (past (take (i + 1) steps)) rec p
marked_next steps i s rec old new was l is was_is old_is new_is p =
    new_is p ∙ ap₂ (marked_after (as_step [] s) rec p) was_is (old_is p) ∙ sym (ap (λ h. marked h rec p) (past_next steps i s l is))

pub acked_next : (steps : List FoundStep) (i : ℕ) (s : FoundStep) (rec : ℕ) (old new members : List ProcId) (was now : Bool) → i < length steps → s ≡ get_or steps i s → members ≡ members_for (past (take i steps)) rec → was ≡ acked (past (take i steps)) rec
    → ((p : ℕ) → is_among old p ≡ marked (past (take i steps)) rec p) → ((p : ℕ) → is_among new p ≡ marked_after (as_step [] s) rec p was (is_among old p))
    → now ≡ (was || delivers_ack_of (as_step [] s) rec && list_all (λ p. is_among new p.0) members)
    → now ≡ acked (past (take (i + 1) steps)) rec
acked_next steps i s rec old new members was now l is members_are was_is old_is new_is now_is =
    let h = past (take i steps) in
    let each : (p : ℕ) → is_among new p ≡ marked_after (as_step h s) rec p (acked h rec) (marked h rec p) = λ p. new_is p ∙ ap₂ (marked_after (as_step [] s) rec p) was_is (old_is p) in
    now_is ∙ ap₂ (λ a b. a || delivers_ack_of (as_step [] s) rec && b) was_is (ap₂ list_all (λ j (p : ProcId). each p.0 j) members_are) ∙ sym (ap (λ x. acked x rec) (past_next steps i s l is))

-- ---- what an acknowledgement would make of its record

eq_self : (a : ℕ) → (a == a) ≡ true
eq_self a = grind (arith, nat_tests)

eq_swap : (a b : ℕ) → (a == b) ≡ (b == a)
eq_swap a b = grind (arith, nat_tests)

or_swap : (a b : Bool) → (a || b) ≡ (b || a)
or_swap true true = refl
or_swap true false = refl
or_swap false true = refl
or_swap false false = refl

-- a record is acknowledged with a process's acknowledgement where it was, or where every member has
-- a mark or is the process
pub acked_with : (h : History) (r p : ℕ) → (acked h r || list_all (λ q. marked h r q.0 || q.0 == p) (members_for h r)) ≡ is_acked_with h r p
acked_with h r p =
    let own : (q : ProcId) → (marked h r q.0 || q.0 == p) ≡ (r == r && p == q.0 || marked h r q.0) =
    λ q. or_swap (marked h r q.0) (q.0 == p) ∙ ap₂ (λ a b. a && b || marked h r q.0) (sym (eq_self r)) (eq_swap q.0 p) in
    ap₂ (λ (a : Bool) (f : ProcId → Bool). acked h r || a && list_all f (members_for h r)) (sym (eq_self r)) (λ j q. own q j)
