-- an answer, by what the dead book keeps
use Rattle.std.proofs.Common.{◌≡◌, ◌∙◌, ◌<◌, ◌≤◌, zero, suc, Bool, true, false, cond, ◌&&◌, ◌||◌, not, eqb, ℕ, List, [], ◌∷◌, ◌++◌, ◌+◌, length, drop, get_or, refl, sym, ap, arith}
use Rattle.std.specs.Ordering.{nat_cmp}
use Rattle.std.specs.FinSet as sets
use Rattle.std.specs.Cmp.{nat_cmp_total, unsigned_tied}
use Rattle.std.specs.List.{list_any, flat_map, AllByRecursion}
use Rattle.std.proofs.lemmas.Bool.Decides.{nat_tests}
use Rattle.std.proofs.lemmas.List.{append-nil, append_assoc, drop_all}
use Rattle.std.proofs.Math.Seq.{drop-cons}
use Rattle.fy_decide.specs.declared.dead_book.Loss.{Loss}
use Rattle.fy_decide.specs.declared.dead_book.Loss.TheVariants.{Emptied, Gone}
use Rattle.fy_decide.specs.Safety.{everyone, may_destroy}
use Rattle.fy_decide.specs.DeadBook.{Losses, struck, IsFresh}
use Rattle.fy_judge.specs.declared.line.Ask.{Ask}
use Rattle.fy_judge.specs.declared.answer.Answer.{Answer}
use Rattle.fy_judge.specs.declared.answer.Answer.TheVariants.{Yes, No, WasGone}
use Rattle.fy_judge.specs.JudgeLines.{Input}
use Rattle.fy_judge.specs.JudgeTexts.{destroys_for_good, destroyed_by, gone_by, left_by, answer_of, answers_of, answer_line, granted_after}
use Rattle.fy_judge.specs.JudgeBooks.{RecordsGranted}

any-push : (f : Ask → Bool) (xs : List Ask) (a : Ask) → list_any f (xs ++ a ∷ []) ≡ (list_any f xs || f a)
any-push f [] a = last (f a)
  where
    last : (b : Bool) → (b || false) ≡ b
    last true = refl
    last false = refl
any-push f (x ∷ xs) a = ap (λ b. f x || b) (any-push f xs a) ∙ shift (f x) (list_any f xs) (f a)
  where
    shift : (a b c : Bool) → (a || (b || c)) ≡ ((a || b) || c)
    shift true b c = refl
    shift false b c = refl

turned : (a b : ℕ) → eqb a b ≡ eqb b a
turned a b = grind (arith, nat_tests)

module _ (i : Input) (granted : List Ask) (book : Losses) (a : Ask) (stands : RecordsGranted i granted book) (here : a.process.0 < length i.processes) where
  there : everyone i.processes a.process.0 ≡ true
  there = grind (arith, nat_tests)

  left_is : sets.contains book.left a.process.0 ≡ not (gone_by granted a.process.0)
  left_is = stands.left a.process.0 ∙ ap (λ b. b && not (gone_by granted a.process.0)) there

  pub not_gone : sets.contains book.left a.process.0 ≡ true → gone_by granted a.process.0 ≡ false
  not_gone left = no_of _ (sym left_is ∙ left)
    where
      no_of : (b : Bool) → not b ≡ true → b ≡ false
      no_of true e = absurd (let x : ⊥ = cc in x)
      no_of false e = refl

  module _ (set : sets.FinSet nat_cmp) (one : set ≡ sets.insert sets.empty a.process.0) where
    pub contains-one : (q : ℕ) → sets.contains set q ≡ eqb q a.process.0
    contains-one q =
        ap (λ s. sets.contains s q) one
        ∙ sets.contains-insert nat_cmp_total sets.empty a.process.0 q
        ∙ ap (λ b. b || sets.contains (sets.empty {R = nat_cmp}) q) (unsigned_tied q a.process.0)
        ∙ ap (λ b. eqb q a.process.0 || b) (sets.contains-empty nat_cmp q)
        ∙ plain (eqb q a.process.0)
      where
        plain : (b : Bool) → (b || false) ≡ b
        plain true = refl
        plain false = refl

    -- what the book tests is what the definition tests
    same_test : may_destroy book.processes book.policies (sets.contains book.destroyed) (sets.contains book.left) (sets.contains set) a.loss ≡ may_destroy i.processes i.policies (destroyed_by granted) (left_by i granted) (λ p. eqb p a.process.0) a.loss
    same_test = λ k. may_destroy (stands.processes k) (stands.policies k) (λ p. stands.destroyed p k) (λ p. stands.left p k) (λ p. contains-one p k) a.loss

    answer_when : (may : Bool) → gone_by granted a.process.0 ≡ false → may ≡ may_destroy book.processes book.policies (sets.contains book.destroyed) (sets.contains book.left) (sets.contains set) a.loss → cond may Yes No ≡ answer_of i granted a
    answer_when may there is = sym (ap (λ b. cond b WasGone (cond (may_destroy i.processes i.policies (destroyed_by granted) (left_by i granted) (λ p. eqb p a.process.0) a.loss) Yes No)) there ∙ ap (λ b. cond b Yes No) (sym (is ∙ same_test)))

    pub answer_no : (may : Bool) → sets.contains book.left a.process.0 ≡ true → may ≡ may_destroy book.processes book.policies (sets.contains book.destroyed) (sets.contains book.left) (sets.contains set) a.loss → may ≡ false → No ≡ answer_of i granted a
    answer_no may left is off = sym (ap (λ b. cond b Yes No) off) ∙ answer_when may (not_gone left) is

    pub answer_yes : (may : Bool) → sets.contains book.left a.process.0 ≡ true → may ≡ may_destroy book.processes book.policies (sets.contains book.destroyed) (sets.contains book.left) (sets.contains set) a.loss → may ≡ true → Yes ≡ answer_of i granted a
    answer_yes may left is on = sym (ap (λ b. cond b Yes No) on) ∙ answer_when may (not_gone left) is

    -- the book after the strike
    destroyed_after : (q : ℕ) → sets.contains (sets.union book.destroyed set) q ≡ destroyed_by (granted ++ a ∷ []) q
    destroyed_after q =
        sets.contains-union nat_cmp_total book.destroyed set q
        ∙ ap (λ b. b || sets.contains set q) (stands.destroyed q)
        ∙ ap (λ b. destroyed_by granted q || b) (contains-one q ∙ turned q a.process.0)
        ∙ sym (any-push (λ b. eqb b.process.0 q) granted a)

    gone_after : (loss : Loss) → a.loss ≡ loss → (q : ℕ) → gone_by (granted ++ a ∷ []) q ≡ (gone_by granted q || (destroys_for_good loss && eqb a.process.0 q))
    gone_after loss is q = any-push (λ b. destroys_for_good b.loss && eqb b.process.0 q) granted a ∙ ap (λ l. gone_by granted q || (destroys_for_good l && eqb a.process.0 q)) is

    pub stands_after : RecordsGranted i (granted ++ a ∷ []) (struck book set a.loss)
    stands_after = go a.loss refl
      where
        keep : (e g : Bool) → (e && not g) ≡ (e && not (g || false))
        keep true true = refl
        keep true false = refl
        keep false g = refl

        take_out : (e g b : Bool) → ((e && not g) && not b) ≡ (e && not (g || b))
        take_out true true b = refl
        take_out true false true = refl
        take_out true false false = refl
        take_out false g b = refl

        go : (loss : Loss) → a.loss ≡ loss → RecordsGranted i (granted ++ a ∷ []) (struck book set loss)
        go Emptied is = record {
          processes = stands.processes;
          policies = stands.policies;
          destroyed = destroyed_after;
          left = λ q. stands.left q ∙ keep (everyone i.processes q) (gone_by granted q) ∙ sym (ap (λ b. everyone i.processes q && not b) (gone_after Emptied is q));
        }
        go Gone is = record {
          processes = stands.processes;
          policies = stands.policies;
          destroyed = destroyed_after;
          left = λ q.
              sets.contains-difference nat_cmp_total book.left set q
              ∙ ap (λ b. b && not (sets.contains set q)) (stands.left q)
              ∙ ap (λ b. (everyone i.processes q && not (gone_by granted q)) && not b) (contains-one q ∙ turned q a.process.0)
              ∙ take_out (everyone i.processes q) (gone_by granted q) (eqb a.process.0 q)
              ∙ sym (ap (λ b. everyone i.processes q && not b) (gone_after Gone is q));
        }

-- nobody lost
pub stands_first : (i : Input) (book : Losses) → IsFresh i.processes i.policies book → RecordsGranted i [] book
stands_first i book fresh = record {
  processes = fresh.processes_are;
  policies = fresh.policies_are;
  destroyed = λ p. ap (λ s. sets.contains s p) fresh.none_destroyed ∙ sets.contains-empty nat_cmp p;
  left = λ p. fresh.all_left p ∙ keep (everyone i.processes p);
}
  where
    keep : (e : Bool) → e ≡ (e && true)
    keep true = refl
    keep false = refl

-- ---- the loop over the asks
pub next_answer : (i : Input) (asks : List Ask) (k : ℕ) (a d : Ask) (granted : List Ask) (answer : Answer) (all text : List ℕ) → k < length asks → a ≡ get_or asks k d → answer ≡ answer_of i granted a
    → all ≡ text ++ flat_map answer_line (answers_of i granted (drop k asks)) → all ≡ (text ++ answer_line answer) ++ flat_map answer_line (answers_of i (granted_after granted a answer) (drop (k + 1) asks))
next_answer i asks k a d granted answer all text within at is before =
    before
    ∙ ap (λ later. text ++ flat_map answer_line (answers_of i granted later)) (drop-cons asks k d within ∙ ap (λ b. b ∷ drop (suc k) asks) (sym at))
    ∙ ap (λ r. text ++ (answer_line r ++ flat_map answer_line (answers_of i (granted_after granted a r) (drop (suc k) asks)))) (sym is)
    ∙ sym (append_assoc text (answer_line answer) (flat_map answer_line (answers_of i (granted_after granted a answer) (drop (suc k) asks))))
    ∙ ap (λ j. (text ++ answer_line answer) ++ flat_map answer_line (answers_of i (granted_after granted a answer) (drop j asks))) (let e : suc k ≡ k + 1 = omega arith in e)

pub all_answered : (i : Input) (asks granted : List Ask) (k : ℕ) (all text : List ℕ) → length asks ≤ k → all ≡ text ++ flat_map answer_line (answers_of i granted (drop k asks)) → text ≡ all
all_answered i asks granted k all text past is = sym (is ∙ ap (λ later. text ++ flat_map answer_line (answers_of i granted later)) (drop_all k asks past) ∙ append-nil text)

pub each_there : (n : ℕ) (asks : List Ask) (k : ℕ) (d : Ask) → AllByRecursion (λ a. a.process.0 < n) asks → k < length asks → (get_or asks k d).process.0 < n
each_there n [] k d h within = absurd (omega arith)
each_there n (a ∷ later) zero d h within = h.0
each_there n (a ∷ later) (suc k) d h within = each_there n later k d h.1 (omega arith)

pub nil-append : (xs : List ℕ) → [] ++ xs ≡ xs
nil-append xs = refl
