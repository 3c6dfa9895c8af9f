-- the least process of a set that passes a test, from sets of processes
use Rattle.std.proofs.Common.{true≢false, replicate, ◌==◌, eqb-true, ◌≡◌, ℕ, zero, suc, ◌+◌, ◌<◌, ◌≤◌, Bool, true, false, ◌&&◌, ◌||◌, not, cond, Option, Some, None, List, get_or, take, length, refl, sym, ap, ◌∙◌, arith, inl, inr}
use Rattle.std.specs.Prelude.{◌↔◌, IfSome, IfNone, slice_index_or, slice_set}
use Rattle.std.specs.Option.{option_map}
use Rattle.std.specs.List.{find, range_with_len}
use Rattle.std.specs.Ordering.{nat_cmp}
use Rattle.std.specs.FinSet as sets
use Rattle.std.specs.Cmp.{nat_cmp_total, unsigned_tied}
use Rattle.std.proofs.lemmas.Bool.{cases_lt}
use Rattle.std.proofs.lemmas.Bool.Decides.{nat_tests}
use Rattle.std.proofs.lemmas.List.{length-set, length-replicate, get_or-set_other}
use Rattle.std.proofs.lemmas.List.Folds.{list_any_more}
use Rattle.fy_locality.specs.declared.ProcId.{ProcId}
use Rattle.fy_locality.specs.declared.locality.Locality.{Locality}
use Rattle.fy_locality.specs.Members.{IsLeast}
use Rattle.fy_kinds.specs.declared.kind_set.KindSet.{KindSet}
use Rattle.fy_kinds.specs.Kinds.{no_deed, has_all, has_some}
use Rattle.fy_grants.specs.declared.grant.Grant.{Grant}
use Rattle.fy_grants.specs.Least.{LeastWith, least_with}
use Rattle.fy_grants.specs.Protections.{AreNoted}
use Rattle.fy_grants.specs.Rights.{is_in_scope, is_covered}

pub and_true : (b : Bool) → b ≡ (b && true)
and_true true = refl
and_true false = refl

pub and_false : (b : Bool) → false ≡ (b && false)
and_false true = refl
and_false false = refl

both_true : (a b : Bool) → (a && b) ≡ true → (a ≡ true) × (b ≡ true)
both_true true b e = (refl, e)
both_true false b e = absurd (let x : ⊥ = cc in x)

second_false : (a b : Bool) → (a && b) ≡ false → a ≡ true → b ≡ false
second_false true b e h = e
second_false false b e h = absurd (let x : ⊥ = cc in x)

not_both : (a b : Bool) → (a ≡ true → b ≡ false) → (a && b) ≡ false
not_both true b f = f refl
not_both false b f = refl

-- ---- grants

-- a set without those that a second one holds by a test
pub left_out : (s t : sets.FinSet nat_cmp) (q : ℕ) (b : Bool) → sets.contains t q ≡ b → sets.contains (sets.difference s t) q ≡ (sets.contains s q && not b)
left_out s t q b e = sets.contains-difference nat_cmp_total s t q ∙ ap (λ x. sets.contains s q && not x) e

pub asked : (a h b : Bool) → h ≡ true → (a && not b) ≡ (a && not (h && b))
asked a h b e = ap (λ x. a && not (x && b)) (sym e)

pub unasked : (a h b : Bool) → h ≡ false → a ≡ (a && not (h && b))
unasked a h b e = and_true a ∙ ap (λ x. a && not (x && b)) (sym e)

-- two tests that take out, one after the other
pub out_by_either : (a b c : Bool) → ((a && not b) && not c) ≡ (a && not (b || c))
out_by_either false b c = refl
out_by_either true true c = refl
out_by_either true false c = refl

-- one more grant of a list
pub covered_more : (processes : List Locality) (grants : List Grant) (kinds : KindSet) (q i : ℕ) (grant : Grant) → i < length grants → grant ≡ get_or grants i grant → (is_covered processes (take i grants) kinds q || (has_all grant.kinds kinds && is_in_scope processes grant.scope q)) ≡ is_covered processes (take (i + 1) grants) kinds q
covered_more processes grants kinds q i grant within is =
    ap (λ g. is_covered processes (take i grants) kinds q || (has_all g.kinds kinds && is_in_scope processes g.scope q)) is
    ∙ sym (list_any_more (λ g. has_all g.kinds kinds && is_in_scope processes g.scope q) grants i grant within)

-- the least of a set that has those of another one that pass
pub least_left : (s left : sets.FinSet nat_cmp) (test : ℕ → Bool) → ((q : ℕ) → sets.contains left q ≡ (sets.contains s q && test q)) → (found : Option ProcId) → IfSome found (λ p. IsLeast left p.0) → IfNone found (left ≡ sets.empty) → LeastWith (sets.contains s) test found
least_left s left test is None some none = λ q member. second_false _ _ (sym (is q) ∙ ap (λ t. sets.contains t q) none ∙ sets.contains-empty nat_cmp q) member
least_left s left test is (Some p) some none =
    let present = both_true _ _ (sym (is p.0) ∙ some.present) in
    record {
      member = present.0;
      passes = present.1;
      none_below = λ q below member. second_false _ _ (sym (is q) ∙ some.none_below q below) member;
    }

-- ---- protections

-- whether process q is protected, by the sets of kinds of all processes
abbrev pub shielded : List KindSet → KindSet → ℕ → Bool
shielded protections kinds q = has_some (slice_index_or protections q no_deed) kinds

-- the rest is of the set, and no member that isn't in the rest passes a test
pub record PassedOver (s rest : sets.FinSet nat_cmp) (test : ℕ → Bool) : Type 0 where
  pub within : (q : ℕ) → sets.contains rest q ≡ true → sets.contains s q ≡ true
  pub none_passes : (q : ℕ) → sets.contains s q ≡ true → sets.contains rest q ≡ false → test q ≡ false

-- one more member that doesn't pass
pub passed_over : {s rest next : sets.FinSet nat_cmp} {test : ℕ → Bool} {p : ℕ} → PassedOver s rest test → next ≡ sets.remove rest p → test p ≡ false → PassedOver s next test
passed_over {s} {rest} {next} {test} {p} before is fails = record {
  within = λ q left. before.within q (both_true (not (q == p)) _ (sym (without q) ∙ left)).1;
  none_passes = λ q member gone. at q member (q == p) refl (sym (without q) ∙ gone);
}
  where
    without : (q : ℕ) → sets.contains next q ≡ (not (q == p) && sets.contains rest q)
    without q = ap (λ t. sets.contains t q) is ∙ sets.contains-remove nat_cmp_total rest p q ∙ ap (λ b. not b && sets.contains rest q) (unsigned_tied q p)

    at : (q : ℕ) → sets.contains s q ≡ true → (b : Bool) → (q == p) ≡ b → (not b && sets.contains rest q) ≡ false → test q ≡ false
    at q member true same gone = ap test (eqb-true q p same) ∙ fails
    at q member false other gone = before.none_passes q member gone

-- those of a set that aren't noted pass no test of protection
pub noted_alone : (s noted : sets.FinSet nat_cmp) (protections : List KindSet) (kinds : KindSet) → AreNoted protections noted → PassedOver s (sets.intersection s noted) (shielded protections kinds)
noted_alone s noted protections kinds are = record {
  within = λ q both. (both_true _ _ (sym (sets.contains-intersection nat_cmp_total s noted q) ∙ both)).0;
  none_passes = λ q member gone. are.others q kinds (second_false _ _ (sym (sets.contains-intersection nat_cmp_total s noted q) ∙ gone) member);
}

-- a process that is noted may be protected from anything
pub noted_more : (protections : List KindSet) (noted : sets.FinSet nat_cmp) (p : ℕ) (kinds : KindSet) → AreNoted protections noted → AreNoted (slice_set protections p kinds) (sets.insert noted p)
noted_more protections noted p kinds are = record {
  few = omega (arith, are.few, length-set protections p kinds);
  others = λ q asked out.
      let out-either : ((q == p) || sets.contains noted q) ≡ false = sym (sets.contains-insert nat_cmp_total noted p q ∙ ap (λ b. b || sets.contains noted q) (unsigned_tied q p)) ∙ out in
      let apart = neither (q == p) _ out-either in
      ap (λ own. has_some own asked) (get_or-set_other protections p q kinds no_deed (λ same. true≢false (sym (eqb-refl_of q p same) ∙ apart.0))) ∙ are.others q asked apart.1;
}
  where
    neither : (a b : Bool) → (a || b) ≡ false → (a ≡ false) × (b ≡ false)
    neither false b e = (refl, e)
    neither true b e = absurd (let x : ⊥ = cc in x)

    eqb-refl_of : (q p : ℕ) → q ≡ p → (q == p) ≡ true
    eqb-refl_of q p same = grind (arith, nat_tests)

none_noted : (n p : ℕ) → slice_index_or (replicate n no_deed) p no_deed ≡ no_deed
none_noted zero p = refl
none_noted (suc n) zero = refl
none_noted (suc n) (suc p) = none_noted n p

none_more : (a rest : Bool) → rest ≡ false → (a && false || rest) ≡ false
none_more true rest e = e
none_more false rest e = e

has_none : (kinds : KindSet) → has_some no_deed kinds ≡ false
has_none kinds = none_more kinds.reboot_process _ (none_more kinds.reboot _ (none_more kinds.reboot_and_delete _ (none_more kinds.kill_instantly _ (none_more kinds.clog _ refl))))

pub noted_none : (n : ℕ) (protections : List KindSet) → n ≤ 1024 → protections ≡ replicate n no_deed → AreNoted protections sets.empty
noted_none n protections few is = record {
  few = let e : length protections ≡ n = ap length is ∙ length-replicate n no_deed in omega arith;
  others = λ p kinds out. ap (λ own. has_some own kinds) (ap (λ all. slice_index_or all p no_deed) is ∙ none_noted n p) ∙ has_none kinds;
}

-- ---- the least as the first that is found

none_found : (p : ℕ → Bool) (a n : ℕ) → ((q : ℕ) → p q ≡ false) → find p (range_with_len a n) ≡ None
none_found p a zero none = refl
none_found p a (suc n) none = ap (λ b. cond b (Some a) (find p (range_with_len (a + 1) n))) (none a) ∙ none_found p (a + 1) n none

first_found : (p : ℕ → Bool) (a n x : ℕ) → a ≤ x → x < a + n → p x ≡ true → ((q : ℕ) → q < x → p q ≡ false) → find p (range_with_len a n) ≡ Some x
first_found p a zero x low high here before = absurd (let none : ⊥ = omega arith in none)
first_found p a (suc n) x low high here before =
    elim (cases_lt a x) [
      | inl lt ↦ ap (λ b. cond b (Some a) (find p (range_with_len (a + 1) n))) (before a lt) ∙ first_found p (a + 1) n x (omega arith) (omega arith) here before
      | inr ge ↦ let same : a ≡ x = omega arith in ap (λ b. cond b (Some a) (find p (range_with_len (a + 1) n))) (ap p same ∙ here) ∙ ap Some same
    ]

found_none : (p : ℕ → Bool) (a n : ℕ) → find p (range_with_len a n) ≡ None → (q : ℕ) → a ≤ q → q < a + n → p q ≡ false
found_none p a zero e q low high = absurd (let none : ⊥ = omega (arith, low, high) in none)
found_none p a (suc n) e q low high = at (λ f l. found_none p (a + 1) n f q (omega (arith, l)) (omega (arith, high))) (p a) refl e
  where
    at : (find p (range_with_len (a + 1) n) ≡ None → a < q → p q ≡ false) → (b : Bool) → p a ≡ b → cond b (Some a) (find p (range_with_len (a + 1) n)) ≡ None → p q ≡ false
    at rest true h f = absurd (let none : ⊥ = cc in none)
    at rest false h f = elim (cases_lt a q) [ inl l ↦ rest f l | inr g ↦ let same : a ≡ q = omega (arith, low, g) in ap p (sym same) ∙ h ]

found_some : (p : ℕ → Bool) (a n x : ℕ) → find p (range_with_len a n) ≡ Some x → (p x ≡ true) × ((q : ℕ) → a ≤ q → q < x → p q ≡ false)
found_some p a zero x e = absurd (let none : ⊥ = cc in none)
found_some p a (suc n) x e = at (found_some p (a + 1) n x) (p a) refl e
  where
    at : (find p (range_with_len (a + 1) n) ≡ Some x → (p x ≡ true) × ((q : ℕ) → a + 1 ≤ q → q < x → p q ≡ false)) → (b : Bool) → p a ≡ b → cond b (Some a) (find p (range_with_len (a + 1) n)) ≡ Some x → (p x ≡ true) × ((q : ℕ) → a ≤ q → q < x → p q ≡ false)
    at rest true h f = let same : a ≡ x = cc in (ap p (sym same) ∙ h, λ q low below. absurd (let none : ⊥ = omega (arith, same, low, below) in none))
    at rest false h f = ((rest f).0, λ q low below. elim (cases_lt a q) [ inl l ↦ (rest f).1 q (omega (arith, l)) below | inr g ↦ let same : a ≡ q = omega (arith, low, g) in ap p (sym same) ∙ h ])

least_found : (count : ℕ) (set test : ℕ → Bool) (found : Option ProcId) → ((q : ℕ) → set q ≡ true → q < count) → LeastWith set test found → option_map (λ p. p.0) found ≡ least_with count set test
least_found count set test None small none = sym (none_found _ 0 count (λ q. not_both (set q) (test q) (none q)))
least_found count set test (Some p) small least =
    sym (first_found _ 0 count p.0 (omega arith) (omega (arith, small p.0 least.member)) (ap (λ b. b && test p.0) least.member ∙ least.passes) (λ q below. not_both (set q) (test q) (least.none_below q below)))

found_least : (count : ℕ) (set test : ℕ → Bool) (found : Option ProcId) → ((q : ℕ) → set q ≡ true → q < count) → option_map (λ p. p.0) found ≡ least_with count set test → LeastWith set test found
found_least count set test None small e = λ q member. second_false (set q) (test q) (found_none (λ q. set q && test q) 0 count (sym e) q (omega arith) (omega (arith, small q member))) member
found_least count set test (Some p) small e =
    let is = found_some (λ q. set q && test q) 0 count p.0 (sym e) in
    let both = both_true (set p.0) (test p.0) is.0 in
    record { member = both.0; passes = both.1; none_below = λ q below member. second_false (set q) (test q) (is.1 q (omega arith) below) member }

pub least_is_found : (count : ℕ) (set test : ℕ → Bool) (found : Option ProcId) → ((q : ℕ) → set q ≡ true → q < count) → LeastWith set test found ↔ (option_map (λ p. p.0) found ≡ least_with count set test)
least_is_found count set test found small = (least_found count set test found small, found_least count set test found small)
