-- turns that are noted for one process after another
use Rattle.std.proofs.Common.{◌≡◌, ◌<◌, ◌≤◌, ◌∙◌, ℕ, zero, suc, ◌+◌, ◌-◌, ◌&&◌, not, ◌==◌, Bool, true, false, true≢false, cond, length-append, List, [], ◌∷◌, ◌++◌, length, set, refl, sym, ap, subst, arith, Global, Vec}
use Rattle.std.specs.Prelude.{Option, Some, None, IfNone, option_map, slice_get}
use Rattle.std.specs.Ordering.{nat_cmp}
use Rattle.std.specs.FinSet as sets
use Rattle.std.specs.Cmp.{nat_cmp_total, unsigned_tied}
use Rattle.std.proofs.lemmas.Bool.Decides.{nat_tests}
use Rattle.std.proofs.lemmas.Bool.{both_ways}
use Rattle.std.proofs.lemmas.List.{length-set}
use Rattle.std.proofs.lemmas.Option.{slice_get_past}
use Rattle.fy_locality.specs.declared.ProcId.{ProcId}
use Rattle.fy_holders.specs.Turns.{with_turn, WithTurns, AreEmpty}

-- a set with one process less
remove_has : (s : sets.FinSet nat_cmp) (p q : ℕ) → sets.contains (sets.remove s p) q ≡ (not (q == p) && sets.contains s q)
remove_has s p q = sets.contains-remove nat_cmp_total s p q ∙ ap (λ b. not b && sets.contains s q) (unsigned_tied q p)

pub len-smaller : (s : sets.FinSet nat_cmp) (p : ℕ) → sets.contains s p ≡ true → sets.len (sets.remove s p) < sets.len s
len-smaller s p there = less _ _ (sets.len-remove nat_cmp_total s p ∙ ap (λ b. cond b (sets.len s - 1) (sets.len s)) there) (λ none. true≢false (sym there ∙ ap (λ t. sets.contains t p) (sets.empty_of_len s none) ∙ sets.contains-empty nat_cmp p))
  where
    less : (m n : ℕ) → m ≡ n - 1 → (n ≡ 0 → ⊥) → m < n
    less m zero e ne = absurd (ne refl)
    less m (suc n) e ne = omega arith

pub no_least : (o : Option ProcId) (s : sets.FinSet nat_cmp) → IfNone o (s ≡ sets.empty) → ((p : ProcId) → o ≡ Some p → ⊥) → s ≡ sets.empty
no_least None s none not = none
no_least (Some p) s none not = absurd (not p refl)

-- the items of a process's turns
abbrev items_at : List (Vec ℕ Global) → ℕ → Option (List ℕ)
items_at turns p = option_map (λ (list : Vec ℕ Global). list.items) (slice_get turns p)

abbrev with_turn_at : Bool → (position : ℕ) → List (Vec ℕ Global) → ℕ → Option (List ℕ)
with_turn_at turns_here position old p = option_map (λ (list : Vec ℕ Global). with_turn turns_here position list.items) (slice_get old p)

-- of a set, those outside the rest have a turn more
pub record AreNotedBut (turned rest : sets.FinSet nat_cmp) (position : ℕ) (old new : List (Vec ℕ Global)) : Type 0 where
  pub count : length new ≡ length old
  pub within : (p : ℕ) → sets.contains rest p ≡ true → sets.contains turned p ≡ true
  pub each : (p : ℕ) → items_at new p ≡ with_turn_at (sets.contains turned p && not (sets.contains rest p)) position old p

-- ---- no turns

pub empty_none : (turns : List (Vec ℕ Global)) → turns ≡ [] → AreEmpty 0 turns
empty_none turns e = record {
  count_is = ap length e;
  each = λ p list there. absurd (none p list (subst (λ (xs : List (Vec ℕ Global)). slice_get xs p ≡ Some list) e there));
}
  where
    none : (p : ℕ) (list : Vec ℕ Global) → slice_get {X = Vec ℕ Global} [] p ≡ Some list → ⊥
    none p list there = cc

pub empty_more : (n : ℕ) (turns new : List (Vec ℕ Global)) (list : Vec ℕ Global) → list.items ≡ [] → new ≡ turns ++ list ∷ [] → AreEmpty n turns → AreEmpty (n + 1) new
empty_more n turns new list none e are = subst (AreEmpty (n + 1)) (sym e) (record {
  count_is = let c = are.count_is in let l = length-append turns (list ∷ []) in omega arith;
  each = each turns are.each;
})
  where
    each : (xs : List (Vec ℕ Global)) → ((p : ℕ) (other : Vec ℕ Global) → slice_get xs p ≡ Some other → other.items ≡ []) → (p : ℕ) (other : Vec ℕ Global) → slice_get (xs ++ list ∷ []) p ≡ Some other → other.items ≡ []
    each [] all zero other there = let same : list ≡ other = cc in subst (λ (v : Vec ℕ Global). v.items ≡ []) same none
    each [] all (suc p) other there = absurd (cc)
    each (x ∷ xs) all zero other there = all zero other there
    each (x ∷ xs) all (suc p) other there = each xs (λ q v. all (suc q) v) p other there

-- ---- one process after another

pub notes_none : (turned : sets.FinSet nat_cmp) (position : ℕ) (turns : List (Vec ℕ Global)) → AreNotedBut turned turned position turns turns
notes_none turned position turns = record {
  count = refl;
  within = λ p there. there;
  each = λ p. same (slice_get turns p) (sets.contains turned p);
}
  where
    same : (o : Option (Vec ℕ Global)) (b : Bool) → option_map (λ (list : Vec ℕ Global). list.items) o ≡ option_map (λ (list : Vec ℕ Global). with_turn (b && not b) position list.items) o
    same None b = refl
    same (Some list) true = refl
    same (Some list) false = refl

equal : (a b : ℕ) → (a == b) ≡ true → a ≡ b
equal a b e = grind (arith, nat_tests)

same_is : (a : ℕ) → (a == a) ≡ true
same_is a = grind (arith, nat_tests)

slice_get-set_same : {X : Type 0} (xs : List X) (i : ℕ) (x : X) → i < length xs → slice_get (set xs i x) i ≡ Some x
slice_get-set_same [] i x l = absurd (omega arith)
slice_get-set_same (y ∷ xs) zero x l = refl
slice_get-set_same (y ∷ xs) (suc i) x l = slice_get-set_same xs i x (omega arith)

slice_get-set_other : {X : Type 0} (xs : List X) (i j : ℕ) (x : X) → (j ≡ i → ⊥) → slice_get (set xs i x) j ≡ slice_get xs j
slice_get-set_other [] i j x ne = refl
slice_get-set_other (y ∷ xs) zero zero x ne = absurd (ne refl)
slice_get-set_other (y ∷ xs) zero (suc j) x ne = refl
slice_get-set_other (y ∷ xs) (suc i) zero x ne = refl
slice_get-set_other (y ∷ xs) (suc i) (suc j) x ne = slice_get-set_other xs i j x (λ e. ne (ap suc e))

-- the rest without a process
less_within : (turned rest : sets.FinSet nat_cmp) (p : ℕ) → ((q : ℕ) → sets.contains rest q ≡ true → sets.contains turned q ≡ true) → (q : ℕ) → sets.contains (sets.remove rest p) q ≡ true → sets.contains turned q ≡ true
less_within turned rest p within q there = within q (part (q == p) (sets.contains rest q) (sym (remove_has rest p q) ∙ there))
  where
    part : (a b : Bool) → (not a && b) ≡ true → b ≡ true
    part true b e = absurd (cc)
    part false b e = e

-- for all others nothing changes
other_is : (turned rest : sets.FinSet nat_cmp) (p q : ℕ) → (q == p) ≡ false → (sets.contains turned q && not (sets.contains (sets.remove rest p) q)) ≡ (sets.contains turned q && not (sets.contains rest q))
other_is turned rest p q e = ap (λ b. sets.contains turned q && not b) (remove_has rest p q ∙ ap (λ b. not b && sets.contains rest q) e)

-- a process with a number past all
pub notes_past : (turned rest left : sets.FinSet nat_cmp) (position p : ℕ) (old new : List (Vec ℕ Global)) → left ≡ sets.remove rest p → length new ≤ p → AreNotedBut turned rest position old new → AreNotedBut turned left position old new
notes_past turned rest left position p old new e past noted = subst (λ r. AreNotedBut turned r position old new) (sym e) (record {
  count = noted.count;
  within = less_within turned rest p noted.within;
  each = λ q. at q (q == p) refl;
})
  where
    none : (q : ℕ) → q ≡ p → slice_get old q ≡ None
    none q same = let c = noted.count in slice_get_past old q (omega arith)

    none_new : (q : ℕ) → q ≡ p → slice_get new q ≡ None
    none_new q same = slice_get_past new q (omega arith)

    at : (q : ℕ) (b : Bool) → (q == p) ≡ b → items_at new q ≡ with_turn_at (sets.contains turned q && not (sets.contains (sets.remove rest p) q)) position old q
    at q true is =
        ap (option_map (λ (list : Vec ℕ Global). list.items)) (none_new q (equal q p is))
        ∙ sym (ap (option_map (λ (list : Vec ℕ Global). with_turn (sets.contains turned q && not (sets.contains (sets.remove rest p) q)) position list.items)) (none q (equal q p is)))
    at q false is = noted.each q ∙ ap (λ b. with_turn_at b position old q) (sym (other_is turned rest p q is))

-- a process that has its turn now
pub notes_one : (turned rest left : sets.FinSet nat_cmp) (position p : ℕ) (old new after : List (Vec ℕ Global)) (list longer : Vec ℕ Global) → left ≡ sets.remove rest p → sets.contains rest p ≡ true → p < length new → slice_get new p ≡ Some list → longer.items ≡ list.items ++ position ∷ [] → after ≡ set new p longer → AreNotedBut turned rest position old new → AreNotedBut turned left position old after
notes_one turned rest left position p old new after list longer e there l was more is noted = subst (λ r. AreNotedBut turned r position old after) (sym e) (record {
  count = ap length is ∙ length-set new p longer ∙ noted.count;
  within = less_within turned rest p noted.within;
  each = λ q. at q (q == p) refl;
})
  where
    has : sets.contains turned p ≡ true
    has = noted.within p there

    out : sets.contains (sets.remove rest p) p ≡ false
    out = remove_has rest p p ∙ ap (λ b. not b && sets.contains rest p) (same_is p)

    before : Some list.items ≡ option_map (λ (v : Vec ℕ Global). v.items) (slice_get old p)
    before = sym (ap (option_map (λ (v : Vec ℕ Global). v.items)) was) ∙ noted.each p ∙ ap (λ b. with_turn_at (sets.contains turned p && not b) position old p) there ∙ plain (slice_get old p) (sets.contains turned p)
      where
        plain : (o : Option (Vec ℕ Global)) (b : Bool) → option_map (λ (v : Vec ℕ Global). with_turn (b && not true) position v.items) o ≡ option_map (λ (v : Vec ℕ Global). v.items) o
        plain None b = refl
        plain (Some v) true = refl
        plain (Some v) false = refl

    longer_is : (o : Option (Vec ℕ Global)) → Some list.items ≡ option_map (λ (v : Vec ℕ Global). v.items) o → Some longer.items ≡ option_map (λ (v : Vec ℕ Global). with_turn (true && not false) position v.items) o
    longer_is None e = absurd (cc)
    longer_is (Some v) e = let same : list.items ≡ v.items = cc in ap Some (more ∙ ap (λ (xs : List ℕ). xs ++ position ∷ []) same)

    here : items_at after p ≡ with_turn_at (sets.contains turned p && not (sets.contains (sets.remove rest p) p)) position old p
    here =
        ap (λ (xs : List (Vec ℕ Global)). items_at xs p) is
        ∙ ap (option_map (λ (v : Vec ℕ Global). v.items)) (slice_get-set_same new p longer l)
        ∙ longer_is (slice_get old p) before
        ∙ sym (ap (λ b. with_turn_at (b && not (sets.contains (sets.remove rest p) p)) position old p) has ∙ ap (λ b. with_turn_at (true && not b) position old p) out)

    at : (q : ℕ) (b : Bool) → (q == p) ≡ b → items_at after q ≡ with_turn_at (sets.contains turned q && not (sets.contains (sets.remove rest p) q)) position old q
    at q true eq = subst (λ k. items_at after k ≡ with_turn_at (sets.contains turned k && not (sets.contains (sets.remove rest p) k)) position old k) (sym (equal q p eq)) here
    at q false eq =
        ap (λ (xs : List (Vec ℕ Global)). items_at xs q) is
        ∙ ap (option_map (λ (v : Vec ℕ Global). v.items)) (slice_get-set_other new p q longer (λ s. both_ways (q == p) eq (ap (λ k. k == p) s ∙ same_is p)))
        ∙ noted.each q
        ∙ ap (λ b. with_turn_at b position old q) (sym (other_is turned rest p q eq))

-- once no process is left
pub notes_all : (turned rest : sets.FinSet nat_cmp) (position : ℕ) (old new : List (Vec ℕ Global)) → rest ≡ sets.empty → AreNotedBut turned rest position old new → WithTurns turned position old new
notes_all turned rest position old new e noted p = noted.each p ∙ ap (λ b. with_turn_at b position old p) (all (sets.contains turned p) (sets.contains rest p) (ap (λ r. sets.contains r p) e ∙ sets.contains-empty nat_cmp p))
  where
    all : (a b : Bool) → b ≡ false → (a && not b) ≡ a
    all true b e = ap not e
    all false b e = refl
