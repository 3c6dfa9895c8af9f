-- the columns of the three events, and what refuses others
use Rattle.std.proofs.Common.{◌≡◌, ℕ, zero, suc, ◌+◌, ◌*◌, ◌<◌, ◌≤◌, ◌⊎◌, inl, inr, List, [], ◌∷◌, length, slice_get, Some, refl, sym, ◌∙◌, subst, arith, ltb-true, leb-true}
use Rattle.fy_events.specs.Columns.{IsTimeWidth, end_at}
use Rattle.fy_worked.specs.Columns.{events, AreColumns, AreNoColumns}

two_tenths : IsTimeWidth 4 400000 200000
two_tenths = record {
  tenths = 2;
  is = refl;
  some = ltb-true 0 2 refl;
  room = ltb-true 400000 800000 refl;
  least = λ other some room. omega arith;
}

ends : (k : ℕ) → k < 3 → slice_get (2 ∷ 3 ∷ 5 ∷ []) k ≡ Some (end_at events 5 ((k + 1) * 200000))
ends zero within = refl
ends (suc zero) within = refl
ends (suc (suc zero)) within = refl
ends (suc (suc (suc k))) within = absurd (omega arith)

pub right : AreColumns 200000 (2 ∷ 3 ∷ 5 ∷ [])
right columns width is = record {
  width = subst (IsTimeWidth 4 400000) (sym width) two_tenths;
  few = rw is (leb-true 3 4 refl);
  reach = rw (width, is) (ltb-true 400000 600000 refl);
  least = rw (width, is) (λ other reach. omega arith);
  each = rw (width, is) ends;
}

some_is : (a b : ℕ) → Some a ≡ Some b → a ≡ b
some_is a b e = cc

-- at a place stands another end
other_end : (width k end : ℕ) (ends : List ℕ) → k < length ends → slice_get ends k ≡ Some end
    → (end < end_at events 5 ((k + 1) * width)) ⊎ (end_at events 5 ((k + 1) * width) < end) → AreNoColumns width ends
other_end width k end ends within stands differs columns wide is are =
    let there = are.each k (subst (λ l. k < length l) (sym is) within) in
    let same = some_is _ _ (sym stands ∙ subst (λ l. slice_get l k ≡ Some (end_at events 5 ((k + 1) * columns.width))) is there) in
    let last : end ≡ end_at events 5 ((k + 1) * width) = subst (λ w. end ≡ end_at events 5 ((k + 1) * w)) wide same in
    elim differs [ inl less ↦ omega arith | inr more ↦ omega arith ]

pub at_the_end : AreNoColumns 200000 (3 ∷ 3 ∷ 5 ∷ [])
at_the_end = other_end 200000 0 3 (3 ∷ 3 ∷ 5 ∷ []) (ltb-true 0 3 refl) refl (inr (ltb-true 2 3 refl))

pub left_out : AreNoColumns 200000 (2 ∷ 3 ∷ 4 ∷ [])
left_out = other_end 200000 2 4 (2 ∷ 3 ∷ 4 ∷ []) (ltb-true 2 3 refl) refl (inl (ltb-true 4 5 refl))

pub short : AreNoColumns 200000 (2 ∷ 3 ∷ [])
short columns width is are =
    let reach : 400000 < 2 * 200000 = rw (width, is) at are.reach in
    omega arith

pub long : AreNoColumns 200000 (2 ∷ 3 ∷ 5 ∷ 5 ∷ [])
long columns width is are =
    let few : 400000 < 3 * 200000 → 4 ≤ 3 = rw (width, is) at (are.least 3) in
    let too_few = few (ltb-true 400000 600000 refl) in
    omega arith

pub narrow : (ends : List ℕ) → AreNoColumns 100000 ends
narrow ends columns width is are =
    let room : 400000 < 4 * 100000 = rw width at are.width.room in
    omega arith

pub wide : (ends : List ℕ) → AreNoColumns 300000 ends
wide ends columns width is are =
    let tenths = are.width.least 2 (ltb-true 0 2 refl) (ltb-true 400000 800000 refl) in
    let is_width : 300000 ≡ are.width.tenths * 100000 = rw width at are.width.is in
    omega arith

pub uneven : (ends : List ℕ) → AreNoColumns 150000 ends
uneven ends columns width is are =
    let is_width : 150000 ≡ are.width.tenths * 100000 = rw width at are.width.is in
    omega arith
