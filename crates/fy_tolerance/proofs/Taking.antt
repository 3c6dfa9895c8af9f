-- why the sets of so many parts take no more than the parts together
use Rattle.std.proofs.Common.{zero, suc, ◌≡◌, ℕ, ◌+◌, ◌*◌, ◌-◌, ◌<◌, ◌≤◌, Bool, true, false, cond, eqb, ◌&&◌, ◌||◌, List, [], ◌∷◌, ◌++◌, length, get_or, take, refl, sym, ap, ap₂, subst, ◌∙◌, true≢false, arith}
use Rattle.std.specs.Prelude.{nat_le, nat_lt, sum_by}
use Rattle.std.specs.List.{AllByRecursion, count_by}
use Rattle.std.specs.Ordering.{nat_cmp}
use Rattle.std.specs.FinSet as sets
use Rattle.std.specs.Cmp.{nat_cmp_total}
use Rattle.std.proofs.lemmas.Bool.Decides.{nat_tests}
use Rattle.std.proofs.lemmas.List.Sums.{sum_by-cons, sum_by_push}
use Rattle.fy_policy.specs.Counted.{number_of}
use Rattle.fy_tolerance.specs.Costs.{AreSized, IsSized, IsWithin, lies_in}
use Rattle.fy_tolerance.specs.declared.parts.Part.{Part}

-- ---- a part that lies in a set
pub lies_within : (set : sets.FinSet nat_cmp) (part : Part) → lies_in set part ≡ true → (part.least ≤ 1024) × IsWithin (sets.contains part.set) (sets.contains set)
lies_within set part e = (few part.least _ e, λ p h. sets.is_subset-contains nat_cmp_total part.set set (second _ _ e) p h)
  where
    few : (n : ℕ) (b : Bool) → (nat_le n 1024 && b) ≡ true → n ≤ 1024
    few n b e = grind (arith, nat_tests)

    second : (a b : Bool) → (a && b) ≡ true → b ≡ true
    second true b e = e
    second false b e = absurd (true≢false (sym e))

pub within_lies : (set : sets.FinSet nat_cmp) (part : Part) → part.least ≤ 1024 → IsWithin (sets.contains part.set) (sets.contains set) → lies_in set part ≡ true
within_lies set part few within = ap₂ (λ a b. a && b) (test part.least few) (sets.contains-is_subset nat_cmp_total part.set set within)
  where
    test : (n : ℕ) → n ≤ 1024 → nat_le n 1024 ≡ true
    test n h = grind (arith, nat_tests)

-- ---- how many pass
pub count_push : (test : Part → Bool) (before : List Part) (part : Part) → count_by test (before ++ part ∷ []) ≡ count_by test before + cond (test part) 1 0
count_push test before part = sum_by_push (λ x. cond (test x) 1 0) before part

pub count_more : (test other : Part → Bool) → ((part : Part) → test part ≡ true → other part ≡ true) → (parts : List Part) → count_by test parts ≤ count_by other parts
count_more test other more [] = omega arith
count_more test other more (part ∷ parts) =
    let rest : count_by test parts ≤ count_by other parts = count_more test other more parts in
    let here : cond (test part) 1 0 ≤ cond (other part) 1 0 = one (test part) (other part) (more part) in
    let first : count_by test (part ∷ parts) ≡ cond (test part) 1 0 + count_by test parts = sum_by-cons (λ x. cond (test x) 1 0) part parts in
    let second : count_by other (part ∷ parts) ≡ cond (other part) 1 0 + count_by other parts = sum_by-cons (λ x. cond (other x) 1 0) part parts in
    omega arith
  where
    one : (a b : Bool) → (a ≡ true → b ≡ true) → cond a 1 0 ≤ cond b 1 0
    one true true h = omega arith
    one true false h = absurd (true≢false (sym (h refl)))
    one false b h = omega arith

-- those at a level or below it
pub count_next : (level : ℕ) (parts : List Part) → count_by (λ part. nat_lt part.least (level + 1)) parts ≡ count_by (λ part. nat_lt part.least level) parts + count_by (λ part. eqb part.least level) parts
count_next level [] = refl
count_next level (part ∷ parts) =
    let rest : count_by (λ x. nat_lt x.least (level + 1)) parts ≡ count_by (λ x. nat_lt x.least level) parts + count_by (λ x. eqb x.least level) parts = count_next level parts in
    let here : cond (nat_lt part.least (level + 1)) 1 0 ≡ cond (nat_lt part.least level) 1 0 + cond (eqb part.least level) 1 0 = one part.least level in
    let first = sum_by-cons (λ x. cond (nat_lt x.least (level + 1)) 1 0) part parts in
    let second = sum_by-cons (λ x. cond (nat_lt x.least level) 1 0) part parts in
    let third = sum_by-cons (λ x. cond (eqb x.least level) 1 0) part parts in
    join _ _ _ _ _ _ _ _ _ first second third here rest
  where
    one : (n l : ℕ) → cond (nat_lt n (l + 1)) 1 0 ≡ cond (nat_lt n l) 1 0 + cond (eqb n l) 1 0
    one n l = grind (arith, nat_tests)

    join : (x y z a b c p q r : ℕ) → x ≡ a + p → y ≡ b + q → z ≡ c + r → a ≡ b + c → p ≡ q + r → x ≡ y + z
    join x y z a b c p q r e f g h i = omega arith

-- fewer than so many parts fall short of a level by less than so many levels
pub short_few : (level : ℕ) (parts : List Part) → sum_by (λ part. level - part.least) parts ≤ count_by (λ part. nat_lt part.least level) parts * level
short_few level [] = omega arith
short_few level (part ∷ parts) =
    let rest : sum_by (λ x. level - x.least) parts ≤ count_by (λ x. nat_lt x.least level) parts * level = short_few level parts in
    let first : sum_by (λ x. level - x.least) (part ∷ parts) ≡ (level - part.least) + sum_by (λ x. level - x.least) parts = sum_by-cons (λ x. level - x.least) part parts in
    let second : count_by (λ x. nat_lt x.least level) (part ∷ parts) ≡ cond (nat_lt part.least level) 1 0 + count_by (λ x. nat_lt x.least level) parts = sum_by-cons (λ x. cond (nat_lt x.least level) 1 0) part parts in
    subst (λ n. n ≤ count_by (λ x. nat_lt x.least level) (part ∷ parts) * level) (sym first)
    (subst (λ n. (level - part.least) + sum_by (λ x. level - x.least) parts ≤ n * level) (sym second)
    (go (nat_lt part.least level) refl rest))
  where
    no_less : (n l : ℕ) → nat_lt n l ≡ false → l - n ≡ 0
    no_less n l e = let h : l ≤ n = grind (arith, nat_tests) in omega arith

    go : (b : Bool) → nat_lt part.least level ≡ b → sum_by (λ x. level - x.least) parts ≤ count_by (λ x. nat_lt x.least level) parts * level → (level - part.least) + sum_by (λ x. level - x.least) parts ≤ (cond b 1 0 + count_by (λ x. nat_lt x.least level) parts) * level
    go true e rest = omega arith
    go false e rest = let none : level - part.least ≡ 0 = no_less part.least level e in omega arith

-- too few parts below the greatest level: so many take more than there are
pub too_many_taken : (taken : ℕ) (parts : List Part) → count_by (λ part. nat_lt part.least 1025) parts < taken → 1025 ≤ taken * 1025 - sum_by (λ part. 1025 - part.least) parts
too_many_taken taken parts few = ends _ _ _ few (short_few 1025 parts)
  where
    ends : (taken count short : ℕ) → count < taken → short ≤ count * 1025 → 1025 ≤ taken * 1025 - short
    ends taken count short f g = omega arith

-- ---- the members of two sets
number_either : (s t u : ℕ → Bool) → ((p : ℕ) → u p ≡ (s p || t p)) → (n : ℕ) → number_of u n ≤ number_of s n + number_of t n
number_either s t u each zero = omega arith
number_either s t u each (suc n) =
    join (cond (u n) 1 0) (cond (s n) 1 0) (cond (t n) 1 0) _ _ _ (subst (λ b. cond b 1 0 ≤ cond (s n) 1 0 + cond (t n) 1 0) (sym (each n)) (one (s n) (t n))) (number_either s t u each n)
  where
    one : (a b : Bool) → cond (a || b) 1 0 ≤ cond a 1 0 + cond b 1 0
    one true b = omega arith
    one false b = omega arith

    join : (a b c x y z : ℕ) → a ≤ b + c → x ≤ y + z → a + x ≤ (b + y) + (c + z)
    join a b c x y z e f = omega arith

pub number_union : (s t : sets.FinSet nat_cmp) (n : ℕ) → number_of (sets.contains (sets.union s t)) n ≤ number_of (sets.contains s) n + number_of (sets.contains t) n
number_union s t n = number_either (sets.contains s) (sets.contains t) (sets.contains (sets.union s t)) (λ p. sets.contains-union nat_cmp_total s t p) n

pub number_empty : (n : ℕ) → number_of (sets.contains (sets.empty {R = nat_cmp})) n ≡ 0
number_empty zero = refl
number_empty (suc n) = ap₂ (λ b m. cond b 1 0 + m) (sets.contains-empty nat_cmp n) (number_empty n)

-- ---- a fact of each of a list and of one more
pub all_before : {X : Type 0} (P : X → Type 0) (xs : List X) (x : X) → AllByRecursion P (xs ++ x ∷ []) → AllByRecursion P xs × P x
all_before P [] x all = (tt, all.0)
all_before P (y ∷ ys) x all = let rest = all_before P ys x all.1 in ((all.0, rest.0), rest.1)

pub all_with : {X : Type 0} (P : X → Type 0) (xs : List X) (x : X) → AllByRecursion P xs → P x → AllByRecursion P (xs ++ x ∷ [])
all_with P [] x all one = (one, tt)
all_with P (y ∷ ys) x all one = (all.0, all_with P ys x all.1 one)

-- ---- what the loop over the parts knows of those that it has passed
pub record Taken (level extra : ℕ) (before : List Part) (all : sets.FinSet nat_cmp) (room : ℕ) : Type 0 where
  pub left : room ≡ extra - count_by (λ part. eqb part.least level) before
  pub enough : count_by (λ part. nat_lt part.least level) before + (extra - room) ≤ count_by (lies_in all) before
  pub least : (count : ℕ) → AreSized count before
      → number_of (sets.contains all) count + sum_by (λ part. level - part.least) before
      ≤ (count_by (λ part. nat_lt part.least level) before + (extra - room)) * level
  pub within : (s : ℕ → Bool) → AllByRecursion (λ part. IsWithin (sets.contains part.set) s) before → IsWithin (sets.contains all) s

pub taken-begins : (level extra : ℕ) (all : sets.FinSet nat_cmp) → all ≡ sets.empty → Taken level extra [] all extra
taken-begins level extra all is = record {
  left = omega arith;
  enough = omega arith;
  least = λ count sized. let none : number_of (sets.contains all) count ≡ 0 = ap (λ s. number_of (sets.contains s) count) is ∙ number_empty count in omega arith;
  within = λ s each p h. absurd (true≢false (sym h ∙ ap (λ t. sets.contains t p) is ∙ sets.contains-empty nat_cmp p));
}

module _ (level extra : ℕ) (low : level ≤ 1024) (before : List Part) (all : sets.FinSet nat_cmp) (room : ℕ) (so_far : Taken level extra before all room) (part : Part) where
  abbrev with_part : sets.FinSet nat_cmp
  with_part = sets.union all part.set

  both : IsWithin (sets.contains all) (sets.contains with_part)
  both p h = sets.contains-union nat_cmp_total all part.set p ∙ ap (λ b. b || sets.contains part.set p) h

  there : IsWithin (sets.contains part.set) (sets.contains with_part)
  there p h = sets.contains-union nat_cmp_total all part.set p ∙ ap (λ b. sets.contains all p || b) h ∙ either (sets.contains all p)
    where
      either : (a : Bool) → (a || true) ≡ true
      either true = refl
      either false = refl

  within_more : (s : ℕ → Bool) → AllByRecursion (λ x. IsWithin (sets.contains x.set) s) (before ++ part ∷ []) → IsWithin (sets.contains with_part) s
  within_more s each p h =
      let rest = all_before (λ (x : Part). IsWithin (sets.contains x.set) s) before part each in
      either (sets.contains all p) (sets.contains part.set p) (so_far.within s rest.0 p) (rest.1 p) (sym (sets.contains-union nat_cmp_total all part.set p) ∙ h)
    where
      either : (a b : Bool) → (a ≡ true → s p ≡ true) → (b ≡ true → s p ≡ true) → (a || b) ≡ true → s p ≡ true
      either true b f g e = f refl
      either false b f g e = g e

  -- one more lies in the set
  lie_more : part.least ≤ 1024 → count_by (lies_in all) before + 1 ≤ count_by (lies_in with_part) (before ++ part ∷ [])
  lie_more few =
      let old : count_by (lies_in all) before ≤ count_by (lies_in with_part) before = count_more (lies_in all) (lies_in with_part) (λ x h. let is = lies_within all x h in within_lies with_part x is.0 (λ p g. both p (is.1 p g))) before in
      let new : count_by (lies_in with_part) (before ++ part ∷ []) ≡ count_by (lies_in with_part) before + 1 = count_push (lies_in with_part) before part ∙ ap (λ b. count_by (lies_in with_part) before + cond b 1 0) (within_lies with_part part few there) in
      omega arith

  abbrev below : ℕ
  below = count_by (λ x. nat_lt x.least level) before

  abbrev same : ℕ
  same = count_by (λ x. eqb x.least level) before

  abbrev short : ℕ
  short = sum_by (λ x. level - x.least) before

  -- one more, below the level
  pub taken-below : part.least < level → Taken level extra (before ++ part ∷ []) with_part room
  taken-below less =
      let is_below : count_by (λ x. nat_lt x.least level) (before ++ part ∷ []) ≡ below + 1 = count_push (λ x. nat_lt x.least level) before part ∙ ap (λ b. below + cond b 1 0) (test part.least level less) in
      let not_same : count_by (λ x. eqb x.least level) (before ++ part ∷ []) ≡ same = count_push (λ x. eqb x.least level) before part ∙ ap (λ b. same + cond b 1 0) (other part.least level less) ∙ (let e : same + 0 ≡ same = omega arith in e) in
      let shorter : sum_by (λ x. level - x.least) (before ++ part ∷ []) ≡ short + (level - part.least) = sum_by_push (λ x. level - x.least) before part in
      record {
        left = so_far.left ∙ ap (λ n. extra - n) (sym not_same);
        enough = (let lie = lie_more (omega arith) in let so : below + (extra - room) ≤ count_by (lies_in all) before = so_far.enough in omega arith);
        least = λ count sized.
            let rest = all_before (IsSized count) before part sized in
            let few : number_of (sets.contains part.set) count ≤ part.least = rest.1 (omega arith) in
            let union = number_union all part.set count in
            let so = so_far.least count rest.0 in
            ends _ _ _ _ _ _ _ _ _ less is_below shorter few union so;
        within = within_more;
      }
    where
      test : (n l : ℕ) → n < l → nat_lt n l ≡ true
      test n l h = grind (arith, nat_tests)

      other : (n l : ℕ) → n < l → eqb n l ≡ false
      other n l h = grind (arith, nat_tests)

      ends : (c l b b' k s s' u a : ℕ) {n : ℕ} → c < l → b' ≡ b + 1 → s' ≡ s + (l - c) → n ≤ c → u ≤ a + n → a + s ≤ (b + k) * l → u + s' ≤ (b' + k) * l
      ends c l b b' k s s' u a {n} less is_b is_s few union so =
          let more : a + s + l ≤ (b + k) * l + l = omega arith in
          let total : u + s' ≤ a + s + l = omega arith in
          subst (λ m. u + s' ≤ (m + k) * l) (sym is_b) (let e : ((b + 1) + k) * l ≡ (b + k) * l + l = omega arith in omega arith)

  -- one more, at the level, while there is room
  pub taken-same : part.least ≡ level → 0 < room → Taken level extra (before ++ part ∷ []) with_part (room - 1)
  taken-same is some =
      let not_below : count_by (λ x. nat_lt x.least level) (before ++ part ∷ []) ≡ below = count_push (λ x. nat_lt x.least level) before part ∙ ap (λ b. below + cond b 1 0) (test part.least level is) ∙ (let e : below + 0 ≡ below = omega arith in e) in
      let one_same : count_by (λ x. eqb x.least level) (before ++ part ∷ []) ≡ same + 1 = count_push (λ x. eqb x.least level) before part ∙ ap (λ b. same + cond b 1 0) (tied part.least level is) in
      let no_shorter : sum_by (λ x. level - x.least) (before ++ part ∷ []) ≡ short = sum_by_push (λ x. level - x.least) before part ∙ (let e : short + (level - part.least) ≡ short = omega arith in e) in
      let left : room ≡ extra - same = so_far.left in
      record {
        left = (let e : room - 1 ≡ extra - (same + 1) = omega arith in e ∙ ap (λ n. extra - n) (sym one_same));
        enough = (let lie = lie_more (omega arith) in let so : below + (extra - room) ≤ count_by (lies_in all) before = so_far.enough in omega arith);
        least = λ count sized.
            let rest = all_before (IsSized count) before part sized in
            let few : number_of (sets.contains part.set) count ≤ part.least = rest.1 (omega arith) in
            let union = number_union all part.set count in
            let so = so_far.least count rest.0 in
            let room_is : extra - (room - 1) ≡ (extra - room) + 1 = omega arith in
            ends _ _ _ _ _ _ _ _ _ _ is not_below no_shorter few union room_is so;
        within = within_more;
      }
    where
      test : (n l : ℕ) → n ≡ l → nat_lt n l ≡ false
      test n l h = grind (arith, nat_tests)

      tied : (n l : ℕ) → n ≡ l → eqb n l ≡ true
      tied n l h = grind (arith, nat_tests)

      ends : (c l b b' k k' s s' u a : ℕ) {n : ℕ} → c ≡ l → b' ≡ b → s' ≡ s → n ≤ c → u ≤ a + n → k' ≡ k + 1 → a + s ≤ (b + k) * l → u + s' ≤ (b' + k') * l
      ends c l b b' k k' s s' u a {n} is is_b is_s few union is_k so =
          let total : u + s' ≤ a + s + l = omega arith in
          subst (λ m. u + s' ≤ (m + k') * l) (sym is_b)
          (subst (λ m. u + s' ≤ (b + m) * l) (sym is_k) (let e : (b + (k + 1)) * l ≡ (b + k) * l + l = omega arith in omega arith))

  -- one that isn't taken
  pub taken-not : level ≤ part.least → (part.least ≡ level → room ≡ 0) → Taken level extra (before ++ part ∷ []) all room
  taken-not more full =
      let not_below : count_by (λ x. nat_lt x.least level) (before ++ part ∷ []) ≡ below = count_push (λ x. nat_lt x.least level) before part ∙ ap (λ b. below + cond b 1 0) (test part.least level more) ∙ (let e : below + 0 ≡ below = omega arith in e) in
      let no_shorter : sum_by (λ x. level - x.least) (before ++ part ∷ []) ≡ short = sum_by_push (λ x. level - x.least) before part ∙ (let e : short + (level - part.least) ≡ short = omega arith in e) in
      let left : room ≡ extra - same = so_far.left in
      let pushed : count_by (λ x. eqb x.least level) (before ++ part ∷ []) ≡ same + cond (eqb part.least level) 1 0 = count_push (λ x. eqb x.least level) before part in
      record {
        left = go (eqb part.least level) refl left ∙ ap (λ n. extra - n) (sym pushed);
        enough = (
            let lie : count_by (lies_in all) (before ++ part ∷ []) ≡ count_by (lies_in all) before + cond (lies_in all part) 1 0 = count_push (lies_in all) before part in
            let so : below + (extra - room) ≤ count_by (lies_in all) before = so_far.enough in
            omega arith
            );
        least = λ count sized.
            let rest = all_before (IsSized count) before part sized in
            let so = so_far.least count rest.0 in
            subst (λ m. number_of (sets.contains all) count + sum_by (λ x. level - x.least) (before ++ part ∷ []) ≤ (m + (extra - room)) * level) (sym not_below)
            (subst (λ m. number_of (sets.contains all) count + m ≤ (below + (extra - room)) * level) (sym no_shorter) so);
        within = λ s each. so_far.within s (all_before (λ (x : Part). IsWithin (sets.contains x.set) s) before part each).0;
      }
    where
      test : (n l : ℕ) → l ≤ n → nat_lt n l ≡ false
      test n l h = grind (arith, nat_tests)

      is_tied : (n l : ℕ) → eqb n l ≡ true → n ≡ l
      is_tied n l e = grind (arith, nat_tests)

      go : (b : Bool) → eqb part.least level ≡ b → room ≡ extra - same → room ≡ extra - (same + cond b 1 0)
      go true e left = let none : room ≡ 0 = full (is_tied part.least level e) in omega arith
      go false e left = omega arith

-- ---- all parts are passed
pub taken-ends : (level taken extra : ℕ) (parts : List Part) (all : sets.FinSet nat_cmp) (room : ℕ)
    → extra ≡ taken - count_by (λ part. nat_lt part.least level) parts
    → count_by (λ part. nat_lt part.least level) parts ≤ taken
    → taken ≤ count_by (λ part. nat_lt part.least (level + 1)) parts
    → Taken level extra parts all room
    → (taken ≤ count_by (lies_in all) parts)
    × ((count : ℕ) → AreSized count parts → number_of (sets.contains all) count + sum_by (λ part. level - part.least) parts ≤ taken * level)
taken-ends level taken extra parts all room is few enough so_far =
    let next = count_next level parts in
    let left : room ≡ extra - count_by (λ part. eqb part.least level) parts = so_far.left in
    let all_taken : count_by (λ part. nat_lt part.least level) parts + (extra - room) ≡ taken = sums _ _ _ _ _ _ is few enough next left in (
      subst (λ n. n ≤ count_by (lies_in all) parts) all_taken so_far.enough,
      λ count sized. subst (λ n. number_of (sets.contains all) count + sum_by (λ part. level - part.least) parts ≤ n * level) all_taken (so_far.least count sized),
    )
  where
    sums : (extra taken b n s room : ℕ) → extra ≡ taken - b → b ≤ taken → taken ≤ n → n ≡ b + s → room ≡ extra - s → b + (extra - room) ≡ taken
    sums extra taken b n s room e f g h i = omega arith

pub none_below : (parts : List Part) → count_by (λ part. nat_lt part.least 0) parts ≡ 0
none_below [] = refl
none_below (part ∷ parts) = sum_by-cons (λ x. cond (nat_lt x.least 0) 1 0) part parts ∙ ap₂ (λ a b. a + b) (one part.least) (none_below parts)
  where
    one : (n : ℕ) → ◌≡◌ {A = ℕ} (cond (nat_lt n 0) 1 0) 0
    one n = grind (arith, nat_tests)

pub take_next : (parts : List Part) (i : ℕ) (part : Part) → i < length parts → part ≡ get_or parts i part → take (i + 1) parts ≡ take i parts ++ part ∷ []
take_next parts i part below is = ap (λ n. take n parts) (let e : i + 1 ≡ suc i = omega arith in e) ∙ go parts i below is
  where
    go : (parts : List Part) (i : ℕ) → i < length parts → part ≡ get_or parts i part → take (suc i) parts ≡ take i parts ++ part ∷ []
    go [] i below is = absurd (omega arith)
    go (x ∷ xs) zero below is = ap (λ y. y ∷ []) (sym is)
    go (x ∷ xs) (suc i) below is = ap (λ ys. x ∷ ys) (go xs i (omega arith) is)
