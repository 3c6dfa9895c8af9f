-- how many of a list of different names pass a test
use Rattle.std.proofs.Common.{zero, suc, ◌≡◌, ℕ, ◌+◌, ◌<◌, ◌≤◌, Bool, true, false, cond, ◌||◌, List, [], ◌∷◌, length, filter, refl, sym, ap, subst, ◌∙◌, arith}
use Rattle.std.specs.List.{IsDistinct, AllByRecursion, list_any, range_with_len}
use Rattle.std.specs.Set.{is_member}
use Rattle.std.specs.Str.{bytes_eq}
use Rattle.std.proofs.lemmas.Cmp.{nat_list_eq_equiv}
use Rattle.std.proofs.lemmas.Slice.Eq.{bytes_eq-Decides}
use Rattle.std.proofs.lemmas.Map.Made.{length-le_from_is_member}

-- the numbers from a on that pass
pub any_found : (f : ℕ → Bool) (a n : ℕ) → list_any f (range_with_len a n) ≡ true → (p : ℕ) × (a ≤ p) × (p < a + n) × (f p ≡ true)
any_found f a zero e = absurd (let x : ⊥ = cc in x)
any_found f a (suc n) e = go (λ h. any_found f (a + 1) n h) (f a) refl e
  where
    go : (list_any f (range_with_len (a + 1) n) ≡ true → (p : ℕ) × (a + 1 ≤ p) × (p < a + 1 + n) × (f p ≡ true)) → (b : Bool) → f a ≡ b → (b || list_any f (range_with_len (a + 1) n)) ≡ true → (p : ℕ) × (a ≤ p) × (p < a + suc n) × (f p ≡ true)
    go later true is h = (a, omega arith, omega arith, is)
    go later false is h = let found = later h in let low : a + 1 ≤ found.0 = found.1 in let high : found.0 < a + 1 + n = found.2 in (found.0, omega arith, omega arith, found.3)

pub found_any : (f : ℕ → Bool) (a n p : ℕ) → a ≤ p → p < a + n → f p ≡ true → list_any f (range_with_len a n) ≡ true
found_any f a zero p low high e = absurd (omega arith)
found_any f a (suc n) p low high e = go (λ l. found_any f (a + 1) n p l (omega arith) e) (f a) refl
  where
    go : (a + 1 ≤ p → list_any f (range_with_len (a + 1) n) ≡ true) → (b : Bool) → f a ≡ b → (b || list_any f (range_with_len (a + 1) n)) ≡ true
    go later true is = refl
    go later false is = later (above (λ same. let x : f a ≡ true = ap f same ∙ e in let y : ⊥ = cc in y))
      where
        above : (a ≡ p → ⊥) → a + 1 ≤ p
        above ne = omega arith

none_passes : {X : Type 0} (f : X → Bool) (xs : List X) → ((x : X) → f x ≡ false) → length (filter f xs) ≡ 0
none_passes f [] none = refl
none_passes f (x ∷ xs) none = ap (λ b. length (cond b (x ∷ filter f xs) (filter f xs))) (none x) ∙ none_passes f xs none

pub count-none : (f : List ℕ → Bool) (xs : List (List ℕ)) → ((x : List ℕ) → f x ≡ false) → length (filter f xs) ≡ 0
count-none f xs none = none_passes f xs none

-- ---- two tests that differ at one name
same_apart : (f g : List ℕ → Bool) (v : List ℕ) → ((w : List ℕ) → bytes_eq v w ≡ false → f w ≡ g w) → (xs : List (List ℕ)) → AllByRecursion (λ y. bytes_eq v y ≡ false) xs → filter f xs ≡ filter g xs
same_apart f g v same [] h = refl
same_apart f g v same (x ∷ xs) h = ap (λ b. cond b (x ∷ filter f xs) (filter f xs)) (same x h.0) ∙ ap (λ ys. cond (g x) (x ∷ ys) ys) (same_apart f g v same xs h.1)

-- g passes what f passes but for the name v, which is in the list once
pub count-without : (f g : List ℕ → Bool) (v : List ℕ) → ((w : List ℕ) → bytes_eq v w ≡ false → f w ≡ g w) → g v ≡ false → (xs : List (List ℕ)) → IsDistinct bytes_eq xs → is_member bytes_eq xs v ≡ true
    → length (filter f xs) ≡ cond (f v) 1 0 + length (filter g xs)
unfolding IsDistinct
count-without f g v same fails [] h e = absurd (let x : ⊥ = cc in x)
count-without f g v same fails (x ∷ xs) h e = go (λ m. count-without f g v same fails xs h.1 m) (bytes_eq v x) refl e
  where
    here : bytes_eq v x ≡ true → v ≡ x
    here e = (bytes_eq-Decides v x).0 e

    first : (b : Bool) (ys : List (List ℕ)) → length (cond b (x ∷ ys) ys) ≡ cond b 1 0 + length ys
    first true ys = let r : suc (length ys) ≡ 1 + length ys = omega arith in r
    first false ys = let r : length ys ≡ 0 + length ys = omega arith in r

    third : (a b c : ℕ) → a + (b + c) ≡ b + (a + c)
    third a b c = omega arith

    go : (is_member bytes_eq xs v ≡ true → length (filter f xs) ≡ cond (f v) 1 0 + length (filter g xs)) → (b : Bool) → bytes_eq v x ≡ b → (b || is_member bytes_eq xs v) ≡ true
        → length (filter f (x ∷ xs)) ≡ cond (f v) 1 0 + length (filter g (x ∷ xs))
    go later true is m =
        let vx : v ≡ x = here is in
        let apart : AllByRecursion (λ y. bytes_eq v y ≡ false) xs = subst (λ z. AllByRecursion (λ y. bytes_eq z y ≡ false) xs) (sym vx) h.0 in
        first (f x) (filter f xs)
        ∙ ap (λ z. cond (f z) 1 0 + length (filter f xs)) (sym vx)
        ∙ ap (λ ys. cond (f v) 1 0 + length ys) (same_apart f g v same xs apart)
        ∙ ap (λ b. cond (f v) 1 0 + length (cond b (x ∷ filter g xs) (filter g xs))) (sym (ap g (sym vx) ∙ fails))
    go later false is m =
        first (f x) (filter f xs)
        ∙ ap (λ n. cond (f x) 1 0 + n) (later m)
        ∙ third (cond (f x) 1 0) (cond (f v) 1 0) (length (filter g xs))
        ∙ ap (λ b. cond (f v) 1 0 + (cond b 1 0 + length (filter g xs))) (same x is)
        ∙ ap (λ n. cond (f v) 1 0 + n) (sym (first (g x) (filter g xs)))

-- ---- how many pass, and whether n different ones do
is_member-filter : (f : List ℕ → Bool) (xs : List (List ℕ)) (q : List ℕ) → is_member bytes_eq xs q ≡ true → f q ≡ true → is_member bytes_eq (filter f xs) q ≡ true
is_member-filter f [] q m h = m
is_member-filter f (x ∷ xs) q m h = go (λ n. is_member-filter f xs q n h) (bytes_eq q x) refl (f x) refl m
  where
    go : (is_member bytes_eq xs q ≡ true → is_member bytes_eq (filter f xs) q ≡ true) → (b : Bool) → bytes_eq q x ≡ b → (p : Bool) → f x ≡ p → (b || is_member bytes_eq xs q) ≡ true → is_member bytes_eq (cond p (x ∷ filter f xs) (filter f xs)) q ≡ true
    go later true same true pass m = ap (λ b. b || is_member bytes_eq (filter f xs) q) same
    go later true same false pass m = let e : f q ≡ f x = ap f ((bytes_eq-Decides q x).0 same) in absurd (let y : ⊥ = cc in y)
    go later false same true pass m = ap (λ b. b || is_member bytes_eq (filter f xs) q) same ∙ later m
    go later false same false pass m = later m

apart-filter : (x : List ℕ) (f : List ℕ → Bool) (ys : List (List ℕ)) → AllByRecursion (λ y. bytes_eq x y ≡ false) ys → AllByRecursion (λ y. bytes_eq x y ≡ false) (filter f ys)
apart-filter x f [] h = tt
apart-filter x f (y ∷ ys) h = elim (f y) as (λ b. AllByRecursion (λ z. bytes_eq x z ≡ false) (cond b (y ∷ filter f ys) (filter f ys))) [ true ↦ (h.0, apart-filter x f ys h.1) | false ↦ apart-filter x f ys h.1 ]

pub IsDistinct-filter : (f : List ℕ → Bool) (ys : List (List ℕ)) → IsDistinct bytes_eq ys → IsDistinct bytes_eq (filter f ys)
unfolding IsDistinct
IsDistinct-filter f [] h = tt
IsDistinct-filter f (y ∷ ys) h = elim (f y) as (λ b. IsDistinct bytes_eq (cond b (y ∷ filter f ys) (filter f ys))) [ true ↦ (apart-filter y f ys h.0, IsDistinct-filter f ys h.1) | false ↦ IsDistinct-filter f ys h.1 ]

pub each_passes : (P : List ℕ → Type 0) (f : List ℕ → Bool) (xs : List (List ℕ)) → ((v : List ℕ) → is_member bytes_eq xs v ≡ true → f v ≡ true → P v) → AllByRecursion P (filter f xs)
each_passes P f [] h = tt
each_passes P f (x ∷ xs) h = go (each_passes P f xs (λ v m e. h v (later v m) e)) (f x) refl
  where
    or_true : (a b : Bool) → b ≡ true → (a || b) ≡ true
    or_true true b e = refl
    or_true false b e = e

    later : (v : List ℕ) → is_member bytes_eq xs v ≡ true → is_member bytes_eq (x ∷ xs) v ≡ true
    later v m = or_true (bytes_eq v x) _ m

    go : AllByRecursion P (filter f xs) → (b : Bool) → f x ≡ b → AllByRecursion P (cond b (x ∷ filter f xs) (filter f xs))
    go rest true e = (h x (ap (λ b. b || is_member bytes_eq xs x) (nat_list_eq_equiv.refl x)) e, rest)
    go rest false e = rest

member_passes : (P : List ℕ → Type 0) (names : List (List ℕ)) (q : List ℕ) → AllByRecursion P names → is_member bytes_eq names q ≡ true → P q
member_passes P [] q h e = absurd (let x : ⊥ = cc in x)
member_passes P (x ∷ xs) q h e = go (λ m. member_passes P xs q h.1 m) (bytes_eq q x) refl e
  where
    go : (is_member bytes_eq xs q ≡ true → P q) → (b : Bool) → bytes_eq q x ≡ b → (b || is_member bytes_eq xs q) ≡ true → P q
    go later true same e = subst P (sym ((bytes_eq-Decides q x).0 same)) h.0
    go later false same e = later e

-- no more different names pass than the list has that pass
pub few_pass : (f : List ℕ → Bool) (xs names : List (List ℕ)) → IsDistinct bytes_eq names → AllByRecursion (λ v. (is_member bytes_eq xs v ≡ true) × (f v ≡ true)) names → length names ≤ length (filter f xs)
few_pass f xs names different each = length-le_from_is_member nat_list_eq_equiv names (filter f xs) different (λ q m. let at = member_passes _ names q each m in is_member-filter f xs q at.0 at.1)

pub weaker : (P Q : List ℕ → Type 0) → ((v : List ℕ) → P v → Q v) → (names : List (List ℕ)) → AllByRecursion P names → AllByRecursion Q names
weaker P Q f [] h = tt
weaker P Q f (v ∷ vs) h = (f v h.0, weaker P Q f vs h.1)

-- ---- how many numbers below n pass
pub number_of : (ℕ → Bool) → ℕ → ℕ
number_of f zero = 0
number_of f (suc n) = cond (f n) 1 0 + number_of f n

no_more : (f g : ℕ → Bool) → ((q : ℕ) → g q ≡ true → f q ≡ true) → (n : ℕ) → number_of g n ≤ number_of f n
unfolding number_of
no_more f g more zero = omega arith
no_more f g more (suc n) = let rest : number_of g n ≤ number_of f n = no_more f g more n in go (g n) (f n) (more n) rest
  where
    go : (a b : Bool) → (a ≡ true → b ≡ true) → number_of g n ≤ number_of f n → cond a 1 0 + number_of g n ≤ cond b 1 0 + number_of f n
    go true true h rest = omega arith
    go true false h rest = let x : false ≡ true = h refl in absurd (let y : ⊥ = cc in y)
    go false true h rest = omega arith
    go false false h rest = omega arith

pub fewer : (f g : ℕ → Bool) → ((q : ℕ) → g q ≡ true → f q ≡ true) → (n p : ℕ) → p < n → f p ≡ true → g p ≡ false → number_of g n < number_of f n
unfolding number_of
fewer f g more zero p h e d = absurd (omega arith)
fewer f g more (suc n) p h e d = go (λ lower. fewer f g more n p lower e d) (g n) refl (f n) refl
  where
    rest : number_of g n ≤ number_of f n
    rest = no_more f g more n

    lower : (p ≡ n → ⊥) → p < n
    lower ne = omega arith

    go : (p < n → number_of g n < number_of f n) → (a : Bool) → g n ≡ a → (b : Bool) → f n ≡ b → cond a 1 0 + number_of g n < cond b 1 0 + number_of f n
    go later true ga true fb = let less : number_of g n < number_of f n = later (lower (λ same. let y : g n ≡ false = ap g (sym same) ∙ d in let x : ⊥ = cc in x)) in omega arith
    go later true ga false fb = let x : f n ≡ true = more n ga in absurd (let y : ⊥ = cc in y)
    go later false ga true fb = omega (arith, rest)
    go later false ga false fb = let less : number_of g n < number_of f n = later (lower (λ same. let y : f n ≡ true = ap f (sym same) ∙ e in let x : ⊥ = cc in x)) in omega arith
