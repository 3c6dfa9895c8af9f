-- the values of a key
use Rattle.std.proofs.Common.{get_or, ◌++◌, zero, suc, ◌&&◌, ◌||◌, ◌≡◌, ℕ, ◌<◌, ◌≤◌, Bool, true, false, cond, not, List, [], ◌∷◌, length, filter, Option, Some, None, refl, sym, ap, ◌∙◌, arith}
use Rattle.std.specs.Prelude.{slice_get, option_and_then}
use Rattle.std.specs.List.{filter_map, cons_option}
use Rattle.std.specs.Option.{option_eq}
use Rattle.std.specs.Str.{bytes_eq}
use Rattle.std.specs.Set.{is_member}
use Rattle.std.specs.List.{position}
use Rattle.std.proofs.lemmas.List.Quantifiers.{position-Some}
use Rattle.std.specs.List.{IsDistinct, AllByRecursion}
use Rattle.std.proofs.lemmas.Cmp.{nat_list_eq_equiv}
use Rattle.std.proofs.lemmas.Slice.Eq.{bytes_eq-Decides}
use Rattle.std.proofs.lemmas.Map.Made.{is_member-filter}
use Rattle.std.proofs.lemmas.List.{append-nil}
use Rattle.std.proofs.lemmas.List.Elements.{filter-append, filter_map-append}
use Rattle.std.proofs.lemmas.Option.{slice_get_cases, slice_get-get_or}
use Rattle.std.proofs.lemmas.List.Sums.{length-filter, count_by-le-length}
use Rattle.indexmap.specs.IndexSet.{insert_key}
use Rattle.fy_locality.specs.declared.locality.Locality.{Locality}
use Rattle.fy_locality.specs.declared.key.Key.{Key}
use Rattle.fy_locality.specs.declared.key.Key.TheVariants.{Process}
use Rattle.fy_locality.specs.Locality.{value_in, value_of, has_value, first_seen, values_of}
use Rattle.fy_locality.specs.Noted.{names_with}

-- no process past the end has a value
pub no_value : (processes : List Locality) (key : Key) (v : List ℕ) (q : ℕ) → length processes ≤ q → has_value processes key v q ≡ false
no_value processes key v q past =
    let none : slice_get processes q ≡ None = grind (arith, slice_get_cases processes q) in
    ap (λ o. option_eq bytes_eq (option_and_then (value_in key) o) (Some v)) none

length-first_seen : (xs : List (List ℕ)) → length (first_seen xs) ≤ length xs
length-first_seen [] = omega arith
length-first_seen (x ∷ xs) =
    omega (arith, length-first_seen xs, length-filter (λ y. not (bytes_eq x y)) (first_seen xs), count_by-le-length (λ y. not (bytes_eq x y)) (first_seen xs))

length-filter_map : (h : Locality → Option (List ℕ)) (processes : List Locality) → length (filter_map h processes) ≤ length processes
length-filter_map h [] = omega arith
length-filter_map h (p ∷ processes) =
    let rest : length (filter_map h processes) ≤ length processes = length-filter_map h processes in
    elim (h p) as (λ o. length (cons_option o (filter_map h processes)) ≤ suc (length processes)) [ None ↦ omega arith | Some v ↦ omega arith ]

-- no more values than processes
pub length-values_of : (processes : List Locality) (key : Key) → length (values_of processes key) ≤ length processes
unfolding values_of
length-values_of processes key = omega (arith, length-first_seen (filter_map (value_in key) processes), length-filter_map (value_in key) processes)

pub values_of-nil : (processes : List Locality) (key : Key) → processes ≡ [] → values_of processes key ≡ []
unfolding values_of
values_of-nil processes key e = ap (λ ps. first_seen (filter_map (value_in key) ps)) e

-- ---- the values of a key are those that some process has, each once
one_way : (a m : Bool) → (a || (m && not a)) ≡ (a || m)
one_way true true = refl
one_way true false = refl
one_way false true = refl
one_way false false = refl

pub is_member-first_seen : (xs : List (List ℕ)) (q : List ℕ) → is_member bytes_eq (first_seen xs) q ≡ is_member bytes_eq xs q
is_member-first_seen [] q = refl
is_member-first_seen (x ∷ xs) q =
    ap (λ b. bytes_eq q x || b)
    (is_member-filter nat_list_eq_equiv (λ y. not (bytes_eq x y)) q (λ y e. ap not (nat_list_eq_equiv.symm x q ∙ nat_list_eq_equiv.congr q y x e ∙ nat_list_eq_equiv.symm y x)) (first_seen xs)
    ∙ ap (λ b. b && not (bytes_eq x q)) (is_member-first_seen xs q)
    ∙ ap (λ b. is_member bytes_eq xs q && not b) (nat_list_eq_equiv.symm x q))
    ∙ one_way (bytes_eq q x) (is_member bytes_eq xs q)

apart-filter : (x : List ℕ) (p : List ℕ → Bool) (ys : List (List ℕ)) → AllByRecursion (λ y. bytes_eq x y ≡ false) ys → AllByRecursion (λ y. bytes_eq x y ≡ false) (filter p ys)
apart-filter x p [] h = tt
apart-filter x p (y ∷ ys) h = elim (p y) as (λ b. AllByRecursion (λ z. bytes_eq x z ≡ false) (cond b (y ∷ filter p ys) (filter p ys))) [ true ↦ (h.0, apart-filter x p ys h.1) | false ↦ apart-filter x p ys h.1 ]

IsDistinct-filter : (p : List ℕ → Bool) (ys : List (List ℕ)) → IsDistinct bytes_eq ys → IsDistinct bytes_eq (filter p ys)
unfolding IsDistinct
IsDistinct-filter p [] h = tt
IsDistinct-filter p (y ∷ ys) h = elim (p y) as (λ b. IsDistinct bytes_eq (cond b (y ∷ filter p ys) (filter p ys))) [ true ↦ (apart-filter y p ys h.0, IsDistinct-filter p ys h.1) | false ↦ IsDistinct-filter p ys h.1 ]

apart : (x : List ℕ) (ys : List (List ℕ)) → AllByRecursion (λ y. bytes_eq x y ≡ false) (filter (λ y. not (bytes_eq x y)) ys)
apart x [] = tt
apart x (y ∷ ys) = go (apart x ys) (bytes_eq x y) refl
  where
    go : AllByRecursion (λ z. bytes_eq x z ≡ false) (filter (λ z. not (bytes_eq x z)) ys) → (b : Bool) → bytes_eq x y ≡ b → AllByRecursion (λ z. bytes_eq x z ≡ false) (cond (not b) (y ∷ filter (λ z. not (bytes_eq x z)) ys) (filter (λ z. not (bytes_eq x z)) ys))
    go rest true e = rest
    go rest false e = (e, rest)

pub IsDistinct-first_seen : (xs : List (List ℕ)) → IsDistinct bytes_eq (first_seen xs)
unfolding IsDistinct
IsDistinct-first_seen [] = tt
IsDistinct-first_seen (x ∷ xs) = (apart x (first_seen xs), IsDistinct-filter (λ y. not (bytes_eq x y)) (first_seen xs) (IsDistinct-first_seen xs))

pub IsDistinct-values_of : (processes : List Locality) (key : Key) → IsDistinct bytes_eq (values_of processes key)
unfolding values_of
IsDistinct-values_of processes key = IsDistinct-first_seen _

member_of_value : (h : Locality → Option (List ℕ)) (processes : List Locality) (v : List ℕ) (p : ℕ) → option_and_then h (slice_get processes p) ≡ Some v → is_member bytes_eq (filter_map h processes) v ≡ true
member_of_value h [] v p e = absurd (let x : ⊥ = cc in x)
member_of_value h (locality ∷ processes) v zero e = rw e (ap (λ b. b || is_member bytes_eq (filter_map h processes) v) (nat_list_eq_equiv.refl v))
member_of_value h (locality ∷ processes) v (suc p) e = cons_member (h locality) (filter_map h processes) v (member_of_value h processes v p e)
  where
    cons_member : (o : Option (List ℕ)) (vs : List (List ℕ)) (v : List ℕ) → is_member bytes_eq vs v ≡ true → is_member bytes_eq (cons_option o vs) v ≡ true
    cons_member None vs v h = h
    cons_member (Some w) vs v h = grind arith

value_of_member : (h : Locality → Option (List ℕ)) (processes : List Locality) (v : List ℕ) → is_member bytes_eq (filter_map h processes) v ≡ true → (p : ℕ) × (option_and_then h (slice_get processes p) ≡ Some v)
value_of_member h [] v e = absurd (let x : ⊥ = cc in x)
value_of_member h (locality ∷ processes) v e = go (λ m. let at = value_of_member h processes v m in (suc at.0, at.1)) (h locality) refl e
  where
    go : (is_member bytes_eq (filter_map h processes) v ≡ true → (p : ℕ) × (option_and_then h (slice_get (locality ∷ processes) p) ≡ Some v)) → (o : Option (List ℕ)) → h locality ≡ o → is_member bytes_eq (cons_option o (filter_map h processes)) v ≡ true → (p : ℕ) × (option_and_then h (slice_get (locality ∷ processes) p) ≡ Some v)
    go later None is e = later e
    go later (Some w) is e = elim (bytes_eq v w) as (λ b. bytes_eq v w ≡ b → (b || is_member bytes_eq (filter_map h processes) v) ≡ true → (p : ℕ) × (option_and_then h (slice_get (locality ∷ processes) p) ≡ Some v)) [
      | true ↦ λ same _. (zero, is ∙ ap Some (sym ((bytes_eq-Decides v w).0 same)))
      | false ↦ λ _ rest. later rest
    ] refl e

-- v is a value of the key exactly where some process has it
pub value_at_some : (processes : List Locality) (key : Key) (v : List ℕ) → is_member bytes_eq (values_of processes key) v ≡ true → (p : ℕ) × (value_of processes key p ≡ Some v)
unfolding values_of
value_at_some processes key v e = value_of_member (value_in key) processes v (sym (is_member-first_seen _ v) ∙ e)

pub some_value_at : (processes : List Locality) (key : Key) (v : List ℕ) (p : ℕ) → value_of processes key p ≡ Some v → is_member bytes_eq (values_of processes key) v ≡ true
unfolding values_of
some_value_at processes key v p e = is_member-first_seen _ v ∙ member_of_value (value_in key) processes v p e

-- ---- one more process
abbrev differs_from : List ℕ → List ℕ → Bool
differs_from y z = not (bytes_eq y z)

member_past : (y x : List ℕ) (rest : List (List ℕ)) → is_member bytes_eq (y ∷ filter (differs_from y) rest) x ≡ (bytes_eq x y || is_member bytes_eq rest x)
member_past y x rest =
    ap (λ b. bytes_eq x y || b)
    (is_member-filter nat_list_eq_equiv (differs_from y) x (λ z e. ap not (nat_list_eq_equiv.symm y x ∙ nat_list_eq_equiv.congr x z y e ∙ nat_list_eq_equiv.symm z y)) rest
    ∙ ap (λ b. is_member bytes_eq rest x && not b) (nat_list_eq_equiv.symm y x))
    ∙ one_way (bytes_eq x y) (is_member bytes_eq rest x)

one_more : (y x : List ℕ) (rest : List (List ℕ)) (m : Bool) → is_member bytes_eq rest x ≡ m → (e : Bool) → bytes_eq x y ≡ e → y ∷ filter (differs_from y) (cond m rest (rest ++ x ∷ [])) ≡ insert_key bytes_eq (y ∷ filter (differs_from y) rest) x
one_more y x rest true is e same =
    let kept = y ∷ filter (differs_from y) rest in
    sym (ap (λ b. cond b kept (kept ++ x ∷ [])) (member_past y x rest ∙ ap (λ b. bytes_eq x y || b) is ∙ or_with_true (bytes_eq x y)))
  where
    or_with_true : (b : Bool) → (b || true) ≡ true
    or_with_true true = refl
    or_with_true false = refl
one_more y x rest false is true same =
    let kept = y ∷ filter (differs_from y) rest in
    ap (λ zs. y ∷ zs) (filter-append (differs_from y) rest (x ∷ []) ∙ ap (λ b. filter (differs_from y) rest ++ cond b (x ∷ []) []) (ap not (nat_list_eq_equiv.symm y x ∙ same)) ∙ append-nil _)
    ∙ sym (ap (λ b. cond b kept (kept ++ x ∷ [])) (member_past y x rest ∙ ap (λ b. b || is_member bytes_eq rest x) same))
one_more y x rest false is false same =
    let kept = y ∷ filter (differs_from y) rest in
    ap (λ zs. y ∷ zs) (filter-append (differs_from y) rest (x ∷ []) ∙ ap (λ b. filter (differs_from y) rest ++ cond b (x ∷ []) []) (ap not (nat_list_eq_equiv.symm y x ∙ same)))
    ∙ sym (ap (λ b. cond b kept (kept ++ x ∷ [])) (member_past y x rest ∙ ap (λ b. b || is_member bytes_eq rest x) same ∙ is))

first_seen-push : (xs : List (List ℕ)) (x : List ℕ) → first_seen (xs ++ x ∷ []) ≡ insert_key bytes_eq (first_seen xs) x
first_seen-push [] x = refl
first_seen-push (y ∷ ys) x =
    ap (λ zs. y ∷ filter (differs_from y) zs) (first_seen-push ys x)
    ∙ one_more y x (first_seen ys) (is_member bytes_eq (first_seen ys) x) refl (bytes_eq x y) refl

pub values_of-push : (processes : List Locality) (locality : Locality) (key : Key) → values_of (processes ++ locality ∷ []) key ≡ names_with (values_of processes key) (value_in key locality)
unfolding values_of
values_of-push processes locality key =
    ap first_seen (filter_map-append (value_in key) processes (locality ∷ []))
    ∙ go (filter_map (value_in key) processes) (value_in key locality)
  where
    go : (vs : List (List ℕ)) (o : Option (List ℕ)) → first_seen (vs ++ cons_option o []) ≡ names_with (first_seen vs) o
    go vs None = ap first_seen (append-nil vs)
    go vs (Some v) = first_seen-push vs v

-- the own names, by number
pub own_name : (processes : List Locality) (p : ℕ) → option_and_then (value_in Process) (slice_get processes p) ≡ slice_get (filter_map (value_in Process) processes) p
own_name [] p = refl
own_name (x ∷ xs) zero = refl
own_name (x ∷ xs) (suc p) = own_name xs p

own_count : (processes : List Locality) → length (filter_map (value_in Process) processes) ≡ length processes
own_count [] = refl
own_count (x ∷ xs) = ap suc (own_count xs)

-- what a look-up among the own names says
module _ (processes : List Locality) (ids : List (List ℕ)) (id : List ℕ) (seen : ids ≡ values_of processes Process) (own : filter_map (value_in Process) processes ≡ values_of processes Process) where
  names_are : ids ≡ filter_map (value_in Process) processes
  names_are = seen ∙ sym own

  pub found_at : (i : ℕ) → position (bytes_eq id) ids ≡ Some i → (value_of processes Process i ≡ Some id) × (i < length processes)
  found_at i e =
      let at = position-Some (bytes_eq id) ids i id e in
      let within : i < length ids = at.0 in
      let counted : length ids ≡ length processes = ap length names_are ∙ own_count processes in
      let here : id ≡ get_or ids i id = (bytes_eq-Decides id (get_or ids i id)).0 at.1 in
      (own_name processes i ∙ ap (λ vs. slice_get vs i) (sym names_are) ∙ slice_get-get_or ids i id within ∙ ap Some (sym here), omega arith)

  pub not_found : is_member bytes_eq ids id ≡ false → (p : ℕ) → value_of processes Process p ≡ Some id → ⊥
  not_found absent p is =
      let present : is_member bytes_eq ids id ≡ true = ap (λ vs. is_member bytes_eq vs id) seen ∙ some_value_at processes Process id p is in
      let x : ⊥ = cc in
      x

-- to have a value, as a test and as an equation
pub value_had : (processes : List Locality) (key : Key) (v : List ℕ) (p : ℕ) → has_value processes key v p ≡ true → value_of processes key p ≡ Some v
value_had processes key v p h = go (value_of processes key p) h
  where
    go : (o : Option (List ℕ)) → option_eq bytes_eq o (Some v) ≡ true → o ≡ Some v
    go None e = absurd (let x : ⊥ = cc in x)
    go (Some w) e = ap Some ((bytes_eq-Decides w v).0 e)

pub had_value : (processes : List Locality) (key : Key) (v : List ℕ) (p : ℕ) → value_of processes key p ≡ Some v → has_value processes key v p ≡ true
had_value processes key v p e = ap (λ o. option_eq bytes_eq o (Some v)) e ∙ nat_list_eq_equiv.refl v
