-- an index of the values of a key, after one more process
use Rattle.std.proofs.Common.{◌≡◌, ℕ, ◌+◌, ◌<◌, ◌≤◌, zero, suc, Bool, true, false, cond, ◌&&◌, ◌||◌, List, [], ◌∷◌, ◌++◌, length, Option, Some, None, refl, sym, ap, subst, ◌∙◌, arith, eqb, leb}
use Rattle.std.specs.Prelude.{slice_get, unwrap_or, is_some, IsOk, OnOk, Result, Ok, Err}
use Rattle.std.specs.Ordering.{nat_cmp}
use Rattle.std.specs.FinSet as sets
use Rattle.std.specs.Cmp.{nat_cmp_total, unsigned_tied}
use Rattle.std.specs.List.{filter_map, list_any, position_or_len}
use Rattle.std.specs.Map.{keys_of, lookup}
use Rattle.std.specs.Option.{option_eq}
use Rattle.std.specs.Str.{bytes_eq}
use Rattle.std.specs.Set.{is_member}
use Rattle.std.proofs.lemmas.Slice.Eq.{bytes_eq-Decides}
use Rattle.std.proofs.lemmas.List.{length_push}
use Rattle.std.proofs.lemmas.List.Elements.{filter_map-append}
use Rattle.std.proofs.lemmas.Bool.Decides.{nat_tests}
use Rattle.indexmap.specs.IndexSet.{insert_key}
use Rattle.indexmap.specs.IndexMap.{insert_entry}
use Rattle.fy_locality.specs.declared.locality.Locality.{Locality}
use Rattle.fy_locality.specs.declared.key.Key.{Key}
use Rattle.fy_locality.specs.declared.key.Key.TheVariants.{Process, Machine, Zone, DataHall, DataCenter}
use Rattle.fy_locality.specs.declared.map.MapFault.{MapFault}
use Rattle.fy_locality.specs.declared.map.MapFault.TheVariants.{Name, Twice, TooMany}
use Rattle.fy_locality.specs.Locality.{value_in, has_value, values_of, are_names, id_refusal, refusal_of}
use Rattle.fy_locality.specs.declared.map.ValueIndexes.{ValueIndexes}
use Rattle.fy_locality.specs.Indexed.{Entries, group_of, IsIndex, IsValueIndex, value_index_in, AreValueIndexes, IsIndexed}
use Rattle.fy_locality.specs.Noted.{names_with, AddsToIndex}
use Rattle.fy_locality.specs.declared.TheConstants.{MOST_PROCESSES}
use Rattle.fy_locality.proofs.ValueIndexes.{place-insert_key, AreValueIndexes-nil, AreValueIndexes-push, own_stands}
use Rattle.fy_locality.proofs.Values.{values_of-push, values_of-nil, no_value}

keys-insert_entry : (es : Entries) (k : List ℕ) (s : sets.FinSet nat_cmp) → keys_of (insert_entry bytes_eq es k s) ≡ insert_key bytes_eq (keys_of es) k
keys-insert_entry [] k s = refl
keys-insert_entry (e ∷ es) k s = go (keys-insert_entry es k s) (bytes_eq k e.0)
  where
    push : (m : Bool) → e.0 ∷ cond m (keys_of es) (keys_of es ++ k ∷ []) ≡ cond m (e.0 ∷ keys_of es) (e.0 ∷ (keys_of es ++ k ∷ []))
    push true = refl
    push false = refl

    go : keys_of (insert_entry bytes_eq es k s) ≡ insert_key bytes_eq (keys_of es) k → (b : Bool) → keys_of (cond b ((e.0, s) ∷ es) (e ∷ insert_entry bytes_eq es k s)) ≡ cond (b || is_member bytes_eq (keys_of es) k) (e.0 ∷ keys_of es) ((e.0 ∷ keys_of es) ++ k ∷ [])
    go later true = refl
    go later false = ap (λ ks. e.0 ∷ ks) later ∙ push (is_member bytes_eq (keys_of es) k)

-- a name that is put in stands at its old place, or last
pub placed : (old new : Entries) (v : List ℕ) (s : sets.FinSet nat_cmp) (place : ℕ) → new ≡ insert_entry bytes_eq old v s → place ≡ position_or_len (bytes_eq v) (keys_of old) → slice_get (keys_of new) place ≡ Some v
placed old new v s place entries first =
    ap (slice_get (keys_of new)) first
    ∙ ap (λ names. slice_get names (position_or_len (bytes_eq v) (keys_of old))) (ap keys_of entries ∙ keys-insert_entry old v s)
    ∙ place-insert_key (keys_of old) v

-- a name has a set exactly where it is among the names
pub is_some-lookup : (test : List ℕ → Bool) (es : Entries) → is_some (lookup test es) ≡ list_any test (keys_of es)
is_some-lookup test [] = refl
is_some-lookup test (e ∷ es) = go (test e.0) (is_some-lookup test es)
  where
    go : (b : Bool) → is_some (lookup test es) ≡ list_any test (keys_of es) → is_some (cond b (Some e.1) (lookup test es)) ≡ (b || list_any test (keys_of es))
    go true h = refl
    go false h = h

-- ---- one value more
-- the set of a value is put in with p
pub AddsToIndex-some : (old new : Entries) (v : List ℕ) (p : ℕ) (s : sets.FinSet nat_cmp) → new ≡ insert_entry bytes_eq old v s
    → ((w : List ℕ) → lookup (bytes_eq w) new ≡ cond (bytes_eq v w) (Some s) (lookup (bytes_eq w) old)) → s ≡ sets.insert (group_of old v) p → AddsToIndex old (Some v) p new
AddsToIndex-some old new v p s entries updates is = record {
  seen = ap keys_of entries ∙ keys-insert_entry old v s;
  grouped = λ w q. ap (λ o. sets.contains (unwrap_or o sets.empty) q) (updates w) ∙ go w q (bytes_eq v w) refl;
}
  where
    skip : (a b : Bool) → a ≡ (a || (b && false))
    skip a b = grind arith

    turn : (a b : Bool) → (b || a) ≡ (a || (b && true))
    turn a b = grind arith

    go : (w : List ℕ) (q : ℕ) (b : Bool) → bytes_eq v w ≡ b → sets.contains (unwrap_or (cond b (Some s) (lookup (bytes_eq w) old)) sets.empty) q ≡ (sets.contains (group_of old w) q || (eqb q p && b))
    go w q true e =
        ap (λ t. sets.contains t q) is
        ∙ sets.contains-insert nat_cmp_total (group_of old v) p q
        ∙ ap (λ b. b || sets.contains (group_of old v) q) (unsigned_tied q p)
        ∙ ap (λ u. eqb q p || sets.contains (group_of old u) q) ((bytes_eq-Decides v w).0 e)
        ∙ turn (sets.contains (group_of old w) q) (eqb q p)
    go w q false e = skip (sets.contains (group_of old w) q) (eqb q p)

-- ---- one process more
-- who has a value then
has_value-push : (processes : List Locality) (new : Locality) (key : Key) (v : List ℕ) (q : ℕ) → has_value (processes ++ new ∷ []) key v q ≡ (has_value processes key v q || (eqb q (length processes) && option_eq bytes_eq (value_in key new) (Some v)))
has_value-push [] new key v zero = refl
has_value-push [] new key v (suc q) = past q (option_eq bytes_eq (value_in key new) (Some v))
  where
    past : (q : ℕ) (b : Bool) → false ≡ (eqb (suc q) 0 && b)
    past q b = grind (arith, nat_tests)
has_value-push (x ∷ xs) new key v zero = last (option_eq bytes_eq (value_in key x) (Some v)) _ (length xs)
  where
    last : (a b : Bool) (n : ℕ) → a ≡ (a || (eqb 0 (suc n) && b))
    last a b n = grind (arith, nat_tests)
has_value-push (x ∷ xs) new key v (suc q) = has_value-push xs new key v q ∙ ap (λ b. has_value xs key v q || (b && option_eq bytes_eq (value_in key new) (Some v))) (later q (length xs))
  where
    later : (a b : ℕ) → eqb a b ≡ eqb (suc a) (suc b)
    later a b = grind (arith, nat_tests)

pub IsIndex-push : (processes : List Locality) (new : Locality) (key : Key) (old new_entries : Entries) → IsIndex processes key old → AddsToIndex old (value_in key new) (length processes) new_entries → IsIndex (processes ++ new ∷ []) key new_entries
IsIndex-push processes new key old entries was notes = record {
  seen = notes.seen ∙ ap (λ names. names_with names (value_in key new)) was.seen ∙ sym (values_of-push processes new key);
  grouped = λ v q.
      notes.grouped v q
      ∙ ap (λ b. b || (eqb q (length processes) && option_eq bytes_eq (value_in key new) (Some v))) (was.grouped v q)
      ∙ sym (has_value-push processes new key v q);
}

IsIndex-nil : (key : Key) → IsIndex [] key []
IsIndex-nil key = record { seen = sym (values_of-nil [] key refl); grouped = λ v q. sets.contains-empty nat_cmp q ∙ sym (no_value [] key v q (omega arith)) }

-- no process and no value
pub IsIndexed-nil : IsIndexed [] [] [] [] [] [] []
IsIndexed-nil = record {
  few = omega arith;
  own = sym (values_of-nil [] Process refl);
  ids_are = IsIndex-nil Process;
  machines_are = IsIndex-nil Machine;
  zones_are = IsIndex-nil Zone;
  halls_are = IsIndex-nil DataHall;
  data_centers_are = IsIndex-nil DataCenter;
  places_are = AreValueIndexes-nil;
}

-- the own names stay different where the new one is new
own_names-push : (processes : List Locality) (new : Locality) → filter_map (value_in Process) processes ≡ values_of processes Process → is_member bytes_eq (values_of processes Process) new.process ≡ false
    → filter_map (value_in Process) (processes ++ new ∷ []) ≡ values_of (processes ++ new ∷ []) Process
own_names-push processes new own absent =
    filter_map-append (value_in Process) processes (new ∷ [])
    ∙ ap (λ vs. vs ++ new.process ∷ []) own
    ∙ sym (ap (λ b. cond b (values_of processes Process) (values_of processes Process ++ new.process ∷ [])) absent)
    ∙ sym (values_of-push processes new Process)

-- what holds where a process isn't refused
pub not_refused : (processes : List Locality) (id : List ℕ) → id_refusal processes id ≡ None → (is_member bytes_eq (values_of processes Process) id ≡ false) × (length processes < MOST_PROCESSES)
not_refused processes id e = go (is_member bytes_eq (values_of processes Process) id) refl (leb MOST_PROCESSES (length processes)) refl e
  where
    go : (a : Bool) → is_member bytes_eq (values_of processes Process) id ≡ a → (b : Bool) → leb MOST_PROCESSES (length processes) ≡ b → cond a (Some Twice) (cond b (Some TooMany) None) ≡ None → (is_member bytes_eq (values_of processes Process) id ≡ false) × (length processes < MOST_PROCESSES)
    go true is b many e = absurd (let x : ⊥ = cc in x)
    go false is true many e = absurd (let x : ⊥ = cc in x)
    go false is false many e = (is, let h : length processes < MOST_PROCESSES = grind (arith, nat_tests) in h)

-- what a Map keeps, after one process more with a new name
pub IsIndexed-push : (processes : List Locality) (new : Locality) (ids machines zones halls data_centers ids' machines' zones' halls' data_centers' : Entries) (places : List ValueIndexes) (kept : ValueIndexes)
    → IsIndexed processes ids machines zones halls data_centers places → id_refusal processes new.process ≡ None
    → AddsToIndex ids (Some new.process) (length processes) ids' → AddsToIndex machines (Some new.machine) (length processes) machines' → AddsToIndex zones (Some new.zone) (length processes) zones'
    → AddsToIndex halls new.data_hall (length processes) halls' → AddsToIndex data_centers new.data_center (length processes) data_centers'
    → IsValueIndex (keys_of machines') (Some new.machine) kept.machine → IsValueIndex (keys_of zones') (Some new.zone) kept.zone
    → IsValueIndex (keys_of halls') new.data_hall kept.data_hall → IsValueIndex (keys_of data_centers') new.data_center kept.data_center
    → IsIndexed (processes ++ new ∷ []) ids' machines' zones' halls' data_centers' (places ++ kept ∷ [])
IsIndexed-push processes new ids machines zones halls data_centers ids' machines' zones' halls' data_centers' places kept was taken i m z h c on_machine on_zone in_hall in_center =
    let fresh = not_refused processes new.process taken in
    let own_later = own_names-push processes new was.own fresh.0 in
    let machines_later = IsIndex-push processes new Machine machines machines' was.machines_are m in
    let zones_later = IsIndex-push processes new Zone zones zones' was.zones_are z in
    let halls_later = IsIndex-push processes new DataHall halls halls' was.halls_are h in
    let data_centers_later = IsIndex-push processes new DataCenter data_centers data_centers' was.data_centers_are c in
    record {
      few = let n : length (processes ++ new ∷ []) ≡ length processes + 1 = length_push processes new in let room : length processes < MOST_PROCESSES = fresh.1 in omega arith;
      own = own_later;
      ids_are = IsIndex-push processes new Process ids ids' was.ids_are i;
      machines_are = machines_later;
      zones_are = zones_later;
      halls_are = halls_later;
      data_centers_are = data_centers_later;
      places_are = AreValueIndexes-push processes new places kept was.places_are (λ key. elim key as (λ k. IsValueIndex (values_of (processes ++ new ∷ []) k) (value_in k new) (value_index_in k (length processes) kept)) [
        | Process ↦ own_stands processes new own_later
        | Machine ↦ subst (λ names. IsValueIndex names (Some new.machine) kept.machine) machines_later.seen on_machine
        | Zone ↦ subst (λ names. IsValueIndex names (Some new.zone) kept.zone) zones_later.seen on_zone
        | DataHall ↦ subst (λ names. IsValueIndex names new.data_hall kept.data_hall) halls_later.seen in_hall
        | DataCenter ↦ subst (λ names. IsValueIndex names new.data_center kept.data_center) data_centers_later.seen in_center
      ]);
    }

-- ---- why a name is not taken
module _ (processes : List Locality) (id : List ℕ) where
  pub taken : is_member bytes_eq (values_of processes Process) id ≡ true → id_refusal processes id ≡ Some Twice
  taken there = ap (λ b. cond b (Some Twice) (cond (leb MOST_PROCESSES (length processes)) (Some TooMany) None)) there

  pub full : is_member bytes_eq (values_of processes Process) id ≡ false → MOST_PROCESSES ≤ length processes → id_refusal processes id ≡ Some TooMany
  full absent many =
      let test : leb MOST_PROCESSES (length processes) ≡ true = grind (arith, nat_tests) in
      ap (λ b. cond b (Some Twice) (cond (leb MOST_PROCESSES (length processes)) (Some TooMany) None)) absent ∙ ap (λ b. cond b (Some TooMany) None) test

  pub free : is_member bytes_eq (values_of processes Process) id ≡ false → length processes < MOST_PROCESSES → id_refusal processes id ≡ None
  free absent few =
      let test : leb MOST_PROCESSES (length processes) ≡ false = grind (arith, nat_tests) in
      ap (λ b. cond b (Some Twice) (cond (leb MOST_PROCESSES (length processes)) (Some TooMany) None)) absent ∙ ap (λ b. cond b (Some TooMany) None) test

pub length-keys : (es : Entries) → length es ≡ length (keys_of es)
length-keys [] = refl
length-keys (e ∷ es) = ap suc (length-keys es)

pub AddsToIndex-from : (old was : Entries) (value : Option (List ℕ)) (p n : ℕ) (new : Entries) → AddsToIndex old value p new → old ≡ was → p ≡ n → AddsToIndex was value n new
AddsToIndex-from old was value p n new notes from number = subst (λ es. AddsToIndex es value n new) from (subst (λ k. AddsToIndex old value k new) number notes)

-- equal parts
pub IsIndexed-same : (processes : List Locality) (ids machines zones halls data_centers : Entries) (places : List ValueIndexes) (processes' : List Locality) (ids' machines' zones' halls' data_centers' : Entries) (places' : List ValueIndexes)
    → IsIndexed processes ids machines zones halls data_centers places → processes' ≡ processes → ids' ≡ ids → machines' ≡ machines → zones' ≡ zones → halls' ≡ halls → data_centers' ≡ data_centers → places' ≡ places
    → IsIndexed processes' ids' machines' zones' halls' data_centers' places'
IsIndexed-same processes ids machines zones halls data_centers places processes' ids' machines' zones' halls' data_centers' places' was p i m z h c at = record {
  few = subst (λ ps. length ps ≤ MOST_PROCESSES) (sym p) was.few;
  own = subst (λ ps. filter_map (value_in Process) ps ≡ values_of ps Process) (sym p) was.own;
  ids_are = same Process ids ids' was.ids_are i;
  machines_are = same Machine machines machines' was.machines_are m;
  zones_are = same Zone zones zones' was.zones_are z;
  halls_are = same DataHall halls halls' was.halls_are h;
  data_centers_are = same DataCenter data_centers data_centers' was.data_centers_are c;
  places_are = subst (λ ps. AreValueIndexes ps places') (sym p) (subst (AreValueIndexes processes) (sym at) was.places_are);
}
  where
    same : (key : Key) (es es' : Entries) → IsIndex processes key es → es' ≡ es → IsIndex processes' key es'
    same key es es' is e = subst (λ ps. IsIndex ps key es') (sym p) (subst (λ xs. IsIndex processes key xs) (sym e) is)

pub on_ok : {T E P : Type 0} (r : Result T E) → IsOk r → OnOk r P → P
on_ok (Ok x) ok h = h
on_ok (Err e) ok h = absurd (let x : ⊥ = cc in x)

pub no_name : (processes : List Locality) (new : Locality) → are_names new ≡ false → refusal_of processes new ≡ Some Name
no_name processes new none = ap (λ b. cond b (id_refusal processes new.process) (Some Name)) none

pub named : (processes : List Locality) (new : Locality) → are_names new ≡ true → refusal_of processes new ≡ id_refusal processes new.process
named processes new names = ap (λ b. cond b (id_refusal processes new.process) (Some Name)) names

pub not_true : (b : Bool) → (b ≡ true → false ≡ true) → b ≡ false
not_true true h = sym (h refl)
not_true false h = refl

pub renamed : {T : Type 0} (fault : MapFault) (o : Option MapFault) → o ≡ Some fault → o ≡ Some Name → ◌≡◌ {A = Result T MapFault} (Err Name) (Err fault)
renamed fault o e f = cc

pub unmade : {T : Type 0} (o : Option MapFault) → o ≡ None → o ≡ Some Name → T
unmade o e f = absurd (let x : ⊥ = cc in x)
