-- the numbers of a team's records, and records of which some are changed
use Rattle.std.proofs.Common.{◌≡◌, ℕ, zero, suc, ◌+◌, ◌<◌, ◌≤◌, Bool, true, false, cond, ◌&&◌, ◌||◌, not, eqb, leb, ltb, List, [], ◌∷◌, ◌++◌, length, map, get_or, set, take, refl, sym, ap, ◌∙◌, arith}
use Rattle.std.specs.Prelude.{Option, Some, None, option_map, slice_get}
use Rattle.std.specs.List.{All, list_any}
use Rattle.std.specs.Option.{option_map_or}
use Rattle.std.proofs.lemmas.Bool.Decides.{nat_tests}
use Rattle.std.proofs.lemmas.List.Elements.{All-cons, All-nil, All-weaker}
use Rattle.std.proofs.lemmas.List.Folds.{list_any_more}
use Rattle.std.proofs.lemmas.Option.{none-some, same_Some, slice_get-map, slice_get-get_or, slice_get_past}
use Rattle.fy_locality.specs.declared.ProcId.{ProcId}
use Rattle.fy_team.specs.Teams.{Record, places_from, healed_record}
use Rattle.fy_team.specs.Counts.{Counted, recounted, missing_among}
use Rattle.fy_team.specs.Index.{ChangedAmong, HealedWithin}
use Rattle.fy_team.proofs.Marking.{slice_get-set, same_number}
use Rattle.fy_team.proofs.Keeping.{held}

-- lists that have the same at each place are the same
pub same_at_each : {X : Type 0} (xs ys : List X) → ((i : ℕ) → slice_get xs i ≡ slice_get ys i) → xs ≡ ys
same_at_each [] [] same = refl
same_at_each [] (y ∷ ys) same = absurd (none-some y (same 0))
same_at_each (x ∷ xs) [] same = absurd (none-some x (sym (same 0)))
same_at_each (x ∷ xs) (y ∷ ys) same =
    ap (λ z. z ∷ xs) (same_Some x y (same 0)) ∙ ap (λ zs. y ∷ zs) (same_at_each xs ys (λ i. same (suc i)))

-- ---- the places of a number

-- one more number at the end
pub places_push : (at t : ℕ) (ns : List ℕ) (n : ℕ) → places_from at t (ns ++ n ∷ []) ≡ places_from at t ns ++ cond (eqb n t) ((at + length ns) ∷ []) []
places_push at t [] n = ap (λ k. cond (eqb n t) (k ∷ []) []) (let e : at ≡ at + 0 = omega arith in e)
places_push at t (m ∷ ns) n = go (places_push (at + 1) t ns n) (eqb m t)
  where
    go : places_from (at + 1) t (ns ++ n ∷ []) ≡ places_from (at + 1) t ns ++ cond (eqb n t) ((at + 1 + length ns) ∷ []) [] → (b : Bool)
        → cond b (at ∷ places_from (at + 1) t (ns ++ n ∷ [])) (places_from (at + 1) t (ns ++ n ∷ [])) ≡ cond b (at ∷ places_from (at + 1) t ns) (places_from (at + 1) t ns) ++ cond (eqb n t) ((at + suc (length ns)) ∷ []) []
    go later true = ap (λ xs. at ∷ xs) later ∙ ap (λ k. at ∷ places_from (at + 1) t ns ++ cond (eqb n t) (k ∷ []) []) (let e : at + 1 + length ns ≡ at + suc (length ns) = omega arith in e)
    go later false = later ∙ ap (λ k. places_from (at + 1) t ns ++ cond (eqb n t) (k ∷ []) []) (let e : at + 1 + length ns ≡ at + suc (length ns) = omega arith in e)

-- no place is below the first
places_low : (at t : ℕ) (ns : List ℕ) (r : ℕ) → r < at → list_any (λ n. eqb n r) (places_from at t ns) ≡ false
places_low at t [] r low = refl
places_low at t (n ∷ ns) r low = go (eqb n t) (places_low (at + 1) t ns r (omega arith))
  where
    go : (b : Bool) → list_any (λ n. eqb n r) (places_from (at + 1) t ns) ≡ false → list_any (λ n. eqb n r) (cond b (at ∷ places_from (at + 1) t ns) (places_from (at + 1) t ns)) ≡ false
    go true later = ap (λ b. b || list_any (λ n. eqb n r) (places_from (at + 1) t ns)) (let e : eqb at r ≡ false = grind (arith, nat_tests) in e) ∙ later
    go false later = later

-- a place is listed where the number stands
places_at : (at t : ℕ) (ns : List ℕ) (i : ℕ) → list_any (λ n. eqb n (at + i)) (places_from at t ns) ≡ option_map_or (λ n. eqb n t) (slice_get ns i) false
places_at at t [] i = refl
places_at at t (n ∷ ns) zero = go (eqb n t) (places_low (at + 1) t ns (at + 0) (omega arith))
  where
    go : (b : Bool) → list_any (λ n. eqb n (at + 0)) (places_from (at + 1) t ns) ≡ false → list_any (λ n. eqb n (at + 0)) (cond b (at ∷ places_from (at + 1) t ns) (places_from (at + 1) t ns)) ≡ b
    go true later = ap (λ b. b || list_any (λ n. eqb n (at + 0)) (places_from (at + 1) t ns)) (let e : eqb at (at + 0) ≡ true = grind (arith, nat_tests) in e)
    go false later = later
places_at at t (n ∷ ns) (suc i) = go (eqb n t) (ap (λ k. list_any (λ n. eqb n k) (places_from (at + 1) t ns)) (let e : at + suc i ≡ at + 1 + i = omega arith in e) ∙ places_at (at + 1) t ns i)
  where
    go : (b : Bool) → list_any (λ n. eqb n (at + suc i)) (places_from (at + 1) t ns) ≡ option_map_or (λ n. eqb n t) (slice_get ns i) false
        → list_any (λ n. eqb n (at + suc i)) (cond b (at ∷ places_from (at + 1) t ns) (places_from (at + 1) t ns)) ≡ option_map_or (λ n. eqb n t) (slice_get ns i) false
    go true later = ap (λ b. b || list_any (λ n. eqb n (at + suc i)) (places_from (at + 1) t ns)) (let e : eqb at (at + suc i) ≡ false = grind (arith, nat_tests) in e) ∙ later
    go false later = later

-- no place is past the last
pub places_within : (at t : ℕ) (ns : List ℕ) → All (λ r. r < at + length ns) (places_from at t ns)
places_within at t [] = All-nil (λ r. r < at + 0)
places_within at t (n ∷ ns) = go (eqb n t) (All-weaker (λ r. r < at + 1 + length ns) (λ r. r < at + suc (length ns)) (λ r lt. omega arith) (places_from (at + 1) t ns) (places_within (at + 1) t ns))
  where
    go : (b : Bool) → All (λ r. r < at + suc (length ns)) (places_from (at + 1) t ns) → All (λ r. r < at + suc (length ns)) (cond b (at ∷ places_from (at + 1) t ns) (places_from (at + 1) t ns))
    go true later = All-cons (λ r. r < at + suc (length ns)) at (places_from (at + 1) t ns) (omega arith) later
    go false later = later

-- nor before the first
places_from_first : (at t : ℕ) (ns : List ℕ) → All (λ r. at ≤ r) (places_from at t ns)
places_from_first at t [] = All-nil (λ r. at ≤ r)
places_from_first at t (n ∷ ns) = go (eqb n t) (All-weaker (λ r. at + 1 ≤ r) (λ r. at ≤ r) (λ r le. omega arith) (places_from (at + 1) t ns) (places_from_first (at + 1) t ns))
  where
    go : (b : Bool) → All (λ r. at ≤ r) (places_from (at + 1) t ns) → All (λ r. at ≤ r) (cond b (at ∷ places_from (at + 1) t ns) (places_from (at + 1) t ns))
    go true later = All-cons (λ r. at ≤ r) at (places_from (at + 1) t ns) (omega arith) later
    go false later = later

-- each place stands once
pub places_apart : (at t : ℕ) (ns : List ℕ) (k : ℕ) → k < length (places_from at t ns) → list_any (λ n. eqb n (get_or (places_from at t ns) k 0)) (take k (places_from at t ns)) ≡ false
places_apart at t [] k within = absurd (omega arith)
places_apart at t (n ∷ ns) k within = go (λ j less. places_apart (at + 1) t ns j less) (eqb n t) k within
  where
    go : ((j : ℕ) → j < length (places_from (at + 1) t ns) → list_any (λ n. eqb n (get_or (places_from (at + 1) t ns) j 0)) (take j (places_from (at + 1) t ns)) ≡ false) → (b : Bool) (k : ℕ) → k < length (cond b (at ∷ places_from (at + 1) t ns) (places_from (at + 1) t ns))
        → list_any (λ n. eqb n (get_or (cond b (at ∷ places_from (at + 1) t ns) (places_from (at + 1) t ns)) k 0)) (take k (cond b (at ∷ places_from (at + 1) t ns) (places_from (at + 1) t ns))) ≡ false
    go later true zero within = refl
    go later true (suc j) within =
        let above : at + 1 ≤ get_or (places_from (at + 1) t ns) j 0 = places_from_first (at + 1) t ns j 0 (omega arith) in
        ap (λ b. b || list_any (λ n. eqb n (get_or (places_from (at + 1) t ns) j 0)) (take j (places_from (at + 1) t ns))) (let e : eqb at (get_or (places_from (at + 1) t ns) j 0) ≡ false = grind (arith, nat_tests) in e)
        ∙ later j (omega arith)
    go later false j within = later j within

-- a record's number is listed for its team, and for no other
abbrev pub teams_of : List Counted → List ℕ
teams_of records = map (λ it. it.team) (map held records)

pub listed : (records : List Counted) (t i : ℕ) → list_any (λ n. eqb n i) (places_from 0 t (teams_of records)) ≡ option_map_or (λ n. eqb n t) (option_map (λ (it : Record). it.team) (option_map held (slice_get records i))) false
listed records t i =
    ap (λ k. list_any (λ n. eqb n k) (places_from 0 t (teams_of records))) (let e : i ≡ 0 + i = omega arith in e)
    ∙ places_at 0 t (teams_of records) i
    ∙ ap (λ found. option_map_or (λ n. eqb n t) found false) (slice_get-map (λ (it : Record). it.team) (map held records) i)
    ∙ ap (λ found. option_map_or (λ n. eqb n t) (option_map (λ (it : Record). it.team) found) false) (slice_get-map held records i)

-- ---- records counted anew

pub recounted_twice : (team : ℕ) (members : List ProcId) (it : Counted) → recounted team members (recounted team members it) ≡ recounted team members it
recounted_twice team members it = go (eqb it.held.team team && not it.held.acked) refl
  where
    anew : Counted
    anew = record it { missing = missing_among it.held.marks members }

    go : (b : Bool) → (eqb it.held.team team && not it.held.acked) ≡ b → recounted team members (cond b (record it { missing = missing_among it.held.marks members }) it) ≡ cond b (record it { missing = missing_among it.held.marks members }) it
    go true e = ap (λ b. cond b (record it { missing = missing_among it.held.marks members }) (record it { missing = missing_among it.held.marks members })) e
    go false e = ap (λ b. cond b (record it { missing = missing_among it.held.marks members }) it) e

or_true : (b : Bool) → (b || true) ≡ true
or_true true = refl
or_true false = refl

or_false : (b : Bool) → (b || false) ≡ b
or_false true = refl
or_false false = refl

turned : (a b : ℕ) (c : Bool) → eqb a b ≡ c → eqb b a ≡ c
turned a b true e = grind (arith, nat_tests)
turned a b false e = grind (arith, nat_tests)

-- none before the first
pub changed_none : (f : Counted → Counted) (records : List Counted) → ChangedAmong [] f records records
changed_none f records rec = refl

-- one number more
pub changed_more : (numbers : List ℕ) (k : ℕ) (f : Counted → Counted) → ((x : Counted) → f (f x) ≡ f x) → (old now : List Counted) (it : Counted) → k < length numbers → get_or numbers k 0 < length now
    → it ≡ get_or now (get_or numbers k 0) it → ChangedAmong (take k numbers) f old now → ChangedAmong (take (k + 1) numbers) f old (set now (get_or numbers k 0) (f it))
changed_more numbers k f twice old now it within there value before rec =
    slice_get-set now i rec (f it) there
    ∙ go (eqb rec i) refl
    ∙ ap (λ b. cond b (option_map f (slice_get old rec)) (slice_get old rec)) (sym (list_any_more (λ n. eqb n rec) numbers k 0 within))
  where
    i : ℕ
    i = get_or numbers k 0

    once : (b : Bool) (found : Option Counted) → option_map f (cond b (option_map f found) found) ≡ option_map f found
    once false found = refl
    once true None = refl
    once true (Some x) = ap Some (twice x)

    go : (b : Bool) → eqb rec i ≡ b → cond b (Some (f it)) (slice_get now rec) ≡ cond (list_any (λ n. eqb n rec) (take k numbers) || eqb i rec) (option_map f (slice_get old rec)) (slice_get old rec)
    go true e =
        ap (λ x. Some (f x)) value
        ∙ ap (option_map f) (sym (slice_get-get_or now i it there) ∙ ap (slice_get now) (sym (same_number rec i e)) ∙ before rec)
        ∙ once (list_any (λ n. eqb n rec) (take k numbers)) (slice_get old rec)
        ∙ sym (ap (λ b. cond b (option_map f (slice_get old rec)) (slice_get old rec)) (ap (λ b. list_any (λ n. eqb n rec) (take k numbers) || b) (turned rec i true e) ∙ or_true (list_any (λ n. eqb n rec) (take k numbers))))
    go false e =
        before rec
        ∙ sym (ap (λ b. cond b (option_map f (slice_get old rec)) (slice_get old rec)) (ap (λ b. list_any (λ n. eqb n rec) (take k numbers) || b) (turned rec i false e) ∙ or_false (list_any (λ n. eqb n rec) (take k numbers))))

-- once each number of the team is done, all records are as if each had been looked at
pub recounted_all : (team : ℕ) (members : List ProcId) (old new : List Counted) → ChangedAmong (places_from 0 team (teams_of old)) (recounted team members) old new → new ≡ map (recounted team members) old
recounted_all team members old new changed =
    same_at_each new (map (recounted team members) old)
    (λ i. changed i
    ∙ ap (λ b. cond b (option_map (recounted team members) (slice_get old i)) (slice_get old i)) (listed old team i)
    ∙ go (slice_get old i)
    ∙ sym (slice_get-map (recounted team members) old i))
  where
    one : (it : Counted) (b : Bool) → eqb it.held.team team ≡ b → cond b (Some (recounted team members it)) (Some it) ≡ Some (recounted team members it)
    one it true e = refl
    one it false e = ap Some (sym (ap (λ b. cond (b && not it.held.acked) (record it { missing = missing_among it.held.marks members }) it) e))

    go : (found : Option Counted) → cond (option_map_or (λ n. eqb n team) (option_map (λ (it : Record). it.team) (option_map held found)) false) (option_map (recounted team members) found) found ≡ option_map (recounted team members) found
    go None = refl
    go (Some it) = one it (eqb it.held.team team) refl

-- ---- records healed

pub healed_none : (first p : ℕ) (records : List Record) → HealedWithin first first p records records
healed_none first p records rec = ap (λ b. cond b (option_map (healed_record p) (slice_get records rec)) (slice_get records rec)) (let e : false ≡ (leb first rec && ltb rec first) = grind (arith, nat_tests) in e)

-- one record more
pub healed_more : (first at p : ℕ) (was now : List Record) (x it : Record) → first ≤ at → at < length now → slice_get now at ≡ Some it → x ≡ healed_record p it
    → HealedWithin first at p was now → HealedWithin first (at + 1) p was (set now at x)
healed_more first at p was now x it low within there is before rec = slice_get-set now at rec x within ∙ go (eqb rec at) refl
  where
    go : (b : Bool) → eqb rec at ≡ b → cond b (Some x) (slice_get now rec) ≡ cond (leb first rec && ltb rec (at + 1)) (option_map (healed_record p) (slice_get was rec)) (slice_get was rec)
    go true e =
        let same : rec ≡ at = same_number rec at e in
        let before_at : slice_get now rec ≡ slice_get was rec = before rec ∙ ap (λ b. cond b (option_map (healed_record p) (slice_get was rec)) (slice_get was rec)) (let t : (leb first rec && ltb rec at) ≡ false = grind (arith, nat_tests) in t) in
        ap Some is
        ∙ ap (option_map (healed_record p)) (sym there ∙ ap (slice_get now) (sym same) ∙ before_at)
        ∙ ap (λ b. cond b (option_map (healed_record p) (slice_get was rec)) (slice_get was rec)) (let t : true ≡ (leb first rec && ltb rec (at + 1)) = grind (arith, nat_tests) in t)
    go false e =
        before rec
        ∙ ap (λ b. cond (leb first rec && b) (option_map (healed_record p) (slice_get was rec)) (slice_get was rec)) (let t : ltb rec at ≡ ltb rec (at + 1) = grind (arith, nat_tests) in t)

-- up to where there are no more
pub healed_past : (first at end p : ℕ) (was now : List Record) → ((rec : ℕ) → at ≤ rec → rec < end → length was ≤ rec) → at ≤ end → HealedWithin first at p was now → HealedWithin first end p was now
healed_past first at end p was now past low before rec = before rec ∙ go (ltb rec at) refl (ltb rec end) refl
  where
    go : (b : Bool) → ltb rec at ≡ b → (c : Bool) → ltb rec end ≡ c → cond (leb first rec && ltb rec at) (option_map (healed_record p) (slice_get was rec)) (slice_get was rec) ≡ cond (leb first rec && ltb rec end) (option_map (healed_record p) (slice_get was rec)) (slice_get was rec)
    go true e c d = ap (λ b. cond (leb first rec && b) (option_map (healed_record p) (slice_get was rec)) (slice_get was rec)) (let t : ltb rec at ≡ ltb rec end = grind (arith, nat_tests) in t)
    go false e false d = ap (λ b. cond (leb first rec && b) (option_map (healed_record p) (slice_get was rec)) (slice_get was rec)) (e ∙ sym d)
    go false e true d =
        let none : slice_get was rec ≡ None = slice_get_past was rec (past rec (grind (arith, nat_tests)) (grind (arith, nat_tests))) in
        ap (λ found. cond (leb first rec && ltb rec at) (option_map (healed_record p) found) found) none
        ∙ nothing (leb first rec && ltb rec at)
        ∙ sym (nothing (leb first rec && ltb rec end))
        ∙ sym (ap (λ found. cond (leb first rec && ltb rec end) (option_map (healed_record p) found) found) none)
      where
        nothing : (b : Bool) → cond b (option_map (healed_record p) None) None ≡ None
        nothing true = refl
        nothing false = refl

-- from one place to a second, and from there to a third
pub healed_on : (a b c p : ℕ) (x y z : List Record) → a ≤ b → b ≤ c → HealedWithin a b p x y → HealedWithin b c p y z → HealedWithin a c p x z
healed_on a b c p x y z ab bc one two rec = two rec ∙ go (ltb rec b) refl
  where
    go : (t : Bool) → ltb rec b ≡ t → cond (leb b rec && ltb rec c) (option_map (healed_record p) (slice_get y rec)) (slice_get y rec) ≡ cond (leb a rec && ltb rec c) (option_map (healed_record p) (slice_get x rec)) (slice_get x rec)
    go true e =
        ap (λ t. cond t (option_map (healed_record p) (slice_get y rec)) (slice_get y rec)) (let t : (leb b rec && ltb rec c) ≡ false = grind (arith, nat_tests) in t)
        ∙ one rec
        ∙ ap (λ t. cond (leb a rec && t) (option_map (healed_record p) (slice_get x rec)) (slice_get x rec)) (let t : ltb rec b ≡ ltb rec c = grind (arith, nat_tests) in t)
    go false e =
        let same : slice_get y rec ≡ slice_get x rec = one rec ∙ ap (λ t. cond t (option_map (healed_record p) (slice_get x rec)) (slice_get x rec)) (let t : (leb a rec && ltb rec b) ≡ false = grind (arith, nat_tests) in t) in
        ap (λ found. cond (leb b rec && ltb rec c) (option_map (healed_record p) found) found) same
        ∙ ap (λ t. cond (t && ltb rec c) (option_map (healed_record p) (slice_get x rec)) (slice_get x rec)) (let t : leb b rec ≡ leb a rec = grind (arith, nat_tests) in t)

-- and so from the first to the last
pub healed_all : (end p : ℕ) (was now : List Record) → length was ≤ end → HealedWithin 0 end p was now → now ≡ map (healed_record p) was
healed_all end p was now past healed = same_at_each now (map (healed_record p) was) (λ i. healed i ∙ go i (ltb i end) refl ∙ sym (slice_get-map (healed_record p) was i))
  where
    go : (i : ℕ) (b : Bool) → ltb i end ≡ b → cond (leb 0 i && ltb i end) (option_map (healed_record p) (slice_get was i)) (slice_get was i) ≡ option_map (healed_record p) (slice_get was i)
    go i true e = ap (λ b. cond b (option_map (healed_record p) (slice_get was i)) (slice_get was i)) (let t : (leb 0 i && ltb i end) ≡ true = grind (arith, nat_tests) in t)
    go i false e =
        let none : slice_get was i ≡ None = slice_get_past was i (let l : length was ≤ i = grind (arith, nat_tests) in l) in
        ap (λ b. cond b (option_map (healed_record p) (slice_get was i)) (slice_get was i)) (let t : (leb 0 i && ltb i end) ≡ false = grind (arith, nat_tests) in t)
        ∙ none
        ∙ sym (ap (option_map (healed_record p)) none)
