-- what is kept beside teams and records, from one call to the next
use Rattle.std.proofs.Common.{◌≡◌, ◌≢◌, ℕ, zero, suc, ◌+◌, ◌*◌, ◌<◌, ◌≤◌, Bool, true, false, true≢false, cond, ◌&&◌, ◌||◌, not, eqb, leb, ltb, List, [], ◌∷◌, ◌++◌, length, length-append, map, get_or, set, refl, sym, ap, subst, ◌∙◌, arith, inl, inr}
use mathlib.Core.Logic.{◌⊎◌}
use Rattle.std.specs.Prelude.{Option, Some, None, option_map, slice_get}
use Rattle.std.specs.List.{All}
use Rattle.std.specs.Option.{option_map_or}
use Rattle.std.specs.Ordering.{nat_cmp}
use Rattle.std.specs.FinSet as sets
use Rattle.std.proofs.lemmas.Bool.Decides.{nat_tests}
use Rattle.std.proofs.lemmas.List.{length-map, length-set, map-append, map-set, get_or-map, get_or-set_same, get_or-set_other, get_or_default, set-get_or}
use Rattle.std.proofs.lemmas.List.Elements.{All-weaker}
use Rattle.std.proofs.lemmas.Option.{slice_get_within, none-some, same_Some, slice_get-map, slice_get-get_or}
use Rattle.fy_team.specs.Teams.{Team, Record, is_among, with_member, places_from, records_of, unmarked, healed_record}
use Rattle.fy_team.specs.Counts.{Counted, TeamsInvariant, roster_of}
use Rattle.fy_locality.specs.declared.ProcId.{ProcId}
use Rattle.fy_team.specs.Index.{SetsRight, MarksSeen, TeamsKept, set_of_block, HealedWithin}
use Rattle.fy_team.specs.declared.blocks.TheConstants.{BLOCK}
use Rattle.fy_team.proofs.Marking.{slice_get-set, same_number, healed_record-team}
use Rattle.fy_team.proofs.Counting.{remove_absent, has_inserted, has_removed}
use Rattle.fy_team.proofs.Swapping.{among-swapped}
use Rattle.fy_team.proofs.Keeping.{held}
use Rattle.fy_team.proofs.Indexing.{places_push, places_within, teams_of}

abbrev pub Sets : Type 0
Sets = List (sets.FinSet nat_cmp)

-- one empty element more leaves what is read
pub read_more : {X : Type 0} (xs : List X) (d : X) (i : ℕ) → get_or (xs ++ d ∷ []) i d ≡ get_or xs i d
read_more [] d zero = refl
read_more [] d (suc i) = refl
read_more (x ∷ xs) d zero = refl
read_more (x ∷ xs) d (suc i) = read_more xs d i

-- ---- no teams

pub TeamsKept-none : TeamsInvariant [] [] → TeamsKept [] [] [] []
TeamsKept-none counts = record {
  counts = counts;
  lists = omega arith;
  each = λ team. refl;
  blocks = record { room = omega arith; few = omega arith; seen = λ block rec p it low high there. absurd (none-some it there) };
}

-- ---- a team more

pub TeamsKept-formed : (teams : List Team) (records : List Counted) (numbers : List (List ℕ)) (marked : Sets) (team : Team) → TeamsInvariant (teams ++ team ∷ []) records → TeamsKept teams records numbers marked
    → TeamsKept (teams ++ team ∷ []) records (numbers ++ [] ∷ []) marked
TeamsKept-formed teams records numbers marked team counts kept = record {
  counts = counts;
  lists = omega (arith, kept.lists, length-append numbers ([] ∷ []), length-append teams (team ∷ []));
  each = λ t. read_more numbers [] t ∙ kept.each t;
  blocks = kept.blocks;
}

-- ---- a record more

pub TeamsKept-opened : (teams : List Team) (records : List Counted) (numbers : List (List ℕ)) (marked opened : Sets) → BLOCK * length opened ≤ length records + BLOCK → length records ≤ BLOCK * length opened
    → ((block : ℕ) → set_of_block opened block ≡ set_of_block marked block) → TeamsKept teams records numbers marked → TeamsKept teams records numbers opened
TeamsKept-opened teams records numbers marked opened few room same kept = record {
  counts = kept.counts;
  lists = kept.lists;
  each = kept.each;
  blocks = record {
    room = omega (arith, room, length-map records held);
    few = omega (arith, few, length-map records held);
    seen = λ block rec p it low high there unacked has. ap (λ s. sets.contains s p) (same block) ∙ kept.blocks.seen block rec p it low high there unacked has;
  };
}

begun_there : (records : List Record) (x it : Record) (rec : ℕ) → slice_get (records ++ x ∷ []) rec ≡ Some it → (rec < length records) × (slice_get records rec ≡ Some it) ⊎ (it ≡ x)
begun_there [] x it zero there = inr (same_Some it x (sym there))
begun_there [] x it (suc rec) there = absurd (none-some it there)
begun_there (y ∷ ys) x it zero there = inl (omega arith, there)
begun_there (y ∷ ys) x it (suc rec) there = elim (begun_there ys x it rec there) [ inl h ↦ inl (omega (arith, h.0), h.1) | inr e ↦ inr e ]

pub TeamsKept-begun : (teams : List Team) (records : List Counted) (numbers : List (List ℕ)) (marked : Sets) (x : Counted) (team : ℕ) (payload : List ℕ) (was : List ℕ)
    → x.held ≡ unmarked team payload → team < length teams → length records < BLOCK * length marked → was ≡ get_or numbers team was → TeamsInvariant teams (records ++ x ∷ [])
    → TeamsKept teams records numbers marked → TeamsKept teams (records ++ x ∷ []) (set numbers team (was ++ length records ∷ [])) marked
TeamsKept-begun teams records numbers marked x team payload was is within room value counts kept = record {
  counts = counts;
  lists = omega (arith, kept.lists, length-set numbers team (was ++ length records ∷ []));
  each = λ t. each t (eqb t team) refl;
  blocks = record {
    room = omega (arith, room, longer);
    few = omega (arith, kept.blocks.few, longer, length-map records held);
    seen = λ block rec p it low high there unacked has. elim (begun_there (map held records) x.held it rec (ap (λ rs. slice_get rs rec) (sym shown) ∙ there)) [
      | inl h ↦ kept.blocks.seen block rec p it low high h.1 unacked has
      | inr e ↦ absurd (true≢false (sym has ∙ ap (λ (r : Record). sets.contains r.marks p) (e ∙ is) ∙ sets.contains-empty nat_cmp p))
    ];
  };
}
  where
    shown : map held (records ++ x ∷ []) ≡ map held records ++ x.held ∷ []
    shown = map-append held records (x ∷ [])

    longer : length (map held (records ++ x ∷ [])) ≡ suc (length records)
    longer = omega (arith, length-map (records ++ x ∷ []) held, length-append records (x ∷ []))

    there_is : team < length numbers
    there_is = omega (arith, kept.lists)

    more : (t : ℕ) → places_from 0 t (teams_of (records ++ x ∷ [])) ≡ places_from 0 t (teams_of records) ++ cond (eqb team t) (length records ∷ []) []
    more t =
        ap (λ rs. places_from 0 t (map (λ (it : Record). it.team) rs)) shown
        ∙ ap (places_from 0 t) (map-append (λ (it : Record). it.team) (map held records) (x.held ∷ []))
        ∙ places_push 0 t (teams_of records) x.held.team
        ∙ ap (λ n. places_from 0 t (teams_of records) ++ cond (eqb n t) ((0 + length (teams_of records)) ∷ []) []) (ap (λ (r : Record). r.team) is)
        ∙ ap (λ n. places_from 0 t (teams_of records) ++ cond (eqb team t) (n ∷ []) []) (let e : 0 + length (teams_of records) ≡ length records = omega (arith, length-map (map held records) (λ (it : Record). it.team), length-map records held) in e)

    none_more : (xs : List ℕ) → xs ≡ xs ++ []
    none_more [] = refl
    none_more (y ∷ ys) = ap (λ zs. y ∷ zs) (none_more ys)

    each : (t : ℕ) (b : Bool) → eqb t team ≡ b → get_or (set numbers team (was ++ length records ∷ [])) t [] ≡ records_of (roster_of teams (records ++ x ∷ [])) t
    each t true e =
        let same : t ≡ team = same_number t team e in
        ap (λ n. get_or (set numbers team (was ++ length records ∷ [])) n []) same
        ∙ get_or-set_same numbers team (was ++ length records ∷ []) [] there_is
        ∙ ap (λ xs. xs ++ length records ∷ []) (value ∙ get_or_default numbers team was [] there_is ∙ ap (λ n. get_or numbers n []) (sym same) ∙ kept.each t)
        ∙ ap (λ b. places_from 0 t (teams_of records) ++ cond b (length records ∷ []) []) (let f : true ≡ eqb team t = grind (arith, nat_tests) in f)
        ∙ sym (more t)
    each t false e =
        get_or-set_other numbers team t (was ++ length records ∷ []) [] (let ne : t ≢ team = grind (arith, nat_tests) in ne)
        ∙ kept.each t
        ∙ none_more (places_from 0 t (teams_of records))
        ∙ ap (λ b. places_from 0 t (teams_of records) ++ cond b (length records ∷ []) []) (let f : false ≡ eqb team t = grind (arith, nat_tests) in f)
        ∙ sym (more t)

-- ---- records that keep their teams

-- a record changed, and not its team
pub teams-set : (records : List Counted) (i : ℕ) (x d : Counted) → i < length records → x.held.team ≡ (get_or records i d).held.team → teams_of (set records i x) ≡ teams_of records
teams-set records i x d within same =
    ap (map (λ (it : Record). it.team)) (map-set held records i x)
    ∙ map-set (λ (it : Record). it.team) (map held records) i x.held
    ∙ ap (set (teams_of records) i) (same ∙ sym (get_or-map (λ (it : Record). it.team) (map held records) i d.held d.held.team (omega (arith, length-map records held)) ∙ ap (λ (r : Record). r.team) (get_or-map held records i d d.held within)))
    ∙ set-get_or (teams_of records) i d.held.team

same_block : (a b rec : ℕ) → BLOCK * a ≤ rec → rec < BLOCK * a + BLOCK → BLOCK * b ≤ rec → rec < BLOCK * b + BLOCK → a ≡ b
same_block a b rec al ah bl bh = omega arith

-- a record marked, and its marker put into the set of its block
pub TeamsKept-marked : (teams : List Team) (records : List Counted) (numbers : List (List ℕ)) (marked : Sets) (rec p block : ℕ) (x it : Counted) (was : sets.FinSet nat_cmp)
    → rec < length records → it ≡ get_or records rec it → BLOCK * block ≤ rec → rec < BLOCK * block + BLOCK → block < length marked → was ≡ get_or marked block was
    → x.held.team ≡ it.held.team → x.held.marks ≡ sets.insert it.held.marks p → (x.held.acked ≡ false → it.held.acked ≡ false)
    → TeamsInvariant teams (set records rec x) → TeamsKept teams records numbers marked → TeamsKept teams (set records rec x) numbers (set marked block (sets.insert was p))
TeamsKept-marked teams records numbers marked rec p block x it was within value low high there held_is team marks unacked counts kept = record {
  counts = counts;
  lists = kept.lists;
  each = λ t. kept.each t ∙ ap (places_from 0 t) (sym (teams-set records rec x it within (team ∙ ap (λ (y : Counted). y.held.team) value)));
  blocks = record {
    room = omega (arith, kept.blocks.room, length-set marked block (sets.insert was p), length-map (set records rec x) held, length-map records held, length-set records rec x);
    few = omega (arith, kept.blocks.few, length-set marked block (sets.insert was p), length-map (set records rec x) held, length-map records held, length-set records rec x);
    seen = seen;
  };
}
  where
    kept_in : (b q : ℕ) → sets.contains (set_of_block marked b) q ≡ true → sets.contains (set_of_block (set marked block (sets.insert was p)) b) q ≡ true
    kept_in b q had = go (eqb b block) refl
      where
        go : (t : Bool) → eqb b block ≡ t → sets.contains (set_of_block (set marked block (sets.insert was p)) b) q ≡ true
        go true e =
            ap (λ n. sets.contains (set_of_block (set marked block (sets.insert was p)) n) q) (same_number b block e)
            ∙ ap (λ s. sets.contains s q) (get_or-set_same marked block (sets.insert was p) sets.empty there)
            ∙ has_inserted was p q
            ∙ ap (λ c. eqb q p || c) (ap (λ s. sets.contains s q) (held_is ∙ get_or_default marked block was sets.empty there) ∙ ap (λ n. sets.contains (set_of_block marked n) q) (sym (same_number b block e)) ∙ had)
            ∙ either (eqb q p)
          where
            either : (c : Bool) → (c || true) ≡ true
            either true = refl
            either false = refl
        go false e = ap (λ s. sets.contains s q) (get_or-set_other marked block b (sets.insert was p) sets.empty (let ne : b ≢ block = grind (arith, nat_tests) in ne)) ∙ had

    own : (q : ℕ) → eqb q p ≡ true → sets.contains (set_of_block (set marked block (sets.insert was p)) block) q ≡ true
    own q e =
        ap (λ s. sets.contains s q) (get_or-set_same marked block (sets.insert was p) sets.empty there)
        ∙ has_inserted was p q
        ∙ ap (λ c. c || sets.contains was q) e

    at : (r : ℕ) → slice_get (map held (set records rec x)) r ≡ cond (eqb r rec) (Some x.held) (slice_get (map held records) r)
    at r = ap (λ rs. slice_get rs r) (map-set held records rec x) ∙ slice_get-set (map held records) rec r x.held (omega (arith, length-map records held))

    before : slice_get (map held records) rec ≡ Some it.held
    before = slice_get-map held records rec ∙ ap (option_map held) (slice_get-get_or records rec it within ∙ ap Some (sym value))

    seen : (b r q : ℕ) (y : Record) → BLOCK * b ≤ r → r < BLOCK * b + BLOCK → slice_get (map held (set records rec x)) r ≡ Some y → y.acked ≡ false → sets.contains y.marks q ≡ true
        → sets.contains (set_of_block (set marked block (sets.insert was p)) b) q ≡ true
    seen b r q y bl bh is opened has = go (eqb r rec) refl
      where
        go : (t : Bool) → eqb r rec ≡ t → sets.contains (set_of_block (set marked block (sets.insert was p)) b) q ≡ true
        go false e = kept_in b q (kept.blocks.seen b r q y bl bh (sym (at r ∙ ap (λ t. cond t (Some x.held) (slice_get (map held records) r)) e) ∙ is) opened has)
        go true e = mine (eqb q p) refl
          where
            same : x.held ≡ y
            same = same_Some x.held y (sym (at r ∙ ap (λ t. cond t (Some x.held) (slice_get (map held records) r)) e) ∙ is)

            mine : (t : Bool) → eqb q p ≡ t → sets.contains (set_of_block (set marked block (sets.insert was p)) b) q ≡ true
            mine true f =
                let here : b ≡ block = same_block b block r bl bh (omega (arith, low, same_number r rec e)) (omega (arith, high, same_number r rec e)) in
                ap (λ n. sets.contains (set_of_block (set marked block (sets.insert was p)) n) q) here ∙ own q f
            mine false f =
                let had : sets.contains it.held.marks q ≡ true =
                sym (has_inserted it.held.marks p q ∙ ap (λ c. c || sets.contains it.held.marks q) f) ∙ ap (λ s. sets.contains s q) (sym marks) ∙ ap (λ (z : Record). sets.contains z.marks q) same ∙ has in
                kept_in b q (kept.blocks.seen b r q it.held bl bh (ap (slice_get (map held records)) (same_number r rec e) ∙ before) (unacked (ap (λ (z : Record). z.acked) same ∙ opened)) had)

-- the same records counted anew, of teams with other members
pub TeamsKept-counted : (teams others : List Team) (records anew : List Counted) (numbers : List (List ℕ)) (marked : Sets) → length others ≡ length teams → map held anew ≡ map held records
    → TeamsInvariant others anew → TeamsKept teams records numbers marked → TeamsKept others anew numbers marked
TeamsKept-counted teams others records anew numbers marked count same counts kept = record {
  counts = counts;
  lists = omega (arith, kept.lists, count);
  each = λ t. kept.each t ∙ ap (λ rs. places_from 0 t (map (λ (it : Record). it.team) rs)) (sym same);
  blocks = subst (λ rs. MarksSeen rs marked) (sym same) kept.blocks;
}

-- the numbers that are read for a team
pub numbers_read : (teams : List Team) (records : List Counted) (numbers : List (List ℕ)) (marked : Sets) (team : ℕ) (s : List ℕ) → team < length teams → s ≡ get_or numbers team s → TeamsKept teams records numbers marked
    → s ≡ records_of (roster_of teams records) team
numbers_read teams records numbers marked team s within value kept =
    let there : team < length numbers = omega (arith, kept.lists) in
    value ∙ get_or_default numbers team s [] there ∙ kept.each team

-- are those of records that are there
pub numbers_within : (records : List Counted) (team : ℕ) → All (λ rec. rec < length records) (places_from 0 team (teams_of records))
numbers_within records team =
    All-weaker (λ r. r < 0 + length (teams_of records)) (λ r. r < length records) (λ r lt. omega (arith, length-map (map held records) (λ (it : Record). it.team), length-map records held)) (places_from 0 team (teams_of records)) (places_within 0 team (teams_of records))

-- ---- a heal

-- a heal leaves each record its team
pub teams_healed : (p : ℕ) (records : List Record) → map (λ (it : Record). it.team) (map (healed_record p) records) ≡ map (λ (it : Record). it.team) records
teams_healed p [] = refl
teams_healed p (it ∷ records) = ap (λ n. n ∷ map (λ (it : Record). it.team) (map (healed_record p) records)) (healed_record-team p it) ∙ ap (λ ns. it.team ∷ ns) (teams_healed p records)

-- nothing to take off in a block where the process has no mark
pub healed_apart : (records : List Record) (marked : Sets) (block p : ℕ) → MarksSeen records marked → sets.contains (set_of_block marked block) p ≡ false → HealedWithin (BLOCK * block) (BLOCK * block + BLOCK) p records records
healed_apart records marked block p seen apart rec = go (leb (BLOCK * block) rec) refl (ltb rec (BLOCK * block + BLOCK)) refl (slice_get records rec) refl
  where
    unmarked_by : (it : Record) → BLOCK * block ≤ rec → rec < BLOCK * block + BLOCK → slice_get records rec ≡ Some it → (a : Bool) → it.acked ≡ a → it ≡ cond a it (record it { marks = sets.remove it.marks p })
    unmarked_by it low high there true e = refl
    unmarked_by it low high there false e = absent (sets.contains it.marks p) refl
      where
        absent : (b : Bool) → sets.contains it.marks p ≡ b → it ≡ record it { marks = sets.remove it.marks p }
        absent true f = absurd (true≢false (sym (seen.seen block rec p it low high there e f) ∙ apart))
        absent false f = ap (λ marks. record it { marks = marks }) (remove_absent it.marks p f)

    go : (a : Bool) → leb (BLOCK * block) rec ≡ a → (b : Bool) → ltb rec (BLOCK * block + BLOCK) ≡ b → (found : Option Record) → slice_get records rec ≡ found → found ≡ cond (a && b) (option_map (healed_record p) found) found
    go false e b f found is = refl
    go true e false f found is = refl
    go true e true f None is = refl
    go true e true f (Some it) is = ap Some (unmarked_by it (grind (arith, nat_tests)) (grind (arith, nat_tests)) is it.acked refl)

-- once the block is healed the process has no mark in it
pub MarksSeen-healed : (was now : List Record) (marked : Sets) (block p : ℕ) (s : sets.FinSet nat_cmp) → block < length marked → s ≡ get_or marked block s → length now ≡ length was → HealedWithin (BLOCK * block) (BLOCK * block + BLOCK) p was now
    → MarksSeen was marked → MarksSeen now (set marked block (sets.remove s p))
MarksSeen-healed was now marked block p s there value count healed before = record {
  room = omega (arith, before.room, count, length-set marked block (sets.remove s p));
  few = omega (arith, before.few, count, length-set marked block (sets.remove s p));
  seen = seen;
}
  where
    removed : (b : Bool) → b ≡ false → (c : Bool) → c ≡ true → (not b && c) ≡ true
    removed b e c f = ap (λ b. not b && c) e ∙ f

    still : (q : ℕ) → eqb q p ≡ false → sets.contains (set_of_block marked block) q ≡ true → sets.contains (set_of_block (set marked block (sets.remove s p)) block) q ≡ true
    still q e had =
        ap (λ z. sets.contains z q) (get_or-set_same marked block (sets.remove s p) sets.empty there)
        ∙ has_removed s p q
        ∙ removed (eqb q p) e (sets.contains s q) (ap (λ z. sets.contains z q) (value ∙ get_or_default marked block s sets.empty there) ∙ had)

    inside : (b r q : ℕ) (y x : Record) → b ≡ block → slice_get was r ≡ Some x → BLOCK * b ≤ r → r < BLOCK * b + BLOCK → (a : Bool) → x.acked ≡ a → y ≡ cond a x (record x { marks = sets.remove x.marks p }) → y.acked ≡ false → sets.contains y.marks q ≡ true
        → sets.contains (set_of_block (set marked block (sets.remove s p)) block) q ≡ true
    inside b r q y x here is low high true e same unacked has = absurd (true≢false (sym e ∙ ap (λ (z : Record). z.acked) (sym same) ∙ unacked))
    inside b r q y x here is low high false e same unacked has = go (eqb q p) refl
      where
        both : (not (eqb q p) && sets.contains x.marks q) ≡ true
        both = sym (has_removed x.marks p q) ∙ ap (λ (z : Record). sets.contains z.marks q) (sym same) ∙ has

        go : (t : Bool) → eqb q p ≡ t → sets.contains (set_of_block (set marked block (sets.remove s p)) block) q ≡ true
        go true f = absurd (true≢false (sym both ∙ ap (λ t. not t && sets.contains x.marks q) f))
        go false f = still q f (ap (λ n. sets.contains (set_of_block marked n) q) (sym here) ∙ before.seen b r q x low high is e (sym (ap (λ t. not t && sets.contains x.marks q) f) ∙ both))

    within : (b r q : ℕ) (y : Record) → b ≡ block → BLOCK * b ≤ r → r < BLOCK * b + BLOCK → (found : Option Record) → slice_get was r ≡ found → option_map (healed_record p) found ≡ Some y → y.acked ≡ false → sets.contains y.marks q ≡ true
        → sets.contains (set_of_block (set marked block (sets.remove s p)) block) q ≡ true
    within b r q y here low high None is same unacked has = absurd (none-some y same)
    within b r q y here low high (Some x) is same unacked has = inside b r q y x here is low high x.acked refl (same_Some y (healed_record p x) (sym same)) unacked has

    seen : (b r q : ℕ) (y : Record) → BLOCK * b ≤ r → r < BLOCK * b + BLOCK → slice_get now r ≡ Some y → y.acked ≡ false → sets.contains y.marks q ≡ true → sets.contains (set_of_block (set marked block (sets.remove s p)) b) q ≡ true
    seen b r q y low high is unacked has = go (eqb b block) refl
      where
        go : (t : Bool) → eqb b block ≡ t → sets.contains (set_of_block (set marked block (sets.remove s p)) b) q ≡ true
        go true e =
            let here : b ≡ block = same_number b block e in
            let test : (leb (BLOCK * block) r && ltb r (BLOCK * block + BLOCK)) ≡ true = grind (arith, nat_tests) in
            ap (λ n. sets.contains (set_of_block (set marked block (sets.remove s p)) n) q) here
            ∙ within b r q y here low high (slice_get was r) refl (sym (healed r ∙ ap (λ t. cond t (option_map (healed_record p) (slice_get was r)) (slice_get was r)) test) ∙ is) unacked has
        go false e =
            let other : b ≢ block = grind (arith, nat_tests) in
            let test : (leb (BLOCK * block) r && ltb r (BLOCK * block + BLOCK)) ≡ false = outside b block r low high other (leb (BLOCK * block) r) refl (ltb r (BLOCK * block + BLOCK)) refl in
            ap (λ z. sets.contains z q) (get_or-set_other marked block b (sets.remove s p) sets.empty other)
            ∙ before.seen b r q y low high (sym (healed r ∙ ap (λ t. cond t (option_map (healed_record p) (slice_get was r)) (slice_get was r)) test) ∙ is) unacked has
          where
            outside : (b c r : ℕ) → BLOCK * b ≤ r → r < BLOCK * b + BLOCK → b ≢ c → (t : Bool) → leb (BLOCK * c) r ≡ t → (u : Bool) → ltb r (BLOCK * c + BLOCK) ≡ u → (t && u) ≡ false
            outside b c r low high other false e u f = refl
            outside b c r low high other true e false f = refl
            outside b c r low high other true e true f = absurd (other (same_block b c r low high (grind (arith, nat_tests)) (grind (arith, nat_tests))))

-- ---- the members of each team as a set

abbrev pub member_of : List Team → ℕ → ℕ → Bool
member_of teams team p = option_map_or (λ members. is_among members p) (option_map (λ (it : Team). it.members) (slice_get teams team)) false

pub SetsRight-none : SetsRight [] []
SetsRight-none = record { count = refl; each = λ team p. sets.contains-empty nat_cmp p }

each_formed : (teams : List Team) (members : Sets) (team : Team) (s : sets.FinSet nat_cmp) → ((q : ℕ) → sets.contains s q ≡ is_among team.members q) → length members ≡ length teams
    → ((t p : ℕ) → sets.contains (get_or members t sets.empty) p ≡ member_of teams t p)
    → (t p : ℕ) → sets.contains (get_or (members ++ s ∷ []) t sets.empty) p ≡ member_of (teams ++ team ∷ []) t p
each_formed [] [] team s is count each zero p = is p
each_formed [] [] team s is count each (suc t) p = sets.contains-empty nat_cmp p
each_formed [] (x ∷ xs) team s is count each t p = absurd (omega arith)
each_formed (y ∷ ys) [] team s is count each t p = absurd (omega arith)
each_formed (y ∷ ys) (x ∷ xs) team s is count each zero p = each 0 p
each_formed (y ∷ ys) (x ∷ xs) team s is count each (suc t) p = each_formed ys xs team s is (omega arith) (λ u q. each (suc u) q) t p

pub SetsRight-formed : (teams : List Team) (members : Sets) (team : Team) (s : sets.FinSet nat_cmp) → ((q : ℕ) → sets.contains s q ≡ is_among team.members q) → SetsRight teams members → SetsRight (teams ++ team ∷ []) (members ++ s ∷ [])
SetsRight-formed teams members team s is right = record {
  count = omega (arith, right.count, length-append teams (team ∷ []), length-append members (s ∷ []));
  each = each_formed teams members team s is right.count right.each;
}

-- what is read for a team has its members
pub set_read : (teams : List Team) (members : Sets) (team : ℕ) (was : Team) (s : sets.FinSet nat_cmp) (q : ℕ) → slice_get teams team ≡ Some was → s ≡ get_or members team s → SetsRight teams members → sets.contains s q ≡ is_among was.members q
set_read teams members team was s q there value right =
    let lt : team < length members = omega (arith, right.count, slice_get_within teams team was there) in
    ap (λ z. sets.contains z q) (value ∙ get_or_default members team s sets.empty lt)
    ∙ right.each team q
    ∙ ap (λ found. option_map_or (λ ms. is_among ms q) (option_map (λ (it : Team). it.members) found) false) there

pub SetsRight-replaced : (teams : List Team) (members : Sets) (team : ℕ) (out into : ProcId) (was : Team) (s new : sets.FinSet nat_cmp) → slice_get teams team ≡ Some was → s ≡ get_or members team s
    → ((q : ℕ) → sets.contains new q ≡ (eqb q into.0 || (not (eqb q out.0) && sets.contains s q))) → SetsRight teams members → SetsRight (set teams team (with_member out into was)) (set members team new)
SetsRight-replaced teams members team out into was s new there value swaps right = record {
  count = length-set members team new ∙ right.count ∙ sym (length-set teams team (with_member out into was));
  each = λ t p. go t p (eqb t team) refl;
}
  where
    lt : team < length members
    lt = omega (arith, right.count, slice_get_within teams team was there)

    shown : (t : ℕ) → slice_get (set teams team (with_member out into was)) t ≡ cond (eqb t team) (Some (with_member out into was)) (slice_get teams t)
    shown t = slice_get-set teams team t (with_member out into was) (slice_get_within teams team was there)

    go : (t p : ℕ) (b : Bool) → eqb t team ≡ b → sets.contains (get_or (set members team new) t sets.empty) p ≡ member_of (set teams team (with_member out into was)) t p
    go t p true e =
        ap (λ n. sets.contains (get_or (set members team new) n sets.empty) p) (same_number t team e)
        ∙ ap (λ z. sets.contains z p) (get_or-set_same members team new sets.empty lt)
        ∙ swaps p
        ∙ ap (λ b. eqb p into.0 || (not (eqb p out.0) && b)) (set_read teams members team was s p there value right)
        ∙ sym (among-swapped out into was.members p)
        ∙ ap (λ found. option_map_or (λ ms. is_among ms p) (option_map (λ (it : Team). it.members) found) false) (sym (shown t ∙ ap (λ b. cond b (Some (with_member out into was)) (slice_get teams t)) e))
    go t p false e =
        ap (λ z. sets.contains z p) (get_or-set_other members team t new sets.empty (let ne : t ≢ team = grind (arith, nat_tests) in ne))
        ∙ right.each t p
        ∙ ap (λ found. option_map_or (λ ms. is_among ms p) (option_map (λ (it : Team). it.members) found) false) (sym (shown t ∙ ap (λ b. cond b (Some (with_member out into was)) (slice_get teams t)) e))
