-- the least record that passes a test, looked for team by team
use Rattle.std.proofs.Common.{◌≡◌, ℕ, zero, suc, ◌+◌, ◌<◌, ◌≤◌, Bool, true, false, cond, ◌&&◌, ◌||◌, not, eqb, ltb, List, [], ◌∷◌, length, map, refl, sym, ap, ◌∙◌, arith, find, min}
use Rattle.std.specs.Prelude.{Option, Some, None, option_map, slice_get}
use Rattle.std.specs.List.{range_with_len}
use Rattle.std.specs.Option.{option_map_or}
use Rattle.std.proofs.lemmas.Bool.Decides.{nat_tests}
use Rattle.std.proofs.lemmas.List.{length-map}
use Rattle.std.proofs.lemmas.Option.{none-some, same_Some, slice_get-map, slice_get_within}
use Rattle.fy_team.specs.Teams.{Team, Record, is_among, is_acked, team_number, places_from, records_of}
use Rattle.fy_cluster.specs.declared.machine.Machine.{Machine}
use Rattle.fy_cluster.specs.Needs.{has_on, is_of_team_on, is_in_team_on, is_member_on, needed_on, first_needed_on, earlier}

-- ---- among the places of a number

find_places : (f g : ℕ → Bool) (at t : ℕ) (ns : List ℕ) → ((i : ℕ) → g (at + i) ≡ (f (at + i) && option_map_or (λ n. eqb n t) (slice_get ns i) false))
    → find f (places_from at t ns) ≡ find g (range_with_len at (length ns))
find_places f g at t [] same = refl
find_places f g at t (n ∷ ns) same = go (find_places f g (at + 1) t ns (λ i. next i)) (eqb n t) refl
  where
    next : (i : ℕ) → g (at + 1 + i) ≡ (f (at + 1 + i) && option_map_or (λ n. eqb n t) (slice_get ns i) false)
    next i =
        let e : at + 1 + i ≡ at + suc i = omega arith in
        ap g e ∙ same (suc i) ∙ ap (λ k. f k && option_map_or (λ n. eqb n t) (slice_get ns i) false) (sym e)

    here : g at ≡ (f at && eqb n t)
    here = let e : at ≡ at + 0 = omega arith in ap g e ∙ same 0 ∙ ap (λ k. f k && eqb n t) (sym e)

    and_true : (b : Bool) → (b && true) ≡ b
    and_true true = refl
    and_true false = refl

    and_false : (b : Bool) → (b && false) ≡ false
    and_false true = refl
    and_false false = refl

    go : find f (places_from (at + 1) t ns) ≡ find g (range_with_len (at + 1) (length ns)) → (b : Bool) → eqb n t ≡ b
        → find f (cond b (at ∷ places_from (at + 1) t ns) (places_from (at + 1) t ns)) ≡ cond (g at) (Some at) (find g (range_with_len (at + 1) (length ns)))
    go later true e =
        ap (λ rest. cond (f at) (Some at) rest) later
        ∙ ap (λ b. cond b (Some at) (find g (range_with_len (at + 1) (length ns)))) (sym (here ∙ ap (λ b. f at && b) e ∙ and_true (f at)))
    go later false e =
        later
        ∙ ap (λ b. cond b (Some at) (find g (range_with_len (at + 1) (length ns)))) (sym (here ∙ ap (λ b. f at && b) e ∙ and_false (f at)))

moved : (a t h : Bool) → (a && t && h) ≡ ((a && h) && t)
moved true true true = refl
moved true true false = refl
moved true false true = refl
moved true false false = refl
moved false t h = refl

-- of a team's records
pub needed_listed : (m : Machine) (p team : ℕ) → first_needed_on m p (records_of m.teams team) ≡ needed_on m p (is_of_team_on m team)
needed_listed m p team =
    find_places (λ rec. is_acked m.teams rec && not (has_on m rec p)) (λ rec. is_acked m.teams rec && is_of_team_on m team rec && not (has_on m rec p)) 0 team (map (λ (it : Record). it.team) m.teams.records)
    (λ i. moved (is_acked m.teams (0 + i)) (is_of_team_on m team (0 + i)) (not (has_on m (0 + i) p))
    ∙ ap (λ b. (is_acked m.teams (0 + i) && not (has_on m (0 + i) p)) && b) (of_team i))
    ∙ ap (λ n. find (λ rec. is_acked m.teams rec && is_of_team_on m team rec && not (has_on m rec p)) (range_with_len 0 n)) (length-map m.teams.records (λ (it : Record). it.team))
  where
    of_team : (i : ℕ) → is_of_team_on m team (0 + i) ≡ option_map_or (λ n. eqb n team) (slice_get (map (λ (it : Record). it.team) m.teams.records) i) false
    of_team i =
        ap (is_of_team_on m team) (let e : 0 + i ≡ i = omega arith in e)
        ∙ ap (λ found. option_map_or (λ n. eqb n team) found false) (sym (slice_get-map (λ (it : Record). it.team) m.teams.records i))

-- ---- by either of two tests

find_low : (g : ℕ → Bool) (at n k : ℕ) → find g (range_with_len at n) ≡ Some k → at ≤ k
find_low g at zero k is = absurd (none-some k is)
find_low g at (suc n) k is = go (λ e. find_low g (at + 1) n k e) (g at) is
  where
    go : (find g (range_with_len (at + 1) n) ≡ Some k → at + 1 ≤ k) → (b : Bool) → cond b (Some at) (find g (range_with_len (at + 1) n)) ≡ Some k → at ≤ k
    go later true e = let same : at ≡ k = same_Some at k e in omega arith
    go later false e = let more : at + 1 ≤ k = later e in omega arith

find_either : (f g h : ℕ → Bool) (at n : ℕ) → ((r : ℕ) → h r ≡ (f r || g r)) → find h (range_with_len at n) ≡ earlier (find f (range_with_len at n)) (find g (range_with_len at n))
find_either f g h at zero same = refl
find_either f g h at (suc n) same =
    ap (λ b. cond b (Some at) (find h (range_with_len (at + 1) n))) (same at)
    ∙ go (find_either f g h (at + 1) n same) (f at) (g at)
  where
    low_g : (found : Option ℕ) → find g (range_with_len (at + 1) n) ≡ found → Some at ≡ earlier (Some at) found
    low_g None is = refl
    low_g (Some k) is = let more : at + 1 ≤ k = find_low g (at + 1) n k is in ap Some (let e : at ≡ min at k = omega arith in e)

    low_f : (found : Option ℕ) → find f (range_with_len (at + 1) n) ≡ found → Some at ≡ earlier found (Some at)
    low_f None is = refl
    low_f (Some k) is = let more : at + 1 ≤ k = find_low f (at + 1) n k is in ap Some (let e : at ≡ min k at = omega arith in e)

    go : find h (range_with_len (at + 1) n) ≡ earlier (find f (range_with_len (at + 1) n)) (find g (range_with_len (at + 1) n)) → (b c : Bool)
        → cond (b || c) (Some at) (find h (range_with_len (at + 1) n)) ≡ earlier (cond b (Some at) (find f (range_with_len (at + 1) n))) (cond c (Some at) (find g (range_with_len (at + 1) n)))
    go later true true = ap Some (let e : at ≡ min at at = omega arith in e)
    go later true false = low_g (find g (range_with_len (at + 1) n)) refl
    go later false true = low_f (find f (range_with_len (at + 1) n)) refl
    go later false false = later

either_test : (a x y h : Bool) → (a && (x || y) && h) ≡ ((a && x && h) || (a && y && h))
either_test false x y h = refl
either_test true true true true = refl
either_test true true true false = refl
either_test true true false true = refl
either_test true true false false = refl
either_test true false y h = refl

needed_either : (m : Machine) (p : ℕ) (f g h : ℕ → Bool) → ((r : ℕ) → h r ≡ (f r || g r)) → needed_on m p h ≡ earlier (needed_on m p f) (needed_on m p g)
needed_either m p f g h same =
    find_either (λ rec. is_acked m.teams rec && f rec && not (has_on m rec p)) (λ rec. is_acked m.teams rec && g rec && not (has_on m rec p)) (λ rec. is_acked m.teams rec && h rec && not (has_on m rec p)) 0 (length m.teams.records)
    (λ r. ap (λ b. is_acked m.teams r && b && not (has_on m r p)) (same r) ∙ either_test (is_acked m.teams r) (f r) (g r) (not (has_on m r p)))

needed_same : (m : Machine) (p : ℕ) (f g : ℕ → Bool) → ((r : ℕ) → f r ≡ g r) → needed_on m p f ≡ needed_on m p g
needed_same m p f g same = λ i. find (λ rec. is_acked m.teams rec && same rec i && not (has_on m rec p)) (range_with_len 0 (length m.teams.records))

-- ---- team by team

-- the record is of a team below a number, of which the process is a member
abbrev pub is_member_below : Machine → (p team rec : ℕ) → Bool
is_member_below m p team rec = option_map_or (λ n. is_in_team_on m p n && ltb n team) (team_number m.teams rec) false

pub needed_first : (m : Machine) (p : ℕ) → None ≡ needed_on m p (is_member_below m p 0)
needed_first m p = none (range_with_len 0 (length m.teams.records))
  where
    below : (found : Option ℕ) → option_map_or (λ n. is_in_team_on m p n && ltb n 0) found false ≡ false
    below None = refl
    below (Some n) = go (is_in_team_on m p n)
      where
        go : (b : Bool) → (b && ltb n 0) ≡ false
        go true = grind (arith, nat_tests)
        go false = refl

    fails : (a h b : Bool) → b ≡ false → (a && b && h) ≡ false
    fails true h b e = ap (λ c. c && h) e
    fails false h b e = refl

    none : (recs : List ℕ) → None ≡ find (λ rec. is_acked m.teams rec && is_member_below m p 0 rec && not (has_on m rec p)) recs
    none [] = refl
    none (rec ∷ recs) =
        none recs
        ∙ ap (λ b. cond b (Some rec) (find (λ rec. is_acked m.teams rec && is_member_below m p 0 rec && not (has_on m rec p)) recs)) (sym (fails (is_acked m.teams rec) (not (has_on m rec p)) (is_member_below m p 0 rec) (below (team_number m.teams rec))))

pub needed_more : (m : Machine) (p team : ℕ) → needed_on m p (is_member_below m p (team + 1)) ≡ earlier (needed_on m p (is_member_below m p team)) (needed_on m p (λ rec. is_in_team_on m p team && is_of_team_on m team rec))
needed_more m p team = needed_either m p (is_member_below m p team) (λ rec. is_in_team_on m p team && is_of_team_on m team rec) (is_member_below m p (team + 1)) (λ rec. at (team_number m.teams rec))
  where
    neither : (b : Bool) → false ≡ (b && false)
    neither true = refl
    neither false = refl

    one : (n : ℕ) (b : Bool) → eqb n team ≡ b → (is_in_team_on m p n && ltb n (team + 1)) ≡ ((is_in_team_on m p n && ltb n team) || (is_in_team_on m p team && eqb n team))
    one n true e =
        let same : n ≡ team = grind (arith, nat_tests) in
        ap (λ k. is_in_team_on m p k && ltb n (team + 1)) same
        ∙ ap (λ b. is_in_team_on m p team && b) (let t : ltb n (team + 1) ≡ true = grind (arith, nat_tests) in t)
        ∙ last (is_in_team_on m p team) (is_in_team_on m p n)
        ∙ ap (λ b. (is_in_team_on m p n && b) || (is_in_team_on m p team && true)) (let t : false ≡ ltb n team = grind (arith, nat_tests) in t)
        ∙ ap (λ b. (is_in_team_on m p n && ltb n team) || (is_in_team_on m p team && b)) (sym e)
      where
        last : (b c : Bool) → (b && true) ≡ ((c && false) || (b && true))
        last b true = refl
        last b false = refl
    one n false e =
        ap (λ b. is_in_team_on m p n && b) (let t : ltb n (team + 1) ≡ ltb n team = grind (arith, nat_tests) in t)
        ∙ before (is_in_team_on m p n && ltb n team) (is_in_team_on m p team)
        ∙ ap (λ b. (is_in_team_on m p n && ltb n team) || (is_in_team_on m p team && b)) (sym e)
      where
        before : (b c : Bool) → b ≡ (b || (c && false))
        before true c = refl
        before false true = refl
        before false false = refl

    at : (found : Option ℕ) → option_map_or (λ n. is_in_team_on m p n && ltb n (team + 1)) found false ≡ (option_map_or (λ n. is_in_team_on m p n && ltb n team) found false || (is_in_team_on m p team && option_map_or (λ n. eqb n team) found false))
    at None = neither (is_in_team_on m p team)
    at (Some n) = one n (eqb n team) refl

pub needed_all : (m : Machine) (p team : ℕ) → length m.teams.teams ≤ team → needed_on m p (is_member_below m p team) ≡ needed_on m p (is_member_on m p)
needed_all m p team past = needed_same m p (is_member_below m p team) (is_member_on m p) (λ rec. at (team_number m.teams rec))
  where
    there : (n : ℕ) (found : Option Team) → slice_get m.teams.teams n ≡ found → (option_map_or (λ members. is_among members p) (option_map (λ (it : Team). it.members) found) false && ltb n team) ≡ option_map_or (λ members. is_among members p) (option_map (λ (it : Team). it.members) found) false
    there n None is = refl
    there n (Some t) is =
        let within : n < length m.teams.teams = slice_get_within m.teams.teams n t is in
        ap (λ b. is_among t.members p && b) (let e : ltb n team ≡ true = grind (arith, nat_tests) in e) ∙ last (is_among t.members p)
      where
        last : (b : Bool) → (b && true) ≡ b
        last true = refl
        last false = refl

    at : (found : Option ℕ) → option_map_or (λ n. is_in_team_on m p n && ltb n team) found false ≡ option_map_or (is_in_team_on m p) found false
    at None = refl
    at (Some n) = there n (slice_get m.teams.teams n) refl

-- of a team that isn't the process's own nothing is needed
pub needed_apart : (m : Machine) (p team : ℕ) (b : Bool) → is_in_team_on m p team ≡ b → b ≡ false → None ≡ needed_on m p (λ rec. is_in_team_on m p team && is_of_team_on m team rec)
needed_apart m p team b is isnt = none (range_with_len 0 (length m.teams.records))
  where
    fails : (a c h d : Bool) → d ≡ false → (a && (d && c) && h) ≡ false
    fails true c h d e = ap (λ d. (d && c) && h) e
    fails false c h d e = refl

    none : (recs : List ℕ) → None ≡ find (λ rec. is_acked m.teams rec && (is_in_team_on m p team && is_of_team_on m team rec) && not (has_on m rec p)) recs
    none [] = refl
    none (rec ∷ recs) =
        none recs
        ∙ ap (λ b. cond b (Some rec) (find (λ rec. is_acked m.teams rec && (is_in_team_on m p team && is_of_team_on m team rec) && not (has_on m rec p)) recs)) (sym (fails (is_acked m.teams rec) (is_of_team_on m team rec) (not (has_on m rec p)) (is_in_team_on m p team) (is ∙ isnt)))

pub needed_within : (m : Machine) (p team : ℕ) (b : Bool) → is_in_team_on m p team ≡ b → b ≡ true → needed_on m p (is_of_team_on m team) ≡ needed_on m p (λ rec. is_in_team_on m p team && is_of_team_on m team rec)
needed_within m p team b is there = needed_same m p (is_of_team_on m team) (λ rec. is_in_team_on m p team && is_of_team_on m team rec) (λ rec. ap (λ b. b && is_of_team_on m team rec) (sym (is ∙ there)))
