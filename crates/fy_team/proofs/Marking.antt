-- who has marked a record
use Rattle.std.proofs.Common.{◌≡◌, ◌↔◌, ℕ, zero, suc, ◌<◌, Bool, true, false, cond, ◌&&◌, ◌||◌, not, eqb, List, [], ◌∷◌, ◌++◌, length, map, get_or, set, refl, sym, ap, ◌∙◌, arith}
use Rattle.std.specs.Prelude.{Option, Some, None, option_map, slice_get}
use Rattle.std.specs.List.{All, list_all}
use Rattle.std.specs.Option.{option_map_or}
use Rattle.std.specs.Ordering.{nat_cmp}
use Rattle.std.specs.FinSet as sets
use Rattle.std.specs.Cmp.{nat_cmp_total, unsigned_tied}
use Rattle.std.proofs.lemmas.Bool.Decides.{nat_tests}
use Rattle.std.proofs.lemmas.List.Elements.{All-cons, All-head, All-tail}
use Rattle.fy_locality.specs.declared.ProcId.{ProcId}
use Rattle.std.proofs.lemmas.Option.{slice_get-get_or, slice_get_within, slice_get-map}
use Rattle.fy_team.specs.Teams.{Team, Roster, Record, unmarked, marked_by, with_record, healed, healed_record, is_marked, is_acked, is_complete, IsMarkedByAll, all_marked, team_number, payload_in, members_in, with_mark}

pub same_number : (q at : ℕ) → eqb q at ≡ true → q ≡ at
same_number q at e = grind (arith, nat_tests)

-- ---- who has marked a record

each_marked : (marks : sets.FinSet nat_cmp) (ps : List ProcId) → all_marked marks ps ≡ true → All (λ p. sets.contains marks p.0 ≡ true) ps
each_marked marks [] e = λ k d h. absurd (omega arith)
each_marked marks (p ∷ ps) e = go (λ all. each_marked marks ps all) (sets.contains marks p.0) refl e
  where
    go : (all_marked marks ps ≡ true → All (λ p. sets.contains marks p.0 ≡ true) ps) → (b : Bool) → sets.contains marks p.0 ≡ b → (b && all_marked marks ps) ≡ true → All (λ p. sets.contains marks p.0 ≡ true) (p ∷ ps)
    go later true is all = All-cons (λ p. sets.contains marks p.0 ≡ true) p ps is (later all)
    go later false is all = absurd (let x : ⊥ = cc in x)

marked_each : (marks : sets.FinSet nat_cmp) (ps : List ProcId) → All (λ p. sets.contains marks p.0 ≡ true) ps → all_marked marks ps ≡ true
marked_each marks [] all = refl
marked_each marks (p ∷ ps) all =
    let here : sets.contains marks p.0 ≡ true = All-head (λ p. sets.contains marks p.0 ≡ true) p ps all in
    ap (λ b. b && all_marked marks ps) here ∙ marked_each marks ps (All-tail (λ p. sets.contains marks p.0 ≡ true) p ps all)

-- the marks of a record that is there are those of each process
all_marked_each : (roster : Roster) (rec : ℕ) (it : Record) → slice_get roster.records rec ≡ Some it → (ps : List ProcId) → all_marked it.marks ps ≡ list_all (λ p. is_marked roster rec p.0) ps
all_marked_each roster rec it there [] = refl
all_marked_each roster rec it there (p ∷ ps) =
    ap (λ b. b && all_marked it.marks ps) (sym (ap (λ (found : Option Record). option_map_or (λ held. sets.contains held.marks p.0) found false) there))
    ∙ ap (λ b. is_marked roster rec p.0 && b) (all_marked_each roster rec it there ps)

-- ---- what a mark changes

pub slice_get-set : {X : Type 0} (xs : List X) (i r : ℕ) (x : X) → i < length xs → slice_get (set xs i x) r ≡ cond (eqb r i) (Some x) (slice_get xs r)
slice_get-set [] i r x within = absurd (omega arith)
slice_get-set (y ∷ ys) zero zero x within = refl
slice_get-set (y ∷ ys) zero (suc r) x within = ap (λ b. cond b (Some x) (slice_get ys r)) (let e : false ≡ eqb (suc r) 0 = grind (arith, nat_tests) in e)
slice_get-set (y ∷ ys) (suc i) zero x within = ap (λ b. cond b (Some x) (Some y)) (let e : false ≡ eqb 0 (suc i) = grind (arith, nat_tests) in e)
slice_get-set (y ∷ ys) (suc i) (suc r) x within = slice_get-set ys i r x (omega arith) ∙ ap (λ b. cond b (Some x) (slice_get ys r)) (let e : eqb r i ≡ eqb (suc r) (suc i) = grind (arith, nat_tests) in e)

-- the records once a record that was found is marked
abbrev marked_from : Option Record → Roster → ℕ → ℕ → Roster
marked_from found roster rec p = option_map_or (λ it. record roster { records = set roster.records rec (with_mark roster p it) }) found roster

abbrev marked_in : Option Record → ℕ → Bool
marked_in found q = option_map_or (λ (held : Record). sets.contains held.marks q) found false

abbrev acked_in : Option Record → Bool
acked_in found = option_map_or (λ (held : Record). held.acked) found false

pub marked-teams : (roster : Roster) (rec p : ℕ) → (marked_by rec p roster).teams ≡ roster.teams
marked-teams roster rec p = go (slice_get roster.records rec)
  where
    go : (found : Option Record) → (marked_from found roster rec p).teams ≡ roster.teams
    go None = refl
    go (Some it) = refl

-- the record that is there
held_at : (roster : Roster) (rec : ℕ) → rec < length roster.records → (it : Record) × (slice_get roster.records rec ≡ Some it)
held_at roster rec within = (get_or roster.records rec (unmarked 0 []), slice_get-get_or roster.records rec (unmarked 0 []) within)

module _ (roster : Roster) (rec p : ℕ) (it : Record) (there : slice_get roster.records rec ≡ Some it) where
  marked_is : marked_by rec p roster ≡ record roster { records = set roster.records rec (with_mark roster p it) }
  marked_is = ap (λ found. marked_from found roster rec p) there

  marked_at : (r : ℕ) → slice_get (marked_by rec p roster).records r ≡ cond (eqb r rec) (Some (with_mark roster p it)) (slice_get roster.records r)
  marked_at r = ap (λ (after : Roster). slice_get after.records r) marked_is ∙ slice_get-set roster.records rec r (with_mark roster p it) (slice_get_within roster.records rec it there)

  marked_there : slice_get (marked_by rec p roster).records rec ≡ Some (with_mark roster p it)
  marked_there = marked_at rec ∙ ap (λ b. cond b (Some (with_mark roster p it)) (slice_get roster.records rec)) (let e : eqb rec rec ≡ true = grind (arith, nat_tests) in e)

  acked_after : (r : ℕ) → is_acked (marked_by rec p roster) r ≡ cond (eqb r rec) (it.acked || is_complete roster it.team (sets.insert it.marks p)) (is_acked roster r)
  acked_after r = ap acked_in (marked_at r) ∙ push (eqb r rec)
    where
      push : (b : Bool) → acked_in (cond b (Some (with_mark roster p it)) (slice_get roster.records r)) ≡ cond b (it.acked || is_complete roster it.team (sets.insert it.marks p)) (is_acked roster r)
      push true = refl
      push false = refl

  marks_after : (r q : ℕ) → is_marked (marked_by rec p roster) r q ≡ ((eqb r rec && eqb q p) || is_marked roster r q)
  marks_after r q = ap (λ found. marked_in found q) (marked_at r) ∙ push (eqb r rec) refl
    where
      push : (b : Bool) → eqb r rec ≡ b → marked_in (cond b (Some (with_mark roster p it)) (slice_get roster.records r)) q ≡ ((b && eqb q p) || is_marked roster r q)
      push true e =
          sets.contains-insert nat_cmp_total it.marks p q
          ∙ ap (λ b. b || sets.contains it.marks q) (unsigned_tied q p)
          ∙ ap (λ found. eqb q p || marked_in found q) (sym there ∙ ap (slice_get roster.records) (sym (same_number r rec e)))
      push false e = refl

  acked_there : is_acked roster rec ≡ it.acked
  acked_there = ap acked_in there

  team_after : members_in (marked_by rec p roster) it.team ≡ members_in roster it.team
  team_after = ap (λ (teams : List Team). option_map (λ (team : Team). team.members) (slice_get teams it.team)) (marked-teams roster rec p)

  acked_when : is_acked roster rec ≡ false → is_acked (marked_by rec p roster) rec ≡ is_complete roster it.team (sets.insert it.marks p)
  acked_when isnt =
      acked_after rec
      ∙ ap (λ b. cond b (it.acked || is_complete roster it.team (sets.insert it.marks p)) (is_acked roster rec)) (let e : eqb rec rec ≡ true = grind (arith, nat_tests) in e)
      ∙ ap (λ b. b || is_complete roster it.team (sets.insert it.marks p)) (sym acked_there ∙ isnt)

  complete_marked : is_complete roster it.team (sets.insert it.marks p) ≡ true → IsMarkedByAll (marked_by rec p roster) rec
  complete_marked complete = go (members_in roster it.team) refl complete
    where
      go : (members : Option (List ProcId)) → members_in roster it.team ≡ members → option_map_or (all_marked (sets.insert it.marks p)) members false ≡ true → IsMarkedByAll (marked_by rec p roster) rec
      go None are all = absurd (let x : ⊥ = cc in x)
      go (Some members) are all = record { held = with_mark roster p it; there = marked_there; members = members; team = team_after ∙ are; marked = each_marked (sets.insert it.marks p) members all }

  marked_complete : IsMarkedByAll (marked_by rec p roster) rec → is_complete roster it.team (sets.insert it.marks p) ≡ true
  marked_complete h =
      let same : h.held ≡ with_mark roster p it = let e : Some h.held ≡ Some (with_mark roster p it) = sym h.there ∙ marked_there in cc in
      let are : members_in roster it.team ≡ Some h.members = sym team_after ∙ ap (λ (held : Record). members_in (marked_by rec p roster) held.team) (sym same) ∙ h.team in
      let all : all_marked (sets.insert it.marks p) h.members ≡ true = ap (λ (held : Record). all_marked held.marks h.members) (sym same) ∙ marked_each h.held.marks h.members h.marked in
      ap (λ members. option_map_or (all_marked (sets.insert it.marks p)) members false) are ∙ all

pub marked-marks : (roster : Roster) (rec p r q : ℕ) → rec < length roster.records → is_marked (marked_by rec p roster) r q ≡ ((eqb r rec && eqb q p) || is_marked roster r q)
marked-marks roster rec p r q within = let here = held_at roster rec within in marks_after roster rec p here.0 here.1 r q

-- a record that wasn't is acknowledged by a mark exactly where each member has marked it then
pub mark-acknowledges : (roster : Roster) (rec p : ℕ) → rec < length roster.records → is_acked roster rec ≡ false → (is_acked (marked_by rec p roster) rec ≡ true) ↔ IsMarkedByAll (marked_by rec p roster) rec
mark-acknowledges roster rec p within isnt =
    let here = held_at roster rec within in
    let when : is_acked (marked_by rec p roster) rec ≡ is_complete roster here.0.team (sets.insert here.0.marks p) = acked_when roster rec p here.0 here.1 isnt in
    (λ acked. complete_marked roster rec p here.0 here.1 (sym when ∙ acked), λ h. when ∙ marked_complete roster rec p here.0 here.1 h)

or_none : (b : Bool) → b ≡ (b || false)
or_none true = refl
or_none false = refl

-- by its members' marks
pub acked-by_mark : (roster : Roster) (rec p r team : ℕ) (members : List ProcId) → team_number roster rec ≡ Some team → members_in roster team ≡ Some members
    → is_acked (marked_by rec p roster) r ≡ (is_acked roster r || (eqb r rec && list_all (λ q. is_marked (marked_by rec p roster) rec q.0) members))
acked-by_mark roster rec p r team members named are = go (slice_get roster.records rec) refl named
  where
    go : (found : Option Record) → slice_get roster.records rec ≡ found → option_map (λ (it : Record). it.team) found ≡ Some team
        → is_acked (marked_by rec p roster) r ≡ (is_acked roster r || (eqb r rec && list_all (λ q. is_marked (marked_by rec p roster) rec q.0) members))
    go None is of_team = absurd (let x : ⊥ = cc in x)
    go (Some it) is of_team = acked_after roster rec p it is r ∙ cases (eqb r rec) refl
      where
        same : it.team ≡ team
        same = cc

        complete : is_complete roster it.team (sets.insert it.marks p) ≡ list_all (λ q. is_marked (marked_by rec p roster) rec q.0) members
        complete =
            ap (λ found. option_map_or (all_marked (sets.insert it.marks p)) found false) (ap (members_in roster) same ∙ are)
            ∙ all_marked_each (marked_by rec p roster) rec (with_mark roster p it) (marked_there roster rec p it is) members

        cases : (b : Bool) → eqb r rec ≡ b → cond b (it.acked || is_complete roster it.team (sets.insert it.marks p)) (is_acked roster r) ≡ (is_acked roster r || (b && list_all (λ q. is_marked (marked_by rec p roster) rec q.0) members))
        cases true e =
            ap (λ b. it.acked || b) complete
            ∙ ap (λ b. b || list_all (λ q. is_marked (marked_by rec p roster) rec q.0) members) (sym (acked_there roster rec p it is) ∙ ap (is_acked roster) (sym (same_number r rec e)))
        cases false e = or_none (is_acked roster r)

-- a mark leaves acknowledged what was
pub acked-stays : (roster : Roster) (rec p r : ℕ) → is_acked roster r ≡ true → is_acked (marked_by rec p roster) r ≡ true
acked-stays roster rec p r acked = go (slice_get roster.records rec) refl
  where
    go : (found : Option Record) → slice_get roster.records rec ≡ found → is_acked (marked_by rec p roster) r ≡ true
    go None is = ap (λ found. is_acked (marked_from found roster rec p) r) is ∙ acked
    go (Some it) is = acked_after roster rec p it is r ∙ cases (eqb r rec) refl
      where
        cases : (b : Bool) → eqb r rec ≡ b → cond b (it.acked || is_complete roster it.team (sets.insert it.marks p)) (is_acked roster r) ≡ true
        cases true e = ap (λ b. b || is_complete roster it.team (sets.insert it.marks p)) (sym (acked_there roster rec p it is) ∙ ap (is_acked roster) (sym (same_number r rec e)) ∙ acked)
        cases false e = acked

insert_present : (s : sets.FinSet nat_cmp) (p : ℕ) → sets.contains s p ≡ true → sets.insert s p ≡ s
insert_present s p there = sets.same_set nat_cmp_total sets.nat_cmp-IsAntisymmetric _ _ (λ q. sets.contains-insert nat_cmp_total s p q ∙ ap (λ b. b || sets.contains s q) (unsigned_tied q p) ∙ go q (eqb q p) refl)
  where
    go : (q : ℕ) (b : Bool) → eqb q p ≡ b → (b || sets.contains s q) ≡ sets.contains s q
    go q true e = sym there ∙ ap (sets.contains s) (sym (same_number q p e))
    go q false e = refl

set_same : {X : Type 0} (xs : List X) (i : ℕ) (x : X) → slice_get xs i ≡ Some x → set xs i x ≡ xs
set_same [] i x is = refl
set_same (y ∷ ys) zero x is = ap (λ z. z ∷ ys) (let e : x ≡ y = cc in e)
set_same (y ∷ ys) (suc i) x is = ap (λ zs. y ∷ zs) (set_same ys i x is)

-- a mark that is there already changes nothing where the record is acknowledged
pub marked-again : (roster : Roster) (rec p : ℕ) → is_acked roster rec ≡ true → is_marked roster rec p ≡ true → marked_by rec p roster ≡ roster
marked-again roster rec p acked there = go (slice_get roster.records rec) refl acked there
  where
    go : (found : Option Record) → slice_get roster.records rec ≡ found → acked_in found ≡ true → marked_in found p ≡ true → marked_from found roster rec p ≡ roster
    go None is a e = refl
    go (Some it) is a e =
        ap (λ marks. record roster { records = set roster.records rec (record it { marks = marks; acked = it.acked || is_complete roster it.team marks }) }) (insert_present it.marks p e)
        ∙ ap (λ acked. record roster { records = set roster.records rec (record it { acked = acked }) }) (ap (λ b. b || is_complete roster it.team it.marks) a ∙ sym a)
        ∙ ap (λ records. record roster { records = records }) (set_same roster.records rec it is)

-- ---- a record that was just begun

begun_marked : (records : List Record) (team : ℕ) (payload : List ℕ) (r q : ℕ) → marked_in (slice_get (records ++ unmarked team payload ∷ []) r) q ≡ marked_in (slice_get records r) q
begun_marked [] team payload zero q = sets.contains-empty nat_cmp q
begun_marked [] team payload (suc r) q = refl
begun_marked (it ∷ records) team payload zero q = refl
begun_marked (it ∷ records) team payload (suc r) q = begun_marked records team payload r q

-- nobody has marked it
pub begun-marks : (roster : Roster) (team : ℕ) (payload : List ℕ) (r q : ℕ) → is_marked (with_record team payload roster) r q ≡ is_marked roster r q
begun-marks roster team payload r q = begun_marked roster.records team payload r q

begun_acked : (records : List Record) (team : ℕ) (payload : List ℕ) (r : ℕ) → acked_in (slice_get (records ++ unmarked team payload ∷ []) r) ≡ acked_in (slice_get records r)
begun_acked [] team payload zero = refl
begun_acked [] team payload (suc r) = refl
begun_acked (it ∷ records) team payload zero = refl
begun_acked (it ∷ records) team payload (suc r) = begun_acked records team payload r

-- it isn't acknowledged
pub begun-acked : (roster : Roster) (team : ℕ) (payload : List ℕ) (r : ℕ) → is_acked (with_record team payload roster) r ≡ is_acked roster r
begun-acked roster team payload r = begun_acked roster.records team payload r

-- ---- what a heal changes

and_one : (b : Bool) → b ≡ (b && true)
and_one true = refl
and_one false = refl

and_turned : (b c : Bool) → (b && c) ≡ (c && b)
and_turned true true = refl
and_turned true false = refl
and_turned false true = refl
and_turned false false = refl

pub healed-marks : (roster : Roster) (p r q : ℕ) → is_marked (healed p roster) r q ≡ (is_marked roster r q && (is_acked roster r || not (eqb q p)))
healed-marks roster p r q = ap (λ found. marked_in found q) (slice_get-map (healed_record p) roster.records r) ∙ go (slice_get roster.records r)
  where
    one : (it : Record) (b : Bool) → sets.contains (cond b it (record it { marks = sets.remove it.marks p })).marks q ≡ (sets.contains it.marks q && (b || not (eqb q p)))
    one it true = and_one (sets.contains it.marks q)
    one it false = sets.contains-remove nat_cmp_total it.marks p q ∙ ap (λ b. not b && sets.contains it.marks q) (unsigned_tied q p) ∙ and_turned (not (eqb q p)) (sets.contains it.marks q)

    go : (found : Option Record) → marked_in (option_map (healed_record p) found) q ≡ (marked_in found q && (acked_in found || not (eqb q p)))
    go None = refl
    go (Some it) = one it it.acked

-- what a heal leaves of a record
unless_acked_leaves : {X : Type 0} (part : Record → X) → ((it : Record) (marks : sets.FinSet nat_cmp) → part (record it { marks = marks }) ≡ part it) → (p : ℕ) (it : Record) → part (healed_record p it) ≡ part it
unless_acked_leaves part stays p it = one it.acked
  where
    one : (b : Bool) → part (cond b it (record it { marks = sets.remove it.marks p })) ≡ part it
    one true = refl
    one false = stays it (sets.remove it.marks p)

-- and of each
healed_leaves : {X : Type 0} (part : Record → X) → ((it : Record) (marks : sets.FinSet nat_cmp) → part (record it { marks = marks }) ≡ part it)
    → (p : ℕ) (records : List Record) (r : ℕ) → option_map part (slice_get (map (healed_record p) records) r) ≡ option_map part (slice_get records r)
healed_leaves part stays p records r = ap (option_map part) (slice_get-map (healed_record p) records r) ∙ go (slice_get records r)
  where
    go : (found : Option Record) → option_map part (option_map (healed_record p) found) ≡ option_map part found
    go None = refl
    go (Some it) = ap Some (unless_acked_leaves part stays p it)

pub healed_record-team : (p : ℕ) (it : Record) → (healed_record p it).team ≡ it.team
healed_record-team p it = unless_acked_leaves (λ it. it.team) (λ it marks. refl) p it

pub healed_record-payload : (p : ℕ) (it : Record) → (healed_record p it).payload ≡ it.payload
healed_record-payload p it = unless_acked_leaves (λ it. it.payload) (λ it marks. refl) p it

pub healed-teams : (roster : Roster) (p r : ℕ) → team_number (healed p roster) r ≡ team_number roster r
healed-teams roster p r = healed_leaves (λ it. it.team) (λ it marks. refl) p roster.records r

pub healed-payloads : (roster : Roster) (p r : ℕ) → payload_in (healed p roster) r ≡ payload_in roster r
healed-payloads roster p r = healed_leaves (λ it. it.payload) (λ it marks. refl) p roster.records r

pub healed-acked : (roster : Roster) (p r : ℕ) → is_acked (healed p roster) r ≡ is_acked roster r
healed-acked roster p r =
    acked_is (slice_get (healed p roster).records r)
    ∙ ap (λ acked. option_map_or (λ (b : Bool). b) acked false) (healed_leaves (λ it. it.acked) (λ it marks. refl) p roster.records r)
    ∙ sym (acked_is (slice_get roster.records r))
  where
    acked_is : (found : Option Record) → acked_in found ≡ option_map_or (λ (b : Bool). b) (option_map (λ (it : Record). it.acked) found) false
    acked_is None = refl
    acked_is (Some it) = refl
