-- what holds of teams and records as they are kept, from one call to the next
use Rattle.std.proofs.Common.{◌≡◌, ℕ, zero, suc, ◌<◌, ◌≤◌, Bool, true, false, cond, ◌&&◌, ◌||◌, not, eqb, leb, ltb, List, [], ◌∷◌, ◌++◌, length, length-append, map, get_or, set, refl, sym, ap, subst, ◌∙◌, arith}
use Rattle.std.specs.Prelude.{Some, None, option_map, slice_get}
use Rattle.std.specs.List.{All}
use Rattle.std.specs.Option.{option_map_or}
use Rattle.std.specs.FinSet as sets
use Rattle.std.proofs.lemmas.Bool.Decides.{nat_tests}
use Rattle.std.proofs.lemmas.List.{length-map, length-set, map-append, map-set, get_or-map}
use Rattle.std.proofs.lemmas.List.Elements.{All-cons, All-nil, All-append, All-map, All-set, All-weaker}
use Rattle.std.proofs.lemmas.Option.{slice_get-get_or, slice_get_within, slice_get-map}
use Rattle.fy_locality.specs.declared.ProcId.{ProcId}
use Rattle.fy_team.specs.Teams.{Team, Record, Roster, IsRoster, AreMembers, is_among, all_marked, is_acked, swapped, with_member, marked_by, with_mark, begin_refusal}
use Rattle.fy_team.specs.declared.fault.TeamFault.TheVariants.{TooMany, NoTeam, Payload}
use Rattle.fy_team.specs.Counts.{Counted, CountsMissing, CountsMissingIn, TeamsInvariant, missing_among, recounted, roster_of}
use Rattle.fy_team.specs.declared.limits.TheConstants.{MOST_TEAMS, MOST_RECORDS, MOST_BYTES}
use Rattle.fy_team.proofs.Marking.{slice_get-set}
use Rattle.fy_team.proofs.Swapping.{IsRoster-replaced}

abbrev pub held : Counted → Record
held it = it.held

-- ---- one record

-- the team of a record is there
pub team_within : (teams : List Team) (records : List Counted) (i : ℕ) (d : Counted) → TeamsInvariant teams records → i < length records → (get_or records i d).held.team < length teams
team_within teams records i d kept within =
    subst (λ (it : Record). it.team < length teams) (get_or-map held records i d d.held within)
    (kept.roster.named i d.held (omega (arith, length-map records held)))

-- a place among the records that callers see is one among those that are kept
pub within_kept : (teams : List Team) (records : List Counted) (roster : Roster) (rec : ℕ) → roster_of teams records ≡ roster → rec < length roster.records → rec < length records
within_kept teams records roster rec is within = omega (arith, ap (λ (it : Roster). length it.records) is, length-map records held)

-- the team that is read off a record is there
pub team_read : (teams : List Team) (records : List Counted) (rec t : ℕ) (it : Counted) → TeamsInvariant teams records → rec < length records → it ≡ get_or records rec it → t ≡ it.held.team → t < length teams
team_read teams records rec t it kept within is of_team = omega (arith, of_team, ap (λ (x : Counted). x.held.team) is, team_within teams records rec it kept within)

-- what a record is
pub record_there : (records : List Counted) (i : ℕ) (d : Counted) → i < length records → slice_get (map held records) i ≡ Some (get_or records i d).held
record_there records i d within = slice_get-map held records i ∙ ap (option_map held) (slice_get-get_or records i d within)

-- the number of a record is right for its team
pub counted_at : (teams : List Team) (records : List Counted) (i : ℕ) (it : Counted) (t : ℕ) (team : Team) → TeamsInvariant teams records → i < length records → it ≡ get_or records i it
    → t ≡ it.held.team → team ≡ get_or teams t team → CountsMissing team.members it
counted_at teams records i it t team kept within is of_team is_team =
    let there : slice_get teams it.held.team ≡ Some team =
    ap (slice_get teams) (sym of_team) ∙ slice_get-get_or teams t team (let lt : t < length teams = omega (arith, of_team, ap (λ (x : Counted). x.held.team) is, team_within teams records i it kept within) in lt) ∙ ap Some (sym is_team) in
    subst (CountsMissing team.members) (sym is) (kept.counted i it within team (ap (λ (x : Counted). slice_get teams x.held.team) (sym is) ∙ there))

-- and so it is where it is right for the team that it is of
pub counted_for : (teams : List Team) (x : Counted) (t : ℕ) (team : Team) (members : List ProcId) → t < length teams → t ≡ x.held.team → team ≡ get_or teams t team → members ≡ team.members
    → CountsMissing members x → CountsMissingIn teams x
counted_for teams x t team members lt of_team is_team are counted s there =
    let same : team ≡ s =
    (let e : Some team ≡ Some s = ap Some is_team ∙ sym (slice_get-get_or teams t team lt) ∙ ap (slice_get teams) of_team ∙ there in cc) in
    subst (λ ms. CountsMissing ms x) (are ∙ ap (λ (y : Team). y.members) same) counted

-- a record is changed, and neither its team nor what it holds
pub TeamsInvariant-set : (teams : List Team) (records : List Counted) (i : ℕ) (x d : Counted) → i < length records
    → x.held.team ≡ (get_or records i d).held.team → x.held.payload ≡ (get_or records i d).held.payload → CountsMissingIn teams x → TeamsInvariant teams records → TeamsInvariant teams (set records i x)
TeamsInvariant-set teams records i x d within team payload counted kept =
    let small : length (get_or records i d).held.payload ≤ MOST_BYTES =
    subst (λ (it : Record). length it.payload ≤ MOST_BYTES) (get_or-map held records i d d.held within) (kept.roster.small i d.held (omega (arith, length-map records held))) in
    record {
      roster = record {
        rising = kept.roster.rising;
        few_teams = kept.roster.few_teams;
        named = subst (All (λ (it : Record). it.team < length teams)) (sym (map-set held records i x))
            (All-set (λ (it : Record). it.team < length teams) (map held records) i x.held (omega (arith, team, team_within teams records i d kept within)) kept.roster.named);
        small = subst (All (λ (it : Record). length it.payload ≤ MOST_BYTES)) (sym (map-set held records i x))
            (All-set (λ (it : Record). length it.payload ≤ MOST_BYTES) (map held records) i x.held (omega (arith, ap length payload)) kept.roster.small);
        few_records = omega (arith, length-map (set records i x) held, length-map records held, length-set records i x, kept.roster.few_records);
      };
      counted = All-set (CountsMissingIn teams) records i x counted kept.counted;
    }

-- ---- one more

shown_before : (teams : List Team) (team t : Team) (i : ℕ) → i < length teams → slice_get (teams ++ team ∷ []) i ≡ Some t → slice_get teams i ≡ Some t
shown_before [] team t i within there = absurd (omega arith)
shown_before (x ∷ xs) team t zero within there = there
shown_before (x ∷ xs) team t (suc i) within there = shown_before xs team t i (omega arith) there

pub TeamsInvariant-formed : (teams : List Team) (records : List Counted) (team : Team) → AreMembers team.members → length teams < MOST_TEAMS → TeamsInvariant teams records → TeamsInvariant (teams ++ team ∷ []) records
TeamsInvariant-formed teams records team are few kept = record {
  roster = record {
    rising = All-append (λ (it : Team). AreMembers it.members) teams (team ∷ []) kept.roster.rising (All-cons (λ (it : Team). AreMembers it.members) team [] are (All-nil (λ (it : Team). AreMembers it.members)));
    few_teams = omega (arith, length-append teams (team ∷ []));
    named = All-weaker (λ (it : Record). it.team < length teams) (λ (it : Record). it.team < length (teams ++ team ∷ [])) (λ it lt. omega (arith, length-append teams (team ∷ []))) (map held records) kept.roster.named;
    small = kept.roster.small;
    few_records = kept.roster.few_records;
  };
  counted = λ i d within t there. kept.counted i d within t (shown_before teams team t _ (team_within teams records i d kept within) there);
}

-- a record that nothing speaks against is of a team that is there, is small, and has a place
pub may_be_begun : (roster : Roster) (team : ℕ) (payload : List ℕ) → begin_refusal roster team payload ≡ None → (team < length roster.teams) × (length payload ≤ MOST_BYTES) × (length roster.records < MOST_RECORDS)
may_be_begun roster team payload none = go (leb (length roster.teams) team) refl (ltb MOST_BYTES (length payload)) refl (leb MOST_RECORDS (length roster.records)) refl none
  where
    go : (a : Bool) → leb (length roster.teams) team ≡ a → (b : Bool) → ltb MOST_BYTES (length payload) ≡ b → (c : Bool) → leb MOST_RECORDS (length roster.records) ≡ c
        → cond a (Some NoTeam) (cond b (Some Payload) (cond c (Some TooMany) None)) ≡ None → (team < length roster.teams) × (length payload ≤ MOST_BYTES) × (length roster.records < MOST_RECORDS)
    go true is b isb c isc e = absurd (let x : ⊥ = cc in x)
    go false is true isb c isc e = absurd (let x : ⊥ = cc in x)
    go false is false isb true isc e = absurd (let x : ⊥ = cc in x)
    go false is false isb false isc e = (grind (arith, nat_tests), grind (arith, nat_tests), grind (arith, nat_tests))

pub TeamsInvariant-begun : (teams : List Team) (records : List Counted) (x : Counted) → x.held.team < length teams → length x.held.payload ≤ MOST_BYTES → length records < MOST_RECORDS → CountsMissingIn teams x
    → TeamsInvariant teams records → TeamsInvariant teams (records ++ x ∷ [])
TeamsInvariant-begun teams records x within small few counted kept =
    let is : map held (records ++ x ∷ []) ≡ map held records ++ x.held ∷ [] = map-append held records (x ∷ []) in
    record {
      roster = record {
        rising = kept.roster.rising;
        few_teams = kept.roster.few_teams;
        named = subst (All (λ (it : Record). it.team < length teams)) (sym is)
            (All-append (λ (it : Record). it.team < length teams) (map held records) (x.held ∷ []) kept.roster.named (All-cons (λ (it : Record). it.team < length teams) x.held [] within (All-nil (λ (it : Record). it.team < length teams))));
        small = subst (All (λ (it : Record). length it.payload ≤ MOST_BYTES)) (sym is)
            (All-append (λ (it : Record). length it.payload ≤ MOST_BYTES) (map held records) (x.held ∷ []) kept.roster.small (All-cons (λ (it : Record). length it.payload ≤ MOST_BYTES) x.held [] small (All-nil (λ (it : Record). length it.payload ≤ MOST_BYTES))));
        few_records = omega (arith, length-map (records ++ x ∷ []) held, length-append records (x ∷ []));
      };
      counted = All-append (CountsMissingIn teams) records (x ∷ []) kept.counted (All-cons (CountsMissingIn teams) x [] counted (All-nil (CountsMissingIn teams)));
    }

-- ---- a mark

-- what is kept of a record that was marked is what the mark makes of it
pub marked_kept : (teams : List Team) (records : List Counted) (rec p t : ℕ) (it x : Counted) (team : Team) → TeamsInvariant teams records → rec < length records → it ≡ get_or records rec it
    → t ≡ it.held.team → team ≡ get_or teams t team
    → x.held ≡ record it.held { marks = sets.insert it.held.marks p; acked = it.held.acked || all_marked (sets.insert it.held.marks p) team.members }
    → roster_of teams (set records rec x) ≡ marked_by rec p (roster_of teams records)
marked_kept teams records rec p t it x team kept within is of_team is_team becomes =
    let roster : Roster = roster_of teams records in
    let marks = sets.insert it.held.marks p in
    let there : slice_get (map held records) rec ≡ Some it.held = record_there records rec it within ∙ ap (λ (y : Counted). Some y.held) (sym is) in
    let lt : t < length teams = omega (arith, of_team, ap (λ (y : Counted). y.held.team) is, team_within teams records rec it kept within) in
    let team_there : slice_get teams it.held.team ≡ Some team = ap (slice_get teams) (sym of_team) ∙ slice_get-get_or teams t team lt ∙ ap Some (sym is_team) in
    ap (λ rs. record roster { records = rs }) (map-set held records rec x)
    ∙ ap (λ y. record roster { records = set (map held records) rec y }) becomes
    ∙ ap (λ found. record roster { records = set (map held records) rec (record it.held { marks = marks; acked = it.held.acked || option_map_or (all_marked marks) (option_map (λ (y : Team). y.members) found) false }) }) (sym team_there)
    ∙ ap (λ found. option_map_or (λ y. record roster { records = set (map held records) rec (with_mark roster p y) }) found roster) (sym there)

pub acked_kept : (teams : List Team) (records : List Counted) (rec : ℕ) (x : Counted) → rec < length records → is_acked (roster_of teams (set records rec x)) rec ≡ x.held.acked
acked_kept teams records rec x within =
    ap (λ found. option_map_or (λ (it : Record). it.acked) found false)
    (slice_get-map held (set records rec x) rec
    ∙ ap (option_map held) (slice_get-set records rec rec x within ∙ ap (λ b. cond b (Some x) (slice_get records rec)) (let e : eqb rec rec ≡ true = grind (arith, nat_tests) in e)))

-- ---- a replacement

held_recounted : (team : ℕ) (members : List ProcId) (it : Counted) → (recounted team members it).held ≡ it.held
held_recounted team members it = go (eqb it.held.team team && not it.held.acked)
  where
    go : (b : Bool) → (cond b (record it { missing = missing_among it.held.marks members }) it).held ≡ it.held
    go true = refl
    go false = refl

-- the records are the same
pub records_recounted : (team : ℕ) (members : List ProcId) (records : List Counted) → map held (map (recounted team members) records) ≡ map held records
records_recounted team members [] = refl
records_recounted team members (it ∷ records) =
    ap (λ x. x ∷ map held (map (recounted team members) records)) (held_recounted team members it)
    ∙ ap (λ xs. it.held ∷ xs) (records_recounted team members records)

-- and their numbers are right for the teams as they are then
counted_anew : (teams : List Team) (team : ℕ) (changed : Team) (it : Counted) → team < length teams → CountsMissingIn teams it → CountsMissingIn (set teams team changed) (recounted team changed.members it)
counted_anew teams team changed it within counted t there = go (eqb it.held.team team) refl it.held.acked refl
  where
    shown : slice_get (set teams team changed) it.held.team ≡ Some t
    shown = ap (λ (x : Record). slice_get (set teams team changed) x.team) (sym (held_recounted team changed.members it)) ∙ there

    found : cond (eqb it.held.team team) (Some changed) (slice_get teams it.held.team) ≡ Some t
    found = sym (slice_get-set teams team it.held.team changed within) ∙ shown

    go : (b : Bool) → eqb it.held.team team ≡ b → (a : Bool) → it.held.acked ≡ a → CountsMissing t.members (cond (b && not a) (record it { missing = missing_among it.held.marks changed.members }) it)
    go true same false still =
        let is : changed ≡ t = let e : Some changed ≡ Some t = ap (λ b. cond b (Some changed) (slice_get teams it.held.team)) (sym same) ∙ found in cc in
        record { right = λ _. ap (λ (x : Team). missing_among it.held.marks x.members) is }
    go true same true over = record { right = λ e. absurd (let f : true ≡ false = sym over ∙ e in let x : ⊥ = cc in x) }
    go false other a is = counted t (ap (λ b. cond b (Some changed) (slice_get teams it.held.team)) (sym other) ∙ found)

pub TeamsInvariant-replaced : (teams : List Team) (records : List Counted) (team : ℕ) (out into : ProcId) (was : Team) → slice_get teams team ≡ Some was → is_among was.members out.0 ≡ true
    → TeamsInvariant teams records → TeamsInvariant (set teams team (with_member out into was)) (map (recounted team (swapped out into was.members)) records)
TeamsInvariant-replaced teams records team out into was there member kept = record {
  roster = subst (λ rs. IsRoster (record { teams = set teams team (with_member out into was); records = rs })) (sym (records_recounted team (swapped out into was.members) records))
      (IsRoster-replaced (roster_of teams records) team out into was there member kept.roster);
  counted = All-map (CountsMissingIn (set teams team (with_member out into was))) (recounted team (swapped out into was.members)) records
      (λ i d within. counted_anew teams team (with_member out into was) (get_or records i d) (slice_get_within teams team was there) (kept.counted i d within));
}
