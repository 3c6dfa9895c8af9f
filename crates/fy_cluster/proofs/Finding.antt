-- the machine finds the keeper of a record
use Rattle.std.proofs.Common.{◌≡◌, ℕ, suc, ◌<◌, Bool, true, false, ◌&&◌, not, List, [], ◌∷◌, length, Option, Some, None, option_map, refl, sym, ◌∙◌, ap, ap₂, subst, inl, inr, arith, find, cond, ◌==◌, slice_get, get_or, eqb-true, eq-eqb, if◌then◌else◌}
use Rattle.std.proofs.lemmas.Bool.{false≢true, or_cases, or_left, or_right}
use Rattle.std.proofs.lemmas.Option.{get_or_from_slice_get}
use Rattle.std.specs.List.{list_any, AllPairs}
use Rattle.std.proofs.lemmas.List.Elements.{recursion_from_All}
use Rattle.fy_locality.specs.declared.ProcId.{ProcId}
use Rattle.fy_disk.specs.Disk.{Stored as OnDisk}
use Rattle.fy_grants.specs.Least.{LeastWith, least_with}
use Rattle.fy_team.specs.Teams.{Team, Record, Roster, IsRoster, is_among, is_acked, members_in}
use Rattle.fy_acts.specs.declared.entry.Entry.{Entry}
use Rattle.fy_cluster.specs.declared.machine.Machine.{Machine}
use Rattle.fy_cluster.specs.Setup.{Setup}
use Rattle.fy_cluster.specs.History.{History, history, members_for, acked, keeps, keeper}
use Rattle.fy_disk.specs.Disk.{empty_disk}
use Rattle.fy_cluster.specs.Standing.{Refines, RefinesJournal, stored}
use Rattle.fy_cluster.specs.Sights.{keeps_on}
use Rattle.fy_cluster.proofs.Keepers.{LeastFound, among_is, members_there, sound_after}
use Rattle.fy_cluster.proofs.Records.{Tested, Sound, slice_get-each, slice_get-some}
use Rattle.fy_cluster.proofs.Results.{some_is_same, some_not_none}
use Rattle.fy_cluster.proofs.Resent.{IsOf, is_of}

-- ---- the first that passes

-- the processes rise
abbrev Rising : List ProcId → Type 0
Rising ps = AllPairs (λ p q. p.0 < q.0) ps

rising_tail : (p : ProcId) (ps : List ProcId) → Rising (p ∷ ps) → Rising ps
rising_tail p ps rising i j d l w = rising (suc i) (suc j) d (omega arith) (omega arith)

-- who is among those behind p is above it
above_head : (p : ProcId) (ps : List ProcId) → Rising (p ∷ ps) → (q : ℕ) → is_among ps q ≡ true → p.0 < q
above_head p ps rising q i =
    let a = among_is ps q i in
    let above : p.0 < (get_or ps a.0 a.1).0 = rising 0 (suc a.0) a.1 (omega arith) (let w = a.2 in omega arith) in
    subst (λ n. p.0 < n) (ap (λ (x : ProcId). x.0) a.3 ∙ a.4) above

-- of processes that rise, the first that passes is the least
first_is_least : (test : ℕ → Bool) (ps : List ProcId) → Rising ps → LeastWith (is_among ps) test (find (λ p. test p.0) ps)
first_is_least test [] rising = λ q i. absurd (false≢true i)
first_is_least test (p ∷ ps) rising = at (test p.0) refl (first_is_least test ps (rising_tail p ps rising))
  where
    later : test p.0 ≡ false → (o : Option ProcId) → LeastWith (is_among ps) test o → LeastWith (is_among (p ∷ ps)) test o
    later e None none = λ q i.
        elim (or_cases (p.0 == q) (is_among ps q) i) [
          | inl a ↦ let same : p.0 ≡ q = eqb-true p.0 q a in subst (λ n. test n ≡ false) same e
          | inr a ↦ none q a
        ]
    later e (Some r) least = record {
      member = or_right (p.0 == r.0) (is_among ps r.0) least.member;
      passes = least.passes;
      none_below = λ q l i.
          elim (or_cases (p.0 == q) (is_among ps q) i) [
            | inl a ↦ let same : p.0 ≡ q = eqb-true p.0 q a in subst (λ n. test n ≡ false) same e
            | inr a ↦ least.none_below q l a
          ];
    }

    at : (b : Bool) → test p.0 ≡ b → LeastWith (is_among ps) test (find (λ p. test p.0) ps) → LeastWith (is_among (p ∷ ps)) test (cond b (Some p) (find (λ p. test p.0) ps))
    at true e rest = record {
      member = or_left (p.0 == p.0) (is_among ps p.0) (eq-eqb p.0 p.0 refl);
      passes = e;
      none_below = λ q l i.
          elim (or_cases (p.0 == q) (is_among ps q) i) [
            | inl a ↦ let same : p.0 ≡ q = eqb-true p.0 q a in absurd (omega arith)
            | inr a ↦ let above = above_head p ps rising q a in absurd (omega arith)
          ];
    }
    at false e rest = later e (find (λ p. test p.0) ps) rest

-- two tests that agree on the set have the same least
least_same : (set test test' : ℕ → Bool) → ((q : ℕ) → set q ≡ true → test q ≡ test' q) → (o : Option ProcId) → LeastWith set test o → LeastWith set test' o
least_same set test test' same None none = λ q i. sym (same q i) ∙ none q i
least_same set test test' same (Some p) least = record {
  member = least.member;
  passes = sym (same p.0 least.member) ∙ least.passes;
  none_below = λ q l i. sym (same q i) ∙ least.none_below q l i;
}

-- ---- the keeper

-- what the machine says of a process
keeps_is : (c : Setup) (h : History) (m : Machine) → Refines c h m → (rec p : ℕ) → p < length c.processes → keeps_on m rec p ≡ keeps h rec p
keeps_is c h m k rec p l = ap₂ (λ a b. not a && b) (k.dead.destroyed p) (ap (λ (d : OnDisk). list_any (λ item. item.rec == rec) d.synced) (get_or_from_slice_get m.disks p (stored h p) empty_disk (k.disks.each p l)))

pub no_keeper : (c : Setup) (journal : List Entry) (m : Machine) (rec : ℕ) → RefinesJournal c journal m → is_acked m.teams rec ≡ false → None ≡ keeper c (history c journal) rec
no_keeper c journal m rec kept e =
    let not_acked : acked (history c journal) rec ≡ false = sym (kept.stands.teams.acked rec) ∙ e in
    sym (ap (λ b. if b then option_map {U = ProcId} (λ p. record { 0 = p }) (least_with (length c.processes) (is_among (members_for (history c journal) rec)) (keeps (history c journal) rec)) else None) not_acked)

by_number : (o : Option ProcId) → option_map {U = ProcId} (λ p. record { 0 = p }) (option_map (λ p. p.0) o) ≡ o
by_number None = refl
by_number (Some p) = refl

pub keeper_is : Tested → LeastFound → (c : Setup) (journal : List Entry) (m : Machine) (rec team : ℕ) (members : List ProcId) (found : Option ProcId) → RefinesJournal c journal m → is_acked m.teams rec ≡ true
    → Some team ≡ option_map (λ (it : Record). it.team) (slice_get m.teams.records rec) → Some members ≡ members_in m.teams team → Rising members → found ≡ find (λ p. keeps_on m rec p.0) members
    → found ≡ keeper c (history c journal) rec
keeper_is tested least c journal m rec team members found kept e named there rising first =
    sym (by_number found)
    ∙ ap (option_map (λ p. record { 0 = p })) ((least (length c.processes) (is_among (members_for h rec)) (keeps h rec) found (members_there c h sound rec is_acknowledged)).0 is_least)
    ∙ sym (ap (λ b. if b then option_map {U = ProcId} (λ p. record { 0 = p }) (least_with (length c.processes) (is_among (members_for h rec)) (keeps h rec)) else None) is_acknowledged)
  where
    h : History
    h = history c journal

    sound : Sound c (history c journal)
    sound = sound_after tested c journal kept.legal

    is_acknowledged : acked (history c journal) rec ≡ true
    is_acknowledged = sym (kept.stands.teams.acked rec) ∙ e

    of_team : IsOf (history c journal) rec members
    of_team = is_of (history c journal) m.teams kept.stands.teams rec team members named there

    is_least : LeastWith (is_among (members_for (history c journal) rec)) (keeps (history c journal) rec) found
    is_least =
        least_same (is_among (members_for h rec)) (keeps_on m rec) (keeps h rec) (λ q i. keeps_is c h m kept.stands rec q (members_there c h sound rec is_acknowledged q i)) found
        (rw (of_team.team, first) (first_is_least (keeps_on m rec) members rising))

-- the team of a record is there
pub team_is_there : (roster : Roster) → IsRoster roster → (rec team : ℕ) → Some team ≡ option_map (λ (it : Record). it.team) (slice_get roster.records rec) → None ≡ members_in roster team → ⊥
team_is_there roster is rec team named none = at (slice_get roster.records rec) refl named
  where
    at : (o : Option Record) → slice_get roster.records rec ≡ o → Some team ≡ option_map (λ (it : Record). it.team) o → ⊥
    at None s named = some_not_none team named
    at (Some it) s named =
        let low : it.team < length roster.teams = slice_get-each (λ (it : Record). it.team < length roster.teams) roster.records rec it (recursion_from_All _ roster.records is.named) s in
        let t = slice_get-some roster.teams it.team low in
        some_not_none t.0.members (sym (none ∙ ap (λ n. members_in roster n) (some_is_same team it.team named) ∙ ap (option_map (λ (it : Team). it.members)) t.1))
