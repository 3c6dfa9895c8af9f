-- seats of a swarm: whose they are, and whose come back as they were
use Rattle.std.proofs.Common.{rules, arith, ◌≡◌, ◌∙◌, ◌⊎◌, inl, inr, ◌<◌, ◌≤◌, ◌+◌, ℕ, zero, suc, true, false, List, [], ◌∷◌, ◌++◌, Bool, length, take, drop, get_or, map, ◌==◌, ◌≢◌, length-append, refl, sym, ap, subst}
use Rattle.std.specs.Prelude.{slice_get, Option, Some, None, Result, Ok, Err, IsOk, IfErr}
use Rattle.std.specs.List.{All, AllZip, Contains}
use Rattle.std.proofs.lemmas.Bool.{cases_lt, false≢true}
use Rattle.std.proofs.lemmas.List.{append-nil, drop_all, take_all, get_or_append_left, get_or_push}
use Rattle.std.proofs.lemmas.List.Elements.{AllZip-get_or, length_all_zip, All-contains, Contains-append_left, Contains-append_right, Contains-push, filter-append}
use Rattle.std.proofs.lemmas.List.FromFn.{length-map-range_with_len}
use Rattle.fy_cluster.specs.Setup.{Setup}
use Rattle.fy_cluster.specs.Execution.{Execution}
use Rattle.fy_cluster.specs.Survival.{Survives}
use Rattle.fy_cluster.specs.declared.role.Role.{Role}
use Rattle.fy_actors.specs.Desk.{entries_by}
use Rattle.fy_shared.specs.Yard.{Yard, SeatState, new_seat, new_seats, IsJournalOf, Settled, Missing}
use Rattle.fy_swarm.specs.declared.player.Player.{Player}
use Rattle.fy_shared.specs.Posts.{Ran, EndsSo}
use Rattle.fy_shared.specs.Parts.{KeepsPart}
use Rattle.fy_shared.specs.declared.posts.End.TheVariants.{NotRun, Ended, Limit, Shut, Failed}
use Rattle.fy_cluster.specs.declared.fault.Fault.TheVariants.{JournalFull, NoMemory}
use Rattle.fy_actors.specs.Parts.{Part, has_next_act, KeepsTo, OthersChangeNoPart}
use Rattle.fy_actors.specs.Parts.Part.{Unspecified}
use Rattle.fy_swarm.specs.declared.player.Player.TheVariants.{Stores, Swizzles, Kills}
use Rattle.fy_shared.specs.declared.posts.End.{End}
use Rattle.fy_acts.specs.declared.entry.Entry.{Entry}
use Rattle.fy_audit.specs.AuditText.{audit_text}
use Rattle.fy_acts.specs.declared.version.Version.{Version}
use Rattle.fy_acts.specs.declared.version.Version.TheVariants.{Second}
use Rattle.fy_swarm.specs.Swarm.{IsSwarm, HasSwarmAudit, HasPlayed, Finished, AllFinished, Plays, is_active, part_of, most_turns}

-- ---- new seats

abbrev first_of : List SeatState → SeatState → SeatState
first_of [] d = d
first_of (x ∷ xs) d = x

abbrev rest_of : List SeatState → List SeatState
rest_of [] = []
rest_of (x ∷ xs) = xs

-- of seats by number that are still to come, the first and those behind it
pub next_seat : (y : Yard) (i left : ℕ) (seat : SeatState) (rest : List SeatState) → seat ∷ rest ≡ new_seats y i left
    → (fewer : ℕ) × (left ≡ suc fewer) × (seat ≡ new_seat y i) × (rest ≡ new_seats y (i + 1) fewer)
next_seat y i zero seat rest is = let bad : suc (length rest) ≡ 0 = ap length is in absurd (omega arith)
next_seat y i (suc fewer) seat rest is =
    (fewer, refl, ap (λ xs. first_of xs seat) is, ap rest_of is)

pub none_left : (y : Yard) (i left : ℕ) (rest : List SeatState) → length rest ≡ 0 → rest ≡ new_seats y i left → left ≡ 0
none_left y i left rest none is = sym (length-map-range_with_len (new_seat y) i left) ∙ sym (ap length is) ∙ none

-- ---- who rests

-- the seats of those below a number who aren't let loose are among these, as they were
abbrev pub AreBack : List Role → Yard → ℕ → List SeatState → Type 0
AreBack roles y i back =
    (a : ℕ) → a < i → is_active (slice_get roles a) ≡ false → Contains back (new_seat y a)

pub more_back : (roles : List Role) (y : Yard) (i : ℕ) (back more : List SeatState) → AreBack roles y i back → AreBack roles y i (back ++ more)
more_back roles y i back more are a below rests = Contains-append_left back more (new_seat y a) (are a below rests)

same_number : (i a : ℕ) → a < i + 1 → i ≤ a → a ≡ i
same_number i a below past = omega arith

pub rests_back : (roles : List Role) (y : Yard) (i : ℕ) (back : List SeatState) → AreBack roles y i back → AreBack roles y (i + 1) (back ++ new_seat y i ∷ [])
rests_back roles y i back are a below rests =
    elim (cases_lt a i) [
      | inl before ↦ Contains-append_left back (new_seat y i ∷ []) (new_seat y a) (are a before rests)
      | inr past ↦ subst (λ n. Contains (back ++ new_seat y i ∷ []) (new_seat y n)) (sym (same_number i a below past)) (Contains-push back (new_seat y i))
    ]

pub loose_back : (roles : List Role) (y : Yard) (i : ℕ) (back : List SeatState) → is_active (slice_get roles i) ≡ true → AreBack roles y i back → AreBack roles y (i + 1) back
loose_back roles y i back loose are a below rests =
    elim (cases_lt a i) [
      | inl before ↦ are a before rests
      | inr past ↦
          let bad : true ≡ false = sym loose ∙ (ap (λ n. is_active (slice_get roles n)) (sym (same_number i a below past)) ∙ rests) in
          absurd (search rules)
    ]

pub played_is_loose : (c : Setup) (seed a : ℕ) (who : Player) → Plays c seed a (Some who) → is_active (slice_get c.roles a) ≡ true
played_is_loose c seed a _ (Plays.stores role) = ap is_active role
played_is_loose c seed a _ (Plays.swizzles plan role even is) = ap is_active role
played_is_loose c seed a _ (Plays.kills ordered role odd) = ap is_active role

-- who is let loose is one of the actors
loose_below : (roles : List Role) (a : ℕ) → is_active (slice_get roles a) ≡ true → a < length roles
loose_below [] a loose = absurd (let bad : ⊥ = search rules in bad)
loose_below (role ∷ roles) zero loose = omega arith
loose_below (role ∷ roles) (suc a) loose = let less = loose_below roles a loose in omega arith

-- ---- the posts

-- what a run keeps of each post holds of all
pub all_keep : {A : Type 0} (R : A → A → Type 0) (P : A → Type 0) (before after : List A) → AllZip R before after → ((x y : A) → R x y → P x → P y) → All P before → All P after
all_keep R P before after ran keeps all k d lt =
    let long = length_all_zip R before after ran in
    let within : k < length before = omega arith in
    keeps (get_or before k d) (get_or after k d) (AllZip-get_or R before after k d d ran within) (all k d within)

-- as many come back as were run, and nothing is put back behind them
pub none_behind : {A : Type 0} (before after : List A) (n : ℕ) → n ≡ length before → length before ≡ length after → take n (after ++ drop (length after) before) ≡ after
none_behind before after n count long =
    ap (λ rest. take n (after ++ rest)) (drop_all (length after) before (omega arith))
    ∙ (ap (take n) (append-nil after) ∙ take_all n after (omega arith))

-- what a run says of the posts of a slice holds of the vector that it is of
pub ran_whole : {A : Type 0} {R : A → A → Type 0} (given before after : List A) (n : ℕ) → given ≡ before → AllZip R given after → n ≡ length before
    → AllZip R before (take n (after ++ drop (length after) before))
    × (length (take n (after ++ drop (length after) before)) ≡ length before)
    × ((P : A → Type 0) → ((x y : A) → R x y → P x → P y) → All P before → All P (take n (after ++ drop (length after) before)))
ran_whole {A} {R} given before after n is run count =
    let ran : AllZip R before after = subst (λ xs. AllZip R xs after) is run in
    let long = length_all_zip R before after ran in
    let whole : take n (after ++ drop (length after) before) ≡ after = none_behind before after n count long in (
      subst (AllZip R before) (sym whole) ran,
      ap length whole ∙ sym long,
      λ P keeps all. subst (All P) (sym whole) (all_keep R P before after ran keeps all),
    )

-- ---- who plays

-- each actor below a number that is let loose has a post: its new seat, and the part that is its
-- player's
abbrev pub AreCast : {A : Type 0} → (A → SeatState) → (A → Part) → Setup → ℕ → Yard → ℕ → List A → Type 0
AreCast {A} seat part c seed y i posts =
    (a : ℕ) → a < i → is_active (slice_get c.roles a) ≡ true →
    (player : Player) × Plays c seed a (Some player) × (k : ℕ) × (k < length posts)
    × ((d : A) → (seat (get_or posts k d) ≡ new_seat y a) × (part (get_or posts k d) ≡ part_of player))

rests_isnt_loose : (c : Setup) (seed a : ℕ) → Plays c seed a None → is_active (slice_get c.roles a) ≡ false
rests_isnt_loose c seed a (Plays.rests role) = ap is_active role

-- whom nobody plays rests
pub nobody_plays : (c : Setup) (seed a : ℕ) (who : Option Player) → ((player : Player) → who ≡ Some player → ⊥) → Plays c seed a who → Plays c seed a None
nobody_plays c seed a None none plays = plays
nobody_plays c seed a (Some player) none plays = absurd (none player refl)

-- who rests needs no post
pub rests_cast : {A : Type 0} (seat : A → SeatState) (part : A → Part) (c : Setup) (seed : ℕ) (y : Yard) (i : ℕ) (posts : List A) → Plays c seed i None
    → AreCast seat part c seed y i posts → AreCast seat part c seed y (i + 1) posts
rests_cast seat part c seed y i posts idle are a below loose =
    elim (cases_lt a i) [
      | inl before ↦ are a before loose
      | inr past ↦
          let bad : true ≡ false = sym loose ∙ (ap (λ n. is_active (slice_get c.roles n)) (same_number i a below past) ∙ rests_isnt_loose c seed i idle) in
          absurd (search rules)
    ]

-- who is given a post has it
pub loose_cast : {A : Type 0} (seat : A → SeatState) (part : A → Part) (c : Setup) (seed : ℕ) (y : Yard) (i : ℕ) (posts : List A) (player : Player) (post : A) → Plays c seed i (Some player)
    → seat post ≡ new_seat y i → part post ≡ part_of player → AreCast seat part c seed y i posts → AreCast seat part c seed y (i + 1) (posts ++ post ∷ [])
loose_cast seat part c seed y i posts player post plays at is are a below loose =
    elim (cases_lt a i) [
      | inl before ↦
          let had = are a before loose in
          let within = had.3 in
          let long = length-append posts (post ∷ []) in
          (had.0, had.1, had.2, omega arith, λ d. subst (λ p. (seat p ≡ new_seat y a) × (part p ≡ part_of had.0)) (sym (get_or_append_left posts (post ∷ []) d had.2 within)) (had.4 d))
      | inr past ↦
          let same : a ≡ i = same_number i a below past in
          let long = length-append posts (post ∷ []) in (
            player,
            subst (λ n. Plays c seed n (Some player)) (sym same) plays,
            length posts,
            omega arith,
            λ d. subst (λ p. (seat p ≡ new_seat y a) × (part p ≡ part_of player)) (sym (get_or_push posts post d (length posts) refl)) (at ∙ ap (new_seat y) (sym same), is),
          )
    ]

part_is_known : (player : Player) → part_of player ≢ Unspecified
part_is_known (Stores drive) e = let bad : ⊥ = search rules in bad
part_is_known (Swizzles schedule) e = let bad : ⊥ = search rules in bad
part_is_known (Kills schedule) e = let bad : ⊥ = search rules in bad

-- a seat that has seen nothing follows any part
new_follows : (y : Yard) (a : ℕ) (first : Part) → KeepsPart y first (new_seat y a) first
new_follows y a first = record {
  own = refl;
  keeps = record { now_at = refl; obeys = λ front rest entry is. absurd (nothing_split front rest entry is) };
}
  where
    nothing_split : (front rest : List Entry) (entry : Entry) → [] ≡ front ++ entry ∷ rest → ⊥
    nothing_split front rest entry is =
        let long = length-append front (entry ∷ rest) in
        let none : 0 ≡ length (front ++ entry ∷ rest) = ap length is in
        omega arith

-- what a run leaves of a new seat whose actor plays
finished : (y : Yard) (a : ℕ) (player : Player) (t : SeatState) (now : Part) (end : End)
    → Ran y (λ _ _. ⊥) most_turns (new_seat y a) t (part_of player) now end → end ≢ Failed NoMemory → Finished y a player t
finished y a player t now end ran remembered = record {
  number = ran.seat.1;
  now = now;
  follows = ran.follows (part_of player) (new_follows y a (part_of player));
  through = ends end ran.ended remembered;
}
  where
    ends : (end : End) → EndsSo y (λ _ _. ⊥) most_turns (new_seat y a) t (part_of player) now end → end ≢ Failed NoMemory
        → (has_next_act now ≡ false) ⊎ ((length t.receipts ≡ most_turns) ⊎ (y.setup.limit ≤ length t.seen))
    ends NotRun so remembered = absurd so
    ends Ended so remembered = inl so.1
    ends Limit so remembered = inr (inl (so.1 (part_is_known player)))
    ends Shut so remembered = absurd so.1.shut
    ends (Failed JournalFull) so remembered = inr (inr (so.1 refl (part_is_known player)))
    ends (Failed NoMemory) so remembered = absurd (remembered refl)

-- all have finished, at the seats of their posts
pub all_finished : {A : Type 0} (seat : A → SeatState) (part : A → Part) (end : A → End) (c : Setup) (seed : ℕ) (y : Yard) (before after : List A) (back : List SeatState)
    → AreCast seat part c seed y (length c.roles) before → length after ≡ length before
    → AllZip (λ p q. Ran y (λ _ _. ⊥) most_turns (seat p) (seat q) (part p) (part q) (end q)) before after → All (λ p. end p ≢ Failed NoMemory) after → AllFinished c seed y (back ++ map seat after)
all_finished {A} seat part end c seed y before after back cast same ran remembered a below loose =
    let had = cast a below loose in
    let k = had.2 in
    let within = had.3 in
    let inside : k < length after = omega arith in
    let d = first_post before k within in
    let e = get_or after k d in
    let here = had.4 d in (
      had.0,
      had.1,
      seat e,
      Contains-append_right back (map seat after) (seat e) (contains_mapped after k d inside),
      finished y a had.0 (seat e) (part e) (end e)
          (subst (λ q. Ran y (λ _ _. ⊥) most_turns (new_seat y a) (seat e) q (part e) (end e)) here.1
          (subst (λ s. Ran y (λ _ _. ⊥) most_turns s (seat e) (part (get_or before k d)) (part e) (end e)) here.0
          (AllZip-get_or (λ p q. Ran y (λ _ _. ⊥) most_turns (seat p) (seat q) (part p) (part q) (end q)) before after k d d ran within)))
          (remembered k d inside),
    )
  where
    first_post : (xs : List A) (k : ℕ) → k < length xs → A
    first_post [] k within = absurd (let none : ⊥ = omega arith in none)
    first_post (x ∷ xs) k within = x

    contains_mapped : (xs : List A) (k : ℕ) (d : A) → k < length xs → Contains (map seat xs) (seat (get_or xs k d))
    contains_mapped [] k d within = absurd (let none : ⊥ = omega arith in none)
    contains_mapped (x ∷ xs) zero d within = (0, omega arith, refl)
    contains_mapped (x ∷ xs) (suc k) d within =
        let next = contains_mapped xs k d (omega arith) in
        let less = next.1 in
        (suc next.0, omega arith, next.2)

-- ---- the close

-- no actor's seat is missing: who rests has its seat as it was, and who is let loose the one at
-- which it has played
pub none_missing : (c : Setup) (seed : ℕ) (y : Yard) (seats : List SeatState) → AreBack c.roles y (length c.roles) seats → AllFinished c seed y seats
    → Missing (length c.roles) seats → ⊥
none_missing c seed y seats back done missing =
    let a = missing.0 in
    let below = missing.1 in
    let found : (s : SeatState) → Contains seats s → s.actor ≡ a → ⊥ =
    λ s has. All-contains (λ (t : SeatState). t.actor ≢ a) seats s missing.2 has in
    elim (two (is_active (slice_get c.roles a))) [
      | inl loose ↦ let had = done a below loose in found had.2 had.3 had.4.number
      | inr rests ↦ found (new_seat y a) (back a below rests) refl
    ]
  where
    two : (b : Bool) → (b ≡ true) ⊎ (b ≡ false)
    two true = inl refl
    two false = inr refl

no_entries : (xs : List Entry) → length xs ≡ 0 → xs ≡ []
no_entries [] e = refl
no_entries (x ∷ xs) e = absurd (let none : ⊥ = omega arith in none)

-- who has finished has played, in the journal of the close
has_played : OthersChangeNoPart → (y : Yard) (a : ℕ) (player : Player) (s : SeatState) (journal : List Entry) → Finished y a player s → IsJournalOf journal s → HasPlayed y.setup a player journal
has_played others y a player s journal done is =
    let rest = is.0.0 in
    let own : entries_by s.actor s.seen ≡ s.receipts = done.follows.own in
    let split : entries_by s.actor journal ≡ entries_by s.actor s.seen ++ entries_by s.actor rest =
    ap (entries_by s.actor) is.0.1 ∙ filter-append (λ (e : Entry). e.by == s.actor) s.seen rest in
    let long : length (entries_by s.actor s.seen ++ entries_by s.actor rest) ≡ length (entries_by s.actor s.seen) + length (entries_by s.actor rest) =
    length-append (entries_by s.actor s.seen) (entries_by s.actor rest) in
    let same : length (entries_by s.actor s.seen ++ entries_by s.actor rest) ≡ length (entries_by s.actor s.seen) =
    ap length (sym split ∙ (is.1 ∙ sym own)) in
    let none : entries_by s.actor rest ≡ [] = no_entries (entries_by s.actor rest) (omega (arith, long, same)) in
    let keeps : KeepsTo y.setup s.actor (part_of player) journal done.now =
    subst (λ (l : List Entry). KeepsTo y.setup s.actor (part_of player) l done.now) (sym is.0.1)
    (others y.setup s.actor (part_of player) done.now s.seen rest none done.follows.keeps) in
    let grown : length journal ≡ length s.seen + length rest = ap length is.0.1 ∙ length-append s.seen rest in
    record {
      now = done.now;
      keeps = subst (λ n. KeepsTo y.setup n (part_of player) journal done.now) done.number keeps;
      through = elim done.through [
        | inl over ↦ inl over
        | inr (inl many) ↦ inr (inl (ap (λ n. length (entries_by n journal)) (sym done.number) ∙ (ap length is.1 ∙ many)))
        | inr (inr full) ↦ inr (inr (omega (arith, grown, full)))
      ];
    }

-- what has an answer has no fault
pub no_fault : {A E : Type 0} (result : Result A E) (P : E → Type 0) → IsOk result → IfErr result P
no_fault (Ok answer) P is = tt
no_fault (Err fault) P is = absurd (false≢true is)

-- what a swarm leaves, once all seats are handed in
pub is_swarm : OthersChangeNoPart → (y : Yard) (c : Setup) (seed : ℕ) (seats : List SeatState) (execution : Execution) (left : List SeatState) → y.setup ≡ c → AreBack c.roles y (length c.roles) seats
    → AllFinished c seed y seats → Settled y seats execution left → IsSwarm c seed execution.journal
is_swarm others y c seed seats execution left same back done settled =
    record {
      survives = subst (λ d. Survives d execution.journal) same settled.survives;
      played = λ a loose.
          let had = done a (loose_below c.roles a loose) loose in (
            had.0,
            had.1,
            subst (λ d. HasPlayed d a had.0 execution.journal) same
                (has_played others y a had.0 had.2 execution.journal had.4 (All-contains (IsJournalOf execution.journal) seats had.2 settled.each had.3)),
          );
      quiet = λ a rests. elim (cases_lt a (length c.roles)) [
        | inl below ↦ (All-contains (IsJournalOf execution.journal) seats (new_seat y a) settled.each (back a below rests)).1
        | inr past ↦ settled.strangers a (subst (λ (d : Setup). length d.roles ≤ a) (sym same) past)
      ];
    }

-- the audit of the journal that a swarm leaves
pub has_swarm_audit : (c : Setup) (seed : ℕ) (journal : List Entry) (version : Version) (entries : List Entry) (P : List ℕ → Type 0) → IsSwarm c seed journal → entries ≡ journal → version ≡ Second
    → P (audit_text version entries) → HasSwarmAudit c seed P
has_swarm_audit c seed journal version entries P is same second holds =
    (journal, is, subst P (ap (audit_text version) same ∙ ap (λ v. audit_text v journal) second) holds)
