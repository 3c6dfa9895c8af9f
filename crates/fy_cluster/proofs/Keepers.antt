-- from marks to copies: every acknowledged record is kept, and a keeper is found
use Rattle.std.proofs.Common.{◌≡◌, ◌↔◌, ℕ, ◌<◌, Bool, true, false, not, List, [], ◌∷◌, length, Contains, Option, Some, None, is_some, option_map, refl, sym, ◌∙◌, ap, subst, inl, inr, slice_get, if◌then◌else◌, ◌==◌, eqb-true, eq-eqb}
use Rattle.std.proofs.lemmas.Bool.{false≢true, or_cases, or_parts, and_from, not-false, not-true, true_from_ne_false, both_ways}
use Rattle.std.proofs.lemmas.List.Elements.{All-contains}
use Rattle.std.proofs.lemmas.List.Folds.{Any-from_list_any}
use Rattle.std.specs.List.{list_any, Any}
use Rattle.fy_locality.specs.declared.ProcId.{ProcId}
use Rattle.fy_policy.specs.Sat.{Sat}
use Rattle.fy_decide.specs.Safety.{AreShort}
use Rattle.fy_grants.specs.Least.{LeastWith, least_with}
use Rattle.fy_team.specs.Teams.{Team, is_among, IsFormed}
use Rattle.fy_acts.specs.declared.entry.Entry.{Entry}
use Rattle.fy_cluster.specs.Setup.{Setup, IsMet}
use Rattle.fy_cluster.specs.History.{History, history, destroyed, teams, records, members_for, payload_of, synced, acked, keeps, keeper}
use Rattle.fy_cluster.specs.Replies.{Legal}
use Rattle.fy_cluster.specs.Survival.{Kept, DestroyedShort, KeepersFound}
use Rattle.fy_cluster.proofs.Journals.{kept_after}
use Rattle.fy_cluster.proofs.Strikes.{More}
use Rattle.fy_cluster.proofs.Records.{Tested, Sound, sound_start, sound_next, slice_get-each, Known, HasCopy, any_at, team_known, payload_known}

-- where no member is undestroyed, all are destroyed
all_destroyed : (d : ℕ → Bool) (ps : List ProcId) → list_any (λ p. not (d p.0)) ps ≡ false → (p : ℕ) → is_among ps p ≡ true → d p ≡ true
all_destroyed d [] n p i = absurd (false≢true i)
all_destroyed d (q ∷ ps) n p i =
    let both = or_parts (not (d q.0)) (list_any (λ p. not (d p.0)) ps) n in
    elim (or_cases (q.0 == p) (is_among ps p) i) [
      | inl a ↦ let same : q.0 ≡ p = eqb-true q.0 p a in subst (λ x. d x ≡ true) same (not-false _ both.0)
      | inr a ↦ all_destroyed d ps both.1 p a
    ]

-- a member that isn't destroyed has a copy with its payload
copy_of : (h : History) (r p : ℕ) → HasCopy h r p → destroyed h p ≡ false → Contains (synced h p) (record { rec = r; payload = payload_of h r })
copy_of h r p g d = elim g [
  | inl a ↦ absurd (both_ways _ d a)
  | inr a ↦ rw (payload_known h r a.0 a.1) a.2
]

-- some member isn't destroyed: the team satisfies its policy, and the destroyed are short of it
someone_left : More → (c : Setup) (h : History) → Sound c h → AreShort c.processes c.policies (destroyed h) → (r : ℕ) → Known h r → list_any (λ p. not (destroyed h p.0)) (members_for h r) ≡ true
someone_left more c h sound short r b =
    let t = slice_get-each (λ b. (t : Team) × (slice_get (teams h) b.team ≡ Some t)) (records h) r b.0 sound.joined b.1 in
    let is = slice_get-each (IsFormed c.processes c.policies) (teams h) b.0.team t.0 sound.formed t.1 in
    let team : members_for h r ≡ t.0.members = team_known h r b.0 t.0 b.1 t.1 in
    let not_short = slice_get-each (λ P. Sat c.processes P (destroyed h) → ⊥) c.policies t.0.policy is.need short is.named in
    rw team (true_from_ne_false _ (λ none. not_short (more c.processes is.need (is_among t.0.members) (destroyed h) (all_destroyed (destroyed h) t.0.members none) is.satisfied)))

kept_from : More → (c : Setup) (h : History) → Sound c h → AreShort c.processes c.policies (destroyed h) → (r : ℕ) → acked h r ≡ true → Kept h r
kept_from more c h sound short r a = record {
  someone = someone_left more c h sound short r (sound.ack_known r a);
  everyone = λ p i d. copy_of h r p.0 (sound.by_ack r p a i) d;
}

pub sound_after : Tested → (c : Setup) (journal : List Entry) → Legal c journal → Sound c (history c journal)
sound_after tested c journal l = kept_after c (Sound c) (sound_next tested c) [] journal (sound_start c) l.1

pub records_kept : Tested → More → DestroyedShort → (c : Setup) (journal : List Entry) → IsMet c → Legal c journal → (r : ℕ) → acked (history c journal) r ≡ true → Kept (history c journal) r
records_kept tested more short c journal i l r a = kept_from more c (history c journal) (sound_after tested c journal l) (short c journal i l) r a

-- ---- keepers

abbrev pub LeastFound : Type 0
LeastFound = (count : ℕ) (set test : ℕ → Bool) (found : Option ProcId) → ((q : ℕ) → set q ≡ true → q < count) → LeastWith set test found ↔ (option_map (λ p. p.0) found ≡ least_with count set test)

-- who is among processes is one of them
pub among_is : (ps : List ProcId) (q : ℕ) → is_among ps q ≡ true → Any (λ p. p.0 ≡ q) ps
among_is ps q i = at (Any-from_list_any (λ p. p.0 == q) ps i)
  where
    at : Any (λ p. (p.0 == q) ≡ true) ps → Any (λ p. p.0 ≡ q) ps
    at a = (a.0, a.1, a.2, a.3, eqb-true a.1.0 q a.4)

-- the members of a record's team are processes of the cluster
pub members_there : (c : Setup) (h : History) → Sound c h → (r : ℕ) → acked h r ≡ true → (q : ℕ) → is_among (members_for h r) q ≡ true → q < length c.processes
members_there c h sound r a q i =
    let b = sound.ack_known r a in
    let t = slice_get-each (λ b. (t : Team) × (slice_get (teams h) b.team ≡ Some t)) (records h) r b.0 sound.joined b.1 in
    let is = slice_get-each (IsFormed c.processes c.policies) (teams h) b.0.team t.0 sound.formed t.1 in
    let p = among_is t.0.members q (subst (λ ps. is_among ps q ≡ true) (team_known h r b.0 t.0 b.1 t.1) i) in
    subst (λ n. n < length c.processes) p.4 (All-contains (λ p. p.0 < length c.processes) t.0.members p.1 is.known (p.0, p.2, p.3))

-- some member keeps the record
someone_keeps : (h : History) (r : ℕ) → Kept h r → (q : ℕ) × (is_among (members_for h r) q ≡ true) × (keeps h r q ≡ true)
someone_keeps h r k = at (Any-from_list_any (λ p. not (destroyed h p.0)) (members_for h r) k.someone)
  where
    at : Any (λ p. not (destroyed h p.0) ≡ true) (members_for h r) → (q : ℕ) × (is_among (members_for h r) q ≡ true) × (keeps h r q ≡ true)
    at a =
        let member : Contains (members_for h r) a.1 = (a.0, a.2, a.3) in (
          a.1.0,
          any_at (λ p. p.0 == a.1.0) (members_for h r) a.1 member (eq-eqb a.1.0 a.1.0 refl),
          and_from _ _ a.4 (any_at (λ x. x.rec == r) (synced h a.1.0) (record { rec = r; payload = payload_of h r }) (k.everyone a.1 member (not-true _ a.4)) (eq-eqb r r refl)),
        )

back : (o : Option ℕ) → option_map (λ p. p.0) (option_map {U = ProcId} (λ p. record { 0 = p }) o) ≡ o
back None = refl
back (Some n) = refl

-- where somebody passes, the least who does is some
least_some : (set test : ℕ → Bool) (found : Option ProcId) → LeastWith set test found → (q : ℕ) → set q ≡ true → test q ≡ true → is_some found ≡ true
least_some set test None none q member passes = absurd (both_ways _ (none q member) passes)
least_some set test (Some p) least q member passes = refl

keeper_least : LeastFound → (c : Setup) (h : History) → Sound c h → (r : ℕ) → acked h r ≡ true → LeastWith (is_among (members_for h r)) (keeps h r) (keeper c h r)
keeper_least found c h sound r a = subst (LeastWith (is_among (members_for h r)) (keeps h r)) (sym is) least
  where
    o : Option ℕ
    o = least_with (length c.processes) (is_among (members_for h r)) (keeps h r)

    is : keeper c h r ≡ option_map (λ p. record { 0 = p }) o
    is = ap (λ b. if b then option_map {U = ProcId} (λ p. record { 0 = p }) o else None) a

    least : LeastWith (is_among (members_for h r)) (keeps h r) (option_map (λ p. record { 0 = p }) o)
    least = (found (length c.processes) (is_among (members_for h r)) (keeps h r) (option_map (λ p. record { 0 = p }) o) (members_there c h sound r a)).1 (back o)

keeper_some : (c : Setup) (h : History) (r : ℕ) → (acked h r ≡ true → is_some (keeper c h r) ≡ true) → is_some (keeper c h r) ≡ acked h r
keeper_some c h r some = at (acked h r) refl
  where
    at : (b : Bool) → acked h r ≡ b → is_some (keeper c h r) ≡ acked h r
    at true a = some a ∙ sym a
    at false a = ap (λ b. is_some (if b then option_map {U = ProcId} (λ p. record { 0 = p }) (least_with (length c.processes) (is_among (members_for h r)) (keeps h r)) else None)) a ∙ sym a

keeper_found : Tested → More → LeastFound → DestroyedShort → (c : Setup) (journal : List Entry) → IsMet c → Legal c journal → (r : ℕ) → acked (history c journal) r ≡ true → is_some (keeper c (history c journal) r) ≡ true
keeper_found tested more found short c journal i l r a =
    let k = someone_keeps (history c journal) r (records_kept tested more short c journal i l r a) in
    least_some _ _ (keeper c (history c journal) r) (keeper_least found c (history c journal) (sound_after tested c journal l) r a) k.0 k.1 k.2

pub keepers_found : Tested → More → LeastFound → DestroyedShort → KeepersFound
keepers_found tested more found short c journal i l r =
    (keeper_some c (history c journal) r (keeper_found tested more found short c journal i l r), keeper_least found c (history c journal) (sound_after tested c journal l) r)
