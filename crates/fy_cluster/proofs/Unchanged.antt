-- without the three acts all is as by the earlier rules
use Rattle.std.proofs.Common.{◌≡◌, ℕ, ◌≤◌, Bool, true, false, ◌&&◌, ◌||◌, not, List, [], ◌∷◌, ◌++◌, length, Option, Some, None, is_some, refl, sym, ◌∙◌, ap, ap₂, subst, arith, inl, inr, ◌⊎◌, slice_get, option_to_list, option_and_then, nat_lt, ◌==◌, lt-ltb, ltb-true}
use Rattle.std.proofs.lemmas.Bool.{false≢true, or_cases, or_left, or_right, and_parts, and_from, cases_lt, both_ways, false_from_ne_true}
use Rattle.std.proofs.lemmas.Option.{slice_get_within}
use Rattle.std.specs.List.{list_all}
use Rattle.std.specs.Option.{option_map_or}
use Rattle.fy_locality.specs.declared.ProcId.{ProcId}
use Rattle.fy_locality.specs.declared.locality.Locality.{Locality}
use Rattle.fy_policy.specs.Tree.{Tree, IsPolicy}
use Rattle.fy_policy.specs.Sat.{Sat}
use Rattle.fy_team.specs.Teams.{Team, is_among, IsFormed}
use Rattle.fy_acts.specs.declared.act.Act.{Act}
use Rattle.fy_acts.specs.declared.act.Act.TheVariants.{Replace, Heal}
use Rattle.fy_acts.specs.declared.reply.Reply.{Reply}
use Rattle.fy_acts.specs.declared.entry.Entry.{Entry}
use Rattle.fy_acts.specs.declared.version.Version.TheVariants.{First}
use Rattle.fy_cluster.specs.Setup.{Setup, IsMet}
use Rattle.fy_cluster.specs.History.{History, Step, step_of, after, some_is, forms, delivers, destroys, destroyed, heals, heals_at, replaces, after_swap, teams, records, members_for, ack_of, marks, marked, delivers_ack_of, acked}
use Rattle.fy_cluster.specs.Replies.{IsNext, LegalAfter}
use Rattle.fy_cluster.specs.Versions.{knows_all}
use Rattle.fy_acts.specs.Versions.{knows}
use Rattle.fy_cluster.specs.Earlier.{once_destroyed, teams_formed, formed_for, once_marked, marked_by_all, IsAsEarlier, EarlierRulesHold}
use Rattle.fy_cluster.proofs.Records.{Tested, Sound, Known, sound_start, sound_next, known_still, tells_known, team_known, records_still, slice_get-append, slice_get-each, slice_get-some}

-- ---- tests

same_test : (a b : Bool) → (a ≡ true → b ≡ true) → (b ≡ true → a ≡ true) → a ≡ b
same_test true b there back = sym (there refl)
same_test false b there back = sym (false_from_ne_true b (λ t. false≢true (back t)))

list_all-more : {X : Type 0} (f g : X → Bool) → ((x : X) → f x ≡ true → g x ≡ true) → (xs : List X) → list_all f xs ≡ true → list_all g xs ≡ true
list_all-more f g w [] a = refl
list_all-more f g w (x ∷ xs) a = let both = and_parts (f x) (list_all f xs) a in and_from (g x) (list_all g xs) (w x both.0) (list_all-more f g w xs both.1)

-- where all pass one test and not all the other, one passes the first alone
passes_one : {X : Type 0} (f g : X → Bool) (xs : List X) → list_all f xs ≡ true → list_all g xs ≡ false → (x : X) × (f x ≡ true) × (g x ≡ false)
passes_one f g [] a n = absurd (false≢true (sym n))
passes_one f g (x ∷ xs) a n = at (passes_one f g xs both.1) (g x) refl n
  where
    both : (f x ≡ true) × (list_all f xs ≡ true)
    both = and_parts (f x) (list_all f xs) a

    at : (list_all g xs ≡ false → (y : _) × (f y ≡ true) × (g y ≡ false)) → (b : Bool) → g x ≡ b → (b && list_all g xs) ≡ false → (y : _) × (f y ≡ true) × (g y ≡ false)
    at more true e n = more n
    at more false e n = (x, both.0, e)

-- ---- what an act of the first version does not do

no_heal : (act : Act) (r : Reply) → knows First act ≡ true → heals act r ≡ None
no_heal (Heal p) r k = absurd (false≢true k)
no_heal _ r k = refl

no_swap : (act : Act) (r : Reply) → knows First act ≡ true → replaces act r ≡ None
no_swap (Replace team out into) r k = absurd (false≢true k)
no_swap _ r k = refl

-- ---- one entry more

-- what is kept, entry by entry
record Then (c : Setup) (h : History) : Type 0 where
  sound : Sound c h
  earlier : IsAsEarlier h
  marks_known : (r p : ℕ) → marked h r p ≡ true → Known h r

destroyed_next : (m : Step) (h : History) (p : ℕ) → heals_at m p ≡ false → destroyed h p ≡ once_destroyed h p → destroyed (m ∷ h) p ≡ once_destroyed (m ∷ h) p
destroyed_next m h p n d = ap₂ (λ x y. destroys m p || (not x && y)) n d

teams_next : (m : Step) (h : History) → replaces m.entry.act m.entry.reply ≡ None → teams h ≡ teams_formed h → teams (m ∷ h) ≡ teams_formed (m ∷ h)
teams_next m h n d = ap₂ (λ s ts. after_swap s ts ++ option_to_list (forms m.entry.act m.entry.reply)) n d

marked_next : (m : Step) (h : History) (r p : ℕ) → heals_at m p ≡ false → marked h r p ≡ once_marked h r p → marked (m ∷ h) r p ≡ once_marked (m ∷ h) r p
marked_next m h r p n d = ap₂ (λ x y. marks m r p || (not (x && not (acked h r)) && y)) n d

-- who has a mark got it by this entry, or had it
marked_cases : (m : Step) (h : History) (r p : ℕ) → marked (m ∷ h) r p ≡ true → (marks m r p ≡ true) ⊎ (marked h r p ≡ true)
marked_cases m h r p k = elim (or_cases (marks m r p) _ k) [ inl a ↦ inl a | inr a ↦ inr (and_parts (not (heals_at m p && not (acked h r))) (marked h r p) a).1 ]

marks_tells : (m : Step) (r p : ℕ) → marks m r p ≡ true → delivers_ack_of m r ≡ true
marks_tells m r p k =
    let both = and_parts (is_some (delivers m.entry.act m.entry.reply)) _ k in
    and_from _ _ both.0 (at (option_and_then ack_of m.message) both.1)
  where
    at : (o : Option (ℕ × ℕ)) → some_is (λ w. w.0 == r && w.1 == p) o ≡ true → some_is (λ w. w.0 == r) o ≡ true
    at None e = e
    at (Some w) e = (and_parts (w.0 == r) (w.1 == p) e).0

marks_known_next : (c : Setup) (h : History) (e : Entry) → Sound c h → ((r p : ℕ) → marked h r p ≡ true → Known h r) → (r p : ℕ) → marked (step_of c h e ∷ h) r p ≡ true → Known (step_of c h e ∷ h) r
marks_known_next c h e sound known r p k = known_still (step_of c h e) h r (elim (marked_cases (step_of c h e) h r p k) [
  | inl a ↦ tells_known c h e sound r (marks_tells (step_of c h e) r p a)
  | inr a ↦ known r p a
])

-- ---- acknowledged records

-- the members by both rules
same_members : (h : History) (r : ℕ) → teams h ≡ teams_formed h → members_for h r ≡ formed_for h r
same_members h r e = ap (λ ts. option_map_or (λ b. option_map_or (λ (t : Team). t.members) (slice_get ts b.team) []) (slice_get (records h) r) []) e

-- all of them marked, in the present words
marked_by_all_is : (h : History) → teams h ≡ teams_formed h → ((r p : ℕ) → marked h r p ≡ once_marked h r p) → (r : ℕ) → (nat_lt r (length (records h)) && list_all (λ p. marked h r p.0) (members_for h r)) ≡ marked_by_all h r
marked_by_all_is h e f r = ap₂ (λ test ps. nat_lt r (length (records h)) && list_all test ps) (λ i p. f r p.0 i) (same_members h r e)

-- a team of a record is as it was
members_still : (c : Setup) (m : Step) (h : History) → Sound c h → replaces m.entry.act m.entry.reply ≡ None → (r : ℕ) → Known h r → members_for (m ∷ h) r ≡ members_for h r
members_still c m h sound n r b =
    let t = slice_get-each (λ b. (t : Team) × (slice_get (teams h) b.team ≡ Some t)) (records h) r b.0 sound.joined b.1 in
    let there : slice_get (teams (m ∷ h)) b.0.team ≡ Some t.0 = subst (λ s. slice_get (after_swap s (teams h) ++ option_to_list (forms m.entry.act m.entry.reply)) b.0.team ≡ Some t.0) (sym n) (slice_get-append (teams h) (option_to_list (forms m.entry.act m.entry.reply)) b.0.team t.0 t.1) in
    team_known (m ∷ h) r b.0 t.0 (records_still m h r b.0 b.1) there ∙ sym (team_known h r b.0 t.0 b.1 t.1)

abbrev EmptyNone : Type 0
EmptyNone = (processes : List Locality) (policy : Tree) (s : ℕ → Bool) → IsPolicy policy → ((p : ℕ) → s p ≡ false) → Sat processes policy s → ⊥

-- a team that satisfies its policy has a member
some_member : EmptyNone → (c : Setup) → IsMet c → (t : Team) → IsFormed c.processes c.policies t → (f : ProcId → Bool) → list_all f t.members ≡ true → (q : ProcId) × (f q ≡ true)
some_member empty c met t is f all = at t.members refl
  where
    policy : IsPolicy is.need
    policy = (slice_get-each (λ P. IsPolicy P × Sat c.processes P _) c.policies t.policy is.need met is.named).0

    at : (ps : List ProcId) → t.members ≡ ps → (q : ProcId) × (f q ≡ true)
    at [] e = absurd (empty c.processes is.need (is_among t.members) policy (λ p. ap (λ ps. is_among ps p) e) is.satisfied)
    at (q ∷ qs) e = (q, (and_parts (f q) (list_all f qs) (subst (λ ps. list_all f ps ≡ true) e all)).0)

-- once acknowledged, all members have marks
acked_then : (c : Setup) (h : History) (e : Entry) → Sound c h → replaces e.act e.reply ≡ None → heals e.act e.reply ≡ None → (r : ℕ) → (acked h r ≡ true → (nat_lt r (length (records h)) && list_all (λ p. marked h r p.0) (members_for h r)) ≡ true)
    → acked (step_of c h e ∷ h) r ≡ true → (nat_lt r (length (records (step_of c h e ∷ h))) && list_all (λ p. marked (step_of c h e ∷ h) r p.0) (members_for (step_of c h e ∷ h) r)) ≡ true
acked_then c h e sound n s r before a =
    elim (or_cases (acked h r) _ a) [
      | inl k ↦
          let both = and_parts (nat_lt r (length (records h))) _ (before k) in
          all_of (slice_get-some (records h) r (ltb-true r (length (records h)) both.0))
          (list_all-more (λ p. marked h r p.0) (λ p. marked (step_of c h e ∷ h) r p.0) (λ p k. stays p.0 k) (members_for h r) both.1)
      | inr k ↦ let both = and_parts (delivers_ack_of (step_of c h e) r) _ k in all_of (tells_known c h e sound r both.0) both.1
    ]
  where
    stays : (p : ℕ) → marked h r p ≡ true → marked (step_of c h e ∷ h) r p ≡ true
    stays p k = or_right (marks (step_of c h e) r p) _ (subst (λ o. (not (some_is (λ q. q == p) o && not (acked h r)) && marked h r p) ≡ true) (sym s) k)

    all_of : Known h r → list_all (λ p. marked (step_of c h e ∷ h) r p.0) (members_for h r) ≡ true → (nat_lt r (length (records (step_of c h e ∷ h))) && list_all (λ p. marked (step_of c h e ∷ h) r p.0) (members_for (step_of c h e ∷ h) r)) ≡ true
    all_of b all =
        let there = records_still (step_of c h e) h r b.0 b.1 in
        and_from _ _ (lt-ltb r _ (slice_get_within (records (step_of c h e ∷ h)) r b.0 there))
        (subst (λ ps. list_all (λ p. marked (step_of c h e ∷ h) r p.0) ps ≡ true) (sym (members_still c (step_of c h e) h sound n r b)) all)

-- where all members have marks, a word of the record was just delivered, or it was acknowledged
-- before
then_acked : EmptyNone → Tested → (c : Setup) → IsMet c → (h : History) (e : Entry) → IsNext c h e → Sound c h → ((r p : ℕ) → marked h r p ≡ true → Known h r) → replaces e.act e.reply ≡ None → (r : ℕ)
    → ((nat_lt r (length (records h)) && list_all (λ p. marked h r p.0) (members_for h r)) ≡ true → acked h r ≡ true)
    → (nat_lt r (length (records (step_of c h e ∷ h))) && list_all (λ p. marked (step_of c h e ∷ h) r p.0) (members_for (step_of c h e ∷ h) r)) ≡ true → acked (step_of c h e ∷ h) r ≡ true
then_acked empty tested c met h e next sound known n r before a = at (acked h r) refl
  where
    both : (nat_lt r (length (records (step_of c h e ∷ h))) ≡ true) × (list_all (λ p. marked (step_of c h e ∷ h) r p.0) (members_for (step_of c h e ∷ h) r) ≡ true)
    both = and_parts (nat_lt r (length (records (step_of c h e ∷ h)))) _ a

    -- the record was there: some member got its mark by this entry
    told : acked h r ≡ false → Known h r → acked (step_of c h e ∷ h) r ≡ true
    told was b =
        let all : list_all (λ p. marked (step_of c h e ∷ h) r p.0) (members_for h r) ≡ true = subst (λ ps. list_all (λ p. marked (step_of c h e ∷ h) r p.0) ps ≡ true) (members_still c (step_of c h e) h sound n r b) both.1 in
        let there : nat_lt r (length (records h)) ≡ true = lt-ltb r _ (slice_get_within (records h) r b.0 b.1) in
        let not_all : list_all (λ p. marked h r p.0) (members_for h r) ≡ false = false_from_ne_true _ (λ k. both_ways _ was (before (and_from _ _ there k))) in
        let q = passes_one (λ p. marked (step_of c h e ∷ h) r p.0) (λ p. marked h r p.0) (members_for h r) all not_all in
        let mark : marks (step_of c h e) r q.0.0 ≡ true = elim (marked_cases (step_of c h e) h r q.0.0 q.1) [ inl k ↦ k | inr k ↦ absurd (both_ways _ q.2 k) ] in
        or_right (acked h r) _ (and_from _ _ (marks_tells (step_of c h e) r q.0.0 mark) all)

    -- it was not: nobody can have a mark for it
    new : length (records h) ≤ r → acked (step_of c h e ∷ h) r ≡ true
    new l =
        let sound' : Sound c (step_of c h e ∷ h) = sound_next tested c h e next sound in
        let b = slice_get-some (records (step_of c h e ∷ h)) r (ltb-true r _ both.0) in
        let t = slice_get-each (λ b. (t : Team) × (slice_get (teams (step_of c h e ∷ h)) b.team ≡ Some t)) (records (step_of c h e ∷ h)) r b.0 sound'.joined b.1 in
        let is = slice_get-each (IsFormed c.processes c.policies) (teams (step_of c h e ∷ h)) b.0.team t.0 sound'.formed t.1 in
        let all : list_all (λ p. marked (step_of c h e ∷ h) r p.0) t.0.members ≡ true = subst (λ ps. list_all (λ p. marked (step_of c h e ∷ h) r p.0) ps ≡ true) (team_known (step_of c h e ∷ h) r b.0 t.0 b.1 t.1) both.1 in
        let q = some_member empty c met t.0 is (λ p. marked (step_of c h e ∷ h) r p.0) all in
        let k : Known h r = elim (marked_cases (step_of c h e) h r q.0.0 q.1) [ inl k ↦ tells_known c h e sound r (marks_tells (step_of c h e) r q.0.0 k) | inr k ↦ known r q.0.0 k ] in
        absurd (let w = slice_get_within (records h) r k.0 k.1 in omega (arith, w, l))

    at : (x : Bool) → acked h r ≡ x → acked (step_of c h e ∷ h) r ≡ true
    at true was = or_left (acked h r) _ was
    at false was = elim (cases_lt r (length (records h))) [ inl l ↦ told was (slice_get-some (records h) r l) | inr l ↦ new l ]

then_next : EmptyNone → Tested → (c : Setup) → IsMet c → (h : History) (e : Entry) → IsNext c h e → knows First e.act ≡ true → Then c h → Then c (step_of c h e ∷ h)
then_next empty tested c met h e next k before =
    let m = step_of c h e in
    let n = no_swap e.act e.reply k in
    let s = no_heal e.act e.reply k in
    let none : (p : ℕ) → heals_at m p ≡ false = λ p. ap (some_is (λ q. q == p)) s in
    let then = before.earlier in
    let teams_now = teams_next m h n then.teams_then in
    let marked_now : (r p : ℕ) → marked (m ∷ h) r p ≡ once_marked (m ∷ h) r p = λ r p. marked_next m h r p (none p) (then.marked_then r p) in
    let was : (r : ℕ) → acked h r ≡ (nat_lt r (length (records h)) && list_all (λ p. marked h r p.0) (members_for h r)) = λ r. then.acked_then r ∙ sym (marked_by_all_is h then.teams_then then.marked_then r) in
    record {
      sound = sound_next tested c h e next before.sound;
      earlier = record {
        destroyed_then = λ p. destroyed_next m h p (none p) (then.destroyed_then p);
        teams_then = teams_now;
        marked_then = marked_now;
        acked_then = λ r. same_test _ _
            (acked_then c h e before.sound n s r (λ a. sym (was r) ∙ a))
            (then_acked empty tested c met h e next before.sound before.marks_known n r (λ a. was r ∙ a))
            ∙ marked_by_all_is (m ∷ h) teams_now marked_now r;
      };
      marks_known = marks_known_next c h e before.sound before.marks_known;
    }

none_below : (r : ℕ) → nat_lt r 0 ≡ false
none_below r = false_from_ne_true _ (λ t. let l = ltb-true r 0 t in omega (arith, l))

then_start : (c : Setup) → Then c []
then_start c = record {
  sound = sound_start c;
  earlier = record { destroyed_then = λ p. refl; teams_then = refl; marked_then = λ r p. refl; acked_then = λ r. sym (ap (λ b. b && true) (none_below r)) };
  marks_known = λ r p k. absurd (false≢true k);
}

then_after : EmptyNone → Tested → (c : Setup) → IsMet c → (h : History) (later : List Entry) → Then c h → LegalAfter c h later → knows_all First later ≡ true → Then c (after c h later)
then_after empty tested c met h [] then l k = then
then_after empty tested c met h (e ∷ later) then l k =
    let both = and_parts (knows First e.act) _ k in
    then_after empty tested c met (step_of c h e ∷ h) later (then_next empty tested c met h e l.0 both.0 then) l.1 both.1

pub earlier_rules_hold : EmptyNone → Tested → EarlierRulesHold
earlier_rules_hold empty tested c journal met l = (then_after empty tested c met [] journal (then_start c) l.legal.1 l.known).earlier
