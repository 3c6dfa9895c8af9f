-- members with one process for another, and teams of them
use Rattle.std.proofs.Common.{◌≡◌, ℕ, zero, suc, ◌+◌, ◌<◌, ◌≤◌, Bool, true, false, cond, ◌&&◌, ◌||◌, not, eqb, ltb, List, [], ◌∷◌, ◌++◌, length, length-append, filter, get_or, set, refl, sym, ap, subst, ◌∙◌, arith}
use Rattle.std.specs.Prelude.{Option, Some, None, option_map, slice_get}
use Rattle.std.specs.List.{All, AllPairs, insert}
use Rattle.std.specs.List.Sorted.{IsNonDecreasingBy, IsPartitionPoint}
use Rattle.std.specs.Option.{option_map_or}
use Rattle.std.proofs.lemmas.Bool.Decides.{nat_tests}
use Rattle.std.proofs.lemmas.List.{length-set}
use Rattle.std.proofs.lemmas.List.Elements.{All-cons, All-append, All-filter, All-set, All-weaker, filter_passes}
use Rattle.std.proofs.lemmas.List.Folds.{list_any-append}
use Rattle.std.proofs.lemmas.List.Kept.{AllPairs-cons, AllPairs-filter}
use Rattle.std.proofs.lemmas.Option.{slice_get_within, slice_get-get_or}
use Rattle.fy_locality.specs.declared.ProcId.{ProcId}
use Rattle.fy_locality.specs.declared.locality.Locality.{Locality}
use Rattle.fy_policy.specs.Tree.{Tree}
use Rattle.fy_team.specs.Teams.{Team, Record, Roster, IsRoster, AreMembers, is_among, swapped, with_member, replaced, members_in, policy_in, IsFormed, AreFormed, MayReplace}
use Rattle.fy_team.proofs.Marking.{slice_get-set, same_number}

-- ---- who is a member

nowhere : (b : Bool) → false ≡ (b && false)
nowhere true = refl
nowhere false = refl

-- who is among those that pass a test
among_filtered : (t : ℕ → Bool) (ps : List ProcId) (q : ℕ) → is_among (filter (λ p. t p.0) ps) q ≡ (t q && is_among ps q)
among_filtered t [] q = nowhere (t q)
among_filtered t (p ∷ ps) q = go (among_filtered t ps q) (t p.0) refl
  where
    kept : t p.0 ≡ true → (c : Bool) → eqb p.0 q ≡ c → (c || (t q && is_among ps q)) ≡ (t q && (c || is_among ps q))
    kept e true same = sym (ap (λ b. b && true) (ap t (sym (same_number p.0 q same)) ∙ e))
    kept e false same = refl

    dropped : t p.0 ≡ false → (c : Bool) → eqb p.0 q ≡ c → (t q && is_among ps q) ≡ (t q && (c || is_among ps q))
    dropped e true same = let fails : t q ≡ false = ap t (sym (same_number p.0 q same)) ∙ e in ap (λ b. b && is_among ps q) fails ∙ sym (ap (λ b. b && true) fails)
    dropped e false same = refl

    go : is_among (filter (λ p. t p.0) ps) q ≡ (t q && is_among ps q) → (b : Bool) → t p.0 ≡ b → is_among (cond b (p ∷ filter (λ p. t p.0) ps) (filter (λ p. t p.0) ps)) q ≡ (t q && (eqb p.0 q || is_among ps q))
    go later true e = ap (λ c. eqb p.0 q || c) later ∙ kept e (eqb p.0 q) refl
    go later false e = later ∙ dropped e (eqb p.0 q) refl

either_side : (q i : ℕ) (s : Bool) → ((ltb q i && s) || (eqb i q || (ltb i q && s))) ≡ (eqb q i || s)
either_side q i true = grind (arith, nat_tests)
either_side q i false = grind (arith, nat_tests)

pub among-swapped : (out into : ProcId) (members : List ProcId) (q : ℕ) → is_among (swapped out into members) q ≡ (eqb q into.0 || (not (eqb q out.0) && is_among members q))
among-swapped out into members q =
    let staying : List ProcId = filter (λ p. not (eqb p.0 out.0)) members in
    list_any-append (λ (p : ProcId). eqb p.0 q) (filter (λ p. ltb p.0 into.0) staying) (into ∷ filter (λ p. ltb into.0 p.0) staying)
    ∙ ap (λ b. b || (eqb into.0 q || is_among (filter (λ p. ltb into.0 p.0) staying) q)) (among_filtered (λ n. ltb n into.0) staying q)
    ∙ ap (λ b. (ltb q into.0 && is_among staying q) || (eqb into.0 q || b)) (among_filtered (λ n. ltb into.0 n) staying q)
    ∙ either_side q into.0 (is_among staying q)
    ∙ ap (λ b. eqb q into.0 || b) (among_filtered (λ n. not (eqb n out.0)) members q)

-- ---- in their places

is_above : (p q : ℕ) → ltb p q ≡ false → eqb p q ≡ false → ltb q p ≡ true
is_above p q lower other = grind (arith, nat_tests)

isnt_above : (p q : ℕ) → ltb p q ≡ true → ltb q p ≡ false
isnt_above p q lower = grind (arith, nat_tests)

is_less : (p q : ℕ) → ltb p q ≡ true → p < q
is_less p q e = grind (arith, nat_tests)

neither : (b c : Bool) → (b || c) ≡ false → (b ≡ false) × (c ≡ false)
neither true c e = absurd (let x : ⊥ = cc in x)
neither false c e = (refl, e)

-- where nobody is below a process, and it isn't among them, all are above it
module _ (into : ProcId) where
  none_lower : (ps : List ProcId) → All (λ p. ltb p.0 into.0 ≡ false) ps → is_among ps into.0 ≡ false → (filter (λ p. ltb p.0 into.0) ps ≡ []) × (filter (λ p. ltb into.0 p.0) ps ≡ ps)
  none_lower [] high apart = (refl, refl)
  none_lower (p ∷ ps) high apart =
      let here : ltb p.0 into.0 ≡ false = high 0 p (omega arith) in
      let parts : (eqb p.0 into.0 ≡ false) × (is_among ps into.0 ≡ false) = neither (eqb p.0 into.0) (is_among ps into.0) apart in
      let later = none_lower ps (λ k d within. high (suc k) d (omega arith)) parts.1 in (
        ap (λ b. cond b (p ∷ filter (λ p. ltb p.0 into.0) ps) (filter (λ p. ltb p.0 into.0) ps)) here ∙ later.0,
        ap (λ b. cond b (p ∷ filter (λ p. ltb into.0 p.0) ps) (filter (λ p. ltb into.0 p.0) ps)) (is_above p.0 into.0 here parts.0) ∙ ap (λ rest. p ∷ rest) later.1,
      )

  -- a process that is put in where those below it end
  pub inserted : (j : ℕ) (ps : List ProcId) → j ≤ length ps → IsPartitionPoint (λ p. ltb p.0 into.0 ≡ true) (λ p. ltb p.0 into.0 ≡ false) ps j → is_among ps into.0 ≡ false
      → insert ps j into ≡ filter (λ p. ltb p.0 into.0) ps ++ into ∷ filter (λ p. ltb into.0 p.0) ps
  inserted zero ps within parted apart =
      let parts = none_lower ps (λ k d within. parted.1 k d (omega arith) within) apart in
      ap (λ rest. into ∷ rest) (sym parts.1) ∙ ap (λ lower. lower ++ into ∷ filter (λ p. ltb into.0 p.0) ps) (sym parts.0)
  inserted (suc j) [] within parted apart = absurd (omega arith)
  inserted (suc j) (p ∷ ps) within parted apart =
      let here : ltb p.0 into.0 ≡ true = parted.0 0 p (omega arith) (omega arith) in
      let later = inserted j ps (omega arith) (λ k d low high. parted.0 (suc k) d (omega arith) (omega arith), λ k d low high. parted.1 (suc k) d (omega arith) (omega arith)) (neither (eqb p.0 into.0) (is_among ps into.0) apart).1 in
      ap (λ rest. p ∷ rest) later
      ∙ ap (λ b. cond b (p ∷ filter (λ p. ltb p.0 into.0) ps) (filter (λ p. ltb p.0 into.0) ps) ++ into ∷ filter (λ p. ltb into.0 p.0) ps) (sym here)
      ∙ ap (λ b. filter (λ p. ltb p.0 into.0) (p ∷ ps) ++ into ∷ cond b (p ∷ filter (λ p. ltb into.0 p.0) ps) (filter (λ p. ltb into.0 p.0) ps)) (sym (isnt_above p.0 into.0 here))

-- processes that rise have numbers that do
pub numbers_rise : (ps : List ProcId) → AllPairs (λ p q. p.0 < q.0) ps → IsNonDecreasingBy (λ p. p.0) ps
numbers_rise ps rising = λ i j d le within. grind (arith, rising i j d, λ (same : i ≡ j). ap (λ k. (get_or ps k d).0) same)

-- the others rise as all did
pub staying_rise : (out : ProcId) (ps : List ProcId) → AllPairs (λ p q. p.0 < q.0) ps → AllPairs (λ p q. p.0 < q.0) (filter (λ p. not (eqb p.0 out.0)) ps)
staying_rise out ps = AllPairs-filter (λ (p q : ProcId). p.0 < q.0) (λ p. not (eqb p.0 out.0)) ps

-- a process that isn't among all isn't among the others
pub stays_apart : (out into : ProcId) (ps : List ProcId) → is_among ps into.0 ≡ false → is_among (filter (λ p. not (eqb p.0 out.0)) ps) into.0 ≡ false
stays_apart out into ps apart = among_filtered (λ n. not (eqb n out.0)) ps into.0 ∙ ap (λ b. not (eqb into.0 out.0) && b) apart ∙ sym (nowhere (not (eqb into.0 out.0)))

no_more : (t : ProcId → Bool) (ps : List ProcId) → length (filter t ps) ≤ length ps
no_more t [] = omega arith
no_more t (p ∷ ps) =
    let rest : length (filter t ps) ≤ length ps = no_more t ps in
    elim (t p) as (λ b. length (cond b (p ∷ filter t ps) (filter t ps)) ≤ suc (length ps)) [ true ↦ omega arith | false ↦ omega arith ]

-- the others are fewer
pub fewer_stay : (out : ProcId) (ps : List ProcId) → is_among ps out.0 ≡ true → length (filter (λ p. not (eqb p.0 out.0)) ps) < length ps
fewer_stay out [] among = absurd (let x : ⊥ = cc in x)
fewer_stay out (p ∷ ps) among = go (λ later. fewer_stay out ps later) (eqb p.0 out.0) among
  where
    go : (is_among ps out.0 ≡ true → length (filter (λ p. not (eqb p.0 out.0)) ps) < length ps) → (b : Bool) → (b || is_among ps out.0) ≡ true → length (cond (not b) (p ∷ filter (λ p. not (eqb p.0 out.0)) ps) (filter (λ p. not (eqb p.0 out.0)) ps)) < suc (length ps)
    go later true e = omega (arith, no_more (λ p. not (eqb p.0 out.0)) ps)
    go later false e = omega (arith, later e)

-- lower ones, a process and higher ones
rise_between : (into : ProcId) (lows highs : List ProcId) → AllPairs (λ p q. p.0 < q.0) lows → All (λ p. p.0 < into.0) lows → AllPairs (λ p q. p.0 < q.0) highs → All (λ p. into.0 < p.0) highs
    → AllPairs (λ p q. p.0 < q.0) (lows ++ into ∷ highs)
rise_between into [] highs lows_rise lower highs_rise higher = AllPairs-cons (λ (p q : ProcId). p.0 < q.0) into highs higher highs_rise
rise_between into (p ∷ ps) highs lows_rise lower highs_rise higher =
    let first : p.0 < into.0 = lower 0 p (omega arith) in
    let above : All (λ q. p.0 < q.0) ps = λ k d within. lows_rise 0 (suc k) d (omega arith) (omega arith) in
    let beyond : All (λ q. p.0 < q.0) highs = All-weaker (λ (q : ProcId). into.0 < q.0) (λ (q : ProcId). p.0 < q.0) (λ q lt. omega arith) highs higher in
    AllPairs-cons (λ (p q : ProcId). p.0 < q.0) p (ps ++ into ∷ highs)
    (All-append (λ (q : ProcId). p.0 < q.0) ps (into ∷ highs) above (All-cons (λ (q : ProcId). p.0 < q.0) into highs first beyond))
    (rise_between into ps highs (λ i j d lt within. lows_rise (suc i) (suc j) d (omega arith) (omega arith)) (λ k d within. lower (suc k) d (omega arith)) highs_rise higher)

pub swapped_rise : (out into : ProcId) (ps : List ProcId) → AllPairs (λ p q. p.0 < q.0) ps → AllPairs (λ p q. p.0 < q.0) (swapped out into ps)
swapped_rise out into ps rising =
    let staying : List ProcId = filter (λ p. not (eqb p.0 out.0)) ps in
    rise_between into (filter (λ p. ltb p.0 into.0) staying) (filter (λ p. ltb into.0 p.0) staying)
    (AllPairs-filter (λ (p q : ProcId). p.0 < q.0) (λ p. ltb p.0 into.0) staying (staying_rise out ps rising))
    (All-weaker (λ (p : ProcId). ltb p.0 into.0 ≡ true) (λ (p : ProcId). p.0 < into.0) (λ p e. is_less p.0 into.0 e) _ (filter_passes (λ (p : ProcId). ltb p.0 into.0) staying))
    (AllPairs-filter (λ (p q : ProcId). p.0 < q.0) (λ p. ltb into.0 p.0) staying (staying_rise out ps rising))
    (All-weaker (λ (p : ProcId). ltb into.0 p.0 ≡ true) (λ (p : ProcId). into.0 < p.0) (λ p e. is_less into.0 p.0 e) _ (filter_passes (λ (p : ProcId). ltb into.0 p.0) staying))

-- what holds of all members and of the new one holds of all afterwards
All-swapped : (P : ProcId → Type 0) (out into : ProcId) (ps : List ProcId) → P into → All P ps → All P (swapped out into ps)
All-swapped P out into ps here all =
    let staying : List ProcId = filter (λ p. not (eqb p.0 out.0)) ps in
    let others : All P staying = All-filter (λ p. not (eqb p.0 out.0)) P ps all in
    All-append P (filter (λ p. ltb p.0 into.0) staying) (into ∷ filter (λ p. ltb into.0 p.0) staying)
    (All-filter (λ p. ltb p.0 into.0) P staying others)
    (All-cons P into (filter (λ p. ltb into.0 p.0) staying) here (All-filter (λ p. ltb into.0 p.0) P staying others))

-- ---- teams

-- what a team with a number is after a replacement, part by part
module _ {X : Type 0} (part : Team → X) (roster : Roster) (team : ℕ) (out into : ProcId) where
  abbrev replaced_from : Option Team → List Team
  replaced_from found = option_map_or (λ it. set roster.teams team (with_member out into it)) found roster.teams

  abbrev wanted : ℕ → Bool → Option X
  wanted t b = cond b (option_map (λ it. part (with_member out into it)) (slice_get roster.teams t)) (option_map part (slice_get roster.teams t))

  replaced_part : (t : ℕ) → option_map part (slice_get (replaced team out into roster).teams t) ≡ cond (eqb t team) (option_map (λ it. part (with_member out into it)) (slice_get roster.teams t)) (option_map part (slice_get roster.teams t))
  replaced_part t = go (slice_get roster.teams team) refl
    where
      absent : slice_get roster.teams team ≡ None → (b : Bool) → eqb t team ≡ b → option_map part (slice_get roster.teams t) ≡ wanted t b
      absent is true e =
          let none : slice_get roster.teams t ≡ None = ap (slice_get roster.teams) (same_number t team e) ∙ is in
          ap (option_map part) none ∙ sym (ap (option_map (λ (it : Team). part (with_member out into it))) none)
      absent is false e = refl

      there : (it : Team) → slice_get roster.teams team ≡ Some it → (b : Bool) → eqb t team ≡ b → option_map part (cond b (Some (with_member out into it)) (slice_get roster.teams t)) ≡ wanted t b
      there it is true e = sym (ap (option_map (λ (it : Team). part (with_member out into it))) (ap (slice_get roster.teams) (same_number t team e) ∙ is))
      there it is false e = refl

      go : (found : Option Team) → slice_get roster.teams team ≡ found → option_map part (slice_get (replaced_from found) t) ≡ wanted t (eqb t team)
      go None is = absent is (eqb t team) refl
      go (Some it) is = ap (option_map part) (slice_get-set roster.teams team t (with_member out into it) (slice_get_within roster.teams team it is)) ∙ there it is (eqb t team) refl

mapped_twice : {X Y Z : Type 0} (f : X → Y) (g : Y → Z) (found : Option X) → option_map (λ x. g (f x)) found ≡ option_map g (option_map f found)
mapped_twice f g None = refl
mapped_twice f g (Some x) = refl

pub replaced-members : (roster : Roster) (team t : ℕ) (out into : ProcId) → members_in (replaced team out into roster) t ≡ cond (eqb t team) (option_map (swapped out into) (members_in roster t)) (members_in roster t)
replaced-members roster team t out into =
    replaced_part (λ it. it.members) roster team out into t
    ∙ ap (λ found. cond (eqb t team) found (members_in roster t)) (mapped_twice (λ (it : Team). it.members) (swapped out into) (slice_get roster.teams t))

pub replaced-policies : (roster : Roster) (team t : ℕ) (out into : ProcId) → policy_in (replaced team out into roster) t ≡ policy_in roster t
replaced-policies roster team t out into = replaced_part (λ it. it.policy) roster team out into t ∙ same (eqb t team)
  where
    same : (b : Bool) → cond b (policy_in roster t) (policy_in roster t) ≡ policy_in roster t
    same true = refl
    same false = refl

-- those below a process and those above it are no more than all
either_of : (into : ProcId) (ps : List ProcId) → length (filter (λ p. ltb p.0 into.0) ps) + length (filter (λ p. ltb into.0 p.0) ps) ≤ length ps
either_of into [] = omega arith
either_of into (p ∷ ps) = go (either_of into ps) (ltb p.0 into.0) refl (ltb into.0 p.0) refl
  where
    go : length (filter (λ p. ltb p.0 into.0) ps) + length (filter (λ p. ltb into.0 p.0) ps) ≤ length ps → (b : Bool) → ltb p.0 into.0 ≡ b → (c : Bool) → ltb into.0 p.0 ≡ c
        → length (cond b (p ∷ filter (λ p. ltb p.0 into.0) ps) (filter (λ p. ltb p.0 into.0) ps)) + length (cond c (p ∷ filter (λ p. ltb into.0 p.0) ps) (filter (λ p. ltb into.0 p.0) ps)) ≤ suc (length ps)
    go rest true below true above = absurd (let e : true ≡ false = sym above ∙ isnt_above p.0 into.0 below in let x : ⊥ = cc in x)
    go rest true below false above = omega arith
    go rest false below true above = omega arith
    go rest false below false above = omega arith

-- members are members still once one stands for another
pub AreMembers-swapped : (out into : ProcId) (ps : List ProcId) → is_among ps out.0 ≡ true → AreMembers ps → AreMembers (swapped out into ps)
AreMembers-swapped out into ps member are =
    let staying : List ProcId = filter (λ p. not (eqb p.0 out.0)) ps in
    record {
      few = omega (arith, are.few, fewer_stay out ps member, either_of into staying, length-append (filter (λ p. ltb p.0 into.0) staying) (into ∷ filter (λ p. ltb into.0 p.0) staying));
      rising = swapped_rise out into ps are.rising;
    }

-- a team of which the members and the policy are known is there
pub team_there : (roster : Roster) (team : ℕ) (members : List ProcId) (policy : ℕ) → members_in roster team ≡ Some members → policy_in roster team ≡ Some policy
    → slice_get roster.teams team ≡ Some (record { members = members; policy = policy })
team_there roster team members policy are names = go (slice_get roster.teams team) are names
  where
    go : (found : Option Team) → option_map (λ (it : Team). it.members) found ≡ Some members → option_map (λ (it : Team). it.policy) found ≡ Some policy → found ≡ Some (record { members = members; policy = policy })
    go None are names = absurd (let x : ⊥ = cc in x)
    go (Some it) are names =
        let same : it.members ≡ members = cc in
        let of : it.policy ≡ policy = cc in
        ap (λ ms. Some (record it { members = ms })) same ∙ ap (λ k. Some (record { members = members; policy = k })) of

formed_at : (processes : List Locality) (policies : List Tree) (teams : List Team) (team : ℕ) (held : Team) → slice_get teams team ≡ Some held → AreFormed processes policies teams → IsFormed processes policies held
formed_at processes policies [] team held there formed = absurd (let x : ⊥ = cc in x)
formed_at processes policies (t ∷ ts) zero held there formed = subst (IsFormed processes policies) (let e : t ≡ held = cc in e) formed.0
formed_at processes policies (t ∷ ts) (suc team) held there formed = formed_at processes policies ts team held there formed.1

formed_set : (processes : List Locality) (policies : List Tree) (teams : List Team) (team : ℕ) (changed : Team) → IsFormed processes policies changed → AreFormed processes policies teams → AreFormed processes policies (set teams team changed)
formed_set processes policies [] team changed here formed = tt
formed_set processes policies (t ∷ ts) zero changed here formed = (here, formed.1)
formed_set processes policies (t ∷ ts) (suc team) changed here formed = (formed.0, formed_set processes policies ts team changed here formed.1)

-- each team satisfies its policy still
pub AreFormed-replaced : (processes : List Locality) (policies : List Tree) (roster : Roster) (team : ℕ) (out into : ProcId) (may : MayReplace processes policies roster team out into)
    → AreFormed processes policies roster.teams → AreFormed processes policies (set roster.teams team (with_member out into (record { members = may.members; policy = may.policy })))
AreFormed-replaced processes policies roster team out into may formed =
    let held : Team = record { members = may.members; policy = may.policy } in
    let before : IsFormed processes policies held = formed_at processes policies roster.teams team held (team_there roster team may.members may.policy may.there may.names) formed in
    formed_set processes policies roster.teams team (with_member out into held)
    (record {
      need = may.need;
      named = may.named;
      known = All-swapped (λ (p : ProcId). p.0 < length processes) out into may.members may.known before.known;
      satisfied = may.satisfied;
    })
    formed

-- what a replacement makes of a team that is there
pub replaced_there : (roster : Roster) (team : ℕ) (out into : ProcId) (held : Team) → slice_get roster.teams team ≡ Some held → (replaced team out into roster).teams ≡ set roster.teams team (with_member out into held)
replaced_there roster team out into held there = ap (λ found. option_map_or (λ it. set roster.teams team (with_member out into it)) found roster.teams) there

-- a roster stays one
pub IsRoster-replaced : (roster : Roster) (team : ℕ) (out into : ProcId) (held : Team) → slice_get roster.teams team ≡ Some held → is_among held.members out.0 ≡ true → IsRoster roster
    → IsRoster (record roster { teams = set roster.teams team (with_member out into held) })
IsRoster-replaced roster team out into held there member sound =
    let changed : Team = with_member out into held in
    let within : team < length roster.teams = slice_get_within roster.teams team held there in
    let before : AreMembers held.members = subst (λ (it : Team). AreMembers it.members) (let e : get_or roster.teams team held ≡ held = let f : Some (get_or roster.teams team held) ≡ Some held = sym (slice_get-get_or roster.teams team held within) ∙ there in cc in e) (sound.rising team held within) in
    record {
      rising = All-set (λ (it : Team). AreMembers it.members) roster.teams team changed (AreMembers-swapped out into held.members member before) sound.rising;
      few_teams = omega (arith, length-set roster.teams team changed, sound.few_teams);
      named = All-weaker (λ (it : Record). it.team < length roster.teams) (λ (it : Record). it.team < length (set roster.teams team changed)) (λ it lt. omega (arith, length-set roster.teams team changed)) roster.records sound.named;
      small = sound.small;
      few_records = sound.few_records;
    }

-- what is read at a place is what is there
pub read_there : {X : Type 0} (xs : List X) (i : ℕ) (x held : X) → x ≡ get_or xs i x → slice_get xs i ≡ Some held → x ≡ held
read_there xs i x held read there = let e : Some (get_or xs i x) ≡ Some held = sym (slice_get-get_or xs i x (slice_get_within xs i held there)) ∙ there in cc
