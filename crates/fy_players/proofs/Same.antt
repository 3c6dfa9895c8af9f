-- a turn is determined by what was before it
use Rattle.std.proofs.Common.{arith, ◌≡◌, ◌∙◌, ◌<◌, ℕ, Bool, true, false, refl, sym, ap, subst}
use Rattle.std.specs.Prelude.{◌≤◌, List, Option, Some, None, nat_lt}
use Rattle.std.proofs.lemmas.Bool.Decides.{nat_tests}
use Rattle.std.proofs.Math.Bridge.{le_prop}
use Rattle.fy_locality.specs.declared.ProcId.{ProcId}
use Rattle.fy_locality.specs.declared.locality.Locality.{Locality}
use Rattle.fy_kinds.specs.declared.kind.Kind.{Kind}
use Rattle.fy_kinds.specs.declared.order.Target.{Target}
use Rattle.fy_kinds.specs.Kinds.{rank}
use Rattle.fy_kinds.specs.Orders.{Order}
use Rattle.fy_acts.specs.declared.act.Act.{Act}
use Rattle.fy_acts.specs.declared.act.Act.TheVariants.{Kill}
use Rattle.fy_cluster.specs.Setup.{Setup}
use Rattle.fy_cluster.specs.History.{History}
use Rattle.fy_cluster.specs.Execution.{Execution, history_of, replied, entered}
use Rattle.fy_cluster.specs.Sights.{IsLeastNumber, LeastNumber, LeastProcess, Sees}
use Rattle.fy_cluster.specs.declared.sight.Sight.{Sight}
use Rattle.fy_players.specs.declared.draws.Words.{Words}
use Rattle.fy_players.specs.declared.faults.Choice.{Choice}
use Rattle.fy_players.specs.declared.faults.Choice.TheVariants as choice
use Rattle.fy_players.specs.declared.faults.Plan.{Plan}
use Rattle.fy_players.specs.declared.faults.Plan.TheVariants as plan
use Rattle.fy_players.specs.declared.knowledge.Note.{Note}
use Rattle.fy_players.specs.declared.player.Part.{Part}
use Rattle.fy_players.specs.declared.player.Part.TheVariants.{Stores, Strikes as StrikesPart, Operates}
use Rattle.fy_players.specs.declared.player.Player.{Player}
use Rattle.fy_players.specs.Draws.{words_of}
use Rattle.fy_players.specs.Faults.{FaultState, IsKill, Mixes, Strikes}
use Rattle.fy_players.specs.Storage.{stores}
use Rattle.fy_players.specs.Turns.{Does, part_after, part_now, speaker_now, words_now, TakesTurn}

-- ---- what is shown

apart : (t : Bool) → t ≡ true → t ≡ false → ⊥
apart t p q = let bad : ⊥ = cc in bad

least_one : (test : ℕ → Bool) (a b : ℕ) → IsLeastNumber test a → IsLeastNumber test b → a ≡ b
least_one test a b p q = by (nat_lt a b) refl (nat_lt b a) refl
  where
    by : (s : Bool) → nat_lt a b ≡ s → (t : Bool) → nat_lt b a ≡ t → a ≡ b
    by true e t f =
        let less : a < b = grind (arith, nat_tests) in
        absurd (apart (test a) p.passes (q.none_below a less))
    by false e true f =
        let less : b < a = grind (arith, nat_tests) in
        absurd (apart (test b) q.passes (p.none_below b less))
    by false e false f = grind (arith, nat_tests)

number_one : (test : ℕ → Bool) (a b : Option ℕ) → LeastNumber test a → LeastNumber test b → a ≡ b
number_one test None None p q = refl
number_one test None (Some b) p q = absurd (apart (test b) q.passes (p b))
number_one test (Some a) None p q = absurd (apart (test a) p.passes (q a))
number_one test (Some a) (Some b) p q = ap Some (least_one test a b p q)

process_one : (test : ℕ → Bool) (a b : Option ProcId) → LeastProcess test a → LeastProcess test b →
    a ≡ b
process_one test None None p q = refl
process_one test None (Some b) p q = absurd (apart (test b.0) q.passes (p b.0))
process_one test (Some a) None p q = absurd (apart (test a.0) p.passes (q a.0))
process_one test (Some a) (Some b) p q =
    ap (λ (n : ℕ). Some (let it : ProcId = record { 0 = n } in it)) (least_one test a.0 b.0 p q)

sight_one : (c : Setup) (h : History) (a b : Sight) → Sees c h a → Sees c h b → a ≡ b
sight_one c h a b p q =
    let time : a.now ≡ b.now = p.time ∙ sym q.time in
    let deliverable = number_one _ a.deliverable b.deliverable p.deliverable q.deliverable in
    let unsynced = process_one _ a.unsynced b.unsynced p.unsynced q.unsynced in
    let sleeping = process_one _ a.sleeping b.sleeping p.sleeping q.sleeping in
    λ i. record {
      now = time i;
      deliverable = deliverable i;
      unsynced = unsynced i;
      sleeping = sleeping i;
    }

-- ---- what is done

abbrev order_of : (t : Target) (k f : Kind) (n : ℕ) → rank f ≤ rank k → Order
order_of t k f n o = record { target = t; kind = k; floor = f; tear = n; ordered = o }

order_one : (a : Order) (t : Target) (k f : Kind) (n : ℕ) (o : rank f ≤ rank k) → a.target ≡ t →
    a.kind ≡ k → a.floor ≡ f → a.tear ≡ n → a ≡ order_of t k f n o
order_one a t k f n o et ek ef en =
    subst (λ (f : Kind). (o : rank f ≤ rank k) → a ≡ order_of t k f n o) ef
    (subst (λ (k : Kind). (o : rank a.floor ≤ rank k) → a ≡ order_of t k a.floor n o) ek
    (λ o'. λ i. order_of (et i) a.kind a.floor (en i) (le_prop a.ordered o' i)))
    o

kill_one : (t : Target) (k f : Kind) (n : ℕ) (a b : Act) → IsKill t k f n a → IsKill t k f n b → a ≡ b
kill_one t k f n a b p q =
    p.is
    ∙ (ap Kill (order_one p.order q.order.target q.order.kind q.order.floor q.order.tear q.order.ordered
    (p.target_is ∙ sym q.target_is) (p.kind_is ∙ sym q.kind_is) (p.floor_is ∙ sym q.floor_is)
    (p.tear_is ∙ sym q.tear_is))
    ∙ sym q.is)

mixed_one : (processes : List Locality) (words : Words) (it : Choice) (a b : Act) →
    Mixes processes words it a → Mixes processes words it b → a ≡ b
mixed_one processes words choice.Kill a b p q = kill_one _ _ _ _ a b p q
mixed_one processes words choice.Clog a b p q = p ∙ sym q
mixed_one processes words choice.Unclog a b p q = p ∙ sym q
mixed_one processes words choice.Stray a b p q = p ∙ sym q

strike_one : (processes : List Locality) (fault : FaultState) (words : Words) (it : Plan) (a b : Act) →
    Strikes processes fault words it a → Strikes processes fault words it b → a ≡ b
strike_one processes fault words plan.Mixed a b p q = mixed_one processes words _ a b p q
strike_one processes fault words plan.Attrition a b p q = p ∙ sym q
strike_one processes fault words plan.Swizzle a b p q = p ∙ sym q
strike_one processes fault words plan.Rolling a b p q = kill_one _ _ _ _ a b p q

done_one : (x : Execution) (part : Part) (words : Words) (a b : Act × Note) → Does x part words a →
    Does x part words b → a ≡ b
done_one x (Stores known) words a b p q =
    p.2
    ∙ (ap (λ (s : Sight). stores x s known words) (sight_one x.setup (history_of x) p.0 q.0 p.1 q.1)
    ∙ sym q.2)
done_one x (StrikesPart fault) words a b p q =
    let act = strike_one x.setup.processes fault words fault.plan a.0 b.0 p.0 q.0 in
    let note : a.1 ≡ b.1 = p.1 ∙ sym q.1 in
    λ i. (act i, note i)
done_one x Operates words a b p q = p ∙ sym q

-- ---- turns

-- what an actor and its cluster are once it did this
abbrev turned : Player × Execution → Act × Note → Player × Execution
turned was made = (
  record was.0 {
    part = part_after (part_now was.0 was.1) made.1
        (replied was.1 (speaker_now was.0 was.1) made.0);
    draws = (words_of was.0.draws).1;
  },
  entered was.1 (speaker_now was.0 was.1) made.0,
)

is_turned : (was now : Player × Execution) (turn : TakesTurn was now) → now ≡ turned was turn.made
is_turned was now turn = λ i. (turn.player i, turn.execution i)

pub turn_one : (was a b : Player × Execution) → TakesTurn was a → TakesTurn was b → a ≡ b
turn_one was a b p q =
    is_turned was a p
    ∙ (ap (turned was) (done_one was.1 (part_now was.0 was.1) (words_now was.0) p.made q.made p.does q.does)
    ∙ sym (is_turned was b q))
