use Rattle.std.proofs.Common.{arith, inl, refl, ◌≡◌, ◌∙◌, ◌++◌, [], ◌∷◌, ◌+◌, true, length, sym, ap, subst}
use Rattle.std.specs.Prelude.{Some, None, slice_get}
use Rattle.std.specs.List.{All}
use Rattle.std.proofs.lemmas.List.Elements.{All-append, All-map, All-push}
use Rattle.std.proofs.lemmas.Result.{IfOk-weaker}
use denote.Param.Object.{read_made}
use Rattle.fy_actors.specs.Parts.{Part}
use Rattle.fy_swarm.specs.Swarm.{Plays, AllFinished, is_active, part_of}
use Rattle.fy_swarm.proofs.Swarming.{AreBack, AreCast, next_seat, none_left, rests_back, loose_back, more_back, played_is_loose, nobody_plays, rests_cast, loose_cast, all_finished}
use Rattle.fy_swarm.proofs.swarm.run_players.OwnLists.{own-1}
use Rattle.fy_swarm.proofs.swarm.run_players.Goals as goal

pub player_of-requires : goal.player_of-requires
player_of-requires g c =
    let inv = c.loop-seat.invariant in
    let here = next_seat c.args.shared.now inv.0 inv.1 c.in-Some.seat c.next.new.self.rest.items
    (sym c.in-Some.ensures.steps.0 ∙ inv.3) in
    let at : c.in-Some.seat.actor ≡ inv.0 = ap (λ s. s.actor) here.2 in
    let told = c.actor.ensures in
    let sum = inv.2 in
    let fewer = here.1 in
    omega arith

pub loop-seat-preserved-in_default : goal.loop-seat-preserved-in_default
loop-seat-preserved-in_default g c =
    let inv = c.loop-seat.invariant in
    let here = next_seat c.args.shared.now inv.0 inv.1 c.in-Some.seat c.next.new.self.rest.items
    (sym c.in-Some.ensures.steps.0 ∙ inv.3) in
    let sum = inv.2 in
    let fewer = here.1 in
    let pushed = c.in_ok-push.ensures.items in (
      inv.0 + 1,
      here.0,
      omega arith,
      here.3,
      subst (AreBack c.args.config.now.roles c.args.shared.now (inv.0 + 1))
          (sym (pushed ∙ ap (λ s. c.loop-seat.back.items ++ s ∷ []) here.2))
          (rests_back c.args.config.now.roles c.args.shared.now inv.0 c.loop-seat.back.items inv.4),
      subst (All (λ seat. seat.of ≡ Some c.args.shared.now)) (sym pushed)
          (All-push (λ seat. seat.of ≡ Some c.args.shared.now) c.loop-seat.back.items
          c.in-Some.seat inv.5 (ap (λ s. s.of) here.2)),
      inv.6,
      rests_cast (λ post. post.seat)
          (λ post. (own-1.entry post.actor.vtable).1.part post.actor.value)
          c.args.config.now c.args.seed c.args.shared.now inv.0 c.loop-seat.posts.items
          (subst (λ a. Plays c.args.config.now c.args.seed a None)
          (c.actor.ensures ∙ ap (λ s. s.actor) here.2)
          (nobody_plays c.args.config.now c.args.seed c.actor.result _ c.in_default.not-Some
          c.in_ok-player.ensures)) inv.7,
    )

pub loop-seat-preserved : goal.loop-seat-preserved
loop-seat-preserved g c =
    let inv = c.loop-seat.invariant in
    let here = next_seat c.args.shared.now inv.0 inv.1 c.in-Some.seat c.next.new.self.rest.items
    (sym c.in-Some.ensures.steps.0 ∙ inv.3) in
    let sum = inv.2 in
    let fewer = here.1 in
    let at : c.actor.result ≡ inv.0 = c.actor.ensures ∙ ap (λ s. s.actor) here.2 in
    let plays = subst (Plays c.args.config.now c.args.seed c.actor.result) c.in-Some-2.is
    c.in_ok-player.ensures in
    let loose = subst (λ a. is_active (slice_get c.args.config.now.roles a) ≡ true) at
    (played_is_loose c.args.config.now c.args.seed c.actor.result c.in-Some-2.player plays) in (
      inv.0 + 1,
      here.0,
      omega arith,
      here.3,
      loose_back c.args.config.now.roles c.args.shared.now inv.0 c.loop-seat.back.items loose inv.4,
      inv.5,
      subst (All (λ post. post.seat.of ≡ Some c.args.shared.now))
          (sym c.in_ok-push-2.ensures.items)
          (All-push (λ post. post.seat.of ≡ Some c.args.shared.now) c.loop-seat.posts.items _
          inv.6 (ap (λ s. s.of) here.2)),
      subst (AreCast (λ post. post.seat)
          (λ post. (own-1.entry post.actor.vtable).1.part post.actor.value)
          c.args.config.now c.args.seed c.args.shared.now (inv.0 + 1)) (sym c.in_ok-push-2.ensures.items)
          (loose_cast (λ post. post.seat)
          (λ post. (own-1.entry post.actor.vtable).1.part post.actor.value)
          c.args.config.now c.args.seed c.args.shared.now inv.0 c.loop-seat.posts.items c.in-Some-2.player _
          (subst (λ a. Plays c.args.config.now c.args.seed a (Some c.in-Some-2.player)) at plays) here.2
          (read_made own-1 (own-1.entry (inl tt)) (inl tt) refl Part (λ entry x. entry.1.part x)
          c.into_dyn_box.result.vtable c.into_dyn_box.result.value c.in_ok-new.field-0.value
          c.into_dyn_box.ensures.1
          ∙ ap part_of c.in_ok-new.ensures.ok) inv.7),
    )

pub returns-clause-theirs : goal.returns-clause-theirs
returns-clause-theirs g c =
    let inv = c.loop-seat.invariant in
    IfOk-weaker c.collect_seats.result _ _
    (λ seats is. subst (All (λ seat. seat.of ≡ Some c.args.shared.now)) (sym is.0)
    (All-append (λ seat. seat.of ≡ Some c.args.shared.now) c.loop-seat.back.items _ inv.5
    (All-map (λ seat. seat.of ≡ Some c.args.shared.now) (λ post. post.seat) _ c.run_posts.ensures.theirs)))
    c.collect_seats.ensures

pub returns-clause-rested : goal.returns-clause-rested
returns-clause-rested g c =
    let inv = c.loop-seat.invariant in
    let none : inv.1 ≡ 0 = none_left c.args.shared.now inv.0 inv.1
    c.loop-seat.seat-iterator.rest.items
    (sym c.loop-seat.seat-iterator.rest.ok.0 ∙ c.in-None.ensures.steps.0) inv.3 in
    let sum = inv.2 in
    let all : inv.0 ≡ length c.args.config.now.roles = omega arith in
    let are = subst (λ n. AreBack c.args.config.now.roles c.args.shared.now n c.loop-seat.back.items)
    all inv.4 in
    IfOk-weaker c.collect_seats.result _ _
    (λ seats is. subst
    (AreBack c.args.config.now.roles c.args.shared.now (length c.args.config.now.roles)) (sym is.0)
    (more_back c.args.config.now.roles c.args.shared.now (length c.args.config.now.roles)
    c.loop-seat.back.items _ are))
    c.collect_seats.ensures

pub returns-clause-played : goal.returns-clause-played
returns-clause-played g c =
    let inv = c.loop-seat.invariant in
    let none : inv.1 ≡ 0 = none_left c.args.shared.now inv.0 inv.1
    c.loop-seat.seat-iterator.rest.items
    (sym c.loop-seat.seat-iterator.rest.ok.0 ∙ c.in-None.ensures.steps.0) inv.3 in
    let sum = inv.2 in
    let all : inv.0 ≡ length c.args.config.now.roles = omega arith in
    let cast = subst (λ n. AreCast (λ post. post.seat)
    (λ post. (own-1.entry post.actor.vtable).1.part post.actor.value)
    c.args.config.now c.args.seed c.args.shared.now n c.loop-seat.posts.items) all inv.7 in
    IfOk-weaker c.collect_seats.result _ _
    (λ seats is. subst (AllFinished c.args.config.now c.args.seed c.args.shared.now) (sym is.0)
    (all_finished (λ post. post.seat)
    (λ post. (own-1.entry post.actor.vtable).1.part post.actor.value)
    (λ post. post.end) c.args.config.now c.args.seed c.args.shared.now c.loop-seat.posts.items
    c.run_posts.new.posts.items c.loop-seat.back.items cast c.run_posts.ensures.same
    c.run_posts.ensures.ran is.1))
    c.collect_seats.ensures
