use Rattle.std.proofs.Common.{rules, ◌≡◌, ◌∙◌, ◌++◌, ◌∷◌, [], ◌+◌, ◌-◌, ℕ, sym, ap, arith, Some}
use Rattle.std.proofs.lemmas.List.FromFn.{map-range_with_len_more}
use Rattle.fy_shared.specs.Turnstile.{SeatView}
use Rattle.fy_shared.specs.Yard.{Yard, new_seat, new_seats}
use Rattle.fy_shared.proofs.yard.seat_all.Goals as goal

pub loop-actor-preserved : goal.loop-actor-preserved
loop-actor-preserved c =
    let i = c.loop-actor.invariant in
    let new = c.make_next_place-next.ensures.new in
    let a : ℕ = c.loop-actor.actor in
    let y : Yard = c.args.shared.now in
    let id = new.0 ∙ i.0 in
    let setup =
    ap (λ (m : SeatView). m.0.setup) new.1 ∙ ap (λ (m : SeatView). m.0.setup) i.1 in
    let seen = ap (λ (m : SeatView). m.0.seen) new.1 in
    let same : c.seat_at.result ≡ new_seat y a =
    c.seat_at.ensures
    ∙ (λ k. record {
      of = Some (record { id = id k; setup = setup k });
      actor = a;
      receipts = [];
      seen = seen k;
    }) in
    let low = i.2 in
    let items = c.push_reserved.ensures.items ∙ (λ k. i.6 k ++ same k ∷ []) in
    let next : 1 + (a - 1) ≡ a = omega arith in
    let more : (a - 1) + 1 ≡ (a + 1) - 1 = omega arith in
    let last =
    items
    ∙ (sym (map-range_with_len_more (new_seat y) 1 (a - 1) a next) ∙ ap (new_seats y 1) more) in (
      search rules,
      search rules,
      search rules,
      search rules,
      search rules,
      search rules,
      last,
    )
