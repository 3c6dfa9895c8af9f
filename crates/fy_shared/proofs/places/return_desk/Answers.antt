use Rattle.std.proofs.Common.{rules, ◌∙◌}
use Rattle.fy_shared.proofs.Turning.{stores, counted, moves_on, advanced}
use Rattle.fy_shared.proofs.places.return_desk.Goals as goal

pub store-requires : goal.store-requires
store-requires c =
    let s = c.requires.serving in (
      c.exchange.ensures.0 ∙ c.requires.table.0,
      search rules,
      stores _ _ _ c.args.place.now.me _ c.args.desk c.exchange.ensures.3 s.slot s.holds s.seated s.kept
          c.requires.grown (search rules) (search rules),
    )

pub fetch_add-requires : goal.fetch_add-requires
fetch_add-requires c =
    let s = c.requires.serving in
    let grown = c.requires.grown in
    let now =
    counted c.args.place.now.me _ _ c.args.desk c.exchange.ensures.3 s.slot
    c.store.ensures.2 in (
      c.store.ensures.0 ∙ (c.exchange.ensures.0 ∙ c.requires.table.0),
      search rules,
      moves_on _ _ c.args.place.now.me _ c.args.desk now s.holds s.waits s.live grown.setup,
    )

pub returns-clause-seen : goal.returns-clause-seen
returns-clause-seen c =
    let s = c.requires.serving in
    let now =
    counted c.args.place.now.me _ _ c.args.desk c.exchange.ensures.3 s.slot
    c.store.ensures.2 in
    advanced c.args.place.now.me _ _ c.args.desk now c.fetch_add.ensures.2
