use Rattle.std.proofs.Common.{◌≡◌, ◌<◌, ◌+◌, ◌++◌, ◌∷◌, ◌∙◌, [], List, length, drop, map, Some, option_map, sym, ap, arith}
use Rattle.toml.specs.View.{view, items_view}
use Rattle.fy_config.specs.declared.given.GivenGrant.{GivenGrant}
use Rattle.fy_config.specs.Given.{grant_given}
use Rattle.fy_config.specs.Tables.{all_of, grant_of}
use Rattle.fy_config.proofs.Lists.{one_more_kept}
use Rattle.fy_config.proofs.tables.grants_of.Goals as goal

pub loop-value-preserved : goal.loop-value-preserved
loop-value-preserved c =
    let i = c.loop-value.value-index in
    let within : c.loop-value.value-index < length c.args.values.now = omega arith in
    let has : option_map grant_given (grant_of (view c.value-item.result)) ≡ Some c.in-Some.grant =
    sym c.in-Some.ensures in
    let grown : c.push_last.new.given.items ≡ c.loop-value.given.items ++ c.in-Some.grant ∷ [] =
    c.in_ok-push_last.ensures in
    ap (λ (items : List GivenGrant). option_map (λ more. items ++ map grant_given more)
    (all_of grant_of (items_view (drop (i + 1) c.args.values.now)))) grown
    ∙ one_more_kept grant_of grant_given c.loop-value.given.items c.in-Some.grant
    c.args.values.now i c.value-item.result _ within c.value-item.is has c.loop-value.invariant
