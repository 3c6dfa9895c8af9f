use Rattle.std.proofs.Common.{◌≡◌, ◌<◌, ◌+◌, ◌++◌, ◌∷◌, ◌∙◌, [], List, length, drop, map, Some, option_map, sym, ap, arith}
use Rattle.toml.specs.View.{view, items_view}
use Rattle.fy_config.specs.declared.given.GivenProtection.{GivenProtection}
use Rattle.fy_config.specs.Given.{protection_given}
use Rattle.fy_config.specs.Tables.{all_of, protection_of}
use Rattle.fy_config.proofs.Lists.{one_more_kept}
use Rattle.fy_config.proofs.fields.protections_of.Goals as goal

pub loop-value-preserved : goal.loop-value-preserved
loop-value-preserved c =
    let i = c.loop-value.value-index in
    let within : c.loop-value.value-index < length c.args.values.now = omega arith in
    let has : option_map protection_given (protection_of (view c.value-item.result)) ≡ Some c.in-Some.protection =
    sym c.in-Some.ensures in
    let grown
    : c.push_protection.new.protections.items ≡ c.loop-value.protections.items ++ c.in-Some.protection ∷ [] =
    c.in_ok-push_protection.ensures in
    ap (λ (items : List GivenProtection). option_map (λ more. items ++ map protection_given more)
    (all_of protection_of (items_view (drop (i + 1) c.args.values.now)))) grown
    ∙ one_more_kept protection_of protection_given c.loop-value.protections.items c.in-Some.protection
    c.args.values.now i c.value-item.result _ within c.value-item.is has c.loop-value.invariant
