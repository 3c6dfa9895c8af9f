-- sets of kinds put together
use Rattle.std.proofs.Common.{◌≡◌, ◌<◌, ◌+◌, ℕ, length, drop, get_or, ◌||◌, List, ◌∷◌, Option, Some, None, option_map, Bool, true, false, refl, ap, ◌∙◌, sym}
use Rattle.fy_kinds.specs.Members.{Members}
use Rattle.fy_kinds.specs.Kinds.{in_either}
use Rattle.toml.specs.View.{view, items_view}
use Rattle.toml.specs.declared.value.Value.{Value}
use Rattle.fy_locality.specs.Chain.{◌>>=◌}
use Rattle.fy_config.specs.Tables.{all_of, kind_set_of, union_of}
use Rattle.fy_config.proofs.Lists.{all_of-drop}

or_regroups : (a b c : Bool) → ((a || b) || c) ≡ (a || (b || c))
or_regroups true b c = refl
or_regroups false b c = refl

-- three sets together, whichever two come first
pub with_all_regroups : (a b c : Members) → in_either (in_either a b) c ≡ in_either a (in_either b c)
with_all_regroups a b c =
    rw (
      or_regroups a.reboot_process b.reboot_process c.reboot_process,
      or_regroups a.reboot b.reboot c.reboot,
      or_regroups a.reboot_and_delete b.reboot_and_delete c.reboot_and_delete,
      or_regroups a.kill_instantly b.kill_instantly c.kill_instantly,
      or_regroups a.clog b.clog c.clog,
    )

-- one set more goes to those that are left, or to those before
pub one_more :
    (before x : Members) (rest : Option (List Members))
    → option_map (λ more. in_either (in_either before x) (union_of more)) rest
    ≡ option_map (λ more. in_either before (union_of more)) (option_map (λ more. x ∷ more) rest)
one_more before x None = refl
one_more before x (Some more) = ap Some (with_all_regroups before x (union_of more))

-- after a word more, the kinds so far and those of the words that are left are the same together
pub kinds_kept :
    (before x : Members) (vs : List Value) (i : ℕ) (v : Value) (whole : Option Members)
    → i < length vs → v ≡ get_or vs i v → kind_set_of (view v) ≡ Some x
    → option_map (λ more. in_either before (union_of more)) (all_of kind_set_of (items_view (drop i vs)))
    ≡ whole
    → option_map (λ more. in_either (in_either before x) (union_of more))
    (all_of kind_set_of (items_view (drop (i + 1) vs)))
    ≡ whole
kinds_kept before x vs i v whole within is has so_far =
    let rest : Option (List Members) = all_of kind_set_of (items_view (drop (i + 1) vs)) in
    one_more before x rest
    ∙ ap (λ o. option_map (λ more. in_either before (union_of more)) (o >>= λ z. option_map (λ zs. z ∷ zs) rest))
    (sym has)
    ∙ ap (option_map (λ more. in_either before (union_of more)))
    (sym (all_of-drop kind_set_of vs i v within is))
    ∙ so_far
