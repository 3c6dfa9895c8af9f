-- the names of an object's members
use Rattle.std.proofs.Common.{◌≡◌, ◌∙◌, ◌&&◌, ℕ, List, [], ◌∷◌, map, refl, sym, ap, Bor}
use Rattle.std.specs.List.{list_any, list_all}
use Rattle.std.specs.Str.{bytes_eq}
use Rattle.json.specs.Value.{members_view}
use Rattle.json.specs.declared.value.Value.{Value}
use Rattle.fy_history.specs.Lines.{are_named}
use Rattle.fy_history.proofs.Texts.{any-map}

-- each member has one of these names
pub all_named : {A : Type 0} (names : List (Bor (List ℕ)))
    (members : List (Bor (List ℕ) × Value A))
    → list_all (λ member. list_any (λ other. bytes_eq member.0.now other.now) names) members
    ≡ are_named (map (λ name. name.now) names) (members_view members)
all_named names [] = refl
all_named names (member ∷ members) =
    ap (λ b. list_any (λ (other : Bor (List ℕ)). bytes_eq member.0.now other.now) names && b)
    (all_named names members)
    ∙ ap (λ b. b && are_named (map (λ (name : Bor (List ℕ)). name.now) names) (members_view members))
    (sym (any-map (bytes_eq member.0.now) (λ (name : Bor (List ℕ)). name.now) names))
