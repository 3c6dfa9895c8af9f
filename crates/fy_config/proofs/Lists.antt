-- lists of what the items of an array spell
use Rattle.std.proofs.Common.{◌≡◌, ◌<◌, ◌+◌, ℕ, List, [], ◌∷◌, ◌++◌, length, drop, map, get_or, Option, Some, None, option_map, refl, ap, sym, ◌∙◌, append_assoc}
use Rattle.toml.specs.Data.{Data}
use Rattle.toml.specs.View.{view, items_view}
use Rattle.toml.specs.declared.value.Value.{Value}
use Rattle.toml.proofs.Views.{items_view-drop}
use Rattle.fy_locality.specs.Chain.{◌>>=◌}
use Rattle.fy_config.specs.Tables.{all_of}

-- what the items from a place on spell
pub all_of-drop :
    {A : Type 0} (f : Data → Option A) (vs : List Value) (i : ℕ) (v : Value)
    → i < length vs → v ≡ get_or vs i v
    → all_of f (items_view (drop i vs))
    ≡ (f (view v) >>= λ x. option_map (λ xs. x ∷ xs) (all_of f (items_view (drop (i + 1) vs))))
all_of-drop f vs i v within is =
    ap (all_of f) (items_view-drop vs i v within)
    ∙ ap (λ w. f (view w) >>= λ x. option_map (λ xs. x ∷ xs) (all_of f (items_view (drop (i + 1) vs))))
    (sym is)

-- an item more is kept
kept :
    {A B : Type 0} (g : A → B) (before : List B) (x : A) (rest : Option (List A))
    → option_map (λ more. (before ++ g x ∷ []) ++ map g more) rest
    ≡ option_map (λ more. before ++ map g more) (option_map (λ more. x ∷ more) rest)
kept g before x None = refl
kept g before x (Some more) = ap Some (append_assoc before (g x ∷ []) (map g more))

found : {A B : Type 0} (g : A → B) (o : Option A) (y : B) → option_map g o ≡ Some y → (x : A) × (o ≡ Some x) × (g x ≡ y)
found g None y e = absurd (let none : ⊥ = cc in none)
found g (Some x) y e = (x, refl, cc)

-- after an item more, what is kept and what is left spell the same
pub one_more_kept :
    {A B : Type 0} (f : Data → Option A) (g : A → B) (before : List B) (y : B)
    (vs : List Value) (i : ℕ) (v : Value) (whole : Option (List B))
    → i < length vs → v ≡ get_or vs i v → option_map g (f (view v)) ≡ Some y
    → option_map (λ more. before ++ map g more) (all_of f (items_view (drop i vs))) ≡ whole
    → option_map (λ more. (before ++ y ∷ []) ++ map g more) (all_of f (items_view (drop (i + 1) vs)))
    ≡ whole
one_more_kept f g before y vs i v whole within is has so_far =
    let (x, at, same) = found g (f (view v)) y has in
    let rest : Option (List _) = all_of f (items_view (drop (i + 1) vs)) in
    ap (λ z. option_map (λ more. (before ++ z ∷ []) ++ map g more) rest) (sym same)
    ∙ kept g before x rest
    ∙ ap (λ o. option_map (λ more. before ++ map g more) (o >>= λ z. option_map (λ zs. z ∷ zs) rest))
    (sym at)
    ∙ ap (option_map (λ more. before ++ map g more)) (sym (all_of-drop f vs i v within is))
    ∙ so_far
