-- the text of parts, one more at a time
use Rattle.std.proofs.Common.{get_or, length-take, inl, inr, ◌⊎◌, ◌≡◌, List, [], ◌∷◌, ◌++◌, ℕ, ◌+◌, ◌^◌, ◌<◌, true, false, length, take, ltb, sym, ap, ◌∙◌, arith}
use Rattle.std.specs.Prelude.{codes}
use Rattle.std.proofs.lemmas.List.{append_assoc, append-nil, take_more}
use Rattle.std.proofs.lemmas.Bool.Decides.{nat_tests}
use Rattle.fy_policy.specs.declared.shape.Shape.{Shape}
use Rattle.fy_policy.specs.Shape.{tree_of}
use Rattle.std.specs.Fmt.{decimal}
use Rattle.fy_locality.specs.declared.key.Key.{Key}
use Rattle.fy_locality.specs.Key.{key_text}
use Rattle.fy_policy.specs.Tree.{Tree, across, every}
use Rattle.fy_policy.specs.Text.{numeral, text, parts_text, more_text}
use Rattle.fy_policy.proofs.Numerals.{decimal_is_numeral}
use Rattle.fy_policy.proofs.Shapes.{parts_from}

more_text-push : (qs : List Shape) (q : Shape) → more_text (parts_from (qs ++ q ∷ [])) ≡ more_text (parts_from qs) ++ (codes "," ++ text (tree_of q))
more_text-push [] q = append-nil (codes "," ++ text (tree_of q))
more_text-push (x ∷ xs) q =
    ap (λ t. codes "," ++ text (tree_of x) ++ t) (more_text-push xs q)
    ∙ sym (append_assoc (codes "," ++ text (tree_of x)) (more_text (parts_from xs)) (codes "," ++ text (tree_of q)))

-- the first part stands alone, and each later one behind a comma
pub parts_text-first : (q : Shape) → parts_text (parts_from (q ∷ [])) ≡ text (tree_of q)
parts_text-first q = append-nil (text (tree_of q))

pub parts_text-push : (qs : List Shape) (q : Shape) → 0 < length qs → parts_text (parts_from (qs ++ q ∷ [])) ≡ parts_text (parts_from qs) ++ (codes "," ++ text (tree_of q))
parts_text-push [] q h = absurd (omega arith)
parts_text-push (x ∷ xs) q h =
    ap (λ t. text (tree_of x) ++ t) (more_text-push xs q)
    ∙ sym (append_assoc (text (tree_of x)) (more_text (parts_from xs)) (codes "," ++ text (tree_of q)))

-- one part more, behind a comma where it isn't the first
pub pushed : (start out mid new : List ℕ) (items : List Shape) (i : ℕ) (q : Shape) → i < length items → q ≡ get_or items i q → out ≡ start ++ parts_text (parts_from (take i items)) → new ≡ mid ++ text (tree_of q)
    → ((ltb 0 i ≡ true) × (mid ≡ out ++ codes ",")) ⊎ ((ltb 0 i ≡ false) × (mid ≡ out)) → new ≡ start ++ parts_text (parts_from (take (i + 1) items))
pushed start out mid new items i q within is so_far adds (inl behind) =
    let some : 0 < i = (let e : ltb 0 i ≡ true = behind.0 in grind (arith, nat_tests)) in
    let front : List Shape = take i items in
    let there : 0 < length front = omega (arith, length-take i items) in
    adds ∙ ap (λ t. t ++ text (tree_of q)) (behind.1 ∙ ap (λ t. t ++ codes ",") so_far)
    ∙ append_assoc (start ++ parts_text (parts_from front)) (codes ",") (text (tree_of q))
    ∙ append_assoc start (parts_text (parts_from front)) (codes "," ++ text (tree_of q))
    ∙ ap (λ t. start ++ t) (sym (parts_text-push front q there) ∙ ap (λ ps. parts_text (parts_from ps)) (sym (take_more items i q within ∙ ap (λ r. front ++ r ∷ []) (sym is))))
pushed start out mid new items i q within is so_far adds (inr first) =
    let none : i ≡ 0 = (let e : ltb 0 i ≡ false = first.0 in grind (arith, nat_tests)) in
    let front : List Shape = take i items in
    let nothing : front ≡ [] = ap (λ n. take n items) none in
    adds ∙ ap (λ t. t ++ text (tree_of q)) (first.1 ∙ so_far ∙ ap (λ ps. start ++ parts_text (parts_from ps)) nothing ∙ append-nil start)
    ∙ ap (λ t. start ++ t) (sym (parts_text-first q) ∙ ap (λ ps. parts_text (parts_from (ps ++ q ∷ []))) (sym nothing) ∙ ap (λ ps. parts_text (parts_from ps)) (sym (take_more items i q within ∙ ap (λ r. front ++ r ∷ []) (sym is))))

-- the whole text of several policies
pub closed : (before opened written new : List ℕ) (items : List Shape) (tree : Tree) → tree ≡ every (parts_from items) → opened ≡ before ++ codes "And(" → written ≡ opened ++ parts_text (parts_from items) → new ≡ written ++ codes ")" → new ≡ before ++ text tree
closed before opened written new items tree is opens writes closes =
    closes ∙ ap (λ t. t ++ codes ")") (writes ∙ ap (λ t. t ++ parts_text (parts_from items)) opens)
    ∙ append_assoc (before ++ codes "And(") (parts_text (parts_from items)) (codes ")")
    ∙ append_assoc before (codes "And(") (parts_text (parts_from items) ++ codes ")")
    ∙ ap (λ t. before ++ text t) (sym is)

-- the whole text of a policy across a key, piece by piece
pub across_closed : (before named counted first keyed second inner new written : List ℕ) (n : ℕ) (key : Key) (q tree : Tree) → tree ≡ across n key q → written ≡ decimal n → n < 2 ^ 64 → named ≡ before ++ codes "Across(" → counted ≡ named ++ written → first ≡ counted ++ codes "," → keyed ≡ first ++ key_text key → second ≡ keyed ++ codes "," → inner ≡ second ++ text q → new ≡ inner ++ codes ")" → new ≡ before ++ text tree
across_closed before named counted first keyed second inner new written n key q tree is number small a b c d e f g =
    let number_too : written ≡ numeral n = number ∙ decimal_is_numeral n small in
    let all : new ≡ ((((((before ++ codes "Across(") ++ numeral n) ++ codes ",") ++ key_text key) ++ codes ",") ++ text q) ++ codes ")" =
    g ∙ ap (λ t. t ++ codes ")") (f ∙ ap (λ t. t ++ text q) (e ∙ ap (λ t. t ++ codes ",") (d ∙ ap (λ t. t ++ key_text key) (c ∙ ap (λ t. t ++ codes ",") (b ∙ (λ i. ap (λ t. t) a i ++ number_too i)))))) in
    let grouped : ((((((before ++ codes "Across(") ++ numeral n) ++ codes ",") ++ key_text key) ++ codes ",") ++ text q) ++ codes ")" ≡ before ++ text (across n key q) = simp append_assoc in
    all ∙ grouped ∙ ap (λ t. before ++ text t) (sym is)
