-- A front after what was written before.
use Rattle.std.proofs.Common.{arith, ◌≡◌, ◌<◌, ◌∙◌, ℕ, suc, List, ◌++◌, Option, length, take, drop, get_or, sym, ap, append_assoc, length-append, take-append-drop, drop-cons}
use Rattle.std.specs.List.{flat_map}
use Rattle.std.specs.Io.KnownBytes.{Appends}
use Rattle.std.proofs.KnownBytes.{Appends-trans}
use Rattle.std.proofs.lemmas.Grind.{flat_map-append}
use Rattle.fy_lines.specs.Prefixes.{AppendsProperPrefix}

regroup : (done front rest more : List ℕ) → done ++ ((front ++ rest) ++ more) ≡ (done ++ front) ++ (rest ++ more)
regroup done front rest more = simp append_assoc

still_some : (rest more : List ℕ) → 0 < length rest → 0 < length (rest ++ more)
still_some rest more some = rw (length-append rest more) (omega arith)

pub AppendsProperPrefix-after : (first second third : Option (List ℕ)) → (done piece more : List ℕ) → Appends first second done → AppendsProperPrefix second third piece
    → AppendsProperPrefix first third (done ++ (piece ++ more))
AppendsProperPrefix-after first second third done piece more whole part =
    let (front, rest, split, appended, some) = part in
    (done ++ front, rest ++ more, ap (λ l. done ++ (l ++ more)) split ∙ regroup done front rest more, Appends-trans first second third done front whole appended, still_some rest more some)

-- the texts of a list, cut at its element i
cut_at : {X : Type 0} (f : X → List ℕ) (xs : List X) (i : ℕ) (d : X) → i < length xs
    → flat_map f xs ≡ flat_map f (take i xs) ++ (f (get_or xs i d) ++ flat_map f (drop (suc i) xs))
cut_at f xs i d within =
    ap (flat_map f) (sym (take-append-drop i xs)) ∙ flat_map-append f (take i xs) (drop i xs)
    ∙ ap (λ l. flat_map f (take i xs) ++ flat_map f l) (drop-cons xs i d within)

pub AppendsProperPrefix-part : {X : Type 0} (f : X → List ℕ) (xs : List X) (i : ℕ) (d : X) (first second third : Option (List ℕ)) → i < length xs
    → Appends first second (flat_map f (take i xs)) → AppendsProperPrefix second third (f (get_or xs i d)) → AppendsProperPrefix first third (flat_map f xs)
AppendsProperPrefix-part f xs i d first second third within whole part =
    rw (cut_at f xs i d within) (AppendsProperPrefix-after first second third (flat_map f (take i xs)) (f (get_or xs i d)) (flat_map f (drop (suc i) xs)) whole part)
