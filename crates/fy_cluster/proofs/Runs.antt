-- acts are applied one after another
use Rattle.std.proofs.Common.{◌≡◌, ℕ, ◌+◌, ◌<◌, List, [], ◌∷◌, ◌++◌, length, take, get_or, Some, refl, sym, ◌∙◌, ap, add-one}
use Rattle.std.proofs.lemmas.Option.{slice_get-get_or}
use Rattle.fy_acts.specs.declared.act.Act.{Act}
use Rattle.fy_cluster.specs.Execution.{Execution, entered, after_acts}
use Rattle.fy_cluster.proofs.Sending.{take-push}

after_acts-push : (execution : Execution) (acts : List (ℕ × Act)) (x : ℕ × Act) → after_acts execution (acts ++ x ∷ []) ≡ entered (after_acts execution acts) x.0 x.1
after_acts-push execution [] x = refl
after_acts-push execution (y ∷ acts) x = after_acts-push (entered execution y.0 y.1) acts x

-- one act more
pub after_next : (execution : Execution) (acts : List (ℕ × Act)) (i : ℕ) (x : ℕ × Act) → i < length acts → x ≡ get_or acts i x → after_acts execution (take (i + 1) acts) ≡ entered (after_acts execution (take i acts)) x.0 x.1
after_next execution acts i x l e =
    ap (λ n. after_acts execution (take n acts)) (add-one i) ∙ ap (after_acts execution) (take-push acts i x (slice_get-get_or acts i x l ∙ ap Some (sym e))) ∙ after_acts-push execution (take i acts) x
