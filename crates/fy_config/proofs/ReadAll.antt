-- policies that are read one after another
use Rattle.std.proofs.Common.{◌≡◌, ◌+◌, ℕ, List, [], ◌∷◌, ◌++◌, take, Some, sym, subst}
use Rattle.std.specs.Prelude.{slice_get, Ok}
use Rattle.fy_policy.specs.Tree.{Tree}
use Rattle.fy_policy.specs.Reading.{Reads}
use Rattle.fy_config.specs.Config.{AreRead}
use Rattle.fy_config.proofs.Places.{take_at}

read_push :
    (texts : List (List ℕ)) (policies : List Tree) (text : List ℕ) (policy : Tree)
    → AreRead texts policies → Reads text (Ok policy)
    → AreRead (texts ++ text ∷ []) (policies ++ policy ∷ [])
read_push [] [] text policy so_far one = (one, tt)
read_push [] (p ∷ policies) text policy so_far one = absurd so_far
read_push (t ∷ texts) [] text policy so_far one = absurd so_far
read_push (t ∷ texts) (p ∷ policies) text policy so_far one =
    (so_far.0, read_push texts policies text policy so_far.1 one)

-- one text more is read
pub read_more :
    (texts : List (List ℕ)) (policies more : List Tree) (i : ℕ) (text : List ℕ) (policy : Tree)
    → AreRead (take i texts) policies → slice_get texts i ≡ Some text → Reads text (Ok policy)
    → more ≡ policies ++ policy ∷ [] → AreRead (take (i + 1) texts) more
read_more texts policies more i text policy so_far at one grown =
    subst (λ (ts : List (List ℕ)). AreRead ts more) (sym (take_at texts i text at))
    (subst (λ (ps : List Tree). AreRead (take i texts ++ text ∷ []) ps) (sym grown)
    (read_push (take i texts) policies text policy so_far one))
