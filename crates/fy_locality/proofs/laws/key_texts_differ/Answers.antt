use Rattle.std.proofs.Common.{◌≡◌, ℕ, ◌+◌, List, refl, ap, arith, get_or}
use Rattle.fy_locality.specs.Key.{key_text}
use Rattle.fy_locality.specs.declared.key.Key.{Key}
use Rattle.fy_locality.specs.declared.key.Key.TheVariants.{Process, Machine, Zone, DataHall, DataCenter}
use Rattle.fy_locality.proofs.laws.key_texts_differ.Goals as goal

-- the sum of the first two letters of a text, by which the five differ
mark : List ℕ → ℕ
mark text = get_or text 0 0 + get_or text 1 0

same : (k l : Key) → key_text k ≡ key_text l → k ≡ l
unfolding mark
same Process Process e = refl
same Machine Machine e = refl
same Zone Zone e = refl
same DataHall DataHall e = refl
same DataCenter DataCenter e = refl
same _ _ e = absurd (omega (arith, ap mark e))

pub returns : goal.returns
returns c = same
