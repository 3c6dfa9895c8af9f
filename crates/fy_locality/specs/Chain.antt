-- steps that find something, one after the other
use Rattle.std.specs.Prelude.{Option, Some, None}

infixl 10 ◌>>=◌
-- what was found goes on to the next step
abbrev pub ◌>>=◌ : {A B : Type 0} → Option A → (A → Option B) → Option B
None >>= f = None
(Some x) >>= f = f x
