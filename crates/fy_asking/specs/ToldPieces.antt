-- the pieces of the text of what is told
use Rattle.std.specs.Prelude.{ℕ, zero, suc, List, [], ◌∷◌, ◌++◌, Bool, true, false, ◌||◌, nat_lt, codes, decimal, Option, Some, None, if◌then◌else◌}
use Rattle.serde_json.specs.Written.{comma_if}

-- a number behind a text, or null
abbrev pub optional_text : List ℕ → Option ℕ → List ℕ
optional_text head None = head ++ codes "null"
optional_text head (Some n) = head ++ decimal n

-- true or false behind a text
abbrev pub truth_text : List ℕ → Bool → List ℕ
truth_text head true = head ++ codes "true"
truth_text head false = head ++ codes "false"

-- a word in quotes behind a text
abbrev pub quoted_text : List ℕ → List ℕ → List ℕ
quoted_text head word = head ++ (codes "\"" ++ (word ++ codes "\""))

-- a name in quotes behind a text, or null
abbrev pub optional_name_text : List ℕ → Option (List ℕ) → List ℕ
optional_name_text head None = head ++ codes "null"
optional_name_text head (Some name) = quoted_text head name

-- the elements of a list, from the second on with a comma before each
abbrev pub listed_text : {X : Type 0} → (X → List ℕ) → Bool → List X → List ℕ
listed_text spell later [] = []
listed_text spell later (x ∷ xs) = comma_if later ++ (spell x ++ listed_text spell true xs)

-- what is spelled of each number below one, from the second on with a comma before it
abbrev pub counted_text : (ℕ → List ℕ) → ℕ → List ℕ
counted_text spell zero = []
counted_text spell (suc n) = counted_text spell n ++ (comma_if (nat_lt 0 n) ++ spell n)

-- some number below passes the test
abbrev pub any_below : (ℕ → Bool) → ℕ → Bool
any_below test zero = false
any_below test (suc n) = any_below test n || test n

-- a number where it passes the test, with a comma where one stands before it
abbrev pub member_text : (ℕ → Bool) → ℕ → List ℕ
member_text test n = if test n then comma_if (any_below test n) ++ decimal n else []

-- the numbers below one that pass a test, with commas between
abbrev pub members_text : (ℕ → Bool) → ℕ → List ℕ
members_text test zero = []
members_text test (suc n) = members_text test n ++ member_text test n
