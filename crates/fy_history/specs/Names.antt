-- texts that are told apart by numbers
use Rattle.std.specs.Prelude.{◌≡◌, ℕ, false, List, [], ◌∷◌, ◌++◌, length, map, String, string_bytes, slice_get, unwrap_or, bytes_eq, if◌then◌else◌}
use Rattle.std.specs.List.{list_any, position_or_len}

-- the bytes of each text
abbrev pub texts_of : {A : Type 0} → List (String A) → List (List ℕ)
texts_of texts = map string_bytes texts

-- the text of a number; it is empty where no text has it
abbrev pub text_at : List (List ℕ) → (number : ℕ) → List ℕ
text_at texts number = unwrap_or (slice_get texts number) []

-- the number that a text has, or gets: how many texts stand before it
abbrev pub number_of : List (List ℕ) → List ℕ → ℕ
number_of texts text = position_or_len (bytes_eq text) texts

-- the texts, with one behind them if it isn't there yet
abbrev pub with_text : List (List ℕ) → List ℕ → List (List ℕ)
with_text texts text = if list_any (bytes_eq text) texts then texts else texts ++ text ∷ []

-- the text stands at this place
pub record IsPlaceOf (texts : List (List ℕ)) (text : List ℕ) (place : ℕ) : Type 0 where
  pub number : number_of texts text ≡ place
  pub there : with_text texts text ≡ texts

-- the text isn't there
pub record IsNew (texts : List (List ℕ)) (text : List ℕ) : Type 0 where
  pub number : number_of texts text ≡ length texts
  pub absent : list_any (bytes_eq text) texts ≡ false
