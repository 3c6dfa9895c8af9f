-- where something stands in a text
use Rattle.std.specs.Prelude.{ℕ, ◌≤◌, List, length}
use Rattle.fy_places.specs.declared.span.Span.{Span}
use Rattle.fy_places.specs.declared.span.Place.{Place}

-- a span that lies within a text
abbrev pub IsWithin : List ℕ → Span → Type 0
IsWithin text span = (span.start ≤ span.end) × (span.end ≤ length text)

-- a key and a value that lie within a text
abbrev pub IsPlaceIn : List ℕ → Place → Type 0
IsPlaceIn text place = IsWithin text place.key × IsWithin text place.value
