-- events of a run whose columns are written out
use Rattle.std.specs.Prelude.{◌≡◌, ℕ, List, [], ◌∷◌}
use Rattle.fy_events.specs.declared.event.Done.TheVariants.{Untold}
use Rattle.fy_events.specs.declared.event.Event.{Event}
use Rattle.fy_events.specs.declared.columns.TimeColumns.{TimeColumns}
use Rattle.fy_events.specs.Columns.{AreTimeColumns}

-- an entry that came at a time, in microseconds
abbrev pub event : (entry micros : ℕ) → Event
event entry micros = record { entry = entry; micros = micros; done = Untold }

-- of five entries the first came at once, the third after two tenths of a second and the fourth
-- after four
abbrev pub events : List Event
events = event 0 0 ∷ event 2 200000 ∷ event 3 400000 ∷ []

-- they have columns of this width, of at most four, with so many entries by the end of each
abbrev pub AreColumns : (width : ℕ) → (ends : List ℕ) → Type 0
AreColumns width ends =
    (columns : TimeColumns) → columns.width ≡ width → columns.ends.items ≡ ends →
    AreTimeColumns events 5 4 columns

-- columns of this width, with so many entries by the end of each, aren't theirs
abbrev pub AreNoColumns : (width : ℕ) → (ends : List ℕ) → Type 0
AreNoColumns width ends =
    (columns : TimeColumns) → columns.width ≡ width → columns.ends.items ≡ ends →
    AreTimeColumns events 5 4 columns → ⊥
