-- kills beyond the guard
use Rattle.std.specs.Prelude.{ℕ, Bool, false, ◌&&◌, List, find, slice_get, Option, option_map}
use Rattle.std.specs.Option.{option_map_or}
use Rattle.fy_kinds.specs.Kinds.{is_destroying}
use Rattle.fy_acts.specs.declared.entry.Entry.{Entry}
use Rattle.fy_events.specs.Answers.{answered, differs}
use Rattle.fy_events.specs.declared.event.Done.{Done}
use Rattle.fy_events.specs.declared.event.Done.TheVariants.{Kill}
use Rattle.fy_holders.specs.declared.beyond.Note.{Note}

-- a kill was done that destroys
abbrev pub destroys_by : Done → Bool
destroys_by (Kill kind) = is_destroying kind
destroys_by _ = false

-- a kill was done that destroys, and the reply says another thing
abbrev pub is_past : Option Done → Done → Bool
is_past answer done = destroys_by done && differs answer done

-- the note says so of its entry
abbrev pub is_beyond : List Entry → Note → Bool
is_beyond journal note =
    option_map_or (λ e. is_past (answered e.act e.reply) note.done) (slice_get journal note.entry) false

-- the entry of the first note that says so
abbrev pub first_beyond : List Entry → List Note → Option ℕ
first_beyond journal notes = option_map (λ note. note.entry) (find (is_beyond journal) notes)
