-- what a line of a history says: a JSON value is one of the forms, or is no line
use Rattle.std.specs.Prelude.{◌≡◌, ℕ, Bool, true, false, not, ◌&&◌, ◌||◌, nat_lt, List, [], ◌∷◌, codes, bytes_eq, Option, Some, None, is_some, is_none, option_map, option_and_then, if◌then◌else◌}
use Rattle.std.specs.List.{list_any}
use Rattle.std.specs.Option.{option_map_or}
use Rattle.json.specs.Json.{Json, Members, no_members, member}
use Rattle.json.specs.Find.{get, at, is_null, as_str, as_number, as_object}
use Rattle.fy_events.specs.Events.{done_of}
use Rattle.fy_events.specs.Micros.{whole_from}
use Rattle.fy_events.specs.declared.event.Done.{Done}
use Rattle.fy_history.specs.declared.TheConstants.{MOST_WHOLE}
use Rattle.fy_history.specs.declared.line.TheConstants.{MOST_CLIENTS, MOST_NODES}
use Rattle.fy_history.specs.declared.line.Ask.{Ask}
use Rattle.fy_history.specs.declared.line.Ask.TheVariants as ask
use Rattle.fy_history.specs.declared.line.Outcome.{Outcome}
use Rattle.fy_history.specs.declared.line.Outcome.TheVariants as outcome
use Rattle.fy_history.specs.declared.line.Found.{Found}
use Rattle.fy_history.specs.declared.line.Found.TheVariants as found
use Rattle.fy_history.specs.declared.line.Event.{Event}
use Rattle.fy_history.specs.declared.line.Event.TheVariants as event
use Rattle.fy_history.specs.declared.line.Line.{Line}

-- a text, or anything that is said with texts
abbrev pub Text : Type 0
Text = List ℕ

-- each member has one of these names
abbrev pub are_named : (names : List Text) → Members → Bool
are_named names no_members = true
are_named names (member name value members) =
    list_any (bytes_eq name) names && are_named names members

-- an object with no member but such of these names
abbrev pub has_only : (names : List Text) → Json → Bool
has_only names value = option_map_or (are_named names) (as_object value) false

-- the member of a name is a whole number below another
abbrev pub number_in : (below : ℕ) → (name : Text) → Json → Option ℕ
number_in below name value =
    option_and_then (whole_from below) (option_and_then as_number (get name value))

-- the member of a name is a text
abbrev pub text_in : (name : Text) → Json → Option Text
text_in name value = option_and_then as_str (get name value)

-- the member `value` is an array of no more than two, and this stands there at a place
abbrev pub half_of : (place : ℕ) → Json → Option Json
half_of place pair = if is_some (at 2 pair) then None else at place pair

-- what stands at a place of the pair `value`
abbrev pub half : (place : ℕ) → Json → Option Json
half place value = option_and_then (half_of place) (get (codes "value") value)

-- the key of the pair
abbrev pub key_in : Json → Option Text
key_in value = option_and_then as_str (half 0 value)

-- null is nothing, and a text is a value
abbrev pub found_from : Json → Option (Option Text)
found_from value = if is_null value then Some None else option_map Some (as_str value)

-- what stands behind the key in the pair
abbrev pub found_in : Json → Option (Option Text)
found_in value = option_and_then found_from (half 1 value)

-- a value, and not null
abbrev pub value_in : Json → Option Text
value_in value = option_and_then (λ found. found) (found_in value)

-- nothing stands behind the key in the pair
abbrev pub finds_nothing : Json → Bool
finds_nothing value = option_map_or is_null (half 1 value) false

-- the process that was asked; null is the store as a whole
abbrev pub node_from : Json → Json → Option (Option ℕ)
node_from value node =
    if is_null node then Some None else option_map Some (number_in MOST_NODES (codes "node") value)

-- the member `node`: the process that was asked, or the store as a whole
abbrev pub node_in : Json → Option (Option ℕ)
node_in value = option_and_then (node_from value) (get (codes "node") value)

-- a write asks that the pair be so
abbrev pub write_in : Json → Option (Ask Text)
write_in value =
    option_and_then (λ key. option_map (ask.Write key) (value_in value)) (key_in value)

-- a read asks for the key of the pair
abbrev pub read_in : Json → Option (Ask Text)
read_in value =
    option_and_then (λ key. option_map (ask.Read key) (node_in value)) (key_in value)

-- what a line asks, by its `f`
abbrev pub ask_by : (f : Text) → Json → Option (Ask Text)
ask_by f value =
    if bytes_eq f (codes "write") then write_in value
    else if bytes_eq f (codes "read") then read_in value
    else None

-- what a line asks
abbrev pub ask_in : Json → Option (Ask Text)
ask_in value = option_and_then (λ f. ask_by f value) (text_in (codes "f") value)

-- a number of times that may be told: more than one
abbrev pub times_of : (may_be_told : Bool) → ℕ → Option ℕ
times_of may_be_told times = if may_be_told && nat_lt 1 times then Some times else None

-- how many times a value was found: once, if nothing is said of it
abbrev pub times_in : (may_be_told : Bool) → Json → Option ℕ
times_in may_be_told value =
    if is_none (get (codes "times") value) then Some 1
    else option_and_then (times_of may_be_told) (number_in 4294967295 (codes "times") value)

-- what a read of a process or of the store as a whole found
abbrev pub read_done : (node : Option ℕ) → Json → (found : Option Text) → Option (Outcome Text)
read_done node value found =
    option_map (outcome.Done found) (times_in (is_none node && is_some found) value)

-- what was asked ended well
abbrev pub done_in : Ask Text → Json → Option (Outcome Text)
done_in (ask.Write key written) value = Some (outcome.Done None 1)
done_in (ask.Read key node) value = option_and_then (read_done node value) (found_in value)

-- `error`, where it stands, is a text
abbrev pub has_error_text : Json → Bool
has_error_text value =
    option_map_or (λ error. is_some (as_str error)) (get (codes "error") value) true

-- a store says no by the error "no"
abbrev pub is_no : Option Text → Bool
is_no error = option_map_or (λ text. bytes_eq text (codes "no")) error false

-- a read's pair has nothing behind the key
abbrev pub is_bare : Ask Text → Json → Bool
is_bare (ask.Write key written) value = true
is_bare (ask.Read key process) value = finds_nothing value

-- how it ended that isn't known to be done
abbrev pub undone : (fails : Bool) → Json → Outcome Text
undone fails value =
    if fails then outcome.Failed
    else if is_no (text_in (codes "error") value) then outcome.Refused
    else outcome.Unknown

-- how what was asked ended that isn't known to be done, if the line says no more than that
abbrev pub undone_in : (fails : Bool) → Ask Text → Json → Option (Outcome Text)
undone_in fails asked value =
    if has_error_text value && is_bare asked value then Some (undone fails value) else None

-- the members of a line of a write
abbrev pub has_write_names : (is_well : Bool) → Json → Bool
has_write_names is_well value =
    if is_well
    then has_only (codes "index" ∷ codes "time" ∷ codes "process" ∷ codes "type" ∷ codes "f"
    ∷ codes "value" ∷ []) value
    else has_only (codes "index" ∷ codes "time" ∷ codes "process" ∷ codes "type" ∷ codes "f"
    ∷ codes "value" ∷ codes "error" ∷ []) value

-- the members of a line of a read, with one more
abbrev pub has_read_names : (more : Text) → Json → Bool
has_read_names more value =
    has_only (codes "index" ∷ codes "time" ∷ codes "process" ∷ codes "type" ∷ codes "f"
    ∷ codes "value" ∷ codes "node" ∷ more ∷ []) value

-- the member that a read's line of a type may have beside those of each
abbrev pub read_more : (kind : Text) → Text
read_more kind =
    if bytes_eq kind (codes "invoke") then codes "node"
    else if bytes_eq kind (codes "ok") then codes "times"
    else codes "error"

-- the line of a client has no member but those of its form
abbrev pub has_client_names : Ask Text → (kind : Text) → Json → Bool
has_client_names (ask.Write key written) kind value =
    has_write_names (bytes_eq kind (codes "invoke") || bytes_eq kind (codes "ok")) value
has_client_names (ask.Read key process) kind value = has_read_names (read_more kind) value

-- a client begins
abbrev pub begins : (client : ℕ) → Ask Text → Json → Option (Event Text)
begins client asked value = if is_bare asked value then Some (event.Begins client asked) else None

-- how what was asked ended, by the type of the line
abbrev pub outcome_in : (kind : Text) → Ask Text → Json → Option (Outcome Text)
outcome_in kind asked value =
    if bytes_eq kind (codes "ok") then done_in asked value
    else if bytes_eq kind (codes "fail") then undone_in true asked value
    else if bytes_eq kind (codes "info") then undone_in false asked value
    else None

-- the line of a client, by its type
abbrev pub client_event_of : (client : ℕ) → Ask Text → (kind : Text) → Json → Option (Event Text)
client_event_of client asked kind value =
    if not (has_client_names asked kind value) then None
    else if bytes_eq kind (codes "invoke") then begins client asked value
    else option_map (event.Ends client asked) (outcome_in kind asked value)

-- the line of a client that asks so, by its type
abbrev pub client_asks : (client : ℕ) → Json → Ask Text → Option (Event Text)
client_asks client value asked =
    option_and_then (λ kind. client_event_of client asked kind value) (text_in (codes "type") value)

-- what happened at a client
abbrev pub client_event : Json → Option (Event Text)
client_event value =
    option_and_then (λ client. option_and_then (client_asks client value) (ask_in value))
    (number_in MOST_CLIENTS (codes "process") value)

-- what was done for an entry, if the line says so
abbrev pub does_in : Json → Option (Option Done)
does_in value =
    if is_none (get (codes "does") value) then Some None
    else option_map Some (done_of (get (codes "does") value))

-- an entry of the audit was answered
abbrev pub entry_event : Json → Option (Event Text)
entry_event value =
    if not (has_only (codes "index" ∷ codes "time" ∷ codes "f" ∷ codes "value" ∷ codes "does" ∷ [])
    value) then None
    else option_and_then (λ entry. option_map (event.Entry entry) (does_in value))
    (number_in 4294967295 (codes "value") value)

-- a record that a folder has
abbrev pub has_record : Json → Option (Found Text)
has_record value =
    option_and_then (λ key. option_map (found.Has key) (value_in value)) (key_in value)

-- what a line says of the records of a disk
abbrev pub salvage_found : (kind : Text) → Json → Option (Found Text)
salvage_found kind value =
    if bytes_eq kind (codes "told") then has_record value
    else if bytes_eq kind (codes "all") then Some found.All
    else if bytes_eq kind (codes "some") then Some found.Some
    else None

-- what a line says of the files of a disk
abbrev pub plain_found : (kind : Text) → Json → Option (Found Text)
plain_found kind value =
    if bytes_eq kind (codes "told")
    then (if finds_nothing value then option_map found.Stands (key_in value) else None)
    else if bytes_eq kind (codes "all") then Some found.NothingElse
    else None

-- the members of a line that tells of a disk
abbrev pub has_disk_names : (tells : Bool) → Json → Bool
has_disk_names tells value =
    if tells
    then has_only (codes "index" ∷ codes "time" ∷ codes "f" ∷ codes "type" ∷ codes "node"
    ∷ codes "value" ∷ []) value
    else has_only (codes "index" ∷ codes "time" ∷ codes "f" ∷ codes "type" ∷ codes "node" ∷ [])
    value

-- what was found on a disk: of its records, or of its files
abbrev pub disk_found : (of_records : Bool) → (kind : Text) → Json → Option (Found Text)
disk_found of_records kind value =
    if of_records then salvage_found kind value else plain_found kind value

-- what was found on a disk, by its type
abbrev pub disk_by : (of_records : Bool) → Json → (kind : Text) → Option (Event Text)
disk_by of_records value kind =
    if not (has_disk_names (bytes_eq kind (codes "told")) value) then None
    else option_and_then (λ node. option_map (event.Disk node) (disk_found of_records kind value))
    (number_in MOST_NODES (codes "node") value)

-- what was found on a disk
abbrev pub disk_event : (of_records : Bool) → Json → Option (Event Text)
disk_event of_records value =
    option_and_then (disk_by of_records value) (text_in (codes "type") value)

-- no write begins from here on
abbrev pub written_event : Json → Option (Event Text)
written_event value =
    if has_only (codes "index" ∷ codes "time" ∷ codes "f" ∷ []) value
    then Some event.Written else None

-- what happened, by `f`
abbrev pub event_by : Json → (f : Text) → Option (Event Text)
event_by value f =
    if bytes_eq f (codes "entry") then entry_event value
    else if bytes_eq f (codes "written") then written_event value
    else if bytes_eq f (codes "salvage") then disk_event true value
    else if bytes_eq f (codes "plain") then disk_event false value
    else client_event value

-- what happened
abbrev pub event_in : Json → Option (Event Text)
event_in value = option_and_then (event_by value) (text_in (codes "f") value)

-- a line of these
abbrev pub line_with : (index nanos : ℕ) → Event Text → Line Text
line_with index nanos happened = record { index = index; nanos = nanos; event = happened }

-- the line that a value is
abbrev pub line_of : Json → Option (Line Text)
line_of value =
    option_and_then (λ index. option_and_then (λ nanos.
    option_map (line_with index nanos) (event_in value))
    (number_in MOST_WHOLE (codes "time") value))
    (number_in MOST_WHOLE (codes "index") value)
