-- what the lines of a history say, one after the other
use Rattle.std.specs.Prelude.{◌≡◌, ℕ, ◌+◌, ◌-◌, Bool, true, false, ◌&&◌, nat_eq, nat_lt, List, [], ◌∷◌, ◌++◌, length, slice_get, slice_set, bytes_eq, Result, Ok, Err, Option, Some, None, is_some, unwrap_or, if◌then◌else◌}
use Rattle.std.specs.List.{list_any}
use Rattle.std.specs.Option.{option_map_or}
use Rattle.std.specs.Map.{lookup}
use Rattle.indexmap.specs.IndexMap.{insert_entry}
use Rattle.indexmap.specs.IndexSet.{insert_key}
use Rattle.fy_events.specs.declared.event.Done.{Done}
use Rattle.fy_history.specs.Names.{text_at, number_of, with_text}
use Rattle.fy_history.specs.declared.fault.HistoryFault.{HistoryFault}
use Rattle.fy_history.specs.declared.fault.HistoryFault.TheVariants as fault
use Rattle.fy_history.specs.declared.fault.NotTaken.{NotTaken}
use Rattle.fy_history.specs.declared.fault.NotTaken.TheVariants.{Faulty, NoMemory}
use Rattle.fy_history.specs.declared.history.Place.{Place}
use Rattle.fy_history.specs.declared.history.End.{End}
use Rattle.fy_history.specs.declared.history.End.TheVariants as ends
use Rattle.fy_history.specs.declared.history.Write.{Write}
use Rattle.fy_history.specs.declared.history.Answer.{Answer}
use Rattle.fy_history.specs.declared.history.Answer.TheVariants as answer
use Rattle.fy_history.specs.declared.history.Read.{Read}
use Rattle.fy_history.specs.declared.history.EntryLine.{EntryLine}
use Rattle.fy_history.specs.declared.history.Trace.{Trace}
use Rattle.fy_history.specs.declared.history.Trace.TheVariants as trace
use Rattle.fy_history.specs.declared.history.DiskLine.{DiskLine}
use Rattle.fy_history.specs.declared.history.History.{History}
use Rattle.fy_history.specs.declared.line.Ask.{Ask}
use Rattle.fy_history.specs.declared.line.Ask.TheVariants as ask
use Rattle.fy_history.specs.declared.line.Outcome.{Outcome}
use Rattle.fy_history.specs.declared.line.Outcome.TheVariants as outcome
use Rattle.fy_history.specs.declared.line.Found.{Found}
use Rattle.fy_history.specs.declared.line.Found.TheVariants as found
use Rattle.fy_history.specs.declared.line.Event.{Event}
use Rattle.fy_history.specs.declared.line.Event.TheVariants as event
use Rattle.fy_history.specs.declared.line.Line.{Line}
use Rattle.fy_history.specs.declared.progress.Client.{Client}
use Rattle.fy_history.specs.declared.progress.Client.TheVariants as client
use Rattle.fy_history.specs.declared.progress.Known.{Known}
use Rattle.fy_history.specs.declared.progress.Progress.{Progress}

-- a text
abbrev pub Text : Type 0
Text = List ℕ

-- what the lines so far say: the texts that have numbers, what was asked, answered and found, how
-- many lines there are, what each client does, which value of which key was written, and when the
-- last line happened
pub record State : Type 0 where
  pub names : List Text
  pub writes : List Write
  pub reads : List Read
  pub entries : List EntryLine
  pub disks : List DiskLine
  pub written : Option Place
  pub lines : ℕ
  pub clients : List (ℕ × Client)
  pub pairs : List (ℕ × ℕ)
  pub nanos : ℕ

-- as the fields have it
abbrev pub state_of : Progress → State
state_of progress = record {
  names = progress.names;
  writes = progress.writes.items;
  reads = progress.reads.items;
  entries = progress.entries.items;
  disks = progress.disks.items;
  written = progress.written;
  lines = progress.lines;
  clients = progress.clients.entries;
  pairs = progress.pairs.keys;
  nanos = progress.nanos;
}

-- no line
abbrev pub at_first : State
at_first = record {
  names = [];
  writes = [];
  reads = [];
  entries = [];
  disks = [];
  written = None;
  lines = 0;
  clients = [];
  pairs = [];
  nanos = 0;
}

-- the history that these lines are
pub record IsHistoryOf (s : State) (history : History) : Type 0 where
  pub names : history.names ≡ s.names
  pub writes : history.writes.items ≡ s.writes
  pub reads : history.reads.items ≡ s.reads
  pub entries : history.entries.items ≡ s.entries
  pub disks : history.disks.items ≡ s.disks
  pub written : history.written ≡ s.written
  pub lines : history.lines ≡ s.lines

-- a text has a number from now on
abbrev pub with_name : State → Text → State
with_name s text = record s { names = with_text s.names text }

-- what a client does; nothing where no line told of it
abbrev pub client_at : State → (number : ℕ) → Client
client_at s number = unwrap_or (lookup (nat_eq number) s.clients) client.Idle

-- what a client does from now on
abbrev pub with_client : State → (number : ℕ) → Client → State
with_client s number doing = record s { clients = insert_entry nat_eq s.clients number doing }

-- the same key and the same value
abbrev pub same_pair : ℕ × ℕ → ℕ × ℕ → Bool
same_pair a b = nat_eq a.0 b.0 && nat_eq a.1 b.1

-- one write more
abbrev pub add_write : State → Write → State
add_write s write = record s {
  writes = s.writes ++ write ∷ [];
  pairs = insert_key same_pair s.pairs (write.key, write.value);
}

-- one read more
abbrev pub add_read : State → Read → State
add_read s read = record s { reads = s.reads ++ read ∷ [] }

-- a write that begins, whose texts have numbers
abbrev pub begin_with : State → (number : ℕ) → Write → Result State HistoryFault
begin_with s number write =
    if list_any (same_pair (write.key, write.value)) s.pairs then Err fault.Value
    else if is_some s.written then Err fault.Order
    else Ok (add_write (with_client s number (client.Writes (length s.writes))) write)

-- a write that begins
abbrev pub begin_write : State → (number : ℕ) → (key value : Text) → Place → Result State HistoryFault
begin_write s number key value began =
    begin_with (with_name (with_name s key) value) number (record {
      key = number_of s.names key;
      value = number_of (with_text s.names key) value;
      began = began;
      ended = None;
      end = ends.Open;
    })

-- a read that begins
abbrev pub begin_read : State → (number : ℕ) → (key : Text) → Option ℕ → Place → State
begin_read s number key node began =
    add_read (with_client (with_name s key) number (client.Reads (length s.reads))) (record {
      key = number_of s.names key;
      node = node;
      began = began;
      ended = None;
      answer = answer.Unanswered;
      times = 1;
    })

-- the cluster has the process that was asked
abbrev pub has_asked : Known → Option ℕ → Bool
has_asked known node = option_map_or (λ process. nat_lt process known.processes) node true

-- what a client begins
abbrev pub begin_ask : Known → State → (number : ℕ) → Ask Text → Place → Result State HistoryFault
begin_ask known s number (ask.Write key value) began = begin_write s number key value began
begin_ask known s number (ask.Read key node) began =
    if has_asked known node then Ok (begin_read s number key node began) else Err fault.Node

-- a client begins only while it does nothing
abbrev pub begin_as : Client → Known → State → (number : ℕ) → Ask Text → Place → Result State HistoryFault
begin_as client.Idle known s number asked began = begin_ask known s number asked began
begin_as _ known s number asked began = Err fault.Client

-- how a write ends
abbrev pub end_of : Outcome Text → End
end_of (outcome.Done found times) = ends.Done
end_of outcome.Failed = ends.Undone
end_of outcome.Refused = ends.Refused
end_of outcome.Unknown = ends.Unknown

-- what a client does behind an end: where it isn't known what was done, it isn't used any more
abbrev pub after : Outcome Text → Client
after (outcome.Done found times) = client.Idle
after outcome.Failed = client.Idle
after outcome.Refused = client.Gone
after outcome.Unknown = client.Gone

-- the write gives this value to this key
abbrev pub is_write_of : List Text → (key value : Text) → Write → Bool
is_write_of names key value write =
    bytes_eq (text_at names write.key) key && bytes_eq (text_at names write.value) value

-- the write at a place, if it gives this value to this key
abbrev pub pending_write : State → (place : ℕ) → (key value : Text) → Option Write
pending_write s place key value =
    option_map_or (λ write. if is_write_of s.names key value write then Some write else None)
    (slice_get s.writes place) None

-- the same process was asked, or both times the store as a whole
abbrev pub same_node : Option ℕ → Option ℕ → Bool
same_node None None = true
same_node (Some a) (Some b) = nat_eq a b
same_node _ _ = false

-- the read asks for this key, and the same process or the store as a whole
abbrev pub is_read_of : List Text → (key : Text) → Option ℕ → Read → Bool
is_read_of names key node read =
    bytes_eq (text_at names read.key) key && same_node read.node node

-- the read at a place, if it asks this for this key
abbrev pub pending_read : State → (place : ℕ) → (key : Text) → Option ℕ → Option Read
pending_read s place key node =
    option_map_or (λ read. if is_read_of s.names key node read then Some read else None)
    (slice_get s.reads place) None

-- the write of a place ended
abbrev pub end_write : State → (place : ℕ) → Write → Place → Outcome Text → State
end_write s place write ended ending = record s {
  writes = slice_set s.writes place (record write { ended = Some ended; end = end_of ending });
}

-- the texts behind an end: what a read found has a number
abbrev pub found_names : List Text → Outcome Text → List Text
found_names names (outcome.Done (Some text) times) = with_text names text
found_names names _ = names

-- what a read was answered
abbrev pub answer_of : List Text → Outcome Text → Answer
answer_of names (outcome.Done (Some text) times) = answer.Value (number_of names text)
answer_of names (outcome.Done None times) = answer.Nothing
answer_of names _ = answer.Unanswered

-- how many times it found its value
abbrev pub times_of : Outcome Text → ℕ
times_of (outcome.Done found times) = times
times_of _ = 1

-- the read of a place ended
abbrev pub end_read : State → (place : ℕ) → Read → Place → Outcome Text → State
end_read s place read ended ending = record s {
  names = found_names s.names ending;
  reads = slice_set s.reads place (record read {
    ended = Some ended;
    answer = answer_of s.names ending;
    times = times_of ending;
  });
}

-- a client ends what it has begun, and nothing else
abbrev pub end_as : Client → State → (number : ℕ) → Ask Text → Place → Outcome Text → Result State HistoryFault
end_as (client.Writes place) s number (ask.Write key value) ended ending =
    option_map_or (λ write. Ok (with_client (end_write s place write ended ending) number
    (after ending))) (pending_write s place key value) (Err fault.Client)
end_as (client.Reads place) s number (ask.Read key node) ended ending =
    option_map_or (λ read. Ok (with_client (end_read s place read ended ending) number
    (after ending))) (pending_read s place key node) (Err fault.Client)
end_as _ s number asked ended ending = Err fault.Client

-- an entry is behind the one of the entry line before
abbrev pub is_behind : Option EntryLine → (entry : ℕ) → Bool
is_behind last entry = option_map_or (λ line. nat_lt line.entry entry) last true

-- the last of some
abbrev pub last_of : List EntryLine → Option EntryLine
last_of lines = slice_get lines (length lines - 1)

-- an entry of the audit was answered
abbrev pub enter : Known → State → Place → (entry : ℕ) → Option Done → Result State HistoryFault
enter known s place entry does =
    if is_behind (last_of s.entries) entry && nat_lt entry known.entries
    then Ok (record s { entries = s.entries ++ record { at = place; entry = entry; does = does } ∷ [] })
    else Err fault.Entry

-- the texts behind what was found on a disk
abbrev pub traced_names : List Text → Found Text → List Text
traced_names names (found.Has key value) = with_text (with_text names key) value
traced_names names (found.Stands key) = with_text names key
traced_names names _ = names

-- what was found on a disk, by numbers
abbrev pub trace_of : List Text → Found Text → Trace
trace_of names (found.Has key value) =
    trace.Has (number_of names key) (number_of (with_text names key) value)
trace_of names found.All = trace.All
trace_of names found.Some = trace.Some
trace_of names (found.Stands key) = trace.Stands (number_of names key)
trace_of names found.NothingElse = trace.NothingElse

-- a disk is told of only behind the line `written`, and is that of a process of the cluster
abbrev pub find : Known → State → (node : ℕ) → Found Text → Result State HistoryFault
find known s node trace =
    if is_some s.written
    then (if nat_lt node known.processes
    then Ok (record s {
      names = traced_names s.names trace;
      disks = s.disks ++ record { node = node; trace = trace_of s.names trace } ∷ [];
    })
    else Err fault.Node)
    else Err fault.Order

-- no write begins from here on, which is said once
abbrev pub end_writes : State → Place → Result State HistoryFault
end_writes s place =
    if is_some s.written then Err fault.Order else Ok (record s { written = Some place })

-- what happened
abbrev pub take_event : Known → State → Place → Event Text → Result State HistoryFault
take_event known s place (event.Begins number asked) =
    begin_as (client_at s number) known s number asked place
take_event known s place (event.Ends number asked ending) =
    end_as (client_at s number) s number asked place ending
take_event known s place (event.Entry entry does) = enter known s place entry does
take_event known s place event.Written = end_writes s place
take_event known s place (event.Disk node trace) = find known s node trace

-- so many lines, the last of them at this time
abbrev pub up_to : (lines nanos : ℕ) → Result State HistoryFault → Result State HistoryFault
up_to lines nanos (Ok s) = Ok (record s { lines = lines; nanos = nanos })
up_to lines nanos (Err why) = Err why

-- the place of a line behind these
abbrev pub place_at : State → (nanos : ℕ) → Place
place_at s nanos = record { line = s.lines; nanos = nanos }

-- a line more: its index is how many lines there are, it happened no earlier, and then what it says
abbrev pub take : Known → State → Line Text → Result State HistoryFault
take known s line =
    if nat_eq line.index s.lines
    then (if nat_lt line.nanos s.nanos then Err fault.Time
    else up_to (s.lines + 1) line.nanos
    (take_event known s (place_at s line.nanos) line.event))
    else Err fault.Index

-- what a step says that has to give this: the new state, the fault, or that an allocation failed
abbrev pub Takes : Result State HistoryFault → State → Result (Unit {0}) NotTaken → Type 0
Takes wanted now (Ok done) = wanted ≡ Ok now
Takes wanted now (Err (Faulty why)) = wanted ≡ Err why
Takes wanted now (Err NoMemory) = Unit {0}

-- a step gives this, unless an allocation failed
abbrev pub Makes : State → State → Result (Unit {0}) NotTaken → Type 0
Makes wanted now (Ok done) = wanted ≡ now
Makes wanted now (Err (Faulty why)) = ⊥
Makes wanted now (Err NoMemory) = Unit {0}
