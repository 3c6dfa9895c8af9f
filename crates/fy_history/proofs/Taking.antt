-- each line that is taken keeps what the lines before kept
use Rattle.std.proofs.Common.{◌≡◌, ◌+◌, ℕ, ◌<◌, ◌≤◌, Bool, true, false, ◌&&◌, cond, nat_eq, nat_lt, List, length, Option, None, Some, Result, Ok, Err, IfOk, slice_get, is_some, refl, sym, subst, arith}
use Rattle.std.specs.List.{list_any}
use Rattle.std.specs.Option.{option_map_or}
use Rattle.fy_history.specs.Histories.{LineOf, json, no_json, AreLines, none, one_more}
use Rattle.fy_history.specs.Lines.{line_of}
use Rattle.fy_history.specs.Names.{number_of, with_text}
use Rattle.fy_history.specs.Progress.{State, Text, same_pair, with_name, with_client, client_at, add_write, begin_write, begin_read, has_asked, begin_ask, begin_as, end_of, after, is_write_of, is_read_of, end_write, found_names, answer_of, times_of, end_read, end_as, is_behind, last_of, traced_names, take_event, up_to, place_at, take}
use Rattle.fy_history.specs.Sound.{IsSound, ReadIsSound}
use Rattle.fy_lines.specs.Lines.{lines_of}
use Rattle.fy_history.specs.declared.fault.HistoryFault.{HistoryFault}
use Rattle.fy_history.specs.declared.fault.HistoryFault.TheVariants as fault
use Rattle.fy_history.specs.declared.history.Place.{Place}
use Rattle.fy_history.specs.declared.history.End.TheVariants as ends
use Rattle.fy_history.specs.declared.history.Write.{Write}
use Rattle.fy_history.specs.declared.history.Answer.TheVariants as answer
use Rattle.fy_history.specs.declared.history.Read.{Read}
use Rattle.fy_history.specs.declared.line.Ask.{Ask}
use Rattle.fy_history.specs.declared.line.Ask.TheVariants as ask
use Rattle.fy_history.specs.declared.line.Outcome.{Outcome}
use Rattle.fy_history.specs.declared.line.Outcome.TheVariants as outcome
use Rattle.fy_history.specs.declared.line.Found.{Found}
use Rattle.fy_history.specs.declared.line.Found.TheVariants as found
use Rattle.fy_history.specs.declared.line.Event.{Event}
use Rattle.fy_history.specs.declared.line.Event.TheVariants as event
use Rattle.fy_history.specs.declared.line.Line.{Line}
use Rattle.fy_history.specs.declared.progress.Client.{Client}
use Rattle.fy_history.specs.declared.progress.Client.TheVariants as client
use Rattle.fy_history.specs.declared.progress.Known.{Known}
use Rattle.fy_history.proofs.Apart.{AreApart, Grows, text_more, number_small}
use Rattle.fy_history.proofs.SoFar.{SoFar, IsSoundSoFar, sound_at_first, stays, write_more, read_more, write_ends, read_ends}

-- what a line comes to keeps this, if it is taken
abbrev Keeps : ℕ → Result State HistoryFault → Type 0
Keeps lines r = IfOk r (IsSoundSoFar lines)

if_keeps : (lines : ℕ) (b : Bool) (one other : Result State HistoryFault)
    → (b ≡ true → Keeps lines one) → (b ≡ false → Keeps lines other)
    → Keeps lines (cond b one other)
if_keeps lines true one other if_one if_other = if_one refl
if_keeps lines false one other if_one if_other = if_other refl

module _ (known : Known) (s : State) (sound : IsSoundSoFar s.lines s) where
  abbrev n : ℕ
  n = s.lines

  -- nothing but more texts
  grown : (more : ℕ) → n ≤ more → (now : List Text) → AreApart now → length s.names ≤ length now
      → SoFar more now s.writes s.reads s.pairs
  grown more up now apart longer =
      stays n s.names s.writes s.reads s.pairs sound more up now longer apart

  same : IsSoundSoFar (n + 1) s
  same = grown (n + 1) (omega arith) s.names sound.apart (omega arith)

  -- ---- what begins
  begins_write : (number : ℕ) (key value : Text) (began : Place) → began.line ≡ n
      → Keeps (n + 1) (begin_write s number key value began)
  begins_write number key value began here = by (list_any (same_pair (w.key, w.value)) s.pairs) refl
    where
      one : Grows s.names (with_text s.names key)
      one = text_more s.names key sound.apart

      two : Grows (with_text s.names key) (with_text (with_text s.names key) value)
      two = text_more (with_text s.names key) value one.apart

      names : List Text
      names = with_text (with_text s.names key) value

      w : Write
      w = record {
        key = number_of s.names key;
        value = number_of (with_text s.names key) value;
        began = began;
        ended = None;
        end = ends.Open;
      }

      by : (b : Bool) → list_any (same_pair (w.key, w.value)) s.pairs ≡ b
          → Keeps (n + 1) (cond b (Err fault.Value) (cond (is_some s.written) (Err fault.Order)
          (Ok (add_write (with_client (with_name (with_name s key) value) number (client.Writes (length s.writes))) w))))
      by true e = tt
      by false e = if_keeps (n + 1) (is_some s.written) (Err fault.Order) _ (λ so. tt)
          (λ not_so. write_more n names s.writes s.reads s.pairs
          (grown n (omega arith) names two.apart (let a = one.longer in let b = two.longer in omega arith))
          w e here refl
          (let small = number_small s.names key in let up = two.longer in omega arith)
          (number_small (with_text s.names key) value))

  begins_read : (number : ℕ) (key : Text) (node : Option ℕ) (began : Place) → began.line ≡ n
      → IsSoundSoFar (n + 1) (begin_read s number key node began)
  begins_read number key node began here =
      let one = text_more s.names key sound.apart in
      read_more n (with_text s.names key) s.writes s.reads s.pairs
      (grown n (omega arith) (with_text s.names key) one.apart one.longer)
      (record {
        key = number_of s.names key;
        node = node;
        began = began;
        ended = None;
        answer = answer.Unanswered;
        times = 1;
      }) here refl refl (number_small s.names key)

  begins_ask : (number : ℕ) (asked : Ask Text) (began : Place) → began.line ≡ n
      → Keeps (n + 1) (begin_ask known s number asked began)
  begins_ask number (ask.Write key value) began here = begins_write number key value began here
  begins_ask number (ask.Read key node) began here =
      if_keeps (n + 1) (has_asked known node) (Ok (begin_read s number key node began)) (Err fault.Node)
      (λ so. begins_read number key node began here) (λ not_so. tt)

  begins_as : (doing : Client) (number : ℕ) (asked : Ask Text) (began : Place) → began.line ≡ n
      → Keeps (n + 1) (begin_as doing known s number asked began)
  begins_as client.Idle number asked began here = begins_ask number asked began here
  begins_as _ number asked began here = tt

  -- ---- what ends
  ends_write : (number place : ℕ) (key value : Text) (ended : Place) (ending : Outcome Text)
      → ended.line ≡ n
      → Keeps (n + 1) (end_as (client.Writes place) s number (ask.Write key value) ended ending)
  ends_write number place key value ended ending late = by (slice_get s.writes place) refl
    where
      next : Write → State
      next write = with_client (end_write s place write ended ending) number (after ending)

      pending : (write : Write) → Option Write
      pending write = cond (is_write_of s.names key value write) (Some write) None

      held : (write : Write) → slice_get s.writes place ≡ Some write → (b : Bool)
          → Keeps (n + 1) (option_map_or (λ it. Ok (next it)) (cond b (Some write) None) (Err fault.Client))
      held write e true = write_ends n s.names s.writes s.reads s.pairs sound place write
          (record write { ended = Some ended; end = end_of ending }) e refl refl refl ended refl late
      held write e false = tt

      by : (o : Option Write) → slice_get s.writes place ≡ o
          → Keeps (n + 1) (option_map_or (λ it. Ok (next it)) (option_map_or pending o None) (Err fault.Client))
      by None e = tt
      by (Some write) e = held write e (is_write_of s.names key value write)

  -- the texts behind an end, and what it answers
  found_grow : (ending : Outcome Text) → Grows s.names (found_names s.names ending)
  found_grow (outcome.Done (Some text) times) = text_more s.names text sound.apart
  found_grow (outcome.Done None times) = record { apart = sound.apart; longer = omega arith }
  found_grow outcome.Failed = record { apart = sound.apart; longer = omega arith }
  found_grow outcome.Refused = record { apart = sound.apart; longer = omega arith }
  found_grow outcome.Unknown = record { apart = sound.apart; longer = omega arith }

  found_small : (ending : Outcome Text) (v : ℕ) → answer_of s.names ending ≡ answer.Value v
      → v < length (found_names s.names ending)
  found_small (outcome.Done (Some text) times) v e =
      let is : number_of s.names text ≡ v = cc in
      subst (λ k. k < length (with_text s.names text)) is (number_small s.names text)
  found_small (outcome.Done None times) v e = absurd (cc)
  found_small outcome.Failed v e = absurd (cc)
  found_small outcome.Refused v e = absurd (cc)
  found_small outcome.Unknown v e = absurd (cc)

  ends_read : (number place : ℕ) (key : Text) (node : Option ℕ) (ended : Place) (ending : Outcome Text)
      → ended.line ≡ n
      → Keeps (n + 1) (end_as (client.Reads place) s number (ask.Read key node) ended ending)
  ends_read number place key node ended ending late = by (slice_get s.reads place) refl
    where
      next : Read → State
      next read = with_client (end_read s place read ended ending) number (after ending)

      pending : (read : Read) → Option Read
      pending read = cond (is_read_of s.names key node read) (Some read) None

      held : (read : Read) → slice_get s.reads place ≡ Some read → (b : Bool)
          → Keeps (n + 1) (option_map_or (λ it. Ok (next it)) (cond b (Some read) None) (Err fault.Client))
      held read e true =
          let grow = found_grow ending in
          read_ends n s.names s.writes s.reads s.pairs sound (found_names s.names ending) grow.apart
          grow.longer place read (record read {
            ended = Some ended;
            answer = answer_of s.names ending;
            times = times_of ending;
          }) e refl refl ended refl late (found_small ending)
      held read e false = tt

      by : (o : Option Read) → slice_get s.reads place ≡ o
          → Keeps (n + 1) (option_map_or (λ it. Ok (next it)) (option_map_or pending o None) (Err fault.Client))
      by None e = tt
      by (Some read) e = held read e (is_read_of s.names key node read)

  ends_as : (doing : Client) (number : ℕ) (asked : Ask Text) (ended : Place) (ending : Outcome Text)
      → ended.line ≡ n → Keeps (n + 1) (end_as doing s number asked ended ending)
  ends_as (client.Writes place) number (ask.Write key value) ended ending late =
      ends_write number place key value ended ending late
  ends_as (client.Reads place) number (ask.Read key node) ended ending late =
      ends_read number place key node ended ending late
  ends_as (client.Writes place) number (ask.Read key _) ended ending late = tt
  ends_as (client.Reads place) number (ask.Write key value) ended ending late = tt
  ends_as client.Idle number asked ended ending late = tt
  ends_as client.Gone number asked ended ending late = tt

  -- ---- what else happens
  traced : (trace : Found Text) → Grows s.names (traced_names s.names trace)
  traced (found.Has key value) =
      let one = text_more s.names key sound.apart in
      let two = text_more (with_text s.names key) value one.apart in
      record { apart = two.apart; longer = let a = one.longer in let b = two.longer in omega arith }
  traced found.All = record { apart = sound.apart; longer = omega arith }
  traced found.Some = record { apart = sound.apart; longer = omega arith }
  traced (found.Stands key) = text_more s.names key sound.apart
  traced found.NothingElse = record { apart = sound.apart; longer = omega arith }

  takes_event : (place : Place) → place.line ≡ n → (happens : Event Text)
      → Keeps (n + 1) (take_event known s place happens)
  takes_event place here (event.Begins number asked) =
      begins_as (client_at s number) number asked place here
  takes_event place here (event.Ends number asked ending) =
      ends_as (client_at s number) number asked place ending here
  takes_event place here (event.Entry entry does) =
      if_keeps (n + 1) (is_behind (last_of s.entries) entry && nat_lt entry known.entries) _ (Err fault.Entry)
      (λ so. same) (λ not_so. tt)
  takes_event place here event.Written =
      if_keeps (n + 1) (is_some s.written) (Err fault.Order) _ (λ so. tt) (λ not_so. same)
  takes_event place here (event.Disk node trace) =
      if_keeps (n + 1) (is_some s.written) _ (Err fault.Order)
      (λ so. if_keeps (n + 1) (nat_lt node known.processes) _ (Err fault.Node)
      (λ there. let grow = traced trace in
      grown (n + 1) (omega arith) (traced_names s.names trace) grow.apart grow.longer)
      (λ none. tt))
      (λ not_so. tt)

  ends_up : (nanos : ℕ) (r : Result State HistoryFault) → Keeps (n + 1) r
      → IfOk (up_to (n + 1) nanos r) (λ now. IsSoundSoFar now.lines now)
  ends_up nanos (Ok now) keeps = keeps
  ends_up nanos (Err why) keeps = tt

  takes : (line : Line Text) → IfOk (take known s line) (λ now. IsSoundSoFar now.lines now)
  takes line = by (nat_eq line.index s.lines) (nat_lt line.nanos s.nanos)
    where
      r : Result State HistoryFault
      r = up_to (n + 1) line.nanos (take_event known s (place_at s line.nanos) line.event)

      by : (b c : Bool) → IfOk (cond b (cond c (Err fault.Time) r) (Err fault.Index)) (λ now. IsSoundSoFar now.lines now)
      by false c = tt
      by true true = tt
      by true false = ends_up line.nanos (take_event known s (place_at s line.nanos) line.event)
          (takes_event (place_at s line.nanos) refl line.event)

  tells : (o : Option (Line Text))
      → IfOk (option_map_or (take known s) o (Err fault.Syntax)) (λ now. IsSoundSoFar now.lines now)
  tells None = tt
  tells (Some line) = takes line

  of_line : (line : List ℕ) (r : Result State HistoryFault) → LineOf known s line r
      → IfOk r (λ now. IsSoundSoFar now.lines now)
  of_line line _ (json value reads) = tells (line_of value)
  of_line line _ (no_json not) = tt

-- what lines that were taken keep
pub lines_are_sound : (known : Known) (lines : List (List ℕ)) (s : State) → AreLines known lines s
    → IsSoundSoFar s.lines s
lines_are_sound known _ _ none = sound_at_first
lines_are_sound known _ _ (one_more lines s now line before short few is) =
    of_line known s (lines_are_sound known lines s before) line (Ok now) is

-- what a history that was read keeps
pub read_is_sound : ReadIsSound
read_is_sound known bytes history read =
    of_state (subst (λ names. SoFar s.lines names history.writes.items history.reads.items s.pairs) (sym read.says.names)
    (subst (λ writes. SoFar s.lines s.names writes history.reads.items s.pairs) (sym read.says.writes)
    (subst (λ reads. SoFar s.lines s.names s.writes reads s.pairs) (sym read.says.reads)
    (lines_are_sound known (lines_of bytes) s read.lines))))
  where
    s : State
    s = read.s

    of_state : SoFar read.s.lines history.names history.writes.items history.reads.items read.s.pairs
        → IsSound history
    of_state kept = record {
      apart = kept.apart;
      each_write = λ w among. let it = kept.each_write w among in
          record { ends = it.ends; key = it.key; value = it.value };
      each_read = λ r among. let it = kept.each_read r among in
          record { ends = it.ends; key = it.key; value = it.value };
      writes_rise = kept.writes_rise;
      reads_rise = kept.reads_rise;
      elsewhere = kept.elsewhere;
      once = kept.once;
    }
