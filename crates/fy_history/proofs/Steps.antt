-- the steps of a history's lines, put together
use Rattle.std.proofs.Common.{◌≡◌, ◌∙◌, ◌≤◌, ◌<◌, ◌+◌, ℕ, Bool, true, false, List, Result, Ok, Err, None, refl, sym, ap, subst, cond, nat_eq, nat_lt, arith, eqb-true, eq-eqb, ltb-true}
use Rattle.fy_history.specs.Names.{number_of, with_text}
use Rattle.fy_history.specs.Progress.{State, Text, with_name, begin_with, begin_write, place_at, up_to, take_event, take, Takes}
use Rattle.fy_history.specs.declared.fault.NotTaken.{NotTaken}
use Rattle.fy_history.specs.declared.fault.HistoryFault.{HistoryFault}
use Rattle.fy_history.specs.declared.fault.HistoryFault.TheVariants as fault
use Rattle.fy_history.specs.declared.history.Place.{Place}
use Rattle.fy_history.specs.declared.history.Write.{Write}
use Rattle.fy_history.specs.declared.history.End.TheVariants.{Open}
use Rattle.fy_history.specs.declared.line.Line.{Line}
use Rattle.fy_history.specs.declared.progress.Known.{Known}

-- a write that begins, of these numbers
begun : (key value : ℕ) → Place → Write
begun key value began = record {
  key = key;
  value = value;
  began = began;
  ended = None;
  end = Open;
}

-- a write that begins once its texts have numbers
pub begins : (s one two now : State) (number : ℕ) (key value : Text) (began : Place) (k v : ℕ)
    (done : Result (Unit {0}) NotTaken) → k ≡ number_of s.names key → one ≡ with_name s key
    → v ≡ number_of one.names value → two ≡ with_name one value
    → Takes (begin_with two number (record {
      key = k;
      value = v;
      began = began;
      ended = None;
      end = Open;
    })) now done
    → Takes (begin_write s number key value began) now done
begins s one two now number key value began k v done ek e1 ev e2 took =
    subst (λ (n : ℕ). Takes (begin_with (with_name (with_name s key) value) number (record {
      key = n;
      value = number_of (with_text s.names key) value;
      began = began;
      ended = None;
      end = Open;
    })) now done) ek
    (subst (λ (n : ℕ). Takes (begin_with (with_name (with_name s key) value) number (record {
      key = k;
      value = n;
      began = began;
      ended = None;
      end = Open;
    })) now done)
    (ev ∙ ap (λ (t : State). number_of t.names value) e1)
    (subst (λ (t : State). Takes (begin_with t number (record {
      key = k;
      value = v;
      began = began;
      ended = None;
      end = Open;
    })) now done)
    (e2 ∙ ap (λ (t : State). with_name t value) e1) took))

-- a line that is taken: its index and its time are right, and what it says is taken
pub takes : (known : Known) (s now : State) (line : Line Text) → line.index ≡ s.lines
    → s.nanos ≤ line.nanos → take_event known s (place_at s line.nanos) line.event ≡ Ok now
    → take known s line ≡ Ok (record now { lines = s.lines + 1; nanos = line.nanos })
takes known s now line index time took =
    by (nat_eq line.index s.lines) refl (nat_lt line.nanos s.nanos) refl
  where
    by : (a : Bool) → nat_eq line.index s.lines ≡ a → (b : Bool) → nat_lt line.nanos s.nanos ≡ b
        → cond a (cond b (Err fault.Time) (up_to (s.lines + 1) line.nanos
        (take_event known s (place_at s line.nanos) line.event))) (Err fault.Index)
        ≡ Ok (record now { lines = s.lines + 1; nanos = line.nanos })
    by true e false f = ap (up_to (s.lines + 1) line.nanos) took
    by true e true f = absurd (omega (arith, ltb-true _ _ f))
    by false e b f = absurd (cc (eq-eqb line.index s.lines index))
