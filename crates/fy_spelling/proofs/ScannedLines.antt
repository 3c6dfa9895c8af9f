-- what a line in its plain spelling tells
use Rattle.std.proofs.Common.{◌≡◌, ◌∙◌, ◌++◌, ℕ, List, false, append_assoc, refl, sym, subst, codes, decimal}
use Rattle.fy_locality.specs.declared.ProcId.{ProcId}
use Rattle.fy_spelling.specs.Fits.{IsU32, FitsAct, FitsReply}
use Rattle.fy_spelling.specs.Pieces.{one_text, processes_text, form_text, asked_text, entry_pieces, NeedsNoEscape}
use Rattle.fy_spelling.specs.Command.{ParsesAs}
use Rattle.fy_spelling.specs.EntryLine.{IsTextOf}
use Rattle.fy_spelling.specs.declared.command.Command.{Command}
use Rattle.fy_acts.specs.declared.entry.Entry.{Entry}
use Rattle.fy_acts.specs.declared.act.Act.{Act}
use Rattle.fy_acts.specs.declared.act.Act.TheVariants.{Kill, Clog, Unclog, Form, Begin, Deliver, Lose, Resend, Sync, Up, Tick, Give, Take, Protect, Unprotect, CopyTo, Replace, Heal}
use Rattle.fy_spelling.proofs.Plain.{plain_spells}
use Rattle.fy_spelling.proofs.Same.{command_same, entry_same}

-- nothing in an act that fits needs an escape
bare : (a : Act) → FitsAct a → NeedsNoEscape a
bare (Kill order) h = h.0
bare (Clog target ticks) h = h.0
bare (Unclog target) h = h
bare (Form members policy) h = tt
bare (Begin team payload) h = h.1
bare (Deliver message) h = tt
bare (Lose message) h = tt
bare (Resend rec process) h = tt
bare (Sync process) h = tt
bare (Up process) h = tt
bare (Tick ticks) h = tt
bare (Give grant) h = h.1
bare (Take actor index) h = tt
bare (Protect process kinds) h = tt
bare (Unprotect process kinds) h = tt
bare (CopyTo from rec to) h = tt
bare (Replace team out into) h = tt
bare (Heal process) h = tt

pub spelled_plainly :
    (line : List ℕ) (command : Command) → IsU32 command.by → FitsAct command.act
    → line ≡ asked_text command → ParsesAs line command
spelled_plainly line command by act is =
    subst (λ text. ParsesAs text command) (sym (is ∙ command_same command (bare command.act act)))
    (plain_spells command by act)

pub told_plainly :
    (line : List ℕ) (entry : Entry) → IsU32 entry.at → IsU32 entry.by → FitsAct entry.act
    → FitsReply entry.reply → line ≡ entry_pieces entry → IsTextOf line entry
told_plainly line entry at by act reply is = record {
  text = is ∙ entry_same entry (bare entry.act act);
  fits = record { act = act; at = at; by = by; reply = reply };
}

-- a command, part by part
pub command_parts :
    (line by rest act more after : List ℕ) → line ≡ codes "{\"by\":" ++ (by ++ rest)
    → rest ≡ codes ",\"act\":" ++ more → more ≡ act ++ after → after ≡ codes "}"
    → line ≡ codes "{\"by\":" ++ (by ++ (codes ",\"act\":" ++ (act ++ codes "}")))
command_parts line by rest act more after is rest_is more_is after_is =
    rw (is, rest_is, more_is, after_is) refl

-- an entry, part by part
pub entry_parts :
    (line r0 act r1 at r2 by r3 reply : List ℕ) → line ≡ codes "{\"act\":" ++ r0
    → r0 ≡ act ++ r1 → r1 ≡ codes ",\"at\":" ++ (at ++ r2) → r2 ≡ codes ",\"by\":" ++ (by ++ r3)
    → r3 ≡ reply
    → line
    ≡ (codes "{\"act\":" ++ (act ++ (codes ",\"at\":" ++ (at ++ (codes ",\"by\":" ++ by))))) ++ reply
entry_parts line r0 act r1 at r2 by r3 reply is act_is at_is by_is reply_is =
    rw (is, act_is, at_is, by_is, reply_is) (simp append_assoc)

form_shape : (head list text number after : List ℕ)
    → head ++ (list ++ ((text ++ (number ++ codes "}}")) ++ after))
    ≡ (head ++ (list ++ (text ++ (number ++ codes "}}")))) ++ after
form_shape head list text number after = simp append_assoc

-- the form of a team, part by part
pub form_parts :
    (line r0 r1 after : List ℕ) (found members : List ProcId) (policy : ℕ)
    → line ≡ codes "{\"form\":{\"members\":[" ++ r0 → r0 ≡ processes_text false found ++ r1
    → r1 ≡ one_text (codes "],\"policy\":") policy ++ after → members ≡ found
    → line ≡ form_text members policy ++ after
form_parts line r0 r1 after found members policy is found_is policy_is same =
    rw (is, found_is, policy_is, same)
    (form_shape (codes "{\"form\":{\"members\":[") (processes_text false found)
    (codes "],\"policy\":") (decimal policy) after)
