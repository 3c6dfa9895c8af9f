use Rattle.std.proofs.Common.{◌≡◌, ℕ, ◌<◌, false, get_or}
use Rattle.fy_holders.specs.Beyond.{is_beyond}
use Rattle.fy_holders.specs.declared.beyond.Note.{Note}
use Rattle.fy_holders.proofs.outages.Outages.first_beyond.Given as goal

-- none of the notes so far is beyond
abbrev pub invariant-loop-note : goal.invariant-loop-note
invariant-loop-note l = (k : ℕ) (d : Note) → k < l.note-index → is_beyond l.self.journal (get_or l.notes k d) ≡ false
