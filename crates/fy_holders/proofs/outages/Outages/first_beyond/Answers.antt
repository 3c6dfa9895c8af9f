use Rattle.std.proofs.Common.{◌∙◌, sym, ap, arith}
use Rattle.std.specs.Prelude.{option_map}
use Rattle.fy_holders.specs.Beyond.{is_beyond}
use Rattle.fy_holders.specs.declared.beyond.Note.{Note}
use Rattle.fy_holders.proofs.Finding.{first_from, none_from, none_more}
use Rattle.fy_holders.proofs.outages.Outages.first_beyond.Goals as goal

pub loop-note-preserved : goal.loop-note-preserved
loop-note-preserved c = none_more (is_beyond c.args.self.now.journal) c.args.notes.now c.loop-note.note-index _ c.loop-note-test.true c.loop-note.invariant (sym c.is_beyond.ensures ∙ c.if-is_beyond.false)

pub returns-then-is_beyond : goal.returns-then-is_beyond
returns-then-is_beyond c = sym (ap (option_map (λ (note : Note). note.entry)) (first_from (is_beyond c.args.self.now.journal) c.args.notes.now c.loop-note.note-index _ c.loop-note-test.true c.loop-note.invariant (sym c.is_beyond.ensures ∙ c.if-is_beyond.true)))

pub returns : goal.returns
returns c = sym (ap (option_map (λ (note : Note). note.entry)) (none_from (is_beyond c.args.self.now.journal) c.args.notes.now c.loop-note.note-index (omega arith) c.loop-note.invariant))
