use Rattle.std.proofs.Common.{◌∷◌, ◌++◌, ◌∙◌, Err, sym, ap, subst}
use Rattle.std.proofs.lemmas.Bool.{false≢true}
use Rattle.fy_lines.specs.Lines.{lines_of}
use Rattle.fy_lines.proofs.SplitLemmas.{lines_of_ended}
use Rattle.fy_spelling.specs.EntryLine.{EntryAnswers}
use Rattle.fy_acts.specs.declared.entry.Entry.{Entry}
use Rattle.fy_spelling.specs.declared.entry_line.EntryFault.TheVariants.{Syntax}
use Rattle.fy_audit.specs.Versions.{has_entry}
use Rattle.fy_audit.proofs.Steps.{no_entry}
use Rattle.fy_audit.proofs.reader.read_entry_at.Goals as goal
use Rattle.fy_audit.proofs.reader.read_entry_at.Goals.{else-entry-place-via-then-entry-place+else-has_entry, else-entry-place-via-else-entry-place}

pub returns-else-entry-place-clause-none : goal.returns-else-entry-place-clause-none
returns-else-entry-place-clause-none c _ after =
    let line = c.args.line.now in
    no_entry c.a_text_is_a_line.ensures c.args.version c.args.place (line ++ 10 ∷ after) line (lines_of after)
    (lines_of_ended line after c.requires.whole) c.requires.short (λ e may same longer.
    let one = c.a_text_is_of_one_entry.ensures c.in-Ok.entry e c.in-Ok.ensures.fits may.fits
    (sym c.in-Ok.ensures.text ∙ same) in
    elim c.else-entry-place.branch [
      | else-entry-place-via-then-entry-place+else-has_entry w ↦
          false≢true (sym w.if-has_entry.false ∙ w.has_entry.ensures ∙ ap (has_entry c.args.version) one ∙ may.known)
      | else-entry-place-via-else-entry-place w ↦
          w.if-entry-place.false (ap (λ (x : Entry). x.at) one ∙ may.at)
    ])

pub returns-in-Err-clause-none : goal.returns-in-Err-clause-none
returns-in-Err-clause-none c is after =
    let line = c.args.line.now in
    let none : EntryAnswers line (Err Syntax) = subst (EntryAnswers line) is c.in-Err.ensures in
    no_entry c.a_text_is_a_line.ensures c.args.version c.args.place (line ++ 10 ∷ after) line (lines_of after)
    (lines_of_ended line after c.requires.whole) c.requires.short
    (λ e may same longer. none e (record { text = same; fits = may.fits }))
