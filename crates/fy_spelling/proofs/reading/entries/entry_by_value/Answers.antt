use Rattle.std.proofs.Common.{ℕ, ◌≡◌, ◌∙◌, ap, Some, None, Ok, Err, sym, subst}
use Rattle.serde_json.specs.View.{view}
use Rattle.fy_spelling.specs.Candidate.{IsCheckedAct}
use Rattle.fy_spelling.specs.Replied.{entry_from}
use Rattle.fy_spelling.specs.Values.{entry_data}
use Rattle.fy_spelling.specs.declared.reading.UncheckedAct.{UncheckedAct}
use Rattle.fy_acts.specs.declared.reply.Reply.{Reply}
use Rattle.fy_spelling.proofs.Again.{found_as}
use Rattle.fy_spelling.proofs.EntryLines.{json_of, found_in, same_parts_found}
use Rattle.fy_spelling.proofs.Replied.{checked_act-again, none-above}
use Rattle.fy_spelling.proofs.reading.entries.entry_by_value.Goals as goal

pub returns-in_default : goal.returns-in_default
returns-in_default c entry is =
    absurd ((rw c.in_default.is at c.in_ok-value.ensures.none) (entry_data entry)
    (json_of c.args.line.now entry is))

pub returns-in_default-2 : goal.returns-in_default-2
returns-in_default-2 c entry is =
    let json = rw c.in-Some.is at c.in_ok-value.ensures.found in
    let found = found_in c.args.line.now (view c.in-Some.value) entry json is in
    let none : None ≡ entry_from (view c.in-Some.value) = sym c.in_default-2.is ∙ c.in_ok-asked.ensures in
    absurd (let no : ⊥ = cc in no)

pub returns-in-Ok : goal.returns-in-Ok
returns-in-Ok c entry is =
    let json = rw c.in-Some.is at c.in_ok-value.ensures.found in
    let parts : UncheckedAct × ℕ × ℕ × Reply = (c.in-Some-2.asked, c.in-Some-2.at, c.in-Some-2.by, c.in-Some-2.reply) in
    let found = found_in c.args.line.now (view c.in-Some.value) entry json is in
    let told : Some parts ≡ entry_from (view c.in-Some.value) = sym c.in-Some-2.is ∙ c.in_ok-asked.ensures in
    let same = same_parts_found parts (found_as entry.act, entry.at, entry.by, entry.reply) (told ∙ found) in
    let checked_act = checked_act-again entry.act c.in-Ok.act
    (subst (λ asked. IsCheckedAct asked (Ok c.in-Ok.act)) (ap (λ p. p.0) same) c.in-Ok.ensures) in
    λ i. record { at = (same i).1; by = (same i).2; act = checked_act i; reply = (same i).3 }

pub returns : goal.returns
returns c entry is =
    let json = rw c.in-Some.is at c.in_ok-value.ensures.found in
    let parts : UncheckedAct × ℕ × ℕ × Reply = (c.in-Some-2.asked, c.in-Some-2.at, c.in-Some-2.by, c.in-Some-2.reply) in
    let found = found_in c.args.line.now (view c.in-Some.value) entry json is in
    let told : Some parts ≡ entry_from (view c.in-Some.value) = sym c.in-Some-2.is ∙ c.in_ok-asked.ensures in
    let same = same_parts_found parts (found_as entry.act, entry.at, entry.by, entry.reply) (told ∙ found) in
    absurd (none-above entry.act c.in-Err.field-0
    (subst (λ asked. IsCheckedAct asked (Err c.in-Err.field-0)) (ap (λ p. p.0) same) c.in-Err.ensures))
