-- acts that are answered one after another, and the entries that they make
use Rattle.std.proofs.Common.{arith, true, false, ◌&&◌, nat_le, ◌≡◌, ◌∙◌, ◌≤◌, ◌+◌, ℕ, List, [], ◌∷◌, ◌++◌, map, length, refl, sym, ap, subst, suc, append_assoc, append-nil, length-append}
use Rattle.std.proofs.lemmas.List.{flat_map_more, length-map, map-append}
use Rattle.std.proofs.Math.Nat.{min-eq_left}
use Rattle.std.proofs.lemmas.Bool.{and_parts}
use Rattle.std.proofs.lemmas.Bool.Decides.{nat_tests}
use Rattle.fy_acts.specs.declared.entry.Entry.{Entry}
use Rattle.fy_spelling.specs.declared.command.Command.{Command}
use Rattle.fy_acts.specs.declared.version.Version.TheVariants.{Second}
use Rattle.fy_audit.specs.AuditText.{header, entry_line}
use Rattle.fy_audit.specs.Script.{AreCommands}
use Rattle.fy_cluster.specs.Setup.{Setup, is_between, is_in_range}
use Rattle.fy_cluster.specs.Replies.{Legal}
use Rattle.fy_cluster.specs.Survival.{by_and_act}
use Rattle.fy_cluster.specs.Execution.{Execution, opened, next_entry}
use Rattle.fy_run.specs.RunTexts.{asked, lines_of_entries}
use Rattle.fy_answers.specs.Answers.{IsAnswered}
use Rattle.fy_guard.specs.GuardTexts.{Answered, AnsweredFrom, room_in}
use Rattle.fy_guard.specs.AskedTexts.{AreAnswers, number_behind}
use Rattle.fy_guard.proofs.Behind.{commands_behind}

-- each line is a command, and the text are the lines of the entries of their acts, by which a legal
-- journal has grown
pub record HasMade (from now : Execution) (lines : List (List ℕ)) (text : List ℕ) : Type 0 where
  pub commands : List Command
  pub each : AreCommands lines commands
  pub made : List Entry
  pub same : now.setup ≡ from.setup
  pub grown : now.journal ≡ from.journal ++ made
  pub legal : Legal now.setup now.journal
  pub acts : map by_and_act made ≡ map asked commands
  pub written : text ≡ lines_of_entries made

-- one act more is answered
one_made : (from mid new : Execution) (lines : List (List ℕ)) (text line answer : List ℕ) →
    HasMade from mid lines text → IsAnswered mid new line answer →
    HasMade from new (lines ++ line ∷ []) (text ++ answer)
one_made from mid new lines text line answer has it =
    let command = it.command in
    let entry : Entry = next_entry mid command.by command.act in
    let made = it.entered.made in
    record {
      commands = has.commands ++ command ∷ [];
      each = commands_behind lines (line ∷ []) has.commands (command ∷ []) has.each (it.asked, tt);
      made = has.made ++ entry ∷ [];
      same = ap (λ (c : Execution). c.setup) made.entered ∙ has.same;
      grown = ap (λ (c : Execution). c.journal) made.entered
          ∙ ap (λ l. l ++ entry ∷ []) has.grown
          ∙ append_assoc from.journal has.made (entry ∷ []);
      legal = made.survives.legal;
      acts = map-append by_and_act has.made (entry ∷ [])
          ∙ ap (λ l. l ++ asked command ∷ []) has.acts
          ∙ sym (map-append asked has.commands (command ∷ []));
      written = ap (λ t. t ++ answer) has.written
          ∙ ap (λ l. lines_of_entries has.made ++ l) it.entered.text_is
          ∙ flat_map_more entry_line [] has.made entry;
    }

pub has_made : (from : Execution) → Legal from.setup from.journal → {now : Execution}
    {lines : List (List ℕ)} {text : List ℕ} → AreAnswers false from now lines text →
    HasMade from now lines text
has_made from legal AreAnswers.nothing = record {
  commands = [];
  each = tt;
  made = [];
  same = refl;
  grown = sym (append-nil from.journal);
  legal = legal;
  acts = refl;
  written = refl;
}
has_made from legal (AreAnswers.more {mid} {new} {lines} {text} line answer before it) =
    one_made from mid new lines text line answer (has_made from legal before) it

-- so it is what a guard answers that takes no questions
pub answered_from : {from now : Execution} {lines : List (List ℕ)} {text : List ℕ} →
    HasMade from now lines text → AnsweredFrom from lines text
answered_from {from} {now} {lines} {text} has = record {
  commands = has.commands;
  each = has.each;
  made = has.made;
  legal = subst (Legal from.setup) has.grown (subst (λ s. Legal s now.journal) has.same has.legal);
  acts = has.acts;
  written = has.written;
}

-- and on a new cluster, behind the header, it is an audit
pub audited : (setup : Setup) (lines : List (List ℕ)) (text : List ℕ) →
    AnsweredFrom (opened setup) lines text → Answered setup lines (header Second ++ text)
audited setup lines text answered = record {
  commands = answered.commands;
  each = answered.each;
  audit = record {
    journal = answered.made;
    legal = answered.legal;
    acts = answered.acts;
    written = ap (λ l. header Second ++ l) answered.written;
  };
}

-- ---- how many they are

-- a journal has at most 2^20 entries
pub limit_is_small : (setup : Setup) → is_in_range setup ≡ true → setup.limit ≤ 1048576
limit_is_small setup range =
    let between : (nat_le 1 setup.limit && nat_le setup.limit 1048576) ≡ true =
    (and_parts _ (is_between 1 1048576 setup.limit) range).1 in
    let most : nat_le setup.limit 1048576 ≡ true =
    (and_parts (nat_le 1 setup.limit) (nat_le setup.limit 1048576) between).1 in
    grind (arith, nat_tests)

as_many : (lines : List (List ℕ)) (commands : List Command) → AreCommands lines commands →
    length lines ≡ length commands
as_many [] [] each = refl
as_many [] (c ∷ cs) each = absurd each
as_many (l ∷ ls) [] each = absurd each
as_many (l ∷ ls) (c ∷ cs) each = ap suc (as_many ls cs each.1)

-- the journal has grown by an entry for each line
pub longer_by : {from now : Execution} {lines : List (List ℕ)} {text : List ℕ} →
    HasMade from now lines text → length now.journal ≡ length from.journal + length lines
longer_by {from} {now} {lines} {text} has =
    ap length has.grown ∙ length-append from.journal has.made
    ∙ ap (λ n. length from.journal + n) (sym (length-map has.made by_and_act)
    ∙ ap length has.acts ∙ length-map has.commands asked
    ∙ sym (as_many lines has.commands has.each))

-- so numbers don't end before the journal is full
pub next_number : {from now : Execution} {lines : List (List ℕ)} {text : List ℕ} →
    HasMade from now lines text → from.setup.limit ≤ 1048576 →
    number_behind (length lines) ≡ length lines + 1
next_number {from} {now} {lines} {text} has small =
    let longer = longer_by has in
    let within : length now.journal ≤ from.setup.limit =
    subst (λ (s : Setup). length now.journal ≤ s.limit) has.same has.legal.0 in
    min-eq_left (omega arith)

-- where the journal is full, there are as many as it had room for
pub no_room : {from now : Execution} {lines : List (List ℕ)} {text : List ℕ} →
    HasMade from now lines text → now.setup.limit ≤ length now.journal →
    room_in from ≤ length lines
no_room {from} {now} {lines} {text} has full =
    let limit : from.setup.limit ≤ length now.journal =
    subst (λ (s : Setup). s.limit ≤ length now.journal) has.same full in
    let longer = longer_by has in
    omega arith
