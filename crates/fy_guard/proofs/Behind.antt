-- what stands behind an audit
use Rattle.std.proofs.Common.{◌≡◌, ◌∙◌, ℕ, List, [], ◌∷◌, ◌++◌, map, sym, ap, subst, append_assoc}
use Rattle.std.specs.List.{flat_map}
use Rattle.std.proofs.lemmas.List.{map-append}
use Rattle.std.proofs.lemmas.Grind.{flat_map-append}
use Rattle.fy_acts.specs.declared.entry.Entry.{Entry}
use Rattle.fy_audit.specs.AuditText.{header, entry_line, audit_text}
use Rattle.fy_audit.specs.Script.{AreCommands}
use Rattle.fy_cluster.specs.Replies.{Legal}
use Rattle.fy_cluster.specs.Survival.{by_and_act}
use Rattle.fy_guard.specs.AfterTexts.{OneAudit, OneGuard}
use Rattle.fy_acts.specs.declared.version.Version.TheVariants.{Second}
use Rattle.fy_run.specs.RunTexts.{asked}
use Rattle.fy_spelling.specs.declared.command.Command.{Command}

pub commands_behind : (first later : List (List ℕ)) (commands more : List Command) →
    AreCommands first commands → AreCommands later more →
    AreCommands (first ++ later) (commands ++ more)
commands_behind [] later [] more each rest = rest
commands_behind [] later (c ∷ cs) more each rest = absurd each
commands_behind (l ∷ ls) later [] more each rest = absurd each
commands_behind (l ∷ ls) later (c ∷ cs) more each rest =
    (each.0, commands_behind ls later cs more each.1 rest)

-- the audit and the text behind it are the audit of both journals
text_behind : (audit text : List ℕ) (before made : List Entry) → audit ≡ audit_text Second before →
    text ≡ flat_map entry_line made → audit ++ text ≡ audit_text Second (before ++ made)
text_behind audit text before made was written =
    ap (λ l. l ++ text) was
    ∙ ap (λ l. audit_text Second before ++ l) written
    ∙ append_assoc (header Second) (flat_map entry_line before) (flat_map entry_line made)
    ∙ ap (λ l. header Second ++ l) (sym (flat_map-append entry_line before made))

pub one_audit : OneAudit
one_audit setup audit from lines text is answered = record {
  before = from.journal;
  commands = answered.commands;
  journal = from.journal ++ answered.made;
  was = is.read.1;
  each = answered.each;
  legal = subst (λ s. Legal s (from.journal ++ answered.made)) is.setup_is answered.legal;
  acts = map-append by_and_act from.journal answered.made
      ∙ ap (λ l. map by_and_act from.journal ++ l) answered.acts;
  written = text_behind audit text from.journal answered.made is.read.1 answered.written;
}

pub one_guard : OneGuard
one_guard setup audit from first later commands text is are same answered = record {
  commands = commands ++ answered.commands;
  each = commands_behind first later commands answered.commands are answered.each;
  audit = record {
    journal = from.journal ++ answered.made;
    legal = subst (λ s. Legal s (from.journal ++ answered.made)) is.setup_is answered.legal;
    acts = map-append by_and_act from.journal answered.made
        ∙ ap (λ l. l ++ map by_and_act answered.made) same
        ∙ ap (λ l. map asked commands ++ l) answered.acts
        ∙ sym (map-append asked commands answered.commands);
    written = text_behind audit text from.journal answered.made is.read.1 answered.written;
  };
}
