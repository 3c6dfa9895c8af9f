-- what is entered for a list of acts
use Rattle.std.proofs.Common.{arith, suc, ◌≡◌, ◌∙◌, ◌≤◌, ℕ, ◌+◌, List, [], ◌∷◌, ◌++◌, map, length, refl, sym, ap, append_assoc, append-nil, length-append, subst}
use Rattle.std.proofs.lemmas.List.{map-append}
use Rattle.fy_acts.specs.declared.act.Act.{Act}
use Rattle.fy_cluster.specs.Execution.{Execution, next_entry, entered, after_acts}
use Rattle.fy_cluster.specs.Survival.{by_and_act, NextLegal}
use Rattle.fy_cluster.specs.Execution.{opened}
use Rattle.fy_cluster.specs.Setup.{Setup}
use Rattle.fy_cluster.specs.Replies.{MayFollow, Legal}
use Rattle.fy_spelling.specs.declared.command.Command.{Command}
use Rattle.fy_audit.specs.AuditText.{audit_text}
use Rattle.fy_audit.specs.Script.{ScriptOf}
use Rattle.fy_acts.specs.declared.version.Version.TheVariants.{Second}
use Rattle.std.specs.Prelude.{◌≢◌, ◌<◌, Option, Some, None, IfSome, Ok, Err}
use Rattle.fy_run.specs.RunTexts.{asked, made_by, IsAuditOf, Runs, IfScriptFault, IfRunRefusal, HasAudit}
use Rattle.fy_streams.specs.declared.stop.Stop.{Stop}
use Rattle.fy_streams.specs.declared.stop.Stop.TheVariants.{JudgeTooLong, JudgeLine, Config, Script, JournalFull, Audit, Events, SwarmClose, Read, Write, NoMemory}

entered_acts : (execution : Execution) (by : ℕ) (act : Act) →
    map by_and_act (entered execution by act).journal
    ≡ map by_and_act execution.journal ++ (by, act) ∷ []
entered_acts execution by act = map-append by_and_act execution.journal _

-- the acts of the journal are those of before and then the new ones
pub acts_after : (execution : Execution) (acts : List (ℕ × Act)) →
    map by_and_act (after_acts execution acts).journal ≡ map by_and_act execution.journal ++ acts
acts_after execution [] = sym (append-nil (map by_and_act execution.journal))
acts_after execution (a ∷ acts) =
    acts_after (entered execution a.0 a.1) acts
    ∙ ap (λ l. l ++ acts) (entered_acts execution a.0 a.1)
    ∙ append_assoc (map by_and_act execution.journal) ((a.0, a.1) ∷ []) acts

-- the setup stays
pub setup_after : (execution : Execution) (acts : List (ℕ × Act)) →
    (after_acts execution acts).setup ≡ execution.setup
setup_after execution [] = refl
setup_after execution (a ∷ acts) = setup_after (entered execution a.0 a.1) acts

-- one act more makes the journal one entry longer
pub one_longer : (execution : Execution) (by : ℕ) (act : Act) →
    length (entered execution by act).journal ≡ length execution.journal + 1
one_longer execution by act = length-append execution.journal _

-- the journal of a cluster to which the commands were applied is audited
pub audit_of : (setup : Setup) (commands : List Command) (execution : Execution) →
    execution ≡ after_acts (opened setup) (map asked commands) →
    Legal execution.setup execution.journal →
    IsAuditOf setup commands (audit_text Second execution.journal)
audit_of setup commands execution is legal =
    let same : execution.setup ≡ setup =
    ap (λ (c : Execution). c.setup) is ∙ setup_after (opened setup) (map asked commands) in
    record {
      journal = execution.journal;
      legal = subst (λ s. Legal s execution.journal) same legal;
      acts = ap (λ (c : Execution). map by_and_act c.journal) is
          ∙ acts_after (opened setup) (map asked commands);
      written = refl;
    }

-- the bytes of a script that was read have that audit
has_audit : (setup : Setup) (known : Option (List ℕ)) (commands : List Command)
    (text : List ℕ) (P : List ℕ → Type 0) →
    IfSome known (λ bytes. ScriptOf bytes (Ok commands)) → IsAuditOf setup commands text →
    P text → HasAudit setup known P
has_audit setup None commands text P script audit holds = tt
has_audit setup (Some bytes) commands text P script audit holds =
    (text, Runs.ran commands text script audit, holds)

-- a script that is refused
pub is_refused : (setup : Setup) (known : Option (List ℕ)) (stop : Stop) →
    IfScriptFault stop (λ fault. IfSome known (λ bytes. ScriptOf bytes (Err fault))) →
    stop ≢ JournalFull → IfRunRefusal stop (IfSome known (λ bytes. Runs setup bytes (Err stop)))
is_refused setup None (Script fault) faulty other = tt
is_refused setup (Some bytes) (Script fault) faulty other = Runs.refused fault faulty
is_refused setup known JournalFull faulty other = absurd (other refl)
is_refused setup known JudgeTooLong faulty other = tt
is_refused setup known (JudgeLine line fault) faulty other = tt
is_refused setup known (Config fault) faulty other = tt
is_refused setup known (Audit fault) faulty other = tt
is_refused setup known (Events fault) faulty other = tt
is_refused setup known SwarmClose faulty other = tt
is_refused setup known Read faulty other = tt
is_refused setup known Write faulty other = tt
is_refused setup known NoMemory faulty other = tt

-- a script of more lines than the journal may have entries
pub is_full : (setup : Setup) (known : Option (List ℕ)) (commands : List Command) →
    IfSome known (λ bytes. ScriptOf bytes (Ok commands)) → setup.limit < length commands →
    IfSome known (λ bytes. Runs setup bytes (Err JournalFull))
is_full setup None commands script more = tt
is_full setup (Some bytes) commands script more = Runs.journal_full commands script more

-- the journal is that of before, and behind it the entries that the acts make
pub journal_after : (execution : Execution) (acts : List (ℕ × Act)) →
    (after_acts execution acts).journal ≡ execution.journal ++ made_by execution acts
journal_after execution [] = sym (append-nil execution.journal)
journal_after execution (a ∷ acts) =
    journal_after (entered execution a.0 a.1) acts
    ∙ append_assoc execution.journal (next_entry execution a.0 a.1 ∷ [])
    (made_by (entered execution a.0 a.1) acts)

-- a legal journal that has room for the acts is legal once they are entered
legal_after : NextLegal → (execution : Execution) (acts : List (ℕ × Act)) →
    Legal execution.setup execution.journal →
    length execution.journal + length acts ≤ execution.setup.limit →
    Legal execution.setup (after_acts execution acts).journal
legal_after next execution [] legal room = legal
legal_after next execution (a ∷ acts) legal room =
    let longer = one_longer execution a.0 a.1 in
    let follows : MayFollow execution.setup execution.journal (next_entry execution a.0 a.1) =
    record { room = omega (arith, room); place = refl; right = refl } in
    legal_after next (entered execution a.0 a.1) acts
    ((next execution.setup execution.journal (next_entry execution a.0 a.1) legal).1 follows)
    (omega (arith, longer, room))

mapped : {A B : Type 0} (f : A → B) (xs : List A) → length (map f xs) ≡ length xs
mapped f [] = refl
mapped f (x ∷ xs) = ap suc (mapped f xs)

-- what holds of the audit of the entries that the commands make
pub has_written : NextLegal → (setup : Setup) (known : Option (List ℕ)) (commands : List Command)
    (P : List ℕ → Type 0) → IfSome known (λ bytes. ScriptOf bytes (Ok commands)) →
    length commands ≤ setup.limit →
    P (audit_text Second (made_by (opened setup) (map asked commands))) → HasAudit setup known P
has_written next setup known commands P script room holds =
    let acts = map asked commands in
    let execution = after_acts (opened setup) acts in
    let few : length acts ≤ setup.limit =
    subst (λ n. n ≤ setup.limit) (sym (mapped asked commands)) room in
    let legal : Legal setup execution.journal =
    legal_after next (opened setup) acts (omega arith, tt) (omega (arith, few)) in
    let same = setup_after (opened setup) acts in
    has_audit setup known commands (audit_text Second execution.journal) P script
    (audit_of setup commands execution refl (subst (λ s. Legal s execution.journal) (sym same) legal))
    (subst P (ap (audit_text Second) (sym (journal_after (opened setup) acts))) holds)
