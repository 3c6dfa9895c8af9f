-- what `run` and `guard` write is found legal
use Rattle.std.proofs.Common.{◌≡◌, ◌∙◌, ℕ, suc, ◌+◌, ◌≤◌, Bool, true, false, ◌&&◌, List, [], ◌∷◌, ◌++◌, length, map, find, if◌then◌else◌, Option, Some, None, option_map, Result, Ok, Err, refl, sym, ap, subst, arith, ne_eqb, append_assoc}
use Rattle.std.specs.Prelude.{MatchOption, MatchResult, not, nat_le}
use Rattle.std.specs.List.{AllByRecursion, flat_map}
use Rattle.std.proofs.lemmas.Bool.{and_parts}
use Rattle.std.proofs.lemmas.Bool.Decides.{nat_tests}
use Rattle.fy_lines.specs.Lines.{onto_first, lines_of}
use Rattle.fy_spelling.specs.Fits.{IsU32, FitsAct}
use Rattle.fy_spelling.specs.OneText.{TextsAreLines, HasNoFeed}
use Rattle.fy_spelling.specs.Values.{text_of}
use Rattle.fy_spelling.specs.declared.command.Command.{Command}
use Rattle.fy_spelling.specs.declared.command.TheConstants.{MOST_LINE_BYTES}
use Rattle.fy_acts.specs.declared.act.Act.{Act}
use Rattle.fy_acts.specs.declared.entry.Entry.{Entry}
use Rattle.fy_acts.specs.declared.reply.Reply.{Reply}
use Rattle.fy_acts.specs.declared.reply.Reply.TheVariants.{No}
use Rattle.fy_acts.specs.declared.version.Version.TheVariants.{Second}
use Rattle.fy_audit.specs.Audit.{Audit, MayStandFrom}
use Rattle.fy_audit.specs.AuditText.{entry_line}
use Rattle.fy_audit.specs.Script.{AreCommands}
use Rattle.fy_audit.specs.Versions.{knows_reply}
use Rattle.fy_cluster.specs.Setup.{Setup, is_between, is_in_range}
use Rattle.fy_cluster.specs.History.{History, step_of}
use Rattle.fy_cluster.specs.Replies.{LegalAfter}
use Rattle.fy_cluster.specs.Survival.{by_and_act}
use Rattle.fy_cluster.specs.Versions.{SecondKnowsAll}
use Rattle.fy_cluster.specs.declared.config.MakeFault.{MakeFault}
use Rattle.fy_cluster.specs.declared.config.MakeFault.TheVariants as make
use Rattle.fy_config.specs.Config.{Fields, fields_of, ranges, first_outside, first_bad_name, NamedIs, FieldsAre, ConfigOf}
use Rattle.fy_config.specs.declared.fault.ConfigFault.{ConfigFault}
use Rattle.fy_config.specs.declared.fault.ConfigFault.TheVariants.{Limit}
use Rattle.fy_config.specs.declared.fault.Part.{Part}
use Rattle.fy_run.specs.RunTexts.{asked, IsAuditOf, Runs}
use Rattle.fy_check.specs.CheckTexts.{Finds, legal_line}
use Rattle.fy_laws.specs.Confirmed.{IsWithinLimits, RunsAreConfirmed, AnswersAreConfirmed}
use Rattle.fy_laws.proofs.Fitting.{IsSmall, IsCounted, counted_more, counted_at_start, next_fits}

-- ---- the setup of a cluster file is small

-- where no part is outside its range, each is in it
each_inside : (parts : List (Part × Bool)) →
    option_map (λ part. part.0) (find (λ part. not part.1) parts) ≡ None →
    AllByRecursion (λ part. part.1 ≡ true) parts
each_inside [] none = tt
each_inside ((part, true) ∷ parts) none = (refl, each_inside parts none)
each_inside ((part, false) ∷ parts) none = absurd (let no : ⊥ = cc in no)

-- fields that are of a setup are inside their ranges, and named as they should be
of_setup : (setup : Setup) (f : Fields) (outside : Option Part) (bad : Option ConfigFault) →
    MatchOption outside (MatchOption bad (NamedIs f (Ok setup))
    (λ fault. ◌≡◌ {A = Result Setup ConfigFault} (Ok setup) (Err fault)))
    (λ part. ◌≡◌ {A = Result Setup ConfigFault} (Ok setup) (Err (Limit part))) →
    (outside ≡ None) × NamedIs f (Ok setup)
of_setup setup f None None is = (refl, is)
of_setup setup f None (Some fault) is = absurd (let no : ⊥ = cc in no)
of_setup setup f (Some part) bad is = absurd (let no : ⊥ = cc in no)

-- what is in range is no refusal
in_range : (inside : Bool) (unmet : Option MakeFault) →
    (if inside then unmet else Some make.Limit) ≡ None → inside ≡ true
in_range true unmet none = refl
in_range false unmet none = absurd (let no : ⊥ = cc in no)

fields_small : (setup : Setup) (f : Fields) → FieldsAre f (Ok setup) → IsSmall setup
fields_small setup f is =
    let parts = of_setup setup f (first_outside f) (first_bad_name f) is in
    let inside = each_inside (ranges f) parts.0 in
    let named = parts.1 in
    let process : (nat_le 1 (length f.processes) && nat_le (length f.processes) 1024) ≡ true = inside.1.1.0 in
    let few_processes : nat_le (length f.processes) 1024 ≡ true = (and_parts _ (nat_le (length f.processes) 1024) process).1 in
    let same : length setup.processes ≡ length f.processes = ap (λ (s : Setup). length s.processes) named.2 in
    let range : is_in_range setup ≡ true = in_range (is_in_range setup) _ named.3 in
    let first = and_parts _ (is_between 1 1048576 setup.limit) range in
    let second = (and_parts _ _ first.0).0 in
    let third = (and_parts _ _ second).0 in
    let fourth = (and_parts _ _ third).0 in
    let count = length setup.policies in
    let policies : is_between 1 8 count ≡ true = (and_parts (is_between 1 8 count) _ fourth).0 in
    let few_policies : nat_le (length setup.policies) 8 ≡ true = (and_parts (nat_le 1 count) (nat_le count 8) policies).1 in
    let limit : nat_le setup.limit 1048576 ≡ true = (and_parts (nat_le 1 setup.limit) (nat_le setup.limit 1048576) first.1).1 in
    let processes_most : length f.processes ≤ 1024 = grind (arith, nat_tests) in
    let policies_most : length setup.policies ≤ 8 = grind (arith, nat_tests) in
    let limit_most : setup.limit ≤ 1048576 = grind (arith, nat_tests) in
    record { processes = omega arith; policies = omega arith; limit = limit_most }

small_fields : (setup : Setup) (spelt : Result Fields ConfigFault) →
    MatchResult spelt (λ f. FieldsAre f (Ok setup))
    (λ fault. ◌≡◌ {A = Result Setup ConfigFault} (Ok setup) (Err fault)) → IsSmall setup
small_fields setup (Ok f) is = fields_small setup f is
small_fields setup (Err fault) is = absurd (let no : ⊥ = cc in no)

small_file : (file : List ℕ) (setup : Setup) → ConfigOf file (Ok setup) → IsSmall setup
small_file file setup is = small_fields setup (fields_of is.1) is.3

-- ---- each entry may stand at its place

-- who acts and the act fit
abbrev FitsAsked : Entry → Type 0
FitsAsked e = IsU32 e.by × FitsAct e.act

-- acts that lines ask for fit, and there is an entry for each line
asked_fit : (lines : List (List ℕ)) (commands : List Command) (journal : List Entry) →
    AreCommands lines commands → map by_and_act journal ≡ map asked commands →
    AllByRecursion FitsAsked journal × (length journal ≡ length lines)
asked_fit [] [] [] are same = (tt, refl)
asked_fit [] [] (e ∷ journal) are same = absurd (let no : ⊥ = cc in no)
asked_fit [] (command ∷ commands) journal are same = absurd are
asked_fit (line ∷ lines) [] journal are same = absurd are
asked_fit (line ∷ lines) (command ∷ commands) [] are same = absurd (let no : ⊥ = cc in no)
asked_fit (line ∷ lines) (command ∷ commands) (e ∷ journal) are same =
    let first : by_and_act e ≡ asked command = cc in
    let rest : map by_and_act journal ≡ map asked commands = cc in
    let found = asked_fit lines commands journal are.1 rest in
    let spelt = are.0.1 in (
      (subst (λ (pair : ℕ × Act). IsU32 pair.0 × FitsAct pair.1) (sym first) (spelt.by, spelt.act), found.0),
      ap suc found.1,
    )

-- each reply is known under the second version
known_reply : (reply : Reply) → knows_reply Second reply ≡ true
known_reply (No refusal) = refl
known_reply _ = refl

-- a line, its line feed, and the rest
ended : (line rest : List ℕ) → HasNoFeed line → lines_of (line ++ 10 ∷ rest) ≡ line ∷ lines_of rest
ended [] rest whole = refl
ended (x ∷ xs) rest whole = rw (ne_eqb x 10 whole.0) (ap (onto_first x) (ended xs rest whole.1))

-- a line of an audit is short
abbrev IsShortLine : List ℕ → Type 0
IsShortLine line = length line ≤ MOST_LINE_BYTES

stand_from : TextsAreLines → (c : Setup) (h : History) (journal : List Entry) → IsSmall c →
    IsCounted h → length h + length journal ≤ c.limit → AllByRecursion FitsAsked journal →
    LegalAfter c h journal →
    AllByRecursion IsShortLine (lines_of (flat_map entry_line journal)) →
    MayStandFrom Second (length h) journal
stand_from are_lines c h [] small counted room fit legal short = tt
stand_from are_lines c h (e ∷ later) small counted room fit legal short =
    let limit = small.limit in
    let next = legal.0 in
    let fits = next_fits c h e small counted (omega arith) fit.0.0 fit.0.1 next in
    let split : lines_of (flat_map entry_line (e ∷ later)) ≡ text_of e ∷ lines_of (flat_map entry_line later) =
    ap lines_of (append_assoc (text_of e) (10 ∷ []) (flat_map entry_line later))
    ∙ ended (text_of e) (flat_map entry_line later) (are_lines e fits) in
    let each = subst (AllByRecursion IsShortLine) split short in (
      record { at = next.place; fits = fits; short = each.0; known = known_reply e.reply },
      stand_from are_lines c (step_of c h e ∷ h) later small
          (counted_more c h e next fit.0.1 counted) (omega arith) fit.1 legal.1 each.1,
    )

-- ---- what is written is found legal

audit_confirmed : TextsAreLines → SecondKnowsAll → (setup : Setup) (lines : List (List ℕ))
    (commands : List Command) (text : List ℕ) → IsSmall setup → AreCommands lines commands →
    IsAuditOf setup commands text → IsWithinLimits text →
    Finds setup text (Ok (true, legal_line (length lines)))
audit_confirmed are_lines second setup lines commands text small are audit within =
    let found = asked_fit lines commands audit.journal are audit.acts in
    let short = subst (λ xs. AllByRecursion IsShortLine (lines_of xs)) audit.written within.lines in
    let few = audit.legal.0 in
    let may = stand_from are_lines setup [] audit.journal small counted_at_start (omega arith) found.0 audit.legal.1 short.1 in
    let told : Audit = record { version = Second; entries = audit.journal } in
    subst (λ n. Finds setup text (Ok (true, legal_line n))) found.1
    (Finds.confirms told (within.whole, audit.written, may) ((second setup audit.journal).1 audit.legal))

-- the lines of a script are its commands, and what it comes to is their audit
run_confirmed : TextsAreLines → SecondKnowsAll → (setup : Setup) (script : List ℕ)
    (text : List ℕ) → IsSmall setup → Runs setup script (Ok text) → IsWithinLimits text →
    Finds setup text (Ok (true, legal_line (length (lines_of script))))
run_confirmed are_lines second setup script text small (Runs.ran commands _ read audit) within =
    audit_confirmed are_lines second setup (lines_of script) commands text small read.1 audit within

pub runs_are_confirmed : TextsAreLines → SecondKnowsAll → RunsAreConfirmed
runs_are_confirmed are_lines second file script text setup spelt runs within =
    run_confirmed are_lines second setup script text (small_file file setup spelt) runs within

pub answers_are_confirmed : TextsAreLines → SecondKnowsAll → AnswersAreConfirmed
answers_are_confirmed are_lines second file text lines setup spelt answered within =
    audit_confirmed are_lines second setup lines answered.commands text
    (small_file file setup spelt) answered.each answered.audit within
