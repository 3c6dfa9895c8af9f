-- The words of the program that have no fault name one of its subcommands, with the cluster file
-- where the subcommand takes one; and the matches of a parse hold both.
use Rattle.std.proofs.Common.{rules, arith, ◌≡◌, ◌∙◌, ◌⊎◌, ◌&&◌, not, inl, inr, ℕ, Bool, true, false, List, [], ◌∷◌, length, Option, None, Some, codes, refl, sym, ap, subst, is_some, option_map}
use Rattle.std.specs.Prelude.{IsSomeAnd, Result, Ok, Err, unwrap_or}
use Rattle.std.specs.Str.Parse.{ParsesUnsigned}
use Rattle.std.specs.Box.{box_value}
use Rattle.clap.specs.Words.{App, Row, Shape, Text, app_of, built, fault_of, first_of, found_of, is_simple, is_simple_and_free, matches_of, one_of, rows_of, subcommand_name_of, subcommand_of, subcommand_rows, subcommand_rows_of}
use Rattle.clap.specs.Walk.{is_empty, nothing_held}
use Rattle.clap.specs.Words.{ReadsOne}
use Rattle.clap.specs.Simple.{rows_at}
use Rattle.clap.specs.Faults.{level_fault}
use Rattle.clap.specs.declared.builder.command.Command.{Command}
use Rattle.clap.specs.declared.builder.command.Command.TheViews.{out-Command}
use Rattle.clap.specs.declared.parser.matches.ArgMatches.{ArgMatches}
use Rattle.clap.specs.declared.parser.matches.ArgMatches.TheViews.{out-ArgMatches, out-SubCommand}
use Rattle.clap.proofs.OnLiterals.{clap_on_literals}
use Rattle.clap.specs.declared.builder.value_parser.ValueParser.TheVariants.{Unsigned}
use Rattle.clap.proofs.ValueTestLemmas.{accepts-Accepts}
use Rattle.clap.specs.Kinds.{HasKind}
use Rattle.clap.specs.declared.error.Error.{Error}
use Rattle.faultyard.specs.declared.task.Task.{Task}
use Rattle.faultyard.specs.Commands.{faultyard_command, IsActsOf, IsExplainOf, IsSeed, IsSetOf, IsTaskOf, StandsFor, largest_seed, seed_in, usual_acts}
use Rattle.faultyard.proofs.RowLemmas.{AreFilling, HasValue, Requires, required_value}
use Rattle.faultyard.proofs.EnterLemmas.{IsIn, words_enter}

-- ---- the command

command_is_simple : is_simple_and_free faultyard_command ≡ true
unfolding clap_on_literals
command_is_simple = refl

is_simple_command : is_simple faultyard_command ≡ true
unfolding clap_on_literals
is_simple_command = refl

-- a command of which the fields that read words are plain has no global argument
pub plain_is_local : (c : Command) → (app_of c).top.is_plain ≡ true → (out-Command c).has_globals ≡ false
plain_is_local c plain = by (is_empty (out-Command c).groups.items) (out-Command c).allow_external_subcommands (out-Command c).has_globals _ plain
  where
    by : (groups external globals rest : Bool) → (groups && (not external && (not globals && rest))) ≡ true → globals ≡ false
    by groups external false rest plain = refl
    by true false true rest plain = sym plain
    by true true true rest plain = sym plain
    by false external true rest plain = sym plain

-- ---- what the words name

-- the subcommand takes a cluster file
abbrev TakesConfig : Text → Type 0
TakesConfig name =
    (name ≡ codes "run")
    ⊎ ((name ≡ codes "check") ⊎ ((name ≡ codes "swarm") ⊎ ((name ≡ codes "simulate") ⊎ ((name ≡ codes "guard") ⊎ ((name ≡ codes "show") ⊎ ((name ≡ codes "bears") ⊎ ((name ≡ codes "verdict") ⊎ (name ≡ codes "config"))))))))

-- the subcommand takes a seed
abbrev pub TakesSeed : Text → Type 0
TakesSeed name = (name ≡ codes "swarm") ⊎ (name ≡ codes "simulate")

-- the subcommand takes an audit that it needs
abbrev pub TakesAudit : Text → Type 0
TakesAudit name = name ≡ codes "verdict"

-- the subcommand takes no word more
abbrev pub TakesNothing : Text → Type 0
TakesNothing name = (name ≡ codes "judge") ⊎ (name ≡ codes "linear")

abbrev HasConfig : List Row → Type 0
HasConfig rows = is_some (first_of (codes "CONFIG") rows) ≡ true

abbrev HasAudit : List Row → Type 0
HasAudit rows = is_some (first_of (codes "audit") rows) ≡ true

-- the rows have a seed
abbrev HasSeed : List Row → Type 0
HasSeed rows = IsSomeAnd (one_of (codes "seed") rows) IsSeed

-- the subcommand's name and its rows are those of a task
abbrev pub IsTask : Text × List Row → Type 0
IsTask met =
    TakesNothing met.0
    ⊎ (TakesConfig met.0 × HasConfig met.1 × (TakesSeed met.0 → HasSeed met.1)
    × (TakesAudit met.0 → HasAudit met.1))

some_is_some : {A : Type 0} (o : Option A) (x : A) → o ≡ Some x → is_some o ≡ true
some_is_some o x is = ap is_some is

config_given : (s t : Shape) (words : List Text) → s ≡ t → AreFilling t.rules → Requires (codes "CONFIG") t.rules → t.subcommand_negates_reqs ≡ false
    → level_fault s [] nothing_held words false [] ≡ [] → HasConfig (rows_at s words).1
config_given s t words is fills wanted negates none =
    let value = required_value t [] words [] (codes "CONFIG") fills wanted negates (subst (λ u. level_fault u [] nothing_held words false [] ≡ []) is none) in
    subst (λ u. HasConfig (rows_at u words).1) (sym is) (some_is_some _ _ value.1)

audit_given : (s t : Shape) (words : List Text) → s ≡ t → AreFilling t.rules → Requires (codes "audit") t.rules → t.subcommand_negates_reqs ≡ false
    → level_fault s [] nothing_held words false [] ≡ [] → HasAudit (rows_at s words).1
audit_given s t words is fills wanted negates none =
    let value = required_value t [] words [] (codes "audit") fills wanted negates (subst (λ u. level_fault u [] nothing_held words false [] ≡ []) is none) in
    subst (λ u. HasAudit (rows_at u words).1) (sym is) (some_is_some _ _ value.1)

seed_of_value : (rows : List Row) → HasValue (codes "seed") rows → HasSeed rows
seed_of_value rows value =
    subst (λ o. IsSomeAnd o IsSeed) (sym value.2) (accepts-Accepts false (Unsigned 0 largest_seed) value.0 value.3)

seed_given : (s t : Shape) (words : List Text) → s ≡ t → AreFilling t.rules → Requires (codes "seed") t.rules → t.subcommand_negates_reqs ≡ false
    → level_fault s [] nothing_held words false [] ≡ [] → HasSeed (rows_at s words).1
seed_given s t words is fills wanted negates none =
    let value = required_value t [] words [] (codes "seed") fills wanted negates (subst (λ u. level_fault u [] nothing_held words false [] ≡ []) is none) in
    subst (λ u. HasSeed (rows_at u words).1) (sym is) (seed_of_value (rows_at t words).1 value)

-- the first letter of a name
abbrev pub first_letter : Text → ℕ
first_letter [] = 0
first_letter (x ∷ xs) = x

no_seed : (name other : Text) → name ≡ other → (first_letter other ≡ 115 → ⊥) → TakesSeed name → ⊥
no_seed name other is differs (inl swarm) = differs (ap first_letter (sym is) ∙ ap first_letter swarm)
no_seed name other is differs (inr simulate) = differs (ap first_letter (sym is) ∙ ap first_letter simulate)

no_audit : (name other : Text) → name ≡ other → (first_letter other ≡ 118 → ⊥) → TakesAudit name → ⊥
no_audit name other is differs verdict = differs (ap first_letter (sym is) ∙ ap first_letter verdict)

no_nothing : (name other : Text) → name ≡ other → (first_letter other ≡ 106 → ⊥) → (first_letter other ≡ 108 → ⊥) → TakesNothing name → ⊥
no_nothing name other is no_judge no_linear (inl judge) = no_judge (ap first_letter (sym is) ∙ ap first_letter judge)
no_nothing name other is no_judge no_linear (inr linear) = no_linear (ap first_letter (sym is) ∙ ap first_letter linear)

no_show : (name : Text) → name ≡ codes "show" → TakesSeed name → ⊥
no_show name show (inl swarm) = by (ap length (sym show ∙ swarm))
  where
    by : length (codes "show") ≡ length (codes "swarm") → ⊥
    by e = omega arith
no_show name show (inr simulate) = by (ap length (sym show ∙ simulate))
  where
    by : length (codes "show") ≡ length (codes "simulate") → ⊥
    by e = omega arith

known_task : (s : Shape) (words : List Text) → IsIn s (built faultyard_command).subs → (s.name ≡ codes "help" → s.aliases ≡ [] → ⊥) → level_fault s [] nothing_held words false [] ≡ []
    → IsTask (rows_at s words)
known_task s words known other none =
    elim known [
      | inl judge ↦ inl (inl (ap (λ t. t.name) judge))
      | inr (inl run) ↦ inr (
        inl (ap (λ t. t.name) run),
        config_given s _ words run ((refl, refl, refl), ((refl, refl, refl), ((refl, refl, refl), tt))) (inl (refl, refl)) refl none,
        λ seed. absurd (no_seed s.name (codes "run") (ap (λ t. t.name) run) (λ e. omega arith) seed),
        λ audit. absurd (no_audit s.name (codes "run") (ap (λ t. t.name) run) (λ e. omega arith) audit),
      )
      | inr (inr (inl check)) ↦ inr (
        inr (inl (ap (λ t. t.name) check)),
        config_given s _ words check ((refl, refl, refl), ((refl, refl, refl), ((refl, refl, refl), tt))) (inl (refl, refl)) refl none,
        λ seed. absurd (no_seed s.name (codes "check") (ap (λ t. t.name) check) (λ e. omega arith) seed),
        λ audit. absurd (no_audit s.name (codes "check") (ap (λ t. t.name) check) (λ e. omega arith) audit),
      )
      | inr (inr (inr (inl swarm))) ↦ inr (
        inr (inr (inl (ap (λ t. t.name) swarm))),
        config_given s _ words swarm ((refl, refl, refl), ((refl, refl, refl), ((refl, refl, refl), ((refl, refl, refl), tt)))) (inl (refl, refl)) refl none,
        λ is. seed_given s _ words swarm ((refl, refl, refl), ((refl, refl, refl), ((refl, refl, refl), ((refl, refl, refl), tt)))) (inr (inl (refl, refl))) refl none,
        λ audit. absurd (no_audit s.name (codes "swarm") (ap (λ t. t.name) swarm) (λ e. omega arith) audit),
      )
      | inr (inr (inr (inr (inl simulate)))) ↦ inr (
        inr (inr (inr (inl (ap (λ t. t.name) simulate)))),
        config_given s _ words simulate ((refl, refl, refl), ((refl, refl, refl), ((refl, refl, refl), ((refl, refl, refl), ((refl, refl, refl), ((refl, refl, refl), tt)))))) (inl (refl, refl)) refl none,
        λ is. seed_given s _ words simulate ((refl, refl, refl), ((refl, refl, refl), ((refl, refl, refl), ((refl, refl, refl), ((refl, refl, refl), ((refl, refl, refl), tt)))))) (inr (inl (refl, refl))) refl none,
        λ audit. absurd (no_audit s.name (codes "simulate") (ap (λ t. t.name) simulate) (λ e. omega arith) audit),
      )
      | inr (inr (inr (inr (inr (inl guard))))) ↦ inr (
        inr (inr (inr (inr (inl (ap (λ t. t.name) guard))))),
        config_given s _ words guard ((refl, refl, refl), ((refl, refl, refl), ((refl, refl, refl), ((refl, refl, refl), ((refl, refl, refl), tt))))) (inl (refl, refl)) refl none,
        λ seed. absurd (no_seed s.name (codes "guard") (ap (λ t. t.name) guard) (λ e. omega arith) seed),
        λ audit. absurd (no_audit s.name (codes "guard") (ap (λ t. t.name) guard) (λ e. omega arith) audit),
      )
      | inr (inr (inr (inr (inr (inr (inl show)))))) ↦ inr (
        inr (inr (inr (inr (inr (inl (ap (λ t. t.name) show)))))),
        config_given s _ words show ((refl, refl, refl), ((refl, refl, refl), ((refl, refl, refl), ((refl, refl, refl), tt)))) (inl (refl, refl)) refl none,
        λ seed. absurd (no_show s.name (ap (λ t. t.name) show) seed),
        λ audit. absurd (no_audit s.name (codes "show") (ap (λ t. t.name) show) (λ e. omega arith) audit),
      )
      | inr (inr (inr (inr (inr (inr (inr (inl bears))))))) ↦ inr (
        inr (inr (inr (inr (inr (inr (inl (ap (λ t. t.name) bears))))))),
        config_given s _ words bears ((refl, refl, refl), ((refl, refl, refl), ((refl, refl, refl), ((refl, refl, refl), ((refl, refl, refl), ((refl, refl, refl), tt)))))) (inl (refl, refl)) refl none,
        λ seed. absurd (no_seed s.name (codes "bears") (ap (λ t. t.name) bears) (λ e. omega arith) seed),
        λ audit. absurd (no_audit s.name (codes "bears") (ap (λ t. t.name) bears) (λ e. omega arith) audit),
      )
      | inr (inr (inr (inr (inr (inr (inr (inr (inl verdict)))))))) ↦ inr (
        inr (inr (inr (inr (inr (inr (inr (inl (ap (λ t. t.name) verdict)))))))),
        config_given s _ words verdict ((refl, refl, refl), ((refl, refl, refl), ((refl, refl, refl), ((refl, refl, refl), ((refl, refl, refl), tt))))) (inl (refl, refl)) refl none,
        λ seed. absurd (no_seed s.name (codes "verdict") (ap (λ t. t.name) verdict) (λ e. omega arith) seed),
        λ is. audit_given s _ words verdict ((refl, refl, refl), ((refl, refl, refl), ((refl, refl, refl), ((refl, refl, refl), ((refl, refl, refl), tt))))) (inr (inl (refl, refl))) refl none,
      )
      | inr (inr (inr (inr (inr (inr (inr (inr (inr (inl linear))))))))) ↦ inl (inr (ap (λ t. t.name) linear))
      | inr (inr (inr (inr (inr (inr (inr (inr (inr (inr (inl config)))))))))) ↦ inr (
        inr (inr (inr (inr (inr (inr (inr (inr (ap (λ t. t.name) config)))))))),
        config_given s _ words config ((refl, refl, refl), ((refl, refl, refl), ((refl, refl, refl), tt))) (inl (refl, refl)) refl none,
        λ seed. absurd (no_seed s.name (codes "config") (ap (λ t. t.name) config) (λ e. omega arith) seed),
        λ audit. absurd (no_audit s.name (codes "config") (ap (λ t. t.name) config) (λ e. omega arith) audit),
      )
      | inr (inr (inr (inr (inr (inr (inr (inr (inr (inr (inr (inl help))))))))))) ↦ absurd (other (ap (λ t. t.name) help) (ap (λ t. t.aliases) help))
      | inr (inr (inr (inr (inr (inr (inr (inr (inr (inr (inr (inr none))))))))))) ↦ absurd none
    ]

meets_task : (words : List Text) → fault_of faultyard_command words ≡ [] → IsSomeAnd (subcommand_of faultyard_command words) IsTask
meets_task words none =
    let entered = words_enter faultyard_command words refl refl none in
    subst (λ met. IsSomeAnd met IsTask) (sym entered.is) (known_task entered.shape entered.words entered.known entered.other entered.faultless)

pub faultless : (command : App) (words : List Text) → command ≡ faultyard_command → (is_simple_and_free command ≡ true → fault_of command words ≡ []) → fault_of faultyard_command words ≡ []
faultless command words is none = ap (λ a. fault_of a words) (sym is) ∙ none (ap is_simple_and_free is ∙ command_is_simple)

-- ---- what the matches hold

name_of_rows : (m : ArgMatches) → option_map (λ p. p.0) (subcommand_rows_of m) ≡ subcommand_name_of m
name_of_rows m = elim (out-ArgMatches m).subcommand as (λ s. option_map (λ p. p.0) (subcommand_rows s) ≡ option_map (λ b. (out-SubCommand (box_value b)).name.now) s) [ None ↦ refl | Some b ↦ refl ]

pair_of : (o : Option (Text × List Row)) (name : Text) (rows : List Row) → option_map (λ p. p.0) o ≡ Some name → option_map (λ p. p.1) o ≡ Some rows → o ≡ Some (name, rows)
pair_of None name rows named held = let bad : false ≡ true = ap is_some named in absurd (search rules)
pair_of (Some p) name rows named held = search rules

met_by : (words : List Text) (m : ArgMatches) (name : Text) (rows : List Row) → subcommand_rows_of m ≡ subcommand_of faultyard_command words
    → Some name ≡ subcommand_name_of m → Some rows ≡ option_map (λ p. p.1) (subcommand_rows_of m) → subcommand_of faultyard_command words ≡ Some (name, rows)
met_by words m name rows same named held = sym same ∙ pair_of (subcommand_rows_of m) name rows (name_of_rows m ∙ sym named) (sym held)

-- the subcommand that the matches of the words hold, by its name and its own matches, is a task's
pub met_task : (command : App) (words : List Text) (m : ArgMatches) (name : Text) (given : ArgMatches) → command ≡ faultyard_command
    → (is_simple_and_free command ≡ true → fault_of command words ≡ [])
    → (is_simple command ≡ true → (rows_of (found_of m) ≡ matches_of command words) × (subcommand_rows_of m ≡ subcommand_of command words))
    → Some name ≡ subcommand_name_of m → Some (rows_of (found_of given)) ≡ option_map (λ p. p.1) (subcommand_rows_of m) → IsTask (name, rows_of (found_of given))
met_task command words m name given is none rows named held =
    let same : subcommand_rows_of m ≡ subcommand_of faultyard_command words = (rows (ap is_simple is ∙ is_simple_command)).1 ∙ ap (λ a. subcommand_of a words) is in
    subst (λ o. IsSomeAnd o IsTask) (met_by words m name (rows_of (found_of given)) same named held) (meets_task words (faultless command words is none))

-- a task that stands for that name and these rows is the task of the words
pub is_task_of : (command : App) (words : List Text) (m : ArgMatches) (name : Text) (given : ArgMatches) (task : Task) → command ≡ faultyard_command
    → (is_simple command ≡ true → (rows_of (found_of m) ≡ matches_of command words) × (subcommand_rows_of m ≡ subcommand_of command words))
    → Some name ≡ subcommand_name_of m → Some (rows_of (found_of given)) ≡ option_map (λ p. p.1) (subcommand_rows_of m)
    → StandsFor (name, rows_of (found_of given)) task → IsTaskOf (subcommand_of faultyard_command words) task
is_task_of command words m name given task is rows named held stands =
    let same : subcommand_rows_of m ≡ subcommand_of faultyard_command words = (rows (ap is_simple is ∙ is_simple_command)).1 ∙ ap (λ a. subcommand_of a words) is in
    subst (λ o. IsTaskOf o task) (sym (met_by words m name (rows_of (found_of given)) same named held)) stands

-- and a flag of its rows is the flag of the words
pub is_explain_of : (command : App) (words : List Text) (m : ArgMatches) (name : Text) (given : ArgMatches) (explain : Bool) → command ≡ faultyard_command
    → (is_simple command ≡ true → (rows_of (found_of m) ≡ matches_of command words) × (subcommand_rows_of m ≡ subcommand_of command words))
    → Some name ≡ subcommand_name_of m → Some (rows_of (found_of given)) ≡ option_map (λ p. p.1) (subcommand_rows_of m)
    → IsSetOf (first_of (codes "explain") (rows_of (found_of given))) explain → IsExplainOf (subcommand_of faultyard_command words) explain
is_explain_of command words m name given explain is rows named held set =
    let same : subcommand_rows_of m ≡ subcommand_of faultyard_command words = (rows (ap is_simple is ∙ is_simple_command)).1 ∙ ap (λ a. subcommand_of a words) is in
    subst (λ o. IsExplainOf o explain) (sym (met_by words m name (rows_of (found_of given)) same named held)) set

-- an error of the words has a kind of their fault
pub fails_by : (command : App) (words : List Text) (error : Error) → command ≡ faultyard_command → (is_simple_and_free command ≡ true → HasKind (fault_of command words) error)
    → HasKind (fault_of faultyard_command words) error
fails_by command words error is has = subst (λ a. HasKind (fault_of a words) error) is (has (ap is_simple_and_free is ∙ command_is_simple))

-- and so one that is neither `judge` nor `linear` has its cluster file
pub has_config : (name other : Text) (given : ArgMatches) → name ≡ other → (first_letter other ≡ 106 → ⊥) → (first_letter other ≡ 108 → ⊥) → IsTask (name, rows_of (found_of given))
    → is_some (first_of (codes "CONFIG") (rows_of (found_of given))) ≡ true
has_config name other given is no_judge no_linear task = elim task [ inl nothing ↦ absurd (no_nothing name other is no_judge no_linear nothing) | inr has ↦ has.1 ]

-- and `verdict` has its audit
pub has_audit : (name : Text) (given : ArgMatches) → TakesAudit name → IsTask (name, rows_of (found_of given)) → is_some (first_of (codes "audit") (rows_of (found_of given))) ≡ true
has_audit name given is task =
    elim task [ inl nothing ↦ absurd (no_nothing name (codes "verdict") is (λ e. omega arith) (λ e. omega arith) nothing) | inr has ↦ has.3 is ]

-- and one that takes a seed has it
pub has_seed : (name : Text) (given : ArgMatches) → TakesSeed name → IsTask (name, rows_of (found_of given)) → IsSomeAnd (one_of (codes "seed") (rows_of (found_of given))) IsSeed
has_seed name given is task = elim task [
  | inl (inl judge) ↦ absurd (no_seed name (codes "judge") judge (λ e. omega arith) is)
  | inl (inr linear) ↦ absurd (no_seed name (codes "linear") linear (λ e. omega arith) is)
  | inr has ↦ has.2 is
]

-- what `u64` makes of a text that is a seed, by how its reader reads
pub seed_read : {E : Type 0} (gives : List ℕ → Result ℕ E → Type 0) (o : Option Text) (r : Option ℕ) → IsSomeAnd o IsSeed → ((t : Text) → o ≡ Some t → ReadsOne gives t r)
    → ((t : Text) (x : Result ℕ E) → gives t x → ParsesUnsigned 64 10 t x) → (seed : ℕ) × (r ≡ Some seed) × (option_map seed_in o ≡ Some seed)
seed_read gives None r is reads parses = absurd is
seed_read gives (Some t) None is reads parses =
    let refused = reads t refl in
    absurd (parses t (Err refused.0) refused.1 (is.0, is.1))
seed_read gives (Some t) (Some seed) is reads parses = (seed, refl, ap Some (sym (parses t (Ok seed) (reads t refl)).1))

-- what `u64` makes of a text, if one is there, or else the usual number
pub acts_read : {E : Type 0} (gives : List ℕ → Result ℕ E → Type 0) (o : Option Text) (r : Option ℕ) → (o ≡ None → r ≡ None) → ((t : Text) → o ≡ Some t → ReadsOne gives t r)
    → ((t : Text) (x : Result ℕ E) → gives t x → ParsesUnsigned 64 10 t x) → IsActsOf o (unwrap_or r usual_acts)
acts_read gives None r none reads parses = ap (λ x. unwrap_or x usual_acts) (none refl)
acts_read gives (Some t) None none reads parses = λ is.
    let refused = reads t refl in
    absurd (parses t (Err refused.0) refused.1 (is.0, is.1))
acts_read gives (Some t) (Some acts) none reads parses = λ is. (parses t (Ok acts) (reads t refl)).1
