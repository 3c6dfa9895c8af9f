-- The program's command line: one level of subcommands, of which one is wanted.
use Rattle.std.specs.Prelude.{◌≡◌, ◌≢◌, ◌↔◌, ◌⊎◌, ℕ, Bool, true, IsTrue, List, Option, Some, None, IsSomeAnd, codes, option_map}
use Rattle.std.specs.Str.Parse.{digits_value, without_leading_plus}
use Rattle.clap.specs.Words.{App, IsUnsignedIn, Row, Rule, Text, first_of, one_of, new_app}
use Rattle.clap.specs.Words.{new_rule, with_rule, with_subcommand}
use Rattle.clap.specs.declared.builder.action.ArgAction.TheVariants.{Set, SetTrue}
use Rattle.clap.specs.declared.builder.value_parser.ValueParser.TheVariants.{Unsigned}
use Rattle.faultyard.specs.declared.task.Task.{Task}
use Rattle.faultyard.specs.declared.task.Task.TheVariants.{Judge, Run, Check, Swarm, Simulate, Guard, Show, Bears, Verdict, Linear, Config}
use Rattle.fy_players.specs.declared.faults.Plan.{Plan}
use Rattle.fy_players.specs.declared.faults.Plan.TheVariants.{Mixed, Attrition, Swizzle, Rolling}
use Rattle.fy_tolerance.specs.declared.reports.Form.{Form}
use Rattle.fy_tolerance.specs.declared.reports.Form.TheVariants.{Json}

-- `faultyard` without its subcommands, of which it wants one; it has a version
abbrev pub bare_command : App
bare_command =
    let app = new_app (codes "faultyard") in
    record app { top = record app.top { has_version = true; subcommand_required = true } }

-- the word that names a cluster file, which has to be there
abbrev pub config_rule : Rule
config_rule = record (new_rule (codes "CONFIG")) { action = Some Set; required = true }

-- the largest number of 64 bits
abbrev pub largest_seed : ℕ
largest_seed = 18446744073709551615

-- the option `--seed`, which has to be there and has a whole number of 64 bits
abbrev pub seed_rule : Rule
seed_rule = record (new_rule (codes "seed")) {
  long = Some (codes "seed");
  action = Some Set;
  required = true;
  value_names = 1;
  parser = Some (Unsigned 0 largest_seed);
}

-- the subcommand `judge`, which takes no word more
abbrev pub judge_command : App
judge_command = new_app (codes "judge")

-- the subcommand `run`, which takes a cluster file
abbrev pub run_command : App
run_command = with_rule (new_app (codes "run")) config_rule

-- the subcommand `check`, which takes a cluster file
abbrev pub check_command : App
check_command = with_rule (new_app (codes "check")) config_rule

-- the subcommand `swarm`, which takes a cluster file and a seed
abbrev pub swarm_command : App
swarm_command = with_rule (with_rule (new_app (codes "swarm")) config_rule) seed_rule

-- how many acts a simulation makes where the words don't say
abbrev pub usual_acts : ℕ
usual_acts = 10000

-- the option `--acts`, which has a whole number of 64 bits
abbrev pub acts_rule : Rule
acts_rule = record (new_rule (codes "acts")) {
  long = Some (codes "acts");
  action = Some Set;
  value_names = 1;
  parser = Some (Unsigned 0 largest_seed);
}

-- the option `--plan`, which has a plan's name
abbrev pub plan_rule : Rule
plan_rule = record (new_rule (codes "plan")) {
  long = Some (codes "plan");
  action = Some Set;
  value_names = 1;
}

-- the subcommand `simulate`, which takes a cluster file and a seed, and may take the other two
abbrev pub simulate_command : App
simulate_command =
    with_rule
    (with_rule (with_rule (with_rule (new_app (codes "simulate")) config_rule) seed_rule) acts_rule)
    plan_rule

-- the option `--times`, which has the file of events
abbrev pub times_rule : Rule
times_rule = record (new_rule (codes "times")) {
  long = Some (codes "times");
  action = Some Set;
  value_names = 1;
}

-- the subcommand `show`, which takes a cluster file, and may take the other
abbrev pub show_command : App
show_command = with_rule (with_rule (new_app (codes "show")) config_rule) times_rule

-- the flag `--json`
abbrev pub json_rule : Rule
json_rule = record (new_rule (codes "json")) {
  long = Some (codes "json");
  action = Some SetTrue;
}

-- the option `--after`, which has the file of an audit
abbrev pub after_rule : Rule
after_rule = record (new_rule (codes "after")) {
  long = Some (codes "after");
  action = Some Set;
  value_names = 1;
}

-- the flag `--questions`
abbrev pub questions_rule : Rule
questions_rule = record (new_rule (codes "questions")) {
  long = Some (codes "questions");
  action = Some SetTrue;
}

-- the subcommand `guard`, which takes a cluster file, and may take the two
abbrev pub guard_command : App
guard_command =
    with_rule (with_rule (with_rule (new_app (codes "guard")) config_rule) after_rule)
    questions_rule

-- the option `--elections`, which has a policy's text
abbrev pub elections_rule : Rule
elections_rule = record (new_rule (codes "elections")) {
  long = Some (codes "elections");
  action = Some Set;
  value_names = 1;
}

-- the subcommand `bears`, which takes a cluster file, and may take the three
abbrev pub bears_command : App
bears_command =
    with_rule
    (with_rule (with_rule (with_rule (new_app (codes "bears")) config_rule) json_rule) after_rule)
    elections_rule

-- the option `--audit`, which has to be there and has the file of an audit
abbrev pub audit_rule : Rule
audit_rule = record (new_rule (codes "audit")) {
  long = Some (codes "audit");
  action = Some Set;
  required = true;
  value_names = 1;
}

-- the flag `--fresh`
abbrev pub fresh_rule : Rule
fresh_rule = record (new_rule (codes "fresh")) {
  long = Some (codes "fresh");
  action = Some SetTrue;
}

-- the subcommand `verdict`, which takes a cluster file and an audit, and may take the flag
abbrev pub verdict_command : App
verdict_command =
    with_rule (with_rule (with_rule (new_app (codes "verdict")) config_rule) audit_rule) fresh_rule

-- the subcommand `linear`, which takes no word more
abbrev pub linear_command : App
linear_command = new_app (codes "linear")

-- the subcommand `config`, which takes a cluster file
abbrev pub config_command : App
config_command = with_rule (new_app (codes "config")) config_rule

-- the flag `--explain`
abbrev pub explain_rule : Rule
explain_rule = record (new_rule (codes "explain")) {
  long = Some (codes "explain");
  action = Some SetTrue;
}

-- the subcommand, which may take that flag besides
abbrev pub explained : App → App
explained command = with_rule command explain_rule

-- the command line of `faultyard`; each subcommand that takes a file may take the flag
abbrev pub faultyard_command : App
faultyard_command =
    with_subcommand
    (with_subcommand
    (with_subcommand
    (with_subcommand
    (with_subcommand
    (with_subcommand
    (with_subcommand
    (with_subcommand
    (with_subcommand
    (with_subcommand (with_subcommand bare_command judge_command.top) (explained run_command).top)
    (explained check_command).top)
    (explained swarm_command).top)
    (explained simulate_command).top)
    (explained guard_command).top)
    (explained show_command).top)
    (explained bears_command).top)
    (explained verdict_command).top)
    linear_command.top)
    (explained config_command).top

-- the text of a seed: a whole number of 64 bits
abbrev pub IsSeed : Text → Type 0
IsSeed text = IsUnsignedIn 0 largest_seed text

-- the number that such a text writes
abbrev pub seed_in : Text → ℕ
seed_in text = digits_value 10 (without_leading_plus text)

-- the form is that of programs just where the flag is set
abbrev pub IsFormOf : Option Text → Form → Type 0
IsFormOf flag form = (flag ≡ Some (codes "true")) ↔ (form ≡ Json)

-- it is so just where the flag is set
abbrev pub IsSetOf : Option Text → Bool → Type 0
IsSetOf flag set = (flag ≡ Some (codes "true")) ↔ IsTrue set

-- the number of acts that a text says, or the usual one
abbrev pub IsActsOf : Option Text → ℕ → Type 0
IsActsOf None acts = acts ≡ usual_acts
IsActsOf (Some text) acts = IsSeed text → acts ≡ seed_in text

-- the plan of a name, and the mixed one where no name is given; no other name has a plan
abbrev pub IsPlanOf : Option Text → Option Plan → Type 0
IsPlanOf name (Some Mixed) = (name ≡ None) ⊎ (name ≡ Some (codes "mixed"))
IsPlanOf name (Some Attrition) = name ≡ Some (codes "attrition")
IsPlanOf name (Some Swizzle) = name ≡ Some (codes "swizzle")
IsPlanOf name (Some Rolling) = name ≡ Some (codes "rolling")
IsPlanOf name None =
    (name ≢ None) × (name ≢ Some (codes "mixed")) × (name ≢ Some (codes "attrition"))
    × (name ≢ Some (codes "swizzle")) × (name ≢ Some (codes "rolling"))

-- a subcommand's name and its rows, as the matches hold them, stand for the task
abbrev pub StandsFor : Text × List Row → Task → Type 0
StandsFor met Judge = met.0 ≡ codes "judge"
StandsFor met (Run config) =
    (met.0 ≡ codes "run") × (first_of (codes "CONFIG") met.1 ≡ Some config.now)
StandsFor met (Check config) =
    (met.0 ≡ codes "check") × (first_of (codes "CONFIG") met.1 ≡ Some config.now)
StandsFor met (Swarm config seed) =
    (met.0 ≡ codes "swarm") × (first_of (codes "CONFIG") met.1 ≡ Some config.now)
    × (option_map seed_in (one_of (codes "seed") met.1) ≡ Some seed)
StandsFor met (Simulate config seed acts plan) =
    (met.0 ≡ codes "simulate") × (first_of (codes "CONFIG") met.1 ≡ Some config.now)
    × (option_map seed_in (one_of (codes "seed") met.1) ≡ Some seed)
    × IsActsOf (one_of (codes "acts") met.1) acts
    × IsPlanOf (first_of (codes "plan") met.1) plan
StandsFor met (Guard config after questions) =
    (met.0 ≡ codes "guard") × (first_of (codes "CONFIG") met.1 ≡ Some config.now)
    × (option_map (λ audit. audit.now) after ≡ first_of (codes "after") met.1)
    × IsSetOf (first_of (codes "questions") met.1) questions
StandsFor met (Show config times) =
    (met.0 ≡ codes "show") × (first_of (codes "CONFIG") met.1 ≡ Some config.now)
    × (option_map (λ events. events.now) times ≡ first_of (codes "times") met.1)
StandsFor met (Bears config form after elections) =
    (met.0 ≡ codes "bears") × (first_of (codes "CONFIG") met.1 ≡ Some config.now)
    × IsFormOf (first_of (codes "json") met.1) form
    × (option_map (λ audit. audit.now) after ≡ first_of (codes "after") met.1)
    × (option_map (λ policy. policy.now) elections ≡ first_of (codes "elections") met.1)
StandsFor met (Verdict config audit fresh) =
    (met.0 ≡ codes "verdict") × (first_of (codes "CONFIG") met.1 ≡ Some config.now)
    × (first_of (codes "audit") met.1 ≡ Some audit.now)
    × IsSetOf (first_of (codes "fresh") met.1) fresh
StandsFor met Linear = met.0 ≡ codes "linear"
StandsFor met (Config config) =
    (met.0 ≡ codes "config") × (first_of (codes "CONFIG") met.1 ≡ Some config.now)

-- the task is the one that the matches' subcommand stands for
abbrev pub IsTaskOf : Option (Text × List Row) → Task → Type 0
IsTaskOf met task = IsSomeAnd met (λ p. StandsFor p task)

-- it is so just where the subcommand that the matches hold has the flag `--explain`
abbrev pub IsExplainOf : Option (Text × List Row) → Bool → Type 0
IsExplainOf met explain = IsSomeAnd met (λ p. IsSetOf (first_of (codes "explain") p.1) explain)
