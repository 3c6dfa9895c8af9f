-- what checked entries have done, as the history of their journal
use Rattle.std.specs.Prelude.{List, [], ◌∷◌, false, if◌then◌else◌}
use Rattle.std.specs.FinSet as sets
use Rattle.fy_cluster.specs.History.{History, Step, is_accepted, removes_of}
use Rattle.fy_check_by_rules.specs.declared.step.FoundStep.{FoundStep}
use Rattle.fy_check_by_rules.specs.declared.past.Past.{Past}

-- a found step, as the rules have it after this history
abbrev pub as_step : History → FoundStep → Step
as_step h s = record {
  entry = s.entry;
  targets = sets.contains s.targets;
  message = s.message;
  sends = s.sends.items;
  removes = λ n. if is_accepted s.entry.reply then removes_of h s.entry.act n else false;
}

-- the history after more steps, the oldest first
abbrev pub past_after : History → List FoundStep → History
past_after h [] = h
past_after h (s ∷ later) = past_after (as_step h s ∷ h) later

-- the history of these steps
unfoldable pub past : List FoundStep → History
past steps = past_after [] steps

-- the history of the entries before
abbrev pub history_of : Past → History
history_of before = past before.steps.now
