-- what later steps do
use Rattle.std.specs.Prelude.{List, [], ◌∷◌}
use Rattle.fy_cluster.specs.History.{History, Step}
use Rattle.fy_check_by_rules.specs.declared.step.FoundStep.{FoundStep}
use Rattle.fy_check_by_rules.specs.Past.{as_step}

-- later steps, as the rules have them after this history, the oldest first
abbrev pub later_after : History → List FoundStep → List Step
later_after h [] = []
later_after h (s ∷ later) = as_step h s ∷ later_after (as_step h s ∷ h) later
