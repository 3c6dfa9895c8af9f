-- what a set of kinds is seen as: for each deed, whether it is in the set
use Rattle.std.specs.Prelude.{Bool}

-- for each deed, whether it is in the set
pub record Members : Type 0 where
  pub reboot_process : Bool
  pub reboot : Bool
  pub reboot_and_delete : Bool
  pub kill_instantly : Bool
  pub clog : Bool
