-- orders to kill
use Rattle.std.specs.Prelude.{ℕ, ◌≤◌}
use Rattle.fy_kinds.specs.declared.kind.Kind.{Kind}
use Rattle.fy_kinds.specs.declared.order.Target.{Target}
use Rattle.fy_kinds.specs.Kinds.{rank}

-- whom to kill, how, the mildest kind that may take its place and isn't above it, and which
-- unsynced writes a reboot keeps
pub record Order : Type 0 where
  pub target : Target
  pub kind : Kind
  pub floor : Kind
  pub tear : ℕ
  pub ordered : rank floor ≤ rank kind
