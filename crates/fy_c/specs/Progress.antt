-- how far an audit was read
use Rattle.std.specs.Prelude.{ℕ}
use Rattle.fy_replay.specs.Replayed.{Replayed}

-- what was read: so many entries and so many bytes, and what was replayed
pub record Progress : Type 0 where
  pub replayed : Replayed
  pub count : ℕ
  pub bytes : ℕ
