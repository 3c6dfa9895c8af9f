use Rattle.std.proofs.Common.{◌≡◌, map}
use Rattle.toml.specs.View.{members_view}
use Rattle.fy_config.specs.Tables.{has_only}
use Rattle.fy_config.proofs.tables.has_only.Given as goal

-- the keys so far are among them
abbrev pub invariant-loop-key : goal.invariant-loop-key
invariant-loop-key l =
    (goal.iterator-loop-key).can_next l.key-iterator
    × (goal.iterator-loop-key).is_finite l.key-iterator
    × (has_only (map (λ key. key.now) l.keys) (members_view l.key-iterator)
    ≡ has_only (map (λ key. key.now) l.keys) (members_view l.table.entries))
