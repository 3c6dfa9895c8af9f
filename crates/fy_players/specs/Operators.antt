-- what an operator does at its turn
use Rattle.std.specs.Prelude.{ℕ, ◌%◌, ◌==◌, nat_lt, length, if◌then◌else◌}
use Rattle.fy_grants.specs.declared.grant.Grant.{Grant}
use Rattle.fy_grants.specs.declared.grant.Scope.{Scope}
use Rattle.fy_grants.specs.declared.grant.Scope.TheVariants.{All, Where}
use Rattle.fy_acts.specs.declared.act.Act.{Act}
use Rattle.fy_acts.specs.declared.act.Act.TheVariants as act
use Rattle.fy_cluster.specs.Setup.{Setup}
use Rattle.fy_players.specs.declared.draws.Words.{Words}
use Rattle.fy_players.specs.declared.operator.Choice.{Choice}
use Rattle.fy_players.specs.declared.operator.Choice.TheVariants as choice
use Rattle.fy_players.specs.Picks.{pick, process_of, kinds_of, key_of, target_of}

-- of 16 words five protect, six unprotect, two give, two take, and one does what it may not do
abbrev pub choice_of : ℕ → Choice
choice_of word =
    let k = word % 16 in
    if nat_lt k 5 then choice.Protect
    else (if nat_lt k 11 then choice.Unprotect
    else (if nat_lt k 13 then choice.Give
    else (if nat_lt k 15 then choice.Take else choice.Stray)))

-- everywhere, or on a target
abbrev pub scope_of : Setup → Words → Scope
scope_of c words =
    if words.third % 2 == 0 then All
    else Where (target_of words.fifth (key_of words.fourth) c.processes)

-- some kinds for an actor
abbrev pub grant_of : Setup → Words → Grant
grant_of c words = record {
  actor = pick words.first (length c.roles);
  kinds = kinds_of words.second;
  scope = scope_of c words;
}

-- the act of a turn, by the choice
abbrev pub operates_by : Setup → Words → Choice → Act
operates_by c words choice.Protect =
    act.Protect (process_of words.first c.processes) (kinds_of words.second)
operates_by c words choice.Unprotect =
    act.Unprotect (process_of words.first c.processes) (kinds_of words.second)
operates_by c words choice.Give = act.Give (grant_of c words)
operates_by c words choice.Take = act.Take (pick words.first (length c.roles)) (words.second % 4)
operates_by c words choice.Stray = act.Sync (process_of words.first c.processes)

-- the act of a turn
abbrev pub operates : Setup → Words → Act
operates c words = operates_by c words (choice_of words.choice)
