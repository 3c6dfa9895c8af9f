-- The rules as they were before there were copies, replaced members and healing: what is destroyed
-- stays so, a team is as it was formed, a mark stays, and a record is acknowledged where every
-- member has one. Of a legal journal without the three acts they say what the present rules say.
use Rattle.std.specs.Prelude.{◌≡◌, ℕ, Bool, ◌&&◌, nat_lt, List, [], ◌∷◌, ◌++◌, length, option_to_list, slice_get}
use Rattle.std.specs.List.{list_any, list_all}
use Rattle.std.specs.Option.{option_map_or}
use Rattle.fy_locality.specs.declared.ProcId.{ProcId}
use Rattle.fy_team.specs.Teams.{Team}
use Rattle.fy_acts.specs.declared.entry.Entry.{Entry}
use Rattle.fy_acts.specs.declared.version.Version.TheVariants.{First}
use Rattle.fy_cluster.specs.Setup.{Setup, IsMet}
use Rattle.fy_cluster.specs.History.{History, ProcessSet, forms, destroys, destroyed, teams, records, marks, marked, acked, history}
use Rattle.fy_cluster.specs.Versions.{LegalUnder}

-- some entry destroyed the process
abbrev pub once_destroyed : History → ProcessSet
once_destroyed h p = list_any (λ m. destroys m p) h

-- the teams as they were formed, by number
abbrev pub teams_formed : History → List Team
teams_formed [] = []
teams_formed (m ∷ h) = teams_formed h ++ option_to_list (forms m.entry.act m.entry.reply)

-- the members with whom the record's team was formed
abbrev pub formed_for : History → ℕ → List ProcId
formed_for h rec = option_map_or
    (λ b. option_map_or (λ t. t.members) (slice_get (teams_formed h) b.team) [])
    (slice_get (records h) rec)
    []

-- some entry delivered a Synced of the record from the process
abbrev pub once_marked : History → ℕ → ProcessSet
once_marked h r p = list_any (λ m. marks m r p) h

-- the record was begun, and every member of its team has a mark
abbrev pub marked_by_all : History → ℕ → Bool
marked_by_all h r =
    nat_lt r (length (records h)) && list_all (λ p. once_marked h r p.0) (formed_for h r)

-- who is destroyed, who is in which team, the marks and what is acknowledged are as by these rules
pub record IsAsEarlier (h : History) : Type 0 where
  pub destroyed_then : (p : ℕ) → destroyed h p ≡ once_destroyed h p
  pub teams_then : teams h ≡ teams_formed h
  pub marked_then : (r p : ℕ) → marked h r p ≡ once_marked h r p
  pub acked_then : (r : ℕ) → acked h r ≡ marked_by_all h r

-- so it is of every legal journal of the first version, which has none of the three acts
abbrev pub EarlierRulesHold : Type 0
EarlierRulesHold =
    (c : Setup) (journal : List Entry) → IsMet c → LegalUnder First c journal →
    IsAsEarlier (history c journal)
