-- what a process still needs is what the machine's parts say
use Rattle.std.proofs.Common.{◌==◌, ◌≡◌, ℕ, ◌<◌, Bool, false, ◌&&◌, not, [], Option, Some, None, option_map, refl, sym, ◌∙◌, ap, length, slice_get, find}
use Rattle.std.specs.List.{list_any, range_with_len}
use Rattle.std.specs.Option.{option_map_or}
use Rattle.fy_disk.specs.Disk.{Stored, empty_disk}
use Rattle.fy_team.specs.Teams.{Team, Record, is_among, is_acked, members_in}
use Rattle.fy_cluster.specs.declared.machine.Machine.{Machine}
use Rattle.fy_cluster.specs.Setup.{Setup}
use Rattle.fy_cluster.specs.History.{History, BegunRecord, some_is, acked, has_synced, teams, records, members_of, members_for}
use Rattle.fy_cluster.specs.Replies.{is_of_team, needed_by}
use Rattle.fy_cluster.specs.Standing.{Refines, RefinesTeams, begun_of, stored}
use Rattle.fy_cluster.specs.Needs.{has_on, is_of_team_on, is_member_on, needed_on}
use Rattle.fy_cluster.proofs.Delivered.{record_is}
use Rattle.fy_cluster.proofs.Resent.{record_count}
use Rattle.std.proofs.lemmas.Option.{get_or_from_slice_get}

pub has_is : (c : Setup) (h : History) (m : Machine) → Refines c h m → (rec p : ℕ) → p < length c.processes → has_on m rec p ≡ has_synced h rec p
has_is c h m k rec p l = ap (λ (d : Stored). list_any (λ item. item.rec == rec) d.synced) (get_or_from_slice_get m.disks p (stored h p) empty_disk (k.disks.each p l))

pub of_team_is : (h : History) (m : Machine) → RefinesTeams h m.teams → (team rec : ℕ) → is_of_team_on m team rec ≡ is_of_team h team rec
of_team_is h m k team rec = at (slice_get m.teams.records rec) ∙ ap (some_is (λ (b : BegunRecord). b.team == team)) (sym (record_is h m.teams k rec))
  where
    at : (o : Option Record) → option_map_or (λ n. n == team) (option_map (λ (it : Record). it.team) o) false ≡ some_is (λ (b : BegunRecord). b.team == team) (option_map begun_of o)
    at None = refl
    at (Some it) = refl

members_same : (h : History) (m : Machine) → RefinesTeams h m.teams → (p team : ℕ) → option_map_or (λ members. is_among members p) (members_in m.teams team) false ≡ is_among (members_of h team) p
members_same h m k p team = ap (λ ts. option_map_or (λ members. is_among members p) (option_map (λ (it : Team). it.members) (slice_get ts team)) false) k.teams ∙ at (slice_get (teams h) team)
  where
    at : (o : Option Team) → option_map_or (λ members. is_among members p) (option_map (λ (it : Team). it.members) o) false ≡ is_among (option_map_or (λ (t : Team). t.members) o []) p
    at None = refl
    at (Some t) = refl

pub member_is : (h : History) (m : Machine) → RefinesTeams h m.teams → (p rec : ℕ) → is_member_on m p rec ≡ is_among (members_for h rec) p
member_is h m k p rec = at (slice_get m.teams.records rec) ∙ ap (λ (o : Option BegunRecord). is_among (option_map_or (λ b. members_of h b.team) o []) p) (sym (record_is h m.teams k rec))
  where
    at : (o : Option Record) → option_map_or (λ team. option_map_or (λ members. is_among members p) (members_in m.teams team) false) (option_map (λ (it : Record). it.team) o) false ≡ is_among (option_map_or (λ (b : BegunRecord). members_of h b.team) (option_map begun_of o) []) p
    at None = refl
    at (Some it) = members_same h m k p it.team

-- the least needed is the same, by tests that agree
pub needed_is : (c : Setup) (h : History) (m : Machine) → Refines c h m → (p : ℕ) → p < length c.processes → (test test' : ℕ → Bool) → ((rec : ℕ) → test rec ≡ test' rec) → needed_on m p test ≡ needed_by h p test'
needed_is c h m k p l test test' same = λ i. find (λ rec. each rec i) (range_with_len 0 (count i))
  where
    each : (rec : ℕ) → (is_acked m.teams rec && test rec && not (has_on m rec p)) ≡ (acked h rec && test' rec && not (has_synced h rec p))
    each rec = λ i. k.teams.acked rec i && same rec i && not (has_is c h m k rec p l i)

    count : length m.teams.records ≡ length (records h)
    count = record_count h m.teams k.teams
