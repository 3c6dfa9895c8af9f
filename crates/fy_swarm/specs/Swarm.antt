-- who plays which actor of a swarm, and what is written of it
use Rattle.std.specs.Prelude.{◌≡◌, ◌≤◌, ◌⊎◌, ℕ, ◌%◌, Bool, true, false, List, [], ◌∷◌, length, map, take, Contains, ◌<◌, Option, Some, None, slice_get}
use Rattle.std.specs.List.{range_with_len, count_by}
use Rattle.fy_locality.specs.declared.locality.Locality.{Locality}
use Rattle.fy_kinds.specs.declared.kind.Kind.TheVariants.{Reboot, KillInstantly}
use Rattle.fy_kinds.specs.Kinds.{rank}
use Rattle.fy_acts.specs.declared.entry.Entry.{Entry}
use Rattle.fy_audit.specs.AuditText.{audit_text}
use Rattle.fy_acts.specs.declared.version.Version.TheVariants.{Second}
use Rattle.fy_cluster.specs.Setup.{Setup}
use Rattle.fy_cluster.specs.Survival.{Survives}
use Rattle.fy_cluster.specs.declared.role.Role.{Role}
use Rattle.fy_cluster.specs.declared.role.Role.TheVariants.{Fault, Storage, Operator}
use Rattle.fy_actors.specs.Plans.{IsSwizzle, machines_to_kill, everyone, plan_words}
use Rattle.fy_actors.specs.Schedules.{begun, swizzle_acts, attrition_acts}
use Rattle.fy_actors.specs.Drives.{Drive}
use Rattle.fy_actors.specs.Desk.{entries_by}
use Rattle.fy_actors.specs.Parts.{Part, has_next_act, KeepsTo}
use Rattle.fy_actors.specs.Parts.Part.{Acts, Stores as StoresPart}
use Rattle.fy_actors.specs.declared.plans.SwizzlePlan.{SwizzlePlan}
use Rattle.fy_actors.specs.declared.driver.Team.TheVariants.{Unformed}
use Rattle.fy_shared.specs.Yard.{Yard, SeatState}
use Rattle.fy_shared.specs.Parts.{KeepsPart}
use Rattle.fy_swarm.specs.declared.player.Player.{Player}
use Rattle.fy_swarm.specs.declared.player.Player.TheVariants.{Stores, Swizzles, Kills}

-- four payloads of a byte each, 0 to 3
abbrev pub payloads : List (List ℕ)
payloads = map (λ byte. byte ∷ []) (range_with_len 0 4)

-- who stores these in a team of all processes, under the first policy, by 200 acts in all
abbrev pub storing : List Locality → Drive
storing processes = record {
  members = everyone processes;
  policy = 0;
  payloads = payloads;
  acts = 200;
  team = Unformed;
  made = 0;
}

-- whether a role is that of fault actors
abbrev pub is_fault : Role → Bool
is_fault Fault = true
is_fault _ = false

-- how many of the actors before this one are fault actors
abbrev pub faults_before : List Role → ℕ → ℕ
faults_before roles actor = count_by is_fault (take actor roles)

-- who plays an actor, by its role and number. The first, third, .. fault actor clogs processes for
-- ten ticks and frees them; the second, fourth, .. kills two machines, but not the last one; nobody
-- plays an operator
pub data Plays (setup : Setup) (seed actor : ℕ) : Option Player → Type 0 where
  stores : slice_get setup.roles actor ≡ Some Storage →
      Plays setup seed actor (Some (Stores (storing setup.processes)))
  swizzles : (plan : SwizzlePlan) → slice_get setup.roles actor ≡ Some Fault →
      faults_before setup.roles actor % 2 ≡ 0 →
      IsSwizzle (plan_words setup.processes seed actor) (everyone setup.processes) plan →
      Plays setup seed actor (Some (Swizzles (begun (swizzle_acts setup.processes plan 10))))
  kills : (ordered : rank Reboot ≤ rank KillInstantly) → slice_get setup.roles actor ≡ Some Fault →
      faults_before setup.roles actor % 2 ≡ 1 →
      Plays setup seed actor (Some (Kills (begun (attrition_acts KillInstantly Reboot 0 ordered
      (machines_to_kill (plan_words setup.processes seed actor) setup.processes 2 1)))))
  rests : slice_get setup.roles actor ≡ Some Operator → Plays setup seed actor None

-- whether a swarm lets an actor of the role act; nobody has a number beyond the actors
abbrev pub is_active : Option Role → Bool
is_active (Some Storage) = true
is_active (Some Fault) = true
is_active (Some Operator) = false
is_active None = false

-- the part that a player plays
abbrev pub part_of : Player → Part
part_of (Stores drive) = StoresPart drive
part_of (Swizzles schedule) = Acts schedule
part_of (Kills schedule) = Acts schedule

-- how many turns an actor takes at most
abbrev pub most_turns : ℕ
most_turns = 1000

-- an actor has played: each of its entries has the act that came next in its part. And no act is
-- left, or it has as many entries as it may take turns, or the journal is full
pub record HasPlayed (setup : Setup) (actor : ℕ) (player : Player) (journal : List Entry)
    : Type 0 where
  pub now : Part
  pub keeps : KeepsTo setup actor (part_of player) journal now
  pub through : (has_next_act now ≡ false) ⊎ ((length (entries_by actor journal) ≡ most_turns)
      ⊎ (setup.limit ≤ length journal))

-- the journal that a swarm leaves: it keeps what every legal journal keeps, who is let loose has
-- played what the actor's role and words say, and it has no entry of anybody else
pub record IsSwarm (setup : Setup) (seed : ℕ) (journal : List Entry) : Type 0 where
  pub survives : Survives setup journal
  pub played : (a : ℕ) → is_active (slice_get setup.roles a) ≡ true →
      (player : Player) × Plays setup seed a (Some player) × HasPlayed setup a player journal
  pub quiet : (a : ℕ) → is_active (slice_get setup.roles a) ≡ false →
      entries_by a journal ≡ []

-- what holds of the audit of such a journal
abbrev pub HasSwarmAudit : Setup → ℕ → (List ℕ → Type 0) → Type 0
HasSwarmAudit setup seed P =
    (journal : List Entry) × IsSwarm setup seed journal × P (audit_text Second journal)

-- ---- seats whose actors have played

-- the seat of an actor that has played, in all that the seat has seen
pub record Finished (y : Yard) (actor : ℕ) (player : Player) (s : SeatState) : Type 0 where
  pub number : s.actor ≡ actor
  pub now : Part
  pub follows : KeepsPart y (part_of player) s now
  pub through : (has_next_act now ≡ false) ⊎ ((length s.receipts ≡ most_turns)
      ⊎ (y.setup.limit ≤ length s.seen))

-- each actor that is let loose has played what its role and words say, at one of these seats
abbrev pub AllFinished : Setup → ℕ → Yard → List SeatState → Type 0
AllFinished setup seed y seats =
    (a : ℕ) → a < length setup.roles → is_active (slice_get setup.roles a) ≡ true →
    (player : Player) × Plays setup seed a (Some player)
    × (s : SeatState) × Contains seats s × Finished y a player s
