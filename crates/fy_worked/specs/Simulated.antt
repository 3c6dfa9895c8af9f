-- a simulation of two turns, whose words ChaCha gives for its seed, and journals that it doesn't
-- make
use Rattle.std.specs.Prelude.{ℕ, List, [], ◌∷◌, Some, None, codes}
use Rattle.std.proofs.Common.{refl}
use Rattle.std.proofs.lemmas.Bool.{leb-true}
use Rattle.fy_locality.specs.declared.ProcId.{ProcId}
use Rattle.fy_locality.specs.declared.key.Key.TheVariants.{Process}
use Rattle.fy_policy.specs.Tree.{one}
use Rattle.fy_kinds.specs.declared.kind.Kind.TheVariants.{RebootProcess}
use Rattle.fy_kinds.specs.declared.verdict.Rule.TheVariants.{Protected}
use Rattle.fy_kinds.specs.Kinds.{Striking, only, every_deed}
use Rattle.fy_grants.specs.declared.grant.Scope.TheVariants.{All}
use Rattle.fy_acts.specs.declared.act.Act.{Act}
use Rattle.fy_acts.specs.declared.act.Act.TheVariants.{Kill, Protect}
use Rattle.fy_acts.specs.declared.reply.Reply.{Reply}
use Rattle.fy_acts.specs.declared.reply.Reply.TheVariants.{Verdict, Done}
use Rattle.fy_acts.specs.declared.entry.Entry.{Entry}
use Rattle.fy_cluster.specs.declared.role.Role.TheVariants.{Fault, Operator}
use Rattle.fy_cluster.specs.Setup.{Setup}
use Rattle.fy_players.specs.declared.faults.Plan.TheVariants.{Rolling}
use Rattle.fy_simulate.specs.Simulate.{IsSimulated}
use Rattle.fy_worked.specs.Tolerated.{located}

-- two processes, of which one is enough; actor 0 operates, actor 1 may do all, and a journal may
-- have two entries
abbrev pub two : Setup
two = record {
  processes =
      located (codes "p0") (codes "m0") (codes "z0")
      ∷ located (codes "p1") (codes "m1") (codes "z1") ∷ [];
  policies = one ∷ [];
  roles = Operator ∷ Fault ∷ [];
  grants = record { actor = 1; kinds = every_deed; scope = All } ∷ [];
  protections = [];
  limit = 2;
}

-- the process with a number
abbrev pub process : ℕ → ProcId
process p = record { 0 = p }

-- a process is protected from restarts
abbrev pub protect : ℕ → Act
protect p = Protect (process p) (only (Striking RebootProcess))

-- the process of this name is to be restarted
abbrev pub restart : List ℕ → Act
restart name = Kill (record {
  target = record { key = Process; value = name };
  kind = RebootProcess;
  floor = RebootProcess;
  tear = 0;
  ordered = leb-true 0 0 refl;
})

-- nothing is struck, for the process is protected
abbrev pub barred : ℕ → Reply
barred p = Verdict (record { struck = None; rule = Some (Protected (process p)) })

-- the process is struck as ordered
abbrev pub struck : Reply
struck = Verdict (record { struck = Some RebootProcess; rule = None })

-- the entry at a place, by an actor
abbrev pub entry : (at by : ℕ) → Act → Reply → Entry
entry at by act reply = record { at = at; by = by; act = act; reply = reply }

-- in so many turns seed 142 and the plan Rolling make this journal
abbrev pub Makes : (turns : ℕ) → List Entry → Type 0
Makes turns journal = IsSimulated two 142 Rolling turns journal

-- the first turn is the operator's, whose words say: protect the first process
abbrev pub first_turn : List Entry
first_turn = entry 0 0 (protect 0) Done ∷ []

-- the second is the fault actor's, whose plan begins with the first process
abbrev pub both_turns : List Entry
both_turns = entry 0 0 (protect 0) Done ∷ entry 1 1 (restart (codes "p0")) (barred 0) ∷ []

-- the other way round
abbrev pub swapped : List Entry
swapped = entry 0 1 (restart (codes "p0")) struck ∷ entry 1 0 (protect 0) Done ∷ []

-- the protection is overlooked
abbrev pub overlooked : List Entry
overlooked = entry 0 0 (protect 0) Done ∷ entry 1 1 (restart (codes "p0")) struck ∷ []

-- the plan begins with the second process
abbrev pub from_the_second : List Entry
from_the_second = entry 0 0 (protect 0) Done ∷ entry 1 1 (restart (codes "p1")) struck ∷ []

-- the operator protects another process than its words say
abbrev pub another_protected : List Entry
another_protected = entry 0 0 (protect 1) Done ∷ entry 1 1 (restart (codes "p0")) struck ∷ []
