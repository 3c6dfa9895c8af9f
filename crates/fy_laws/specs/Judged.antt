-- orders in a situation, whose right and wrong answers the words of a verdict tell apart
use Rattle.std.specs.Prelude.{ℕ, List, [], ◌∷◌, ◌++◌, Option, length, codes}
use Rattle.std.proofs.lemmas.Bool.{leb-true}
use Rattle.std.proofs.Common.{refl}
use Rattle.fy_kinds.specs.declared.kind.Kind.{Kind}
use Rattle.fy_kinds.specs.declared.kind.Kind.TheVariants.{Reboot, RebootAndDelete, KillInstantly}
use Rattle.fy_kinds.specs.declared.verdict.Rule.{Rule}
use Rattle.fy_kinds.specs.Orders.{Order}
use Rattle.fy_decide.specs.Verdicts.{Situation, order_targets}
use Rattle.fy_decide.specs.Hardest.{StrikesHardest, FirstRule}
use Rattle.fy_acts.specs.declared.act.Act.TheVariants.{Kill, Protect}
use Rattle.fy_acts.specs.declared.reply.Reply.{Reply}
use Rattle.fy_acts.specs.declared.reply.Reply.TheVariants.{Done}
use Rattle.fy_acts.specs.declared.entry.Entry.{Entry}
use Rattle.fy_cluster.specs.Setup.{Setup}
use Rattle.fy_cluster.specs.History.{history}
use Rattle.fy_cluster.specs.Rules.{situation}
use Rattle.fy_cluster.specs.Survival.{IsJudged}
use Rattle.fy_laws.specs.Clusters.{six_under, in_two_zones, entry, process, zone_named, process_named, order, kill_order, empty, struck}
use Rattle.fy_laws.specs.Permission.{destroying}

-- ---- an order that an actor gives after a journal

-- the situation in which it is answered
abbrev pub situation_after : Setup → List Entry → ℕ → Situation
situation_after c before by = situation c (history c before) by

-- by the words of the verdict this strikes
abbrev pub StrikesAfter : Setup → List Entry → ℕ → Order → Option Kind → Type 0
StrikesAfter c before by given kind =
    let s = situation_after c before by in
    StrikesHardest s given (order_targets s given) kind

-- by the words of the verdict this rule is named against the ordered kind
abbrev pub NamesAfter : Setup → List Entry → ℕ → Order → Option Rule → Type 0
NamesAfter c before by given rule =
    let s = situation_after c before by in
    FirstRule s given.kind (order_targets s given) rule

-- the entry of the order with a reply
abbrev pub killing : List Entry → ℕ → Order → Reply → Entry
killing before by given reply = entry (length before) by (Kill given) reply

-- the journal with that entry
abbrev pub with_kill : List Entry → ℕ → Order → Reply → List Entry
with_kill before by given reply = before ++ killing before by given reply ∷ []

-- the reply is the judgement of the order
abbrev pub JudgedAfter : Setup → List Entry → ℕ → Order → Reply → Type 0
JudgedAfter c before by given reply =
    IsJudged c (history c before) (killing before by given reply) given

-- ---- orders

-- kill the first zone for good, or else down to a reboot
abbrev pub first_kill : Order
first_kill = kill_order (zone_named (codes "z0"))

-- the same where there is no such zone
abbrev pub nobody_killed : Order
nobody_killed = kill_order (zone_named (codes "z9"))

-- kill the first zone for good, or else nothing
abbrev pub kill_alone : Order
kill_alone = order (zone_named (codes "z0")) KillInstantly KillInstantly (leb-true 3 3 refl) 0

-- reboot the first zone
abbrev pub reboot_alone : Order
reboot_alone = order (zone_named (codes "z0")) Reboot Reboot (leb-true 1 1 refl) 0

-- ---- what was before

-- a process of the first zone is emptied
abbrev pub one_emptied : List Entry
one_emptied = entry 0 1 (empty (process_named (codes "p0"))) (struck RebootAndDelete) ∷ []

-- the second process of the first zone is protected
abbrev pub one_protected : List Entry
one_protected = entry 0 4 (Protect (process 1) destroying) Done ∷ []

-- both are
abbrev pub two_protected : List Entry
two_protected =
    entry 0 4 (Protect (process 0) destroying) Done
    ∷ entry 1 4 (Protect (process 1) destroying) Done
    ∷ []

-- a process of the first zone is emptied, and one of the second protected
abbrev pub emptied_and_protected : List Entry
emptied_and_protected = one_emptied ++ entry 1 4 (Protect (process 3) destroying) Done ∷ []

-- the six under the policy of two zones twice
abbrev pub six_twice : Setup
six_twice = six_under (in_two_zones ∷ in_two_zones ∷ [])
