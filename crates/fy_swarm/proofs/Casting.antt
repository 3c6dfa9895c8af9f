-- who plays an actor, by what was made for it
use Rattle.std.proofs.Common.{arith, ◌≡◌, ◌∙◌, ◌≤◌, ◌%◌, ℕ, List, sym, ap, subst}
use Rattle.std.specs.Prelude.{slice_get, Some}
use Rattle.fy_locality.specs.declared.locality.Locality.{Locality}
use Rattle.fy_kinds.specs.declared.kind.Kind.TheVariants.{Reboot, KillInstantly}
use Rattle.fy_kinds.specs.Kinds.{rank}
use Rattle.fy_cluster.specs.Setup.{Setup}
use Rattle.fy_cluster.specs.declared.role.Role.TheVariants.{Fault, Storage}
use Rattle.fy_actors.specs.Schedules.{Schedule, begun, swizzle_acts, attrition_acts}
use Rattle.fy_actors.specs.Drives.{Drive}
use Rattle.fy_actors.specs.Plans.{IsSwizzle, machines_to_kill, everyone, plan_words}
use Rattle.fy_actors.specs.declared.plans.SwizzlePlan.{SwizzlePlan}
use Rattle.fy_swarm.specs.Swarm.{storing, faults_before, Plays}
use Rattle.fy_swarm.specs.declared.player.Player.TheVariants.{Stores, Swizzles, Kills}

pub plays_storage : (c : Setup) (seed actor : ℕ) (processes : List Locality) (driver : Drive) → processes ≡ c.processes → slice_get c.roles actor ≡ Some Storage → driver ≡ storing processes
    → Plays c seed actor (Some (Stores driver))
plays_storage c seed actor processes driver same role made =
    subst (λ (d : Drive). Plays c seed actor (Some (Stores d))) (sym (made ∙ ap storing same)) (Plays.stores role)

pub plays_swizzle : (c : Setup) (seed actor : ℕ) (processes : List Locality) (made : Schedule) → processes ≡ c.processes
    → slice_get c.roles actor ≡ Some Fault → faults_before c.roles actor % 2 ≡ 0
    → ((plan : SwizzlePlan) × IsSwizzle (plan_words processes seed actor) (everyone processes) plan × (made ≡ begun (swizzle_acts processes plan 10)))
    → Plays c seed actor (Some (Swizzles made))
plays_swizzle c seed actor processes made same role even is =
    let here = subst (λ (ps : List Locality). (plan : SwizzlePlan) × IsSwizzle (plan_words ps seed actor) (everyone ps) plan × (made ≡ begun (swizzle_acts ps plan 10))) same is in
    subst (λ (s : Schedule). Plays c seed actor (Some (Swizzles s))) (sym here.2) (Plays.swizzles here.0 role even here.1)

pub plays_attrition : (c : Setup) (seed actor : ℕ) (processes : List Locality) (made : Schedule) → processes ≡ c.processes
    → slice_get c.roles actor ≡ Some Fault → faults_before c.roles actor % 2 ≡ 1
    → ((ordered : rank Reboot ≤ rank KillInstantly) → made ≡ begun (attrition_acts KillInstantly Reboot 0 ordered (machines_to_kill (plan_words processes seed actor) processes 2 1)))
    → Plays c seed actor (Some (Kills made))
plays_attrition c seed actor processes made same role odd is =
    let ordered : rank Reboot ≤ rank KillInstantly = omega arith in
    let here : made ≡ begun (attrition_acts KillInstantly Reboot 0 ordered (machines_to_kill (plan_words c.processes seed actor) c.processes 2 1)) =
    subst (λ (ps : List Locality). made ≡ begun (attrition_acts KillInstantly Reboot 0 ordered (machines_to_kill (plan_words ps seed actor) ps 2 1))) same (is ordered) in
    subst (λ (s : Schedule). Plays c seed actor (Some (Kills s))) (sym here) (Plays.kills ordered role odd)
