-- what a cluster shows of its processes is what the machine's parts say
use Rattle.std.proofs.Common.{◌≡◌, ℕ, ◌<◌, ◌≤◌, Bool, true, false, ◌&&◌, Option, Some, None, refl, sym, ◌∙◌, ap, ap₂, arith, nat_lt, length, slice_get}
use Rattle.std.proofs.lemmas.List.{get_or_past}
use Rattle.std.proofs.lemmas.Bool.Decides.{nat_tests}
use Rattle.std.specs.FinSet as sets
use Rattle.std.specs.Ordering.{nat_cmp}
use Rattle.std.specs.Cmp.{nat_cmp_total}
use Rattle.fy_kinds.specs.declared.verdict.Verdict.{Verdict as VerdictOf}
use Rattle.fy_kinds.specs.Orders.{Order}
use Rattle.fy_decide.specs.Verdicts.{situation_of, verdict}
use Rattle.fy_acts.specs.declared.act.Act.TheVariants.{Kill}
use Rattle.fy_acts.specs.declared.reply.Reply.TheVariants.{No, Verdict}
use Rattle.fy_acts.specs.declared.reply.Refusal.TheVariants.{Stranger}
use Rattle.fy_cluster.specs.declared.machine.Machine.{Machine}
use Rattle.fy_cluster.specs.declared.role.Role.{Role}
use Rattle.fy_cluster.specs.Setup.{Setup}
use Rattle.fy_cluster.specs.History.{History, clogged, members_for, up}
use Rattle.fy_cluster.specs.Replies.{reply}
use Rattle.fy_cluster.specs.Needs.{is_member_on, needed_on}
use Rattle.fy_team.specs.Teams.{is_among}
use Rattle.fy_net.specs.Net.{is_clogged}
use Rattle.fy_cluster.specs.Sights.{clogged_in, needed_at, up_in}
use Rattle.fy_cluster.specs.Standing.{Refines}
use Rattle.fy_cluster.proofs.Entering.{stranger, may_reply}
use Rattle.fy_cluster.proofs.Judged.{judged}
use Rattle.fy_cluster.proofs.Needed.{needed_is, member_is}

-- who is up, among those that are there
pub up_is : (c : Setup) (h : History) (m : Machine) → Refines c h m → (everyone out : sets.FinSet nat_cmp) → ((q : ℕ) → sets.contains everyone q ≡ nat_lt q (length c.processes)) → out ≡ sets.intersection everyone m.up
    → (p : ℕ) → sets.contains out p ≡ up_in c h p
up_is c h m k everyone out all is p = ap (λ s. sets.contains s p) is ∙ sets.contains-intersection nat_cmp_total everyone m.up p ∙ ap (λ b. b && sets.contains m.up p) (all p) ∙ at (nat_lt p (length c.processes)) refl
  where
    at : (b : Bool) → nat_lt p (length c.processes) ≡ b → (b && sets.contains m.up p) ≡ (b && up h p)
    at true e = let there : p < length c.processes = grind (arith, nat_tests) in k.up.each p there
    at false e = refl

-- ---- a set that is made process by process

-- nothing is below 0
nothing_below : (n : ℕ) → nat_lt n 0 ≡ false
nothing_below n = grind (arith, nat_tests)

-- who is clogged, among those that are there
pub clogged_is : (c : Setup) (h : History) (m : Machine) → Refines c h m → (out : sets.FinSet nat_cmp) → ((q : ℕ) → sets.contains out q ≡ is_clogged m.net q)
    → (p : ℕ) → sets.contains out p ≡ clogged_in c h p
clogged_is c h m k out each p = each p ∙ at (nat_lt p (length c.processes)) refl
  where
    at : (b : Bool) → nat_lt p (length c.processes) ≡ b → is_clogged m.net p ≡ (b && clogged h p)
    at true e =
        let there : p < length c.processes = grind (arith, nat_tests) in
        ap₂ (λ now end. nat_lt now end) k.net.clock (k.net.ends p there)
    at false e =
        let past : length m.net.until ≤ p = (let count = k.net.count in let over : length c.processes ≤ p = grind (arith, nat_tests) in omega (arith, count, over)) in
        ap (nat_lt m.net.clock) (get_or_past m.net.until p 0 past) ∙ nothing_below m.net.clock

-- the least record that a process which is there still needs
pub needed_is_at : (c : Setup) (h : History) (m : Machine) → Refines c h m → (p : ℕ) → p < length c.processes → (found : Option ℕ) → found ≡ needed_on m p (is_member_on m p) → found ≡ needed_at h p
needed_is_at c h m k p there found is = is ∙ needed_is c h m k p there (is_member_on m p) (λ r. is_among (members_for h r) p) (member_is h m k.teams p)

-- what a kill would be replied
pub judged_now : (c : Setup) (h : History) (m : Machine) → Refines c h m → (by : ℕ) (order : Order) (role : Role) (v : VerdictOf) → slice_get c.roles by ≡ Some role → v ≡ verdict (situation_of m.dead m.book by) order → Verdict v ≡ reply c h by (Kill order)
judged_now c h m k by order role v there is = judged c h m k by order v is ∙ sym (may_reply c h by (Kill order) role there refl)

pub judged_stranger : (c : Setup) (h : History) (by : ℕ) (order : Order) → slice_get c.roles by ≡ None → No Stranger ≡ reply c h by (Kill order)
judged_stranger c h by order none = sym (stranger c h by (Kill order) none)
