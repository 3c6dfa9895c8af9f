use Rattle.std.proofs.Common.{◌≡◌, ℕ, Bool, true, ◌&&◌, not, nat_lt, [], length, sym, ap, subst, ◌∙◌}
use Rattle.std.specs.FinSet as sets
use Rattle.std.proofs.lemmas.Bool.{and_parts}
use Rattle.std.proofs.lemmas.List.{append-nil}
use Rattle.fy_decide.specs.Safety.{AreShort, AreSatisfied, everyone, without_set}
use Rattle.fy_cluster.specs.Execution.{history_of}
use Rattle.fy_cluster.specs.History.{History, destroyed, gone, left}
use Rattle.fy_cluster.specs.Setup.{Setup}
use Rattle.fy_cluster.specs.Survival.{IsSafeAfter}
use Rattle.fy_cluster.proofs.Gone.{gone_are_destroyed, left_of_gone}
use Rattle.fy_tolerance.specs.Bears.{HasLost, IsAfterLosses}
use Rattle.fy_questions.proofs.bearing.book_now.Goals as goal

pub returns : goal.returns
returns c =
    let s : Setup = c.args.cluster.now.setup in
    let h : History = history_of c.args.cluster.now in
    let losses = c.args.losses.now in
    let lived = c.survives.ensures in
    let safe : IsSafeAfter s h = lived.safe c.args.cluster.now.journal [] (sym (append-nil c.args.cluster.now.journal)) in
    let map_is = c.map.ensures ∙ ap (λ (x : Setup). x.processes) c.config-config.ensures in
    let policies_are = c.policies.ensures ∙ ap (λ (x : Setup). x.policies) c.config-config.ensures in
    let after : IsAfterLosses s.processes s.policies losses.destroyed losses.gone c.in_ok-dead.dead =
    subst (λ qs. IsAfterLosses s.processes qs losses.destroyed losses.gone c.in_ok-dead.dead) policies_are
    (subst (λ ps. IsAfterLosses ps c.policies.result.now losses.destroyed losses.gone c.in_ok-dead.dead) map_is c.in_ok-dead.ensures.losses) in
    let destroyed_is : sets.contains losses.destroyed ≡ destroyed h = (λ i p. c.requires.destroyed p i) in
    let left_is : without_set (everyone s.processes) (sets.contains losses.gone) ≡ left s h =
    (λ i p. (ap (λ b. nat_lt p (length s.processes) && not b) (c.requires.gone p) ∙ left_of_gone (nat_lt p (length s.processes)) (gone h p)) i) in
    let short : AreShort s.processes s.policies (sets.contains losses.destroyed) = subst (AreShort s.processes s.policies) (sym destroyed_is) safe.short in
    let met : AreSatisfied s.processes s.policies (without_set (everyone s.processes) (sets.contains losses.gone)) = subst (AreSatisfied s.processes s.policies) (sym left_is) safe.satisfied in
    let within : (p : ℕ) → sets.contains losses.gone p ≡ true → sets.contains losses.destroyed p ≡ true =
    (λ p g. c.requires.destroyed p ∙ gone_are_destroyed s c.args.cluster.now.journal lived.legal p (and_parts (nat_lt p (length s.processes)) (gone h p) (sym (c.requires.gone p) ∙ g)).1) in
    let has : HasLost s.processes losses.destroyed losses.gone c.in_ok-dead.dead = c.nothing_is_dropped.ensures s.processes s.policies losses.destroyed losses.gone c.in_ok-dead.dead after short met within in
    record {
      processes_are = c.in_ok-dead.ensures.processes ∙ map_is;
      policies_are = c.in_ok-dead.ensures.policies ∙ policies_are;
      destroyed = λ p. has.destroyed_are p ∙ c.requires.destroyed p;
      left = λ p. has.left_are p ∙ ap (λ (t : ℕ → Bool). t p) left_is;
    }
