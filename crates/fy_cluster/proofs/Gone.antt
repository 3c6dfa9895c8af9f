-- whoever is gone is destroyed
use Rattle.std.proofs.Common.{◌≡◌, ◌==◌, ◌&&◌, not, ℕ, Bool, true, false, List, [], ◌∷◌, Option, Some, None, if◌then◌else◌, inl, inr, refl, sym, ap, subst, ◌∙◌, arith}
use Rattle.std.specs.List.{AllByRecursion}
use Rattle.std.proofs.lemmas.Bool.{false≢true, or_cases, or_left, or_right, and_from}
use Rattle.std.proofs.lemmas.Bool.Decides.{nat_tests}
use Rattle.fy_locality.specs.declared.ProcId.{ProcId}
use Rattle.fy_kinds.specs.declared.kind.Kind.{Kind}
use Rattle.fy_kinds.specs.declared.kind.Kind.TheVariants.{RebootProcess, Reboot, RebootAndDelete, KillInstantly}
use Rattle.fy_kinds.specs.Kinds.{is_destroying, destroys_for_good}
use Rattle.fy_acts.specs.declared.act.Act.{Act}
use Rattle.fy_acts.specs.declared.act.Act.TheVariants.{Heal}
use Rattle.fy_acts.specs.declared.reply.Reply.{Reply}
use Rattle.fy_acts.specs.declared.entry.Entry.{Entry}
use Rattle.fy_cluster.specs.Setup.{Setup}
use Rattle.fy_cluster.specs.History.{History, step_of, history, is_accepted, some_is, strikes, destroys, heals, heals_at, destroyed, gone}
use Rattle.fy_cluster.specs.Replies.{IsNext, Legal, reasons, refusals}
use Rattle.fy_cluster.proofs.Journals.{kept_after}
use Rattle.fy_cluster.proofs.Strikes.{accepted}

-- those left are all but those gone, of those that there are
pub left_of_gone : (there gone : Bool) → (there && not (there && gone)) ≡ (there && not gone)
left_of_gone false gone = refl
left_of_gone true false = refl
left_of_gone true true = refl

harder : (struck : Option Kind) → some_is destroys_for_good struck ≡ true → some_is is_destroying struck ≡ true
harder None e = absurd (false≢true e)
harder (Some RebootProcess) e = absurd (false≢true e)
harder (Some Reboot) e = absurd (false≢true e)
harder (Some RebootAndDelete) e = refl
harder (Some KillInstantly) e = refl

-- an entry that heals a process is an accepted Heal of it
healed_act : (act : Act) (r : Reply) (p : ℕ) → some_is (λ q. q == p) (heals act r) ≡ true → (process : ProcId) × (act ≡ Heal process) × (is_accepted r ≡ true) × ((process.0 == p) ≡ true)
healed_act (Heal process) r p e = go (is_accepted r) refl e
  where
    go : (b : Bool) → is_accepted r ≡ b → some_is (λ q. q == p) (if b then Some process.0 else None) ≡ true → (other : ProcId) × (Heal process ≡ Heal other) × (is_accepted r ≡ true) × ((other.0 == p) ≡ true)
    go true is e = (process, refl, is, e)
    go false is e = absurd (false≢true e)
healed_act _ r p e = absurd (false≢true e)

-- nobody who is gone is healed
not_gone : (c : Setup) (h : History) (by : ℕ) (process : ProcId) → AllByRecursion (λ t. t.0 ≡ false) (reasons c h by (Heal process)) → gone h process.0 ≡ false
unfolding reasons refusals
not_gone c h by process all = all.1.1.1.0

abbrev pub GoneAreDestroyed : History → Type 0
GoneAreDestroyed h = (p : ℕ) → gone h p ≡ true → destroyed h p ≡ true

gone_next : (c : Setup) (h : History) (e : Entry) → IsNext c h e → GoneAreDestroyed h → GoneAreDestroyed (step_of c h e ∷ h)
gone_next c h e next before p g =
    elim (or_cases (some_is destroys_for_good (strikes (step_of c h e) p)) (gone h p) g) [
      | inl struck ↦ or_left (destroys (step_of c h e) p) _ (harder (strikes (step_of c h e) p) struck)
      | inr was ↦ or_right (destroys (step_of c h e) p) _ (and_from (not (heals_at (step_of c h e) p)) (destroyed h p) (spared was (heals_at (step_of c h e) p) refl) (before p was))
    ]
  where
    spared : gone h p ≡ true → (b : Bool) → heals_at (step_of c h e) p ≡ b → not (heals_at (step_of c h e) p) ≡ true
    spared was false is = ap not is
    spared was true is =
        let act = healed_act e.act e.reply p is in
        let asked = (accepted c h e next act.2).0 in
        let free : gone h act.0.0 ≡ false = not_gone c h e.by act.0 (subst (λ a. AllByRecursion (λ t. t.0 ≡ false) (reasons c h e.by a)) act.1 asked) in
        let same : act.0.0 ≡ p = grind (arith, nat_tests, act.3) in
        absurd (false≢true (sym free ∙ ap (gone h) same ∙ was))

pub gone_are_destroyed : (c : Setup) (journal : List Entry) → Legal c journal → GoneAreDestroyed (history c journal)
gone_are_destroyed c journal legal = kept_after c GoneAreDestroyed (gone_next c) [] journal (λ p g. absurd (false≢true g)) legal.1
