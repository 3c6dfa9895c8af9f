-- only processes that there are are destroyed
use Rattle.std.proofs.Common.{◌≡◌, ◌∙◌, ℕ, ◌≤◌, ◌<◌, ◌&&◌, ◌||◌, not, Bool, true, false, List, [], ◌∷◌, length, take, refl, ap, arith, nat_lt}
use Rattle.std.proofs.lemmas.Bool.Decides.{nat_tests}
use Rattle.fy_acts.specs.declared.act.Act.{Act}
use Rattle.fy_acts.specs.declared.act.Act.TheVariants.{Kill, Clog, Unclog}
use Rattle.fy_acts.specs.declared.entry.Entry.{Entry}
use Rattle.fy_cluster.specs.Setup.{Setup}
use Rattle.fy_cluster.specs.History.{History, step_of, targets_of, left, gone, after, destroys, heals_at, destroyed}
use Rattle.fy_holders.specs.Destroyed.{destroyed_at}
use Rattle.fy_locality.specs.Locality.{has_value}

-- nobody else is left
none_left : (c : Setup) (h : History) (p : ℕ) → length c.processes ≤ p → left c h p ≡ false
none_left c h p outside =
    let no : nat_lt p (length c.processes) ≡ false = grind (arith, nat_tests) in
    ap (λ b. b && not (gone h p)) no

-- nobody else is a target
none_targeted : (c : Setup) (h : History) (p : ℕ) → length c.processes ≤ p → (act : Act) → targets_of c h act p ≡ false
none_targeted c h p outside (Kill order) =
    ap (λ b. b && has_value c.processes order.target.key order.target.value p) (none_left c h p outside)
none_targeted c h p outside (Clog target n) =
    ap (λ b. b && has_value c.processes target.key target.value p) (none_left c h p outside)
none_targeted c h p outside (Unclog target) =
    ap (λ b. b && has_value c.processes target.key target.value p) (none_left c h p outside)
none_targeted c h p outside _ = refl

-- nobody else is destroyed by an entry
none_struck : (c : Setup) (h : History) (p : ℕ) (e : Entry) → length c.processes ≤ p → destroyed h p ≡ false
    → destroyed (step_of c h e ∷ h) p ≡ false
none_struck c h p e outside none =
    ap (λ (b : Bool). destroys (record (step_of c h e) { targets = λ _. b }) p
    || (not (heals_at (step_of c h e) p) && destroyed h p)) (none_targeted c h p outside e.act)
    ∙ ap (λ b. not (heals_at (step_of c h e) p) && b) none
    ∙ none_of (not (heals_at (step_of c h e) p))
  where
    none_of : (b : Bool) → (b && false) ≡ false
    none_of true = refl
    none_of false = refl

none_after : (c : Setup) (h : History) (p : ℕ) (journal : List Entry) → length c.processes ≤ p → destroyed h p ≡ false
    → destroyed (after c h journal) p ≡ false
none_after c h p [] outside none = none
none_after c h p (e ∷ later) outside none =
    none_after c (step_of c h e ∷ h) p later outside (none_struck c h p e outside none)

-- nobody else is destroyed at a position
pub none_destroyed : (c : Setup) (journal : List Entry) (position p : ℕ) → length c.processes ≤ p
    → destroyed_at c journal position p ≡ false
none_destroyed c journal position p outside = none_after c [] p (take position journal) outside refl
