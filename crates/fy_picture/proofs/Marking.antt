-- which record an entry acknowledges
use Rattle.std.proofs.Common.{◌≡◌, ◌∙◌, ◌==◌, ℕ, Bool, true, false, not, Option, Some, None, option_map, ◌∷◌, slice_get, refl, sym, ap, subst, eq-eqb, if◌then◌else◌}
use Rattle.std.specs.Prelude.{option_and_then}
use Rattle.std.specs.List.{AllByRecursion}
use Rattle.std.proofs.lemmas.Bool.{true≢false, false≢true, eqb-true}
use Rattle.fy_locality.specs.declared.ProcId.{ProcId}
use Rattle.fy_net.specs.declared.message.Body.{Body}
use Rattle.fy_net.specs.declared.message.Body.TheVariants.{Store, Synced}
use Rattle.fy_acts.specs.declared.act.Act.{Act}
use Rattle.fy_acts.specs.declared.act.Act.TheVariants.{Deliver}
use Rattle.fy_acts.specs.declared.reply.Reply.{Reply}
use Rattle.fy_acts.specs.declared.reply.Reply.TheVariants.{Marked}
use Rattle.fy_acts.specs.declared.entry.Entry.{Entry}
use Rattle.fy_cluster.specs.Setup.{Setup}
use Rattle.fy_cluster.specs.History.{History, step_of, some_is, is_accepted, sent, in_flight, ack_of, acked, record_marked}
use Rattle.fy_cluster.specs.Replies.{IsNext, reasons, refusals}
use Rattle.fy_cluster.specs.Survival.{IsTold}
use Rattle.fy_cluster.proofs.Strikes.{accepted}
use Rattle.fy_picture.specs.Keeping.{acknowledged, says_acked}

-- what is marked is named by an acknowledgement, which the act delivers
marked_by : (h : History) (act : Act) (r : ℕ) → record_marked h act ≡ Some r →
    (n : ℕ) × (from : ProcId) × (act ≡ Deliver n) × (slice_get (sent h) n ≡ Some (Synced r from))
marked_by h (Deliver n) r is = at (in_flight h n) (slice_get (sent h) n) refl is
  where
    at : (b : Bool) (o : Option Body) → slice_get (sent h) n ≡ o → (if b then option_map (λ w. w.0) (option_and_then ack_of o) else None) ≡ Some r
        → (k : ℕ) × (from : ProcId) × (Deliver n ≡ Deliver k) × (slice_get (sent h) k ≡ Some (Synced r from))
    at true (Some (Synced rec from)) there it = let same : rec ≡ r = cc in (n, from, refl, there ∙ ap (λ k. Some (Synced k from)) same)
    at true (Some (Store rec to)) there it = absurd (let bad : ⊥ = cc in bad)
    at true None there it = absurd (let bad : ⊥ = cc in bad)
    at false o there it = absurd (let bad : ⊥ = cc in bad)
marked_by h _ r is = absurd (let bad : ⊥ = cc in bad)

-- an acknowledgement in flight marks its record
marks_it : (h : History) (n r : ℕ) (from : ProcId) → in_flight h n ≡ true → slice_get (sent h) n ≡ Some (Synced r from) → record_marked h (Deliver n) ≡ Some r
marks_it h n r from flies there = rw (flies, there) refl

not_false : (b : Bool) → not b ≡ false → b ≡ true
not_false true e = refl
not_false false e = absurd (true≢false e)

-- a message that is delivered is in flight
is_in_flight : (c : Setup) (h : History) (by n : ℕ) → AllByRecursion (λ t. t.0 ≡ false) (reasons c h by (Deliver n)) → in_flight h n ≡ true
unfolding reasons refusals
is_in_flight c h by n all = not_false (in_flight h n) all.1.1.0

-- a reply that says so is the one that does
says_so : (reply : Reply) → says_acked reply ≡ true → reply ≡ Marked true
says_so (Marked true) e = refl
says_so (Marked false) e = absurd (false≢true e)
says_so _ e = absurd (false≢true e)

module _ (c : Setup) (h : History) (e : Entry) (next : IsNext c h e) (told : IsTold c h e) (r : ℕ) where
  abbrev marked : Option ℕ
  marked = record_marked h e.act

  abbrev acked_then : Bool
  acked_then = acked (step_of c h e ∷ h) r

  abbrev says : Option ℕ → Bool
  says found = some_is (λ rec. rec == r) found

  -- a record that is acknowledged only now is said to be
  now_said : acked h r ≡ false → acked_then ≡ true → says (acknowledged e.reply marked) ≡ true
  now_said before now =
      let found = told.acknowledged r before now in
      let act : e.act ≡ Deliver found.0 = found.2 in
      let reply : e.reply ≡ Marked true = found.4 in
      let none = (accepted c h e next (ap is_accepted reply)).0 in
      let flies = is_in_flight c h e.by found.0 (subst (λ a. AllByRecursion (λ t. t.0 ≡ false) (reasons c h e.by a)) act none) in
      let own : marked ≡ Some r = ap (record_marked h) act ∙ marks_it h found.0 r found.1 flies found.3 in
      ap (λ answered. says (acknowledged answered marked)) reply ∙ ap says own ∙ eq-eqb r r refl

  -- a record that is said to be acknowledged is
  said_now : (found : Option ℕ) → marked ≡ found → e.reply ≡ Marked true → says found ≡ true → acked_then ≡ true
  said_now None own reply said = absurd (false≢true said)
  said_now (Some rec) own reply said =
      let same : rec ≡ r = eqb-true rec r said in
      let at = marked_by h e.act r (own ∙ ap Some same) in
      told.answered at.0 r at.1 true at.2 at.3 reply

  said : (b : Bool) → says_acked e.reply ≡ b → says (if b then marked else None) ≡ true → acked_then ≡ true
  said true so names = said_now marked refl (says_so e.reply so) names
  said false so names = absurd (false≢true names)

  -- a record that wasn't acknowledged is then exactly where the entry says so
  pub acknowledged_then : acked h r ≡ false → acked_then ≡ says (acknowledged e.reply marked)
  acknowledged_then before = by acked_then refl (says (acknowledged e.reply marked)) refl
    where
      by : (now : Bool) → acked_then ≡ now → (names : Bool) → says (acknowledged e.reply marked) ≡ names → now ≡ names
      by true now names so = sym (now_said before now) ∙ so
      by false now true so = absurd (true≢false (sym (said (says_acked e.reply) refl so) ∙ now))
      by false now false so = refl
