-- clients are told which records are acknowledged
use Rattle.std.proofs.Common.{◌≡◌, ◌∙◌, ℕ, Bool, true, false, Some, is_some, [], ◌∷◌, ◌++◌, slice_get, refl, sym, subst, ap}
use Rattle.std.proofs.lemmas.Bool.{true≢false, and_parts, or_left}
use Rattle.fy_locality.specs.declared.ProcId.{ProcId}
use Rattle.fy_net.specs.declared.message.Body.TheVariants.{Synced}
use Rattle.fy_acts.specs.declared.act.Act.TheVariants.{Deliver}
use Rattle.fy_acts.specs.declared.reply.Reply.TheVariants.{Marked}
use Rattle.fy_acts.specs.declared.entry.Entry.{Entry}
use Rattle.fy_cluster.specs.Setup.{Setup}
use Rattle.fy_cluster.specs.History.{History, step_of, history, is_accepted, delivers, message_of, sent, delivers_ack_of, acked}
use Rattle.fy_cluster.specs.Replies.{IsNext, Legal, answer, is_acked_with}
use Rattle.fy_cluster.specs.Survival.{IsTold, ClientsTold}
use Rattle.fy_cluster.proofs.Acknowledging.{delivers_is, ack_is, answered, acked_now, acked_as_it_was}
use Rattle.fy_cluster.proofs.Journals.{legal_parts}
use Rattle.fy_cluster.proofs.Still.{acked_kept}
use Rattle.fy_cluster.proofs.Strikes.{accepted}

same_told : (a b : Bool) → Marked a ≡ Marked b → a ≡ b
same_told a b e = cc

not_marked : Marked false ≡ Marked true → ⊥
not_marked e = true≢false (sym (same_told false true e))

module _ (c : Setup) (h : History) (e : Entry) (next : IsNext c h e) where
  -- what an entry that delivers an acknowledgement is answered
  reply_is : (n r : ℕ) (from : ProcId) → e.act ≡ Deliver n → is_accepted e.reply ≡ true → slice_get (sent h) n ≡ Some (Synced r from) → e.reply ≡ Marked (is_acked_with h r from.0)
  reply_is n r from is ok there = (accepted c h e next ok).1 ∙ ap (answer c h e.by) is ∙ answered c h e.by n r from there

  answered_so : (n r : ℕ) (from : ProcId) (told : Bool) → e.act ≡ Deliver n → slice_get (sent h) n ≡ Some (Synced r from) → e.reply ≡ Marked told → acked (step_of c h e ∷ h) r ≡ told
  answered_so n r from told is there said =
      let with : Marked told ≡ Marked (is_acked_with h r from.0) = sym said ∙ reply_is n r from is (ap is_accepted said) there in
      let same : e ≡ record { at = e.at; by = e.by; act = Deliver n; reply = Marked told } = λ i. record { at = e.at; by = e.by; act = is i; reply = said i } in
      ap (λ it. acked (step_of c h it ∷ h) r) same ∙ acked_now c h e.at e.by n r from told there ∙ sym (same_told told _ with)

  -- a record that is acknowledged only now is told so
  told_now : (r : ℕ) → acked h r ≡ false → acked (step_of c h e ∷ h) r ≡ true → (b : Bool) → e.reply ≡ Marked b → e.reply ≡ Marked true
  told_now r before now true said = said
  told_now r before now false said = absurd (true≢false (sym now ∙ acked_as_it_was c h e next (λ yes. not_marked (sym said ∙ yes)) r ∙ before))

  -- what the acknowledging entry was
  acknowledged_so : (r : ℕ) → acked h r ≡ false → acked (step_of c h e ∷ h) r ≡ true → (n : ℕ) × (from : ProcId) × (e.act ≡ Deliver n) × (slice_get (sent h) n ≡ Some (Synced r from)) × (e.reply ≡ Marked true)
  acknowledged_so r before now = at (delivers_ack_of (step_of c h e) r) refl
    where
      at : (b : Bool) → delivers_ack_of (step_of c h e) r ≡ b → (n : ℕ) × (from : ProcId) × (e.act ≡ Deliver n) × (slice_get (sent h) n ≡ Some (Synced r from)) × (e.reply ≡ Marked true)
      at false silent = absurd (true≢false (sym now ∙ acked_kept (step_of c h e) h r silent ∙ before))
      at true heard =
          let parts = and_parts (is_some (delivers e.act e.reply)) _ heard in
          let is = delivers_is e.act e.reply parts.0 in
          let ack = ack_is r (message_of h e.act) parts.1 in
          let there : slice_get (sent h) is.0 ≡ Some (Synced r ack.0) = sym (ap (message_of h) is.1) ∙ ack.1 in
          (is.0, ack.0, is.1, there, told_now r before now (is_acked_with h r ack.0.0) (reply_is is.0 r ack.0 is.1 is.2 there))

  is_told : IsTold c h e
  is_told = record {
    answered = answered_so;
    acknowledged = acknowledged_so;
    stays = λ r was. or_left (acked h r) _ was;
  }

pub clients_told : ClientsTold
clients_told c journal legal before later e is =
    let l : Legal c (before ++ e ∷ later) = subst (Legal c) is legal in
    is_told c (history c before) e (legal_parts c [] before (e ∷ later) l.1).1.0
