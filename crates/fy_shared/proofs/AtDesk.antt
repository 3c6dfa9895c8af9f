-- what a seat is once its actor had the desk
use Rattle.std.proofs.Common.{◌≡◌, ◌↔◌, ◌≤◌, ℕ, List, ◌∷◌, [], ◌++◌, length, Option, Some, None, Result, Ok, Err, IfOk, IfErr, refl, sym, ap, ◌∙◌, subst}
use denote.Ref.{MutBor}
use Rattle.atomic_table.specs.declared.shared.Seat.{Seat as Place}
use Rattle.fy_acts.specs.declared.act.Act.{Act}
use Rattle.fy_acts.specs.declared.entry.Entry.{Entry}
use Rattle.fy_cluster.specs.declared.fault.Fault.{Fault}
use Rattle.fy_cluster.specs.declared.fault.Fault.TheVariants.{JournalFull}
use Rattle.fy_cluster.specs.Replies.{Legal}
use Rattle.fy_actors.specs.Desk.{DeskState, entries_by, OnlyBy, Worked, receipt as receipt_of}
use Rattle.fy_shared.specs.declared.view.View.{View}
use Rattle.fy_shared.specs.declared.yard.Receipt.{Receipt}
use Rattle.fy_shared.specs.Yard.{Yard, SeatState, StartsWith, EndsWithAct, Turned, entry, closed_seat}
use Rattle.fy_shared.specs.Turnstile.{SeatView, without_ticket, after_count}
use Rattle.fy_shared.specs.Places.{IsPlaceOf, DrewTicket, IsServed, seat_state}
use Rattle.fy_shared.specs.AtDesk.{desk_of, AtDesk, Work, Does, MakesAct}
use Rattle.fy_shared.proofs.Turning.{Done, done, of_yard}

-- a call that gave this does so
pub does_as : {F A T : Type 0} (work : Work F A T) (f : F) (x : MutBor A) (b : MutBor DeskState)
    (answer : T) (x' : MutBor A) (b' : MutBor DeskState)
    → work.post f (x, (b, tt)) (answer, (x', (b', tt)))
    → Does work f x.now b.now answer x'.now b'.now
does_as work f x b answer x' b' met = record {
  for = x;
  desk = b;
  for_is = refl;
  desk_is = refl;
  left = x';
  left_desk = b';
  left_is = refl;
  left_desk_is = refl;
  met = met;
}

-- what every call of the work does, the call that `Does` speaks of did
pub does_so : {F A T : Type 0} (work : Work F A T) (f : F) (who : A) (before : DeskState)
    (answer : T) (then : A) (after : DeskState) (Q : A → DeskState → A → DeskState → Type 0)
    → ((x : MutBor A) (b : MutBor DeskState) (x' : MutBor A) (b' : MutBor DeskState)
    → work.post f (x, (b, tt)) (answer, (x', (b', tt))) → Q x.now b.now x'.now b'.now)
    → Does work f who before answer then after → Q who before then after
does_so {F} {A} {T} work f who before answer then after Q every d =
    subst (λ (z : (A × DeskState) × (A × DeskState)). Q z.0.0 z.0.1 z.1.0 z.1.1)
    (λ i. ((d.for_is i, d.desk_is i), (d.left_is i, d.left_desk_is i)))
    (every d.for d.desk d.left d.left_desk d.met)

-- what a seat is seen as has its actor and its receipts, with a place or without one
sits : (a : ℕ) (rs : List Entry) (o : Option (Place (Option DeskState) View))
    → ((seat_state a rs o).actor ≡ a) × ((seat_state a rs o).receipts ≡ rs)
sits a rs None = (refl, refl)
sits a rs (Some p) = (refl, refl)

-- a place that was taken out of a seat is that of what is left of it
pub rose : (s t : SeatState) (a : ℕ) (rs : List Entry)
    (o : Option (Place (Option DeskState) View)) (p : Place (Option DeskState) View)
    → seat_state a rs o ≡ t → t ≡ closed_seat s → IsPlaceOf s.actor s.receipts p
    → seat_state s.actor s.receipts (Some p) ≡ s
    → IsPlaceOf a rs p × (seat_state a rs (Some p) ≡ s)
rose s t a rs o p is left at whole =
    let sat = sits a rs o in
    let actor : s.actor ≡ a = sym (ap (λ (x : SeatState). x.actor) (is ∙ left)) ∙ sat.0 in
    let receipts : s.receipts ≡ rs =
    sym (ap (λ (x : SeatState). x.receipts) (is ∙ left)) ∙ sat.1 in
    subst (λ (z : ℕ × List Entry). IsPlaceOf z.0 z.1 p × (seat_state z.0 z.1 (Some p) ≡ s))
    (λ i. (actor i, receipts i)) (at, whole)

-- the desk came to the place as b, sat the actor as b₁, was left as b₂ and went back as b₃
pub worked_at : (p : Place (Option DeskState) View) (w m z : SeatView) (n : ℕ) (b b₁ b₂ b₃ : DeskState)
    (a a' : ℕ) (rs rs' rs'' : List Entry) → IsPlaceOf a rs p → DrewTicket p.me w n
    → IsServed w.0 m b → b₁ ≡ record b { actor = a; receipts = rs } → Worked b₁ b₂
    → b₃ ≡ record b₂ { actor = a'; receipts = rs'' } → rs' ≡ b₂.receipts
    → z ≡ (without_ticket (after_count m.0 b₃.journal), []) → Legal b₃.setup b₃.journal
    → Done p.me z b b₃.journal a rs'
worked_at p w m z n b b₁ b₂ b₃ a a' rs rs' rs'' at waits served sat worked left list is legal =
    let new = worked.new in
    done p w m z n b b₃.setup b₃.journal new a rs rs' at waits served is
    (ap (λ (x : DeskState). x.setup) left
    ∙ (worked.setup ∙ ap (λ (x : DeskState). x.setup) sat))
    legal
    (ap (λ (x : DeskState). x.journal) left
    ∙ (worked.journal ∙ ap (λ (x : DeskState). x.journal ++ new) sat))
    (subst (λ (k : ℕ). OnlyBy k new) (ap (λ (x : DeskState). x.actor) sat) worked.own)
    (list ∙ (worked.receipts ∙ ap (λ (x : DeskState). x.receipts ++ new) sat))

-- the desk came to the place as b, sat the actor as b₁ and was left as b₂
pub at_desk : (y : Yard) (s : SeatState) (a : ℕ) (rs rs' : List Entry)
    (p : Place (Option DeskState) View) (o : Option Yard) (w m z : SeatView) (n : ℕ) (b b₁ b₂ : DeskState)
    (j : List Entry) (Did : DeskState → DeskState → Type 0)
    → seat_state a rs (Some p) ≡ s → s.of ≡ Some y → IsPlaceOf a rs p → DrewTicket p.me w n
    → IsServed w.0 m b → Done p.me z b j a rs' → b₁ ≡ record b { actor = a; receipts = rs }
    → Worked b₁ b₂ → Did b₁ b₂ → j ≡ b₂.journal → rs' ≡ b₂.receipts
    → AtDesk y s (record { of = o; actor = a; receipts = rs'; seen = z.0.seen }) Did
at_desk y s a rs rs' p o w m z n b b₁ b₂ j Did is of at waits served d sat worked did journal receipts =
    let q = waits.same in
    let actor : w.0.actor ≡ a = q.actor ∙ at.actor in
    let mine : w.0.mine ≡ rs = waits.mine ∙ at.mine in
    let a_is : a ≡ s.actor = ap (λ (x : SeatState). x.actor) is in
    let rs_is : rs ≡ s.receipts = ap (λ (x : SeatState). x.receipts) is in
    let setup : b.setup ≡ y.setup =
    served.setup ∙ (q.setup ∙ ap (λ (x : Yard). x.setup) (of_yard y s a rs p is of)) in
    let t : SeatState = record { of = o; actor = a; receipts = rs'; seen = z.0.seen } in
    let own : entries_by a b.journal ≡ rs =
    ap (λ (k : ℕ). entries_by k b.journal) (sym actor) ∙ (served.own ∙ mine) in
    let first_setup : b₁.setup ≡ y.setup = ap (λ (x : DeskState). x.setup) sat ∙ setup in
    let first_journal : b₁.journal ≡ b.journal = ap (λ (x : DeskState). x.journal) sat in
    let first_actor : b₁.actor ≡ a = ap (λ (x : DeskState). x.actor) sat in
    let sits_actor : b₁.actor ≡ s.actor = first_actor ∙ a_is in
    let sits_receipts : b₁.receipts ≡ s.receipts = ap (λ (x : DeskState). x.receipts) sat ∙ rs_is in
    let before : b₁ ≡ desk_of y s b.journal =
    λ i. record {
      setup = first_setup i;
      journal = first_journal i;
      actor = sits_actor i;
      receipts = sits_receipts i;
    } in
    let last_setup : b₂.setup ≡ y.setup = worked.setup ∙ first_setup in
    let last_journal : b₂.journal ≡ z.0.seen = sym journal ∙ sym d.seen in
    let last_actor : b₂.actor ≡ a = worked.actor ∙ first_actor in
    let after : b₂ ≡ desk_of y t t.seen =
    λ i. record {
      setup = last_setup i;
      journal = last_journal i;
      actor = last_actor i;
      receipts = sym receipts i;
    } in
    record {
      log = b.journal;
      after = subst (StartsWith b.journal) (ap (λ (x : SeatState). x.seen) is) d.after;
      own = ap (λ (k : ℕ). entries_by k b.journal) (sym a_is) ∙ (own ∙ rs_is);
      did = subst (λ (x : DeskState × DeskState). Did x.0 x.1) (λ i. (before i, after i)) did;
    }

-- what follows from it at the desk
pub did_too : (y : Yard) (s t : SeatState) (P Q : DeskState → DeskState → Type 0)
    → ((b b' : DeskState) → P b b' → Q b b') → AtDesk y s t P → AtDesk y s t Q
did_too y s t P Q then d =
    record { log = d.log; after = d.after; own = d.own; did = then _ _ d.did }

-- the entries that the work left are the last that the seat has seen
pub turned : (y : Yard) (s t : SeatState) → AtDesk y s t (λ b b'. Worked b b') → Turned s t
turned y s t d = record {
  log = d.log;
  new = (d.did).new;
  last = (d.did).journal;
  after = d.after;
  only = (d.did).own;
  receipts = (d.did).receipts;
}

-- the entry that an act left is the last that the seat has seen
pub ordered : (y : Yard) (s t : SeatState) (act : Act) (receipt : Receipt)
    → AtDesk y s t (λ b b'. MakesAct b b' act (Ok receipt))
    → EndsWithAct s t act receipt.at receipt.reply
ordered y s t act receipt d =
    let same : receipt_of (desk_of y s d.log) act ≡ entry receipt.at s.actor act receipt.reply =
    ap (λ (r : Receipt). entry r.at s.actor act r.reply) (sym d.did.1) in
    record {
      log = d.log;
      last =
          ap (λ (b : DeskState). b.journal) d.did.0 ∙ (λ i. d.log ++ same i ∷ []);
      place = ap (λ (r : Receipt). r.at) d.did.1;
      after = d.after;
      receipts =
          ap (λ (b : DeskState). b.receipts) d.did.0 ∙ (λ i. s.receipts ++ same i ∷ []);
    }

-- where no act was made the receipts are as they were, and a full journal is the fault where it is
pub refused : (y : Yard) (s t : SeatState) (act : Act) (fault : Fault)
    → AtDesk y s t (λ b b'. MakesAct b b' act (Err fault))
    → (t.receipts ≡ s.receipts) × ((fault ≡ JournalFull) ↔ (y.setup.limit ≤ length t.seen))
refused y s t act fault d =
    let seen : t.seen ≡ d.log = ap (λ (b : DeskState). b.journal) d.did.0 in (
      ap (λ (b : DeskState). b.receipts) d.did.0,
      subst (λ (l : List Entry). (fault ≡ JournalFull) ↔ (y.setup.limit ≤ length l)) (sym seen)
          d.did.1,
    )

-- so it is of whatever was answered
pub ordered_if : (y : Yard) (s t : SeatState) (act : Act) (result : Result Receipt Fault)
    → AtDesk y s t (λ b b'. MakesAct b b' act result)
    → IfOk result (λ receipt. EndsWithAct s t act receipt.at receipt.reply)
ordered_if y s t act (Ok receipt) d = ordered y s t act receipt d
ordered_if y s t act (Err fault) d = tt

pub refused_if : (y : Yard) (s t : SeatState) (act : Act) (result : Result Receipt Fault)
    → AtDesk y s t (λ b b'. MakesAct b b' act result)
    → IfErr result (λ fault. (t.receipts ≡ s.receipts)
    × ((fault ≡ JournalFull) ↔ (y.setup.limit ≤ length t.seen)))
refused_if y s t act (Ok receipt) d = tt
refused_if y s t act (Err fault) d = refused y s t act fault d
