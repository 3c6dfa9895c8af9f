-- what a turn does to a seat
use Rattle.std.proofs.Common.{◌≡◌, ℕ, ◌+◌, ◌%◌, ◌^◌, List, [], ◌∷◌, ◌++◌, length, true, sym, refl, ap, ◌∙◌, subst, Option, Some, None}
use mathlib.Core.Option.{none}
use Rattle.atomic_table.specs.Table.{rest, step, Allows}
use Rattle.atomic_table.specs.declared.shared.Seat.{Seat as Place}
use Rattle.fy_acts.specs.declared.entry.Entry.{Entry}
use Rattle.fy_cluster.specs.Setup.{Setup, IsMet}
use Rattle.fy_cluster.specs.Replies.{Legal}
use Rattle.fy_cluster.specs.Survival.{JournalsSurvive}
use Rattle.fy_actors.specs.Desk.{DeskState, entries_by, OnlyBy, Worked}
use Rattle.fy_shared.specs.declared.view.View.{View}
use Rattle.fy_shared.specs.Yard.{StartsWith, Yard, SeatState, SeesMore, actor_count}
use Rattle.fy_shared.specs.Turnstile.{SeatView, TableStep, with_ticket, serving_at, after_count, without_ticket, journal_in, KeepsTurns, Drawn, Took, Looks, Counted, Advanced}
use Rattle.fy_shared.specs.Places.{HasNoTicket, IsPlaceOf, IsWaiting, DrewTicket, IsSameActor, IsServed, IsGrown, seat_state}
use Rattle.fy_shared.proofs.Journals.{by_more, begins_more}
use Rattle.fy_shared.proofs.Moves.{counts, advances}

ticket_only : (v : View) (t : ℕ) → IsSameActor v (with_ticket v t)
ticket_only v t = record {
  setup = refl;
  all = refl;
  parts = refl;
  seated = refl;
  actor = refl;
  live = refl;
  kept = refl;
  opens = refl;
  made = refl;
  told = refl;
}

served_only : (v : View) (h : List Entry) → IsSameActor v (serving_at v h)
served_only v h = record {
  setup = refl;
  all = refl;
  parts = refl;
  seated = refl;
  actor = refl;
  live = refl;
  kept = refl;
  opens = refl;
  made = refl;
  told = refl;
}

pub drawn : (st : TableStep) (m m' : SeatView) (n : ℕ) → HasNoTicket m → Drawn st m n m' → DrewTicket m m' n
drawn st m m' n calm d = subst (λ (x : SeatView). DrewTicket m x n) (sym d.2) record {
  waiting = record {
    empty = calm.empty;
    waits = refl;
    holds = calm.holds;
    seated = calm.seated;
    live = calm.live;
    kept = calm.kept;
    ticket = d.1;
  };
  same = ticket_only m.0 d.0;
  seen = refl;
  mine = refl;
}

-- the look found the seat's number, and the desk came with it
pub record Came (m m' : SeatView) : Type 0 where
  pub desk : DeskState
  pub now : m' ≡ (serving_at m.0 desk.journal, (0, Some desk) ∷ [])
  pub took : Took m m' desk

pub came : (m m' : SeatView) (n k : ℕ) → IsWaiting m n → k ≡ n → Looks m k m' → Came m m'
came m m' n k waits is looked =
    let found = looked.0 (is ∙ waits.ticket) in
    let desk : DeskState = found.0 in
    record {
      desk = desk;
      now =
          found.1.now
          ∙ ap (λ (c : List (ℕ × Option DeskState)). (serving_at m.0 desk.journal, (0, Some desk) ∷ c))
          waits.empty;
      took = found.1;
    }

pub in_hand : (m m' : SeatView) → Came m m' → (o : Option DeskState) × (m'.1 ≡ (0, o) ∷ rest m'.1)
in_hand m m' t =
    let e : m'.1 ≡ (0, Some t.desk) ∷ [] = ap (λ (x : SeatView). x.1) t.now in (
      Some t.desk,
      e ∙ ap (λ (cs : List (ℕ × Option DeskState)). (0, Some t.desk) ∷ rest cs) (sym e),
    )

abbrev first_of : List (ℕ × Option DeskState) → Option DeskState
first_of [] = None
first_of (x ∷ xs) = x.1

pub is_desk : (m m' : SeatView) (r : Option DeskState) (t : Came m m') → m'.1 ≡ (0, r) ∷ rest m'.1
    → r ≡ Some t.desk
is_desk m m' r t e =
    first_is ((0, r) ∷ rest m'.1) ((0, Some t.desk) ∷ [])
    (sym e ∙ ap (λ (x : SeatView). x.1) t.now)
  where
    first_is : (xs ys : List (ℕ × Option DeskState)) → xs ≡ ys → first_of xs ≡ first_of ys
    first_is xs ys p = ap first_of p

abbrev bench_or : DeskState → Option DeskState → DeskState
bench_or d None = d
bench_or d (Some b) = b

pub served : (m l x : SeatView) (n : ℕ) (r : Option DeskState) (b : DeskState) → IsWaiting m n → Came m l
    → l.1 ≡ (0, r) ∷ rest l.1 → x ≡ (l.0, (0, None) ∷ rest l.1) → r ≡ Some b
    → IsServed m.0 x b
served m l x n r b waits t e new is =
    let same : t.desk ≡ b = ap (bench_or b) (sym (is_desk m l r t e) ∙ is) in
    let now : x ≡ (serving_at m.0 (t.desk).journal, (0, None) ∷ []) =
    new ∙ ap (λ (z : SeatView). (z.0, (0, None) ∷ rest z.1)) t.now in
    subst (λ (z : SeatView × DeskState). IsServed m.0 z.0 z.1) (λ i. (sym now i, same i)) record {
      slot = refl;
      waits = waits.waits;
      holds = refl;
      seen = refl;
      same = served_only m.0 (t.desk).journal;
      mine = refl;
      setup = (t.took).setup;
      after = (t.took).after;
      legal = (t.took).legal;
      own = (t.took).own;
    }

-- the desk with more entries is counted
pub stores : (slots id new : ℕ) (m x : SeatView) (b : DeskState) → x ≡ (m.0, (0, Some b) ∷ rest m.1)
    → m.1 ≡ (0, None) ∷ [] → m.0.holds ≡ true → m.0.seated ≡ true → m.0.kept ≡ []
    → IsGrown m.0 b → Legal b.setup b.journal → new ≡ length b.journal
    → Allows KeepsTurns slots id x 0 (λ _. new) (λ _. Counted (step slots 0 new 0 none) x new)
stores slots id new m x b is empty holds seated alone grown legal new_is =
    let x₀ : SeatView = (m.0, (0, Some b) ∷ []) in
    let same : x ≡ x₀ =
    is ∙ ap (λ (cs : List (ℕ × Option DeskState)). (m.0, (0, Some b) ∷ rest cs)) empty in
    let setup = grown.setup in
    let journal = grown.journal in
    subst
    (λ (z : SeatView).
    Allows KeepsTurns slots id z 0 (λ _. new) (λ _. Counted (step slots 0 new 0 none) z new))
    (sym same)
    (counts slots id new x₀ b grown.new holds seated alone refl journal grown.own
    (subst (λ (z : Setup × List Entry). Legal z.0 z.1) (λ i. (setup i, journal i)) legal)
    (new_is ∙ ap (λ (l : List Entry). length l) journal))

-- the seat after the count
pub counted : (m x y : SeatView) (b : DeskState) → x ≡ (m.0, (0, Some b) ∷ rest m.1)
    → m.1 ≡ (0, None) ∷ [] → y ≡ (after_count x.0 (journal_in x.1), x.1)
    → y ≡ (after_count m.0 b.journal, (0, Some b) ∷ [])
counted m x y b is empty did =
    let same : x ≡ (m.0, (0, Some b) ∷ []) =
    is ∙ ap (λ (cs : List (ℕ × Option DeskState)). (m.0, (0, Some b) ∷ rest cs)) empty in
    did ∙ ap (λ (z : SeatView). (after_count z.0 (journal_in z.1), z.1)) same

pub moves_on : (slots id : ℕ) (m y : SeatView) (b : DeskState)
    → y ≡ (after_count m.0 b.journal, (0, Some b) ∷ []) → m.0.holds ≡ true → m.0.waits ≡ 1
    → m.0.live ≡ true → b.setup ≡ m.0.setup
    → Allows KeepsTurns slots id y 2 (λ n. (n + 1) % 2 ^ 64) (Advanced (step slots 2 1 0 none) y)
moves_on slots id m y b is holds one live setup =
    subst
    (λ (z : SeatView).
    Allows KeepsTurns slots id z 2 (λ n. (n + 1) % 2 ^ 64) (Advanced (step slots 2 1 0 none) z))
    (sym is)
    (advances slots id (after_count m.0 b.journal, (0, Some b) ∷ []) b holds one live refl setup
    refl)

pub advanced : (m y z : SeatView) (b : DeskState) → y ≡ (after_count m.0 b.journal, (0, Some b) ∷ [])
    → z ≡ (without_ticket y.0, []) → z ≡ (without_ticket (after_count m.0 b.journal), [])
advanced m y z b is did = did ∙ ap (λ (u : SeatView). (without_ticket u.0, [])) is

-- entries of the actor that come last are its next receipts
more_entries : (d : View) (m : SeatView) (b : DeskState) (j es : List Entry) → IsServed d m b
    → j ≡ b.journal ++ es → OnlyBy d.actor es → entries_by m.0.actor j ≡ d.mine ++ es
more_entries d m b j es s is only =
    let actor = (s.same).actor in
    ap (λ (x : ℕ × List Entry). entries_by x.0 x.1) (λ i. (actor i, is i))
    ∙ (by_more d.actor b.journal es only ∙ ap (λ (l : List Entry). l ++ es) s.own)

-- what a whole turn leaves: v before it, z after it; the desk came as b and went with the journal j
pub record Done (v z : SeatView) (b : DeskState) (j : List Entry) (a : ℕ) (rs : List Entry)
    : Type 0 where
  pub calm : HasNoTicket z
  pub actor : z.0.actor ≡ a
  pub mine : z.0.mine ≡ rs
  pub all : z.0.all ≡ actor_count z.0.setup
  pub setup : z.0.setup ≡ v.0.setup
  pub seen : z.0.seen ≡ j
  pub after : StartsWith b.journal v.0.seen
  pub before : StartsWith j v.0.seen
  pub legal : Legal v.0.setup j
  pub own : entries_by a j ≡ rs

-- w with the ticket, m with the desk b in hand, which then has the journal j, with es more
pub done : (p : Place (Option DeskState) View) (w m z : SeatView) (n : ℕ) (b : DeskState) (c : Setup)
    (j es : List Entry) (a : ℕ) (rs rs' : List Entry) → IsPlaceOf a rs p → DrewTicket p.me w n
    → IsServed w.0 m b → z ≡ (without_ticket (after_count m.0 j), []) → c ≡ b.setup
    → Legal c j → j ≡ b.journal ++ es → OnlyBy a es → rs' ≡ rs ++ es → Done p.me z b j a rs'
done p w m z n b c j es a rs rs' at waits served is same_setup legal grown only more =
    let v : SeatView = p.me in
    let calm = at.calm in
    let s = served.same in
    let q = waits.same in
    let setup : m.0.setup ≡ v.0.setup = s.setup ∙ q.setup in
    let its : w.0.actor ≡ a = q.actor ∙ at.actor in
    let actor : m.0.actor ≡ a = s.actor ∙ its in
    let only' : OnlyBy w.0.actor es = subst (λ (k : ℕ). OnlyBy k es) (sym its) only in
    let mine : entries_by m.0.actor j ≡ rs' =
    more_entries w.0 m b j es served grown only'
    ∙ (ap (λ (l : List Entry). l ++ es) (waits.mine ∙ at.mine) ∙ sym more) in
    let far : StartsWith b.journal v.0.seen =
    subst (StartsWith b.journal) waits.seen served.after in
    subst (λ (x : SeatView). Done v x b j a rs') (sym is) record {
      calm = record {
        empty = refl;
        waits = refl;
        holds = refl;
        seated = s.seated ∙ (q.seated ∙ calm.seated);
        parts = s.parts ∙ (q.parts ∙ calm.parts);
        live = s.live ∙ (q.live ∙ calm.live);
        kept = s.kept ∙ (q.kept ∙ calm.kept);
        told = s.told ∙ (q.told ∙ calm.told);
      };
      actor = actor;
      mine = mine;
      all = s.all ∙ (q.all ∙ (at.all ∙ ap (λ (x : Setup). actor_count x) (sym setup)));
      setup = setup;
      seen = refl;
      after = far;
      before =
          subst (λ (l : List Entry). StartsWith l v.0.seen) (sym grown)
          (begins_more b.journal v.0.seen es far);
      legal =
          subst (λ (x : Setup). Legal x j) (same_setup ∙ (served.setup ∙ q.setup)) legal;
      own = ap (λ (k : ℕ). entries_by k j) (sym actor) ∙ mine;
    }

-- the place that the seat has then
pub placed : (a : ℕ) (rs : List Entry) (p : Place (Option DeskState) View) (v : SeatView) (b : DeskState)
    (j : List Entry) → Done v p.me b j a rs → IsPlaceOf a rs p
placed a rs p v b j d =
    record { calm = d.calm; actor = d.actor; mine = d.mine; all = d.all }

abbrev yard_or : Yard → Option Yard → Yard
yard_or d None = d
yard_or d (Some y) = y

pub of_yard : (y : Yard) (s : SeatState) (a : ℕ) (rs : List Entry)
    (p : Place (Option DeskState) View) → seat_state a rs (Some p) ≡ s → s.of ≡ Some y
    → record { id = p.table_id; setup = p.me.0.setup } ≡ y
of_yard y s a rs p is of = ap (yard_or y) (ap (λ (x : SeatState). x.of) is ∙ of)

pub sees : (y : Yard) (s : SeatState) (a : ℕ) (rs rs' : List Entry)
    (p : Place (Option DeskState) View) (o : Option Yard) (z : SeatView) (b : DeskState) (j : List Entry)
    → JournalsSurvive → IsMet y.setup → seat_state a rs (Some p) ≡ s → s.of ≡ Some y
    → Done p.me z b j a rs'
    → SeesMore y s (record { of = o; actor = a; receipts = rs'; seen = z.0.seen })
sees y s a rs rs' p o z b j survive met is of d =
    let seen = sym d.seen in
    let yard = of_yard y s a rs p is of in
    record {
      survives =
          survive y.setup z.0.seen met
          (subst (λ (x : Setup × List Entry). Legal x.0 x.1) (λ i. ((yard i).setup, seen i))
          d.legal);
      before =
          subst (λ (x : List Entry × List Entry). StartsWith x.0 x.1)
          (λ i. (seen i, (is i).seen)) d.before;
      own = ap (entries_by a) d.seen ∙ d.own;
    }

-- a desk that was worked at comes back with more entries
pub grown : (v : View) (m : SeatView) (b b₁ b₂ b₃ : DeskState) (a a' : ℕ) (rs rs' : List Entry)
    → IsServed v m b → m.0.actor ≡ a → b₁ ≡ record b { actor = a; receipts = rs }
    → Worked b₁ b₂ → b₃ ≡ record b₂ { actor = a'; receipts = rs' } → IsGrown m.0 b₃
grown v m b b₁ b₂ b₃ a a' rs rs' served actor sat worked left =
    let same = (served.same).setup in
    record {
      setup =
          ap (λ (x : DeskState). x.setup) left
          ∙ (worked.setup ∙ (ap (λ (x : DeskState). x.setup) sat ∙ (served.setup ∙ sym same)));
      new = worked.new;
      journal =
          ap (λ (x : DeskState). x.journal) left
          ∙ (worked.journal
          ∙ ap (λ (l : List Entry). l ++ worked.new)
          (ap (λ (x : DeskState). x.journal) sat ∙ sym served.seen));
      own =
          subst (λ (k : ℕ). OnlyBy k worked.new)
          (ap (λ (x : DeskState). x.actor) sat ∙ sym actor) worked.own;
    }
