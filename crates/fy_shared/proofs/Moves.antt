-- each step keeps the rule of the turnstile
use Rattle.std.proofs.Common.{◌≡◌, ◌≢◌, ℕ, zero, suc, ◌+◌, ◌%◌, ◌^◌, ◌<◌, ◌≤◌, eqb, List, [], ◌∷◌, ◌++◌, length, length-set, get_or, set, nat_lt, if◌then◌else◌, Bool, true, false, true≢false, sym, refl, ap, ◌∙◌, subst, ⊎_elim, ◌⊎◌, arith, Option, Some, eq-eqb, ne_eqb}
use Rattle.std.proofs.lemmas.Bool.Decides.{nat_tests}
use mathlib.Core.Logic.{dite}
use mathlib.Core.Option.{none, some, some-ne-none, some-injective}
use mathlib.Core.Option as maybe
use native.Mathlib.Decide.{ℕ_discrete}
use lib.ListN.{get_elem?}
use prog.Atomic.{either}
use Rattle.atomic_table.specs.Table.{State, step, keeps, takes, gives, Allows, Splits, Joins, opening}
use Rattle.atomic_table.proofs.Lists.{at_set, at_snoc, set_here, set_else, set_again, one_turn}
use Rattle.fy_acts.specs.declared.entry.Entry.{Entry}
use Rattle.fy_cluster.specs.Setup.{Setup}
use Rattle.fy_cluster.specs.Replies.{Legal}
use Rattle.fy_actors.specs.Desk.{DeskState, entries_by, OnlyBy}
use Rattle.fy_shared.specs.declared.view.View.{View}
use Rattle.fy_shared.specs.Yard.{StartsWith, actor_count}
use Rattle.fy_shared.specs.Turnstile.{desk_with, Joined, keys, NotAmong, Distinct, desk_at_home, total, TurnstileState, Fits, Busy, slot_of, KeepsTurns, SeatView, first_view, with_ticket, serving_at, after_count, without_ticket, after_split, next_seat, note_of, spent_view, told_by, key_of, joined_by, after_meeting, Met, journal_in, Drawn, Looked, Counted, Advanced}
use Rattle.fy_shared.proofs.Journals.{by_else, begins_none, begins_more, begins_all, between, whole}

-- the function f, with x at k
abbrev pub put : (ℕ → ℕ) → ℕ → ℕ → ℕ → ℕ
put f k x j = either (eqb j k) x (f j)

pub put_here : (f : ℕ → ℕ) (k x : ℕ) → put f k x k ≡ x
put_here f k x = ap (λ b. either b x (f k)) (eq-eqb k k refl)

pub put_else : (f : ℕ → ℕ) (k x j : ℕ) → j ≢ k → put f k x j ≡ f j
put_else f k x j n = ap (λ b. either b x (f j)) (ne_eqb j k n)

off : false ≡ true → ⊥
off e = true≢false (sym e)

pub total_set : (f : View → ℕ) (vs : List View) (i : ℕ) (v w : View) → get_elem? vs i ≡ some v
    → total f (set vs i w) + f v ≡ total f vs + f w
total_set f [] i v w e = absurd (some-ne-none v (sym e))
total_set f (x ∷ xs) zero v w e = let p : f x ≡ f v = ap f (some-injective x v e) in omega arith
total_set f (x ∷ xs) (suc i) v w e = let p = total_set f xs i v w e in omega arith

total_below : (f g : View → ℕ) (vs : List View)
    → ((j : ℕ) (v : View) → get_elem? vs j ≡ some v → f v ≤ g v) → total f vs ≤ total g vs
total_below f g [] h = omega arith
total_below f g (x ∷ xs) h = let a : f x ≤ g x = h 0 x refl in let b =
    total_below f g xs (λ j v e. h (suc j) v e) in omega arith

views_set : (P : ℕ → View → Type 0) (vs : List View) (me : ℕ) (w : View) → P me w
    → ((j : ℕ) (v : View) → j ≢ me → get_elem? vs j ≡ some v → P j v)
    → (j : ℕ) (v : View) → get_elem? (set vs me w) j ≡ some v → P j v
views_set P vs me w mine others j v e =
    ⊎_elim (λ (t : (j ≡ me) × (w ≡ v)). subst (λ (x : ℕ × View). P x.0 x.1)
    (λ i. (sym t.0 i, t.1 i)) mine)
    (λ (t : (j ≢ me) × (get_elem? vs j ≡ some v)). others j v t.0 t.1) (at_set vs me j w v e)

below_length : (vs : List View) (i : ℕ) (v : View) → get_elem? vs i ≡ some v → i < length vs
below_length [] i v e = absurd (some-ne-none v (sym e))
below_length (x ∷ xs) zero v e = omega arith
below_length (x ∷ xs) (suc i) v e = let p = below_length xs i v e in omega arith

busy_here : (vs : List View) (id : ℕ) (v w : View) → get_elem? vs id ≡ some v → w.holds ≡ true
    → Busy (set vs id w)
busy_here vs id v w at h = (id, w, set_here vs id w (below_length vs id v at), h)

-- a view that changes and isn't served leaves the one that is
busy_else : (vs : List View) (id : ℕ) (v w : View) → get_elem? vs id ≡ some v → (v.holds ≡ true → ⊥)
    → Busy vs → Busy (set vs id w)
busy_else vs id v w at idle b =
    let apart : b.0 ≢ id =
    λ e. idle
    (subst (λ (x : View). x.holds ≡ true)
    (some-injective b.1 v (sym b.2 ∙ (ap (get_elem? vs) e ∙ at))) b.3) in
    (b.0, b.1, set_else vs id b.0 w apart ∙ b.2, b.3)

next_word : (n : ℕ)
    → (n % 18446744073709551616 + 1) % 18446744073709551616 ≡ (n + 1) % 18446744073709551616
next_word n = omega arith

-- the seats but one, where tickets are drawn or served, and nothing else changes
others_wait : (p : TurnstileState) (next serving : ℕ) (own : ℕ → ℕ) (out : Bool) (home_actor : ℕ)
    (home_receipts : List Entry) (j : ℕ) (u : View) → Fits p j u
    → (0 < u.waits → (own u.ticket ≡ j) × (serving ≤ u.ticket) × (u.ticket < next))
    → (u.holds ≡ true → (out ≡ true) × (0 < u.waits) × (u.ticket ≡ serving) × (u.seen ≡ p.log))
    → Fits (record p
    { next = next; serving = serving; own = own; out = out; home_actor = home_actor; home_receipts = home_receipts }) j u
others_wait p next serving own out home_actor home_receipts j u f queued served = record {
  real = f.real;
  saw = f.saw;
  told = f.told;
  sound = f.sound;
  opening = f.opening;
  tickets = (queued, served, f.tickets.2);
  receipts = f.receipts;
  joined = f.joined;
}

pub draws : (slots id : ℕ) (me : SeatView) → me.0.waits ≡ 0 → 0 < me.0.parts
    → Allows KeepsTurns slots id me 1 (λ n. (n + 1) % 2 ^ 64) (Drawn (step slots 1 1 0 none) me)
draws slots id me idle part s r _ at _ =
    let v : View = me.0 in
    let p : TurnstileState = r.plan in
    let t : ℕ = p.next in
    let w : View = with_ticket v t in
    let p' : TurnstileState = record p { next = t + 1; own = put p.own t id } in
    let mine = r.each id v at in
    let sum = r.counted in
    let not_served : v.holds ≡ true → ⊥ = λ h. let q = (mine.tickets.1 h).1 in absurd (omega arith) in
    let waits = total_set (λ x. x.waits) s.views id v w at in
    let parts = total_set (λ x. x.parts) s.views id v w at in
    let all_parts = r.parts in (
      w,
      keeps,
      tt,
      record {
        plan = p';
        legal = r.legal;
        words = ap (λ (ws : List ℕ). set ws 1 ((get_or ws 1 0 + 1) % 18446744073709551616)) r.words
            ∙ ap (λ (k : ℕ). length p.log ∷ k ∷ p.serving % 2 ^ 64 ∷ []) (next_word t);
        each = views_set (Fits p') s.views id w
            record {
              real = mine.real;
              saw = mine.saw;
              told = mine.told;
              sound = mine.sound;
              opening = mine.opening;
              tickets = ((λ _. (put_here p.own t id, (omega arith), (omega arith))), (λ h. absurd (not_served h)), (omega arith));
              receipts = mine.receipts;
              joined = mine.joined;
            }
            (λ j u apart e. let f = r.each j u e in
            others_wait p (t + 1) p.serving (put p.own t id) p.out p.home_actor p.home_receipts j u f
            (λ q. let g = f.tickets.0 q in let g₂ = g.2 in
            (put_else p.own t id u.ticket (λ x. omega arith) ∙ g.0, g.1, (omega arith)))
            f.tickets.1);
        blank = r.blank;
        most = r.most;
        unmade = r.unmade;
        counted = omega arith;
        parts = omega arith;
        few = r.few;
        home = r.home;
        busy = λ o. busy_else s.views id v w at not_served (r.busy o);
      },
      (t, ap (λ (ws : List ℕ). get_or ws 1 0) r.words, refl),
    )

at_home : (o : Bool) → (o ≡ true → ⊥) → o ≡ false
at_home true n = absurd (n refl)
at_home false n = refl

pub looks : (slots id : ℕ) (me : SeatView) → 0 < me.0.waits → me.0.holds ≡ false → me.0.seated ≡ true
    → Allows KeepsTurns slots id me 2 (λ n. n) (Looked (step slots 2 0 0 none) me)
looks slots id me queued idle seated s r _ at _ =
    let v : View = me.0 in
    let p : TurnstileState = r.plan in
    let k : ℕ = get_or s.words 2 0 in
    let mine = r.each id v at in
    let q = mine.tickets.0 queued in
    let q₁ = q.1 in
    let q₂ = q.2 in
    let sum = r.counted in
    let all_parts = r.parts in
    let few = r.few in
    let is : k ≡ p.serving % 2 ^ 64 = ap (λ (ws : List ℕ). get_or ws 2 0) r.words in
    let same_words = ap (λ (ws : List ℕ). set ws 2 (get_or ws 2 0)) r.words in
    let bound = total_below (λ x. x.waits) (λ x. x.parts) s.views (λ j u e. (r.each j u e).tickets.2) in
    let near : v.ticket < p.serving + 18446744073709551616 = omega arith in
    dite (ℕ_discrete k (v.ticket % 18446744073709551616))
    (λ hit.
    let same : p.serving ≡ v.ticket =
    one_turn p.serving v.ticket 18446744073709551616 q₁ near (sym is ∙ hit) in
    let home : p.out ≡ false = at_home p.out (λ o.
    let b = r.busy o in
    let f = r.each b.0 b.1 b.2 in
    let g = f.tickets.1 b.3 in
    let own : b.0 ≡ id = sym (f.tickets.0 g.1).0 ∙ (ap p.own (g.2 ∙ same) ∙ q.0) in
    let one : b.1 ≡ v = some-injective b.1 v (sym b.2 ∙ (ap (get_elem? s.views) own ∙ at)) in
    off (sym idle ∙ (ap (λ (x : View). x.holds) (sym one) ∙ b.3))) in
    let w : View = serving_at v p.log in
    let p' : TurnstileState = record p { out = true } in
    let here : s.homes ≡ some (Some (desk_at_home p)) ∷ [] =
    r.home ∙ ap (λ (o : Bool). slot_of o (desk_at_home p) ∷ []) home in
    let waits = total_set (λ x. x.waits) s.views id v w at in
    let parts = total_set (λ x. x.parts) s.views id v w at in
    let own_start = sym (mine.real (mine.receipts.0 seated).0).0 in (
      w,
      takes 0 (Some (desk_at_home p)),
      ap (λ (hs : List (maybe.Option (Option DeskState))). get_elem? hs 0) here,
      record {
        plan = p';
        legal = r.legal;
        words = same_words;
        each = views_set (Fits p') s.views id w
            record {
              real = mine.real;
              saw = begins_all p.log;
              told = mine.told;
              sound = (r.legal, mine.sound.1);
              opening = mine.opening;
              tickets = (mine.tickets.0, (λ _. (refl, queued, sym same, refl)), mine.tickets.2);
              receipts = (mine.receipts.0, (λ c. (mine.receipts.0 c).3));
              joined = mine.joined;
            }
            (λ j u apart e. let f = r.each j u e in
            others_wait p p.next p.serving p.own true p.home_actor p.home_receipts j u f f.tickets.0
            (λ h. let g = f.tickets.1 h in (refl, g.1, g.2, g.3)));
        blank = r.blank;
        most = r.most;
        unmade = r.unmade;
        counted = omega arith;
        parts = omega arith;
        few = few;
        home = ap (λ (hs : List (maybe.Option (Option DeskState))). set hs 0 none) here;
        busy = λ _. busy_here s.views id v w at refl;
      },
      (
        (λ _. (
          desk_at_home p,
          record {
            now = refl;
            setup = own_start;
            after = mine.saw;
            legal = subst (λ (b : Setup). Legal b p.log) own_start r.legal;
            own = (mine.receipts.0 seated).3;
          },
        )),
        λ n. absurd (n hit),
      ),
    ))
    (λ miss. (
      v,
      keeps,
      tt,
      record {
        plan = p;
        legal = r.legal;
        words = same_words;
        each = views_set (Fits p) s.views id v mine (λ j u _ e. r.each j u e);
        blank = r.blank;
        most = r.most;
        unmade = r.unmade;
        counted = ap (λ (vs : List View). p.serving + total (λ x. x.waits) vs)
            (set_again s.views id v at) ∙ r.counted;
        parts = ap (λ (vs : List View). total (λ x. x.parts) vs) (set_again s.views id v at)
            ∙ r.parts;
        few = few;
        home = r.home;
        busy = λ o. subst Busy (sym (set_again s.views id v at)) (r.busy o);
      },
      ((λ e. absurd (miss e)), λ _. refl),
    ))

nothing_kept : {A : Type 0} (xs : List A) (k : ℕ) (x : A) → xs ≡ [] → get_elem? xs k ≡ some x → ⊥
nothing_kept {A} xs k x none_kept e =
    some-ne-none x (sym (ap (λ (l : List A). get_elem? l k) (sym none_kept) ∙ e))

pub counts : (slots id new : ℕ) (me : SeatView) (d : DeskState) (es : List Entry) → me.0.holds ≡ true
    → me.0.seated ≡ true → me.0.kept ≡ [] → me.1 ≡ (0, Some d) ∷ [] → d.journal ≡ me.0.seen ++ es
    → OnlyBy me.0.actor es
    → Legal me.0.setup (me.0.seen ++ es) → new ≡ length (me.0.seen ++ es)
    → Allows KeepsTurns slots id me 0 (λ _. new) (λ _. Counted (step slots 0 new 0 none) me new)
counts slots id new me d es holds seated alone carried grown only legal new_is s r _ at _ =
    let v : View = me.0 in
    let p : TurnstileState = r.plan in
    let h : List Entry = v.seen ++ es in
    let w : View = after_count v h in
    let p' : TurnstileState = record p { log = h; out = true } in
    let mine = r.each id v at in
    let me_served = mine.tickets.1 holds in
    let whole = me_served.3 in
    let queued = mine.tickets.0 me_served.1 in
    let sum = r.counted in
    let all_parts = r.parts in
    let waits = total_set (λ x. x.waits) s.views id v w at in
    let parts = total_set (λ x. x.parts) s.views id v w at in
    let own = mine.receipts.0 seated in
    let legal' : Legal p.setup h = subst (λ (b : Setup). Legal b h) (mine.real own.0).0 legal in
    let longer_than : (l : List Entry) → StartsWith p.log l → StartsWith h l =
    λ l b. subst (λ (z : List Entry). StartsWith (z ++ es) l) (sym whole)
    (begins_more p.log l es b) in
    let of_others : (a : ℕ) → a ≢ v.actor → entries_by a h ≡ entries_by a p.log =
    λ a n. by_else v.actor a v.seen es n only ∙ ap (entries_by a) whole in (
      w,
      keeps,
      tt,
      record {
        plan = p';
        legal = legal';
        words = ap (λ (ws : List ℕ). set ws 0 new) r.words
            ∙ ap (λ (k : ℕ). k ∷ p.next % 2 ^ 64 ∷ p.serving % 2 ^ 64 ∷ []) new_is;
        each = views_set (Fits p') s.views id w
            record {
              real = mine.real;
              saw = begins_all h;
              told = longer_than v.told mine.told;
              sound = (legal', mine.sound.1);
              opening = mine.opening;
              tickets = (mine.tickets.0, (λ _. (refl, me_served.1, me_served.2, refl)), mine.tickets.2);
              receipts = ((λ _. (own.0, own.1, own.2, refl)), (λ _. refl));
              joined = ((λ k x e. absurd (nothing_kept v.kept k x alone e)), mine.joined.1);
            }
            (λ j u apart e. let f = r.each j u e in record {
              real = f.real;
              saw = longer_than u.seen f.saw;
              told = longer_than u.told f.told;
              sound = f.sound;
              opening = f.opening;
              tickets = (
                f.tickets.0,
                (λ c. let g = f.tickets.1 c in
                    absurd (apart
                    (sym (f.tickets.0 g.1).0 ∙ (ap p.own (g.2 ∙ sym me_served.2) ∙ queued.0)))),
                f.tickets.2,
              );
              receipts = (
                (λ c. let g = f.receipts.0 c in (
                  g.0,
                  g.1,
                  g.2,
                  of_others u.actor (λ x. apart (sym g.2 ∙ (ap p.who x ∙ own.2)))
                      ∙ g.3,
                )),
                f.receipts.1,
              );
              joined = (
                (λ k x c. let g = f.joined.0 k x c in (
                  g.0,
                  g.1,
                  of_others x.0 (λ y. apart (sym g.1 ∙ (ap p.who y ∙ own.2)))
                      ∙ g.2,
                  longer_than ((x.1).1) g.3,
                )),
                f.joined.1,
              );
            });
        blank = r.blank;
        most = r.most;
        unmade = λ a above. let below = own.1 in of_others a (λ x. omega arith) ∙ r.unmade a above;
        counted = omega arith;
        parts = omega arith;
        few = r.few;
        home = r.home ∙ ap (λ (o : Bool). slot_of o (desk_at_home p) ∷ []) me_served.0;
        busy = λ _. busy_here s.views id v w at holds;
      },
      ap (λ (l : List Entry). (after_count v l, me.1)) (sym (ap journal_in carried ∙ grown)),
    )

pub advances : (slots id : ℕ) (me : SeatView) (d : DeskState) → me.0.holds ≡ true → me.0.waits ≡ 1
    → me.0.live ≡ true → me.1 ≡ (0, Some d) ∷ [] → d.setup ≡ me.0.setup → d.journal ≡ me.0.seen
    → Allows KeepsTurns slots id me 2 (λ n. (n + 1) % 2 ^ 64) (Advanced (step slots 2 1 0 none) me)
advances slots id me d holds one live carried setup journal s r _ at _ =
    let v : View = me.0 in
    let p : TurnstileState = r.plan in
    let w : View = without_ticket v in
    let p' : TurnstileState =
    record p { serving = p.serving + 1; out = false; home_actor = d.actor; home_receipts = d.receipts } in
    let mine = r.each id v at in
    let me_served = mine.tickets.1 holds in
    let queued = mine.tickets.0 me_served.1 in
    let is : v.ticket ≡ p.serving = me_served.2 in
    let sum = r.counted in
    let all_parts = r.parts in
    let waits = total_set (λ x. x.waits) s.views id v w at in
    let parts = total_set (λ x. x.parts) s.views id v w at in
    let out : s.homes ≡ none ∷ [] =
    r.home ∙ ap (λ (o : Bool). slot_of o (desk_at_home p) ∷ []) me_served.0 in (
      w,
      gives,
      tt,
      record {
        plan = p';
        legal = r.legal;
        words = ap (λ (ws : List ℕ). set ws 2 ((get_or ws 2 0 + 1) % 18446744073709551616)) r.words
            ∙ ap (λ (k : ℕ). length p.log ∷ p.next % 2 ^ 64 ∷ k ∷ []) (next_word p.serving);
        each = views_set (Fits p') s.views id w
            record {
              real = mine.real;
              saw = mine.saw;
              told = mine.told;
              sound = mine.sound;
              opening = mine.opening;
              tickets = ((λ c. absurd (omega arith)), (λ c. absurd (off c)), (omega arith));
              receipts = mine.receipts;
              joined = mine.joined;
            }
            (λ j u apart e. let f = r.each j u e in
            others_wait p p.next (p.serving + 1) p.own false d.actor d.receipts j u f
            (λ c. let g = f.tickets.0 c in
            let g₁ = g.1 in
            let other : u.ticket ≢ p.serving =
            λ x. apart (sym g.0 ∙ (ap p.own (x ∙ sym is) ∙ queued.0)) in
            let later : p.serving + 1 ≤ u.ticket =
            dite (ℕ_discrete u.ticket p.serving) (λ x. absurd (other x)) (λ x. omega arith) in
            (g.0, later, g.2))
            (λ c. let g = f.tickets.1 c in
            absurd (apart (sym (f.tickets.0 g.1).0 ∙ (ap p.own (g.2 ∙ sym is) ∙ queued.0)))));
        blank = r.blank;
        most = r.most;
        unmade = r.unmade;
        counted = omega arith;
        parts = omega arith;
        few = r.few;
        home = ap (λ (cs : List (ℕ × Option DeskState)). Rattle.atomic_table.specs.Table.homes_after
            s.homes cs gives) carried
            ∙ (ap (λ (hs : List (maybe.Option (Option DeskState))). set hs 0 (some (Some d))) out
            ∙ ap (λ (x : Setup × List Entry). some
            (Some (desk_with x.0 x.1 d.actor d.receipts)) ∷ [])
            (λ i. ((setup ∙ (mine.real live).0) i, (journal ∙ me_served.3) i)));
        busy = λ o. absurd (off o);
      },
      ap (λ (cs : List (ℕ × Option DeskState)). (w, Rattle.atomic_table.specs.Table.rest cs)) carried,
    )

-- seats that are made and joined

total_snoc : (f : View → ℕ) (vs : List View) (w : View) → total f (vs ++ w ∷ []) ≡ total f vs + f w
total_snoc f [] w = omega arith
total_snoc f (x ∷ xs) w = let p = total_snoc f xs w in omega arith

views_snoc : (P : ℕ → View → Type 0) (vs : List View) (n : ℕ) (w : View) → length vs ≡ n → P n w
    → ((j : ℕ) (v : View) → get_elem? vs j ≡ some v → P j v) → (j : ℕ) (v : View)
    → get_elem? (vs ++ w ∷ []) j ≡ some v → P j v
views_snoc P [] zero w is new old zero v e = subst (P 0) (some-injective w v e) new
views_snoc P [] zero w is new old (suc j) v e = absurd (some-ne-none v (sym e))
views_snoc P [] (suc n) w is new old j v e = absurd (omega arith)
views_snoc P (x ∷ xs) zero w is new old j v e = absurd (omega arith)
views_snoc P (x ∷ xs) (suc n) w is new old zero v e = old 0 v e
views_snoc P (x ∷ xs) (suc n) w is new old (suc j) v e =
    views_snoc (λ i. P (suc i)) xs n w (omega arith) new (λ i u g. old (suc i) u g) j v e

at_front : (vs : List View) (w : View) (j : ℕ) (v : View) → get_elem? vs j ≡ some v
    → get_elem? (vs ++ w ∷ []) j ≡ some v
at_front [] w j v e = absurd (some-ne-none v (sym e))
at_front (x ∷ xs) w zero v e = e
at_front (x ∷ xs) w (suc j) v e = at_front xs w j v e

busy_snoc : (vs : List View) (w : View) → Busy vs → Busy (vs ++ w ∷ [])
busy_snoc vs w b = (b.0, b.1, at_front vs w b.0 b.1 b.2, b.3)

pub splits : (id : ℕ) (v : View) → v.opens ≡ true → v.live ≡ true → v.waits ≡ 0 → 0 < v.parts
    → v.holds ≡ false → v.seated ≡ true → v.kept ≡ [] → v.made < v.all
    → Splits KeepsTurns id v (after_split v) (next_seat v)
splits id v opens live idle some_part not_held seated alone more s r at =
    let p : TurnstileState = r.plan in
    let n : ℕ = length s.views in
    let w : View = after_split v in
    let new : View = next_seat v in
    let p' : TurnstileState = record p { made = p.made + 1; who = put p.who p.made n } in
    let mine = r.each id v at in
    let opened = mine.opening opens in
    let own = mine.receipts.0 seated in
    let below = below_length s.views id v at in
    let is_made : v.made ≡ p.made = opened.1 in
    let waits = total_set (λ x. x.waits) s.views id v w at in
    let parts = total_set (λ x. x.parts) s.views id v w at in
    let waits' = total_snoc (λ x. x.waits) (set s.views id w) new in
    let parts' = total_snoc (λ x. x.parts) (set s.views id w) new in
    let sum = r.counted in
    let all_parts = r.parts in
    let not_served : v.holds ≡ true → ⊥ = λ h. off (sym not_held ∙ h) in
    let keeps_who : (a j : ℕ) → a < p.made → p.who a ≡ j → put p.who p.made n a ≡ j =
    λ a j less e. put_else p.who p.made n a (λ x. omega arith) ∙ e in
    record {
      plan = p';
      legal = r.legal;
      words = r.words;
      each = views_snoc (Fits p') (set s.views id w) n new (length-set s.views id w)
          record {
            real = λ _. mine.real live;
            saw = begins_none p.log;
            told = begins_none p.log;
            sound = (r.blank, r.blank);
            opening = λ o. absurd (off o);
            tickets = ((λ q. absurd (omega arith)), (λ h. absurd (off h)), (omega arith));
            receipts = (
              (λ _. (
                refl,
                (omega arith),
                ap (put p.who p.made n) is_made
                    ∙ put_here p.who p.made n,
                r.unmade v.made (omega arith),
              )),
              (λ _. refl),
            );
            joined = ((λ k x e. absurd (nothing_kept [] k x refl e)), (tt, tt));
          }
          (views_set (Fits p') s.views id w
          record {
            real = mine.real;
            saw = mine.saw;
            told = mine.told;
            sound = mine.sound;
            opening = λ _. (opened.0, ap (λ (k : ℕ). k + 1) is_made);
            tickets = (mine.tickets.0, (λ h. absurd (not_served h)), (omega arith));
            receipts = (
              (λ c. let less = own.1 in
                  (own.0, (omega arith), keeps_who v.actor id own.1 own.2, own.3)),
              mine.receipts.1,
            );
            joined = ((λ k x e. absurd (nothing_kept v.kept k x alone e)), mine.joined.1);
          }
          (λ j u apart e. let f = r.each j u e in record {
            real = f.real;
            saw = f.saw;
            told = f.told;
            sound = f.sound;
            opening = λ o. absurd (apart (sym (f.opening o).0 ∙ opened.0));
            tickets = f.tickets;
            receipts = (
              (λ c. let g = f.receipts.0 c in let less = g.1 in
                  (g.0, (omega arith), keeps_who u.actor j g.1 g.2, g.3)),
              f.receipts.1,
            );
            joined = (
              (λ k x c. let g = f.joined.0 k x c in let less = g.0 in
                  ((omega arith), keeps_who x.0 j g.0 g.1, g.2, g.3)),
              f.joined.1,
            );
          }));
      blank = r.blank;
      most = (let all_is = (mine.real live).1 in omega arith);
      unmade = λ a above. r.unmade a (omega arith);
      counted = omega arith;
      parts = omega arith;
      few = r.few;
      home = r.home;
      busy = λ o. busy_snoc (set s.views id w) new
          (busy_else s.views id v w at not_served (r.busy o));
    }

pub notes : (id : ℕ) (v : View) → v.live ≡ true → Splits KeepsTurns id v v (note_of v)
notes id v live s r at =
    let p : TurnstileState = r.plan in
    let n : ℕ = length s.views in
    let new : View = note_of v in
    let mine = r.each id v at in
    let same = set_again s.views id v at in
    let waits' = total_snoc (λ x. x.waits) s.views new in
    let parts' = total_snoc (λ x. x.parts) s.views new in
    let sum = r.counted in
    let all_parts = r.parts in
    subst (λ (vs : List View). KeepsTurns record
    { words = s.words; homes = s.homes; views = vs ++ new ∷ [] }) (sym same)
    record {
      plan = p;
      legal = r.legal;
      words = r.words;
      each = views_snoc (Fits p) s.views n new refl
          record {
            real = λ _. mine.real live;
            saw = mine.saw;
            told = begins_none p.log;
            sound = (mine.sound.0, r.blank);
            opening = λ o. absurd (off o);
            tickets = ((λ q. absurd (omega arith)), (λ h. absurd (off h)), (omega arith));
            receipts = ((λ c. absurd (off c)), (λ c. absurd (off c)));
            joined = ((λ k x e. absurd (nothing_kept [] k x refl e)), (tt, tt));
          }
          r.each;
      blank = r.blank;
      most = r.most;
      unmade = r.unmade;
      counted = omega arith;
      parts = omega arith;
      few = r.few;
      home = r.home;
      busy = λ o. busy_snoc s.views new (r.busy o);
    }

-- a view that is spent fits any plan
spent_fits : (p : TurnstileState) (j : ℕ) → Legal p.setup [] → Fits p j spent_view
spent_fits p j blank = record {
  real = λ c. absurd (off c);
  saw = begins_none p.log;
  told = begins_none p.log;
  sound = (blank, blank);
  opening = λ o. absurd (off o);
  tickets = ((λ q. absurd (omega arith)), (λ h. absurd (off h)), (omega arith));
  receipts = ((λ c. absurd (off c)), (λ c. absurd (off c)));
  joined = ((λ k x e. absurd (nothing_kept [] k x refl e)), (tt, tt));
}

there_too : (vs : List View) (id other : ℕ) (w u : View) → ¬ (other ≡ id)
    → get_elem? (set vs id w) other ≡ some u → get_elem? vs other ≡ some u
there_too vs id other w u apart e = sym (set_else vs id other w apart) ∙ e

pub tells : (id : ℕ) (v : View) (other : ℕ) (u : View) → u.waits ≡ 0 → u.parts ≡ 0 → u.holds ≡ false
    → Joins KeepsTurns id v other u (told_by v u) spent_view
tells id v other u idle no_part not_held s r at apart there =
    let p : TurnstileState = r.plan in
    let w : View = told_by v u in
    let mine = r.each id v at in
    let at' = there_too s.views id other w u apart there in
    let theirs = r.each other u at' in
    let waits = total_set (λ x. x.waits) s.views id v w at in
    let parts = total_set (λ x. x.parts) s.views id v w at in
    let waits' = total_set (λ x. x.waits) (set s.views id w) other u spent_view there in
    let parts' = total_set (λ x. x.parts) (set s.views id w) other u spent_view there in
    let sum = r.counted in
    let all_parts = r.parts in
    record {
      plan = p;
      legal = r.legal;
      words = r.words;
      each = views_set (Fits p) (set s.views id w) other spent_view (spent_fits p other r.blank)
          (λ j x _ e. views_set (Fits p) s.views id w
          record {
            real = mine.real;
            saw = mine.saw;
            told = theirs.saw;
            sound = (mine.sound.0, theirs.sound.0);
            opening = mine.opening;
            tickets = mine.tickets;
            receipts = mine.receipts;
            joined = mine.joined;
          } (λ i y _ g. r.each i y g) j x e);
      blank = r.blank;
      most = r.most;
      unmade = r.unmade;
      counted = omega arith;
      parts = omega arith;
      few = r.few;
      home = r.home;
      busy = λ o. busy_else (set s.views id w) other u spent_view there
          (λ h. off (sym not_held ∙ h)) (busy_same s.views id v w at refl (r.busy o));
    }
  where
    busy_at : (vs : List View) (id : ℕ) (v w : View) → get_elem? vs id ≡ some v → w.holds ≡ v.holds
        → (b : Busy vs) → Dec (b.0 ≡ id) → Busy (set vs id w)
    busy_at vs id v w at is b (yes e) =
        let one : b.1 ≡ v = some-injective b.1 v (sym b.2 ∙ (ap (get_elem? vs) e ∙ at)) in
        busy_here vs id v w at (is ∙ (ap (λ (x : View). x.holds) (sym one) ∙ b.3))
    busy_at vs id v w at is b (no n) = (b.0, b.1, set_else vs id b.0 w n ∙ b.2, b.3)

    busy_same : (vs : List View) (id : ℕ) (v w : View) → get_elem? vs id ≡ some v
        → w.holds ≡ v.holds → Busy vs → Busy (set vs id w)
    busy_same vs id v w at is b = busy_at vs id v w at is b (ℕ_discrete b.0 id)

absent_snoc : (a b : ℕ) (xs : List ℕ) → NotAmong a xs → b ≢ a → NotAmong a (xs ++ b ∷ [])
absent_snoc a b [] n d = (d, tt)
absent_snoc a b (x ∷ xs) n d = (n.0, absent_snoc a b xs n.1 d)

differ_snoc : (b : ℕ) (xs : List ℕ) → Distinct xs → NotAmong b xs → Distinct (xs ++ b ∷ [])
differ_snoc b [] d n = (tt, tt)
differ_snoc b (x ∷ xs) d n = (absent_snoc x b xs d.0 (λ e. n.0 (sym e)), differ_snoc b xs d.1 n.1)

keys_snoc : (xs : List Joined) (x : Joined) → keys (xs ++ x ∷ []) ≡ keys xs ++ x.0 ∷ []
keys_snoc [] x = refl
keys_snoc (y ∷ ys) x = ap (λ (l : List ℕ). y.0 ∷ l) (keys_snoc ys x)

absent_keys : (a : ℕ) (xs : List Joined)
    → ((k : ℕ) (x : Joined) → get_elem? xs k ≡ some x → x.0 ≢ a) → NotAmong a (keys xs)
absent_keys a [] h = tt
absent_keys a (x ∷ xs) h = (h 0 x refl, absent_keys a xs (λ k y e. h (suc k) y e))

differ_more : (a : ℕ) (xs : List Joined) (x : Joined) → Distinct (a ∷ keys xs) → a ≢ x.0
    → ((k : ℕ) (y : Joined) → get_elem? xs k ≡ some y → y.0 ≢ x.0)
    → Distinct (a ∷ keys (xs ++ x ∷ []))
differ_more a xs x d n h =
    subst (λ (l : List ℕ). Distinct (a ∷ l)) (sym (keys_snoc xs x))
    (differ_snoc x.0 (a ∷ keys xs) d (n, absent_keys x.0 xs h))

pub joins : (id : ℕ) (v : View) (other : ℕ) (u : View) → v.seated ≡ true → v.holds ≡ false
    → u.waits ≡ 0 → u.holds ≡ false → u.seated ≡ true
    → Joins KeepsTurns id v other u (joined_by v u) spent_view
joins id v other u my_seat mine_idle idle not_held seated s r at apart there =
    let p : TurnstileState = r.plan in
    let w : View = joined_by v u in
    let mine = r.each id v at in
    let at' = there_too s.views id other w u apart there in
    let theirs = r.each other u at' in
    let own = theirs.receipts.0 seated in
    let p' : TurnstileState = record p { who = put p.who u.actor id } in
    let waits = total_set (λ x. x.waits) s.views id v w at in
    let parts = total_set (λ x. x.parts) s.views id v w at in
    let waits' = total_set (λ x. x.waits) (set s.views id w) other u spent_view there in
    let parts' = total_set (λ x. x.parts) (set s.views id w) other u spent_view there in
    let sum = r.counted in
    let all_parts = r.parts in
    let mine_part = mine.tickets.2 in
    let apart_from : (a : ℕ) → p.who a ≡ id → a ≢ u.actor =
    λ a e x. apart (sym own.2 ∙ (ap p.who (sym x) ∙ e)) in
    let further : Distinct (v.actor ∷ keys w.kept) =
    differ_more v.actor v.kept (key_of u) mine.joined.1
    (apart_from v.actor (mine.receipts.0 my_seat).2)
    (λ k x e. apart_from x.0 (mine.joined.0 k x e).1) in
    let keeps_who : (a j : ℕ) → j ≢ other → p.who a ≡ j → put p.who u.actor id a ≡ j =
    λ a j n e. put_else p.who u.actor id a (λ x. n (sym e ∙ (ap p.who x ∙ own.2))) ∙ e in
    record {
      plan = p';
      legal = r.legal;
      words = r.words;
      each = views_set (Fits p') (set s.views id w) other spent_view (spent_fits p' other r.blank)
          (λ j x away e. views_set (λ i y. (i ≢ other → Fits p' i y)) s.views id w
          (λ _. record {
            real = mine.real;
            saw = mine.saw;
            told = mine.told;
            sound = mine.sound;
            opening = mine.opening;
            tickets = (mine.tickets.0, (λ h. absurd (off (sym mine_idle ∙ h))), (omega arith));
            receipts = (
              (λ c. let g = mine.receipts.0 c in
                  (g.0, g.1, keeps_who v.actor id (λ x. apart (sym x)) g.2, g.3)),
              mine.receipts.1,
            );
            joined = (
              (λ k y c. ⊎_elim
                  (λ c'. let g = mine.joined.0 k y c' in
                  (g.0, keeps_who y.0 id (λ x. apart (sym x)) g.1, g.2, g.3))
                  (λ (same : (u.actor, (u.mine, u.seen)) ≡ y). subst
                  (λ (z : ℕ × (List Entry × List Entry)). (z.0 < p.made)
                  × (put p.who u.actor id z.0 ≡ id) × (entries_by z.0 p.log ≡ (z.1).0)
                  × StartsWith p.log ((z.1).1)) same
                  (own.1, put_here p.who u.actor id, own.3, theirs.saw))
                  (at_snoc v.kept (u.actor, (u.mine, u.seen)) y k c)),
              further,
            );
          }) (λ i y _ g far. let f = r.each i y g in record {
            real = f.real;
            saw = f.saw;
            told = f.told;
            sound = f.sound;
            opening = f.opening;
            tickets = f.tickets;
            receipts = ((λ c. let h = f.receipts.0 c in (h.0, h.1, keeps_who y.actor i far h.2, h.3)), f.receipts.1);
            joined = ((λ k z c. let h = f.joined.0 k z c in (h.0, keeps_who z.0 i far h.1, h.2, h.3)), f.joined.1);
          }) j x e away);
      blank = r.blank;
      most = r.most;
      unmade = r.unmade;
      counted = omega arith;
      parts = omega arith;
      few = r.few;
      home = r.home;
      busy = λ o. busy_else (set s.views id w) other u spent_view there
          (λ h. off (sym not_held ∙ h))
          (busy_else s.views id v w at (λ h. off (sym mine_idle ∙ h)) (r.busy o));
    }

longer_sound : (P : List Entry → Type 0) (b : Bool) (xs ys : List Entry) → P xs → P ys
    → P (if b then ys else xs)
longer_sound P true xs ys a b = b
longer_sound P false xs ys a b = a

longer_begins : (b : Bool) (l xs ys : List Entry) → StartsWith l xs → StartsWith l ys
    → StartsWith l (if b then ys else xs)
longer_begins true l xs ys a b = b
longer_begins false l xs ys a b = a

-- of two beginnings of one list the longer begins with the shorter
begins_both : (l xs ys rest more : List Entry) → l ≡ xs ++ rest → l ≡ ys ++ more
    → length xs ≤ length ys → StartsWith ys xs
begins_both l [] ys rest more a b le = begins_none ys
begins_both l (x ∷ xs) [] rest more a b le = absurd (omega arith)
begins_both [] (x ∷ xs) (y ∷ ys) rest more a b le = absurd (cc)
begins_both (z ∷ l) (x ∷ xs) (y ∷ ys) rest more a b le =
    let front = begins_both l xs ys rest more (ap (Rattle.std.proofs.Common.drop 1) a)
    (ap (Rattle.std.proofs.Common.drop 1) b) (omega arith) in
    let first : x ≡ y = ap (λ (k : List Entry). get_or k 0 z) (sym a ∙ b) in
    (front.0, ap (λ (k : Entry × List Entry). k.0 ∷ k.1) (λ i. (sym first i, front.1 i)))

meet_lists : (l xs ys : List Entry) → StartsWith l xs → StartsWith l ys → (b : Bool)
    → nat_lt (length xs) (length ys) ≡ b
    → StartsWith (if b then ys else xs) xs × StartsWith (if b then ys else xs) ys
meet_lists l xs ys a c true is = let less : length xs < length ys = grind (arith, nat_tests) in
    (begins_both l xs ys a.0 c.0 a.1 c.1 (omega arith), begins_all ys)
meet_lists l xs ys a c false is = let less : length ys ≤ length xs = grind (arith, nat_tests) in
    (begins_all xs, begins_both l ys xs c.0 a.0 c.1 a.1 less)

pub meets : (slots id : ℕ) (me : SeatView) → me.0.holds ≡ false → me.0.seated ≡ true
    → Allows KeepsTurns slots id me 0 (λ n. n) (Met (step slots 0 0 0 none) me)
meets slots id me idle seated s r _ at _ =
    let v : View = me.0 in
    let p : TurnstileState = r.plan in
    let w : View = after_meeting v in
    let mine = r.each id v at in
    let sum = r.counted in
    let all_parts = r.parts in
    let waits = total_set (λ x. x.waits) s.views id v w at in
    let parts = total_set (λ x. x.parts) s.views id v w at in
    let own = mine.receipts.0 seated in
    let far = longer_begins (nat_lt (length v.seen) (length v.told)) p.log v.seen v.told mine.saw
    mine.told in
    let both = meet_lists p.log v.seen v.told mine.saw mine.told
    (nat_lt (length v.seen) (length v.told)) refl in
    let sound : Legal p.setup w.seen =
    longer_sound (Legal p.setup) (nat_lt (length v.seen) (length v.told)) v.seen v.told
    mine.sound.0 mine.sound.1 in
    let now : entries_by v.actor w.seen ≡ v.mine =
    between v.actor p.log w.seen v.seen v.mine far both.0 (mine.receipts.1 seated) own.3 in (
      w,
      keeps,
      tt,
      record {
        plan = p;
        legal = r.legal;
        words = ap (λ (ws : List ℕ). set ws 0 (get_or ws 0 0)) r.words;
        each = views_set (Fits p) s.views id w
            record {
              real = mine.real;
              saw = longer_begins (nat_lt (length v.seen) (length v.told)) p.log v.seen v.told
                  mine.saw mine.told;
              told = begins_none p.log;
              sound = (sound, r.blank);
              opening = mine.opening;
              tickets = (mine.tickets.0, (λ h. absurd (off (sym idle ∙ h))), mine.tickets.2);
              receipts = (mine.receipts.0, (λ _. now));
              joined = mine.joined;
            }
            (λ j u _ e. r.each j u e);
        blank = r.blank;
        most = r.most;
        unmade = r.unmade;
        counted = omega arith;
        parts = omega arith;
        few = r.few;
        home = r.home;
        busy = λ o. busy_else s.views id v w at (λ h. off (sym idle ∙ h)) (r.busy o);
      },
      record {
        now = refl;
        seen = both.0;
        told = both.1;
        legal = subst (λ (b : Setup). Legal b w.seen) (sym (mine.real own.0).0) sound;
        own = now;
      },
    )

pub starts : (setup : Setup) (d : DeskState) → d.setup ≡ setup → d.journal ≡ []
    → 1 ≤ actor_count setup → actor_count setup < 2 ^ 64
    → KeepsTurns (opening (0 ∷ 0 ∷ 0 ∷ []) (Some d ∷ []) (first_view setup))
starts setup d is empty some_actor few = record {
  plan = p;
  legal = blank;
  blank = blank;
  words = refl;
  each = one;
  most = some_actor;
  unmade = λ _ _. refl;
  counted = refl;
  parts = omega arith;
  few = few;
  home = ap (λ (x : Setup × List Entry). some (Some (desk_with x.0 x.1 d.actor d.receipts)) ∷ [])
      (λ i. (is i, empty i));
  busy = λ o. absurd (off o);
}
  where
    blank : Legal setup []
    blank = (omega arith, tt)

    p : TurnstileState
    p = record {
      log = [];
      setup = setup;
      all = actor_count setup;
      serving = 0;
      next = 0;
      made =
          1;
      opener = 0;
      own = λ _. 0;
      who = λ _. 0;
      out = false;
      home_actor = d.actor;
      home_receipts = d.receipts;
    }

    one : (j : ℕ) (v : View) → get_elem? (first_view setup ∷ []) j ≡ some v → Fits p j v
    one zero v e = subst (Fits p 0) (some-injective (first_view setup) v e) record {
      real = λ _. (refl, refl);
      saw = begins_none [];
      told = begins_none [];
      sound = (blank, blank);
      opening = λ _. (refl, refl);
      tickets = ((λ q. absurd (omega arith)), (λ h. absurd (off h)), (omega arith));
      receipts = ((λ _. (refl, (omega arith), refl, refl)), (λ _. refl));
      joined = ((λ k x c. absurd (nothing_kept [] k x refl c)), (tt, tt));
    }
    one (suc j) v e = absurd (some-ne-none v (sym e))

-- at the end, where one seat has every part

total_two : (f : View → ℕ) → f spent_view ≡ 0 → (vs : List View) (i j : ℕ) (v w : View) → i ≢ j
    → get_elem? vs i ≡ some v → get_elem? vs j ≡ some w → f v + f w ≤ total f vs
total_two f zero_is vs i j v w n a b =
    let none_i = total_set f vs i v spent_view a in
    let there = set_else vs i j spent_view (λ e. n (sym e)) ∙ b in
    let none_j = total_set f (set vs i spent_view) j w spent_view there in
    omega arith

-- at the end, where a place has its own seat and those joined into it
pub record Ended (v : View) (log : List Entry) : Type 0 where
  pub legal : Legal v.setup log
  pub saw : StartsWith log v.seen
  pub mine : entries_by v.actor log ≡ v.mine
  pub joined : (k : ℕ) (x : Joined) → get_elem? v.kept k ≡ some x →
      (entries_by x.0 log ≡ (x.1).0) × StartsWith log ((x.1).1)

-- what is found once a seat has every part
pub record Over (v : View) (log : List Entry) (made : ℕ) : Type 0 where
  pub ended : Ended v log
  pub below : (v.actor < made) × ((k : ℕ) (x : Joined) → get_elem? v.kept k ≡ some x → x.0 < made)
  pub most : made ≤ v.all
  pub parts : v.parts ≡ v.all
  pub apart : Distinct (v.actor ∷ keys v.kept)
  pub unmade : (a : ℕ) → made ≤ a → entries_by a log ≡ []

total_one : (f : View → ℕ) → f spent_view ≡ 0 → (vs : List View) (i : ℕ) (v : View)
    → get_elem? vs i ≡ some v → f v ≤ total f vs
total_one f zero_is vs i v a = let none_i = total_set f vs i v spent_view a in omega arith

pub ends : (id : ℕ) (v : View) (s : State (Option DeskState) View) → v.seated ≡ true → v.holds ≡ false
    → v.all ≤ v.parts → KeepsTurns s → get_elem? s.views id ≡ some v
    → (b : DeskState) × (get_elem? s.homes 0 ≡ some (some (Some b))) × (b.setup ≡ v.setup)
    × ((made : ℕ) × Over v b.journal made)
ends id v s seated idle whole r at =
    let p : TurnstileState = r.plan in
    let mine = r.each id v at in
    let own = mine.receipts.0 seated in
    let real = mine.real own.0 in
    let all_is = real.1 in
    let all_parts = r.parts in
    let most = r.most in
    let no_more = total_one (λ x. x.parts) refl s.views id v at in
    let home : p.out ≡ false = at_home p.out (λ o.
    let b = r.busy o in
    let f = r.each b.0 b.1 b.2 in
    let g = (f.tickets.1 b.3).1 in
    let part = f.tickets.2 in
    let apart : id ≢ b.0 =
    λ e. off (sym idle
    ∙ (ap (λ (x : View). x.holds)
    (some-injective v b.1 (sym at ∙ (ap (get_elem? s.views) e ∙ b.2))) ∙ b.3)) in
    let two = total_two (λ x. x.parts) refl s.views id b.0 v b.1 apart at b.2 in
    absurd (omega arith)) in (
      desk_at_home p,
      ap (λ (hs : List (maybe.Option (Option DeskState))). get_elem? hs 0)
          (r.home ∙ ap (λ (o : Bool). slot_of o (desk_at_home p) ∷ []) home),
      sym real.0,
      (
        p.made,
        record {
          ended = record {
            legal = subst (λ (b : Setup). Legal b p.log) (sym real.0) r.legal;
            saw = mine.saw;
            mine = own.3;
            joined = λ k x e. let g = mine.joined.0 k x e in (g.2, g.3);
          };
          below = (own.1, λ k x e. (mine.joined.0 k x e).0);
          most = omega arith;
          parts = omega arith;
          apart = mine.joined.1;
          unmade = r.unmade;
        },
      ),
    )
