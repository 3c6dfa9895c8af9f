-- parts that actors play
use Rattle.std.proofs.Common.{◌≡◌, ◌⊎◌, inl, inr, ◌≤◌, ℕ, ◌==◌, Bool, true, false, nat_lt, cond, if◌then◌else◌, List, [], ◌∷◌, ◌++◌, length, Option, Some, None, Result, Ok, Err, refl, sym, ap, ◌∙◌, subst, arith, eq-eqb, append-nil, length-append}
use Rattle.std.proofs.lemmas.Bool.Decides.{nat_tests}
use Rattle.std.proofs.lemmas.List.Elements.{filter-append}
use Rattle.std.proofs.lemmas.Option.{slice_get_cases}
use Rattle.fy_acts.specs.declared.act.Act.{Act}
use Rattle.fy_acts.specs.declared.reply.Reply.{Reply}
use Rattle.fy_acts.specs.declared.entry.Entry.{Entry}
use Rattle.fy_cluster.specs.declared.fault.Fault.{Fault}
use Rattle.fy_cluster.specs.declared.fault.Fault.TheVariants.{JournalFull}
use Rattle.fy_cluster.specs.declared.sight.Sight.{Sight}
use Rattle.fy_cluster.specs.Setup.{Setup}
use Rattle.fy_actors.specs.declared.desk.Turn.{Turn}
use Rattle.fy_actors.specs.declared.desk.Turn.TheVariants.{More, Ended}
use Rattle.fy_actors.specs.declared.driver.Team.{Team}
use Rattle.fy_actors.specs.declared.driver.Team.TheVariants.{Unformed, Formed, Refused}
use Rattle.fy_actors.specs.Desk.{DeskState, receipt, entries_by}
use Rattle.fy_actors.specs.Turns.{TakesTurn, more_if}
use Rattle.fy_actors.specs.Drives.{Drive, act_while, next_act, driven, is_refused, goes_on, Drives}
use Rattle.fy_actors.specs.Parts.{Part, after_reply, has_next_act, ComesNext, PlaysTurn, played, Obeys, KeepsTo, Tells, TurnsKeepTo, OthersChangeNoPart, AnswersTell}
use Rattle.fy_actors.specs.Parts.Part.{Acts, Stores, Unspecified}

-- ---- turns of the actors of this crate play their parts

drives : (next : Option Act) (was now : Drive × DeskState) (result : Result Turn Fault)
    → TakesTurn driven goes_on next was now result
    → TakesTurn after_reply has_next_act next (Stores was.0, was.1) (Stores now.0, now.1) result
drives None was now result t = (t.0, ap (λ (x : Drive × DeskState). (Stores x.0, x.1)) t.1)
drives (Some act) was now (Ok took) t =
    record { made = ap (λ (x : Drive × DeskState). (Stores x.0, x.1)) t.made; ends = t.ends }
drives (Some act) was now (Err fault) t =
    record { same = ap (λ (x : Drive × DeskState). (Stores x.0, x.1)) t.same; full = t.full }

pub drives_plays : (was now : Drive × DeskState) (result : Result Turn Fault)
    → Drives was now result → PlaysTurn (Stores was.0, was.1) (Stores now.0, now.1) result
drives_plays was now result d =
    let next : Option Act = next_act was.0 d.sight in
    (next, (d.sight, d.seen, refl), drives next was now result d.turn)

-- ---- entries and parts

pub by_append : (a : ℕ) (xs ys : List Entry)
    → entries_by a (xs ++ ys) ≡ entries_by a xs ++ entries_by a ys
by_append a xs ys = filter-append (λ (e : Entry). e.by == a) xs ys

pub by_first : (a : ℕ) (e : Entry) (es : List Entry) → e.by ≡ a
    → entries_by a (e ∷ es) ≡ e ∷ entries_by a es
by_first a e es is =
    ap (λ (b : Bool). cond b (e ∷ entries_by a es) (entries_by a es)) (eq-eqb e.by a is)

played_append : (part : Part) (xs ys : List Entry)
    → played part (xs ++ ys) ≡ played (played part xs) ys
played_append part [] ys = refl
played_append part (x ∷ xs) ys = played_append (after_reply part x.reply) xs ys

-- an entry stands in the first or in the second of two lists
split : (xs ys front rest : List Entry) (e : Entry) → xs ++ ys ≡ front ++ e ∷ rest
    → ((more : List Entry) × (xs ≡ front ++ e ∷ more))
    ⊎ ((mid : List Entry) × (front ≡ xs ++ mid) × (ys ≡ mid ++ e ∷ rest))
split [] ys front rest e is = inr (front, refl, is)
split (x ∷ xs) ys [] rest e is = inl (xs, cc)
split (x ∷ xs) ys (f ∷ front) rest e is =
    let first : x ≡ f = cc in
    let others : xs ++ ys ≡ front ++ e ∷ rest = cc in
    elim (split xs ys front rest e others) [
      | inl s ↦ inl (s.0, λ i. first i ∷ s.1 i)
      | inr s ↦ inr (s.0, (λ i. sym first i ∷ s.1 i), s.2)
    ]

-- who obeyed a part up to here, and in what comes behind, obeyed it in both
obeys_both : (setup : Setup) (a : ℕ) (part : Part) (xs ys : List Entry) → Obeys setup a part xs
    → ((mid rest : List Entry) (e : Entry) → ys ≡ mid ++ e ∷ rest → e.by ≡ a
    → ComesNext setup (xs ++ mid) (played part (entries_by a (xs ++ mid))) (Some e.act))
    → Obeys setup a part (xs ++ ys)
obeys_both setup a part xs ys here behind front rest e is by =
    elim (split xs ys front rest e is) [
      | inl s ↦ here front s.0 e s.1 by
      | inr s ↦
          subst
          (λ (f : List Entry). ComesNext setup f (played part (entries_by a f)) (Some e.act))
          (sym s.1) (behind s.0 rest e s.2 by)
    ]

not_none : (xs ys : List Entry) (e : Entry) → xs ++ e ∷ ys ≡ [] → ⊥
not_none [] ys e is = cc
not_none (x ∷ xs) ys e is = cc

pub others_change_no_part : OthersChangeNoPart
others_change_no_part setup a first now journal more none keeps = record {
  now_at =
      keeps.now_at
      ∙ ap (played first)
      (sym (append-nil (entries_by a journal))
      ∙ (ap (λ (l : List Entry). entries_by a journal ++ l) (sym none)
      ∙ sym (by_append a journal more)));
  obeys =
      obeys_both setup a first journal more keeps.obeys (λ mid rest e is by.
      absurd
      (not_none (entries_by a mid) (entries_by a rest) e
      (ap (λ (l : List Entry). entries_by a mid ++ l) (sym (by_first a e rest by))
      ∙ (sym (by_append a mid (e ∷ rest)) ∙ (ap (entries_by a) (sym is) ∙ none)))));
}

-- one list of an entry has that entry alone
alone : (mid rest : List Entry) (x e : Entry) → x ∷ [] ≡ mid ++ e ∷ rest → (mid ≡ []) × (e ≡ x)
alone [] rest x e is = (refl, cc)
alone (m ∷ mid) rest x e is =
    let others : [] ≡ mid ++ e ∷ rest = cc in absurd (not_none mid rest e (sym others))

-- an act that came next is made
one_more : (setup : Setup) (a : ℕ) (first now : Part) (journal : List Entry) (x : Entry)
    → x.by ≡ a → ComesNext setup journal now (Some x.act)
    → KeepsTo setup a first journal now
    → KeepsTo setup a first (journal ++ x ∷ []) (after_reply now x.reply)
one_more setup a first now journal x by next keeps =
    let old : List Entry = entries_by a journal in
    let new : entries_by a (journal ++ x ∷ []) ≡ old ++ x ∷ [] =
    by_append a journal (x ∷ []) ∙ ap (λ (l : List Entry). old ++ l) (by_first a x [] by) in
    record {
      now_at =
          ap (λ (p : Part). after_reply p x.reply) keeps.now_at
          ∙ (sym (played_append first old (x ∷ [])) ∙ ap (played first) (sym new));
      obeys =
          obeys_both setup a first journal (x ∷ []) keeps.obeys (λ mid rest e is by'.
          let only = alone mid rest x e is in
          let here : journal ++ mid ≡ journal =
          ap (λ (l : List Entry). journal ++ l) only.0 ∙ append-nil journal in
          let part : played first (entries_by a (journal ++ mid)) ≡ now =
          ap (λ (l : List Entry). played first (entries_by a l)) here ∙ sym keeps.now_at in
          subst
          (λ (z : List Entry × (Part × Entry)). ComesNext setup z.0 (z.1).0 (Some (z.1).1.act))
          (λ i. (sym here i, (sym part i, sym only.1 i)))
          next);
    }

-- ---- turns

turn_keeps : (first : Part) (was now : Part × DeskState) (next : Option Act)
    (result : Result Turn Fault) → ComesNext was.1.setup was.1.journal was.0 next
    → TakesTurn after_reply has_next_act next was now result
    → KeepsTo was.1.setup was.1.actor first was.1.journal was.0
    → KeepsTo was.1.setup was.1.actor first now.1.journal now.0
turn_keeps first was now None result comes t keeps =
    subst (λ (x : Part × DeskState). KeepsTo was.1.setup was.1.actor first x.1.journal x.0)
    (sym t.1) keeps
turn_keeps first was now (Some act) (Ok took) comes t keeps =
    subst (λ (x : Part × DeskState). KeepsTo was.1.setup was.1.actor first x.1.journal x.0)
    (sym t.made)
    (one_more was.1.setup was.1.actor first was.0 was.1.journal (receipt was.1 act) refl comes
    keeps)
turn_keeps first was now (Some act) (Err fault) comes t keeps =
    subst (λ (x : Part × DeskState). KeepsTo was.1.setup was.1.actor first x.1.journal x.0)
    (sym t.same) keeps

-- only whose way was its own from the start goes its own way
own_first : (first : Part) (es : List Entry) → Unspecified ≡ played first es → first ≡ Unspecified
own_first (Acts schedule) [] is = absurd (let none : ⊥ = cc in none)
own_first (Acts schedule) (e ∷ es) is =
    let h : after_reply (Acts schedule) e.reply ≡ Unspecified = own_first (after_reply (Acts schedule) e.reply) es is in
    absurd (let none : ⊥ = cc in none)
own_first (Stores drive) [] is = absurd (let none : ⊥ = cc in none)
own_first (Stores drive) (e ∷ es) is =
    let h : after_reply (Stores drive) e.reply ≡ Unspecified =
    own_first (after_reply (Stores drive) e.reply) es is in
    absurd (let none : ⊥ = cc in none)
own_first Unspecified es is = refl

own_played : (es : List Entry) → played Unspecified es ≡ Unspecified
own_played [] = refl
own_played (e ∷ es) = own_played es

own_keeps : (setup : Setup) (a : ℕ) (journal : List Entry) → KeepsTo setup a Unspecified journal Unspecified
own_keeps setup a journal = record {
  now_at = sym (own_played (entries_by a journal));
  obeys = λ front rest e is by.
      subst (λ (p : Part). ComesNext setup front p (Some e.act))
      (sym (own_played (entries_by a front))) tt;
}

pub turns_keep_to : TurnsKeepTo
turns_keep_to first (Unspecified, before) now result turn keeps =
    subst
    (λ (z : Part × Part). KeepsTo before.setup before.actor z.0 now.1.journal z.1)
    (λ i. (sym (own_first first (entries_by before.actor before.journal) keeps.now_at) i, sym turn i))
    (own_keeps before.setup before.actor now.1.journal)
turns_keep_to first (Acts schedule, before) now result turn keeps =
    turn_keeps first (Acts schedule, before) now turn.0 result turn.1 turn.2 keeps
turns_keep_to first (Stores drive, before) now result turn keeps =
    turn_keeps first (Stores drive, before) now turn.0 result turn.1 turn.2 keeps

-- ---- what answers tell

-- where no act comes next, none is left
none_comes : (setup : Setup) (journal : List Entry) (part : Part)
    → ComesNext setup journal part None → has_next_act part ≡ false
none_comes setup journal (Acts schedule) none =
    elim ((slice_get_cases schedule.acts schedule.made).1) [
      | inl there ↦
          let some : None ≡ Some there.0 = none ∙ there.2 in
          absurd (let no : ⊥ = cc in no)
      | inr past ↦ let beyond : length schedule.acts ≤ schedule.made = past.0 in no_more _ _ beyond
    ]
  where
    no_more : (m n : ℕ) → n ≤ m → nat_lt m n ≡ false
    no_more m n le = grind (arith, nat_tests)
none_comes setup journal (Stores drive) none =
    idle drive none.0 (nat_lt drive.made drive.acts) drive.team none.2
  where
    idle : (drive : Drive) (sight : Sight) (b : Bool) (team : Team)
        → None ≡ (if b then act_while drive sight team else None)
        → (if is_refused team then false else b) ≡ false
    idle drive sight true Unformed e = absurd (let none : ⊥ = cc in none)
    idle drive sight true (Formed team) e = absurd (let none : ⊥ = cc in none)
    idle drive sight true Refused e = refl
    idle drive sight false Unformed e = refl
    idle drive sight false (Formed team) e = refl
    idle drive sight false Refused e = refl
none_comes setup journal Unspecified none = refl

own_before : (part : Part) (reply : Reply) → after_reply part reply ≡ Unspecified → part ≡ Unspecified
own_before (Acts schedule) reply is = absurd (let none : ⊥ = cc in none)
own_before (Stores drive) reply is = absurd (let none : ⊥ = cc in none)
own_before Unspecified reply is = refl

ended_where : (b : Bool) → more_if b ≡ Ended → b ≡ false
ended_where true e = absurd (let none : ⊥ = cc in none)
ended_where false e = refl

ok_is : (x y : Turn) → ◌≡◌ {A = Result Turn Fault} (Ok x) (Ok y) → x ≡ y
ok_is x y e = cc

err_is : (x y : Fault) → ◌≡◌ {A = Result Turn Fault} (Err x) (Err y) → x ≡ y
err_is x y e = cc

tells : (was now : Part × DeskState) (next : Option Act) (result : Result Turn Fault)
    → ComesNext was.1.setup was.1.journal was.0 next
    → TakesTurn after_reply has_next_act next was now result → Tells was now result
tells was now None result comes t = record {
  known = λ known is. known (sym (ap (λ (x : Part × DeskState). x.0) t.1) ∙ is);
  ended = λ is.
      ap (λ (x : Part × DeskState). has_next_act x.0) t.1
      ∙ none_comes was.1.setup was.1.journal was.0 comes;
  more = λ is known. let both : More ≡ Ended = ok_is More Ended (sym is ∙ t.0) in absurd (let none : ⊥ = cc in none);
  full = λ is known. let both : ◌≡◌ {A = Result Turn Fault} (Err JournalFull) (Ok Ended) = sym is ∙ t.0 in absurd (let none : ⊥ = cc in none);
}
tells was now (Some act) (Ok took) comes t = record {
  known = λ known is.
      known (own_before was.0 _ (sym (ap (λ (x : Part × DeskState). x.0) t.made) ∙ is));
  ended = λ is. ended_where (has_next_act now.0) (sym t.ends ∙ ok_is took Ended is);
  more = λ is known.
      ap (λ (x : Part × DeskState). length x.1.receipts) t.made
      ∙ length-append was.1.receipts (receipt was.1 act ∷ []);
  full = λ is known. absurd (let none : ⊥ = cc in none);
}
tells was now (Some act) (Err fault) comes t = record {
  known = λ known is. known (sym (ap (λ (x : Part × DeskState). x.0) t.same) ∙ is);
  ended = λ is. absurd (let none : ⊥ = cc in none);
  more = λ is known. absurd (let none : ⊥ = cc in none);
  full = λ is known.
      subst (λ (x : Part × DeskState). was.1.setup.limit ≤ length x.1.journal) (sym t.same)
      ((t.full).0 (err_is fault JournalFull is));
}

pub answers_tell : AnswersTell
answers_tell (Unspecified, before) now result turn = record {
  known = λ known is. absurd (known refl);
  ended = λ is. ap has_next_act turn;
  more = λ is known. absurd (known refl);
  full = λ is known. absurd (known refl);
}
answers_tell (Acts schedule, before) now result turn =
    tells (Acts schedule, before) now turn.0 result turn.1 turn.2
answers_tell (Stores drive, before) now result turn =
    tells (Stores drive, before) now turn.0 result turn.1 turn.2
