-- what turns make of seats whose actors play a part
use Rattle.std.proofs.Common.{◌≡◌, ◌≢◌, ⊎_elim, inl, inr, append_assoc, append-nil, ◌<◌, get_or, ℕ, suc, ◌+◌, List, [], ◌∷◌, ◌++◌, length, Result, Ok, Err, refl, sym, ap, ◌∙◌, subst, arith, length-append}
use Rattle.std.specs.List.{AllZip}
use Rattle.fy_acts.specs.declared.entry.Entry.{Entry}
use Rattle.fy_cluster.specs.declared.fault.Fault.{Fault}
use Rattle.fy_actors.specs.declared.desk.Turn.{Turn}
use Rattle.fy_actors.specs.declared.desk.Turn.TheVariants.{More, Ended as Over}
use Rattle.fy_actors.specs.Desk.{entries_by}
use Rattle.fy_actors.specs.Parts.{Part, KeepsTo, Tells, TurnsKeepTo, OthersChangeNoPart, AnswersTell}
use Rattle.fy_actors.specs.Parts.Part.{Unspecified}
use Rattle.fy_actors.proofs.Playing.{by_append}
use Rattle.fy_shared.specs.Yard.{Yard, SeatState, StartsWith, IsSameSeat, SeesMore, Turned}
use Rattle.fy_shared.specs.Posts.{MaySeeMore, EndsSo, Ran}
use Rattle.fy_shared.specs.AtDesk.{desk_of}
use Rattle.fy_shared.specs.Parts.{PlaysAt, KeepsPart}
use Rattle.fy_shared.specs.declared.posts.End.{End}
use Rattle.fy_shared.specs.declared.posts.End.TheVariants.{Ended, Limit, Shut, Failed}
use Rattle.fy_shared.proofs.Journals.{begins_more}

none_long : (xs : List Entry) → length xs ≡ 0 → xs ≡ []
none_long [] e = refl
none_long (x ∷ xs) e = absurd (omega arith)

-- what comes behind adds nothing
nothing_more : (xs ys : List Entry) → xs ++ ys ≡ xs → ys ≡ []
nothing_more xs ys e =
    let long : length (xs ++ ys) ≡ length xs = ap (λ (l : List Entry). length l) e in
    none_long ys (omega (arith, length-append xs ys))

-- who kept to a part still does after a turn
pub turn_follows : TurnsKeepTo → OthersChangeNoPart → (y : Yard) (s t : SeatState) (was now : Part)
    (result : Result Turn Fault) → t.actor ≡ s.actor → SeesMore y s t
    → PlaysAt y s t was now result → (first : Part) → KeepsPart y first s was
    → KeepsPart y first t now
turn_follows turns others y s t was now result same sees turn first follows =
    let rest : List Entry = turn.after.0 in
    let more : entries_by s.actor s.seen ++ entries_by s.actor rest ≡ entries_by s.actor s.seen =
    sym (by_append s.actor s.seen rest)
    ∙ (ap (entries_by s.actor) (sym turn.after.1) ∙ (turn.own ∙ sym follows.own)) in
    let none : entries_by s.actor rest ≡ [] = nothing_more _ _ more in
    let at : KeepsTo y.setup s.actor first turn.log was =
    subst (λ (l : List Entry). KeepsTo y.setup s.actor first l was) (sym turn.after.1)
    (others y.setup s.actor first was s.seen rest none follows.keeps) in
    record {
      own = sees.own;
      keeps =
          subst (λ (a : ℕ). KeepsTo y.setup a first t.seen now) (sym same)
          (turns first (was, desk_of y s turn.log) (now, desk_of y t t.seen) result turn.did at);
    }

-- a list that grew again begins with what it began with
pub later : (old now' now more : List Entry) → StartsWith now old
    → now' ≡ now ++ more → StartsWith now' old
later old now' now more begins is =
    subst (λ (l : List Entry). StartsWith l old) (sym is) (begins_more now old more begins)

-- what begins with a beginning of another's begins with that
further : (long mid front : List Entry) → StartsWith long mid → StartsWith mid front
    → StartsWith long front
further long mid front far near = (
  near.0 ++ far.0,
  far.1 ∙ (ap (λ (l : List Entry). l ++ far.0) near.1 ∙ append_assoc front near.0 far.0),
)

-- what a seat sees that had seen nothing yet, or the like before
sees_on : (y : Yard) (s t u : SeatState) → MaySeeMore y s t → SeesMore y t u → SeesMore y s u
sees_on y s t u so_far then =
    ⊎_elim (λ (is : t ≡ s). subst (λ (x : SeatState). SeesMore y x u) is then)
    (λ (sees : SeesMore y s t). record {
      survives = then.survives;
      before = further u.seen t.seen s.seen then.before sees.before;
      own = then.own;
    })
    so_far

-- the laws of parts
pub record Laws : Type 0 where
  pub turns : TurnsKeepTo
  pub others : OthersChangeNoPart
  pub answers : AnswersTell

-- what a turn at a shared cluster promises
pub record Took (y : Yard) (s t : SeatState) (was now : Part) (result : Result Turn Fault)
    : Type 0 where
  pub same : IsSameSeat s t
  pub sees : SeesMore y s t
  pub turned : Turned s t
  pub plays : PlaysAt y s t was now result

-- what holds after any turns
pub record Kept (y : Yard) (s t : SeatState) (was now : Part) : Type 0 where
  pub seat : IsSameSeat s t
  pub receipts : StartsWith t.receipts s.receipts
  pub follows : (first : Part) → KeepsPart y first s was → KeepsPart y first t now
  pub known : was ≢ Unspecified → now ≢ Unspecified

-- and between turns: so many were taken
pub record Playing (y : Yard) (turns : ℕ) (s t : SeatState) (was now : Part) : Type 0 where
  pub kept : Kept y s t was now
  pub sees : MaySeeMore y s t
  pub acts : was ≢ Unspecified → length t.receipts ≡ length s.receipts + turns

pub begins : (y : Yard) (s : SeatState) (was : Part) → Playing y 0 s s was was
begins y s was = record {
  kept = record {
    seat = (refl, refl);
    receipts = ([], sym (append-nil s.receipts));
    follows = λ first f. f;
    known = λ known. known;
  };
  sees = inl refl;
  acts = λ known. omega arith;
}

-- what the answer of the turn tells
told : Laws → (y : Yard) (m t : SeatState) (mid now : Part) (result : Result Turn Fault)
    → (turn : Took y m t mid now result)
    → Tells (mid, desk_of y m (turn.plays).log) (now, desk_of y t t.seen) result
told laws y m t mid now result turn = laws.answers _ _ _ (turn.plays).did

kept_on : Laws → (y : Yard) (n : ℕ) (s m t : SeatState) (was mid now : Part)
    (result : Result Turn Fault) → Playing y n s m was mid → Took y m t mid now result
    → Kept y s t was now
kept_on laws y n s m t was mid now result so_far turn =
    let kept = so_far.kept in
    let said = told laws y m t mid now result turn in
    record {
      seat = (turn.same.0 ∙ kept.seat.0, turn.same.1 ∙ kept.seat.1);
      receipts =
          later s.receipts t.receipts m.receipts (turn.turned).new kept.receipts
          (turn.turned).receipts;
      follows = λ first f.
          turn_follows laws.turns laws.others y m t mid now result turn.same.1 turn.sees turn.plays
          first (kept.follows first f);
      known = λ known. said.known (kept.known known);
    }

-- one turn more, and more are wanted
pub goes_on : Laws → (y : Yard) (n : ℕ) (s m t : SeatState) (was mid now : Part)
    (result : Result Turn Fault) → Playing y n s m was mid → Took y m t mid now result
    → result ≡ Ok More → Playing y (n + 1) s t was now
goes_on laws y n s m t was mid now result so_far turn is =
    let said = told laws y m t mid now result turn in
    record {
      kept = kept_on laws y n s m t was mid now result so_far turn;
      sees = inr (sees_on y s m t so_far.sees turn.sees);
      acts = λ known.
          let one : length t.receipts ≡ length m.receipts + 1 =
          said.more is ((so_far.kept).known known) in
          let before : length m.receipts ≡ length s.receipts + n = so_far.acts known in
          omega arith;
    }

-- the run has ended
ran : (y : Yard) (shuts : ℕ → ℕ → Type 0) (most : ℕ) (s t : SeatState) (was now : Part) (end : End)
    → Kept y s t was now → EndsSo y shuts most s t was now end
    → Ran y shuts most s t was now end
ran y shuts most s t was now end kept so = record {
  seat = kept.seat;
  receipts = kept.receipts;
  follows = kept.follows;
  known = kept.known;
  ended = so;
}

-- the actor wants no further turn
pub ends : Laws → (y : Yard) (shuts : ℕ → ℕ → Type 0) (n most : ℕ) (s m t : SeatState)
    (was mid now : Part) (result : Result Turn Fault) → Playing y n s m was mid → Took y m t mid now result
    → result ≡ Ok Over → Ran y shuts most s t was now Ended
ends laws y shuts n most s m t was mid now result so_far turn is =
    let said = told laws y m t mid now result turn in
    ran y shuts most s t was now Ended
    (kept_on laws y n s m t was mid now result so_far turn)
    (sees_on y s m t so_far.sees turn.sees, said.ended is)

abbrev err_of : Fault → Result Turn Fault
err_of fault = Err fault

-- a turn had a fault
pub fails : Laws → (y : Yard) (shuts : ℕ → ℕ → Type 0) (n most : ℕ) (s m t : SeatState)
    (was mid now : Part) (result : Result Turn Fault) (fault : Fault)
    → Playing y n s m was mid → Took y m t mid now result → result ≡ Err fault
    → Ran y shuts most s t was now (Failed fault)
fails laws y shuts n most s m t was mid now result fault so_far turn failed =
    let said = told laws y m t mid now result turn in
    ran y shuts most s t was now (Failed fault)
    (kept_on laws y n s m t was mid now result so_far turn) (
      sees_on y s m t so_far.sees turn.sees,
      λ is known. said.full (failed ∙ ap err_of is) ((so_far.kept).known known),
    )

-- the gate, or the limit, ended it
pub stops : (y : Yard) (shuts : ℕ → ℕ → Type 0) (n most : ℕ) (s t : SeatState) (was now : Part)
    → Playing y n s t was now → n < most → (number : ℕ) → number ≡ s.actor → shuts number n
    → Ran y shuts most s t was now Shut
stops y shuts n most s t was now so_far below number same shut =
    ran y shuts most s t was now Shut so_far.kept (
      so_far.sees,
      record {
        turn = n;
        within = below;
        shut = subst (λ (a : ℕ). shuts a n) same shut;
        acts = so_far.acts;
      },
    )

pub limits : (y : Yard) (shuts : ℕ → ℕ → Type 0) (n most : ℕ) (s t : SeatState) (was now : Part)
    → Playing y n s t was now → n ≡ most → Ran y shuts most s t was now Limit
limits y shuts n most s t was now so_far all =
    ran y shuts most s t was now Limit so_far.kept (
      so_far.sees,
      λ known. so_far.acts known ∙ ap (λ (k : ℕ). length s.receipts + k) all,
    )

-- what holds of each beside the one at its place, in lists that are as long
pub all_beside : {A : Type 0} (R : A → A → Type 0) (xs ys : List A) → length ys ≡ length xs
    → ((i : ℕ) (d : A) → i < length xs → R (get_or xs i d) (get_or ys i d)) → AllZip R xs ys
all_beside R [] [] long each = tt
all_beside R [] (y ∷ ys) long each = absurd (omega arith)
all_beside R (x ∷ xs) [] long each = absurd (omega arith)
all_beside R (x ∷ xs) (y ∷ ys) long each = (
  each 0 x (omega arith),
  all_beside R xs ys (omega arith) (λ i d within. each (suc i) d (omega arith)),
)
