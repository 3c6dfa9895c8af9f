-- what is found at the end
use Rattle.std.proofs.Common.{◌≡◌, ◌≢◌, ℕ, zero, suc, ◌+◌, ◌<◌, ◌≤◌, List, [], ◌∷◌, ◌++◌, length, map, get_or, set, All, Contains, sum_by, true, false, arith, sym, refl, ap, ◌∙◌, subst, Option, Some, length-append, append_assoc, append-nil}
use Rattle.std.proofs.lemmas.List.Sums.{sum_by-cons}
use mathlib.Core.Option.{some, some-ne-none, some-injective}
use lib.ListN.{get_elem?, length-map}
use Rattle.atomic_table.specs.Table.{Final, Seen}
use Rattle.atomic_table.specs.declared.shared.Seat.{Seat as Place}
use Rattle.atomic_table.proofs.Lists.{at_map}
use Rattle.fy_acts.specs.declared.entry.Entry.{Entry}
use Rattle.fy_cluster.specs.Setup.{Setup}
use Rattle.fy_cluster.specs.Replies.{Legal}
use Rattle.fy_actors.specs.Desk.{DeskState, entries_by}
use Rattle.fy_shared.specs.declared.view.View.{View}
use Rattle.fy_shared.specs.Yard.{StartsWith, Yard, SeatState, actor_count, actors, closed_seat, IsJournalOf, Missing}
use Rattle.fy_shared.specs.Turnstile.{SeatView, Joined, keys, NotAmong, Distinct, KeepsTurns, key_of, joined_by}
use Rattle.fy_shared.specs.Places.{seat_state, key_of_seat, Gathered, IsPlaceOf}
use Rattle.fy_shared.proofs.Moves.{ends, Over}
use Rattle.fy_shared.proofs.Turning.{of_yard}
use Rattle.fy_shared.proofs.Counting.{most_below, all_there, missing_one, contained, sizes, sizes_all}

-- the first of the seats and those done were joined, and the others are still to be
pub record Joining (y : Yard) (ss : List SeatState) (i : ℕ) (now : List SeatState) (m : SeatView)
    : Type 0 where
  pub empty : m.1 ≡ []
  pub first : SeatState
  pub done : List SeatState
  pub todo : List SeatState
  pub seats : ss ≡ first ∷ (done ++ todo)
  pub left : now ≡ closed_seat first ∷ (map closed_seat done ++ todo)
  pub count : i ≡ suc (length done)
  pub setup : m.0.setup ≡ y.setup
  pub all : m.0.all ≡ actor_count y.setup
  pub seated : m.0.seated ≡ true
  pub holds : m.0.holds ≡ false
  pub live : m.0.live ≡ true
  pub actor : m.0.actor ≡ first.actor
  pub mine : m.0.mine ≡ first.receipts
  pub seen : m.0.seen ≡ first.seen
  pub parts : m.0.parts ≡ i
  pub kept : m.0.kept ≡ map key_of_seat done

at_mid : {A : Type 0} (xs ys : List A) (n : ℕ) (d : A) → n ≡ length xs
    → get_or (xs ++ ys) n d ≡ get_or ys 0 d
at_mid [] ys zero d e = refl
at_mid [] ys (suc n) d e = absurd (omega arith)
at_mid (x ∷ xs) ys zero d e = absurd (omega arith)
at_mid (x ∷ xs) ys (suc n) d e = at_mid xs ys n d (omega arith)

set_mid : {A : Type 0} (xs : List A) (y : A) (ys : List A) (n : ℕ) (z : A) → n ≡ length xs
    → set (xs ++ y ∷ ys) n z ≡ (xs ++ z ∷ []) ++ ys
set_mid [] y ys zero z e = refl
set_mid [] y ys (suc n) z e = absurd (omega arith)
set_mid (x ∷ xs) y ys zero z e = absurd (omega arith)
set_mid {A} (x ∷ xs) y ys (suc n) z e =
    ap (λ (l : List A). x ∷ l) (set_mid xs y ys n z (omega arith))

map_snoc : {A B : Type 0} (f : A → B) (xs : List A) (x : A)
    → map f (xs ++ x ∷ []) ≡ map f xs ++ f x ∷ []
map_snoc f [] x = refl
map_snoc {A} {B} f (y ∷ ys) x = ap (λ (l : List B). f y ∷ l) (map_snoc f ys x)

pub joining_start : (y : Yard) (ss : List SeatState) (f g : SeatState)
    (p : Place (Option DeskState) View) → 0 < length ss → f ≡ get_or ss 0 f → f.of ≡ Some y
    → seat_state f.actor f.receipts (Some p) ≡ f → IsPlaceOf f.actor f.receipts p
    → g ≡ closed_seat f → Joining y ss 1 (set ss 0 g) p.me
joining_start y [] f g p one_there is of view at left = absurd (omega arith)
joining_start y (x ∷ xs) f g p one_there is of view at left =
    let calm = at.calm in
    let setup : p.me.0.setup ≡ y.setup =
    ap (λ (z : Yard). z.setup) (of_yard y f f.actor f.receipts p view of) in
    record {
      empty = calm.empty;
      first = x;
      done = [];
      todo = xs;
      seats = refl;
      left = ap (λ (z : SeatState). z ∷ xs) (left ∙ ap closed_seat is);
      count = refl;
      setup = setup;
      all = at.all ∙ ap (λ (c : Setup). actor_count c) setup;
      seated = calm.seated;
      holds = calm.holds;
      live = calm.live;
      actor = at.actor ∙ ap (λ (z : SeatState). z.actor) is;
      mine = at.mine ∙ ap (λ (z : SeatState). z.receipts) is;
      seen = ap (λ (z : SeatState). z.seen) (view ∙ is);
      parts = calm.parts;
      kept = calm.kept;
    }

-- the seat that comes next is still as it was
pub joining_at : (y : Yard) (ss : List SeatState) (i : ℕ) (now : List SeatState) (m : SeatView)
    (d : SeatState) → Joining y ss i now m → get_or now i d ≡ get_or ss i d
joining_at y ss i now m d j =
    let first : SeatState = j.first in
    let done : List SeatState = j.done in
    let todo : List SeatState = j.todo in
    let near : get_or now i d ≡ get_or todo 0 d =
    ap (λ (z : List SeatState × ℕ). get_or z.0 z.1 d) (λ k. (j.left k, j.count k))
    ∙ at_mid (map closed_seat done) todo (length done) d (sym (length-map done closed_seat)) in
    let far : get_or ss i d ≡ get_or todo 0 d =
    ap (λ (z : List SeatState × ℕ). get_or z.0 z.1 d) (λ k. (j.seats k, j.count k))
    ∙ at_mid done todo (length done) d refl in
    near ∙ sym far

pub joining_next : (y : Yard) (ss : List SeatState) (i : ℕ) (now : List SeatState) (m m' : SeatView)
    (f g : SeatState) (p : Place (Option DeskState) View) (j : Joining y ss i now m)
    → i < length ss → f ≡ get_or now i f → f.of ≡ Some y
    → seat_state f.actor f.receipts (Some p) ≡ f → IsPlaceOf f.actor f.receipts p
    → g ≡ closed_seat f → m' ≡ (joined_by m.0 p.me.0, m.1)
    → Joining y ss (i + 1) (set now i g) m'
joining_next y ss i now m m' f g p j room is of view at left joined =
    next j.todo j.seats j.left
  where
    next : (todo : List SeatState) → ss ≡ j.first ∷ (j.done ++ todo)
        → now ≡ closed_seat j.first ∷ (map closed_seat j.done ++ todo)
        → Joining y ss (i + 1) (set now i g) m'
    next [] seats here =
        let count = j.count in
        absurd (let long = ap (λ (l : List SeatState). length l) seats in
        omega (arith, length-append j.done []))
    next (x ∷ xs) seats here =
        let calm = at.calm in
        let actor = at.actor in
        let mine = at.mine in
        let count = j.count in
        let many : length j.done ≡ length (map closed_seat j.done) =
        sym (length-map j.done closed_seat) in
        let same : f ≡ x =
        is
        ∙ (ap (λ (z : List SeatState × ℕ). get_or z.0 z.1 f) (λ k. (here k, count k))
        ∙ at_mid (map closed_seat j.done) (x ∷ xs) (length j.done) f many) in
        let parts = j.parts in
        let one = calm.parts in
        let key : key_of p.me.0 ≡ key_of_seat x =
        ap (λ (z : Joined). z) (λ k. (actor k, (mine k, (view k).seen)))
        ∙ ap key_of_seat same in
        let gone : g ≡ closed_seat x = left ∙ ap closed_seat same in
        subst (λ (z : SeatView). Joining y ss (i + 1) (set now i g) z) (sym joined) record {
          empty = j.empty;
          first = j.first;
          done = j.done ++ x ∷ [];
          todo = xs;
          seats =
              seats
              ∙ ap (λ (l : List SeatState). j.first ∷ l) (sym (append_assoc j.done (x ∷ []) xs));
          left =
              ap (λ (z : List SeatState × ℕ). set z.0 z.1 g) (λ k. (here k, count k))
              ∙ (ap (λ (l : List SeatState). closed_seat j.first ∷ l)
              (set_mid (map closed_seat j.done) x xs (length j.done) g many)
              ∙ ap (λ (l : List SeatState). closed_seat j.first ∷ (l ++ xs))
              (ap (λ (z : SeatState). map closed_seat j.done ++ z ∷ []) gone
              ∙ sym (map_snoc closed_seat j.done x)));
          count = omega (arith, length-append j.done (x ∷ []));
          setup = j.setup;
          all = j.all;
          seated = j.seated;
          holds = j.holds;
          live = j.live;
          actor = j.actor;
          mine = j.mine;
          seen = j.seen;
          parts = omega arith;
          kept =
              ap (λ (l : List Joined). l ++ key_of p.me.0 ∷ []) j.kept
              ∙ (ap (λ (k : Joined). map key_of_seat j.done ++ k ∷ []) key
              ∙ sym (map_snoc key_of_seat j.done x));
        }

none_left : {A : Type 0} (xs : List A) → length xs ≡ 0 → xs ≡ []
none_left [] e = refl
none_left (x ∷ xs) e = absurd (omega arith)

pub record JoinedAll (y : Yard) (ss now : List SeatState) (m : SeatView) : Type 0 where
  pub left : now ≡ map closed_seat ss
  pub gathered : Gathered y ss m

pub joining_end : (y : Yard) (ss : List SeatState) (i : ℕ) (now : List SeatState) (m : SeatView)
    → Joining y ss i now m → length ss ≤ i → JoinedAll y ss now m
joining_end y ss i now m j over =
    let count = j.count in
    let long = ap (λ (l : List SeatState). length l) j.seats in
    let none_todo : j.todo ≡ [] =
    none_left j.todo (omega (arith, length-append j.done j.todo)) in
    let all : ss ≡ j.first ∷ j.done =
    j.seats
    ∙ (ap (λ (l : List SeatState). j.first ∷ (j.done ++ l)) none_todo
    ∙ ap (λ (l : List SeatState). j.first ∷ l) (append-nil j.done)) in
    let whole = ap (λ (l : List SeatState). length l) all in
    let parts = j.parts in
    record {
      left =
          j.left
          ∙ (ap (λ (l : List SeatState). closed_seat j.first ∷ (map closed_seat j.done ++ l)) none_todo
          ∙ (ap (λ (l : List SeatState). closed_seat j.first ∷ l) (append-nil (map closed_seat j.done))
          ∙ sym (ap (map closed_seat) all)));
      gathered = record {
        empty = j.empty;
        first = j.first;
        rest = j.done;
        are = all;
        setup = j.setup;
        all = j.all;
        seated = j.seated;
        holds = j.holds;
        actor = j.actor;
        mine = j.mine;
        seen = j.seen;
        parts = omega arith;
        kept = j.kept;
      };
    }

absent_all : (a : ℕ) (ss : List SeatState) → NotAmong a (actors ss)
    → All (λ (s : SeatState). s.actor ≢ a) ss
absent_all a [] n k d l = absurd (omega arith)
absent_all a (s ∷ ss) n zero d l = n.0
absent_all a (s ∷ ss) n (suc k) d l = absent_all a ss n.1 k d (omega arith)

pub missing : (n : ℕ) (ss : List SeatState) → length ss < n → Missing n ss
missing n ss few =
    let m = missing_one n (actors ss)
    (rw (length-map ss (λ (s : SeatState). s.actor)) few) in
    (m.0, m.1, absent_all m.0 ss m.2)

-- the end of a shared cluster
pub record Found (y : Yard) (ss : List SeatState) (r : Option DeskState) : Type 0 where
  pub desk : DeskState
  pub is : r ≡ Some desk
  pub setup : desk.setup ≡ y.setup
  pub legal : Legal y.setup desk.journal
  pub each : All (λ (s : SeatState). IsJournalOf desk.journal s) ss
  pub whole : (a : ℕ) → a < actor_count y.setup → Contains (actors ss) a
  pub count : length ss ≡ actor_count y.setup
  pub strangers : (a : ℕ) → actor_count y.setup ≤ a → entries_by a desk.journal ≡ []
  pub entries : sum_by (λ (s : SeatState). length s.receipts) ss ≡ length desk.journal

at_or : {A : Type 0} (l : List A) (i : ℕ) (d : A) → i < length l
    → get_elem? l i ≡ some (get_or l i d)
at_or [] i d h = absurd (omega arith)
at_or (x ∷ xs) zero d h = refl
at_or (x ∷ xs) (suc i) d h = at_or xs i d (omega arith)

keys_map : (ss : List SeatState) → keys (map key_of_seat ss) ≡ actors ss
keys_map [] = refl
keys_map (s ∷ ss) = ap (λ (l : List ℕ). s.actor ∷ l) (keys_map ss)

key_at : (xs : List Joined) (k x : ℕ) → get_elem? (keys xs) k ≡ some x
    → (z : Joined) × (get_elem? xs k ≡ some z) × (z.0 ≡ x)
key_at [] k x e = absurd (some-ne-none x (sym e))
key_at (y ∷ ys) zero x e = (y, refl, some-injective y.0 x e)
key_at (y ∷ ys) (suc k) x e = key_at ys k x e

-- what all seats have for receipts, added up
sums : (log : List Entry) (ss : List SeatState) → All (λ (s : SeatState). IsJournalOf log s) ss
    → sum_by (λ (s : SeatState). length s.receipts) ss ≡ sizes (actors ss) log
sums log [] each = refl
sums log (s ∷ ss) each =
    let first : length (entries_by s.actor log) ≡ length s.receipts =
    ap (λ (l : List Entry). length l) (each 0 s (omega arith)).1 in
    let rest = sums log ss (λ k d l. each (suc k) d (omega arith)) in
    omega (arith, sum_by-cons (λ (s : SeatState). length s.receipts) s ss)

below : (v : View) (made : ℕ)
    → (v.actor < made)
    × ((k : ℕ) (x : Joined) → get_elem? v.kept k ≡ some x → x.0 < made)
    → (k x : ℕ) → get_elem? (v.actor ∷ keys v.kept) k ≡ some x → x < made
below v made b zero x e =
    let same : v.actor ≡ x = some-injective v.actor x e in
    let less = b.0 in
    omega arith
below v made b (suc k) x e =
    let z = key_at v.kept k x e in
    let less = b.1 k z.0 z.1 in
    let same = z.2 in
    omega arith

each_of : (log : List Entry) (first : SeatState) (rest : List SeatState)
    → StartsWith log first.seen → entries_by first.actor log ≡ first.receipts
    → ((k : ℕ) (z : Joined) → get_elem? (map key_of_seat rest) k ≡ some z
    → (entries_by z.0 log ≡ (z.1).0) × StartsWith log ((z.1).1))
    → All (λ (s : SeatState). IsJournalOf log s) (first ∷ rest)
each_of log first rest saw mine joined zero d l = (saw, mine)
each_of log first rest saw mine joined (suc k) d l =
    let j = joined k (key_of_seat (get_or rest k d))
    (at_map key_of_seat rest k (get_or rest k d) (at_or rest k d (omega arith))) in
    (j.1, j.0)

pub found : (id : ℕ) (y : Yard) (ss : List SeatState) (m : SeatView) (ws : List ℕ)
    (xs : List (Option DeskState)) (r : Option DeskState) → Gathered y ss m
    → actor_count y.setup ≤ length ss → Final (Seen KeepsTurns id m.0) ws xs
    → get_elem? xs 0 ≡ some r → Found y ss r
found id y ss m ws xs r g many last at =
    let v : View = m.0 in
    let parts = g.parts in
    let all_is = g.all in
    let actor = g.actor in
    let kept = g.kept in
    let f = last in
    let e = ends id v f.0 g.seated g.holds (omega arith) (f.1).0 (f.1).1 in
    let b : DeskState = e.0 in
    let made : ℕ = e.3.0 in
    let o : Over v b.journal made = e.3.1 in
    let there : r ≡ Some b = some-injective r (Some b) (sym at ∙ f.4 0 (Some b) e.1) in
    let ended = o.ended in
    let same : v.actor ∷ keys v.kept ≡ actors ss =
    (λ i. actor i ∷ keys (kept i))
    ∙ (ap (λ (l : List ℕ). (g.first).actor ∷ l) (keys_map g.rest) ∙ sym (ap actors g.are)) in
    let differ : Distinct (actors ss) = subst Distinct same o.apart in
    let below_all : (k x : ℕ) → get_elem? (actors ss) k ≡ some x → x < made =
    subst (λ (l : List ℕ). (k x : ℕ) → get_elem? l k ≡ some x → x < made) same
    (below v made o.below) in
    let long : length (actors ss) ≡ length ss =
    length-map ss (λ (s : SeatState). s.actor) in
    let no_more : length (actors ss) ≤ made = most_below made (actors ss) differ below_all in
    let most = o.most in
    let all_made : made ≡ actor_count y.setup = omega arith in
    let whole = all_there made (actors ss) differ below_all (omega arith) in
    let is_first : entries_by (g.first).actor b.journal ≡ (g.first).receipts =
    ap (λ (k : ℕ). entries_by k b.journal) (sym actor) ∙ (ended.mine ∙ g.mine) in
    let own =
    each_of b.journal g.first g.rest (subst (StartsWith b.journal) g.seen ended.saw) is_first
    (λ k z c. ended.joined k z (ap (λ (l : List Joined). get_elem? l k) kept ∙ c)) in
    let each : All (λ (s : SeatState). IsJournalOf b.journal s) ss =
    subst (λ (l : List SeatState). All (λ (s : SeatState). IsJournalOf b.journal s) l) (sym g.are)
    own in
    record {
      desk = b;
      is = there;
      setup = e.2 ∙ g.setup;
      legal = subst (λ (c : Setup). Legal c b.journal) g.setup ended.legal;
      each = each;
      whole = λ a less. contained (actors ss) a (whole a (omega arith));
      count = omega arith;
      strangers = λ a above. o.unmade a (omega arith);
      entries =
          sums b.journal ss each
          ∙ sizes_all made (actors ss) b.journal differ whole o.unmade;
    }
