-- what one piece after another makes
use Rattle.std.proofs.Common.{◌≡◌, ◌∙◌, ap, sym, ℕ, ◌+◌, ◌<◌, ◌≤◌, List, [], ◌++◌, append_assoc, append-nil, subst, length, length-append, take, arith, Result, Ok, Err, IsErrAnd, Vec, vec_capacity}
use lib.Seq.{take-append_seam}
use Rattle.std.specs.Prelude.{OnOk, OnErr}
use Rattle.fy_spelling.specs.AppendsOrOom.{IsPrefixOf, AppendsOrOom}

-- two pieces, one after the other
pub joined : (a b o p q : List ℕ) → p ≡ o ++ a → q ≡ p ++ b → q ≡ o ++ (a ++ b)
joined a b o p q e f = f ∙ ap (λ x. x ++ b) e ∙ append_assoc o a b

-- nothing was put
pub stands : (o : List ℕ) → IsPrefixOf o o
stands o = ([], sym (append-nil o))

-- what stood there before a piece was put stands before whatever comes behind the piece
pub stands_behind : (a o p q : List ℕ) → p ≡ o ++ a → IsPrefixOf p q → IsPrefixOf o q
stands_behind a o p q is (more, kept) = (a ++ more, joined a more o p q is kept)

-- what stood there stands before a further piece
pub stands_longer : (a o p q : List ℕ) → IsPrefixOf o p → q ≡ p ++ a → IsPrefixOf o q
stands_longer a o p q (more, kept) is = (more ++ a, is ∙ ap (λ x. x ++ a) kept ∙ append_assoc o more a)

-- and before what a refused piece left
pub stands_still : (o p q : List ℕ) → IsPrefixOf o p → IsPrefixOf p q → IsPrefixOf o q
stands_still o p q before (more, kept) = stands_longer more o p q before kept

-- ---- how much room there was

-- a piece was put
abbrev pub Puts : {Z : Type 0} → Vec ℕ Z → Vec ℕ Z → List ℕ → Type 0
Puts o p a = (p.items ≡ o.items ++ a) × (vec_capacity o ≤ vec_capacity p)

-- there is no room for a text
abbrev pub IsShort : {Z : Type 0} → Vec ℕ Z → List ℕ → Type 0
IsShort o t = vec_capacity o < length o.items + length t

-- no room for a piece of a text is none for the text
pub short_of :
    {Z : Type 0} (o p : Vec ℕ Z) (t a more : List ℕ) → vec_capacity o ≤ vec_capacity p
    → (p.items ++ a) ++ more ≡ o.items ++ t → IsShort p a → IsShort o t
short_of o p t a more grown whole short =
    let length_of : (length p.items + length a) + length more ≡ length o.items + length t =
    sym (length-append (p.items ++ a) more ∙ ap (λ n. n + length more) (length-append p.items a))
    ∙ ap length whole ∙ length-append o.items t in
    omega (arith, grown, short, length_of)

-- ---- one piece after another

-- a writer that ends at an allocation failure leaves what stood there
pub refused : {A E Z : Type 0} (Q : E → Type 0) (r : Result A E) (t : List ℕ) (o q : Vec ℕ Z) → IsErrAnd r Q
    → IsPrefixOf o.items q.items → IsShort o t → AppendsOrOom r o q t
refused Q (Ok x) t o q is kept short = absurd is
refused Q (Err e) t o q is kept short = (kept, short)

-- two pieces were put
pub puts_both : {Z : Type 0} (a b : List ℕ) (o p q : Vec ℕ Z) → Puts o p a → Puts p q b → Puts o q (a ++ b)
puts_both a b o p q (e, grown) (f, further) =
    (joined a b o.items p.items q.items e f, omega (arith, grown, further))

-- the last of several pieces was written
pub joins :
    {E Z : Type 0} (r : Result (Unit {0}) E) (a b : List ℕ) (o p q : Vec ℕ Z) → Puts o p a
    → AppendsOrOom r p q b → AppendsOrOom r o q (a ++ b)
joins (Ok x) a b o p q puts text = puts_both a b o p q puts text
joins (Err e) a b o p q (is, grown) (kept, short) = (
  stands_behind a o.items p.items q.items is kept,
  short_of o p (a ++ b) b [] grown
      (append-nil (p.items ++ b) ∙ ap (λ x. x ++ b) is ∙ append_assoc o.items a b) short,
)

-- ---- a whole text, or what stood there before

pub on_ok : {A E P Q : Type 0} (r : Result A E) → (P → Q) → OnOk r P → OnOk r Q
on_ok (Ok x) f h = f h
on_ok (Err e) f h = tt

-- all of a text was put, if its writer says so
pub put_whole :
    {E Z : Type 0} (r s : Result (Unit {0}) E) (t w : List ℕ) (o p : Vec ℕ Z) (q : List ℕ) → s ≡ r
    → AppendsOrOom r o p t → OnOk r (t ≡ w) → OnOk s (q ≡ p.items) → OnOk s (q ≡ o.items ++ w)
put_whole {E = E} r s t w o p q same puts is kept =
    subst (λ x. OnOk x (q ≡ o.items ++ w)) (sym same)
    (go r puts is (subst (λ x. OnOk x (q ≡ p.items)) same kept))
  where
    go : (x : Result (Unit {0}) E) → AppendsOrOom x o p t → OnOk x (t ≡ w) → OnOk x (q ≡ p.items)
        → OnOk x (q ≡ o.items ++ w)
    go (Ok x) e f g = g ∙ e.0 ∙ ap (λ l. o.items ++ l) f
    go (Err x) e f g = tt

-- what a refused writer leaves, cut back to what stood there
pub put_none :
    {E Z : Type 0} (r s : Result (Unit {0}) E) (t : List ℕ) (o p : Vec ℕ Z) (q : List ℕ) (n : ℕ) → s ≡ r
    → AppendsOrOom r o p t → n ≡ length o.items → OnErr s (q ≡ take n p.items) → OnErr s (q ≡ o.items)
put_none {E = E} r s t o p q n same puts count cut =
    subst (λ x. OnErr x (q ≡ o.items)) (sym same)
    (go r puts (subst (λ x. OnErr x (q ≡ take n p.items)) same cut))
  where
    go : (x : Result (Unit {0}) E) → AppendsOrOom x o p t → OnErr x (q ≡ take n p.items)
        → OnErr x (q ≡ o.items)
    go (Ok x) e f = tt
    go (Err x) ((more, e), short) f =
        f ∙ ap (λ k. take k p.items) count ∙ ap (take (length o.items)) e ∙ take-append_seam o.items more

-- a refused writer had no room for its text
pub put_full :
    {E Z : Type 0} (r s : Result (Unit {0}) E) (t w : List ℕ) (o p : Vec ℕ Z) → s ≡ r
    → AppendsOrOom r o p t → t ≡ w → OnErr s (IsShort o w)
put_full {E = E} r s t w o p same puts is = subst (λ x. OnErr x (IsShort o w)) (sym same) (go r puts)
  where
    go : (x : Result (Unit {0}) E) → AppendsOrOom x o p t → OnErr x (IsShort o w)
    go (Ok x) e = tt
    go (Err x) (kept, short) = subst (IsShort o) is short

-- one that isn't refused leaves no less room
pub put_room :
    {E Z : Type 0} (r s : Result (Unit {0}) E) (t : List ℕ) (o p q : Vec ℕ Z) → s ≡ r
    → AppendsOrOom r o p t → vec_capacity q ≡ vec_capacity p
    → OnOk s (vec_capacity o ≤ vec_capacity q)
put_room {E = E} r s t o p q same puts kept =
    subst (λ x. OnOk x (vec_capacity o ≤ vec_capacity q)) (sym same) (go r puts)
  where
    go : (x : Result (Unit {0}) E) → AppendsOrOom x o p t → OnOk x (vec_capacity o ≤ vec_capacity q)
    go (Ok x) (e, grown) = omega (arith, grown, kept)
    go (Err x) e = tt
