-- what a longer journal has
use Rattle.std.proofs.Common.{◌≡◌, ◌≢◌, ℕ, List, [], ◌∷◌, ◌++◌, Bool, cond, sym, refl, ap, ◌∙◌, arith, ne_eqb, length, length-append, ◌≤◌, append-nil, append_assoc}
use Rattle.fy_acts.specs.declared.entry.Entry.{Entry}
use Rattle.fy_actors.specs.Desk.{entries_by, OnlyBy}
use Rattle.fy_actors.proofs.Playing.{by_append, by_first}
use Rattle.fy_shared.specs.Yard.{StartsWith}

-- an entry of another actor is passed over
pub by_passed : (a : ℕ) (e : Entry) (es : List Entry) → e.by ≢ a
    → entries_by a (e ∷ es) ≡ entries_by a es
by_passed a e es is =
    ap (λ (b : Bool). cond b (e ∷ entries_by a es) (entries_by a es)) (ne_eqb e.by a is)

by_same : (a : ℕ) (es : List Entry) → OnlyBy a es → entries_by a es ≡ es
by_same a [] o = refl
by_same a (x ∷ xs) o =
    by_first a x xs o.0 ∙ ap (λ (l : List Entry). x ∷ l) (by_same a xs o.1)

by_other : (a b : ℕ) (es : List Entry) → b ≢ a → OnlyBy a es → entries_by b es ≡ []
by_other a b [] n o = refl
by_other a b (x ∷ xs) n o =
    by_passed b x xs (λ e. n (sym e ∙ o.0)) ∙ by_other a b xs n o.1

-- the actor's entries, and those of another, after more entries of the actor
pub by_more : (a : ℕ) (h es : List Entry) → OnlyBy a es
    → entries_by a (h ++ es) ≡ entries_by a h ++ es
by_more a h es o =
    by_append a h es ∙ ap (λ (l : List Entry). entries_by a h ++ l) (by_same a es o)

pub by_else : (a b : ℕ) (h es : List Entry) → b ≢ a → OnlyBy a es
    → entries_by b (h ++ es) ≡ entries_by b h
by_else a b h es n o =
    by_append b h es
    ∙ (ap (λ (l : List Entry). entries_by b h ++ l) (by_other a b es n o)
    ∙ append-nil (entries_by b h))

pub begins_none : (l : List Entry) → StartsWith l []
begins_none l = (l, refl)

pub begins_more : (h v es : List Entry) → StartsWith h v → StartsWith (h ++ es) v
begins_more h v es s =
    (s.0 ++ es, ap (λ (l : List Entry). l ++ es) s.1 ∙ append_assoc v s.0 es)

pub begins_all : (h : List Entry) → StartsWith h h
begins_all h = ([], sym (append-nil h))

none_long : {A : Type 0} (xs : List A) → length xs ≡ 0 → xs ≡ []
none_long [] e = refl
none_long (x ∷ xs) e = absurd (omega arith)

-- where a journal and a beginning of it have the same entries of an actor, so has each between them
pub between : (a : ℕ) (log l s m : List Entry) → StartsWith log l → StartsWith l s
    → entries_by a s ≡ m → entries_by a log ≡ m → entries_by a l ≡ m
between a log l s m far near here there =
    let more : List Entry = entries_by a near.0 in
    let rest : List Entry = entries_by a far.0 in
    let mid : entries_by a l ≡ m ++ more =
    ap (entries_by a) near.1
    ∙ (by_append a s near.0 ∙ ap (λ (k : List Entry). k ++ more) here) in
    let all : m ≡ (m ++ more) ++ rest =
    sym there
    ∙ (ap (entries_by a) far.1
    ∙ (by_append a l far.0 ∙ ap (λ (k : List Entry). k ++ rest) mid)) in
    let long : length m ≡ length ((m ++ more) ++ rest) = ap (λ (k : List Entry). length k) all in
    let none_more : more ≡ [] =
    none_long more (omega (arith, length-append (m ++ more) rest, length-append m more)) in
    mid ∙ (ap (λ (k : List Entry). m ++ k) none_more ∙ append-nil m)

-- a list that begins with another and isn't longer is that one
pub whole : (ys xs : List Entry) → StartsWith ys xs → length ys ≤ length xs → xs ≡ ys
whole ys xs s le =
    let long : length ys ≡ length (xs ++ s.0) = ap (λ (k : List Entry). length k) s.1 in
    let none_rest : s.0 ≡ [] = none_long s.0 (omega (arith, length-append xs s.0)) in
    sym (s.1 ∙ (ap (λ (k : List Entry). xs ++ k) none_rest ∙ append-nil xs))
