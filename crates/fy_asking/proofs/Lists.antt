-- lists whose elements are written one after another
use Rattle.std.proofs.Common.{arith, ◌≡◌, ◌∙◌, ◌<◌, ◌+◌, ℕ, suc, Bool, true, nat_lt, List, [], ◌∷◌, ◌++◌, length, drop, drop-cons, get_or, add-one, append_assoc, append-nil, sym, ap, if◌then◌else◌}
use Rattle.serde_json.specs.Written.{comma_if}
use Rattle.fy_asking.specs.ToldPieces.{counted_text, listed_text, member_text, members_text}

regrouped : (out comma one more : List ℕ) →
    ((out ++ comma) ++ one) ++ more ≡ out ++ (comma ++ (one ++ more))
regrouped out comma one more = simp append_assoc

-- the first of what is left of a list
pub next_of : {X : Type 0} (xs : List X) (i : ℕ) (x : X) → i < length xs →
    drop i xs ≡ get_or xs i x ∷ drop (i + 1) xs
next_of xs i x below = rw (add-one i) (drop-cons xs i x below)

-- an element more is written of a list
pub listed_more : {X : Type 0} (spell : X → List ℕ) (xs : List X) (i : ℕ) (x : X) (later : Bool)
    (old out mid new : List ℕ) → i < length xs → x ≡ get_or xs i x →
    mid ≡ out ++ comma_if later → new ≡ mid ++ spell x →
    out ++ listed_text spell later (drop i xs) ≡ old →
    new ++ listed_text spell true (drop (i + 1) xs) ≡ old
listed_more spell xs i x later old out mid new below is comma one was =
    let left = drop (i + 1) xs in
    ap (λ l. l ++ listed_text spell true left) (one ∙ ap (λ l. l ++ spell x) comma)
    ∙ regrouped out (comma_if later) (spell x) (listed_text spell true left)
    ∙ ap (λ y. out ++ (comma_if later ++ (spell y ++ listed_text spell true left))) is
    ∙ ap (λ l. out ++ listed_text spell later l) (sym (next_of xs i x below))
    ∙ was

-- once nothing is left, all is written
pub listed_all : {X : Type 0} (spell : X → List ℕ) (xs : List X) (later : Bool) (old out : List ℕ)
    → drop (length xs) xs ≡ [] → out ++ listed_text spell later (drop (length xs) xs) ≡ old →
    out ≡ old
listed_all spell xs later old out none was =
    sym (append-nil out) ∙ ap (λ l. out ++ listed_text spell later l) (sym none) ∙ was

-- one more is written of numbers
pub counted_more : (spell : ℕ → List ℕ) (n : ℕ) (old out mid new : List ℕ) →
    out ≡ old ++ counted_text spell n → mid ≡ out ++ comma_if (nat_lt 0 n) → new ≡ mid ++ spell n →
    new ≡ old ++ counted_text spell (n + 1)
counted_more spell n old out mid new was comma one =
    one ∙ ap (λ l. l ++ spell n) (comma ∙ ap (λ l. l ++ comma_if (nat_lt 0 n)) was)
    ∙ append_assoc (old ++ counted_text spell n) (comma_if (nat_lt 0 n)) (spell n)
    ∙ append_assoc old (counted_text spell n) (comma_if (nat_lt 0 n) ++ spell n)
    ∙ ap (λ m. old ++ counted_text spell m) (let e : suc n ≡ n + 1 = omega arith in e)

-- and of members
pub members_more : (test : ℕ → Bool) (n : ℕ) (old out new : List ℕ) →
    out ≡ old ++ members_text test n → new ≡ out ++ member_text test n →
    new ≡ old ++ members_text test (n + 1)
members_more test n old out new was one =
    one ∙ ap (λ l. l ++ member_text test n) was
    ∙ append_assoc old (members_text test n) (member_text test n)
    ∙ ap (λ m. old ++ members_text test m) (let e : suc n ≡ n + 1 = omega arith in e)
