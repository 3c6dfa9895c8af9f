-- what a reader has found of a text so far, and why it finds no policy
use Rattle.std.proofs.Common.{zero, suc, inl, inr, ◌⊎◌, ◌≡◌, ℕ, ◌+◌, ◌-◌, ◌*◌, ◌<◌, ◌≤◌, min, List, [], ◌∷◌, ◌++◌, Vec, Global, length, length-append, take, drop, get_or, refl, sym, ap, ◌∙◌, arith}
use Rattle.std.specs.Prelude.{codes}
use Rattle.std.proofs.lemmas.Bool.{cases_lt}
use Rattle.std.proofs.lemmas.List.{append_assoc, append-nil, take_more, take_all}
use Rattle.std.proofs.Math.Seq.{drop-cons}
use Rattle.std.proofs.lemmas.List.{take-append-drop}
use Rattle.fy_locality.specs.declared.key.Key.{Key}
use Rattle.fy_locality.specs.Key.{key_text}
use Rattle.fy_policy.specs.declared.fault.PolicyFault.{PolicyFault}
use Rattle.fy_policy.specs.declared.fault.PolicyFault.TheVariants.{TooLong, Syntax, Count, Depth, Nodes, NoMemory}
use Rattle.fy_policy.specs.declared.shape.Shape.{Shape, And}
use Rattle.fy_policy.specs.Fronts.{BeginsWith, BeginsWithNone, IsFaultAt, capped, capped_parts}
use Rattle.fy_policy.specs.Shape.{tree_of}
use Rattle.fy_policy.specs.Text.{numeral, text, parts_text, more_text}
use Rattle.fy_policy.specs.Tree.{Tree, one, across, every, Parts, none, part, HasPart, HasParts, HaveParts}
use Rattle.fy_policy.proofs.Numerals.{IsDigit, AreDigits-numeral, numeral_zero, numeral_digit, numeral_push, numeral_then, digits_end, digits_go_on, first_of_some}
use Rattle.fy_policy.proofs.Shapes.{parts_from, tree_of-And}
use Rattle.fy_policy.proofs.TextOnce.{key_once, text_once, across_pieces, every_pieces, more_pieces}

-- ---- a count, digit by digit
pub record CountSoFar (bytes : List ℕ) (i count : ℕ) : Type 0 where
  pub number : ℕ
  pub same : count ≡ min number 1025
  pub none_yet : i ≡ 0 → number ≡ 0
  pub digits : 0 < i → take i bytes ≡ numeral number

-- the bytes are those so far, the one here, and the others
cut_at : (bytes : List ℕ) (i c : ℕ) → i < length bytes → c ≡ get_or bytes i 0 → bytes ≡ take i bytes ++ c ∷ drop (i + 1) bytes
cut_at bytes i c within is =
    sym (take-append-drop i bytes)
    ∙ ap (λ t. take i bytes ++ t) (let e = drop-cons bytes i 0 in let next : suc i ≡ i + 1 = omega arith in let front : drop i bytes ≡ get_or bytes i 0 ∷ drop (suc i) bytes = drop-cons bytes i 0 within in front ∙ (λ j. sym is j ∷ drop (next j) bytes))

-- one more digit
pub count_more : (bytes : List ℕ) (i count c : ℕ) → i < length bytes → c ≡ get_or bytes i 0 → IsDigit c → (i ≡ 0) ⊎ (0 < count) → CountSoFar bytes i count → CountSoFar bytes (i + 1) (min (count * 10 + (c - 48)) 1025)
count_more bytes zero count c within is digit first so_far =
    let start : so_far.number ≡ 0 = so_far.none_yet refl in
    let was : count ≡ min so_far.number 1025 = so_far.same in
    let back : 48 + (c - 48) ≡ c = omega arith in
    record {
      number = c - 48;
      same = (let e : min (count * 10 + (c - 48)) 1025 ≡ min (c - 48) 1025 = omega arith in e);
      none_yet = λ h. absurd (omega arith);
      digits = λ _. take_more bytes 0 0 within ∙ (λ j. (sym is ∙ sym back) j ∷ []) ∙ sym (numeral_digit (c - 48) (omega arith));
    }
count_more bytes (suc i) count c within is digit (inl h) so_far = absurd (omega arith)
count_more bytes (suc i) count c within is digit (inr some) so_far =
    let was : count ≡ min so_far.number 1025 = so_far.same in
    let back : 48 + (c - 48) ≡ c = omega arith in
    record {
      number = so_far.number * 10 + (c - 48);
      same = (let e : min (count * 10 + (c - 48)) 1025 ≡ min (so_far.number * 10 + (c - 48)) 1025 = omega arith in e);
      none_yet = λ h. absurd (omega arith);
      digits = λ _. take_more bytes (suc i) 0 within ∙ (λ j. so_far.digits (omega arith) j ++ (sym is ∙ sym back) j ∷ []) ∙ sym (numeral_push so_far.number (c - 48) (omega arith) (omega arith));
    }

numeral_begins : (n : ℕ) (xs : List ℕ) → numeral n ≡ xs → 0 < length xs
numeral_begins zero [] e = absurd (let x : ⊥ = cc (numeral_zero) in x)
numeral_begins (suc n) [] e = let h : 48 < get_or (numeral (suc n)) 0 0 = first_of_some (suc n) (omega arith) in let same : get_or (numeral (suc n)) 0 0 ≡ 0 = ap (λ s. get_or s 0 0) e in absurd (omega arith)
numeral_begins n (x ∷ xs) e = omega arith

-- a byte that goes on with no count
pub count_stops : (bytes : List ℕ) (i count c : ℕ) → i < length bytes → c ≡ get_or bytes i 0 → CountSoFar bytes i count → (IsDigit c → (0 < i) × (count ≡ 0)) → (c ≡ 44 → i ≡ 0) → (n : ℕ) (rest : List ℕ) → bytes ≡ numeral n ++ 44 ∷ rest → ⊥
count_stops bytes i count c within is so_far digit comma n rest e = go i (dec c) refl
  where
    dec : (c : ℕ) → IsDigit c ⊎ (IsDigit c → ⊥)
    dec c = elim (cases_lt c 48) [
      | inl low ↦ inr (λ d. omega arith)
      | inr above ↦ elim (cases_lt c 58) [ inl below ↦ inl (above, below) | inr high ↦ inr (λ d. omega arith) ]
    ]

    no_zero : (n : ℕ) (y : List ℕ) → IsDigit c → 48 ∷ c ∷ y ≡ numeral n ++ 44 ∷ rest → ⊥
    no_zero zero y d f =
        let second : c ≡ 44 = ap (λ s. get_or s 1 0) (f ∙ ap (λ t. t ++ 44 ∷ rest) numeral_zero) in omega arith
    no_zero (suc n) y d f = first (numeral (suc n)) (first_of_some (suc n) (omega arith)) f
      where
        first : (xs : List ℕ) → 48 < get_or xs 0 0 → 48 ∷ c ∷ y ≡ xs ++ 44 ∷ rest → ⊥
        first [] h f = omega arith
        first (x ∷ xs) h f = let same : 48 ≡ x = ap (λ s. get_or s 0 0) f in omega arith

    go : (j : ℕ) → IsDigit c ⊎ (IsDigit c → ⊥) → i ≡ j → ⊥
    go j (inl d) same =
        let is_zero : so_far.number ≡ 0 = (let a : count ≡ min so_far.number 1025 = so_far.same in let b : count ≡ 0 = (digit d).1 in omega arith) in
        let front : take i bytes ≡ 48 ∷ [] = so_far.digits (digit d).0 ∙ ap numeral is_zero ∙ numeral_zero in
        no_zero n (drop (i + 1) bytes) d (sym (cut_at bytes i c within is ∙ ap (λ t. t ++ c ∷ drop (i + 1) bytes) front) ∙ e)
    go zero (inr f) same =
        let front : take i bytes ≡ [] = ap (λ k. take k bytes) same in
        let apart = digits_end [] (numeral n) c 44 (drop (i + 1) bytes) rest tt (AreDigits-numeral n) f (λ h. omega arith) (sym (cut_at bytes i c within is ∙ ap (λ t. t ++ c ∷ drop (i + 1) bytes) front) ∙ e) in
        let some : 0 < length {A = ℕ} [] = numeral_begins n [] (sym apart.0) in omega arith
    go (suc j) (inr f) same =
        let front : take i bytes ≡ numeral so_far.number = so_far.digits (omega arith) in
        let apart = digits_end (numeral so_far.number) (numeral n) c 44 (drop (i + 1) bytes) rest (AreDigits-numeral so_far.number) (AreDigits-numeral n) f (λ h. omega arith) (sym (cut_at bytes i c within is ∙ ap (λ t. t ++ c ∷ drop (i + 1) bytes) front) ∙ e) in
        let none : i ≡ 0 = comma apart.1 in omega arith

-- the end of the bytes
pub count_is_cut : (bytes : List ℕ) (i count : ℕ) → length bytes ≤ i → CountSoFar bytes i count → (n : ℕ) (rest : List ℕ) → bytes ≡ numeral n ++ 44 ∷ rest → ⊥
count_is_cut bytes zero count past so_far n rest e =
    let long : length bytes ≡ length (numeral n) + length (44 ∷ rest) = ap length e ∙ length-append (numeral n) (44 ∷ rest) in omega arith
count_is_cut bytes (suc i) count past so_far n rest e =
    let all : bytes ≡ numeral so_far.number = sym (take_all (suc i) bytes past) ∙ so_far.digits (omega arith) in
    let comma : IsDigit 44 → ⊥ = λ h. omega arith in
    digits_go_on (numeral so_far.number) (numeral n) 44 rest (AreDigits-numeral so_far.number) comma (sym all ∙ e)

-- ---- a count and a key, each with its comma
regroup : (n : ℕ) (k : Key) (rest : List ℕ) → numeral n ++ codes "," ++ key_text k ++ codes "," ++ rest ≡ numeral n ++ 44 ∷ (key_text k ++ 44 ∷ rest)
regroup n k rest = simp append_assoc

pub no_key : (bytes front : List ℕ) (m : ℕ) → bytes ≡ numeral m ++ 44 ∷ front → ((k : Key) (rest : List ℕ) → front ≡ key_text k ++ rest → ⊥) → (n : ℕ) (k : Key) (rest : List ℕ) → bytes ≡ numeral n ++ codes "," ++ key_text k ++ codes "," ++ rest → ⊥
no_key bytes front m e h n k rest f = h k (44 ∷ rest) (numeral_then m n _ _ (sym e ∙ f ∙ regroup n k rest)).1

pub no_comma : (bytes behind front : List ℕ) (m : ℕ) (l : Key) → bytes ≡ numeral m ++ 44 ∷ behind → behind ≡ key_text l ++ front → ((rest : List ℕ) → front ≡ codes "," ++ rest → ⊥) → (n : ℕ) (k : Key) (rest : List ℕ) → bytes ≡ numeral n ++ codes "," ++ key_text k ++ codes "," ++ rest → ⊥
no_comma bytes behind front m l e f h n k rest g = h rest (key_once l k _ _ (sym f ∙ (numeral_then m n _ _ (sym e ∙ g ∙ regroup n k rest)).1)).1

-- ---- shapes
pub fault_in : (fault : PolicyFault) (inner outer : List ℕ) → (BeginsWithNone inner → BeginsWithNone outer) → IsFaultAt fault inner → IsFaultAt fault outer
unfolding IsFaultAt
fault_in Syntax inner outer f h = f h
fault_in NoMemory inner outer f h = tt
fault_in TooLong inner outer f h = absurd h
fault_in Count inner outer f h = absurd h
fault_in Depth inner outer f h = absurd h
fault_in Nodes inner outer f h = absurd h

pub syntax_at : (bytes : List ℕ) → BeginsWithNone bytes → IsFaultAt Syntax bytes
unfolding IsFaultAt
syntax_at bytes h = h

pub no_memory_at : (bytes : List ℕ) → IsFaultAt NoMemory bytes
unfolding IsFaultAt
no_memory_at bytes = tt

pub one_found : (bytes rest : List ℕ) → bytes ≡ codes "One()" ++ rest → BeginsWith bytes one rest
unfolding capped HasParts
one_found bytes rest e = record { tree = one; parts = tt; same = refl; front = e }

pub across_found : (bytes inside behind rest : List ℕ) (n count : ℕ) (k : Key) (q : Tree) → count ≡ min n 1025 → bytes ≡ numeral n ++ codes "," ++ key_text k ++ codes "," ++ inside → BeginsWith inside q behind → behind ≡ codes ")" ++ rest → BeginsWith (codes "Across(" ++ bytes) (across count k q) rest
unfolding capped HasParts
across_found bytes inside behind rest n count k q same e inner f = record {
  tree = across n k inner.tree;
  parts = inner.parts;
  same = λ i. across (same i) k (inner.same i);
  front = ap (λ t. codes "Across(" ++ t) (e ∙ regroup n k inside ∙ ap (λ t. numeral n ++ 44 ∷ (key_text k ++ 44 ∷ t)) (inner.front ∙ ap (λ t. text inner.tree ++ t) f)) ∙ sym (across_pieces n k inner.tree rest);
}

across_fails : (bytes : List ℕ) → ((n : ℕ) (k : Key) (u : Tree) (rest : List ℕ) → HasParts u → bytes ≡ numeral n ++ 44 ∷ (key_text k ++ 44 ∷ (text u ++ 41 ∷ rest)) → ⊥) → BeginsWithNone (codes "Across(" ++ bytes)
unfolding HasParts
across_fails bytes h one rest p e = let first = ap (λ s. get_or s 0 0) e in omega arith
across_fails bytes h (across n k u) rest p e = h n k u rest p (ap (drop 7) (e ∙ across_pieces n k u rest))
across_fails bytes h (every us) rest p e = let second = ap (λ s. get_or s 1 0) e in omega arith

pub no_head : (bytes : List ℕ) → ((n : ℕ) (k : Key) (rest : List ℕ) → bytes ≡ numeral n ++ codes "," ++ key_text k ++ codes "," ++ rest → ⊥) → BeginsWithNone (codes "Across(" ++ bytes)
no_head bytes h = across_fails bytes (λ n k u rest p e. h n k (text u ++ 41 ∷ rest) (e ∙ sym (regroup n k (text u ++ 41 ∷ rest))))

-- what is behind the head of an Across
inside_of : (bytes inside : List ℕ) (m n : ℕ) (l k : Key) (rest : List ℕ) → bytes ≡ numeral m ++ codes "," ++ key_text l ++ codes "," ++ inside → bytes ≡ numeral n ++ 44 ∷ (key_text k ++ 44 ∷ rest) → inside ≡ rest
inside_of bytes inside m n l k rest e f =
    ap (drop 1) (key_once l k (44 ∷ inside) (44 ∷ rest) (numeral_then m n _ _ (sym (e ∙ regroup m l inside) ∙ f)).1).1

pub no_inner : (bytes inside : List ℕ) (m : ℕ) (l : Key) → bytes ≡ numeral m ++ codes "," ++ key_text l ++ codes "," ++ inside → BeginsWithNone inside → BeginsWithNone (codes "Across(" ++ bytes)
no_inner bytes inside m l e h = across_fails bytes (λ n k u rest p f. h u (41 ∷ rest) p (inside_of bytes inside m n l k (text u ++ 41 ∷ rest) e f))

pub no_close : (bytes inside behind : List ℕ) (m : ℕ) (l : Key) (q : Tree) → bytes ≡ numeral m ++ codes "," ++ key_text l ++ codes "," ++ inside → BeginsWith inside q behind → ((rest : List ℕ) → behind ≡ codes ")" ++ rest → ⊥) → BeginsWithNone (codes "Across(" ++ bytes)
no_close bytes inside behind m l q e inner h = across_fails bytes (λ n k u rest p f.
    h rest (text_once inner.tree u behind (41 ∷ rest) (sym inner.front ∙ inside_of bytes inside m n l k (text u ++ 41 ∷ rest) e f)).1)

-- none of the three words begins the bytes
pub no_word : (bytes : List ℕ) → ((rest : List ℕ) → bytes ≡ codes "One()" ++ rest → ⊥) → ((rest : List ℕ) → bytes ≡ codes "Across(" ++ rest → ⊥) → ((rest : List ℕ) → bytes ≡ codes "And(" ++ rest → ⊥) → BeginsWithNone bytes
no_word bytes f g h one rest p e = f rest e
no_word bytes f g h (across n k u) rest p e = g _ (e ∙ across_pieces n k u rest)
no_word bytes f g h (every us) rest p e = h _ (e ∙ every_pieces us rest)

-- ---- several parts
pub record PartsSoFar (bytes : List ℕ) (items : List Shape) (rest : List ℕ) : Type 0 where
  pub all : Parts
  pub some : HasPart all
  pub each : HaveParts all
  pub same : parts_from items ≡ capped_parts all
  pub front : bytes ≡ parts_text all ++ rest

joined : Parts → Tree → Parts
joined none t = part t none
joined (part u us) t = part u (joined us t)

joined_some : (us : Parts) (t : Tree) → HasPart (joined us t)
unfolding joined
joined_some none t = tt
joined_some (part u us) t = tt

joined_each : (us : Parts) (t : Tree) → HaveParts us → HasParts t → HaveParts (joined us t)
unfolding joined HasParts
joined_each none t h p = (p, tt)
joined_each (part u us) t h p = (h.0, joined_each us t h.1 p)

capped-joined : (us : Parts) (t : Tree) → capped_parts (joined us t) ≡ joined (capped_parts us) (capped t)
unfolding joined capped
capped-joined none t = refl
capped-joined (part u us) t = ap (part (capped u)) (capped-joined us t)

parts_from-joined : (items : List Shape) (q : Shape) → parts_from (items ++ q ∷ []) ≡ joined (parts_from items) (tree_of q)
unfolding joined
parts_from-joined [] q = refl
parts_from-joined (x ∷ xs) q = ap (part (tree_of x)) (parts_from-joined xs q)

more_text-joined : (us : Parts) (t : Tree) → more_text (joined us t) ≡ more_text us ++ 44 ∷ text t
unfolding joined
more_text-joined none t = append-nil (44 ∷ text t)
more_text-joined (part u us) t = ap (λ s. 44 ∷ (text u ++ s)) (more_text-joined us t) ∙ sym (append_assoc (44 ∷ text u) (more_text us) (44 ∷ text t))

parts_text-joined : (us : Parts) (t : Tree) → HasPart us → parts_text (joined us t) ≡ parts_text us ++ 44 ∷ text t
unfolding joined
parts_text-joined none t h = absurd h
parts_text-joined (part u us) t h = ap (λ s. text u ++ s) (more_text-joined us t) ∙ sym (append_assoc (text u) (more_text us) (44 ∷ text t))

pub first_part : (bytes rest : List ℕ) (q : Shape) (items : List Shape) → items ≡ q ∷ [] → BeginsWith bytes (tree_of q) rest → PartsSoFar bytes items rest
unfolding capped HasParts
first_part bytes rest q items is found = record {
  all = part found.tree none;
  some = tt;
  each = (found.parts, tt);
  same = ap parts_from is ∙ (λ i. part (found.same i) none);
  front = found.front ∙ ap (λ t. t ++ rest) (sym (append-nil (text found.tree)));
}

pub part_more : (bytes rest next behind : List ℕ) (items more : List Shape) (q : Shape) → more ≡ items ++ q ∷ [] → PartsSoFar bytes items rest → rest ≡ codes "," ++ next → BeginsWith next (tree_of q) behind → PartsSoFar bytes more behind
part_more bytes rest next behind items more q is so_far comma found = record {
  all = joined so_far.all found.tree;
  some = joined_some so_far.all found.tree;
  each = joined_each so_far.all found.tree so_far.each found.parts;
  same = ap parts_from is ∙ parts_from-joined items q ∙ (λ i. joined (so_far.same i) (found.same i)) ∙ sym (capped-joined so_far.all found.tree);
  front = so_far.front ∙ ap (λ t. parts_text so_far.all ++ t) (comma ∙ ap (λ t. 44 ∷ t) found.front)
      ∙ sym (append_assoc (parts_text so_far.all) (44 ∷ text found.tree) behind)
      ∙ ap (λ t. t ++ behind) (sym (parts_text-joined so_far.all found.tree so_far.some));
}

pub every_found : (bytes behind rest : List ℕ) (parts : Vec Shape Global) → PartsSoFar bytes parts.items behind → behind ≡ codes ")" ++ rest → BeginsWith (codes "And(" ++ bytes) (tree_of (And parts)) rest
unfolding capped HasParts
every_found bytes behind rest parts so_far e = record {
  tree = every so_far.all;
  parts = (so_far.some, so_far.each);
  same = tree_of-And parts ∙ ap every so_far.same;
  front = ap (λ t. codes "And(" ++ t) (so_far.front ∙ ap (λ t. parts_text so_far.all ++ t) e) ∙ sym (every_pieces so_far.all rest);
}

every_fails : (bytes : List ℕ) → ((us : Parts) (rest : List ℕ) → HasPart us → HaveParts us → bytes ≡ parts_text us ++ 41 ∷ rest → ⊥) → BeginsWithNone (codes "And(" ++ bytes)
unfolding HasParts
every_fails bytes h one rest p e = let first = ap (λ s. get_or s 0 0) e in omega arith
every_fails bytes h (across n k u) rest p e = let second = ap (λ s. get_or s 1 0) e in omega arith
every_fails bytes h (every us) rest p e = h us rest p.0 p.1 (ap (drop 4) (e ∙ every_pieces us rest))

pub no_first : (bytes : List ℕ) → BeginsWithNone bytes → BeginsWithNone (codes "And(" ++ bytes)
unfolding HasParts
no_first bytes h = every_fails bytes go
  where
    go : (us : Parts) (rest : List ℕ) → HasPart us → HaveParts us → bytes ≡ parts_text us ++ 41 ∷ rest → ⊥
    go none rest some each e = some
    go (part u us) rest some each e = h u (more_text us ++ 41 ∷ rest) each.0 (e ∙ append_assoc (text u) (more_text us) (41 ∷ rest))

-- where a list of parts goes on behind some parts: it closes, or a comma and a policy come
GoesOn : List ℕ → List ℕ → Type 0
GoesOn behind rest = (behind ≡ 41 ∷ rest) ⊎ ((v : Tree) × (more : List ℕ) × HasParts v × (behind ≡ 44 ∷ (text v ++ more)))

more_goes_on : (ts us : Parts) (behind rest : List ℕ) → HaveParts us → more_text ts ++ behind ≡ more_text us ++ 41 ∷ rest → GoesOn behind rest
unfolding GoesOn HasParts
more_goes_on none none behind rest each e = inl e
more_goes_on none (part u us) behind rest each e = inr (u, more_text us ++ 41 ∷ rest, each.0, e ∙ more_pieces u us (41 ∷ rest))
more_goes_on (part t ts) none behind rest each e = absurd (let first = ap (λ s. get_or s 0 0) e in omega arith)
more_goes_on (part t ts) (part u us) behind rest each e =
    let same = text_once t u (more_text ts ++ behind) (more_text us ++ 41 ∷ rest) (ap (drop 1) (sym (more_pieces t ts behind) ∙ e ∙ more_pieces u us (41 ∷ rest))) in
    more_goes_on ts us behind rest each.1 same.1

goes_on : (ts us : Parts) (behind rest : List ℕ) → HasPart ts → HasPart us → HaveParts us → parts_text ts ++ behind ≡ parts_text us ++ 41 ∷ rest → GoesOn behind rest
unfolding HasParts
goes_on none us behind rest h some each e = absurd h
goes_on (part t ts) none behind rest h some each e = absurd some
goes_on (part t ts) (part u us) behind rest h some each e =
    let same = text_once t u (more_text ts ++ behind) (more_text us ++ 41 ∷ rest) (sym (append_assoc (text t) (more_text ts) behind) ∙ e ∙ append_assoc (text u) (more_text us) (41 ∷ rest)) in
    more_goes_on ts us behind rest each.1 same.1

pub no_part : (bytes behind next : List ℕ) (items : List Shape) → PartsSoFar bytes items behind → behind ≡ codes "," ++ next → BeginsWithNone next → BeginsWithNone (codes "And(" ++ bytes)
unfolding GoesOn
no_part bytes behind next items so_far comma h = every_fails bytes (λ us rest some each e.
    go rest (goes_on so_far.all us behind rest so_far.some some each (sym so_far.front ∙ e)))
  where
    go : (rest : List ℕ) → GoesOn behind rest → ⊥
    go rest (inl f) = let first = ap (λ s. get_or s 0 0) (sym comma ∙ f) in omega arith
    go rest (inr f) = h f.0 f.1 f.2 (ap (drop 1) (sym comma ∙ f.3))

pub no_bracket : (bytes behind : List ℕ) (items : List Shape) → PartsSoFar bytes items behind → ((next : List ℕ) → behind ≡ codes "," ++ next → ⊥) → ((rest : List ℕ) → behind ≡ codes ")" ++ rest → ⊥) → BeginsWithNone (codes "And(" ++ bytes)
unfolding GoesOn
no_bracket bytes behind items so_far no_next no_end = every_fails bytes (λ us rest some each e.
    go rest (goes_on so_far.all us behind rest so_far.some some each (sym so_far.front ∙ e)))
  where
    go : (rest : List ℕ) → GoesOn behind rest → ⊥
    go rest (inl f) = no_end rest f
    go rest (inr f) = no_next (text f.0 ++ f.1) f.3

-- ---- each call reads less
