-- lists of grants, one for each actor
use Rattle.std.proofs.Common.{◌≡◌, ℕ, ◌+◌, ◌-◌, replicate, ◌<◌, ◌≤◌, List, [], ◌∷◌, ◌++◌, length, map, get_or, sym, ap, ◌∙◌, arith, length-append, Vec, Global}
use Rattle.std.specs.Prelude.{slice_set, remove, Result, Ok, Err, OnErr}
use Rattle.std.proofs.lemmas.List.{map-set, get_or-map, set-get_or, length-map}
use Rattle.std.proofs.lemmas.List.Edits.{length-remove}
use Rattle.std.proofs.lemmas.List.Sums.{sum_by-set, get_or-le-sum_by}
use Rattle.std.proofs.lemmas.List.Folds.{sum_by-replicate}
use Rattle.std.specs.List.{sum_by}
use Rattle.fy_grants.specs.declared.grant.Grant.{Grant}
use Rattle.fy_grants.specs.Rights.{IsCounted}
use Rattle.fy_grants.specs.declared.book.TheConstants.{MOST_GRANTS}

-- the lists of grants that vectors hold
abbrev pub lists_of : List (Vec Grant Global) → List (List Grant)
lists_of vecs = map (λ own. own.items) vecs

-- the list at a place
pub own_items : (vecs : List (Vec Grant Global)) (a : ℕ) (own : Vec Grant Global) → a < length vecs → own ≡ get_or vecs a own → own.items ≡ get_or (lists_of vecs) a []
own_items vecs a own h is = ap (λ v. v.items) is ∙ sym (get_or-map (λ v. v.items) vecs a own [] h)

pub within_lists : (vecs : List (Vec Grant Global)) (a : ℕ) → a < length vecs → a < length (lists_of vecs)
within_lists vecs a h = omega (arith, length-map vecs (λ own. own.items))

-- what holds anyway holds at an error
pub on_err : {A E : Type 0} (r : Result A E) (P : Type 0) → P → OnErr r P
on_err (Ok x) P p = tt
on_err (Err e) P p = p

-- one list is written
pub written : (vecs : List (Vec Grant Global)) (a : ℕ) (own : Vec Grant Global) (grants : List Grant) → own.items ≡ grants → lists_of (slice_set vecs a own) ≡ slice_set (lists_of vecs) a grants
written vecs a own grants is = map-set (λ v. v.items) vecs a own ∙ ap (slice_set (lists_of vecs) a) is

-- a list is written as it was
pub unwritten : (vecs : List (Vec Grant Global)) (a : ℕ) (own : Vec Grant Global) → own.items ≡ get_or (lists_of vecs) a [] → lists_of (slice_set vecs a own) ≡ lists_of vecs
unwritten vecs a own is = written vecs a own _ is ∙ set-get_or (lists_of vecs) a []

-- no grants of nobody
pub counted_none : (actors : ℕ) → sum_by length (replicate actors (let none : List Grant = [] in none)) ≡ 0
counted_none actors = omega (arith, sum_by-replicate length actors (let none : List Grant = [] in none))

-- a grant that is put last in one list is one more
pub one_more : (lists : List (List Grant)) (a : ℕ) (grant : Grant) → a < length lists → sum_by length (slice_set lists a (get_or lists a [] ++ grant ∷ [])) ≡ sum_by length lists + 1
one_more lists a grant within = omega (arith, sum_by-set length lists a (get_or lists a [] ++ grant ∷ []) [] within, length-append (get_or lists a []) (grant ∷ []))

pub counted_more : (lists : List (List Grant)) (given a : ℕ) (grant : Grant) → IsCounted lists given → a < length lists → given < MOST_GRANTS → IsCounted (slice_set lists a (get_or lists a [] ++ grant ∷ [])) (given + 1)
counted_more lists given a grant counted within few = record {
  all = omega (arith, counted.all, one_more lists a grant within);
  few = omega arith;
}

-- a list that isn't empty is counted
pub counted_some : (lists : List (List Grant)) (given a i : ℕ) → IsCounted lists given → a < length lists → i < length (get_or lists a []) → 1 ≤ given
counted_some lists given a i counted within some = omega (arith, counted.all, get_or-le-sum_by length lists a [] within)

pub counted_less : (lists : List (List Grant)) (given a i : ℕ) → IsCounted lists given → a < length lists → i < length (get_or lists a []) → IsCounted (slice_set lists a (remove (get_or lists a []) i)) (given - 1)
counted_less lists given a i counted within some = record {
  all = omega (arith, counted.all, sum_by-set length lists a (remove (get_or lists a []) i) [] within, length-remove (get_or lists a []) i some);
  few = omega (arith, counted.few);
}
