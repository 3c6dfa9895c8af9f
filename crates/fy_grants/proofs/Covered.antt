-- whom a cover covers, as grants come and go
use Rattle.std.proofs.Common.{◌≡◌, ℕ, ◌+◌, ◌-◌, ◌<◌, Bool, true, false, ◌&&◌, ◌||◌, not, List, [], ◌∷◌, ◌++◌, length, replicate, get_or, zero, suc, refl, sym, ap, subst, ◌∙◌, arith, inl, inr}
use Rattle.std.specs.Prelude.{slice_set, slice_index_or, remove}
use Rattle.std.specs.Ordering.{nat_cmp}
use Rattle.std.specs.FinSet as sets
use Rattle.std.proofs.lemmas.List.{get_or-set_same, get_or-set_other, length-set, length-replicate}
use Rattle.std.proofs.lemmas.List.Folds.{list_any-append}
use Rattle.std.proofs.lemmas.Bool.{cases_eq}
use Rattle.fy_locality.specs.declared.locality.Locality.{Locality}
use Rattle.fy_kinds.specs.declared.kind.Kind.TheVariants.{RebootProcess, Reboot, RebootAndDelete, KillInstantly}
use Rattle.fy_kinds.specs.declared.kind_set.KindSet.{KindSet}
use Rattle.fy_kinds.specs.Kinds.{Deed, Striking, Clogging, has, has_all, only}
use Rattle.fy_grants.specs.declared.grant.Grant.{Grant}
use Rattle.fy_grants.specs.declared.cover.Cover.{Cover}
use Rattle.fy_grants.specs.declared.book.TheConstants.{MOST_GRANTS}
use Rattle.fy_grants.specs.Covers.{bare, covers, set_at, IsCoverOf, IsGroupOf, LeavesOpen, IsGrantBook}
use Rattle.fy_grants.specs.Rights.{is_granted, is_covered}
use Rattle.fy_grants.proofs.Lists.{counted_none, counted_more, counted_less}
use Rattle.fy_grants.proofs.Covering.{and_false, left_out}

abbrev pub Set : Type 0
Set = sets.FinSet nat_cmp

-- ---- a cover of no grants

none_in : (deed : Deed) (p : ℕ) → sets.contains (set_at bare deed) p ≡ false
none_in (Striking RebootProcess) p = sets.contains-empty nat_cmp p
none_in (Striking Reboot) p = sets.contains-empty nat_cmp p
none_in (Striking RebootAndDelete) p = sets.contains-empty nat_cmp p
none_in (Striking KillInstantly) p = sets.contains-empty nat_cmp p
none_in Clogging p = sets.contains-empty nat_cmp p

not_everyone : (deed : Deed) → has bare.everyone deed ≡ false
not_everyone (Striking RebootProcess) = refl
not_everyone (Striking Reboot) = refl
not_everyone (Striking RebootAndDelete) = refl
not_everyone (Striking KillInstantly) = refl
not_everyone Clogging = refl

pub bare_covers_none : (cover : Cover) → cover ≡ bare → (deed : Deed) (p : ℕ) → covers cover deed p ≡ false
bare_covers_none cover is deed p = ap (λ c. covers c deed p) is ∙ ap (λ b. b || sets.contains (set_at bare deed) p) (not_everyone deed) ∙ none_in deed p

-- ---- one grant more

abbrev pub OneDeed : Type 0
OneDeed = (kinds : KindSet) (d : Deed) → has_all kinds (only d) ≡ has kinds d

-- ---- whom a cover leaves open

pub open_to_nobody : OneDeed → (cover : Cover) (kinds : KindSet) (set left group : Set) → IsGroupOf cover kinds group → has_all cover.everyone kinds ≡ true → left ≡ sets.empty → LeavesOpen cover kinds set left
open_to_nobody one cover kinds set left group known all none = record {
  deed = known.deed;
  single = known.single;
  those = λ p.
      ap (λ t. sets.contains t p) none
      ∙ sets.contains-empty nat_cmp p
      ∙ and_false (sets.contains set p)
      ∙ ap (λ b. sets.contains set p && not (b || sets.contains (set_at cover known.deed) p)) (sym (sym (one cover.everyone known.deed) ∙ ap (has_all cover.everyone) (sym known.single) ∙ all));
}

pub open_to_others : OneDeed → (cover : Cover) (kinds : KindSet) (set left group : Set) → IsGroupOf cover kinds group → has_all cover.everyone kinds ≡ false → left ≡ sets.difference set group → LeavesOpen cover kinds set left
open_to_others one cover kinds set left group known some is = record {
  deed = known.deed;
  single = known.single;
  those = λ p.
      ap (λ t. sets.contains t p) is
      ∙ left_out set group p (sets.contains (set_at cover known.deed) p) (ap (λ t. sets.contains t p) known.is)
      ∙ ap (λ b. sets.contains set p && not (b || sets.contains (set_at cover known.deed) p)) (sym (sym (one cover.everyone known.deed) ∙ ap (has_all cover.everyone) (sym known.single) ∙ some));
}

-- ---- a book

always : {A : Type 0} (n i : ℕ) (x : A) → get_or (replicate n x) i x ≡ x
always zero i x = refl
always (suc n) zero x = refl
always (suc n) (suc i) x = always n i x

pub book_of_none : (processes : List Locality) (actors : ℕ) (lists : List (List Grant)) (kept : List Cover) → lists ≡ replicate actors [] → kept ≡ replicate actors bare → IsGrantBook processes lists 0 kept
book_of_none processes actors lists kept none bares = rw (none, bares) (record {
  counted = record { all = sym (counted_none actors); few = omega arith };
  count = length-replicate actors bare ∙ sym (length-replicate actors (let nothing : List Grant = [] in nothing));
  each = λ actor deed p.
      ap (λ c. covers c deed p) (always actors actor bare)
      ∙ bare_covers_none bare refl deed p
      ∙ ap (λ grants. is_covered processes grants (only deed) p) (sym (always actors actor (let nothing : List Grant = [] in nothing)));
})

-- one actor has other grants and their cover
one_other : (processes : List Locality) (lists : List (List Grant)) (kept : List Cover) (a : ℕ) (own : List Grant) (cover : Cover) → a < length lists → length kept ≡ length lists
    → ((b : ℕ) → IsCoverOf processes (slice_index_or lists b []) (slice_index_or kept b bare)) → IsCoverOf processes own cover
    → (b : ℕ) → IsCoverOf processes (slice_index_or (slice_set lists a own) b []) (slice_index_or (slice_set kept a cover) b bare)
one_other processes lists kept a own cover within count each known b deed p =
    elim (cases_eq a b) [
      | inl same ↦
          ap (λ k. covers (get_or (slice_set kept a cover) k bare) deed p) (sym same)
          ∙ ap (λ c. covers c deed p) (get_or-set_same kept a cover bare (omega (arith, within, count)))
          ∙ known deed p
          ∙ ap (λ grants. is_covered processes grants (only deed) p) (sym (get_or-set_same lists a own [] within))
          ∙ ap (λ k. is_covered processes (get_or (slice_set lists a own) k []) (only deed) p) same
      | inr other ↦
          ap (λ c. covers c deed p) (get_or-set_other kept a b cover bare (λ e. other (sym e)))
          ∙ each b deed p
          ∙ ap (λ grants. is_covered processes grants (only deed) p) (sym (get_or-set_other lists a b own [] (λ e. other (sym e))))
    ]

or_false : (b : Bool) → (b || false) ≡ b
or_false true = refl
or_false false = refl

pub book_given : (processes : List Locality) (lists : List (List Grant)) (given : ℕ) (kept : List Cover) (a : ℕ) (grant : Grant) (old new : Cover)
    → IsGrantBook processes lists given kept → a < length lists → given < MOST_GRANTS → old ≡ get_or kept a bare
    → ((deed : Deed) (p : ℕ) → covers new deed p ≡ (covers old deed p || is_granted processes grant (only deed) p))
    → IsGrantBook processes (slice_set lists a (get_or lists a [] ++ grant ∷ [])) (given + 1) (slice_set kept a new)
book_given processes lists given kept a grant old new book within few was more = record {
  counted = counted_more lists given a grant book.counted within few;
  count = length-set kept a new ∙ book.count ∙ sym (length-set lists a (get_or lists a [] ++ grant ∷ []));
  each = one_other processes lists kept a (get_or lists a [] ++ grant ∷ []) new within book.count book.each (λ deed p.
      more deed p
      ∙ ap (λ c. covers c deed p || is_granted processes grant (only deed) p) was
      ∙ ap (λ b. b || is_granted processes grant (only deed) p) (book.each a deed p)
      ∙ ap (λ b. is_covered processes (get_or lists a []) (only deed) p || b) (sym (or_false (is_granted processes grant (only deed) p)))
      ∙ sym (list_any-append (λ g. is_granted processes g (only deed) p) (get_or lists a []) (grant ∷ [])));
}

pub book_taken : (processes : List Locality) (lists : List (List Grant)) (given : ℕ) (kept : List Cover) (a i : ℕ) (own : List Grant) (new : Cover)
    → IsGrantBook processes lists given kept → a < length lists → i < length (get_or lists a []) → own ≡ remove (get_or lists a []) i → IsCoverOf processes own new
    → IsGrantBook processes (slice_set lists a (remove (get_or lists a []) i)) (given - 1) (slice_set kept a new)
book_taken processes lists given kept a i own new book within some is known = record {
  counted = counted_less lists given a i book.counted within some;
  count = length-set kept a new ∙ book.count ∙ sym (length-set lists a (remove (get_or lists a []) i));
  each = one_other processes lists kept a (remove (get_or lists a []) i) new within book.count book.each (subst (λ grants. IsCoverOf processes grants new) is known);
}
