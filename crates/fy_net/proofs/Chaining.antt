-- chains through a pool's slots, as slots come, are left and are cleared away
use Rattle.std.proofs.Common.{◌≡◌, ◌≢◌, ℕ, ◌+◌, ◌<◌, ◌≤◌, Bool, true, false, List, [], ◌∷◌, ◌++◌, length, get_or, set, map, replicate, Some, None, inl, inr, refl, sym, ap, ◌∙◌, below_more, arith, get_or-set_other, get_or-set_same}
use Rattle.std.specs.Prelude.{Option, ◌-◌}
use Rattle.std.proofs.Common.{eqb}
use Rattle.std.specs.Option.{option_or, option_eq}
use Rattle.std.proofs.lemmas.Bool.Decides.{nat_tests}
use Rattle.std.proofs.lemmas.Bool.{cases_eq, cases_lt, false≢true}
use Rattle.std.proofs.lemmas.List.{map-append, map-set, length-set, length_push, get_or_default, length-map, length-replicate, get_or-replicate, get_or_append_left, get_or_at, get_or-map}
use Rattle.std.proofs.Math.Seq.{map-set_same}
use Rattle.fy_net.specs.declared.pool.Ends.{Ends}
use Rattle.fy_net.specs.declared.slot.Slot.{Slot}
use Rattle.fy_net.specs.Pool.{chain_of, chain_at, is_there, no_ends, with_link, IsFirst, IsLast, AreLinked, AreChained}
use Rattle.fy_net.specs.Slots.{vacated}
use Rattle.fy_net.proofs.Chains.{first_same, last_same, first_longer, first_at_end, first_stays, last_longer, last_at_end, links_begun, links_extended, head_elsewhere, head_stays, head_moves}

-- ends of which one pair is new
at_ends : (Q : ℕ → Ends → Type 0) (ends : List Ends) (c : ℕ) (new : Ends) → c < length ends → Q c new → ((x : ℕ) → x < length ends → x ≢ c → Q x (get_or ends x no_ends)) → (x : ℕ) → x < length ends → Q x (get_or (set ends c new) x no_ends)
at_ends Q ends c new within here others x lt =
    elim (cases_eq x c) [
      | inl same ↦ rw (same, get_or-set_same ends c new no_ends within) here
      | inr other ↦ rw (get_or-set_other ends c x new no_ends other) (others x lt other)
    ]

-- ---- a slot joins its chain

length_with_link : (last : Option ℕ) (n : ℕ) (links : List (Option ℕ)) → length (with_link last n links) ≡ length links
length_with_link None n links = refl
length_with_link (Some l) n links = length-set links l (Some n)

with_link_leads : (chain : ℕ → ℕ) (n : ℕ) (links : List (Option ℕ)) (last : Option ℕ) → length links ≡ n
    → ((i : ℕ) → i < n → IsFirst (λ k. chain k ≡ chain i) (i + 1) n (get_or links i None)) → IsLast (λ k. chain k ≡ chain n) n last
    → (i : ℕ) → i < n + 1 → IsFirst (λ k. chain k ≡ chain i) (i + 1) (n + 1) (get_or (with_link last n links ++ None ∷ []) i None)
with_link_leads chain n links None many leads last =
    links_begun chain n (λ i. get_or links i None) (λ i. get_or (links ++ None ∷ []) i None) leads last
    (λ i lt. get_or_append_left links (None ∷ []) None i (omega arith)) (get_or_at links None [] None n many)
with_link_leads chain n links (Some l) many leads last =
    links_extended chain n (λ i. get_or links i None) (λ i. get_or (set links l (Some n) ++ None ∷ []) i None) l leads last
    (get_or_append_left (set links l (Some n)) (None ∷ []) None l (omega (arith, length-set links l (Some n), last.0)) ∙ get_or-set_same links l (Some n) None (omega (arith, last.0)))
    (λ i lt other. get_or_append_left (set links l (Some n)) (None ∷ []) None i (omega (arith, length-set links l (Some n))) ∙ get_or-set_other links l i (Some n) None other)
    (get_or_at (set links l (Some n)) None [] None n (length-set links l (Some n) ∙ many))

-- the first of a chain once one more slot whose message is there has joined it
joined_first : (P : ℕ → Type 0) (n : ℕ) (r : Option ℕ) → P n → IsFirst P 0 n r → IsFirst P 0 (n + 1) (option_or r (Some n))
joined_first P n None holds first = first_at_end P 0 n (omega arith) holds first
joined_first P n (Some i) holds first = first_stays P 0 n i first

module _ (processes n : ℕ) (slots : List Slot) (links : List (Option ℕ)) (ends : List Ends) where
  pub attached : (e : Ends) → AreChained n processes slots links ends → is_there slots n ≡ true → chain_at processes slots n < length ends
      → e ≡ get_or ends (chain_at processes slots n) e
      → AreChained (n + 1) processes slots (with_link e.last n links ++ None ∷ []) (set ends (chain_at processes slots n) (record { first = option_or e.first (Some n); last = Some n }))
  attached e chained there within is =
      let chain : ℕ → ℕ = chain_at processes slots in
      let c = chain n in
      let joined : Ends = record { first = option_or e.first (Some n); last = Some n } in
      let own : e ≡ get_or ends c no_ends = is ∙ get_or_default ends c e no_ends within in
      let last : IsLast (λ k. chain k ≡ c) n e.last = rw own (chained.last c within) in
      let first : IsFirst (λ k. (chain k ≡ c) × (is_there slots k ≡ true)) 0 n e.first = rw own (chained.first c within) in
      record {
        many = length_push (with_link e.last n links) None ∙ ap (λ m. m + 1) (length_with_link e.last n links ∙ chained.many);
        wide = length-set ends c joined ∙ chained.wide;
        linked = with_link_leads chain n links e.last chained.many chained.linked last;
        first = λ x lt. at_ends (λ y z. IsFirst (λ k. (chain k ≡ y) × (is_there slots k ≡ true)) 0 (n + 1) z.first) ends c joined within
            (joined_first (λ k. (chain k ≡ c) × (is_there slots k ≡ true)) n e.first (refl, there) first)
            (λ y below other. first_longer (λ k. (chain k ≡ y) × (is_there slots k ≡ true)) 0 n _ (λ holds. other (sym holds.0)) (chained.first y below))
            x (omega (arith, length-set ends c joined));
        last = λ x lt. at_ends (λ y z. IsLast (λ k. chain k ≡ y) (n + 1) z.last) ends c joined within
            (last_at_end (λ k. chain k ≡ c) n refl)
            (λ y below other. last_longer (λ k. chain k ≡ y) n _ (λ holds. other (sym holds)) (chained.last y below))
            x (omega (arith, length-set ends c joined));
      }

-- the chain of the slot at a place
pub chain_there : (processes : ℕ) (slots : List Slot) (place : ℕ) (s : Slot) → place < length slots → s ≡ get_or slots place s → chain_of processes s.message.body ≡ chain_at processes slots place
chain_there processes slots place s within is =
    ap (λ (x : Slot). chain_of processes x.message.body) is ∙ sym (get_or-map (λ (x : Slot). chain_of processes x.message.body) slots place s 0 within)

-- ---- the next that is there

-- behind a place the chain was gone along as far as a slot, or to its end, and no message was there
abbrev pub Passed : (ℕ → ℕ) → (ℕ → Bool) → ℕ → ℕ → Option ℕ → Type 0
Passed chain there n place None = (k : ℕ) → place + 1 ≤ k → k < n → chain k ≡ chain place → there k ≡ true → ⊥
Passed chain there n place (Some at) = (place + 1 ≤ at) × (at < n) × (chain at ≡ chain place) × ((k : ℕ) → place + 1 ≤ k → k < at → chain k ≡ chain place → there k ≡ true → ⊥)

-- how far it is to the end
abbrev pub ahead : ℕ → Option ℕ → ℕ
ahead n None = 0
ahead n (Some at) = n - at

pub passed_none : (chain : ℕ → ℕ) (there : ℕ → Bool) (n place : ℕ) (r : Option ℕ) → IsFirst (λ k. chain k ≡ chain place) (place + 1) n r → Passed chain there n place r
passed_none chain there n place None first = λ k le lt same is. first k le lt same
passed_none chain there n place (Some at) first = (first.0, first.1, first.2, λ k le lt same is. first.3 k le lt same)

pub passed_more : (chain : ℕ → ℕ) (there : ℕ → Bool) (n place at : ℕ) (r : Option ℕ) → Passed chain there n place (Some at) → there at ≡ false → IsFirst (λ k. chain k ≡ chain at) (at + 1) n r → Passed chain there n place r
passed_more chain there n place at r passed left first = go r first
  where
    between : (k : ℕ) → place + 1 ≤ k → k < at + 1 → chain k ≡ chain place → there k ≡ true → ⊥
    between k le lt = below_more (λ j. place + 1 ≤ j → chain j ≡ chain place → there j ≡ true → ⊥) at (λ j less more. passed.3 j more less) (λ more same is. false≢true (sym left ∙ is)) k lt le

    go : (q : Option ℕ) → IsFirst (λ k. chain k ≡ chain at) (at + 1) n q → Passed chain there n place q
    go None none = λ k le lt same is. elim (cases_lt k (at + 1)) [
      | inl below ↦ between k le below same is
      | inr above ↦ none k above lt (same ∙ sym passed.2)
    ]
    go (Some b) next = (
      omega (arith, passed.0, next.0),
      next.1,
      next.2 ∙ passed.2,
      λ k le lt same is. elim (cases_lt k (at + 1)) [
        | inl below ↦ between k le below same is
        | inr above ↦ next.3 k above lt (same ∙ sym passed.2)
      ],
    )

-- whether the message of the slot at a place is there
pub there_there : (slots : List Slot) (place : ℕ) (s : Slot) → place < length slots → s ≡ get_or slots place s → s.there ≡ is_there slots place
there_there slots place s within is = ap (λ (x : Slot). x.there) is ∙ sym (get_or-map (λ (x : Slot). x.there) slots place s false within)

-- ---- other slots with the same chains

-- slots of the same chains whose messages are there where those of the others are
pub chained_alike : (n processes : ℕ) (slots slots' : List Slot) (links : List (Option ℕ)) (ends : List Ends) → ((k : ℕ) → k < n → chain_at processes slots' k ≡ chain_at processes slots k) → ((k : ℕ) → k < n → is_there slots' k ≡ is_there slots k) → AreChained n processes slots links ends → AreChained n processes slots' links ends
chained_alike n processes slots slots' links ends same there chained =
    let chain : ℕ → ℕ = chain_at processes slots in
    let chain' : ℕ → ℕ = chain_at processes slots' in
    record {
      many = chained.many;
      wide = chained.wide;
      linked = λ i lt. first_same (λ k. chain k ≡ chain i) (λ k. chain' k ≡ chain' i) (i + 1) n _ (λ k _ less is. same k less ∙ is ∙ sym (same i lt)) (λ k _ less is. sym (same k less) ∙ is ∙ same i lt) (chained.linked i lt);
      first = λ c lt. first_same (λ k. (chain k ≡ c) × (is_there slots k ≡ true)) (λ k. (chain' k ≡ c) × (is_there slots' k ≡ true)) 0 n _ (λ k _ less is. (same k less ∙ is.0, there k less ∙ is.1)) (λ k _ less is. (sym (same k less) ∙ is.0, sym (there k less) ∙ is.1)) (chained.first c lt);
      last = λ c lt. last_same (λ k. chain k ≡ c) (λ k. chain' k ≡ c) n _ (λ k less is. same k less ∙ is) (λ k less is. sym (same k less) ∙ is) (chained.last c lt);
    }

pub chained_pushed : (n processes : ℕ) (slots : List Slot) (s : Slot) (links : List (Option ℕ)) (ends : List Ends) → length slots ≡ n → AreChained n processes slots links ends → AreChained n processes (slots ++ s ∷ []) links ends
chained_pushed n processes slots s links ends long chained =
    chained_alike n processes slots (slots ++ s ∷ []) links ends
    (λ k lt. before_last (λ (x : Slot). chain_of processes x.message.body) 0 k (omega arith))
    (λ k lt. before_last (λ (x : Slot). x.there) false k (omega arith))
    chained
  where
    before_last : {A : Type 0} (f : Slot → A) (d : A) (k : ℕ) → k < length slots → get_or (map f (slots ++ s ∷ [])) k d ≡ get_or (map f slots) k d
    before_last f d k lt = rw (map-append f slots (s ∷ [])) (get_or_append_left (map f slots) (f s ∷ []) d k (omega (arith, length-map slots f)))

-- no slot is in a chain yet
pub chained_none : (processes : ℕ) (slots : List Slot) (ends : List Ends) → ends ≡ replicate (processes + processes) no_ends → AreChained 0 processes slots [] ends
chained_none processes slots ends are =
    let none : (c : ℕ) → c < length ends → get_or ends c no_ends ≡ no_ends = λ c lt. rw are (get_or-replicate (processes + processes) c no_ends no_ends (omega (arith, ap length are, length-replicate (processes + processes) no_ends))) in
    record {
      many = refl;
      wide = ap length are ∙ length-replicate (processes + processes) no_ends;
      linked = λ i lt. absurd (omega arith);
      first = λ c lt. rw (none c lt) (λ k le less holds. absurd (omega arith));
      last = λ c lt. rw (none c lt) (λ k less holds. absurd (omega arith));
    }

-- ---- a slot is left

module _ (n processes : ℕ) (slots slots' : List Slot) (links : List (Option ℕ)) (ends : List Ends) (chained : AreChained n processes slots links ends) (place : ℕ) (within : place < n)
    (same : (k : ℕ) → chain_at processes slots' k ≡ chain_at processes slots k) (stays : (k : ℕ) → k ≢ place → is_there slots' k ≡ is_there slots k) (left : is_there slots' place ≡ false) where
  pub left_linked : AreLinked n processes slots' links
  left_linked i lt = first_same (λ k. chain_at processes slots k ≡ chain_at processes slots i) (λ k. chain_at processes slots' k ≡ chain_at processes slots' i) (i + 1) n _ (λ k _ _ is. same k ∙ is ∙ sym (same i)) (λ k _ _ is. sym (same k) ∙ is ∙ same i) (chained.linked i lt)

  left_last : (c : ℕ) → c < length ends → IsLast (λ k. chain_at processes slots' k ≡ c) n (get_or ends c no_ends).last
  left_last c lt = last_same (λ k. chain_at processes slots k ≡ c) (λ k. chain_at processes slots' k ≡ c) n _ (λ k _ is. same k ∙ is) (λ k _ is. sym (same k) ∙ is) (chained.last c lt)

  -- who was the first of each chain, by the chains of the new slots
  was_first : (c : ℕ) → c < length ends → IsFirst (λ k. (chain_at processes slots' k ≡ c) × (is_there slots k ≡ true)) 0 n (get_or ends c no_ends).first
  was_first c lt = first_same (λ k. (chain_at processes slots k ≡ c) × (is_there slots k ≡ true)) (λ k. (chain_at processes slots' k ≡ c) × (is_there slots k ≡ true)) 0 n _ (λ k _ _ is. (same k ∙ is.0, is.1)) (λ k _ _ is. (sym (same k) ∙ is.0, is.1)) (chained.first c lt)

  -- it wasn't the first of its chain
  pub left_behind : (get_or ends (chain_at processes slots' place) no_ends).first ≢ Some place → AreChained n processes slots' links ends
  left_behind other = record {
    many = chained.many;
    wide = chained.wide;
    linked = left_linked;
    first = λ c lt. elim (cases_eq (chain_at processes slots' place) c) [
      | inl own ↦ rw (← own) (head_stays (chain_at processes slots') (is_there slots) (is_there slots') n place stays left (get_or ends (chain_at processes slots' place) no_ends).first other (was_first (chain_at processes slots' place) (rw (← own) at lt)))
      | inr elsewhere ↦ head_elsewhere (chain_at processes slots') (is_there slots) (is_there slots') n place stays left c (get_or ends c no_ends).first elsewhere (was_first c lt)
    ];
    last = left_last;
  }

  -- it was the first, and the next that is there takes its place
  pub left_first : (e : Ends) (r : Option ℕ) → chain_at processes slots' place < length ends → e ≡ get_or ends (chain_at processes slots' place) e → e.first ≡ Some place → IsFirst (λ k. (chain_at processes slots' k ≡ chain_at processes slots' place) × (is_there slots' k ≡ true)) (place + 1) n r → AreChained n processes slots' links (set ends (chain_at processes slots' place) (record e { first = r }))
  left_first e r known is head next =
      let c0 : ℕ = chain_at processes slots' place in
      let new : Ends = record e { first = r } in
      let own : e ≡ get_or ends c0 no_ends = is ∙ get_or_default ends c0 e no_ends known in
      let first : IsFirst (λ k. (chain_at processes slots' k ≡ c0) × (is_there slots k ≡ true)) 0 n (Some place) = rw (ap (λ (x : Ends). x.first) (sym own) ∙ head) at (was_first c0 known) in
      record {
        many = chained.many;
        wide = length-set ends c0 new ∙ chained.wide;
        linked = left_linked;
        first = λ c lt. at_ends (λ y z. IsFirst (λ k. (chain_at processes slots' k ≡ y) × (is_there slots' k ≡ true)) 0 n z.first) ends c0 new known
            (head_moves (chain_at processes slots') (is_there slots) (is_there slots') n place stays left r first next)
            (λ y below other. head_elsewhere (chain_at processes slots') (is_there slots) (is_there slots') n place stays left y (get_or ends y no_ends).first (λ same'. other (sym same')) (was_first y below))
            c (omega (arith, length-set ends c0 new));
        last = λ c lt. at_ends (λ y z. IsLast (λ k. chain_at processes slots' k ≡ y) n z.last) ends c0 new known
            (rw (ap (λ (x : Ends). x.last) own) (left_last c0 known))
            (λ y below other. left_last y below)
            c (omega (arith, length-set ends c0 new));
      }

-- ---- a slot is vacated

module _ (slots : List Slot) (place : ℕ) (s : Slot) (is : s ≡ get_or slots place s) where
  pub vacated_chains : (processes : ℕ) (k : ℕ) → chain_at processes (set slots place (vacated s)) k ≡ chain_at processes slots k
  vacated_chains processes k = ap (λ (xs : List ℕ). get_or xs k 0) (map-set_same (λ (x : Slot). chain_of processes x.message.body) slots place (vacated s) s (ap (λ (x : Slot). chain_of processes x.message.body) is))

  pub vacated_others : (k : ℕ) → k ≢ place → is_there (set slots place (vacated s)) k ≡ is_there slots k
  vacated_others k other = ap (λ (xs : List Bool). get_or xs k false) (map-set (λ (x : Slot). x.there) slots place (vacated s)) ∙ get_or-set_other (map (λ (x : Slot). x.there) slots) place k false false other

  pub vacated_gone : place < length slots → is_there (set slots place (vacated s)) place ≡ false
  vacated_gone within = ap (λ (xs : List Bool). get_or xs place false) (map-set (λ (x : Slot). x.there) slots place (vacated s)) ∙ get_or-set_same (map (λ (x : Slot). x.there) slots) place false false (omega (arith, length-map slots (λ (x : Slot). x.there)))

-- ---- whether a slot is the first

pub head_is : (r : Option ℕ) (place : ℕ) → option_eq eqb r (Some place) ≡ true → r ≡ Some place
head_is None place same = absurd (false≢true same)
head_is (Some i) place same = ap (λ (x : ℕ). Some x) (equal i place same)
  where
    equal : (a b : ℕ) → eqb a b ≡ true → a ≡ b
    equal a b e = grind (arith, nat_tests)

pub head_other : (r : Option ℕ) (place : ℕ) → option_eq eqb r (Some place) ≡ false → r ≢ Some place
head_other r place other is = false≢true (sym (rw is at other) ∙ equal place)
  where
    equal : (a : ℕ) → eqb a a ≡ true
    equal a = grind (arith, nat_tests)
