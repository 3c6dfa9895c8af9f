-- the first and the last place of which something holds, and chains of such places
use Rattle.std.proofs.Common.{◌≡◌, ◌≢◌, ℕ, ◌+◌, ◌<◌, ◌≤◌, Bool, true, false, Some, None, inl, inr, refl, sym, ◌∙◌, below_more, arith}
use Rattle.std.specs.Prelude.{Option, ◌⊎◌}
use Rattle.std.proofs.lemmas.Bool.{cases_eq, cases_lt, false≢true}
use Rattle.fy_net.specs.Pool.{IsFirst, IsLast}

-- ---- places

-- something holds of the same places
pub first_same : (P Q : ℕ → Type 0) (low high : ℕ) (r : Option ℕ) → ((k : ℕ) → low ≤ k → k < high → P k → Q k) → ((k : ℕ) → low ≤ k → k < high → Q k → P k) → IsFirst P low high r → IsFirst Q low high r
first_same P Q low high None there back none = λ k le lt holds. none k le lt (back k le lt holds)
first_same P Q low high (Some i) there back first = (first.0, first.1, there i first.0 first.1 first.2, λ k le lt holds. first.3 k le lt (back k le (omega (arith, first.1)) holds))

pub last_same : (P Q : ℕ → Type 0) (high : ℕ) (r : Option ℕ) → ((k : ℕ) → k < high → P k → Q k) → ((k : ℕ) → k < high → Q k → P k) → IsLast P high r → IsLast Q high r
last_same P Q high None there back none = λ k lt holds. none k lt (back k lt holds)
last_same P Q high (Some i) there back last = (last.0, there i last.0 last.1, λ k more lt holds. last.2 k more lt (back k lt holds))

-- one place more, of which it doesn't hold
pub first_longer : (P : ℕ → Type 0) (low high : ℕ) (r : Option ℕ) → (P high → ⊥) → IsFirst P low high r → IsFirst P low (high + 1) r
first_longer P low high None fails none = λ k le lt holds. below_more (λ j. low ≤ j → P j → ⊥) high (λ j less more. none j more less) (λ more. fails) k lt le holds
first_longer P low high (Some i) fails first = (first.0, omega (arith, first.1), first.2, first.3)

-- one place more, the first of which it holds
pub first_at_end : (P : ℕ → Type 0) (low high : ℕ) → low ≤ high → P high → IsFirst P low high None → IsFirst P low (high + 1) (Some high)
first_at_end P low high le holds none = (le, omega arith, holds, none)

-- one place more behind the first
pub first_stays : (P : ℕ → Type 0) (low high i : ℕ) → IsFirst P low high (Some i) → IsFirst P low (high + 1) (Some i)
first_stays P low high i first = (first.0, omega (arith, first.1), first.2, first.3)

pub last_longer : (P : ℕ → Type 0) (high : ℕ) (r : Option ℕ) → (P high → ⊥) → IsLast P high r → IsLast P (high + 1) r
last_longer P high None fails none = λ k lt holds. below_more (λ j. P j → ⊥) high none fails k lt holds
last_longer P high (Some i) fails last = (omega (arith, last.0), last.1, λ k more lt holds. below_more (λ j. i < j → P j → ⊥) high (λ j less more'. last.2 j more' less) (λ more'. fails) k lt more holds)

pub last_at_end : (P : ℕ → Type 0) (high : ℕ) → P high → IsLast P (high + 1) (Some high)
last_at_end P high holds = (omega arith, holds, λ k more lt. absurd (omega arith))

-- ---- one slot more in its chain

module _ (chain : ℕ → ℕ) (n : ℕ) (link link' : ℕ → Option ℕ) where
  -- what a link says among so many slots
  abbrev pub Leads : ℕ → Option ℕ → ℕ → Type 0
  Leads m r i = IsFirst (λ k. chain k ≡ chain i) (i + 1) m r

  -- a link that stays, from a slot behind which stands one of its chain, or of another chain
  link_kept : (i : ℕ) (r : Option ℕ) → (r ≡ None → chain n ≡ chain i → ⊥) → Leads n r i → Leads (n + 1) r i
  link_kept i None other leads = first_longer (λ k. chain k ≡ chain i) (i + 1) n None (other refl) leads
  link_kept i (Some b) other leads = first_stays (λ k. chain k ≡ chain i) (i + 1) n b leads

  -- the chain had no slot
  pub links_begun : ((i : ℕ) → i < n → Leads n (link i) i) → IsLast (λ k. chain k ≡ chain n) n None → ((i : ℕ) → i < n → link' i ≡ link i) → link' n ≡ None → (i : ℕ) → i < n + 1 → Leads (n + 1) (link' i) i
  links_begun leads none kept new = below_more (λ i. Leads (n + 1) (link' i) i) n
      (λ i lt. rw (kept i lt) (link_kept i (link i) (λ _ same. none i lt (sym same)) (leads i lt)))
      (rw new (λ k le lt holds. absurd (omega arith)))

  -- its last slot was l, which is linked to the new one
  pub links_extended : (l : ℕ) → ((i : ℕ) → i < n → Leads n (link i) i) → IsLast (λ k. chain k ≡ chain n) n (Some l) → link' l ≡ Some n → ((i : ℕ) → i < n → i ≢ l → link' i ≡ link i) → link' n ≡ None → (i : ℕ) → i < n + 1 → Leads (n + 1) (link' i) i
  links_extended l leads last new_link kept new = below_more (λ i. Leads (n + 1) (link' i) i) n
      (λ i lt. at_place i lt (cases_eq i l))
      (rw new (λ k le lt holds. absurd (omega arith)))
    where
      -- none of the chain but the last is without a link
      linked : (i : ℕ) → i < n → i ≢ l → link i ≡ None → chain n ≡ chain i → ⊥
      linked i lt other is same =
          elim (cases_lt l i) [
            | inl above ↦ last.2 i above lt (sym same)
            | inr below ↦ (let none : Leads n None i = rw is at (leads i lt) in none l (omega (arith, λ (e : i ≡ l). other e)) last.0 (last.1 ∙ same))
          ]

      at_place : (i : ℕ) → i < n → (i ≡ l) ⊎ (i ≢ l) → Leads (n + 1) (link' i) i
      at_place i lt (inl is) = rw is (rw new_link (omega (arith, last.0), omega arith, sym last.1, λ k le less same. last.2 k (omega arith) less (same ∙ last.1)))
      at_place i lt (inr other) = rw (kept i lt other) (link_kept i (link i) (linked i lt other) (leads i lt))

-- ---- the first of a chain that is there

module _ (chain : ℕ → ℕ) (there there' : ℕ → Bool) (n i : ℕ) (stays : (k : ℕ) → k ≢ i → there' k ≡ there k) (left : there' i ≡ false) where
  left_there : (k : ℕ) → there' k ≡ true → there k ≡ true
  left_there k is =
      elim (cases_eq k i) [
        | inl same ↦ absurd (false≢true (sym left ∙ (rw same at is)))
        | inr other ↦ sym (stays k other) ∙ is
      ]

  -- another chain's first stays
  pub head_elsewhere : (c : ℕ) (r : Option ℕ) → chain i ≢ c → IsFirst (λ k. (chain k ≡ c) × (there k ≡ true)) 0 n r → IsFirst (λ k. (chain k ≡ c) × (there' k ≡ true)) 0 n r
  head_elsewhere c r other = first_same (λ k. (chain k ≡ c) × (there k ≡ true)) (λ k. (chain k ≡ c) × (there' k ≡ true)) 0 n r
      (λ k _ _ holds. elim (cases_eq k i) [
        | inl same ↦ absurd (other (rw same at holds.0))
        | inr apart ↦ (holds.0, stays k apart ∙ holds.1)
      ])
      (λ k _ _ holds. (holds.0, left_there k holds.1))

  -- so does the chain's own where another slot has left
  pub head_stays : (r : Option ℕ) → r ≢ Some i → IsFirst (λ k. (chain k ≡ chain i) × (there k ≡ true)) 0 n r → IsFirst (λ k. (chain k ≡ chain i) × (there' k ≡ true)) 0 n r
  head_stays None other first = λ k le lt holds. first k le lt (holds.0, left_there k holds.1)
  head_stays (Some b) other first =
      elim (cases_eq b i) [
        | inl same ↦ absurd (other (ap' same))
        | inr apart ↦ (first.0, first.1, (first.2.0, stays b apart ∙ first.2.1), λ k le lt holds. first.3 k le lt (holds.0, left_there k holds.1))
      ]
    where
      ap' : b ≡ i → ◌≡◌ {A = Option ℕ} (Some b) (Some i)
      ap' e = cc

  -- where the first has left, the next that is there is the first
  pub head_moves : (r : Option ℕ) → IsFirst (λ k. (chain k ≡ chain i) × (there k ≡ true)) 0 n (Some i) → IsFirst (λ k. (chain k ≡ chain i) × (there' k ≡ true)) (i + 1) n r → IsFirst (λ k. (chain k ≡ chain i) × (there' k ≡ true)) 0 n r
  head_moves None first next = λ k le lt holds. past k lt holds (cases_lt k (i + 1))
    where
      past : (k : ℕ) → k < n → (chain k ≡ chain i) × (there' k ≡ true) → (k < i + 1) ⊎ (i + 1 ≤ k) → ⊥
      past k lt holds (inl below) = not_yet k below holds
        where
          not_yet : (j : ℕ) → j < i + 1 → (chain j ≡ chain i) × (there' j ≡ true) → ⊥
          not_yet = below_more (λ j. (chain j ≡ chain i) × (there' j ≡ true) → ⊥) i (λ j lt holds. first.3 j (omega arith) lt (holds.0, left_there j holds.1)) (λ holds. false≢true (sym left ∙ holds.1))
      past k lt holds (inr above) = next k above lt holds
  head_moves (Some b) first next = (omega arith, next.1, next.2, λ k le lt holds. past k lt holds (cases_lt k (i + 1)))
    where
      past : (k : ℕ) → k < b → (chain k ≡ chain i) × (there' k ≡ true) → (k < i + 1) ⊎ (i + 1 ≤ k) → ⊥
      past k lt holds (inl below) = not_yet k below holds
        where
          not_yet : (j : ℕ) → j < i + 1 → (chain j ≡ chain i) × (there' j ≡ true) → ⊥
          not_yet = below_more (λ j. (chain j ≡ chain i) × (there' j ≡ true) → ⊥) i (λ j lt holds. first.3 j (omega arith) lt (holds.0, left_there j holds.1)) (λ holds. false≢true (sym left ∙ holds.1))
      past k lt holds (inr above) = next.3 k above lt holds
