-- what the whole of a text reads as, once its front is read
use Rattle.std.proofs.Common.{◌≡◌, ℕ, ◌+◌, ◌<◌, ◌≤◌, min, true, false, true≢false, Option, Some, None, MatchOption, List, [], ◌∷◌, ◌++◌, Ok, Err, length, refl, sym, ap, subst, ◌∙◌, arith}
use Rattle.std.specs.Prelude.{is_some}
use Rattle.std.proofs.lemmas.List.{append-nil}
use Rattle.fy_policy.specs.declared.fault.PolicyFault.{PolicyFault}
use Rattle.fy_policy.specs.declared.fault.PolicyFault.TheVariants.{TooLong, Syntax, Count, Depth, Nodes, NoMemory}
use Rattle.fy_policy.specs.Fronts.{BeginsWith, IsFaultAt, capped, capped_parts}
use Rattle.fy_policy.specs.Reading.{IsTextOf, Reads}
use Rattle.fy_policy.specs.Text.{text}
use Rattle.fy_policy.specs.Tree.{Tree, one, across, every, Parts, none, part, HasParts, HasFitCounts, HaveFitCounts, IsPolicy, depth, nodes}
use Rattle.fy_policy.proofs.Bounds.{counted_from}
use Rattle.fy_policy.proofs.TextOnce.{text_once}

-- ---- a tree with fit counts is its own capped one
mutual
  unfolding HasFitCounts capped

  fit_capped : (t : Tree) → HasFitCounts t → capped t ≡ t
  fit_capped one h = refl
  fit_capped (across n k q) h = let low : min n 1025 ≡ n = (let high : n ≤ 1024 = h.1 in omega arith) in let below = fit_capped q h.2 in λ i. across (low i) k (below i)
  fit_capped (every qs) h = ap every (all_fit_capped qs h)

  all_fit_capped : (qs : Parts) → HaveFitCounts qs → capped_parts qs ≡ qs
  all_fit_capped none h = refl
  all_fit_capped (part q qs) h = let first = fit_capped q h.0 in let rest = all_fit_capped qs h.1 in λ i. part (first i) (rest i)

mutual
  unfolding HasFitCounts capped

  capped_fit : (t : Tree) → HasFitCounts (capped t) → HasFitCounts t
  capped_fit one h = tt
  capped_fit (across n k q) h = let low : 1 ≤ min n 1025 = h.0 in let high : min n 1025 ≤ 1024 = h.1 in (omega arith, omega arith, capped_fit q h.2)
  capped_fit (every qs) h = all_capped_fit qs h

  all_capped_fit : (qs : Parts) → HaveFitCounts (capped_parts qs) → HaveFitCounts qs
  all_capped_fit none h = tt
  all_capped_fit (part q qs) h = (capped_fit q h.0, all_capped_fit qs h.1)

-- ---- the answers
pub too_long : (bytes : List ℕ) → 4096 < length bytes → Reads bytes (Err TooLong)
unfolding Reads
too_long bytes h = h

pub no_front : (fault : PolicyFault) (bytes : List ℕ) → length bytes ≤ 4096 → IsFaultAt fault bytes → Reads bytes (Err fault)
unfolding Reads IsFaultAt
no_front Syntax bytes short h = (short, λ tree is. h tree [] is.parts (is.same ∙ sym (append-nil (text tree))))
no_front NoMemory bytes short h = tt
no_front TooLong bytes short h = absurd h
no_front Count bytes short h = absurd h
no_front Depth bytes short h = absurd h
no_front Nodes bytes short h = absurd h

none_left : (rest : List ℕ) → length rest ≡ 0 → rest ≡ []
none_left [] h = refl
none_left (x ∷ xs) h = absurd (omega arith)

-- what is left of a room for so many
pub too_many : (left : Option ℕ) (room n : ℕ) → MatchOption left (room < n) (λ x. x + n ≡ room) → is_some left ≡ false → room < n
too_many None room n h e = h
too_many (Some x) room n h e = absurd (true≢false e)

pub few_enough : (left : Option ℕ) (room n : ℕ) → MatchOption left (room < n) (λ x. x + n ≡ room) → is_some left ≡ true → n ≤ room
few_enough None room n h e = absurd (true≢false (sym e))
few_enough (Some x) room n h e = omega arith

module _ (bytes rest : List ℕ) (q : Tree) (short : length bytes ≤ 4096) (found : BeginsWith bytes q rest) where
  pub bytes_left : (length rest ≡ 0 → ⊥) → Reads bytes (Err Syntax)
  unfolding Reads
  bytes_left some = (short, λ tree is. some (ap length (text_once found.tree tree rest [] (sym found.front ∙ is.same ∙ sym (append-nil (text tree)))).1))

  whole : length rest ≡ 0 → IsTextOf bytes found.tree
  whole ended = record { same = found.front ∙ ap (λ t. text found.tree ++ t) (none_left rest ended) ∙ append-nil (text found.tree); parts = found.parts }

  pub count_answer : length rest ≡ 0 → (HasFitCounts q → ⊥) → Reads bytes (Err Count)
  unfolding Reads
  count_answer ended unfit = (short, found.tree, whole ended, λ fit. unfit (subst HasFitCounts (sym (found.same ∙ fit_capped found.tree fit)) fit))

  fit_tree : HasFitCounts q → HasFitCounts found.tree
  fit_tree fit = capped_fit found.tree (subst HasFitCounts found.same fit)

  same_tree : HasFitCounts q → q ≡ found.tree
  same_tree fit = found.same ∙ fit_capped found.tree (fit_tree fit)

  pub depth_answer : length rest ≡ 0 → HasFitCounts q → 8 < depth q → Reads bytes (Err Depth)
  unfolding Reads
  depth_answer ended fit deep = (short, found.tree, whole ended, fit_tree fit, subst (λ t. 8 < depth t) (same_tree fit) deep)

  pub nodes_answer : length rest ≡ 0 → HasFitCounts q → depth q ≤ 8 → 64 < nodes q → Reads bytes (Err Nodes)
  unfolding Reads
  nodes_answer ended fit shallow many = (short, found.tree, whole ended, fit_tree fit, subst (λ t. depth t ≤ 8) (same_tree fit) shallow, subst (λ t. 64 < nodes t) (same_tree fit) many)

  pub policy_found : HasFitCounts q → depth q ≤ 8 → nodes q ≤ 64 → IsPolicy q
  policy_found fit shallow few = record { counted = counted_from q (subst HasParts (sym (same_tree fit)) found.parts) fit; shallow = shallow; small = few }

  pub policy_answer : length rest ≡ 0 → HasFitCounts q → depth q ≤ 8 → nodes q ≤ 64 → Reads bytes (Ok q)
  unfolding Reads
  policy_answer ended fit shallow few = (short, (whole ended).same ∙ ap text (sym (same_tree fit)), policy_found fit shallow few)
