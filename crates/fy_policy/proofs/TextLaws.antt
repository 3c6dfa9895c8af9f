-- how long a policy's text is, and that what a text reads as is settled
use Rattle.std.proofs.Common.{◌≡◌, ℕ, ◌+◌, ◌*◌, ◌≤◌, List, [], ◌++◌, Ok, Err, length, length-append, refl, sym, ap, subst, ◌∙◌, arith}
use Rattle.std.specs.Prelude.{Result}
use Rattle.fy_locality.specs.declared.key.Key.{Key}
use Rattle.fy_locality.specs.declared.key.Key.TheVariants.{Process, Machine, Zone, DataHall, DataCenter}
use Rattle.fy_locality.specs.Key.{key_text}
use Rattle.fy_policy.specs.declared.fault.PolicyFault.{PolicyFault}
use Rattle.fy_policy.specs.declared.fault.PolicyFault.TheVariants.{TooLong, Syntax, Count, Depth, Nodes, NoMemory}
use Rattle.fy_policy.specs.Reading.{IsTextOf, Reads}
use Rattle.fy_policy.specs.Text.{numeral, text, parts_text, more_text}
use Rattle.fy_policy.specs.Tree.{Tree, one, across, every, Parts, none, part, HasFitCounts, IsWellFormed, AreWellFormed, IsPolicy, nodes, all_nodes, depth}
use Rattle.fy_policy.proofs.Bounds.{counted_splits}
use Rattle.fy_policy.proofs.Numerals.{length-numeral-le}
use Rattle.fy_policy.proofs.TextOnce.{text_once}

length-key-le : (k : Key) → length (key_text k) ≤ 9
length-key-le Process = omega arith
length-key-le Machine = omega arith
length-key-le Zone = omega arith
length-key-le DataHall = omega arith
length-key-le DataCenter = omega arith

-- an Across takes at most 23 bytes, an And 5, and a comma or the end one more
mutual
  length-text-le : (t : Tree) → IsWellFormed t → length (text t) + 1 ≤ 24 * nodes t
  length-text-le one h = omega arith
  length-text-le (across n k q) h =
      let below : length (text q) + 1 ≤ 24 * nodes q = length-text-le q h.2 in
      let count : length (numeral n) ≤ 4 = length-numeral-le n h.1 in
      let name : length (key_text k) ≤ 9 = length-key-le k in
      let whole : length (text (across n k q)) ≡ 7 + length (numeral n) + 1 + length (key_text k) + 1 + length (text q) + 1 = simp length-append (omega arith) in
      omega arith
  length-text-le (every qs) h =
      let below : length (parts_text qs) ≤ 24 * all_nodes qs = length-parts-le qs h.1 in
      let whole : length (text (every qs)) ≡ 4 + length (parts_text qs) + 1 = simp length-append (omega arith) in
      omega arith

  length-parts-le : (qs : Parts) → AreWellFormed qs → length (parts_text qs) ≤ 24 * all_nodes qs
  length-parts-le none h = omega arith
  length-parts-le (part q qs) h =
      let first : length (text q) + 1 ≤ 24 * nodes q = length-text-le q h.0 in
      let rest : length (more_text qs) ≤ 24 * all_nodes qs = length-more-le qs h.1 in
      let whole : length (parts_text (part q qs)) ≡ length (text q) + length (more_text qs) = simp length-append (omega arith) in
      omega arith

  length-more-le : (qs : Parts) → AreWellFormed qs → length (more_text qs) ≤ 24 * all_nodes qs
  length-more-le none h = omega arith
  length-more-le (part q qs) h =
      let first : length (text q) + 1 ≤ 24 * nodes q = length-text-le q h.0 in
      let rest : length (more_text qs) ≤ 24 * all_nodes qs = length-more-le qs h.1 in
      let whole : length (more_text (part q qs)) ≡ 1 + length (text q) + length (more_text qs) = simp length-append (omega arith) in
      omega arith

pub text_short : (t : Tree) → IsPolicy t → length (text t) ≤ 1536
text_short t h = let l : length (text t) + 1 ≤ 24 * nodes t = length-text-le t h.counted in let n : nodes t ≤ 64 = h.small in omega arith

-- the bytes are the text of one tree
pub same_tree : (bytes : List ℕ) (t u : Tree) → bytes ≡ text t → bytes ≡ text u → t ≡ u
same_tree bytes t u e f = (text_once t u [] [] (ap (λ s. s ++ []) (sym e ∙ f))).0

pub reads_back : (t : Tree) → IsPolicy t → Reads (text t) (Ok t)
unfolding Reads
reads_back t h = ((let short : length (text t) ≤ 1536 = text_short t h in omega arith), refl, h)

-- what a policy's text has
module _ (bytes : List ℕ) where
  -- the tree of a policy's text is the policy
  fit_of : (t u : Tree) → IsPolicy t → bytes ≡ text t → IsTextOf bytes u → IsPolicy u
  fit_of t u h e is = subst IsPolicy (same_tree bytes t u e is.same) h

  grammatical : (t : Tree) → IsPolicy t → bytes ≡ text t → IsTextOf bytes t
  grammatical t h e = record { same = e; parts = (counted_splits t h.counted).0 }

  -- two answers of which the first joins earlier in the order of the faults, a policy coming last
  pub settled : (a b : Result Tree PolicyFault) → Reads bytes a → Reads bytes b → (a ≡ Err NoMemory → ⊥) → (b ≡ Err NoMemory → ⊥) → a ≡ b
  unfolding Reads
  settled (Err NoMemory) b ra rb na nb = absurd (na refl)
  settled a (Err NoMemory) ra rb na nb = absurd (nb refl)
  settled (Err TooLong) (Err TooLong) ra rb na nb = refl
  settled (Err TooLong) b ra rb na nb = absurd (omega arith)
  settled a (Err TooLong) ra rb na nb = absurd (omega arith)
  settled (Err Syntax) (Err Syntax) ra rb na nb = refl
  settled (Err Syntax) (Ok t) ra rb na nb = absurd (ra.1 t (grammatical t rb.2 rb.1))
  settled (Err Syntax) b ra rb na nb = absurd (ra.1 rb.1 rb.2)
  settled (Ok t) (Err Syntax) ra rb na nb = absurd (rb.1 t (grammatical t ra.2 ra.1))
  settled a (Err Syntax) ra rb na nb = absurd (rb.1 ra.1 ra.2)
  settled (Err Count) (Err Count) ra rb na nb = refl
  settled (Err Count) (Ok t) ra rb na nb = absurd (ra.3 (counted_splits ra.1 (fit_of t ra.1 rb.2 rb.1 ra.2).counted).1)
  settled (Err Count) b ra rb na nb = absurd (ra.3 (subst HasFitCounts (same_tree bytes rb.1 ra.1 rb.2.same ra.2.same) rb.3))
  settled (Ok t) (Err Count) ra rb na nb = absurd (rb.3 (counted_splits rb.1 (fit_of t rb.1 ra.2 ra.1 rb.2).counted).1)
  settled a (Err Count) ra rb na nb = absurd (rb.3 (subst HasFitCounts (same_tree bytes ra.1 rb.1 ra.2.same rb.2.same) ra.3))
  settled (Err Depth) (Err Depth) ra rb na nb = refl
  settled (Err Depth) (Ok t) ra rb na nb = let low : depth ra.1 ≤ 8 = (fit_of t ra.1 rb.2 rb.1 ra.2).shallow in absurd (omega arith)
  settled (Err Depth) (Err Nodes) ra rb na nb = let same = ap depth (same_tree bytes rb.1 ra.1 rb.2.same ra.2.same) in absurd (omega arith)
  settled (Ok t) (Err Depth) ra rb na nb = let low : depth rb.1 ≤ 8 = (fit_of t rb.1 ra.2 ra.1 rb.2).shallow in absurd (omega arith)
  settled (Err Nodes) (Err Depth) ra rb na nb = let same = ap depth (same_tree bytes ra.1 rb.1 ra.2.same rb.2.same) in absurd (omega arith)
  settled (Err Nodes) (Err Nodes) ra rb na nb = refl
  settled (Err Nodes) (Ok t) ra rb na nb = let low : nodes ra.1 ≤ 64 = (fit_of t ra.1 rb.2 rb.1 ra.2).small in absurd (omega arith)
  settled (Ok t) (Err Nodes) ra rb na nb = let low : nodes rb.1 ≤ 64 = (fit_of t rb.1 ra.2 ra.1 rb.2).small in absurd (omega arith)
  settled (Ok t) (Ok u) ra rb na nb = ap Ok (same_tree bytes t u ra.1 rb.1)
