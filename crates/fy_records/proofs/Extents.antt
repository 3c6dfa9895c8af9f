-- how far disks were looked through
use Rattle.std.proofs.Common.{◌≡◌, ◌<◌, ◌+◌, ℕ, zero, suc, Bool, true, false, ◌∙◌, ◌&&◌, ◌||◌, List, length, take, get_or, Some, refl, sym, ap, subst, arith}
use Rattle.std.specs.Prelude.{slice_get, ◌==◌}
use Rattle.std.proofs.lemmas.List.Folds.{list_any_more}
use Rattle.fy_history.specs.declared.history.DiskLine.{DiskLine}
use Rattle.fy_history.specs.declared.history.Trace.{Trace}
use Rattle.fy_records.specs.declared.disks.Extent.{Extent}
use Rattle.fy_records.specs.Traces.{all_below, says, is_all, is_nothing_else}
use Rattle.fy_records.specs.Founds.{AreExtents, extent_with}
use Rattle.fy_records.proofs.Steps.{or_none}

-- one that fails is enough
pub one_fails : (n m : ℕ) (test : ℕ → Bool) → m < n → test m ≡ false → false ≡ all_below n test
one_fails zero m test within fails = absurd (omega (arith, within))
one_fails (suc n) m test within fails = by (test n) refl (one_fails n m test)
  where
    by : (b : Bool) → test n ≡ b → (m < n → test m ≡ false → false ≡ all_below n test) → false ≡ (all_below n test && b)
    by false e rest = sym (and_false (all_below n test))
      where
        and_false : (b : Bool) → (b && false) ≡ false
        and_false true = refl
        and_false false = refl
    by true e rest =
        let other : m < n = grind (arith, within, fails, e) in
        ap (λ b. b && true) (rest other fails)

-- what is said of a process, with one line more
says_more : (lines : List DiskLine) (i : ℕ) (d : DiskLine) (node : ℕ) (test : Trace → Bool) → i < length lines
    → says (take (i + 1) lines) node test
    ≡ (says (take i lines) node test || (((get_or lines i d).node == node) && test (get_or lines i d).trace))
says_more lines i d node test within =
    list_any_more (λ (l : DiskLine). (l.node == node) && test l.trace) lines i d within

-- an extent of a process of which the line doesn't speak
other_node : (before : Bool) (is : Bool) (test : Bool) → is ≡ false → (before || (is && test)) ≡ before
other_node before is test none = ap (λ b. before || (b && test)) none ∙ sym (or_none before)

-- of one of which it does
this_node : (before : Bool) (is : Bool) (test : Bool) → is ≡ true → (before || (is && test)) ≡ (before || test)
this_node before is test some = ap (λ b. before || (b && test)) some

-- with one line more
pub extents_more : (lines : List DiskLine) (i : ℕ) (d : DiskLine) (processes : ℕ) (old new : List Extent) → i < length lines
    → length new ≡ length old
    → ((node : ℕ) → ((get_or lines i d).node == node) ≡ false → slice_get new node ≡ slice_get old node)
    → ((extent : Extent) → slice_get old (get_or lines i d).node ≡ Some extent → slice_get new (get_or lines i d).node ≡ Some (extent_with extent (get_or lines i d).trace))
    → AreExtents (take i lines) processes old → AreExtents (take (i + 1) lines) processes new
extents_more lines i d processes old new within long other here so = record {
  each = long ∙ so.each;
  so_far = λ node below. by node below ((get_or lines i d).node == node) refl;
}
  where
    both : (node : ℕ) (w p : Bool) → w ≡ says (take (i + 1) lines) node is_all → p ≡ says (take (i + 1) lines) node is_nothing_else
        → Some (let e : Extent = record { whole = w; plain = p } in e) ≡ Some (record { whole = says (take (i + 1) lines) node is_all; plain = says (take (i + 1) lines) node is_nothing_else })
    both node w p ew ep = ap (λ (b : Bool). Some (let e : Extent = record { whole = b; plain = p } in e)) ew ∙ ap (λ (b : Bool). Some (let e : Extent = record { whole = says (take (i + 1) lines) node is_all; plain = b } in e)) ep

    more : (node : ℕ) (test : Trace → Bool) → says (take (i + 1) lines) node test ≡ (says (take i lines) node test || (((get_or lines i d).node == node) && test (get_or lines i d).trace))
    more node test = says_more lines i d node test within

    by : (node : ℕ) → node < processes → (b : Bool) → ((get_or lines i d).node == node) ≡ b
        → slice_get new node ≡ Some (record { whole = says (take (i + 1) lines) node is_all; plain = says (take (i + 1) lines) node is_nothing_else })
    by node below false e =
        other node e ∙ so.so_far node below
        ∙ both node _ _ (sym (more node is_all ∙ other_node _ _ _ e)) (sym (more node is_nothing_else ∙ other_node _ _ _ e))
    by node below true e =
        let same : (get_or lines i d).node ≡ node = grind (arith, e) in
        subst (λ (n : ℕ). slice_get new n ≡ Some (record { whole = says (take (i + 1) lines) node is_all; plain = says (take (i + 1) lines) node is_nothing_else })) same
        (here _ (subst (λ (n : ℕ). slice_get old n ≡ Some (record { whole = says (take i lines) node is_all; plain = says (take i lines) node is_nothing_else })) (sym same) (so.so_far node below))
        ∙ both node _ _ (sym (more node is_all ∙ this_node _ _ _ e)) (sym (more node is_nothing_else ∙ this_node _ _ _ e)))
