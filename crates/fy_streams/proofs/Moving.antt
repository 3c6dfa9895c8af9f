-- pieces of a text that goes out
use Rattle.std.proofs.Common.{◌≡◌, ◌∙◌, ◌<◌, ◌+◌, ℕ, suc, List, [], ◌∷◌, ◌++◌, Option, length, drop, get_or, sym, ap, arith, add-one, append_assoc, length-append, drop-cons}
use Rattle.std.specs.List.{flat_map}
use Rattle.std.specs.Io.KnownBytes.{Appends}
use Rattle.std.proofs.KnownBytes.{Appends-trans}
use Rattle.fy_lines.specs.Prefixes.{AppendsProperPrefix}
use Rattle.fy_acts.specs.declared.entry.Entry.{Entry}
use Rattle.fy_audit.specs.AuditText.{entry_line}
use Rattle.fy_streams.specs.Outputs.{FlushesFront}

-- what is kept goes nowhere, and there is some
pub stuck : (old new : Option (List ℕ)) (text kept line : List ℕ) → FlushesFront old new text kept →
    AppendsProperPrefix old new (text ++ (line ++ 10 ∷ []))
stuck old new text kept line moved =
    let some = length-append kept (line ++ 10 ∷ []) in
    let feed = length-append line (10 ∷ []) in (
      moved.0,
      kept ++ (line ++ 10 ∷ []),
      ap (λ l. l ++ (line ++ 10 ∷ [])) moved.2 ∙ append_assoc moved.0 kept (line ++ 10 ∷ []),
      moved.1,
      omega arith,
    )

-- one move after another
pub moved_on : (first second third : Option (List ℕ)) (done text kept whole rest : List ℕ) →
    Appends first second done → FlushesFront second third text kept → whole ≡ done ++ (text ++ rest) →
    (out : List ℕ) × Appends first third out × (whole ≡ out ++ (kept ++ rest))
moved_on first second third done text kept whole rest appended moved is = (
  done ++ moved.0,
  Appends-trans first second third done moved.0 appended moved.1,
  is ∙ ap (λ l. done ++ (l ++ rest)) moved.2 ∙ regroup done moved.0 kept rest,
)
  where
    regroup : (a b c d : List ℕ) → a ++ ((b ++ c) ++ d) ≡ (a ++ b) ++ (c ++ d)
    regroup a b c d = simp append_assoc

-- the next entry's line comes to what is kept
pub with_next : (whole done kept : List ℕ) (items : List Entry) (i : ℕ) (item : Entry) →
    i < length items → item ≡ get_or items i item →
    whole ≡ done ++ (kept ++ flat_map entry_line (drop i items)) →
    whole ≡ done ++ ((kept ++ entry_line item) ++ flat_map entry_line (drop (i + 1) items))
with_next whole done kept items i item within here is =
    is ∙ ap (λ l. done ++ (kept ++ flat_map entry_line l)) (drop-cons items i item within)
    ∙ ap (λ e. done ++ (kept ++ (entry_line e ++ flat_map entry_line (drop (suc i) items)))) (sym here)
    ∙ ap (λ n. done ++ (kept ++ (entry_line item ++ flat_map entry_line (drop n items)))) (sym (add-one i))
    ∙ ap (λ l. done ++ l) (sym (append_assoc kept (entry_line item) (flat_map entry_line (drop (i + 1) items))))
