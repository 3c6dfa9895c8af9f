-- the deeds of a set, written one after another
use Rattle.std.proofs.Common.{◌≡◌, ◌∙◌, Bool, true, false, ◌||◌, if◌then◌else◌, List, [], ◌∷◌, ◌++◌, ℕ, filter, append_assoc, append-nil, refl, sym, ap}
use Rattle.serde_json.specs.Written.{comma_if}
use Rattle.fy_kinds.specs.Kinds.{Deed, Striking, Clogging, deed_text, has}
use Rattle.fy_kinds.specs.Members.{Members}
use Rattle.fy_kinds.specs.declared.kind.Kind.TheVariants.{RebootProcess, Reboot, RebootAndDelete, KillInstantly}
use Rattle.fy_spelling.specs.Pieces.{deeds_text}
use Rattle.fy_spelling.specs.Values.{in_order}
use Rattle.fy_asking.specs.ToldPieces.{quoted_text}

-- a deed where it is in a set, with a comma where one stands before it
abbrev pub deed_piece : Bool → Bool → List ℕ → List ℕ
deed_piece later is word = if is then comma_if later ++ quoted_text [] word else []

or_true : (b : Bool) → (b || true) ≡ true
or_true true = refl
or_true false = refl

or_false : (b : Bool) → (b || false) ≡ b
or_false true = refl
or_false false = refl

listed_shape : (comma word more : List ℕ) →
    comma ++ (34 ∷ (word ++ (34 ∷ more))) ≡ (comma ++ (34 ∷ (word ++ 34 ∷ []))) ++ more
listed_shape comma word more = simp append_assoc

-- the first of some deeds, and the others behind it
one_deed : (test : Deed → Bool) (d : Deed) (ds : List Deed) (later : Bool) →
    deeds_text later (filter test (d ∷ ds))
    ≡ deed_piece later (test d) (deed_text d) ++ deeds_text (later || test d) (filter test ds)
one_deed test d ds later = by (test d)
  where
    by : (b : Bool) → deeds_text later (if b then d ∷ filter test ds else filter test ds)
        ≡ deed_piece later b (deed_text d) ++ deeds_text (later || b) (filter test ds)
    by true =
        listed_shape (comma_if later) (deed_text d) (deeds_text true (filter test ds))
        ∙ ap (λ b. (comma_if later ++ quoted_text [] (deed_text d)) ++ deeds_text b (filter test ds)) (sym (or_true later))
    by false = ap (λ b. deeds_text b (filter test ds)) (sym (or_false later))

behind : (old a b : List ℕ) (all rest : List ℕ) → a ≡ old ++ b → all ≡ b ++ rest → old ++ all ≡ a ++ rest
behind old a b all rest one is = ap (λ l. old ++ l) is ∙ sym (append_assoc old b rest) ∙ ap (λ l. l ++ rest) (sym one)

-- all five are written
pub five_deeds : (kinds : Members) (old a b c d e : List ℕ) (one two three four : Bool) →
    a ≡ old ++ deed_piece false (has kinds (Striking RebootProcess)) (deed_text (Striking RebootProcess)) →
    one ≡ (false || has kinds (Striking RebootProcess)) →
    b ≡ a ++ deed_piece one (has kinds (Striking Reboot)) (deed_text (Striking Reboot)) →
    two ≡ (one || has kinds (Striking Reboot)) →
    c ≡ b ++ deed_piece two (has kinds (Striking RebootAndDelete)) (deed_text (Striking RebootAndDelete)) →
    three ≡ (two || has kinds (Striking RebootAndDelete)) →
    d ≡ c ++ deed_piece three (has kinds (Striking KillInstantly)) (deed_text (Striking KillInstantly)) →
    four ≡ (three || has kinds (Striking KillInstantly)) →
    e ≡ d ++ deed_piece four (has kinds Clogging) (deed_text Clogging) →
    e ≡ old ++ deeds_text false (in_order kinds)
five_deeds kinds old a b c d e one two three four first later1 second later2 third later3 fourth later4 fifth =
    let test = has kinds in
    sym
    (behind old a _ _ _ first (one_deed test (Striking RebootProcess) (Striking Reboot ∷ Striking RebootAndDelete ∷ Striking KillInstantly ∷ Clogging ∷ []) false)
    ∙ ap (λ l. a ++ deeds_text l (filter test (Striking Reboot ∷ Striking RebootAndDelete ∷ Striking KillInstantly ∷ Clogging ∷ []))) (sym later1)
    ∙ behind a b _ _ _ second (one_deed test (Striking Reboot) (Striking RebootAndDelete ∷ Striking KillInstantly ∷ Clogging ∷ []) one)
    ∙ ap (λ l. b ++ deeds_text l (filter test (Striking RebootAndDelete ∷ Striking KillInstantly ∷ Clogging ∷ []))) (sym later2)
    ∙ behind b c _ _ _ third (one_deed test (Striking RebootAndDelete) (Striking KillInstantly ∷ Clogging ∷ []) two)
    ∙ ap (λ l. c ++ deeds_text l (filter test (Striking KillInstantly ∷ Clogging ∷ []))) (sym later3)
    ∙ behind c d _ _ _ fourth (one_deed test (Striking KillInstantly) (Clogging ∷ []) three)
    ∙ ap (λ l. d ++ deeds_text l (filter test (Clogging ∷ []))) (sym later4)
    ∙ behind d e _ _ _ fifth (one_deed test Clogging [] four)
    ∙ append-nil e)
