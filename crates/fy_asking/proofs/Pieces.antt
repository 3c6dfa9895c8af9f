-- pieces that are written one after another
use Rattle.std.proofs.Common.{◌≡◌, ◌∙◌, ℕ, List, ◌++◌, append_assoc, ap}

four_shape : (old a b c d : List ℕ) →
    (((old ++ a) ++ b) ++ c) ++ d ≡ old ++ (a ++ (b ++ (c ++ d)))
four_shape old a b c d = simp append_assoc

-- four pieces are one text
pub four : (old a b c d one two three last : List ℕ) → one ≡ old ++ a → two ≡ one ++ b →
    three ≡ two ++ c → last ≡ three ++ d → last ≡ old ++ (a ++ (b ++ (c ++ d)))
four old a b c d one two three last first second third fourth =
    fourth
    ∙ ap (λ l. l ++ d) (third ∙ ap (λ l. l ++ c) (second ∙ ap (λ l. l ++ b) first))
    ∙ four_shape old a b c d

six_shape : (old a b c d e f : List ℕ) →
    (((((old ++ a) ++ b) ++ c) ++ d) ++ e) ++ f ≡ old ++ (a ++ (b ++ (c ++ (d ++ (e ++ f)))))
six_shape old a b c d e f = simp append_assoc

-- and so are six
pub six : (old a b c d e f one two three four five last : List ℕ) → one ≡ old ++ a →
    two ≡ one ++ b → three ≡ two ++ c → four ≡ three ++ d → five ≡ four ++ e → last ≡ five ++ f →
    last ≡ old ++ (a ++ (b ++ (c ++ (d ++ (e ++ f)))))
six old a b c d e f one two three four five last first second third fourth fifth sixth =
    sixth
    ∙ ap (λ l. l ++ f) (fifth ∙ ap (λ l. l ++ e) (fourth ∙ ap (λ l. l ++ d)
    (third ∙ ap (λ l. l ++ c) (second ∙ ap (λ l. l ++ b) first))))
    ∙ six_shape old a b c d e f
