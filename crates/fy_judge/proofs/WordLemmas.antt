-- the words of what begins with a word
use Rattle.std.proofs.Common.{◌≡◌, ◌∙◌, ◌≤◌, zero, suc, Bool, true, false, cond, ◌&&◌, ltb, eqb, ℕ, List, [], ◌∷◌, ◌++◌, length, Option, Some, None, refl, sym, ap, ne_eqb, arith}
use Rattle.std.specs.List.{list_all}
use Rattle.std.specs.Str.{IsAscii, IsUtf8}
use Rattle.std.proofs.lemmas.Str.{IsUtf8-from_ascii}
use Rattle.std.proofs.lemmas.Bool.Decides.{nat_tests}
use Rattle.fy_lines.specs.Lines.{onto_first}
use Rattle.fy_judge.specs.declared.line.Keyword.{Keyword}
use Rattle.fy_judge.specs.declared.line.Keyword.TheVariants.{Policy as KeywordPolicy, Process as KeywordProcess, Ask as KeywordAsk}
use Rattle.fy_judge.specs.JudgeLines.{tokens_of, parse_arguments, is_text}
use Rattle.fy_judge.specs.JudgeViews.{IsToken}

-- a word, a blank, and the rest
words_of_first : (word rest : List ℕ) → IsToken word → tokens_of (word ++ 32 ∷ rest) ≡ word ∷ tokens_of rest
words_of_first [] rest whole = refl
words_of_first (x ∷ xs) rest whole = rw (ne_eqb x 32 whole.0) (ap (onto_first x) (words_of_first xs rest whole.1))

-- a last word
pub words_of_lone : (word : List ℕ) → IsToken word → tokens_of word ≡ word ∷ []
words_of_lone [] whole = refl
words_of_lone (x ∷ xs) whole = rw (ne_eqb x 32 whole.0) (ap (onto_first x) (words_of_lone xs whole.1))

pub words_of_split : (line word rest : List ℕ) → line ≡ word ++ 32 ∷ rest → IsToken word → tokens_of line ≡ word ∷ tokens_of rest
words_of_split line word rest split whole = ap tokens_of split ∙ words_of_first word rest whole

-- there is a word in every line
some_words : (line : List ℕ) → 1 ≤ length (tokens_of line)
some_words [] = omega arith
some_words (x ∷ xs) = go (eqb x 32) (some_words xs)
  where
    grown : (ws : List (List ℕ)) → 1 ≤ length (onto_first x ws)
    grown [] = omega arith
    grown (w ∷ ws) = omega arith

    go : (b : Bool) → 1 ≤ length (tokens_of xs) → 1 ≤ length (cond b ([] ∷ tokens_of xs) (onto_first x (tokens_of xs)))
    go true h = omega arith
    go false h = grown (tokens_of xs)

-- more words than one
pub not_lone : (line word rest : List ℕ) → tokens_of line ≡ word ∷ tokens_of rest → length (tokens_of line) ≡ 1 → ⊥
not_lone line word rest is one =
    let n : length (tokens_of line) ≡ suc (length (tokens_of rest)) = ap length is in
    let some : 1 ≤ length (tokens_of rest) = some_words rest in
    let x : ⊥ = omega arith in x

-- ---- what a keyword with the wrong number of words says
pub no_words_said : (k : Option Keyword) → parse_arguments k [] ≡ None
no_words_said None = refl
no_words_said (Some KeywordPolicy) = refl
no_words_said (Some KeywordProcess) = refl
no_words_said (Some (KeywordAsk loss)) = refl

pub nothing_said : (words : List (List ℕ)) → parse_arguments None words ≡ None
nothing_said words = refl

-- ---- the words of each form
-- what has no byte above 127 is text
pub ascii_is_text : {T : Type 0} (word : List ℕ) → true ≡ is_text word → (IsUtf8 word → ⊥) → T
ascii_is_text word test not = absurd (not (IsUtf8-from_ascii word (low word (second _ _ (sym test)))))
  where
    second : (a b : Bool) → (a && b) ≡ true → b ≡ true
    second true b e = e
    second false b e = absurd (let x : ⊥ = cc in x)

    low : (bs : List ℕ) → list_all (λ b. ltb b 128) bs ≡ true → IsAscii bs
    low [] e i = omega arith
    low (x ∷ xs) e zero = let h : ltb x 128 ≡ true = first (ltb x 128) _ e in grind (arith, nat_tests)
      where
        first : (a b : Bool) → (a && b) ≡ true → a ≡ true
        first true b e = refl
        first false b e = e
    low (x ∷ xs) e (suc i) = low xs (second (ltb x 128) _ e) i
