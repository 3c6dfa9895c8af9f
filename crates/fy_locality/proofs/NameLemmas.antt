-- a name in its 32 bytes
use Rattle.std.proofs.Common.{zero, suc, ◌≡◌, ℕ, ◌+◌, ◌-◌, ◌≤◌, ◌<◌, Bool, true, false, List, [], ◌∷◌, ◌++◌, length, drop, get_or, refl, sym, subst, ◌∙◌, arith}
use Rattle.std.specs.Prelude.{replicate}
use Rattle.std.proofs.lemmas.List.{length-append, length-drop, length-replicate, take_at, get_or-append_right, get_or-drop}
use Rattle.std.specs.Prelude.{IsTrue, ◌&&◌, not, nat_lt, nat_le, ◌==◌, slice_index}
use Rattle.std.specs.List.{list_all}
use Rattle.std.proofs.lemmas.Bool.Decides.{nat_tests}
use Rattle.std.specs.Str.{IsUtf8}
use Rattle.std.proofs.lemmas.Str.{IsUtf8-from_ascii}
use Rattle.std.proofs.lemmas.Str.Ascii.{IsAscii-nil}
use Rattle.fy_locality.specs.declared.name.TheConstants.{MOST_NAME_CHARACTERS}
use Rattle.fy_locality.specs.Name.{is_name, is_name_byte, IsStored}

-- a name isn't long
pub is_name-short : (v : List ℕ) → IsTrue (is_name v) → length v ≤ 32
is_name-short v name = go (length v) (not (slice_index v 0 == 45)) (list_all is_name_byte v) name
  where
    go : (n : ℕ) (a b : Bool) → (nat_lt 0 n && nat_le n 32 && a && b) ≡ true → n ≤ 32
    go n a b e = grind (arith, nat_tests)

-- ---- a name is ASCII
name_byte-lt : (b : ℕ) → is_name_byte b ≡ true → b < 128
name_byte-lt b h = grind (arith, nat_tests)

both : (a b : Bool) → (a && b) ≡ true → (a ≡ true) × (b ≡ true)
both true true e = (refl, refl)
both true false e = absurd (let no : ⊥ = cc in no)
both false b e = absurd (let no : ⊥ = cc in no)

ascii : (v : List ℕ) → list_all is_name_byte v ≡ true → (i : ℕ) → get_or v i 0 < 128
ascii [] e i = IsAscii-nil i
ascii (x ∷ xs) e zero = name_byte-lt x (both (is_name_byte x) (list_all is_name_byte xs) e).0
ascii (x ∷ xs) e (suc i) = ascii xs (both (is_name_byte x) (list_all is_name_byte xs) e).1 i

pub IsUtf8-name : (v : List ℕ) → IsTrue (is_name v) → IsUtf8 v
IsUtf8-name v name = IsUtf8-from_ascii v (ascii v (last_test (nat_lt 0 (length v)) (nat_le (length v) MOST_NAME_CHARACTERS) (not (slice_index v 0 == 45)) (list_all is_name_byte v) name))
  where
    last_test : (a b c d : Bool) → (a && b && c && d) ≡ true → d ≡ true
    last_test a b c d e = (both (a && b && c) d e).1

-- ---- a name in its bytes
pub IsStored-made : (v : List ℕ) → IsTrue (is_name v) → IsStored (v ++ drop (length v) (replicate 32 0)) (length v)
IsStored-made v name = let short : length v ≤ 32 = is_name-short v name in record {
  count = omega (arith, length-append v (drop (length v) (replicate 32 0)), length-drop (length v) (replicate {A = ℕ} 32 0), length-replicate {A = ℕ} 32 0);
  within = short;
  name = subst (λ n. IsTrue (is_name n)) (sym (take_at v (drop (length v) (replicate 32 0)) (length v) refl)) name;
  zeros = λ k h. get_or-append_right v (drop (length v) (replicate 32 0)) (length v) k 0 refl h ∙ get_or-drop (length v) (replicate 32 0) (k - length v) 0 ∙ zero_at 32 (length v + (k - length v));
}
  where
    zero_at : (n k : ℕ) → ◌≡◌ {A = ℕ} (get_or (replicate n 0) k 0) 0
    zero_at zero k = refl
    zero_at (suc n) zero = refl
    zero_at (suc n) (suc k) = zero_at n k
