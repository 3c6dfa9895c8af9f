-- lists that are read one element after another
use Rattle.std.proofs.Common.{◌≡◌, ◌∙◌, ℕ, zero, suc, ◌+◌, ◌*◌, ◌/◌, ◌%◌, ◌<◌, ◌≤◌, Bool, true, false, ◌||◌, ◌==◌, List, [], ◌∷◌, ◌++◌, length, take, get_or, codes, refl, sym, ap, subst, arith, rules, decimal, append_assoc, slice_index}
use Rattle.std.proofs.lemmas.List.{take_more, take_all}
use Rattle.std.proofs.lemmas.Bool.Decides.{nat_tests}
use Rattle.serde_json.specs.Written.{comma_if}
use Rattle.hex.specs.Hex.{lower_digits, encode_lower, encode_with}
use Rattle.fy_locality.specs.declared.ProcId.{ProcId}
use Rattle.fy_kinds.specs.Kinds.{Deed, Striking, Clogging, deed_text, has, those, only, in_either, place, all_kinds}
use Rattle.fy_kinds.specs.Members.{Members}
use Rattle.fy_kinds.specs.declared.kind.Kind.TheVariants.{RebootProcess, Reboot, RebootAndDelete, KillInstantly}
use Rattle.fy_spelling.specs.Values.{in_order}
use Rattle.fy_spelling.specs.Pieces.{processes_text, deeds_text}

-- whether a list has an element
abbrev pub is_filled : {A : Type 0} → List A → Bool
is_filled [] = false
is_filled (x ∷ xs) = true

-- whether a comma stands before what comes behind a list
abbrev comma_behind : {A : Type 0} → Bool → List A → Bool
comma_behind later [] = later
comma_behind later (x ∷ xs) = true

behind_first : {A : Type 0} (xs : List A) → comma_behind false xs ≡ is_filled xs
behind_first [] = refl
behind_first (x ∷ xs) = refl

pub filled_behind : {A : Type 0} (xs : List A) (x : A) → true ≡ is_filled (xs ++ (x ∷ []))
filled_behind [] x = refl
filled_behind (y ∷ ys) x = refl

-- ---- processes

process_shape : (c d t r : List ℕ) → (c ++ (d ++ t)) ++ r ≡ c ++ (d ++ (t ++ r))
process_shape c d t r = simp append_assoc

behind_true : {A : Type 0} (ys : List A) → comma_behind true ys ≡ true
behind_true [] = refl
behind_true (y ∷ ys) = refl

processes_pushed :
    (later : Bool) (ps : List ProcId) (p : ProcId) (after : List ℕ)
    → processes_text later (ps ++ (p ∷ [])) ++ after
    ≡ processes_text later ps ++ (comma_if (comma_behind later ps) ++ (decimal p.0 ++ after))
processes_pushed later [] p after = process_shape (comma_if later) (decimal p.0) [] after
processes_pushed later (x ∷ xs) p after =
    process_shape (comma_if later) (decimal x.0) (processes_text true (xs ++ (p ∷ []))) after
    ∙ rw (processes_pushed true xs p after, behind_true xs)
    (sym (process_shape (comma_if later) (decimal x.0) (processes_text true xs) (comma_if true ++ (decimal p.0 ++ after))))

-- a process more is read
pub process_more :
    (line rest after : List ℕ) (found : List ProcId) (p : ProcId) (later : Bool)
    → later ≡ is_filled found → line ≡ processes_text false found ++ rest
    → rest ≡ comma_if later ++ (decimal p.0 ++ after)
    → line ≡ processes_text false (found ++ (p ∷ [])) ++ after
process_more line rest after found p later filled before is =
    before ∙ ap (λ r. processes_text false found ++ r) is
    ∙ rw (filled, ← behind_first found) (sym (processes_pushed false found p after))

-- ---- deeds

deed_shape : (c w t r : List ℕ)
    → (c ++ (codes "\"" ++ (w ++ (codes "\"" ++ t)))) ++ r ≡ c ++ (codes "\"" ++ (w ++ (codes "\"" ++ (t ++ r))))
deed_shape c w t r = simp append_assoc

deeds_pushed :
    (later : Bool) (ds : List Deed) (d : Deed) (after : List ℕ)
    → deeds_text later (ds ++ (d ∷ [])) ++ after
    ≡ deeds_text later ds ++ (comma_if (comma_behind later ds) ++ (codes "\"" ++ (deed_text d ++ (codes "\"" ++ after))))
deeds_pushed later [] d after = deed_shape (comma_if later) (deed_text d) [] after
deeds_pushed later (x ∷ xs) d after =
    deed_shape (comma_if later) (deed_text x) (deeds_text true (xs ++ (d ∷ []))) after
    ∙ rw (deeds_pushed true xs d after, behind_true xs)
    (sym (deed_shape (comma_if later) (deed_text x) (deeds_text true xs) (comma_if true ++ (codes "\"" ++ (deed_text d ++ (codes "\"" ++ after))))))

-- no deed from a place on is in the set
abbrev pub HasNoneFrom : ℕ → Members → Type 0
HasNoneFrom i kinds = (d : Deed) → i ≤ place d → has kinds d ≡ false

pub none_in_none : HasNoneFrom 0 (those (λ _. false))
none_in_none (Striking RebootProcess) h = refl
none_in_none (Striking Reboot) h = refl
none_in_none (Striking RebootAndDelete) h = refl
none_in_none (Striking KillInstantly) h = refl
none_in_none Clogging h = refl

has_those : (f : Deed → Bool) (d : Deed) → has (those f) d ≡ f d
has_those f (Striking RebootProcess) = refl
has_those f (Striking Reboot) = refl
has_those f (Striking RebootAndDelete) = refl
has_those f (Striking KillInstantly) = refl
has_those f Clogging = refl

abbrev set_of : Bool → Bool → Bool → Bool → Bool → Members
set_of p r d k c = record { reboot_process = p; reboot = r; reboot_and_delete = d; kill_instantly = k; clog = c }

-- a deed behind all deeds of a set stands last in the larger set
abbrev StandsLast : Members → Deed → Type 0
StandsLast kinds d = in_order (in_either kinds (only d)) ≡ in_order kinds ++ (d ∷ [])

second : (p : Bool) → StandsLast (set_of p false false false false) (Striking Reboot)
second p = search rules

third : (p r : Bool) → StandsLast (set_of p r false false false) (Striking RebootAndDelete)
third p r = search rules

fourth : (p r d : Bool) → StandsLast (set_of p r d false false) (Striking KillInstantly)
fourth p r d = search rules

fifth : (p r d k : Bool) → StandsLast (set_of p r d k false) Clogging
fifth p r d k = search rules

stands_last : (kinds : Members) (d : Deed) → HasNoneFrom (place d) kinds → StandsLast kinds d
stands_last kinds (Striking RebootProcess) none =
    rw (none (Striking RebootProcess) (omega arith), none (Striking Reboot) (omega arith), none (Striking RebootAndDelete) (omega arith), none (Striking KillInstantly) (omega arith), none Clogging (omega arith)) refl
stands_last kinds (Striking Reboot) none =
    rw (none (Striking Reboot) (omega arith), none (Striking RebootAndDelete) (omega arith), none (Striking KillInstantly) (omega arith), none Clogging (omega arith)) (second kinds.reboot_process)
stands_last kinds (Striking RebootAndDelete) none =
    rw (none (Striking RebootAndDelete) (omega arith), none (Striking KillInstantly) (omega arith), none Clogging (omega arith)) (third kinds.reboot_process kinds.reboot)
stands_last kinds (Striking KillInstantly) none =
    rw (none (Striking KillInstantly) (omega arith), none Clogging (omega arith)) (fourth kinds.reboot_process kinds.reboot kinds.reboot_and_delete)
stands_last kinds Clogging none =
    rw (none Clogging (omega arith)) (fifth kinds.reboot_process kinds.reboot kinds.reboot_and_delete kinds.kill_instantly)

other_place : (d e : Deed) → place d < place e → (place e == place d) ≡ false
other_place d e below = grind (arith, nat_tests)

none_behind :
    (found : Members) (d : Deed) → HasNoneFrom (place d) found
    → HasNoneFrom (place d + 1) (in_either found (only d))
none_behind found d none e behind =
    has_those (λ x. has found x || has (only d) x) e
    ∙ rw (none e (omega arith), has_those (λ x. place x == place d) e) (other_place d e (omega arith))

-- what is read of a list: its deeds so far, and that the next one stands at a place or behind it
pub record HasRead (line : List ℕ) (found : Members) (later : Bool) (rest : List ℕ) (i : ℕ) : Type 0 where
  pub text : line ≡ deeds_text false (in_order found) ++ rest
  pub filled : later ≡ is_filled (in_order found)
  pub none : HasNoneFrom i found

pub nothing_read : (line : List ℕ) → HasRead line (those (λ _. false)) false line 0
nothing_read line = record { text = refl; filled = refl; none = none_in_none }

-- a deed more is read
read_deed :
    (line rest after : List ℕ) (found : Members) (d : Deed) (later : Bool)
    → HasRead line found later rest (place d)
    → rest ≡ comma_if later ++ (codes "\"" ++ (deed_text d ++ (codes "\"" ++ after)))
    → HasRead line (in_either found (only d)) true after (place d + 1)
read_deed line rest after found d later had is =
    record {
      text =
          had.text ∙ ap (λ r. deeds_text false (in_order found) ++ r) is
          ∙ rw (stands_last found d had.none, had.filled, ← behind_first (in_order found))
          (sym (deeds_pushed false (in_order found) d after));
      filled = rw (stands_last found d had.none) (filled_behind (in_order found) d);
      none = none_behind found d had.none;
    }

pub read_more :
    (line rest after : List ℕ) (found : Members) (d : Deed) (later : Bool) (i : ℕ) → place d ≡ i
    → HasRead line found later rest i
    → rest ≡ comma_if later ++ (codes "\"" ++ (deed_text d ++ (codes "\"" ++ after)))
    → HasRead line (in_either found (only d)) true after (i + 1)
read_more line rest after found d later i here had is =
    subst (λ n. HasRead line (in_either found (only d)) true after (n + 1)) here
    (read_deed line rest after found d later
    (subst (λ n. HasRead line found later rest n) (sym here) had) is)

-- or none
pub read_on :
    (line rest : List ℕ) (found : Members) (later : Bool) (i : ℕ)
    → HasRead line found later rest i → HasRead line found later rest (i + 1)
read_on line rest found later i had =
    record {
      text = had.text;
      filled = had.filled;
      none = λ e behind. had.none e (omega arith);
    }

-- the place of a kind among all
pub placed : (i : ℕ) → i < 4 → place (Striking (get_or all_kinds i RebootProcess)) ≡ i
placed zero h = refl
placed (suc zero) h = refl
placed (suc (suc zero)) h = refl
placed (suc (suc (suc zero))) h = refl
placed (suc (suc (suc (suc n)))) h = absurd (omega arith)

-- ---- bytes

encode_pushed :
    (bs : List ℕ) (b : ℕ)
    → encode_lower (bs ++ (b ∷ [])) ≡ encode_lower bs ++ (slice_index lower_digits (b / 16) ∷ slice_index lower_digits (b % 16) ∷ [])
unfolding encode_with
encode_pushed [] b = refl
encode_pushed (x ∷ xs) b = rw (encode_pushed xs b) refl

two_more : (xs : List ℕ) (i : ℕ) → 2 * i + 1 < length xs
    → take (2 * (i + 1)) xs ≡ (take (2 * i) xs ++ (get_or xs (2 * i) 0 ∷ [])) ++ (get_or xs (2 * i + 1) 0 ∷ [])
two_more xs i within =
    let same : 2 * (i + 1) ≡ (2 * i + 1) + 1 = omega arith in
    rw same (take_more xs (2 * i + 1) 0 within ∙ rw (take_more xs (2 * i) 0 (omega arith)) refl)

-- a byte more is read
pub byte_more :
    (digits bytes : List ℕ) (i high low : ℕ) → 2 * i + 1 < length digits
    → high < 16 → low < 16 → get_or digits (2 * i) 0 ≡ slice_index lower_digits high
    → get_or digits (2 * i + 1) 0 ≡ slice_index lower_digits low
    → take (2 * i) digits ≡ encode_lower bytes
    → take (2 * (i + 1)) digits ≡ encode_lower (bytes ++ ((16 * high + low) ∷ []))
byte_more digits bytes i high low within high_small low_small high_is low_is before =
    let upper : (16 * high + low) / 16 ≡ high = omega arith in
    let lower : (16 * high + low) % 16 ≡ low = omega arith in
    two_more digits i within
    ∙ rw (encode_pushed bytes (16 * high + low), upper, lower, before, high_is, low_is)
    (append_assoc (encode_lower bytes) (slice_index lower_digits high ∷ []) (slice_index lower_digits low ∷ []))

pub all_bytes :
    (digits bytes : List ℕ) (count : ℕ) → length digits ≡ 2 * count
    → take (2 * count) digits ≡ encode_lower bytes → digits ≡ encode_lower bytes
all_bytes digits bytes count long is = sym (take_all (2 * count) digits (omega arith)) ∙ is
