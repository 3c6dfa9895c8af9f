-- columns that end where they are to end
use Rattle.std.proofs.Common.{◌≡◌, ◌∙◌, ◌+◌, ◌*◌, ◌^◌, ◌<◌, ◌≤◌, ◌⊎◌, ℕ, zero, suc, inl, inr, Some, None, option_map, List, [], ◌∷◌, ◌++◌, length, take, get_or, slice_get, min, refl, sym, ap, subst, arith}
use Rattle.std.specs.Prelude.{IsSome, IsSomeAnd}
use Rattle.std.proofs.lemmas.Bool.{cases_lt}
use Rattle.std.proofs.lemmas.List.{map-append, length-map, length-append}
use Rattle.std.proofs.lemmas.Nat.{pow_pos}
use Rattle.std.proofs.lemmas.Option.{slice_get_within, slice_get-get_or, slice_get-map, get_or_from_slice_get}
use Rattle.std.proofs.Math.Nat.{mul_assoc, mul_comm, mul-le-mul_right, le_of_mul-le-mul_right, lt_of_mul-lt-mul_right, pow-suc}
use Rattle.std.proofs.Math.Pow.{pow_mono}
use Rattle.fy_picture.specs.declared.column.Column.{Column}
use Rattle.fy_picture.specs.declared.layout.Plan.{Plan}
use Rattle.fy_picture.specs.declared.layout.Plan.TheVariants.{Even, Laid}
use Rattle.fy_picture.specs.Layouts.{AreAllMade, AreColumns, AreEnded, AreEven, AreInOrder, AreMade, AreSoFar, AreWhole, HasRoom, IsDue, IsFresh, IsFull, IsLate, IsOpen, IsShut, IsWidth, ends_of, laid_by, width_in}
use Rattle.fy_picture.proofs.Afters.{one_more, values_more}
use Rattle.fy_picture.proofs.Folding.{some_at}

-- ---- columns whose ends are listed

-- where the next column ends with the entries so far, it ends where it is to end
made_more : (ends : List ℕ) (n end : ℕ) (columns : List Column) (column : Column) → AreInOrder ends → AreMade ends n columns → slice_get ends (length columns) ≡ Some end → end ≤ n → column.end ≡ n
    → AreMade ends n (columns ++ column ∷ [])
made_more ends n end columns column order was next among is =
    let k : ℕ = length columns in
    let within : k < length ends = slice_get_within ends k end next in
    let own : end ≡ column.end = let least = was.later k end (omega arith) next in omega arith in
    let more : take (k + 1) ends ≡ take k ends ++ column.end ∷ [] = one_more ends k column.end within (sym own ∙ sym (get_or_from_slice_get ends k end column.end next)) in
    let count : length (columns ++ column ∷ []) ≡ k + 1 = length-append columns (column ∷ []) in
    record {
      made = map-append (λ (x : Column). x.end) columns (column ∷ []) ∙ ap (λ es. es ++ column.end ∷ []) was.made ∙ sym more ∙ ap (λ m. take m ends) (sym count);
      later = λ j other l e. was.later j other (omega arith) e;
    }

-- where the next column ends later, so do all others
all_made : (ends : List ℕ) (n : ℕ) (columns : List Column) → AreInOrder ends → AreMade ends n columns → ((end : ℕ) → slice_get ends (length columns) ≡ Some end → n < end) → AreAllMade ends n columns
all_made ends n columns order was late = record {
  made = was.made;
  later = λ k end l e.
      let k_within : k < length ends = slice_get_within ends k end e in
      let next : slice_get ends (length columns) ≡ Some (get_or ends (length columns) 0) = slice_get-get_or ends (length columns) 0 (omega arith) in
      let first : get_or ends (length columns) 0 ≤ end = order (length columns) k (get_or ends (length columns) 0) end l next e in
      let after : n < get_or ends (length columns) 0 = late (get_or ends (length columns) 0) next in
      omega arith;
}

-- one entry more makes none
made_next : (ends : List ℕ) (n : ℕ) (columns : List Column) → AreAllMade ends n columns → AreMade ends (n + 1) columns
made_next ends n columns was = record {
  made = was.made;
  later = λ k end l e. let after = was.later k end l e in omega arith;
}

made_none : (ends : List ℕ) (columns : List Column) → columns ≡ [] → AreMade ends 0 columns
made_none ends columns none = record {
  made = ap ends_of none ∙ sym (ap (λ (xs : List Column). take (length xs) ends) none);
  later = λ k end l e. omega arith;
}

-- ---- columns of one width

some_wide : (width e : ℕ) → width ≡ 2 ^ e → 0 < width
some_wide width e is = subst (λ w. 0 < w) (sym is) (pow_pos e)

-- one column more is so many entries more
next_end : (c w : ℕ) → (c + 1) * w ≡ c * w + w
next_end c w = rw (mul_comm (c + 1) w, mul_comm c w) (omega arith)

none_wide : (width : ℕ) → 0 * width ≤ 0
none_wide width = omega arith

whole_none : (width : ℕ) (columns : List Column) → width ≡ 1 → columns ≡ [] → AreWhole width 0 columns
whole_none width columns one none =
    let count : length columns ≡ 0 = ap length none in
    record {
      exponent = 0;
      power = one;
      few = omega arith;
      each = λ k column is.
          let bad : None ≡ Some column = sym (ap (λ (xs : List Column). slice_get xs k) none) ∙ is in
          absurd (let no : ⊥ = cc in no);
      among = subst (λ n. n * width ≤ 0) (sym count) (none_wide width);
      next = omega arith;
      narrow = inl one;
    }

-- one entry more, in the column that is open
whole_next : (width n : ℕ) (columns : List Column) → AreWhole width n columns → n < (length columns + 1) * width → AreWhole width (n + 1) columns
whole_next width n columns was late = record {
  exponent = was.exponent;
  power = was.power;
  few = was.few;
  each = was.each;
  among = let a = was.among in omega arith;
  next = omega arith;
  narrow = elim was.narrow [
    | inl one ↦ inl one
    | inr more ↦ inr (omega arith)
  ];
}

-- where a column ends there is room for it
room_for_one : (width n c : ℕ) → 0 < width → c ≤ 4000 → (c < 4000) ⊎ (n ≤ 4000 * width) → c * width < n → c < 4000
room_for_one width n c some few (inl less) more = less
room_for_one width n c some few (inr enough) more = elim (cases_lt c 4000) [
  | inl less ↦ less
  | inr full ↦ let e : c ≡ 4000 = omega arith in let f : c * width ≡ 4000 * width = ap (λ m. m * width) e in absurd (omega arith)
]

-- a column more
whole_more : (width n : ℕ) (columns : List Column) (column : Column) → AreWhole width n columns → (length columns + 1) * width ≤ n → HasRoom (Even width) (length columns) n → column.end ≡ n → AreWhole width n (columns ++ column ∷ [])
whole_more width n columns column was due room is =
    let c : ℕ = length columns in
    let some : 0 < width = some_wide width was.exponent was.power in
    let more : (c + 1) * width ≡ c * width + width = next_end c width in
    let less : c < 4000 = room_for_one width n c some was.few room (omega arith) in
    let count : length (columns ++ column ∷ []) ≡ c + 1 = length-append columns (column ∷ []) in
    let end : n ≡ (c + 1) * width = let o = was.next in omega arith in
    record {
      exponent = was.exponent;
      power = was.power;
      few = omega arith;
      each = each_more width columns column was.each (is ∙ end);
      among = subst (λ m. m * width ≤ n) (sym count) due;
      next = subst (λ m. n ≤ (m + 1) * width) (sym count) (let further = next_end (c + 1) width in omega arith);
      narrow = was.narrow;
    }
  where
    each_more : (width : ℕ) (columns : List Column) (column : Column) → ((k : ℕ) (x : Column) → slice_get columns k ≡ Some x → x.end ≡ (k + 1) * width) → column.end ≡ (length columns + 1) * width
        → (k : ℕ) (x : Column) → slice_get (columns ++ column ∷ []) k ≡ Some x → x.end ≡ (k + 1) * width
    each_more width columns column each last k x at =
        at_place columns 0 (λ j z e. each j z e ∙ ap (λ i. i * width) (let f : j + 1 ≡ 0 + j + 1 = omega arith in f))
        (last ∙ ap (λ i. i * width) (let f : length columns + 1 ≡ 0 + length columns + 1 = omega arith in f)) k x at
        ∙ ap (λ i. i * width) (let f : 0 + k + 1 ≡ k + 1 = omega arith in f)
      where
        at_place : (xs : List Column) (m : ℕ) → ((k : ℕ) (x : Column) → slice_get xs k ≡ Some x → x.end ≡ (m + k + 1) * width) → column.end ≡ (m + length xs + 1) * width
            → (k : ℕ) (x : Column) → slice_get (xs ++ column ∷ []) k ≡ Some x → x.end ≡ (m + k + 1) * width
        at_place [] m each last zero x at = let same : column ≡ x = cc in subst (λ (y : Column). y.end ≡ (m + 0 + 1) * width) same last
        at_place [] m each last (suc k) x at = absurd (let no : ⊥ = cc in no)
        at_place (y ∷ xs) m each last zero x at = each 0 x at
        at_place (y ∷ xs) m each last (suc k) x at =
            at_place xs (m + 1) (λ j z e. each (suc j) z e ∙ ap (λ i. i * width) (let f : m + suc j + 1 ≡ m + 1 + j + 1 = omega arith in f)) (last ∙ ap (λ i. i * width) (let f : m + suc (length xs) + 1 ≡ m + 1 + length xs + 1 = omega arith in f)) k x at
            ∙ ap (λ i. i * width) (let f : m + 1 + k + 1 ≡ m + suc k + 1 = omega arith in f)

-- and there still is room, where it is needed
room_more : (width n c : ℕ) → 0 < width → c ≤ 4000 → n ≤ (c + 1) * width → c * width < n → (c < 4000) ⊎ (n ≤ 4000 * width) → (c + 1 < 4000) ⊎ (n ≤ 4000 * width)
room_more width n c some few next more room = elim (cases_lt (c + 1) 4000) [
  | inl less ↦ inl less
  | inr full ↦
      let less : c < 4000 = room_for_one width n c some few room more in
      let e : c + 1 ≡ 4000 = omega arith in
      inr (subst (λ m. n ≤ m * width) e next)
]

-- each two become one of twice the width
whole_fold : (width n : ℕ) (old new : List Column) → AreWhole width n old → 4000 ≤ length old → 4000 * width < n → 2 * length new ≤ length old → length old ≤ 2 * length new + 1
    → ((k : ℕ) → k < length new → slice_get new k ≡ slice_get old (2 * k + 1)) → AreWhole (width * 2) n new
whole_fold width n old new was full more half whole each =
    let all : length old ≡ 4000 = let few = was.few in omega arith in
    let count : length new ≡ 2000 = omega arith in
    let next : n ≤ 4001 * width = subst (λ m. n ≤ (m + 1) * width) all was.next in
    record {
      exponent = suc was.exponent;
      power = ap (λ w. w * 2) was.power ∙ sym (pow-suc 2 was.exponent);
      few = omega arith;
      each = λ k column is.
          let within : k < length new = slice_get_within new k column is in
          was.each (2 * k + 1) column (sym (each k within) ∙ is)
          ∙ ap (λ m. m * width) (let e : 2 * k + 1 + 1 ≡ (k + 1) * 2 = omega arith in e)
          ∙ mul_assoc (k + 1) 2 width ∙ ap (λ m. (k + 1) * m) (mul_comm 2 width);
      among = subst (λ m. m * (width * 2) ≤ n) (sym count) (omega arith);
      next = subst (λ m. n ≤ (m + 1) * (width * 2)) (sym count) (omega arith);
      narrow = inr (omega arith);
    }

-- the width is the least power of two that needs no more columns
width_is : (width n e : ℕ) → width ≡ 2 ^ e → n ≤ 4000 * width → (width ≡ 1) ⊎ (4000 * width < 2 * n) → IsWidth n width
width_is width n e power room narrow = record {
  exponent = e;
  power = power;
  room = room;
  least = λ other enough. least other enough narrow;
}
  where
    least : (other : ℕ) → n ≤ 4000 * 2 ^ other → (width ≡ 1) ⊎ (4000 * width < 2 * n) → width ≤ 2 ^ other
    least other enough (inl one) = let some = pow_pos other in omega arith
    least other enough (inr more) = elim (cases_lt other e) [
      | inl less ↦
          let up : 2 ^ (suc other) ≤ 2 ^ e = pow_mono (let l : suc other ≤ e = omega arith in l) in
          let twice : 2 ^ (suc other) ≡ 2 ^ other * 2 = pow-suc 2 other in
          absurd (omega arith)
      | inr up ↦ let l : 2 ^ e ≤ 2 ^ other = pow_mono up in omega arith
    ]

-- columns that end so are laid out evenly
even_is : (width n : ℕ) (columns : List Column) → IsWidth n width → length columns ≤ 4000 → n ≤ length columns * width → ((other : ℕ) → n ≤ other * width → length columns ≤ other)
    → ((k : ℕ) → k < length columns → slice_get (ends_of columns) k ≡ Some (min ((k + 1) * width) n)) → AreEven n columns
even_is width n columns is few room least each =
    let count : length (ends_of columns) ≡ length columns = length-map columns (λ (x : Column). x.end) in
    record {
      layout = record { width = width; ends = ends_of columns };
      is_layout = record {
        width = is;
        columns = subst (λ m. AreColumns n width m) (sym count) (record { few = few; room = room; least = least });
        each = λ k l. each k (subst (λ m. k < m) count l);
      };
      ends = refl;
    }

-- where whole columns end
whole_ends : (width n : ℕ) (columns : List Column) → AreWhole width n columns → (k : ℕ) → k < length columns → slice_get (ends_of columns) k ≡ Some (min ((k + 1) * width) n)
whole_ends width n columns was k l =
    let column = some_at columns k l in
    let upto : (k + 1) * width ≤ length columns * width = mul-le-mul_right width (let m : k + 1 ≤ length columns = omega arith in m) in
    let least : (k + 1) * width ≡ min ((k + 1) * width) n = let a = was.among in omega arith in
    slice_get-map (λ (x : Column). x.end) columns k
    ∙ ap (option_map (λ (x : Column). x.end)) column.1
    ∙ ap Some (was.each k column.0 column.1 ∙ least)

ended_whole : (width n : ℕ) (columns : List Column) → AreWhole width n columns → n ≤ length columns * width → IsWidth n width × AreEven n columns
ended_whole width n columns was shut =
    let some : 0 < width = some_wide width was.exponent was.power in
    let most : length columns * width ≤ 4000 * width = mul-le-mul_right width (let f : length columns ≤ 4000 = was.few in f) in
    let is : IsWidth n width = width_is width n was.exponent was.power (omega arith) was.narrow in (
      is,
      even_is width n columns is was.few shut
          (λ other enough. le_of_mul-le-mul_right {k = width} (let a : length columns * width ≤ other * width = let b = was.among in omega arith in a) some)
          (whole_ends width n columns was),
    )

ended_part : (width n : ℕ) (columns : List Column) (column : Column) → AreWhole width n columns → length columns * width < n → n < (length columns + 1) * width → HasRoom (Even width) (length columns) n → column.end ≡ n
    → IsWidth n width × AreEven n (columns ++ column ∷ [])
ended_part width n columns column was behind late room end =
    let c : ℕ = length columns in
    let some : 0 < width = some_wide width was.exponent was.power in
    let less : c < 4000 = room_for_one width n c some was.few room behind in
    let count : length (columns ++ column ∷ []) ≡ c + 1 = length-append columns (column ∷ []) in
    let most : (c + 1) * width ≤ 4000 * width = mul-le-mul_right width (let f : c + 1 ≤ 4000 = omega arith in f) in
    let is : IsWidth n width = width_is width n was.exponent was.power (omega arith) was.narrow in
    let last : column.end ≡ min ((c + 1) * width) n = omega arith in (
      is,
      even_is width n (columns ++ column ∷ []) is (omega arith)
          (subst (λ m. n ≤ m * width) (sym count) (omega arith))
          (λ other enough.
          let more : c < other = lt_of_mul-lt-mul_right width (let a : c * width < other * width = omega arith in a) in
          omega arith)
          (λ k l. values_more (λ j. min ((j + 1) * width) n) (ends_of columns) (ends_of (columns ++ column ∷ [])) c (length-map columns (λ (x : Column). x.end))
          (λ j m. whole_ends width n columns was j m)
          (map-append (λ (x : Column). x.end) columns (column ∷ []) ∙ ap (λ e. ends_of columns ++ e ∷ []) last) k
          (subst (λ m. k < m) count l)),
    )

-- ---- either

pub so_far_none : (plan : Plan) (columns : List Column) → IsFresh plan → columns ≡ [] → AreSoFar plan 0 columns
so_far_none (Even width) columns fresh none = whole_none width columns fresh none
so_far_none (Laid ends) columns fresh none = λ order. made_none ends.items columns none

pub so_far_next : (plan : Plan) (n : ℕ) (columns : List Column) → AreSoFar plan n columns → IsLate plan (length columns) n → AreSoFar plan (n + 1) columns
so_far_next (Even width) n columns was late = whole_next width n columns was late
so_far_next (Laid ends) n columns was late = λ order. made_next ends.items n columns (all_made ends.items n columns order (was order) late)

pub so_far_more : (plan : Plan) (n : ℕ) (columns : List Column) (column : Column) → AreSoFar plan n columns → IsDue plan (length columns) n → HasRoom plan (length columns) n → column.end ≡ n → AreSoFar plan n (columns ++ column ∷ [])
so_far_more (Even width) n columns column was due room is = whole_more width n columns column was due room is
so_far_more (Laid ends) n columns column was due room is = λ order. made_more ends.items n due.0 columns column order (was order) due.1 due.2 is

pub has_room_more : (plan : Plan) (n : ℕ) (columns : List Column) → AreSoFar plan n columns → IsDue plan (length columns) n → HasRoom plan (length columns) n → HasRoom plan (length columns + 1) n
has_room_more (Even width) n columns was due room =
    let some : 0 < width = some_wide width was.exponent was.power in
    let more : (length columns + 1) * width ≡ length columns * width + width = next_end (length columns) width in
    room_more width n (length columns) some was.few was.next (omega arith) room
has_room_more (Laid ends) n columns was due room = tt

pub so_far_fold : (plan : Plan) (width n : ℕ) (old new : List Column) → AreSoFar plan n old → IsFull plan (length old) n width → 2 * length new ≤ length old → length old ≤ 2 * length new + 1
    → ((k : ℕ) → k < length new → slice_get new k ≡ slice_get old (2 * k + 1)) → AreSoFar (Even (width * 2)) n new
so_far_fold plan width n old new was full half whole each =
    whole_fold width n old new (subst (λ (p : Plan). AreSoFar p n old) full.even was) full.full full.more half whole each

-- how many ends are listed
abbrev pub listed : Plan → ℕ
listed (Even width) = 0
listed (Laid ends) = length ends.items

-- there are fewer columns than entries and listed ends
pub due_below : (plan : Plan) (n : ℕ) (columns : List Column) → AreSoFar plan n columns → IsDue plan (length columns) n → length columns < n + listed plan
due_below (Even width) n columns was due =
    let some : 1 ≤ width = some_wide width was.exponent was.power in
    let wide : (length columns + 1) * 1 ≤ (length columns + 1) * width = subst (λ m. m ≤ (length columns + 1) * width) (mul_comm 1 (length columns + 1)) (subst (λ m. 1 * (length columns + 1) ≤ m) (mul_comm width (length columns + 1)) (mul-le-mul_right (length columns + 1) some)) in
    omega arith
due_below (Laid ends) n columns was due = let within = slice_get_within ends.items (length columns) due.0 due.1 in omega arith

pub ended_shut : (plan : Plan) (n : ℕ) (columns : List Column) → AreSoFar plan n columns → IsLate plan (length columns) n → IsShut plan (length columns) n → AreEnded plan n columns
ended_shut (Even width) n columns was late shut = ended_whole width n columns was shut
ended_shut (Laid ends) n columns was late shut = λ order. all_made ends.items n columns order (was order) late

pub ended_open : (plan : Plan) (n : ℕ) (columns : List Column) (column : Column) → AreSoFar plan n columns → IsLate plan (length columns) n → IsOpen plan (length columns) n → HasRoom plan (length columns) n → column.end ≡ n → AreEnded plan n (columns ++ column ∷ [])
ended_open (Even width) n columns column was late behind room end = ended_part width n columns column was behind late room end
ended_open (Laid ends) n columns column was late behind room end = absurd behind

-- what the columns in the end are, of either
pub ended_even : (plan : Plan) (n : ℕ) (columns : List Column) → laid_by plan ≡ None → AreEnded plan n columns → AreEven n columns × IsSomeAnd (width_in plan) (IsWidth n)
ended_even (Even width) n columns none ended = (ended.1, ended.0)
ended_even (Laid ends) n columns none ended = absurd (let bad : ⊥ = cc in bad)

pub ended_laid : (plan : Plan) (n : ℕ) (columns : List Column) (ends : List ℕ) → laid_by plan ≡ Some ends → AreEnded plan n columns → AreInOrder ends → AreAllMade ends n columns
ended_laid (Even width) n columns ends laid ended order = absurd (let bad : ⊥ = cc in bad)
ended_laid (Laid listed) n columns ends laid ended order =
    let same : listed.items ≡ ends = cc in
    subst (λ es. AreAllMade es n columns) same (ended (subst AreInOrder (sym same) order))

-- where ends are listed, columns have no width
pub no_width : (plan : Plan) → IsSome (laid_by plan) → width_in plan ≡ None
no_width (Even width) laid = absurd (let bad : ⊥ = cc in bad)
no_width (Laid ends) laid = refl

-- columns that end where others do are laid out as these
pub ended_alike : (plan : Plan) (n : ℕ) (old new : List Column) → ends_of new ≡ ends_of old → AreEnded plan n old → AreEnded plan n new
ended_alike (Even width) n old new same ended = (
  ended.0,
  let even = ended.1 in
      record { layout = even.layout; is_layout = even.is_layout; ends = same ∙ even.ends },
)
ended_alike (Laid ends) n old new same ended = λ order.
    let count : length new ≡ length old =
    sym (length-map new (λ (x : Column). x.end)) ∙ ap length same ∙ length-map old (λ (x : Column). x.end) in
    let all = ended order in
    record {
      made = same ∙ all.made ∙ ap (λ m. take m ends.items) (sym count);
      later = λ k end l e. all.later k end (omega arith) e;
    }
