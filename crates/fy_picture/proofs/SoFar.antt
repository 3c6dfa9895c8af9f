-- the columns so far, as a caller sees them
use Rattle.std.proofs.Common.{◌≡◌, ◌∙◌, ◌+◌, ◌*◌, ◌<◌, ◌≤◌, ◌&&◌, ℕ, zero, suc, inl, inr, Bool, true, false, Option, Some, None, option_map, List, [], ◌∷◌, ◌++◌, length, nat_le, nat_lt, slice_get, refl, sym, ap, subst, arith, lt-ltb, if◌then◌else◌}
use Rattle.std.specs.Prelude.{IsSomeAnd}
use Rattle.std.proofs.lemmas.Bool.{and_from, and_right, cases_lt, le-leb, le-ltb, lt-leb}
use Rattle.std.proofs.lemmas.List.{map-append, length-map}
use Rattle.std.proofs.lemmas.Option.{slice_get-map}
use Rattle.fy_picture.specs.declared.column.Column.{Column}
use Rattle.fy_picture.specs.declared.layout.Plan.{Plan}
use Rattle.fy_picture.specs.declared.layout.Plan.TheVariants.{Even, Laid}
use Rattle.fy_picture.specs.declared.recorded.Recorded.{Recorded}
use Rattle.fy_picture.specs.Layouts.{HasRoom, IsDue, IsFresh, IsFull, IsLate, ends_of, laid_by, width_in}
use Rattle.fy_picture.specs.Recorded.{EndsColumn, columns_of}
use Rattle.fy_picture.specs.SoFar.{ColumnsSoFar, DueHaveEnded, HaveEnded, NextIsDue, columns_in, folded, is_full, no_columns, one_ended, seconds, with_ended, with_room}

-- the seconds of a list, told by their places
seconds_are : (xs ys : List ℕ) → 2 * length ys ≤ length xs → length xs ≤ 2 * length ys + 1 → ((k : ℕ) → k < length ys → slice_get ys k ≡ slice_get xs (2 * k + 1)) → ys ≡ seconds xs
seconds_are [] [] half whole each = refl
seconds_are [] (y ∷ ys) half whole each = absurd (omega arith)
seconds_are (a ∷ []) [] half whole each = refl
seconds_are (a ∷ []) (y ∷ ys) half whole each = absurd (omega arith)
seconds_are (a ∷ b ∷ xs) [] half whole each = absurd (omega arith)
seconds_are (a ∷ b ∷ xs) (y ∷ ys) half whole each =
    let first : Some y ≡ Some b = each 0 (omega arith) in
    let own : y ≡ b = cc in
    let rest : ys ≡ seconds xs =
    seconds_are xs ys (omega arith) (omega arith) (λ k l. each (suc k) (omega arith) ∙ ap (slice_get (a ∷ b ∷ xs)) (let e : 2 * suc k + 1 ≡ suc (suc (2 * k + 1)) = omega arith in e)) in
    ap (λ x. x ∷ ys) own ∙ ap (λ zs. b ∷ zs) rest

module _ (n : ℕ) (columns : List Column) where
  ends_count : length (ends_of columns) ≡ length columns
  ends_count = length-map columns (λ (x : Column). x.end)

  -- the next column is due where the code finds it so
  pub due_seen : (plan : Plan) → IsDue plan (length columns) n → NextIsDue n (columns_in plan columns)
  due_seen (Even width) due = subst (λ m. (m + 1) * width ≤ n) (sym ends_count) due
  due_seen (Laid ends) due =
      subst (λ m. IsSomeAnd (slice_get ends.items m) (λ end. end ≤ n)) (sym ends_count)
      (subst (λ o. IsSomeAnd o (λ end. end ≤ n)) (sym due.1) due.2)

  none_due : (o : Option ℕ) → ((end : ℕ) → o ≡ Some end → n < end) → IsSomeAnd o (λ end. end ≤ n) → ⊥
  none_due None late due = due
  none_due (Some end) late due = let l : n < end = late end refl in omega arith

  pub late_seen : (plan : Plan) → IsLate plan (length columns) n → NextIsDue n (columns_in plan columns) → ⊥
  late_seen (Even width) late due = let d : (length columns + 1) * width ≤ n = subst (λ m. (m + 1) * width ≤ n) ends_count due in omega arith
  late_seen (Laid ends) late due =
      none_due (slice_get ends.items (length columns)) late
      (subst (λ m. IsSomeAnd (slice_get ends.items m) (λ end. end ≤ n)) ends_count due)

  -- the columns are full where the code finds them so
  pub full_seen : (plan : Plan) (width : ℕ) → IsFull plan (length columns) n width → is_full n (columns_in plan columns) ≡ true
  full_seen plan width full =
      subst (λ (p : Plan). is_full n (columns_in p columns) ≡ true) (sym full.even)
      (and_from (nat_le 4000 (length (ends_of columns))) (nat_lt (4000 * width) n)
      (le-leb 4000 (length (ends_of columns)) (let f = full.full in let e = ends_count in omega arith))
      (lt-ltb (4000 * width) n full.more))

  pub room_seen : (plan : Plan) → HasRoom plan (length columns) n → is_full n (columns_in plan columns) ≡ false
  room_seen (Even width) (inl less) = ap (λ b. b && nat_lt (4000 * width) n) (lt-leb 4000 (length (ends_of columns)) (let e = ends_count in omega arith))
  room_seen (Even width) (inr enough) = and_right (nat_le 4000 (length (ends_of columns))) (nat_lt (4000 * width) n) (le-ltb (4000 * width) n enough)
  room_seen (Laid ends) room = refl

  -- and then each two are one
  pub fold_seen : (plan : Plan) (width : ℕ) (new : List Column) → IsFull plan (length columns) n width → 2 * length new ≤ length columns → length columns ≤ 2 * length new + 1
      → ((k : ℕ) → k < length new → slice_get new k ≡ slice_get columns (2 * k + 1)) → columns_in (Even (width * 2)) new ≡ with_room n (columns_in plan columns)
  fold_seen plan width new full half whole each =
      ap (λ es. let cs : ColumnsSoFar = record { laid = None; width = Some (width * 2); ends = es } in cs) ends
      ∙ ap (λ (p : Plan). folded (columns_in p columns)) (sym full.even)
      ∙ sym (ap (λ b. if b then folded (columns_in plan columns) else columns_in plan columns) (full_seen plan width full))
    where
      new_count : length (ends_of new) ≡ length new
      new_count = length-map new (λ (x : Column). x.end)

      ends : ends_of new ≡ seconds (ends_of columns)
      ends =
          seconds_are (ends_of columns) (ends_of new)
          (let c = ends_count in let m = new_count in omega arith) (let c = ends_count in let m = new_count in omega arith)
          (λ k l.
          slice_get-map (λ (x : Column). x.end) new k
          ∙ ap (option_map (λ (x : Column). x.end)) (each k (let m = new_count in omega arith))
          ∙ sym (slice_get-map (λ (x : Column). x.end) columns (2 * k + 1)))

  pub kept_seen : (plan : Plan) → HasRoom plan (length columns) n → columns_in plan columns ≡ with_room n (columns_in plan columns)
  kept_seen plan room = sym (ap (λ b. if b then folded (columns_in plan columns) else columns_in plan columns) (room_seen plan room))

  -- a column more
  more_seen : (plan : Plan) (column : Column) → column.end ≡ n → columns_in plan (columns ++ column ∷ []) ≡ one_ended n (columns_in plan columns)
  more_seen plan column is =
      ap (λ es. let cs : ColumnsSoFar = record { laid = laid_by plan; width = width_in plan; ends = es } in cs)
      (map-append (λ (x : Column). x.end) columns (column ∷ []) ∙ ap (λ e. ends_of columns ++ e ∷ []) is)

-- before any entry
pub fresh_seen : (plan : Plan) (columns : List Column) → IsFresh plan → columns ≡ [] → columns_in plan columns ≡ no_columns (laid_by plan)
fresh_seen (Even width) columns fresh none =
    ap (λ w. let cs : ColumnsSoFar = record { laid = None; width = Some w; ends = ends_of columns } in cs) fresh
    ∙ ap (λ (xs : List Column). let cs : ColumnsSoFar = record { laid = None; width = Some 1; ends = ends_of xs } in cs) none
fresh_seen (Laid ends) columns fresh none = ap (λ (xs : List Column). let cs : ColumnsSoFar = record { laid = Some ends.items; width = None; ends = ends_of xs } in cs) none

pub none_ended : (n : ℕ) (start now : ColumnsSoFar) → now ≡ start → HaveEnded n start now
none_ended n start now is = record { count = 0; new_is = is; each = λ k l. absurd (omega arith) }

-- one more that is due has ended
pub one_more_ended : (old new : Recorded) (n : ℕ) (start : ColumnsSoFar) → EndsColumn old new → IsDue old.plan (length old.columns.items) old.entries → old.entries ≡ n → HaveEnded n start (columns_of old) → HaveEnded n start (columns_of new)
one_more_ended old new n start ended due entries so_far =
    let due_now : NextIsDue n (columns_of old) = due_seen n old.columns.items old.plan (subst (IsDue old.plan (length old.columns.items)) entries due) in
    record {
      count = suc so_far.count;
      new_is =
          ap (λ (p : Plan). columns_in p new.columns.items) ended.same.plan
          ∙ ap (columns_in old.plan) ended.more
          ∙ more_seen n old.columns.items old.plan ended.column (ended.end ∙ entries)
          ∙ ap (one_ended n) so_far.new_is;
      each = λ k l. elim (cases_lt k so_far.count) [
        | inl less ↦ so_far.each k less
        | inr past ↦
            let own : so_far.count ≡ k = omega arith in
            subst (λ j. NextIsDue n (with_ended n j start)) own (subst (NextIsDue n) so_far.new_is due_now)
      ];
    }

-- the ends that are listed stay
pub with_room_laid : (n : ℕ) (cs : ColumnsSoFar) → (with_room n cs).laid ≡ cs.laid
with_room_laid n cs = by (is_full n cs)
  where
    by : (b : Bool) → (if b then folded cs else cs).laid ≡ cs.laid
    by true = refl
    by false = refl

with_ended_laid : (n count : ℕ) (cs : ColumnsSoFar) → (with_ended n count cs).laid ≡ cs.laid
with_ended_laid n zero cs = refl
with_ended_laid n (suc count) cs = with_ended_laid n count cs

pub laid_stays : (n : ℕ) (old new : ColumnsSoFar) → DueHaveEnded n old new → new.laid ≡ old.laid
laid_stays n old new due =
    ap (λ (cs : ColumnsSoFar). cs.laid) due.ended.new_is
    ∙ with_ended_laid n due.ended.count (with_room n old) ∙ with_room_laid n old
