-- a record that was told, and is lost since
use Rattle.std.proofs.Common.{◌≡◌, ◌+◌, ◌∙◌, ℕ, Bool, true, false, ◌&&◌, not, Option, Some, None, refl, sym, ap, arith}
use Rattle.std.specs.Prelude.{Contains, nat_lt}
use Rattle.std.proofs.lemmas.Bool.{false≢true}
use Rattle.fy_history.specs.declared.history.Place.{Place}
use Rattle.fy_history.specs.declared.history.Write.{Write}
use Rattle.fy_records.specs.declared.seen.Seen.{Seen}
use Rattle.fy_records.specs.Reads.{tells, is_before, ended_before}
use Rattle.fy_records.specs.Lines.{Lines, reads_of, some_read}
use Rattle.fy_records.specs.Verdicts.{IsToldAt}
use Rattle.fy_records.specs.Counted.{is_first_told, is_gone_since, is_gone, is_lost_since}
use Rattle.fy_records.proofs.Finding.{passes_there}
use Rattle.fy_records.proofs.Chunks.{none_passes}

-- a read shows that the record is gone
shows_gone : Lines → Write → Seen → Bool
shows_gone h write first = tells write.value first && is_gone_since h write first.read.ended

-- where no read ended that told it, none shows it
pub none_told : (h : Lines) (write : Write) → ((line : ℕ) → false ≡ some_read h write.key (λ seen. tells write.value seen && ended_before line seen))
    → false ≡ is_gone h write
none_told h write none =
    sym (none_passes (λ first. tells write.value first && is_gone_since h write first.read.ended) (reads_of h write.key) (λ s at. by s at (tells write.value s) refl s.read.ended refl))
  where
    by : (s : Seen) → Contains (reads_of h write.key) s → (b : Bool) → tells write.value s ≡ b → (e : Option Place) → s.read.ended ≡ e
        → (b && is_gone_since h write e) ≡ false
    by s at false told e ended = refl
    by s at true told None ended = refl
    by s at true told (Some place) ended =
        let before : nat_lt place.line (place.line + 1) ≡ true = grind (arith) in
        let holds : (tells write.value s && ended_before (place.line + 1) s) ≡ true =
        ap (λ b. b && ended_before (place.line + 1) s) told ∙ ap (λ (e : Option Place). is_before (place.line + 1) e) ended ∙ before in
        absurd (false≢true (none (place.line + 1) ∙ passes_there (λ seen. tells write.value seen && ended_before (place.line + 1) seen) (reads_of h write.key) s at holds))

-- only the line counts from which on it is lost
same_line : (h : Lines) (write : Write) (a b : Place) → a.line ≡ b.line → is_lost_since h write a ≡ is_lost_since h write b
same_line h write a b e = ap (λ n. is_lost_since h write (let p : Place = record { line = n; nanos = 0 } in p)) e

-- where a read was the first that ended and told it, it is gone where it is lost since
pub gone_is : (h : Lines) (write : Write) (told : Place)
    → ((line : ℕ) → nat_lt told.line line ≡ some_read h write.key (λ seen. tells write.value seen && ended_before line seen))
    → IsToldAt (reads_of h write.key) write.value (Some told) → is_lost_since h write told ≡ is_gone h write
gone_is h write told before (first, there, told_it, ended) = by (is_lost_since h write told) refl
  where
    test : Seen → Bool
    test s = tells write.value s && is_gone_since h write s.read.ended

    is_first : is_first_told (some_read h write.key) write.value told ≡ true
    is_first = ap not (sym (before told.line)) ∙ grind (arith)

    other : (s : Seen) → Contains (reads_of h write.key) s → is_lost_since h write told ≡ false → (b : Bool) → tells write.value s ≡ b → (e : Option Place) → s.read.ended ≡ e
        → (b && is_gone_since h write e) ≡ false
    other s at kept false tells_it e is = refl
    other s at kept true tells_it None is = refl
    other s at kept true tells_it (Some place) is =
        let holds : (tells write.value s && ended_before (place.line + 1) s) ≡ true =
        ap (λ b. b && ended_before (place.line + 1) s) tells_it ∙ ap (λ (e : Option Place). is_before (place.line + 1) e) is ∙ grind (arith) in
        let late : nat_lt told.line (place.line + 1) ≡ true =
        before (place.line + 1) ∙ passes_there (λ seen. tells write.value seen && ended_before (place.line + 1) seen) (reads_of h write.key) s at holds in
        late_or_same place late (nat_lt told.line place.line) refl
      where
        late_or_same : (place : Place) → nat_lt told.line (place.line + 1) ≡ true → (b : Bool) → nat_lt told.line place.line ≡ b → is_gone_since h write (Some place) ≡ false
        late_or_same place late true e =
            ap (λ b. not b && is_lost_since h write place) (sym (before place.line) ∙ e)
        late_or_same place late false e =
            let same : place.line ≡ told.line = grind (arith, late, e) in
            ap (λ b. is_first_told (some_read h write.key) write.value place && b) (same_line h write place told same ∙ kept) ∙ and_none (is_first_told (some_read h write.key) write.value place)
          where
            and_none : (b : Bool) → (b && false) ≡ false
            and_none true = refl
            and_none false = refl

    by : (b : Bool) → is_lost_since h write told ≡ b → b ≡ is_gone h write
    by true lost =
        sym (passes_there (λ first. tells write.value first && is_gone_since h write first.read.ended) (reads_of h write.key) first there
        (ap (λ b. b && is_gone_since h write first.read.ended) told_it
        ∙ ap (λ (e : Option Place). is_gone_since h write e) ended
        ∙ ap (λ b. b && is_lost_since h write told) is_first ∙ lost))
    by false kept =
        sym (none_passes (λ first. tells write.value first && is_gone_since h write first.read.ended) (reads_of h write.key) (λ s at. other s at kept (tells write.value s) refl s.read.ended refl))
