-- the last line of an audit, and what stands before it
use Rattle.std.proofs.Common.{arith, ◌≡◌, ◌≤◌, ◌<◌, ◌∙◌, ℕ, ◌+◌, List, [], ◌∷◌, ◌++◌, length, drop, Option, Some, None, refl, sym, ap, subst, append_assoc, append-nil, length-append}
use Rattle.std.specs.Prelude.{IfSome, Err}
use Rattle.std.specs.List.{AllByRecursion}
use Rattle.std.specs.Io.KnownBytes.{Consumes, Appends}
use Rattle.std.proofs.KnownBytes.{Consumes-nil, Consumes-trans}
use Rattle.std.proofs.lemmas.List.{drop_at, flat_map_more}
use Rattle.fy_lines.specs.Lines.{IsLine}
use Rattle.fy_lines.specs.Prefixes.{AppendsProperPrefix}
use Rattle.fy_lines.specs.Readings.{ReadsAtMost}
use Rattle.fy_lines.specs.Windows.{WindowState, Slides, HoldsLine, HoldsLongLine, HoldsLast, IsCut}
use Rattle.fy_lines.specs.declared.input.InputFault.{InputFault}
use Rattle.fy_lines.specs.declared.input.InputFault.TheVariants.{TooLong, Reader, NoMemory}
use Rattle.fy_audit.specs.declared.audit.TheConstants.{MOST_AUDIT_BYTES}
use Rattle.fy_spelling.specs.declared.command.TheConstants.{MOST_LINE_BYTES}
use Rattle.fy_audit.specs.Audit.{AuditOf}
use Rattle.fy_check.specs.Inputs.{IsInputStop, input_stop}
use Rattle.fy_streams.specs.Stops.{IfAuditFault}
use Rattle.fy_streams.specs.declared.stop.Stop.{Stop}
use Rattle.fy_streams.specs.declared.stop.Stop.TheVariants.{Read, Write}
use Rattle.fy_guard.specs.Cuts.{with_feeds, IsShortLine, IsCutAt, IsCutLine, IsUncut, whole_text}

-- ---- lines before others

pub one_behind : (xs : List (List ℕ)) (line : List ℕ) → with_feeds (xs ++ line ∷ []) ≡ with_feeds xs ++ (line ++ 10 ∷ [])
one_behind xs line = sym (flat_map_more (λ line. line ++ 10 ∷ []) [] xs line)

each_behind : (xs : List (List ℕ)) (line : List ℕ) → AllByRecursion IsShortLine xs → IsShortLine line
    → AllByRecursion IsShortLine (xs ++ line ∷ [])
each_behind [] line each one = (one, tt)
each_behind (x ∷ xs) line each one = (each.0, each_behind xs line each.1 one)

-- ---- one way to take bytes apart

-- the first line of some
pub first_of : (x rest : List ℕ) (xs : List (List ℕ)) → with_feeds (x ∷ xs) ++ rest ≡ x ++ 10 ∷ (with_feeds xs ++ rest)
first_of x rest xs =
    append_assoc (x ++ 10 ∷ []) (with_feeds xs) rest ∙ append_assoc x (10 ∷ []) (with_feeds xs ++ rest)

no_feed : (x rest : List ℕ) → IsLine (x ++ 10 ∷ rest) → ⊥
no_feed [] rest is = is.0 refl
no_feed (b ∷ bs) rest is = no_feed bs rest is.1

head_same : (a b : ℕ) (xs ys : List ℕ) → a ∷ xs ≡ b ∷ ys → a ≡ b
head_same a b xs ys e = cc

tail_same : (a b : ℕ) (xs ys : List ℕ) → a ∷ xs ≡ b ∷ ys → xs ≡ ys
tail_same a b xs ys e = cc

record SameLine (x y r s : List ℕ) : Type 0 where
  line : x ≡ y
  rest : r ≡ s

same_line : (x y r s : List ℕ) → IsLine x → IsLine y → x ++ 10 ∷ r ≡ y ++ 10 ∷ s → SameLine x y r s
same_line [] [] r s p q e = record { line = refl; rest = tail_same 10 10 r s e }
same_line [] (b ∷ bs) r s p q e = absurd (q.0 (sym (head_same 10 b r (bs ++ 10 ∷ s) e)))
same_line (a ∷ cs) [] r s p q e = absurd (p.0 (head_same a 10 (cs ++ 10 ∷ r) s e))
same_line (a ∷ cs) (b ∷ bs) r s p q e =
    let next = same_line cs bs r s p.1 q.1 (tail_same a b (cs ++ 10 ∷ r) (bs ++ 10 ∷ s) e) in
    let first = head_same a b (cs ++ 10 ∷ r) (bs ++ 10 ∷ s) e in
    record { line = (λ i. first i ∷ next.line i); rest = next.rest }

record SameLines (xs ys : List (List ℕ)) (r s : List ℕ) : Type 0 where
  lines : xs ≡ ys
  rest : r ≡ s

same_lines : (xs ys : List (List ℕ)) (r s : List ℕ) → AllByRecursion IsShortLine xs → AllByRecursion IsShortLine ys
    → IsLine r → IsLine s → with_feeds xs ++ r ≡ with_feeds ys ++ s → SameLines xs ys r s
same_lines [] [] r s p q last other e = record { lines = refl; rest = e }
same_lines [] (y ∷ ys) r s p q last other e =
    absurd (no_feed y (with_feeds ys ++ s) (subst IsLine (e ∙ first_of y s ys) last))
same_lines (x ∷ xs) [] r s p q last other e =
    absurd (no_feed x (with_feeds xs ++ r) (subst IsLine (sym e ∙ first_of x r xs) other))
same_lines (x ∷ xs) (y ∷ ys) r s p q last other e =
    let one = same_line x y (with_feeds xs ++ r) (with_feeds ys ++ s) p.0.0 q.0.0 (sym (first_of x r xs) ∙ e ∙ first_of y s ys) in
    let next = same_lines xs ys r s p.1 q.1 last other one.rest in
    record { lines = (λ i. one.line i ∷ next.lines i); rest = next.rest }

-- a long line is none with its feed
not_short : (x r front more : List ℕ) → IsLine front → length x < length front → x ++ 10 ∷ r ≡ front ++ more → ⊥
not_short x r [] more is long e = absurd (omega arith)
not_short [] r (b ∷ bs) more is long e = is.0 (sym (head_same 10 b r (bs ++ more) e))
not_short (a ∷ cs) r (b ∷ bs) more is long e =
    not_short cs r bs more is.1 (omega arith) (tail_same a b (cs ++ 10 ∷ r) (bs ++ more) e)

-- where a line is too long, no later one is cut
long_is_none : (xs ys : List (List ℕ)) (half front more : List ℕ) → AllByRecursion IsShortLine xs → IsShortLine half
    → AllByRecursion IsShortLine ys → IsLine front → MOST_LINE_BYTES < length front
    → with_feeds xs ++ half ≡ with_feeds ys ++ (front ++ more) → ⊥
long_is_none [] [] half front more each short others is long e =
    let whole = ap length e in
    let parts = length-append front more in
    let few = short.1 in
    absurd (omega arith)
long_is_none [] (y ∷ ys) half front more each short others is long e =
    no_feed y (with_feeds ys ++ (front ++ more)) (subst IsLine (e ∙ first_of y (front ++ more) ys) short.0)
long_is_none (x ∷ xs) [] half front more each short others is long e =
    let few = each.0.1 in
    not_short x (with_feeds xs ++ half) front more is (omega arith) (sym (first_of x half xs) ∙ e)
long_is_none (x ∷ xs) (y ∷ ys) half front more each short others is long e =
    let one = same_line x y (with_feeds xs ++ half) (with_feeds ys ++ (front ++ more)) each.0.0 others.0.0
    (sym (first_of x half xs) ∙ e ∙ first_of y (front ++ more) ys) in
    long_is_none xs ys half front more each.1 short others.1 is long one.rest

-- bytes have one cut
pub record SameCut (number other whole more : ℕ) : Type 0 where
  pub number_is : number ≡ other
  pub whole_is : whole ≡ more

pub one_cut : (bytes : List ℕ) (number other whole more : ℕ) → IsCutAt bytes number whole → IsCutAt bytes other more
    → SameCut number other whole more
one_cut bytes number other whole more one two =
    let same = same_lines one.lines two.lines one.half two.half one.each two.each one.short.0 two.short.0 (sym one.split ∙ two.split) in
    record {
      number_is = one.at ∙ ap (λ (l : List (List ℕ)). length l + 1) same.lines ∙ sym two.at;
      whole_is = one.before ∙ ap (λ l. length (with_feeds l)) same.lines ∙ sym two.before;
    }

-- ---- taking one line after another

-- of the known bytes, of which these are left, the lines before this one were taken, so many bytes
pub record HasDropped (known left : Option (List ℕ)) (window : WindowState) (number whole : ℕ) : Type 0 where
  pub lines : List (List ℕ)
  pub front : Consumes known left (with_feeds lines ++ window.held)
  pub counted : window.read ≡ whole + length window.held
  pub within : window.read ≤ MOST_AUDIT_BYTES
  pub each : AllByRecursion IsShortLine lines
  pub at : number ≡ length lines + 1
  pub before : whole ≡ length (with_feeds lines)
  pub few : number ≤ whole + 1

pub none_dropped : (known : Option (List ℕ)) (window : WindowState) → window.held ≡ [] → window.read ≡ 0
    → HasDropped known known window 1 0
none_dropped known window none zero =
    let long = ap length none in
    record {
      lines = [];
      front = subst (Consumes known known) (sym none) (Consumes-nil known);
      counted = omega arith;
      within = omega arith;
      each = tt;
      at = refl;
      before = refl;
      few = omega arith;
    }

pub slid : (known before left : Option (List ℕ)) (old new : WindowState) (number whole : ℕ)
    → HasDropped known before old number whole → Slides old new before left → new.read ≤ MOST_AUDIT_BYTES
    → HasDropped known left new number whole
slid known before left old new number whole taken slides within =
    let front = Consumes-trans known before left (with_feeds taken.lines ++ old.held) slides.more taken.front slides.consumed in
    let joined : (with_feeds taken.lines ++ old.held) ++ slides.more ≡ with_feeds taken.lines ++ new.held =
    append_assoc (with_feeds taken.lines) old.held slides.more ∙ ap (λ l. with_feeds taken.lines ++ l) (sym slides.held) in
    let one = taken.counted in
    let two = slides.counted in
    let held = ap length slides.held in
    let parts = length-append old.held slides.more in
    record {
      lines = taken.lines;
      front = subst (Consumes known left) joined front;
      counted = omega arith;
      within = within;
      each = taken.each;
      at = taken.at;
      before = taken.before;
      few = taken.few;
    }

pub one_dropped : (known left : Option (List ℕ)) (old new : WindowState) (number whole count : ℕ)
    → HasDropped known left old number whole → HoldsLine old.held count → count ≤ MOST_LINE_BYTES
    → new.held ≡ drop (count + 1) old.held → new.read ≡ old.read
    → HasDropped known left new (number + 1) (whole + (count + 1))
one_dropped known left old new number whole count taken holds short dropped same =
    let line = holds.line in
    let counted = taken.counted in
    let ended = length-append line (10 ∷ []) in
    let long = holds.long in
    let split : old.held ≡ (line ++ 10 ∷ []) ++ holds.after = holds.split ∙ sym (append_assoc line (10 ∷ []) holds.after) in
    let parts = length-append (line ++ 10 ∷ []) holds.after in
    let was = ap length split in
    let is : new.held ≡ holds.after =
    dropped ∙ ap (drop (count + 1)) split ∙ drop_at (line ++ 10 ∷ []) holds.after (count + 1) (omega arith) in
    let left_over = ap length is in
    let more = one_behind taken.lines line in
    let joined : with_feeds taken.lines ++ old.held ≡ with_feeds (taken.lines ++ line ∷ []) ++ new.held =
    ap (λ l. with_feeds taken.lines ++ l) (split ∙ ap (λ l. (line ++ 10 ∷ []) ++ l) (sym is))
    ∙ sym (append_assoc (with_feeds taken.lines) (line ++ 10 ∷ []) new.held)
    ∙ ap (λ l. l ++ new.held) (sym more) in
    let grown = ap length more in
    let both = length-append (with_feeds taken.lines) (line ++ 10 ∷ []) in
    let one_more = length-append taken.lines (line ∷ []) in
    let within = taken.within in
    let at = taken.at in
    let before = taken.before in
    let few = taken.few in
    record {
      lines = taken.lines ++ line ∷ [];
      front = subst (Consumes known left) joined taken.front;
      counted = omega arith;
      within = omega arith;
      each = each_behind taken.lines line taken.each (holds.whole, omega arith);
      at = omega arith;
      before = omega arith;
      few = omega arith;
    }

-- ---- what is found

pub found : (known left : Option (List ℕ)) (window : WindowState) (number whole count : ℕ)
    → HasDropped known left window number whole → HoldsLast window.held left count → count ≤ MOST_LINE_BYTES → 0 < count
    → IfSome known (λ bytes. IsCutAt bytes number whole)
found None left window number whole count taken last short some = tt
found (Some bytes) None window number whole count taken last short some = absurd taken.front
found (Some bytes) (Some rest) window number whole count taken last short some =
    let long = last.long in
    record {
      lines = taken.lines;
      half = window.held;
      split = taken.front ∙ ap (λ l. (with_feeds taken.lines ++ window.held) ++ l) last.end ∙ append-nil _;
      each = taken.each;
      short = (last.whole, omega arith);
      some = omega arith;
      at = taken.at;
      before = taken.before;
    }

empty : (xs : List ℕ) → length xs ≡ 0 → xs ≡ []
empty [] none = refl
empty (x ∷ xs) none = absurd (omega arith)

pub none_left : (known left : Option (List ℕ)) (window : WindowState) (number whole count : ℕ)
    → HasDropped known left window number whole → HoldsLast window.held left count → count ≡ 0 → IfSome known IsUncut
none_left None left window number whole count taken last zero = tt
none_left (Some bytes) None window number whole count taken last zero = absurd taken.front
none_left (Some bytes) (Some rest) window number whole count taken last zero = λ other (more, cut).
    let none = empty window.held (last.long ∙ zero) in
    let all : bytes ≡ with_feeds taken.lines ++ window.held =
    taken.front ∙ ap (λ l. (with_feeds taken.lines ++ window.held) ++ l) last.end ∙ append-nil _ in
    let same = same_lines cut.lines taken.lines cut.half window.held cut.each taken.each cut.short.0 last.whole (sym cut.split ∙ all) in
    let some = cut.some in
    let long = ap length (same.rest ∙ none) in
    absurd (omega arith)

pub none_behind : (known left : Option (List ℕ)) (window : WindowState) (number whole : ℕ)
    → HasDropped known left window number whole → HoldsLongLine window.held MOST_LINE_BYTES → IfSome known IsUncut
none_behind None left window number whole taken holds = tt
none_behind (Some bytes) None window number whole taken holds = absurd taken.front
none_behind (Some bytes) (Some rest) window number whole taken holds = λ other (more, cut).
    let all : bytes ≡ with_feeds taken.lines ++ (holds.front ++ (holds.after ++ rest)) =
    taken.front ∙ append_assoc (with_feeds taken.lines) window.held rest
    ∙ ap (λ l. with_feeds taken.lines ++ l)
    (ap (λ l. l ++ rest) holds.split ∙ append_assoc holds.front holds.after rest) in
    long_is_none cut.lines taken.lines cut.half holds.front (holds.after ++ rest) cut.each cut.short taken.each holds.whole
    holds.long (sym cut.split ∙ all)

-- ---- how much is read

pub reads : (known before left : Option (List ℕ)) (old new : WindowState) (number whole most : ℕ)
    → HasDropped known before old number whole → Slides old new before left → new.read ≤ most → ReadsAtMost known left most
reads known before left old new number whole most taken slides few =
    let read = with_feeds taken.lines ++ old.held in
    let counted = taken.counted in
    let more = slides.counted in
    let bytes = taken.before in
    let parts = length-append (with_feeds taken.lines) old.held in
    let both = length-append read slides.more in
    (read ++ slides.more, Consumes-trans known before left read slides.more taken.front slides.consumed, omega arith)

pub most_read : (read : ℕ) (why : InputFault) → IsCut read MOST_AUDIT_BYTES why → read ≤ MOST_AUDIT_BYTES + 1
most_read read TooLong cut = omega arith
most_read read Reader cut = omega arith
most_read read NoMemory cut = absurd cut

pub unread : (read : ℕ) (why : InputFault) → IsCut read MOST_AUDIT_BYTES why → input_stop why ≡ Read → read ≤ MOST_AUDIT_BYTES
unread read TooLong cut is = cc
unread read Reader cut is = cut
unread read NoMemory cut is = absurd cut

-- more was read than an audit may have
past : (known before left : Option (List ℕ)) (old new : WindowState) (number whole : ℕ)
    → HasDropped known before old number whole → Slides old new before left → new.read ≡ MOST_AUDIT_BYTES + 1
    → IfSome known (λ bytes. MOST_AUDIT_BYTES < length bytes)
past None before left old new number whole taken slides read = tt
past (Some bytes) None left old new number whole taken slides read = absurd taken.front
past (Some bytes) (Some rest) None old new number whole taken slides read = absurd slides.consumed
past (Some bytes) (Some rest) (Some last) old new number whole taken slides read =
    let counted = taken.counted in
    let more = slides.counted in
    let front = ap length taken.front in
    let back = ap length slides.consumed in
    let before = taken.before in
    let one = length-append (with_feeds taken.lines ++ old.held) rest in
    let two = length-append (with_feeds taken.lines) old.held in
    let three = length-append slides.more last in
    omega arith

pub refused : (known before left : Option (List ℕ)) (old new : WindowState) (number whole : ℕ) (why : InputFault)
    → HasDropped known before old number whole → Slides old new before left → IsCut new.read MOST_AUDIT_BYTES why
    → IfAuditFault (input_stop why) (λ fault. IfSome known (λ bytes. AuditOf bytes (Err fault)))
refused known before left old new number whole TooLong taken slides cut = past known before left old new number whole taken slides cut
refused known before left old new number whole Reader taken slides cut = tt
refused known before left old new number whole NoMemory taken slides cut = absurd cut

-- ---- what is told of a line

-- the line that was found is this one
pub told_cut : (known old new : Option (List ℕ)) (line number whole : ℕ)
    → IfSome known (λ bytes. IsCutAt bytes line whole) → line ≡ number → Appends old new (whole_text whole)
    → IfSome known (λ bytes. (other : ℕ) → IsCutAt bytes number other → Appends old new (whole_text other))
told_cut None old new line number whole cut is told = tt
told_cut (Some bytes) old new line number whole cut is told = λ other its.
    subst (λ w. Appends old new (whole_text w)) (one_cut bytes line number whole other cut its).whole_is told

pub told_is_cut : (known : Option (List ℕ)) (line number whole : ℕ) (P : Type 0)
    → IfSome known (λ bytes. IsCutAt bytes line whole) → line ≡ number
    → IfSome known (λ bytes. ¬ IsCutLine bytes number → P)
told_is_cut None line number whole P cut is = tt
told_is_cut (Some bytes) line number whole P cut is = λ none.
    absurd (none (whole, subst (λ n. IsCutAt bytes n whole) is cut))

pub told_front : (known old new : Option (List ℕ)) (line number whole : ℕ)
    → IfSome known (λ bytes. IsCutAt bytes line whole) → line ≡ number → AppendsProperPrefix old new (whole_text whole)
    → IfSome known (λ bytes. (other : ℕ) × IsCutAt bytes number other × AppendsProperPrefix old new (whole_text other))
told_front None old new line number whole cut is told = tt
told_front (Some bytes) old new line number whole cut is told =
    (whole, subst (λ n. IsCutAt bytes n whole) is cut, told)

-- the line that was found is another
pub other_cut : (known : Option (List ℕ)) (line number whole : ℕ) (P : ℕ → Type 0)
    → IfSome known (λ bytes. IsCutAt bytes line whole) → (line ≡ number → ⊥)
    → IfSome known (λ bytes. (other : ℕ) → IsCutAt bytes number other → P other)
other_cut None line number whole P cut apart = tt
other_cut (Some bytes) line number whole P cut apart = λ other its.
    absurd (apart (one_cut bytes line number whole other cut its).number_is)

-- none was found
pub no_cut : (known : Option (List ℕ)) (number : ℕ) (P : ℕ → Type 0) → IfSome known IsUncut
    → IfSome known (λ bytes. (other : ℕ) → IsCutAt bytes number other → P other)
no_cut None number P none = tt
no_cut (Some bytes) number P none = λ other its. absurd (none number (other, its))

-- nothing was written
pub untold : (known old : Option (List ℕ)) (number : ℕ) → IfSome known (λ bytes. ¬ IsCutLine bytes number → old ≡ old)
untold None old number = tt
untold (Some bytes) old number = λ none. refl

pub no_write : (stop : Stop) → IsInputStop stop → stop ≡ Write → ⊥
no_write stop own is = subst IsInputStop is own
