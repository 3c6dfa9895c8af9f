-- bytes are one audit, or have one first fault
use Rattle.std.proofs.Common.{◌≡◌, ◌∙◌, ℕ, suc, ◌+◌, ◌==◌, true, false, slice_index, List, [], ◌∷◌, ◌++◌, length, Result, Ok, Err, refl, sym, ap, subst, arith, append_assoc, append-nil}
use Rattle.std.specs.List.{flat_map}
use Rattle.std.proofs.lemmas.Bool.{false≢true}
use Rattle.fy_lines.specs.Lines.{lines_of}
use Rattle.fy_spelling.specs.OneText.{OneEntryPerText, TextsAreLines}
use Rattle.fy_spelling.specs.Values.{text_of}
use Rattle.fy_acts.specs.declared.entry.Entry.{Entry}
use Rattle.fy_audit.specs.Audit.{Audit, MayStand, MayStandFrom, BeginsWithNone, BeginsFaulty, FirstFaulty, HasNoHeader, AuditOf}
use Rattle.fy_audit.specs.AuditText.{header, entry_line, audit_text}
use Rattle.fy_audit.specs.declared.audit.AuditFault.{AuditFault}
use Rattle.fy_audit.specs.declared.audit.AuditFault.TheVariants.{TooLong, Line, NoMemory}
use Rattle.fy_audit.specs.declared.audit.AuditLineFault.{AuditLineFault}
use Rattle.fy_audit.specs.declared.audit.AuditLineFault.TheVariants as of_line
use Rattle.fy_acts.specs.declared.version.Version.{Version}
use Rattle.fy_acts.specs.declared.version.Version.TheVariants.{First, Second}
use Rattle.fy_audit.proofs.Ones.{line_once}
use Rattle.fy_audit.proofs.Steps.{spread, first_is, shorter_after}

none_at_end : (version : Version) (place : ℕ) → BeginsWithNone version place []
none_at_end version place e more begins =
    let some : 0 ≡ length (entry_line e ++ more) = ap length begins.split in
    let less = shorter_after [] more e begins.split in
    omega arith

none_at_fault :
    TextsAreLines → (version : Version) (place : ℕ) (rest : List ℕ) (fault : AuditLineFault)
    → BeginsFaulty version place rest fault → BeginsWithNone version place rest
none_at_fault lines version place rest of_line.Header faulty e more begins = faulty.is
none_at_fault lines version place rest of_line.TooLong faulty e more begins =
    let same = first_is lines version place rest faulty.line more faulty.after e begins faulty.first in
    let long = faulty.is in
    let short = begins.may.short in
    let equal = ap length same in
    omega arith
none_at_fault lines version place rest of_line.Syntax faulty e more begins = faulty.is.1 e more begins

-- the first entry's line in front of the others
opened : (e : Entry) (es : List Entry) (rest : List ℕ) →
    flat_map entry_line (e ∷ es) ++ rest ≡ entry_line e ++ (flat_map entry_line es ++ rest)
opened e es rest = append_assoc (entry_line e) (flat_map entry_line es) rest

-- as far as a reader gets it gets in one way
together :
    OneEntryPerText → TextsAreLines → (v : Version) (p m n : ℕ) (xs ys : List Entry) (r q : List ℕ)
    → MayStandFrom v p xs → MayStandFrom v p ys → m ≡ p + length xs → n ≡ p + length ys
    → BeginsWithNone v m r → BeginsWithNone v n q → flat_map entry_line xs ++ r ≡ flat_map entry_line ys ++ q
    → (xs ≡ ys) × (r ≡ q)
together one lines v p m n [] [] r q all these is so stuck held same = (refl, same)
together one lines v p m n [] (y ∷ ys) r q all these is so stuck held same =
    let place : p ≡ m = omega arith in
    absurd (stuck y _ (record {
      split = same ∙ opened y ys q;
      may = subst (λ k. MayStand v k y) place these.0;
    }))
together one lines v p m n (x ∷ xs) [] r q all these is so stuck held same =
    let place : p ≡ n = omega arith in
    absurd (held x _ (record {
      split = sym same ∙ opened x xs r;
      may = subst (λ k. MayStand v k x) place all.0;
    }))
together one lines v p m n (x ∷ xs) (y ∷ ys) r q all these is so stuck held same =
    let here = opened x xs r ∙ spread x (flat_map entry_line xs ++ r) in
    let there = opened y ys q ∙ spread y (flat_map entry_line ys ++ q) in
    let found = line_once (text_of x) (text_of y) _ _ (lines x all.0.fits) (lines y these.0.fits)
    (sym here ∙ same ∙ there) in
    let first = one x y all.0.fits these.0.fits found.0 in
    let rest = together one lines v (suc p) m n xs ys r q all.1 these.1 (omega arith) (omega arith)
    stuck held found.1 in
    (λ i. first i ∷ rest.0 i, rest.1)

-- a header is of one version
headed : (v w : Version) (r q : List ℕ) → header v ++ r ≡ header w ++ q → (v ≡ w) × (r ≡ q)
headed First First r q same = (refl, let e : r ≡ q = cc in e)
headed Second Second r q same = (refl, let e : r ≡ q = cc in e)
headed First Second r q same =
    let bad : true ≡ false = ap (λ text. slice_index text 9 == 49) same in
    absurd (false≢true (sym bad))
headed Second First r q same =
    let bad : false ≡ true = ap (λ text. slice_index text 9 == 49) same in
    absurd (false≢true bad)

record Alike (v w : Version) (xs ys : List Entry) (r q : List ℕ) : Type 0 where
  version : v ≡ w
  entries : xs ≡ ys
  rest : r ≡ q

-- two readings of the same bytes that get no further are alike
alike :
    OneEntryPerText → TextsAreLines → (bytes : List ℕ) (v w : Version) (xs ys : List Entry) (r q : List ℕ)
    → bytes ≡ audit_text v xs ++ r → bytes ≡ audit_text w ys ++ q
    → MayStandFrom v 0 xs → MayStandFrom w 0 ys → BeginsWithNone v (length xs) r → BeginsWithNone w (length ys) q
    → Alike v w xs ys r q
alike one lines bytes v w xs ys r q first second all these stuck held =
    let here = append_assoc (header v) (flat_map entry_line xs) r in
    let there = append_assoc (header w) (flat_map entry_line ys) q in
    let head = headed v w _ _ (sym here ∙ sym first ∙ second ∙ there) in
    let back = sym head.0 in
    let found = together one lines v 0 (length xs) (length ys) xs ys r q all
    (subst (λ u. MayStandFrom u 0 ys) back these) (omega arith) (omega arith) stuck
    (subst (λ u. BeginsWithNone u (length ys) q) back held) head.1 in
    record { version = head.0; entries = found.0; rest = found.1 }

-- an audit is a reading that leaves nothing
left_none : (bytes text : List ℕ) → bytes ≡ text → bytes ≡ text ++ []
left_none bytes text is = is ∙ sym (append-nil text)

read_once :
    OneEntryPerText → TextsAreLines → (bytes : List ℕ) (a b : Audit)
    → AuditOf bytes (Ok a) → AuditOf bytes (Ok b) → a ≡ b
read_once one lines bytes a b p q =
    let same = alike one lines bytes a.version b.version a.entries b.entries [] []
    (left_none bytes (audit_text a.version a.entries) p.1) (left_none bytes (audit_text b.version b.entries) q.1)
    p.2 q.2 (none_at_end a.version (length a.entries)) (none_at_end b.version (length b.entries)) in
    λ i. record { version = same.version i; entries = same.entries i }

not_faulty :
    OneEntryPerText → TextsAreLines → (bytes : List ℕ) (a : Audit) (n : ℕ) (f : AuditLineFault)
    → AuditOf bytes (Ok a) → FirstFaulty bytes n f → ⊥
not_faulty one lines bytes a n f p q =
    let same = alike one lines bytes a.version q.version a.entries q.entries [] q.rest
    (left_none bytes (audit_text a.version a.entries) p.1) q.split p.2 q.faultless
    (none_at_end a.version (length a.entries))
    (none_at_fault lines q.version (length q.entries) q.rest f q.here) in
    let first = q.here.first in
    let none = same.rest in
    let no : ⊥ = cc in no

headless : (bytes : List ℕ) (v : Version) (xs : List Entry) (r : List ℕ) → HasNoHeader bytes →
    bytes ≡ audit_text v xs ++ r → ⊥
headless bytes v xs r none is =
    none v (flat_map entry_line xs ++ r) (is ∙ append_assoc (header v) (flat_map entry_line xs) r)

same_line : (l m : List ℕ) (a z : List (List ℕ)) → l ∷ a ≡ m ∷ z → l ≡ m
same_line l m a z e = cc

record SameStop (n m : ℕ) (f g : AuditLineFault) : Type 0 where
  number : n ≡ m
  fault : f ≡ g

one_fault : (f g : AuditLineFault) (n m : ℕ) (bytes : List ℕ) (p : FirstFaulty bytes n f)
    (q : FirstFaulty bytes m g) → p.here.line ≡ q.here.line → f ≡ g
one_fault of_line.Header g n m bytes p q same = absurd p.here.is
one_fault of_line.TooLong of_line.Header n m bytes p q same = absurd q.here.is
one_fault of_line.TooLong of_line.TooLong n m bytes p q same = refl
one_fault of_line.TooLong of_line.Syntax n m bytes p q same =
    let long = p.here.is in
    let short = q.here.is.0 in
    let equal = ap length same in
    absurd (omega arith)
one_fault of_line.Syntax of_line.Header n m bytes p q same = absurd q.here.is
one_fault of_line.Syntax of_line.TooLong n m bytes p q same =
    let long = q.here.is in
    let short = p.here.is.0 in
    let equal = ap length same in
    absurd (omega arith)
one_fault of_line.Syntax of_line.Syntax n m bytes p q same = refl

one_stop :
    OneEntryPerText → TextsAreLines → (bytes : List ℕ) (n m : ℕ) (f g : AuditLineFault)
    → FirstFaulty bytes n f → FirstFaulty bytes m g → SameStop n m f g
one_stop one lines bytes n m f g p q =
    let same = alike one lines bytes p.version q.version p.entries q.entries p.rest q.rest
    p.split q.split p.faultless q.faultless
    (none_at_fault lines p.version (length p.entries) p.rest f p.here)
    (none_at_fault lines q.version (length q.entries) q.rest g q.here) in
    let first = sym p.here.first ∙ ap lines_of same.rest ∙ q.here.first in
    let line = same_line p.here.line q.here.line p.here.after q.here.after first in
    record {
      number = p.place ∙ ap (λ (es : List Entry). length es + 2) same.entries ∙ sym q.place;
      fault = one_fault f g n m bytes p q line;
    }

faults : (n m : ℕ) (f g : AuditLineFault) → n ≡ m → f ≡ g →
    ◌≡◌ {A = Result Audit AuditFault} (Err (Line n f)) (Err (Line m g))
faults n m f g number fault i = Err (Line (number i) (fault i))

stopped : (bytes : List ℕ) (n m : ℕ) (f g : AuditLineFault) → SameStop n m f g →
    ◌≡◌ {A = Result Audit AuditFault} (Err (Line n f)) (Err (Line m g))
stopped bytes n m f g same = faults n m f g same.number same.fault

-- a line's fault is told once
line_fault_once :
    OneEntryPerText → TextsAreLines → (bytes : List ℕ) (n m : ℕ) (f g : AuditLineFault)
    → AuditOf bytes (Err (Line n f)) → AuditOf bytes (Err (Line m g))
    → ◌≡◌ {A = Result Audit AuditFault} (Err (Line n f)) (Err (Line m g))
line_fault_once one lines bytes n m of_line.Header of_line.Header p q =
    faults n m of_line.Header of_line.Header (p.1.0 ∙ sym q.1.0) refl
line_fault_once one lines bytes n m of_line.Header of_line.TooLong p q =
    absurd (headless bytes q.1.version q.1.entries q.1.rest p.1.1 q.1.split)
line_fault_once one lines bytes n m of_line.Header of_line.Syntax p q =
    absurd (headless bytes q.1.version q.1.entries q.1.rest p.1.1 q.1.split)
line_fault_once one lines bytes n m of_line.TooLong of_line.Header p q =
    absurd (headless bytes p.1.version p.1.entries p.1.rest q.1.1 p.1.split)
line_fault_once one lines bytes n m of_line.TooLong of_line.TooLong p q =
    stopped bytes n m _ _ (one_stop one lines bytes n m of_line.TooLong of_line.TooLong p.1 q.1)
line_fault_once one lines bytes n m of_line.TooLong of_line.Syntax p q =
    stopped bytes n m _ _ (one_stop one lines bytes n m of_line.TooLong of_line.Syntax p.1 q.1)
line_fault_once one lines bytes n m of_line.Syntax of_line.Header p q =
    absurd (headless bytes p.1.version p.1.entries p.1.rest q.1.1 p.1.split)
line_fault_once one lines bytes n m of_line.Syntax of_line.TooLong p q =
    stopped bytes n m _ _ (one_stop one lines bytes n m of_line.Syntax of_line.TooLong p.1 q.1)
line_fault_once one lines bytes n m of_line.Syntax of_line.Syntax p q =
    stopped bytes n m _ _ (one_stop one lines bytes n m of_line.Syntax of_line.Syntax p.1 q.1)

-- bytes with a faulty line are no audit
no_audit :
    OneEntryPerText → TextsAreLines → (bytes : List ℕ) (a : Audit) (n : ℕ) (f : AuditLineFault)
    → AuditOf bytes (Ok a) → AuditOf bytes (Err (Line n f)) → ⊥
no_audit one lines bytes a n of_line.Header p q =
    headless bytes a.version a.entries [] q.1.1 (left_none bytes (audit_text a.version a.entries) p.1)
no_audit one lines bytes a n of_line.TooLong p q = not_faulty one lines bytes a n of_line.TooLong p q.1
no_audit one lines bytes a n of_line.Syntax p q = not_faulty one lines bytes a n of_line.Syntax p q.1

pub answer_once :
    OneEntryPerText → TextsAreLines → (bytes : List ℕ) (x y : Result Audit AuditFault)
    → AuditOf bytes x → AuditOf bytes y → x ≡ y
answer_once one lines bytes (Ok a) (Ok b) p q = ap Ok (read_once one lines bytes a b p q)
answer_once one lines bytes (Ok a) (Err TooLong) p q = absurd (omega (arith, p.0, q))
answer_once one lines bytes (Ok a) (Err (Line n f)) p q = absurd (no_audit one lines bytes a n f p q)
answer_once one lines bytes (Ok a) (Err NoMemory) p q = absurd q
answer_once one lines bytes (Err TooLong) (Ok b) p q = absurd (omega (arith, q.0, p))
answer_once one lines bytes (Err TooLong) (Err TooLong) p q = refl
answer_once one lines bytes (Err TooLong) (Err (Line n f)) p q = absurd (omega (arith, q.0, p))
answer_once one lines bytes (Err TooLong) (Err NoMemory) p q = absurd q
answer_once one lines bytes (Err (Line n f)) (Ok b) p q = absurd (no_audit one lines bytes b n f q p)
answer_once one lines bytes (Err (Line n f)) (Err TooLong) p q = absurd (omega (arith, p.0, q))
answer_once one lines bytes (Err (Line n f)) (Err (Line m g)) p q = line_fault_once one lines bytes n m f g p q
answer_once one lines bytes (Err (Line n f)) (Err NoMemory) p q = absurd q
answer_once one lines bytes (Err NoMemory) y p q = absurd p
