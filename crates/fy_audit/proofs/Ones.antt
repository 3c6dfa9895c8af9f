-- scripts and audits are of one thing each
use Rattle.std.proofs.Common.{◌≡◌, ◌∙◌, ℕ, suc, ◌+◌, ◌==◌, true, false, slice_index, List, [], ◌∷◌, ◌++◌, length, Result, Ok, Err, refl, sym, ap, subst, arith, append_assoc}
use Rattle.std.specs.List.{AllByRecursion, flat_map}
use Rattle.std.proofs.lemmas.Bool.{false≢true}
use Rattle.fy_lines.specs.Lines.{lines_of}
use Rattle.fy_spelling.specs.Command.{LineOf}
use Rattle.fy_spelling.specs.Representable.{IsRepresentable}
use Rattle.fy_spelling.specs.OneText.{LineIsUnambiguous, OneHeldEntryPerText, HeldTextsAreLines, HasNoFeed}
use Rattle.fy_spelling.specs.Values.{text_of}
use Rattle.fy_spelling.specs.declared.command.Command.{Command}
use Rattle.fy_spelling.specs.declared.command.LineFault.{LineFault}
use Rattle.fy_acts.specs.declared.entry.Entry.{Entry}
use Rattle.fy_audit.specs.AuditText.{entry_line, audit_text}
use Rattle.fy_audit.specs.Script.{AreCommands, FirstFaulty, ScriptOf}
use Rattle.fy_audit.specs.declared.script.ScriptFault.{ScriptFault}
use Rattle.fy_audit.specs.declared.script.ScriptFault.TheVariants.{TooLong, Line, NoMemory}
use Rattle.fy_acts.specs.declared.version.Version.{Version}
use Rattle.fy_acts.specs.declared.version.Version.TheVariants.{First, Second}

-- ---- scripts

ok_is_no_fault : (command : Command) (fault : LineFault) →
    ◌≡◌ {A = Result Command LineFault} (Ok command) (Err fault) → ⊥
ok_is_no_fault command fault e = let no : ⊥ = cc in no

-- lines are one list of commands
commands_once : LineIsUnambiguous → (lines : List (List ℕ)) (xs ys : List Command) →
    AreCommands lines xs → AreCommands lines ys → xs ≡ ys
commands_once once [] [] [] p q = refl
commands_once once [] [] (y ∷ ys) p q = absurd q
commands_once once [] (x ∷ xs) ys p q = absurd p
commands_once once (line ∷ lines) [] ys p q = absurd p
commands_once once (line ∷ lines) (x ∷ xs) [] p q = absurd q
commands_once once (line ∷ lines) (x ∷ xs) (y ∷ ys) p q =
    let same = once line (Ok x) (Ok y) p.0 q.0 in
    let first : x ≡ y = cc in
    let rest = commands_once once lines xs ys p.1 q.1 in
    cc

-- lines with a faulty one are no commands
none_faulty : LineIsUnambiguous → (before : List (List ℕ)) (line : List ℕ)
    (after : List (List ℕ)) (xs : List Command) (fault : LineFault) →
    AreCommands (before ++ line ∷ after) xs → LineOf line (Err fault) → ⊥
none_faulty once [] line after [] fault p q = p
none_faulty once [] line after (x ∷ xs) fault p q =
    ok_is_no_fault x fault (once line (Ok x) (Err fault) p.0 q)
none_faulty once (other ∷ before) line after [] fault p q = p
none_faulty once (other ∷ before) line after (x ∷ xs) fault p q =
    none_faulty once before line after xs fault p.1 q

-- the first faulty line stands at one place
one_place : LineIsUnambiguous → (b c : List (List ℕ)) (l m : List ℕ) (a z : List (List ℕ))
    (xs ys : List Command) (f g : LineFault) → b ++ l ∷ a ≡ c ++ m ∷ z → AreCommands b xs →
    AreCommands c ys → LineOf l (Err f) → LineOf m (Err g) → (length b ≡ length c) × (l ≡ m)
one_place once [] [] l m a z xs ys f g same p q here there = (refl, let e : l ≡ m = cc in e)
one_place once [] (n ∷ c) l m a z xs [] f g same p q here there = absurd q
one_place once [] (n ∷ c) l m a z xs (y ∷ ys) f g same p q here there =
    let e : n ≡ l = cc in
    absurd (ok_is_no_fault y f
    (once l (Ok y) (Err f) (subst (λ line. LineOf line (Ok y)) e q.0) here))
one_place once (n ∷ b) [] l m a z [] ys f g same p q here there = absurd p
one_place once (n ∷ b) [] l m a z (x ∷ xs) ys f g same p q here there =
    let e : n ≡ m = cc in
    absurd (ok_is_no_fault x g
    (once m (Ok x) (Err g) (subst (λ line. LineOf line (Ok x)) e p.0) there))
one_place once (n ∷ b) (o ∷ c) l m a z [] ys f g same p q here there = absurd p
one_place once (n ∷ b) (o ∷ c) l m a z (x ∷ xs) [] f g same p q here there = absurd q
one_place once (n ∷ b) (o ∷ c) l m a z (x ∷ xs) (y ∷ ys) f g same p q here there =
    let rest : b ++ l ∷ a ≡ c ++ m ∷ z = cc in
    let found = one_place once b c l m a z xs ys f g rest p.1 q.1 here there in
    (ap suc found.0, found.1)

-- bytes have one first faulty line
first_once : LineIsUnambiguous → (lines : List (List ℕ)) (n m : ℕ) (f g : LineFault) →
    FirstFaulty lines n f → FirstFaulty lines m g →
    ◌≡◌ {A = Result (List Command) ScriptFault} (Err (Line n f)) (Err (Line m g))
first_once once lines n m f g p q =
    let found = one_place once p.before q.before p.line q.line p.after q.after p.commands q.commands f g
    (sym p.split ∙ q.split) p.faultless q.faultless p.here q.here in
    let place : n ≡ m = p.place ∙ ap (λ k. k + 1) found.0 ∙ sym q.place in
    let faults = once q.line (Err f) (Err g) (subst (λ line. LineOf line (Err f)) found.1 p.here) q.here in
    let fault : f ≡ g = cc in
    λ i. Err (Line (place i) (fault i))

no_first : LineIsUnambiguous → (lines : List (List ℕ)) (xs : List Command) (n : ℕ) (f : LineFault) →
    AreCommands lines xs → FirstFaulty lines n f → ⊥
no_first once lines xs n f p q =
    none_faulty once q.before q.line q.after xs f (subst (λ l. AreCommands l xs) q.split p) q.here

pub script_once : LineIsUnambiguous → (bytes : List ℕ) (x y : Result (List Command) ScriptFault) →
    ScriptOf bytes x → ScriptOf bytes y → x ≡ y
script_once once bytes (Ok xs) (Ok ys) p q = ap Ok (commands_once once (lines_of bytes) xs ys p.1 q.1)
script_once once bytes (Ok xs) (Err TooLong) p q = absurd (omega (arith, p.0, q))
script_once once bytes (Ok xs) (Err (Line n f)) p q = absurd (no_first once (lines_of bytes) xs n f p.1 q.1)
script_once once bytes (Ok xs) (Err NoMemory) p q = absurd q
script_once once bytes (Err TooLong) (Ok ys) p q = absurd (omega (arith, q.0, p))
script_once once bytes (Err TooLong) (Err TooLong) p q = refl
script_once once bytes (Err TooLong) (Err (Line n f)) p q = absurd (omega (arith, q.0, p))
script_once once bytes (Err TooLong) (Err NoMemory) p q = absurd q
script_once once bytes (Err (Line n f)) (Ok ys) p q = absurd (no_first once (lines_of bytes) ys n f q.1 p.1)
script_once once bytes (Err (Line n f)) (Err TooLong) p q = absurd (omega (arith, p.0, q))
script_once once bytes (Err (Line n f)) (Err (Line m g)) p q = first_once once (lines_of bytes) n m f g p.1 q.1
script_once once bytes (Err (Line n f)) (Err NoMemory) p q = absurd q
script_once once bytes (Err NoMemory) y p q = absurd p

-- ---- audits

-- a line ends at its first line feed
pub line_once : (x y more rest : List ℕ) → HasNoFeed x → HasNoFeed y →
    x ++ 10 ∷ more ≡ y ++ 10 ∷ rest → (x ≡ y) × (more ≡ rest)
line_once [] [] more rest p q same = (refl, let e : more ≡ rest = cc in e)
line_once [] (b ∷ y) more rest p q same = let e : b ≡ 10 = cc in absurd (q.0 e)
line_once (a ∷ x) [] more rest p q same = let e : a ≡ 10 = cc in absurd (p.0 e)
line_once (a ∷ x) (b ∷ y) more rest p q same =
    let first : a ≡ b = cc in
    let tail : x ++ 10 ∷ more ≡ y ++ 10 ∷ rest = cc in
    let found = line_once x y more rest p.1 q.1 tail in
    (ap₂' first found.0, found.1)
  where
    ap₂' : {a b : ℕ} {x y : List ℕ} → a ≡ b → x ≡ y → a ∷ x ≡ b ∷ y
    ap₂' e f i = e i ∷ f i

-- entries have one text together
entries_once : OneHeldEntryPerText → HeldTextsAreLines → (xs ys : List Entry) →
    AllByRecursion IsRepresentable xs → AllByRecursion IsRepresentable ys →
    flat_map entry_line xs ≡ flat_map entry_line ys → xs ≡ ys
entries_once one lines [] [] p q same = refl
entries_once one lines [] (y ∷ ys) p q same =
    let bad = ap length same in absurd (some (text_of y) (flat_map entry_line ys) bad)
  where
    some : (t more : List ℕ) → 0 ≡ length ((t ++ 10 ∷ []) ++ more) → ⊥
    some [] more e = omega arith
    some (b ∷ t) more e = omega arith
entries_once one lines (x ∷ xs) [] p q same =
    let bad = ap length (sym same) in absurd (some (text_of x) (flat_map entry_line xs) bad)
  where
    some : (t more : List ℕ) → 0 ≡ length ((t ++ 10 ∷ []) ++ more) → ⊥
    some [] more e = omega arith
    some (b ∷ t) more e = omega arith
entries_once one lines (x ∷ xs) (y ∷ ys) p q same =
    let here = append_assoc (text_of x) (10 ∷ []) (flat_map entry_line xs) in
    let there = append_assoc (text_of y) (10 ∷ []) (flat_map entry_line ys) in
    let found = line_once (text_of x) (text_of y) (flat_map entry_line xs) (flat_map entry_line ys)
    (lines x p.0) (lines y q.0) (sym here ∙ same ∙ there) in
    let first = one x y p.0 q.0 found.0 in
    let rest = entries_once one lines xs ys p.1 q.1 found.1 in
    λ i. first i ∷ rest i

pub audit_once : OneHeldEntryPerText → HeldTextsAreLines → (v w : Version) (xs ys : List Entry) →
    AllByRecursion IsRepresentable xs → AllByRecursion IsRepresentable ys →
    audit_text v xs ≡ audit_text w ys → (v ≡ w) × (xs ≡ ys)
audit_once one lines First First xs ys p q same =
    (refl, entries_once one lines xs ys p q (let e : flat_map entry_line xs ≡ flat_map entry_line ys = cc in e))
audit_once one lines Second Second xs ys p q same =
    (refl, entries_once one lines xs ys p q (let e : flat_map entry_line xs ≡ flat_map entry_line ys = cc in e))
audit_once one lines First Second xs ys p q same =
    let bad : true ≡ false = ap (λ text. slice_index text 9 == 49) same in
    absurd (false≢true (sym bad))
audit_once one lines Second First xs ys p q same =
    let bad : false ≡ true = ap (λ text. slice_index text 9 == 49) same in
    absurd (false≢true bad)
