-- lines that are gathered and handed on while acts are entered
use Rattle.std.proofs.Common.{arith, suc, ◌≡◌, ◌∙◌, ◌≤◌, ◌<◌, ◌+◌, ℕ, List, [], ◌∷◌, ◌++◌, map, length, sym, ap, subst, append_assoc, length-append, Option, inr, refl}
use Rattle.std.specs.Io.KnownBytes.{Appends}
use Rattle.std.proofs.KnownBytes.{Appends-trans}
use Rattle.fy_lines.specs.Prefixes.{AppendsProperPrefix}
use Rattle.fy_acts.specs.declared.entry.Entry.{Entry}
use Rattle.fy_spelling.specs.Values.{text_of}
use Rattle.fy_spelling.specs.declared.command.Command.{Command}
use Rattle.fy_audit.specs.AuditText.{entry_line}
use Rattle.fy_cluster.specs.Execution.{Execution, next_entry, entered}
use Rattle.fy_cluster.specs.declared.fault.Fault.{Fault}
use Rattle.fy_cluster.specs.declared.fault.Fault.TheVariants as cluster
use Rattle.fy_streams.specs.Stops.{entering_stop}
use Rattle.fy_streams.specs.Outputs.{FlushesFront, IsOutputStop}
use Rattle.fy_run.specs.RunTexts.{asked, made_by, lines_of_entries}
use Rattle.fy_run.proofs.Acting.{one_longer}

-- a piece that isn't out whole stands behind what is out
pub short_behind : (first second third : Option (List ℕ)) (done piece : List ℕ) →
    Appends first second done → AppendsProperPrefix second third piece →
    AppendsProperPrefix first third (done ++ piece)
short_behind first second third done piece written (front, rest, is, grown, some) = (
  done ++ front,
  rest,
  ap (λ l. done ++ l) is ∙ sym (append_assoc done front rest),
  Appends-trans first second third done front written grown,
  some,
)

-- the lines that commands come to
abbrev pub lines_of : Execution → List Command → List ℕ
lines_of execution commands = lines_of_entries (made_by execution (map asked commands))

-- the line of the next command comes to what is gathered
pub next_line : (whole done gathered : List ℕ) (execution now : Execution) (command : Command)
    (rest commands : List Command) (entry : Entry) → commands ≡ command ∷ rest →
    entry ≡ next_entry execution command.by command.act →
    now ≡ entered execution command.by command.act →
    whole ≡ done ++ (gathered ++ lines_of execution commands) →
    whole ≡ done ++ ((gathered ++ entry_line entry) ++ lines_of now rest)
next_line whole done gathered execution now command rest commands entry here made enters is =
    let line = entry_line (next_entry execution command.by command.act) in
    let more = lines_of (entered execution command.by command.act) rest in
    is ∙ ap (λ l. done ++ (gathered ++ lines_of execution l)) here
    ∙ ap (λ l. done ++ l) (sym (append_assoc gathered line more))
    ∙ ap (λ e. done ++ ((gathered ++ entry_line e) ++ more)) (sym made)
    ∙ ap (λ n. done ++ ((gathered ++ entry_line entry) ++ lines_of n rest)) (sym enters)

-- there is room for the commands that are left
pub room_left : (execution now : Execution) (command : Command) (rest commands : List Command) →
    commands ≡ command ∷ rest → now ≡ entered execution command.by command.act →
    length execution.journal + length commands ≤ execution.setup.limit →
    length now.journal + length rest ≤ now.setup.limit
room_left execution now command rest commands here enters room =
    let count : length commands ≡ suc (length rest) = ap length here in
    let longer : length now.journal ≡ length execution.journal + 1 =
    ap (λ (e : Execution). length e.journal) enters
    ∙ one_longer execution command.by command.act in
    let same : now.setup.limit ≡ execution.setup.limit =
    ap (λ (e : Execution). e.setup.limit) enters in
    omega arith

still_left : (gathered : List ℕ) (execution : Execution) (command : Command) (rest : List Command) →
    0 < length (gathered ++ lines_of execution (command ∷ rest))
still_left gathered execution command rest =
    let entry = next_entry execution command.by command.act in
    let more = lines_of (entered execution command.by command.act) rest in
    let all = length-append gathered (entry_line entry ++ more) in
    let line = length-append (entry_line entry) more in
    let feed = length-append (text_of entry) (10 ∷ []) in
    omega arith

-- it ends before the next command has a line
pub cut_off : (first now : Option (List ℕ)) (whole done gathered : List ℕ) (execution : Execution)
    (command : Command) (rest commands : List Command) → commands ≡ command ∷ rest →
    Appends first now done → whole ≡ done ++ (gathered ++ lines_of execution commands) →
    AppendsProperPrefix first now whole
cut_off first now whole done gathered execution command rest commands here appended is = (
  done,
  gathered ++ lines_of execution (command ∷ rest),
  is ∙ ap (λ l. done ++ (gathered ++ lines_of execution l)) here,
  appended,
  still_left gathered execution command rest,
)

-- a journal that has room for a command isn't full
pub not_full : (execution : Execution) (command : Command) (rest commands : List Command) →
    commands ≡ command ∷ rest → length execution.journal + length commands ≤ execution.setup.limit →
    execution.setup.limit ≤ length execution.journal → ⊥
not_full execution command rest commands here room full =
    let count : length commands ≡ suc (length rest) = ap length here in
    omega arith

-- where there is room, an act isn't entered by an allocation failure alone
pub only_memory : (fault : Fault) → (fault ≡ cluster.JournalFull → ⊥) →
    IsOutputStop (entering_stop fault)
only_memory cluster.JournalFull room = absurd (room refl)
only_memory cluster.NoMemory room = inr refl

-- what was kept of a text goes out too
pub all_flushed : (first second third : Option (List ℕ)) (text kept whole : List ℕ) →
    FlushesFront first second text kept → text ≡ whole → Appends second third kept →
    Appends first third whole
all_flushed first second third text kept whole (front, appended, is) same flushed =
    subst (Appends first third) (sym is ∙ same)
    (Appends-trans first second third front kept appended flushed)

-- it goes out in part
pub flushed_short : (first second third : Option (List ℕ)) (text kept whole : List ℕ) →
    FlushesFront first second text kept → text ≡ whole → AppendsProperPrefix second third kept →
    AppendsProperPrefix first third whole
flushed_short first second third text kept whole (front, appended, is) same short =
    subst (AppendsProperPrefix first third) (sym is ∙ same)
    (short_behind first second third front kept appended short)
