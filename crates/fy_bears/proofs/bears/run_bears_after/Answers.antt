use Rattle.std.proofs.Common.{rules, ◌≡◌, ℕ, Bool, true, false, List, Option, Some, None, Result, Ok, Err, IfOk, IfErr, IfSome, is_some, is_none, inl, inr, refl, sym, ◌∙◌, subst}
use Rattle.std.proofs.lemmas.Bool.{false≢true}
use Rattle.std.specs.Io.KnownBytes.{Appends}
use Rattle.fy_lines.specs.Prefixes.{AppendsProperPrefix}
use Rattle.fy_check.specs.declared.check.Finding.{Finding}
use Rattle.std.specs.Option.{option_map_or}
use Rattle.fy_replay.specs.Replayed.{HasFirstBad}
use Rattle.fy_check.specs.CheckTexts.{Finds, HasVerdict, IsFound, bad_line, finding_line, legal_line}
use Rattle.fy_streams.specs.declared.stop.Stop.{Stop}
use Rattle.fy_streams.specs.declared.stop.Stop.TheVariants.{NoMemory, Read, Write}
use Rattle.fy_streams.specs.Outputs.{IsOutputStop}
use Rattle.fy_check.specs.Checked.{IsChecked, IsReplayed}
use Rattle.fy_check.specs.declared.check.ReplayedAudit.{ReplayedAudit}
use Rattle.fy_cluster.specs.Setup.{Setup}
use Rattle.fy_policy.specs.Tree.{Tree}
use Rattle.fy_bears.specs.BearsTexts.{IsSpelledOut, IsToldOf, Tells}
use Rattle.fy_bears.specs.declared.told.Told.{Told}
use Rattle.fy_bears.proofs.bears.run_bears_after.Goals as goal

pub returns-then-is_some-clause-refuted : goal.returns-then-is_some-clause-refuted
returns-then-is_some-clause-refuted g c = λ is.
    let known = g.R.Read.remaining c.args.reader.now in
    let whole = Appends (g.W.Write.contents c.args.writer.now) (g.W.Write.contents c.write_finding.new.writer) in
    let found = c.finding-finding.ensures.found c.args.config.now known c.in_ok-audit.ensures.replayed in
    subst (λ r. IfOk r (λ legal. HasVerdict c.args.config.now known legal whole)) is
    (c.write_finding.ensures.out c.args.config.now known found)

none_bad : (o : Option ℕ) → is_some o ≡ false → true ≡ is_none o
none_bad None e = refl
none_bad (Some x) e = absurd (false≢true (sym e))

legal_found : (setup : Setup) (known : Option (List ℕ)) (finding : Finding) → IfSome known (λ bytes. IsFound setup bytes finding) → is_some finding.first_bad ≡ false → IfSome known (λ bytes. IsChecked setup bytes true)
legal_found setup None finding found e = tt
legal_found setup (Some bytes) finding found e = record {
  finding = finding;
  found = found;
  legal_is = none_bad finding.first_bad e;
}

pub returns-clause-done : goal.returns-clause-done
returns-clause-done g c =
    legal_found c.args.config.now (g.R.Read.remaining c.args.reader.now) c.finding-finding.result
    (c.finding-finding.ensures.found c.args.config.now (g.R.Read.remaining c.args.reader.now) c.in_ok-audit.ensures.replayed)
    (sym c.is_some.ensures ∙ c.if-is_some.false)

none_of : (o : Option ℕ) → is_some o ≡ false → o ≡ None
none_of None e = refl
none_of (Some x) e = absurd (false≢true (sym e))

-- of an audit that is legal, what is told goes out
told_known : (setup : Setup) (elections : List Tree) (known : Option (List ℕ)) (audit : ReplayedAudit) (told : Told) (spells : Told → List ℕ → Type 0) (goes : List ℕ → Type 0)
    → IfSome known (λ bytes. IsReplayed setup bytes audit)
    → ((bytes : List ℕ) → IsReplayed setup bytes audit → IsToldOf setup elections bytes told)
    → IsSpelledOut (spells told) goes
    → IfSome known (λ bytes. Tells (IsToldOf setup elections bytes) spells goes)
told_known setup elections None audit told spells goes replayed those out = tt
told_known setup elections (Some bytes) audit told spells goes replayed those out = (told, those bytes replayed, out)

pub returns-clause-written : goal.returns-clause-written
returns-clause-written g c = λ _.
    let none = sym c.finding-finding.ensures.first_bad ∙ none_of c.finding-finding.result.first_bad (sym c.is_some.ensures ∙ c.if-is_some.false) in
    told_known c.args.config.now c.args.elections.now (g.R.Read.remaining c.args.reader.now) c.in_ok-audit.audit c.in_ok-told.told (g.S.Spelling.spells c.args.form.now c.args.config.now c.args.elections.now)
    _ c.in_ok-audit.ensures.replayed (λ bytes replayed. c.in_ok-told.ensures.told c.args.config.now bytes replayed none) c.in_ok-write_told.ensures.written

-- a text that goes out in part is that of what is told of a legal audit
pub returns-in_err-write_told-clause-front_out : goal.returns-in_err-write_told-clause-front_out
returns-in_err-write_told-clause-front_out g c is =
    let none = sym c.finding-finding.ensures.first_bad ∙ none_of c.finding-finding.result.first_bad (sym c.is_some.ensures ∙ c.if-is_some.false) in
    inr (told_known c.args.config.now c.args.elections.now (g.R.Read.remaining c.args.reader.now) c.in_ok-audit.audit c.in_ok-told.told (g.S.Spelling.spells c.args.form.now c.args.config.now c.args.elections.now)
    _ c.in_ok-audit.ensures.replayed (λ bytes replayed. c.in_ok-told.ensures.told c.args.config.now bytes replayed none) (c.in_err-write_told.ensures.short (search rules)))

-- nothing is read once the text is written
unread : (stop : Stop) → IsOutputStop stop → stop ≡ Read → ⊥
unread stop (inl write) is = let bad : Write ≡ Read = sym write ∙ is in let no : ⊥ = cc in no
unread stop (inr memory) is = let bad : NoMemory ≡ Read = sym memory ∙ is in let no : ⊥ = cc in no

pub returns-in_err-write_told-clause-read_fault : goal.returns-in_err-write_told-clause-read_fault
returns-in_err-write_told-clause-read_fault g c = λ is.
    let read : c.in_err-write_told.field-0.0 ≡ Read = search rules in
    absurd (unread c.in_err-write_told.field-0.0 c.in_err-write_told.ensures.no_other read)

-- the line of a bad entry
bad_known : (setup : Setup) (known : Option (List ℕ)) (finding : Finding) (at : ℕ) (goes : List ℕ → Type 0)
    → IfSome known (λ bytes. IsFound setup bytes finding) → finding.first_bad ≡ Some at
    → goes (finding_line finding) → HasVerdict setup known false goes
bad_known setup None finding at goes found is out = tt
bad_known setup (Some bytes) finding at goes found is out = (
  bad_line at,
  Finds.refutes found.audit at found.read
      (subst (HasFirstBad found.audit.version setup found.audit.entries) is found.first),
  subst (λ bad. goes (option_map_or bad_line bad (legal_line finding.count))) is out,
)

some_of : (o : Option ℕ) → is_some o ≡ true → (at : ℕ) × (o ≡ Some at)
some_of None e = absurd (false≢true e)
some_of (Some at) e = (at, refl)

cut_short : (short : List ℕ → Type 0) (line : List ℕ) (result : Result Bool Stop) → IfErr result (λ _. short line) → result ≡ Err Write → short line
cut_short short line (Err stop) out is = out
cut_short short line (Ok done) out is = cc

pub returns-then-is_some-clause-front_out : goal.returns-then-is_some-clause-front_out
returns-then-is_some-clause-front_out g c = λ is.
    let known = g.R.Read.remaining c.args.reader.now in
    let short = AppendsProperPrefix (g.W.Write.contents c.args.writer.now) (g.W.Write.contents c.write_finding.new.writer) in
    let finding = c.finding-finding.result in
    let found = c.finding-finding.ensures.found c.args.config.now known c.in_ok-audit.ensures.replayed in
    let bad = some_of finding.first_bad (sym c.is_some.ensures ∙ c.if-is_some.true) in
    inl (bad_known c.args.config.now known finding bad.0 short found bad.1
    (cut_short short (finding_line finding) c.write_finding.result c.write_finding.ensures.short is))
