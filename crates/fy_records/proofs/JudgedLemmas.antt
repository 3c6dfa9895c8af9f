-- a record is judged as its history is
use Rattle.std.proofs.Common.{◌≡◌, ◌∙◌, ℕ, Bool, List, Option, refl, ap, subst}
use Rattle.std.specs.Prelude.{◌==◌, filter, option_map}
use Rattle.std.specs.List.Sorted.{IsPermutation}
use Rattle.fy_history.specs.declared.history.Place.{Place}
use Rattle.fy_history.specs.declared.history.Read.{Read}
use Rattle.fy_history.specs.declared.history.Write.{Write}
use Rattle.fy_records.specs.declared.judge.Case.{Case}
use Rattle.fy_records.specs.declared.seen.Seen.{Seen}
use Rattle.fy_records.specs.declared.verdict.Verdict.{Verdict}
use Rattle.fy_records.specs.Found.{some_of}
use Rattle.fy_records.specs.Lines.{Lines, all_reads, reads_of, some_read}
use Rattle.fy_records.specs.Reads.{Reads}
use Rattle.fy_records.specs.Traces.{is_on_disk, is_on_no_disk}
use Rattle.fy_records.specs.Verdicts.{first_verdict, shows, case_since, IsShown, IsStaleFor, IsJudged}
use Rattle.fy_records.proofs.Same.{SameReads, same_kept, same_some, shown_alike, stale_alike}

-- what a record is judged by
abbrev pub case_of : Write → (since : Place) → (written : Option Place) → Case
case_of write since written = record { value = write.value; since = since; written = written }

pub judged_from : (h : Lines) (write : Write) (acked : Place) (ys reads : List Seen) (written : Option Place) (on_disk on_none : Bool)
    (verdict : Verdict) (seen : Option Seen) (read : Option Read) (nanos : ℕ)
    → IsPermutation (all_reads h) ys → reads ≡ filter (λ seen. seen.read.key == write.key) ys → written ≡ h.written
    → on_disk ≡ is_on_disk h.disks write.key write.value → on_none ≡ is_on_no_disk h.disks h.processes write.key write.value
    → verdict ≡ first_verdict (some_of reads) (case_of write acked written) on_disk on_none
    → IsShown reads (shows (some_of reads) (case_of write acked written) verdict) seen
    → IsStaleFor reads (case_of write acked written) verdict seen nanos
    → read ≡ option_map (λ (s : Seen). s.read) seen
    → IsJudged h write acked (record { write = write; acked = acked; verdict = verdict; read = read; stale_nanos = nanos })
judged_from h write acked ys reads written on_disk on_none verdict seen read nanos perm reads_are written_is disk_is none_is verdict_is shown stale read_is =
    record {
      write_is = refl;
      acked_is = refl;
      verdict_is = verdict_is
          ∙ ap (λ (some : Reads). first_verdict some (case_of write acked written) on_disk on_none) some_is
          ∙ ap (λ (c : Case). first_verdict (some_read h write.key) c on_disk on_none) case_is
          ∙ ap (λ b. first_verdict (some_read h write.key) (case_since h write acked) b on_none) disk_is
          ∙ ap (λ b. first_verdict (some_read h write.key) (case_since h write acked) (is_on_disk h.disks write.key write.value) b) none_is;
      shown = (
        seen,
        read_is,
        (
          shown_alike (filter (λ seen. seen.read.key == write.key) ys) (reads_of h write.key) same (case_since h write acked) verdict seen
              (subst (λ (c : Case). IsShown (filter (λ seen. seen.read.key == write.key) ys) (shows (some_of (filter (λ seen. seen.read.key == write.key) ys)) c verdict) seen) case_is
              (subst (λ (rs : List Seen). IsShown rs (shows (some_of rs) (case_of write acked written) verdict) seen) reads_are shown)),
          stale_alike (filter (λ seen. seen.read.key == write.key) ys) (reads_of h write.key) same (case_since h write acked) verdict seen nanos
              (subst (λ (c : Case). IsStaleFor (filter (λ seen. seen.read.key == write.key) ys) c verdict seen nanos) case_is
              (subst (λ (rs : List Seen). IsStaleFor rs (case_of write acked written) verdict seen nanos) reads_are stale)),
        ),
      );
    }
  where
    same : SameReads (filter (λ seen. seen.read.key == write.key) ys) (reads_of h write.key)
    same = same_kept (λ seen. seen.read.key == write.key) (all_reads h) ys perm

    some_is : some_of reads ≡ some_read h write.key
    some_is = ap some_of reads_are ∙ same_some (filter (λ seen. seen.read.key == write.key) ys) (reads_of h write.key) (same_kept (λ seen. seen.read.key == write.key) (all_reads h) ys perm)

    case_is : case_of write acked written ≡ case_since h write acked
    case_is = ap (case_of write acked) written_is
