use Rattle.std.proofs.Common.{◌≡◌, ◌+◌, ◌∙◌, ℕ, zero, suc, cond, List, length, Option, Some, None, sym, ap, length-append}
use Rattle.std.specs.Prelude.{is_some, option_and_then}
use Rattle.std.proofs.lemmas.List.Sorted.{length_permutation}
use Rattle.fy_history.specs.declared.history.Place.{Place}
use Rattle.fy_history.specs.declared.history.Write.{Write}
use Rattle.fy_records.specs.declared.verdict.Judged.{Judged}
use Rattle.fy_records.specs.Counted.{count_below, is_acknowledged}
use Rattle.fy_records.specs.Lines.{Lines, acked_at, list_of}
use Rattle.fy_records.specs.Verdicts.{IsJudgedKey, AreJudgedBelow}
use Rattle.fy_records.proofs.laws.all_are_judged.Goals as goal

-- a key has a judged record exactly where it has an acknowledged one
own_is : (h : Lines) (key : ℕ) (own : Option Judged) → IsJudgedKey h key own → length (list_of own) ≡ cond (is_acknowledged h key) 1 0
own_is h key None none = ap (λ (at : Option Place). cond (is_some at) 1 0) (sym none)
own_is h key (Some judged) (write, acked, record_is, ack, is) =
    sym (ap (λ (at : Option Place). cond (is_some at) 1 0) (ap (λ (w : Option Write). option_and_then acked_at w) record_is ∙ ack))

many : (h : Lines) (keys : ℕ) (records : List Judged) → AreJudgedBelow h keys records → length records ≡ count_below keys (is_acknowledged h)
many h zero records none = ap length none
many h (suc key) records (before, own, all, is, whole) =
    ap length whole ∙ length-append before (list_of own)
    ∙ ap (λ n. n + length (list_of own)) (many h key before all)
    ∙ ap (λ n. count_below key (is_acknowledged h) + n) (own_is h key own is)

pub returns : goal.returns
returns c h records judged =
    length_permutation judged.by_key records judged.same ∙ many h h.names judged.by_key judged.all
