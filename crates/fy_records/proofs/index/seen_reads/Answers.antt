use Rattle.std.proofs.Common.{◌∙◌, ℕ, List, [], ◌∷◌, ◌++◌, take, sym, ap, subst, arith}
use Rattle.fy_records.specs.declared.seen.Seen.{Seen}
use Rattle.fy_records.specs.Pairs.{ArePairs}
use Rattle.fy_records.specs.Lines.{seen_reads}
use Rattle.fy_records.proofs.SeenLemmas.{seen_more}
use Rattle.fy_records.proofs.index.seen_reads.Goals as goal

pub loop-i-preserved : goal.loop-i-preserved
loop-i-preserved c =
    let writes = c.args.writes.now in
    let reads = c.args.reads.now in
    let wholes = c.args.wholes.now in
    let before = seen_reads writes (take c.loop-i.i reads) (take c.loop-i.i wholes) in
    let pairs = subst (λ (ps : List ℕ). ArePairs writes ps) (sym c.deref.ensures.value) c.in_ok-pairs.ensures.pairs in
    c.in_ok-push.ensures.items
    ∙ ap (λ ys. ys ++ c.seen_of.result ∷ []) c.loop-i.invariant
    ∙ ap (λ (s : Seen). before ++ s ∷ []) (c.seen_of.ensures writes pairs)
    ∙ sym (seen_more writes reads wholes c.loop-i.i _ _ (omega arith) (omega arith))
