use Rattle.std.proofs.Common.{rules, ◌≡◌, ◌∙◌, false, true, codes, sym, ap, is_some}
use Rattle.std.specs.Str.Parse.{ParsesUnsigned, ExplainsUnsignedError, HasUnsignedDigitsIfOk}
use Rattle.clap.specs.Words.{found_of, one_of, rows_of}
use Rattle.clap.proofs.WalkLemmas.{one_text-rows}
use Rattle.faultyard.proofs.CommandLemmas.{seed_read}
use Rattle.faultyard.proofs.task.seed_of.Goals as goal

pub unreachable-requires : goal.unreachable-requires
unreachable-requires c =
    let read = seed_read (λ t x. ParsesUnsigned 64 10 t x × ExplainsUnsignedError 10 t x × HasUnsignedDigitsIfOk t x)
    (one_of (codes "seed") (rows_of (found_of c.args.given.now))) c.get_one.result c.requires
    (λ t is. c.get_one.ensures.value t (one_text-rows (found_of c.args.given.now) (codes "seed") ∙ is)) (λ t x gives. gives.0) in
    let bad : true ≡ false = ap is_some (sym read.1 ∙ c.in-None.is) in absurd (search rules)

pub returns : goal.returns
returns c =
    let read = seed_read (λ t x. ParsesUnsigned 64 10 t x × ExplainsUnsignedError 10 t x × HasUnsignedDigitsIfOk t x)
    (one_of (codes "seed") (rows_of (found_of c.args.given.now))) c.get_one.result c.requires
    (λ t is. c.get_one.ensures.value t (one_text-rows (found_of c.args.given.now) (codes "seed") ∙ is)) (λ t x gives. gives.0) in
    read.2 ∙ (sym read.1 ∙ c.in-Some.is)
