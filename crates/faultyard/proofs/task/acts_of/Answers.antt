use Rattle.std.proofs.Common.{◌∙◌, codes, sym, subst}
use Rattle.std.specs.Str.Parse.{ParsesUnsigned, ExplainsUnsignedError, HasUnsignedDigitsIfOk}
use Rattle.clap.specs.Words.{found_of, one_of, rows_of}
use Rattle.clap.proofs.WalkLemmas.{one_text-rows}
use Rattle.faultyard.specs.Commands.{IsActsOf}
use Rattle.faultyard.proofs.CommandLemmas.{acts_read}
use Rattle.faultyard.proofs.task.acts_of.Goals as goal

pub returns : goal.returns
returns c =
    let found = found_of c.args.given.now in
    let word = one_of (codes "acts") (rows_of found) in
    subst (IsActsOf word) (sym c.unwrap_or.ensures)
    (acts_read (λ t x. ParsesUnsigned 64 10 t x × ExplainsUnsignedError 10 t x × HasUnsignedDigitsIfOk t x)
    word c.get_one.result
    (λ none. c.get_one.ensures.none (one_text-rows found (codes "acts") ∙ none))
    (λ t is. c.get_one.ensures.value t (one_text-rows found (codes "acts") ∙ is))
    (λ t x gives. gives.0))
