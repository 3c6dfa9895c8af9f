use Rattle.std.proofs.Common.{◌∙◌, ap, sym}
use Rattle.std.specs.Prelude.{option_map}
use Rattle.fy_kinds.specs.Kinds.{set_of_bits}
use Rattle.fy_kinds.proofs.MemberBits.{named_is, named_small}
use Rattle.fy_kinds.proofs.kind_set.KindSet.named.Goals as goal

pub invariant_of-result : goal.invariant_of-result
invariant_of-result c = named_small c.args.text.now _ (sym (c.from_name.ensures tt) ∙ ap (option_map (λ bits. bits.0)) c.in-Some.is)

pub returns-in-Some : goal.returns-in-Some
returns-in-Some c =
    ap (option_map set_of_bits) (sym (ap (option_map (λ bits. bits.0)) c.in-Some.is) ∙ c.from_name.ensures tt)
    ∙ named_is c.args.text.now

pub returns-in-None : goal.returns-in-None
returns-in-None c =
    ap (option_map set_of_bits) (sym (ap (option_map (λ bits. bits.0)) c.in-None.is) ∙ c.from_name.ensures tt)
    ∙ named_is c.args.text.now
