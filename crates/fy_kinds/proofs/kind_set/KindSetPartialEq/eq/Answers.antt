use Rattle.std.proofs.Common.{eqb, sym, ap, ◌∙◌}
use Rattle.fy_kinds.specs.Kinds.{bits_of}
use Rattle.fy_kinds.specs.BitsBack.{bits_back}
use Rattle.fy_kinds.proofs.kind_set.KindSetPartialEq.eq.Goals as goal

pub returns : goal.returns
returns c =
    let self_is = sym (bits_back c.t1-1.inside.bits.0 c.t1-1.invariant) ∙ ap bits_of c.t1-1.view_is in
    let other_is = sym (bits_back c.t2-1.inside.bits.0 c.t2-1.invariant) ∙ ap bits_of c.t2-1.view_is in
    c.eq.ensures ∙ (λ i. eqb (self_is i) (other_is i))
