use Rattle.std.proofs.Common.{◌∙◌, ap, sym, arith}
use Rattle.std.specs.Str.{bytes_eq}
use Rattle.std.specs.Set.{is_member}
use Rattle.fy_locality.specs.Locality.{id_refusal}
use Rattle.fy_locality.proofs.Indexes.{is_some-lookup, taken, full, free}
use Rattle.fy_locality.proofs.map.Map.refusal.Goals as goal

pub returns-then-contains_key : goal.returns-then-contains_key
returns-then-contains_key c =
    sym (ap (λ ps. id_refusal ps c.args.id.now) (sym c.self.view_is) ∙ taken _ _ (ap (λ names. is_member bytes_eq names c.args.id.now) (sym c.self.invariant.ids_are.seen) ∙ sym (is_some-lookup (bytes_eq c.args.id.now) _) ∙ sym c.if-contains_key.ensures))

pub returns-then-len : goal.returns-then-len
returns-then-len c =
    sym (ap (λ ps. id_refusal ps c.args.id.now) (sym c.self.view_is) ∙ full _ _ (ap (λ names. is_member bytes_eq names c.args.id.now) (sym c.self.invariant.ids_are.seen) ∙ sym (is_some-lookup (bytes_eq c.args.id.now) _) ∙ sym c.if-contains_key.ensures) (omega arith))

pub returns : goal.returns
returns c =
    sym (ap (λ ps. id_refusal ps c.args.id.now) (sym c.self.view_is) ∙ free _ _ (ap (λ names. is_member bytes_eq names c.args.id.now) (sym c.self.invariant.ids_are.seen) ∙ sym (is_some-lookup (bytes_eq c.args.id.now) _) ∙ sym c.if-contains_key.ensures) (omega arith))
