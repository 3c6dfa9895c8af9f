use Rattle.std.proofs.Common.{◌≡◌, ◌∙◌, ◌+◌, ◌<◌, ap, sym, subst, arith, length, length-append, length-drop, drop, vec_len, vec_capacity}
use Rattle.hex.specs.Hex.{encode_lower, lower_digits}
use Rattle.hex.proofs.HexLemmas.{length-encode_with}
use Rattle.fy_spelling.specs.AppendsOrOom.{IsPrefixOf}
use Rattle.fy_spelling.proofs.Joined.{IsShort, refused}
use Rattle.fy_spelling.proofs.writing.acts.put_bytes.Goals as goal

pub returns-in_err-extend_from_slice-clause-text : goal.returns-in_err-extend_from_slice-clause-text
returns-in_err-extend_from_slice-clause-text c =
    let fn = c.args.out.now in
    let out = c.loop-byte.out in
    let bytes = c.args.bytes.now in
    let left = drop c.loop-byte.byte-index bytes in
    let whole : length out.items + length (encode_lower left) ≡ length fn.items + length (encode_lower bytes) =
    sym (length-append out.items (encode_lower left)) ∙ ap length c.loop-byte.invariant.1
    ∙ length-append fn.items (encode_lower bytes) in
    let full : vec_capacity out < vec_len out + 2 = c.in_err-extend_from_slice.ensures.full in
    let short : IsShort fn (encode_lower bytes) =
    omega (
      arith,
      whole,
      length-encode_with lower_digits left,
      length-drop c.loop-byte.byte-index bytes,
      c.loop-byte-test.true,
      c.loop-byte.invariant.2,
      full,
      out.ok.0,
    ) in
    refused _ c.from_residual.result _ fn _ c.from_residual.ensures.1
    (subst (IsPrefixOf fn.items) (sym c.in_err-extend_from_slice.ensures.items) c.loop-byte.invariant.0)
    short
