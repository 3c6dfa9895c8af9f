use Rattle.std.proofs.Common.{rules, arith, ◌≡◌, ◌≤◌, ◌+◌, ◌-◌, ℕ, List, ◌++◌, length, take, length-append, vec_len}
use Rattle.std.proofs.KnownBytes.{Consumes-trans}
use Rattle.fy_lines.proofs.input.read_limited.Goals as goal

at_most_one_past : (kept given : List ℕ) (limit : ℕ) → length kept ≤ limit → length given ≤ limit - length kept + 1 → length (kept ++ given) ≤ limit + 1
at_most_one_past kept given limit fits few = rw (length-append kept given) (omega arith)

pub returns-in_err-extend_from_slice-clause-no_further : goal.returns-in_err-extend_from_slice-clause-no_further
returns-in_err-extend_from_slice-clause-no_further g c =
    let kept = c.loop-chunk.bytes in
    let given = take c.in-Ok.count c.read.new.buf in
    let given_len : c.in-Ok.count ≡ length given = c.in-Ok.ensures.bound.1 in
    let kept_len : vec_len kept ≡ length kept.items = kept.ok.0 in
    let within : c.in-Ok.count ≤ c.args.limit - vec_len kept + 1 = search rules in
    let fits : vec_len kept ≤ c.args.limit = search rules in (
      kept.items ++ given,
      Consumes-trans _ _ _ kept.items given c.loop-chunk.invariant.2 c.in-Ok.ensures.bytes.0,
      at_most_one_past kept.items given c.args.limit (omega arith) (omega arith),
    )
