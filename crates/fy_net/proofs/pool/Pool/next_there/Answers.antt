use Rattle.std.proofs.Common.{◌≡◌, ◌∙◌, ◌<◌, false, length, get_or, None, sym, arith}
use Rattle.std.specs.Prelude.{vec_len}
use Rattle.std.proofs.lemmas.List.{get_or_default}
use Rattle.fy_net.specs.Pool.{chain_at, is_there}
use Rattle.fy_net.proofs.Chaining.{passed_none, passed_more, there_there}
use Rattle.fy_net.proofs.pool.Pool.next_there.Goals as goal

pub loop-at-init : goal.loop-at-init
loop-at-init c =
    let pool = c.args.self.now in
    let within : c.args.place < length pool.links.items = omega (arith, pool.links.ok.0, c.requires.many, c.requires.within) in
    let is : c.index-at.result.now ≡ get_or pool.links.items c.args.place None = c.index-at.ensures ∙ get_or_default pool.links.items c.args.place c.index-at.result.now None within in
    rw is (passed_none (chain_at pool.processes pool.slots.items) (is_there pool.slots.items) (vec_len pool.slots) c.args.place (get_or pool.links.items c.args.place None) (c.requires.linked c.args.place c.requires.within))

pub loop-at-preserved : goal.loop-at-preserved
loop-at-preserved c =
    let pool = c.args.self.now in
    let next = c.in-Some.next in
    let passed = rw c.in-Some.is at c.loop-at.invariant in
    let within : next < length pool.links.items = omega (arith, pool.links.ok.0, c.requires.many, passed.1) in
    let there : next < length pool.slots.items = omega (arith, pool.slots.ok.0, passed.1) in
    let is : c.index-at-in-Some.result.now ≡ get_or pool.links.items next None = c.index-at-in-Some.ensures ∙ get_or_default pool.links.items next c.index-at-in-Some.result.now None within in
    let left : is_there pool.slots.items next ≡ false = sym (there_there pool.slots.items next c.index.result.now there c.index.ensures) ∙ c.if-index.false in
    rw is (passed_more (chain_at pool.processes pool.slots.items) (is_there pool.slots.items) (vec_len pool.slots) c.args.place next (get_or pool.links.items next None) passed left (c.requires.linked next passed.1))
