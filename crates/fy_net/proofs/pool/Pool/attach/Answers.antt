use Rattle.std.proofs.Common.{◌≡◌, ◌∙◌, ◌<◌, List, ◌∷◌, [], ◌++◌, length, Some, None, sym, ap, arith}
use Rattle.std.specs.Option.{option_or}
use Rattle.std.specs.Prelude.{vec_len}
use Rattle.fy_net.specs.Net.{process_of}
use Rattle.fy_net.specs.Pool.{chain_at, with_link}
use Rattle.fy_net.proofs.Busy.{busy_elsewhere}
use Rattle.fy_net.proofs.Chaining.{attached, chain_there}
use Rattle.fy_net.proofs.Pooling.{chain_known, known_there}
use Rattle.fy_net.proofs.pool.Pool.attach.Goals as goal

pub index-ends-requires : goal.index-ends-requires
index-ends-requires c =
    let pool = c.args.self.now in
    let n = vec_len pool.links in
    let within : n < length pool.slots.items = omega (arith, pool.slots.ok.0, c.requires.within) in
    let s_is = rw c.len-place.ensures at c.index.ensures in
    omega (arith, c.chain-chain.ensures, chain_there pool.processes pool.slots.items n c.index.result.now within s_is, chain_known pool.processes pool.slots.items n within c.requires.known, c.requires.chained.wide, pool.ends.ok.0)

pub update_busy-requires-clause-others : goal.update_busy-requires-clause-others
update_busy-requires-clause-others c =
    let pool = c.args.self.now in
    let body = c.index.result.now.message.body in
    let s_is = rw c.len-place.ensures at c.index.ensures in
    let known : process_of body < pool.processes = known_there pool.processes pool.slots.items (vec_len pool.links) c.index.result.now c.requires.known (omega (arith, pool.slots.ok.0, c.requires.within)) s_is in
    λ q other. c.requires.noted q ∙ sym (rw c.chain-chain.ensures (busy_elsewhere pool.processes pool.ends.items body (record { first = c.or.result; last = Some c.len-place.result }) q known (λ same. other (same ∙ sym c.process.ensures))))

pub returns-clause-chained : goal.returns-clause-chained
returns-clause-chained c =
    let pool = c.args.self.now in
    let n = vec_len pool.links in
    let e = c.index-ends.result.now in
    let within : n < length pool.slots.items = omega (arith, pool.slots.ok.0, c.requires.within) in
    let s_is = rw c.len-place.ensures at c.index.ensures in
    let own : c.chain-chain.result ≡ chain_at pool.processes pool.slots.items n =
    c.chain-chain.ensures ∙ chain_there pool.processes pool.slots.items n c.index.result.now within s_is in
    let e_is = rw own at c.index-ends.ensures in
    let links : c.push_reserved.new.self.items ≡ with_link e.last n pool.links.items ++ None ∷ [] = c.push_reserved.ensures.items ∙ ap (λ (l : List _). l ++ None ∷ []) (rw c.len-place.ensures at c.link_last.ensures.items) in
    let first : c.or.result ≡ option_or e.first (Some n) = rw c.len-place.ensures at c.or.ensures in
    let known : chain_at pool.processes pool.slots.items n < length pool.ends.items = omega (arith, chain_known pool.processes pool.slots.items n within c.requires.known, c.requires.chained.wide) in
    let done = attached pool.processes n pool.slots.items pool.links.items pool.ends.items e c.requires.chained c.requires.there known e_is in
    rw (c.update_busy.ensures.rest, links, own, first, c.len-place.ensures) done
