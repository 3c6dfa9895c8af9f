use Rattle.std.proofs.Common.{◌≡◌, ◌≤◌, ◌∙◌, ℕ, length, refl, sym, ap, subst}
use Rattle.std.specs.Prelude.{Some, slice_get}
use Rattle.std.proofs.lemmas.Option.{slice_get_read}
use Rattle.fy_cluster.specs.Execution.{Execution}
use Rattle.fy_holders.specs.Turns.{turned}
use Rattle.fy_holders.specs.Destroyed.{destroyed_at}
use Rattle.fy_holders.proofs.outages.Outages.was_destroyed.Goals as goal

pub returns-in-Some-clause-there : goal.returns-in-Some-clause-there
returns-in-Some-clause-there c = λ below within.
    let inside = c.self.inside in
    let there : slice_get inside.turns.items c.args.process.0 ≡ Some c.in-Some.turns.now = subst (λ xs. slice_get xs c.args.process.0 ≡ Some c.in-Some.turns.now) c.deref.ensures.value (slice_get_read c.deref.result.now _ c.args.process.0 c.in-Some.turns.now refl c.in-Some.ensures.lookup.3.0 c.in-Some.ensures.lookup.1) in
    let each = (c.self.invariant.noted.turns_are.each c.args.process.0 c.in-Some.turns.now there).each in
    let is : (m : ℕ) → m ≤ length c.args.self.now.journal → destroyed_at c.args.self.now.setup c.args.self.now.journal m c.args.process.0 ≡ turned c.in-Some.turns.now.items m = subst (λ (x : Execution). (m : ℕ) → m ≤ length x.journal → destroyed_at x.setup x.journal m c.args.process.0 ≡ turned c.in-Some.turns.now.items m) c.self.view_is each in
    c.is_destroyed_at.ensures ∙ ap (λ list. turned list c.args.position) c.deref-in-Some.ensures.value ∙ sym (is c.args.position within)
