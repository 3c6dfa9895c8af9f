use Rattle.std.proofs.Common.{[], ◌≡◌, ◌∙◌, ◌+◌, ◌++◌, ◌∷◌, ℕ, Bool, false, length, refl, sym, subst, ap, ap₂, option_to_list, rules}
use Rattle.std.specs.Prelude.{Option, Some, None, IsTrue, is_some}
use Rattle.std.specs.FinSet as sets
use Rattle.std.proofs.lemmas.Bool.{false≢true}
use Rattle.fy_cluster.specs.Execution.{Execution, history_of}
use Rattle.fy_cluster.specs.History.{destroyed, history}
use Rattle.fy_cluster.specs.Setup.{IsSetup}
use Rattle.fy_cluster.specs.Versions.{LegalUnder}
use Rattle.fy_replay.specs.Replayed.{HasReplayed}
use Rattle.fy_holders.specs.Noted.{AreNoted}
use Rattle.fy_holders.specs.Watched.{Watched}
use Rattle.fy_holders.proofs.Watching.{next_of, none_before, noted_more, place_fits, turned_set, turns_by}
use Rattle.fy_holders.proofs.watch.Watch.enter.Goals as goal

none_of : (o p : Option ℕ) (b : Bool) → o ≡ p → b ≡ is_some o → b ≡ false → p ≡ None
none_of o p b same is e = at p (sym (ap is_some same) ∙ sym is ∙ e)
  where
    at : (p : Option ℕ) → is_some p ≡ false → p ≡ None
    at None e = refl
    at (Some x) e = absurd (false≢true (sym e))

pub overflow_add-self : goal.overflow_add-self
overflow_add-self c =
    let inside = c.self.inside in
    let none = none_of c.first_bad.result c.enter.new.self.first_bad c.is_some.result c.first_bad.ensures c.is_some.ensures c.if-is_some.false in
    let before = none_before inside.replayer c.enter.new.self c.enter.ensures.stays none in
    let sound = c.self.invariant (subst (λ (w : Watched). IsTrue w.is_whole) (sym c.self.view_is) c.in_ok-check_whole.ensures.whole) before in
    let next = next_of inside.replayer c.enter.new.self c.args.entry sound.legal before c.enter.ensures.version c.in_ok-enter.ensures.entered none in
    let place : c.args.entry.at ≡ length inside.replayer.execution.journal = subst (λ (w : Watched). w.replayed.first_bad ≡ None → c.args.entry.at ≡ length w.replayed.execution.journal) (sym c.self.view_is) c.requires before in
    let setup = subst IsSetup (c.config.ensures ∙ ap (λ (x : Execution). x.setup) (c.cluster-cluster.ensures ∙ next.execution)) c.invariant.ensures in
    let fits = place_fits inside.replayer.execution.setup inside.replayer.execution.journal c.args.entry c.args.entry.at setup next.legal.legal place in
    search (rules, fits)

pub invariant_of-self-2 : goal.invariant_of-self-2
invariant_of-self-2 c = λ whole none.
    let inside = c.self.inside in
    let before = none_before inside.replayer c.enter.new.self c.enter.ensures.stays none in
    let sound = c.self.invariant (subst (λ (w : Watched). IsTrue w.is_whole) (sym c.self.view_is) c.in_ok-check_whole.ensures.whole) before in
    let next = next_of inside.replayer c.enter.new.self c.args.entry sound.legal before c.enter.ensures.version c.in_ok-enter.ensures.entered none in
    let x : Execution = inside.replayer.execution in
    let place : c.args.entry.at ≡ length x.journal = subst (λ (w : Watched). w.replayed.first_bad ≡ None → c.args.entry.at ≡ length w.replayed.execution.journal) (sym c.self.view_is) c.requires before in
    let was : (p : ℕ) → sets.contains c.destroyed-before.result p ≡ destroyed (history_of x) p = λ p. c.destroyed-before.ensures p ∙ ap (λ (x : Execution). destroyed (history_of x) p) c.cluster.ensures in
    let is : (p : ℕ) → sets.contains c.destroyed-after.result p ≡ destroyed (history x.setup (x.journal ++ c.args.entry ∷ [])) p = λ p. c.destroyed-after.ensures p ∙ ap (λ (x : Execution). destroyed (history_of x) p) (c.cluster-cluster.ensures ∙ next.execution) in
    let turned : (p : ℕ) → sets.contains c.turned.result p ≡ turns_by (destroyed (history_of x) p) (destroyed (history x.setup (x.journal ++ c.args.entry ∷ [])) p) = λ p. turned_set c.destroyed-before.result c.destroyed-after.result c.turned.result c.turned.ensures p ∙ ap₂ turns_by (was p) (is p) in
    let noted = noted_more x.setup x.journal c.args.entry (c.args.entry.at + 1) inside.turns.items c.note_turns.new.turns.items inside.heals.items c.note_heal.new.heals.items inside.answers.items c.push.new.self.items c.turned.result next.legal.legal turned (ap (λ n. n + 1) place)
    c.note_turns.ensures.count c.in_ok-note_turns.ensures.noted (c.in_ok-note_heal.ensures ∙ ap (λ o. inside.heals.items ++ option_to_list o) c.heal_of-healed.ensures) (c.in_ok-push.ensures.items ∙ ap (λ a. inside.answers.items ++ a ∷ []) c.answered-answer.ensures) inside.end sound.noted in
    let same = sym next.execution in
    record {
      legal = subst (λ (x : Execution). LegalUnder c.enter.new.self.version x.setup x.journal) same next.legal;
      noted = subst (λ (x : Execution). AreNoted x.setup x.journal (c.args.entry.at + 1) c.note_turns.new.turns.items c.note_heal.new.heals.items c.push.new.self.items) same noted;
    }

pub returns-then-is_some-clause-entered : goal.returns-then-is_some-clause-entered
returns-then-is_some-clause-entered c = λ setup so_far has. c.in_ok-enter.ensures.entered setup so_far (subst (λ (w : Watched). HasReplayed setup so_far w.replayed) (sym c.self.view_is) has)

pub returns-clause-entered : goal.returns-clause-entered
returns-clause-entered c = λ setup so_far has. c.in_ok-enter.ensures.entered setup so_far (subst (λ (w : Watched). HasReplayed setup so_far w.replayed) (sym c.self.view_is) has)
