use Rattle.std.proofs.Common.{◌≡◌, ◌∙◌, ◌≤◌, List, true, ◌&&◌, nat_le, length, sym, ap, subst, arith}
use Rattle.std.proofs.lemmas.Bool.{and_parts}
use Rattle.std.proofs.lemmas.Bool.Decides.{nat_tests}
use Rattle.fy_acts.specs.declared.entry.Entry.{Entry}
use Rattle.fy_cluster.specs.declared.config.TheConstants.{MOST_JOURNAL_ENTRIES}
use Rattle.fy_cluster.specs.declared.machine.Machine.{Machine}
use Rattle.fy_cluster.specs.Setup.{Setup, is_between}
use Rattle.fy_cluster.specs.Execution.{Execution}
use Rattle.fy_cluster.specs.Standing.{RefinesJournal}
use Rattle.fy_cluster.proofs.cluster_state.ClusterState.try_copy.Goals as goal

-- what is handed in is the trail
handed : (config : Setup) (trail entries : List Entry) (now : Execution) → record { setup = config; journal = trail } ≡ now → entries ≡ now.journal → entries ≡ trail
handed config trail entries now seen is = is ∙ sym (ap (λ (execution : Execution). execution.journal) seen)

-- a trail has no more entries than a journal may have
few : (c : Setup) (trail : List Entry) (m : Machine) → RefinesJournal c trail m → length trail ≤ MOST_JOURNAL_ENTRIES
few c trail m kept =
    let range : (nat_le 1 c.limit && nat_le c.limit 1048576) ≡ true = (and_parts _ (is_between 1 1048576 c.limit) kept.setup.in_range).1 in
    let most : nat_le c.limit 1048576 ≡ true = (and_parts (nat_le 1 c.limit) (nat_le c.limit 1048576) range).1 in
    let limit : c.limit ≤ 1048576 = grind (arith, nat_tests) in
    let count : length trail ≤ c.limit = kept.legal.0 in
    omega arith

pub of-requires : goal.of-requires
of-requires c =
    subst (λ (entries : List Entry). length entries ≤ MOST_JOURNAL_ENTRIES) (sym (handed c.self.inside.config c.self.inside.trail c.args.journal.now c.args.self.now c.self.view_is c.requires))
    (few c.self.inside.config c.self.inside.trail c.self.inside.machine c.self.invariant)

pub invariant_of-result : goal.invariant_of-result
invariant_of-result c =
    rw (c.in_ok-try_copy.ensures, c.in_ok-of.ensures, c.in_ok-try_copy-2.ensures)
    (subst (λ (entries : List Entry). RefinesJournal c.self.inside.config entries c.self.inside.machine) (sym (handed c.self.inside.config c.self.inside.trail c.args.journal.now c.args.self.now c.self.view_is c.requires)) c.self.invariant)
