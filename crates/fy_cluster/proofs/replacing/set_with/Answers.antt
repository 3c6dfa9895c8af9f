use Rattle.std.proofs.Common.{◌==◌, ◌≡◌, ◌||◌, ◌&&◌, ℕ, Bool, true, false, not, get_or, take, ap, ap₂, sym, ◌∙◌, arith, refl}
use Rattle.std.proofs.lemmas.Bool.Decides.{nat_tests}
use Rattle.std.proofs.lemmas.List.{take_all}
use Rattle.std.proofs.lemmas.List.Folds.{list_any_more}
use Rattle.std.specs.Ordering.{nat_cmp}
use Rattle.std.specs.FinSet as sets
use Rattle.std.specs.Cmp.{nat_cmp_total, unsigned_tied}
use Rattle.fy_locality.specs.declared.ProcId.{ProcId}
use Rattle.fy_team.specs.Teams.{is_among}
use Rattle.fy_cluster.proofs.replacing.set_with.Goals as goal

pub loop-p-init : goal.loop-p-init
loop-p-init c = λ q. ap (λ s. sets.contains s q) c.empty-set.ensures ∙ sets.contains-empty nat_cmp q

either_way : (q p : ℕ) (b : Bool) → (q == p || b) ≡ (b || p == q)
either_way q p b = ap (λ t. t || b) swap ∙ turned (p == q) b
  where
    swap : (q == p) ≡ (p == q)
    swap = grind (arith, nat_tests)

    turned : (a b : Bool) → (a || b) ≡ (b || a)
    turned true true = refl
    turned true false = refl
    turned false true = refl
    turned false false = refl

pub loop-p-preserved : goal.loop-p-preserved
loop-p-preserved c = λ q.
    let p : ProcId = get_or c.args.members.now c.loop-p.p-index (record { 0 = 0 }) in
    ap (λ s. sets.contains s q) c.put.ensures
    ∙ sets.contains-insert nat_cmp_total c.loop-p.set p.0 q
    ∙ ap (λ b. b || sets.contains c.loop-p.set q) (unsigned_tied q p.0)
    ∙ ap (λ b. q == p.0 || b) (c.loop-p.invariant q)
    ∙ either_way q p.0 (is_among (take c.loop-p.p-index c.args.members.now) q)
    ∙ sym (list_any_more (λ m. m.0 == q) c.args.members.now c.loop-p.p-index (record { 0 = 0 }) c.loop-p-test.true)

pub returns : goal.returns
returns c = λ q.
    ap (λ s. sets.contains s q) c.put-2.ensures
    ∙ sets.contains-insert nat_cmp_total c.drop_one.new.self c.args.into.0 q
    ∙ ap₂ (λ a b. a || b) (unsigned_tied q c.args.into.0)
    (ap (λ s. sets.contains s q) c.drop_one.ensures
    ∙ sets.contains-remove nat_cmp_total c.loop-p.set c.args.out.0 q
    ∙ ap₂ (λ a b. not a && b) (unsigned_tied q c.args.out.0) (c.loop-p.invariant q ∙ ap (λ ps. is_among ps q) (take_all _ _ c.loop-p-test.false)))
    ∙ sym (c.a_replacement_changes_one_team.ensures.among c.args.out c.args.into c.args.members.now q)
