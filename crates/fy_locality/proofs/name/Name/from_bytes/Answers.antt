use Rattle.std.proofs.Common.{subst, sym, ◌++◌, length, drop, List, ℕ}
use Rattle.std.specs.Prelude.{replicate}
use Rattle.fy_locality.specs.Name.{IsStored}
use Rattle.fy_locality.proofs.NameLemmas.{IsStored-made}
use Rattle.fy_locality.proofs.name.Name.from_bytes.Goals as goal

pub invariant_of-result : goal.invariant_of-result
invariant_of-result c =
    let P : List ℕ → Type 0 = λ v. IsStored (v ++ drop (length c.args.given.now) (replicate 32 0)) (length c.args.given.now) in
    subst P (sym c.copy_from_slice.ensures.after) (IsStored-made c.args.given.now (sym c.if-not-spells_name.ensures))
