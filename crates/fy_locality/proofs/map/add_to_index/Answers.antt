use Rattle.std.proofs.Common.{Some, subst, sym, ap, ◌∙◌}
use Rattle.std.specs.FinSet as sets
use Rattle.std.specs.Map.{keys_of}
use Rattle.fy_locality.specs.Indexed.{IsValueIndex}
use Rattle.fy_locality.specs.Noted.{AddsToIndex}
use Rattle.fy_locality.proofs.Indexes.{AddsToIndex-some, on_ok, placed}
use Rattle.fy_locality.proofs.map.add_to_index.Goals as goal

pub returns-clause-notes : goal.returns-clause-notes
returns-clause-notes c =
    let done = c.insert_full.ensures.succeeds c.requires.room in
    subst (λ value. AddsToIndex c.args.index.now.entries value c.args.p.0 c.insert_full.new.self.entries) (sym c.in_ok-name.was)
    (AddsToIndex-some _ _ c.in_ok-name.name c.args.p.0 _ (on_ok _ done c.insert_full.ensures.entries) (λ w. (on_ok _ done c.insert_full.ensures.updates).0 w)
    (c.put.ensures ∙ ap (λ s. sets.insert s c.args.p.0) c.group-members.ensures))

pub returns-clause-place : goal.returns-clause-place
returns-clause-place c =
    let done = c.insert_full.ensures.succeeds c.requires.room in
    subst (λ value. IsValueIndex (keys_of c.insert_full.new.self.entries) value (Some c.in-Ok.place)) (sym c.in_ok-name.was)
    (placed _ _ c.in_ok-name.name _ c.in-Ok.place (on_ok _ done c.insert_full.ensures.entries) c.in-Ok.ensures.index)
