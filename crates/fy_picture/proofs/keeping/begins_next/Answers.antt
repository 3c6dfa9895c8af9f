use Rattle.std.proofs.Common.{[], ◌≡◌, ◌∙◌, ◌≤◌, ℕ, Bool, true, false, not, length, refl, sym, ap}
use Rattle.std.specs.Prelude.{Option, Some, None, IfSome, is_some}
use Rattle.std.proofs.lemmas.Bool.{false≢true}
use Rattle.std.proofs.lemmas.Option.{slice_get_past}
use Rattle.std.specs.Option.{option_map_or}
use Rattle.fy_locality.specs.declared.ProcId.{ProcId}
use Rattle.fy_team.specs.Teams.{is_among}
use Rattle.fy_cluster.specs.Execution.{history_of}
use Rattle.fy_cluster.specs.History.{History, BegunRecord, records, members_of}
use Rattle.fy_cluster.specs.Sights.{IsLeastKeeper}
use Rattle.fy_picture.proofs.keeping.begins_next.Goals as goal

-- nobody keeps a record that isn't begun
unkept : (h : History) (rec : ℕ) (k : Option ProcId) → length (records h) ≤ rec → IfSome k (IsLeastKeeper h rec) → is_some k ≡ false
unkept h rec None l is = refl
unkept h rec (Some p) l is =
    let nobody = ap (λ o. option_map_or (λ (b : BegunRecord). members_of h b.team) o []) (slice_get_past (records h) rec l) in
    absurd (false≢true (sym (ap (λ ps. is_among ps p.0) nobody) ∙ is.member))

is_true : (b : Bool) → not b ≡ false → b ≡ true
is_true true e = refl
is_true false e = absurd (false≢true (sym e))

pub returns-clause-only : goal.returns-clause-only
returns-clause-only c = λ few begun unbegun.
    is_true c.is_none.result (sym c.is_none.ensures ∙ unkept (history_of c.args.cluster.now) c.args.known c.keeper.result unbegun c.keeper.ensures.least)
