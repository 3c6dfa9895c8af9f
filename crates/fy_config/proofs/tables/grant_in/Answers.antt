use Rattle.std.proofs.Common.{codes}
use Rattle.toml.specs.Data.{get_member}
use Rattle.toml.specs.View.{table_view}
use Rattle.fy_config.specs.Tables.{kinds_at, scope_of}
use Rattle.fy_config.proofs.Built.{grant_built}
use Rattle.fy_config.proofs.tables.grant_in.Goals as goal

pub returns : goal.returns
returns c =
    let ms = table_view c.args.table.now in
    grant_built c.in_ok-kinds.kinds c.in_ok-scope.scope (kinds_at (codes "kinds") ms)
    (scope_of (get_member (codes "key") ms) (get_member (codes "value") ms))
    c.in_ok-kinds.ensures
    (rw (c.find.ensures, c.find-2.ensures) at c.in_ok-scope.ensures)
