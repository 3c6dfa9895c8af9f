use Rattle.std.proofs.Common.{Ok, Err, subst}
use Rattle.fy_config.specs.Config.{ConfigOf, UnlessOom}
use Rattle.fy_where.proofs.Loading.{if_known, fault_told}
use Rattle.fy_where.proofs.config.load_explained.Goals as goal

pub returns-in-Ok-read_config-clause-loaded : goal.returns-in-Ok-read_config-clause-loaded
returns-in-Ok-read_config-clause-loaded g c =
    if_known (g.R.Read.remaining c.args.reader.now) c.in-Ok.bytes.items _ c.in-Ok.ensures.all
    (subst (λ bytes. ConfigOf bytes (Ok c.in-Ok-read_config.config)) c.deref.ensures.value
    c.in-Ok-read_config.ensures.answers)

pub returns-clause-refused : goal.returns-clause-refused
returns-clause-refused g c =
    let known = g.R.Read.remaining c.args.reader.now in
    let fault = c.in-Err-read_config.fault in
    let holds =
    subst (λ bytes. UnlessOom (ConfigOf bytes) (Err fault)) c.deref.ensures.value
    c.in-Err-read_config.ensures.answers in
    rw (c.explained-in-Err-read_config.ensures, c.from.ensures)
    (fault_told known c.in-Ok.bytes.items fault c.in-Ok.ensures.all holds)
