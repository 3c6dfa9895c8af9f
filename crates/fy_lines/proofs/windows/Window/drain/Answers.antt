use Rattle.std.proofs.Common.{rules, ◌≤◌, ◌∙◌, refl}
use Rattle.fy_lines.proofs.WindowLemmas.{reads_on}
use Rattle.fy_lines.proofs.windows.Window.drain.Goals as goal

pub returns-in_err-fill-clause-read : goal.returns-in_err-fill-clause-read
returns-in_err-fill-clause-read g c =
    reads_on c.args.self.now c.loop-self.self c.loop-self.self c.fill.new.self _ (g.R.Read.remaining c.loop-self.reader) _
    c.loop-self.invariant.2 refl c.fill.ensures.slides

pub loop-self-preserved : goal.loop-self-preserved
loop-self-preserved g c =
    let emptied = c.drop_all-in-loop-self.ensures in
    let within : c.drop_all-in-loop-self.new.self.read ≤ c.args.limit = search rules in
    let on = reads_on c.args.self.now c.loop-self.self c.loop-self.self c.fill.new.self _ (g.R.Read.remaining c.loop-self.reader) _
    c.loop-self.invariant.2 refl c.fill.ensures.slides in (
      emptied.held,
      within,
      record { more = on.more; consumed = on.consumed; counted = emptied.read ∙ on.counted },
    )
