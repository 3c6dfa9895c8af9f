use Rattle.std.proofs.Common.{◌≤◌, ◌-◌, length, ap, arith}
use Rattle.fy_lines.specs.Windows.{WindowState}
use Rattle.fy_lines.proofs.WindowLemmas.{slice_advance, slice_short}
use Rattle.fy_lines.proofs.windows.Window.drop_front.Goals as goal

pub returns-clause-held : goal.returns-clause-held
returns-clause-held c =
    let window = c.self.inside in
    let short = slice_short window.buffer.items window.start window.end in
    let same = ap (λ (w : WindowState). length w.held) c.self.view_is in
    let asked = c.requires in
    let few : c.args.count ≤ window.end - window.start = omega arith in
    rw (← c.self.view_is) (slice_advance window.buffer.items window.start window.end c.args.count few)
