use Rattle.std.proofs.Common.{rules, ◌≡◌, [], None, refl, sym, ap, subst}
use Rattle.fy_picture.specs.Recording.{HasRecorded, Recording, begun}
use Rattle.fy_show.proofs.Showing.{drawn_known}
use Rattle.fy_show.proofs.show.draw.Goals as goal

pub read_into-requires-clause-begun : goal.read_into-requires-clause-begun
read_into-requires-clause-begun g c =
    let start = c.in_ok-drawing.drawing in (
      subst (λ setup. HasRecorded setup [] start) (sym (ap (λ (r : Recording). r.execution.setup) c.in_ok-drawing.ensures.begun))
          c.in_ok-drawing.ensures.recorded,
      refl,
      refl,
    )

pub returns-in_err-count-clause-read_fault : goal.returns-in_err-count-clause-read_fault
returns-in_err-count-clause-read_fault g c = λ is.
    c.read_into.ensures.read_fault (search rules) (g.R.Read.remaining c.args.reader.now) c.in_ok-input.ensures.begun

pub returns-in_err-count-clause-no_further : goal.returns-in_err-count-clause-no_further
returns-in_err-count-clause-no_further g c =
    c.read_into.ensures.no_further (g.R.Read.remaining c.args.reader.now) c.in_ok-input.ensures.begun

pub returns-clause-no_further : goal.returns-clause-no_further
returns-clause-no_further g c =
    c.read_into.ensures.no_further (g.R.Read.remaining c.args.reader.now) c.in_ok-input.ensures.begun

pub returns-clause-drawn : goal.returns-clause-drawn
returns-clause-drawn g c =
    let setup = c.args.config.now in
    let known = g.R.Read.remaining c.args.reader.now in
    let start = c.in_ok-drawing.drawing in
    drawn_known setup known c.in_ok-input.input.version start _
    (subst (λ version. start ≡ begun version setup None) c.version.ensures c.in_ok-drawing.ensures.begun)
    (c.in_ok-count.ensures.read known c.in_ok-input.ensures.begun)
