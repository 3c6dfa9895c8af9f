use Rattle.std.proofs.Common.{◌∙◌, sym}
use Rattle.fy_history.proofs.Texts.{found_if, absent}
use Rattle.fy_history.proofs.names.Names.place.Goals as goal

pub returns-clause-found : goal.returns-clause-found
returns-clause-found c =
    rw (← c.self.view_is) (found_if c.args.text.now c.self.inside.texts.keys
    c.get_index_of.result c.get_index_of.ensures.index)

pub returns-clause-absent : goal.returns-clause-absent
returns-clause-absent c = λ none.
    rw (← c.self.view_is) (absent c.args.text.now c.self.inside.texts.keys
    (sym c.get_index_of.ensures.index ∙ none))
