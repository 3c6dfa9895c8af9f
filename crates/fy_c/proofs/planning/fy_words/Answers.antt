use Rattle.std.proofs.Common.{◌∙◌, refl}
use Rattle.fy_c.specs.Planning.{Draws}
use Rattle.fy_c.specs.declared.status.Status.TheVariants.{Done, NoMemory}
use Rattle.fy_c.proofs.planning.fy_words.Goals as goal

pub returns-in_default : goal.returns-in_default
returns-in_default c = (NoMemory, c.number.ensures, Draws.no_memory refl)

pub returns : goal.returns
returns c = (
  Done,
  c.number-2.ensures,
  Draws.drawn
      (c.copy_from_slice.ensures.after ∙ c.deref.ensures.value ∙ c.in-Ok.ensures),
)
