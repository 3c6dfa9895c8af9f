use Rattle.std.proofs.Common.{◌∙◌, ap, refl}
use Rattle.fy_c.specs.Faults.{Faults}
use Rattle.fy_c.specs.Statuses.{number, config_status}
use Rattle.fy_c.specs.declared.status.Status.TheVariants.{Done}
use Rattle.fy_c.proofs.Begun.{faults_of}
use Rattle.fy_c.proofs.faults.fy_config_fault.Goals as goal

pub returns-in-Ok : goal.returns-in-Ok
returns-in-Ok c =
    (Done, c.number.ensures, Faults.none c.in-Ok.field-0 c.in-Ok.ensures.answers refl refl)

pub returns : goal.returns
returns c = (
  config_status c.in-Err.fault,
  c.number-2.ensures ∙ ap number c.from.ensures,
  faults_of c.args.config.now c.read_config.result c.in-Err.fault c.part_of.result
      c.place_of.result c.in-Err.is c.read_config.ensures.too_long
      c.read_config.ensures.not_text c.in-Err.ensures.answers c.part_of.ensures
      c.place_of.ensures,
)
