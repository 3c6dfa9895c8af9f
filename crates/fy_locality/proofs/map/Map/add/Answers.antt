use Rattle.std.specs.Option.{option_copied}
use Rattle.fy_locality.specs.Locality.{locality_of}
use Rattle.fy_locality.proofs.Indexes.{no_name, not_true, renamed, unmade}
use Rattle.fy_locality.proofs.map.Map.add.Goals as goal

pub returns-in-Err-clause-refused : goal.returns-in-Err-clause-refused
returns-in-Err-clause-refused c = λ fault e. renamed fault _ e (no_name c.args.self.now (locality_of c.args.id.now c.args.machine.now c.args.zone.now (option_copied c.args.hall) (option_copied c.args.data_center)) (not_true _ c.in-Err.ensures.accepted.1))

pub returns-in-Err-clause-memory : goal.returns-in-Err-clause-memory
returns-in-Err-clause-memory c = λ e. unmade _ e (no_name c.args.self.now (locality_of c.args.id.now c.args.machine.now c.args.zone.now (option_copied c.args.hall) (option_copied c.args.data_center)) (not_true _ c.in-Err.ensures.accepted.1))
