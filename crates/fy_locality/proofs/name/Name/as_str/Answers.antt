use Rattle.std.proofs.Common.{sym, subst}
use Rattle.std.specs.Str.{IsUtf8}
use Rattle.fy_locality.proofs.NameLemmas.{IsUtf8-name}
use Rattle.fy_locality.proofs.name.Name.as_str.Goals as goal

pub unreachable-requires : goal.unreachable-requires
unreachable-requires c = c.in-Err.ensures.cases.0 (subst IsUtf8 (sym c.as_bytes.ensures.bytes) (IsUtf8-name c.args.self.now c.as_bytes.ensures.name))
