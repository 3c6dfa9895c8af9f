use Rattle.std.proofs.Common.{rules, ◌≡◌, refl}
use Rattle.fy_kinds.specs.declared.kind.Kind.TheVariants.{RebootProcess, Reboot, RebootAndDelete, KillInstantly}
use Rattle.fy_kinds.specs.Kinds.{Striking, only}
use Rattle.fy_grants.proofs.cover.Cover.group.Goals as goal

pub returns-then-eq : goal.returns-then-eq
returns-then-eq c = let single : c.args.kinds ≡ only (Striking RebootProcess) = search rules in record { deed = Striking RebootProcess; single = single; is = refl }

pub returns-then-eq-2 : goal.returns-then-eq-2
returns-then-eq-2 c = let single : c.args.kinds ≡ only (Striking Reboot) = search rules in record { deed = Striking Reboot; single = single; is = refl }

pub returns-then-eq-3 : goal.returns-then-eq-3
returns-then-eq-3 c = let single : c.args.kinds ≡ only (Striking RebootAndDelete) = search rules in record { deed = Striking RebootAndDelete; single = single; is = refl }

pub returns-then-eq-4 : goal.returns-then-eq-4
returns-then-eq-4 c = let single : c.args.kinds ≡ only (Striking KillInstantly) = search rules in record { deed = Striking KillInstantly; single = single; is = refl }
