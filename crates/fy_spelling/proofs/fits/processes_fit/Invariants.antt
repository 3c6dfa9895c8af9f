use Rattle.std.proofs.Common.{take}
use Rattle.std.specs.List.{AllByRecursion}
use Rattle.fy_spelling.specs.Fits.{IsProcess}
use Rattle.fy_spelling.proofs.fits.processes_fit.Given as goal

abbrev pub invariant-loop-p : goal.invariant-loop-p
invariant-loop-p l = AllByRecursion IsProcess (take l.p-index l.processes)
