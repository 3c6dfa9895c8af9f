use Rattle.std.proofs.Common.{take}
use Rattle.std.specs.List.{AllByRecursion}
use Rattle.fy_spelling.specs.Fits.{IsByte}
use Rattle.fy_spelling.proofs.fits.bytes_fit.Given as goal

abbrev pub invariant-loop-byte : goal.invariant-loop-byte
invariant-loop-byte l = AllByRecursion IsByte (take l.byte-index l.bytes)
