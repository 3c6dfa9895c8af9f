use Rattle.std.proofs.Common.{string_bytes}
use Rattle.fy_svg.proofs.Marking.{marked}
use Rattle.fy_svg.proofs.frame.write_bad.Goals as goal

pub returns : goal.returns
returns c =
    marked c.args.at (string_bytes c.args.text.now) (string_bytes c.write.new.self) _ (string_bytes c.writeln.new.self) _ (string_bytes c.writeln-2.new.self)
    c.in_ok-write.ensures.bytes c.in_ok-writeln.ensures.bytes c.in_ok-writeln-2.ensures.bytes
