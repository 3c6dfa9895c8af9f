use Rattle.std.proofs.Common.{rules, ◌≡◌, length}
use Rattle.fy_spelling.proofs.Joined.{on_ok, put_whole, put_none}
use Rattle.fy_spelling.proofs.Same.{command_same}
use Rattle.fy_spelling.proofs.writing.put_command.Goals as goal

pub returns-clause-ok : goal.returns-clause-ok
returns-clause-ok c =
    put_whole c.put_pieces-put.result _ _ _ c.args.out.now c.put_pieces-put.new.out _
    c.all_or_nothing.ensures.answer c.put_pieces-put.ensures.text
    (on_ok c.put_pieces-put.result (command_same c.args.command.now) c.put_pieces-put.ensures.bare)
    c.all_or_nothing.ensures.ok

pub returns-clause-err : goal.returns-clause-err
returns-clause-err c =
    let count : c.len-length.result ≡ length c.args.out.now.items = search rules in
    put_none c.put_pieces-put.result _ _ c.args.out.now c.put_pieces-put.new.out _ c.len-length.result
    c.all_or_nothing.ensures.answer c.put_pieces-put.ensures.text count c.all_or_nothing.ensures.err
