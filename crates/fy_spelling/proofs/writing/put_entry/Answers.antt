use Rattle.std.proofs.Common.{rules, ◌≡◌, length}
use Rattle.fy_spelling.proofs.Joined.{on_ok, put_whole, put_none, put_full, put_room}
use Rattle.fy_spelling.proofs.Same.{bare_of, entry_same}
use Rattle.fy_spelling.proofs.writing.put_entry.Goals as goal

pub returns-clause-ok : goal.returns-clause-ok
returns-clause-ok c =
    put_whole c.put_entry_pieces-put.result _ _ _ c.args.out.now c.put_entry_pieces-put.new.out _
    c.all_or_nothing.ensures.answer c.put_entry_pieces-put.ensures.text
    (on_ok c.put_entry_pieces-put.result (entry_same c.args.entry.now) c.put_entry_pieces-put.ensures.bare)
    c.all_or_nothing.ensures.ok

pub returns-clause-err : goal.returns-clause-err
returns-clause-err c =
    let count : c.len-length.result ≡ length c.args.out.now.items = search rules in
    put_none c.put_entry_pieces-put.result _ _ c.args.out.now c.put_entry_pieces-put.new.out _ c.len-length.result
    c.all_or_nothing.ensures.answer c.put_entry_pieces-put.ensures.text count c.all_or_nothing.ensures.err

pub returns-clause-full : goal.returns-clause-full
returns-clause-full c =
    let entry = c.args.entry.now in
    put_full c.put_entry_pieces-put.result _ _ _ c.args.out.now c.put_entry_pieces-put.new.out
    c.all_or_nothing.ensures.answer c.put_entry_pieces-put.ensures.text
    (entry_same entry (bare_of entry.act c.act_fits.ensures))

pub returns-clause-capacity : goal.returns-clause-capacity
returns-clause-capacity c =
    put_room c.put_entry_pieces-put.result _ _ c.args.out.now c.put_entry_pieces-put.new.out
    c.all_or_nothing.new.out
    c.all_or_nothing.ensures.answer c.put_entry_pieces-put.ensures.text c.all_or_nothing.ensures.capacity
