use Rattle.fy_asking.proofs.Deeds.{five_deeds}
use Rattle.fy_asking.proofs.writing.kinds.put_kinds.Goals as goal

pub returns : goal.returns
returns c =
    five_deeds c.args.kinds c.args.out.now.items c.put_deed.new.out.items c.put_deed-2.new.out.items
    c.put_deed-3.new.out.items c.put_deed-4.new.out.items c.put_deed-5.new.out.items
    c.in_ok-one.one c.in_ok-two.two c.in_ok-three.three c.in_ok-four.four
    (rw c.has.ensures at c.in_ok-one.ensures.text) (rw c.has.ensures at c.in_ok-one.ensures.later)
    (rw c.has-2.ensures at c.in_ok-two.ensures.text) (rw c.has-2.ensures at c.in_ok-two.ensures.later)
    (rw c.has-3.ensures at c.in_ok-three.ensures.text) (rw c.has-3.ensures at c.in_ok-three.ensures.later)
    (rw c.has-4.ensures at c.in_ok-four.ensures.text) (rw c.has-4.ensures at c.in_ok-four.ensures.later)
    (rw c.has_clog.ensures at c.in_ok-put_deed.ensures.text)
