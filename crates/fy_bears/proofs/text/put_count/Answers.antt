use Rattle.std.proofs.Common.{◌≡◌, ◌++◌, OnOk, codes, string_bytes, subst}
use Rattle.fy_bears.specs.Pieces.{between}
use Rattle.fy_bears.proofs.text.put_count.Goals as goal

pub returns : goal.returns
returns c =
    subst (λ n. OnOk c.put_between.result (string_bytes c.put_between.new.out
    ≡ string_bytes c.args.out.now ++ between (codes "processes: ") n (codes "\n")))
    c.len.ensures.count c.put_between.ensures
