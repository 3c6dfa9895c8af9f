use Rattle.std.proofs.Common.{codes, ◌++◌, decimal, false}
use Rattle.fy_spelling.specs.Pieces.{deeds_text, scope_text}
use Rattle.fy_spelling.specs.Values.{in_order}
use Rattle.fy_spelling.proofs.Joined.{joins}
use Rattle.fy_spelling.proofs.writing.acts.put_give.Goals as goal

pub returns-clause-text : goal.returns-clause-text
returns-clause-text c =
    let grant = c.args.grant.now in
    let actor = codes "{\"give\":{\"actor\":" ++ decimal grant.actor in
    let middle = codes ",\"kinds\":[" in
    let kinds = deeds_text false (in_order grant.kinds) in
    joins _ actor (middle ++ (kinds ++ scope_text grant.scope)) c.args.out.now c.put_number.new.out _
    c.in_ok-put_number.ensures
    (joins _ middle (kinds ++ scope_text grant.scope) c.put_number.new.out c.put.new.out _ c.in_ok-put.ensures
    (joins _ kinds (scope_text grant.scope) c.put.new.out c.put_kinds.new.out _ c.in_ok-put_kinds.ensures c.put_scope.ensures.text))
