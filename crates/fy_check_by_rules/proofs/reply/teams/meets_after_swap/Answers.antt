use Rattle.std.proofs.Common.{◌≡◌, ◌∙◌, ap, rules}
use Rattle.fy_team.specs.Teams.{is_among, swapped}
use Rattle.fy_cluster.specs.Replies.{meets}
use Rattle.fy_check_by_rules.proofs.reply.teams.meets_after_swap.Goals as goal

pub returns : goal.returns
returns c =
    let setup = c.args.before.now.config.now in
    let policy = c.args.current.now.policy in
    let told : c.meets-met.result ≡ meets setup policy (is_among c.in_ok-then.then.items) = search rules in
    let then : c.in_ok-then.then.items ≡ swapped c.args.swap.out c.args.swap.into c.args.current.now.members.items = search rules in
    told ∙ ap (λ members. meets setup policy (is_among members)) then
