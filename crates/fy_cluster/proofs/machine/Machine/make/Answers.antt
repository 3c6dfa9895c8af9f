use Rattle.std.proofs.Common.{◌≡◌, ◌≤◌, length, replicate, ap, subst, ◌∙◌, nat_lt}
use Rattle.fy_net.specs.Net.{quiet}
use Rattle.fy_disk.specs.Disk.{empty_disk}
use Rattle.fy_cluster.proofs.Starting.{stands_at_start}
use Rattle.fy_cluster.proofs.machine.Machine.make.Goals as goal

pub returns : goal.returns
returns c =
    let count : c.len-processes.result ≡ length c.args.config.now.processes = c.len-processes.ensures.count ∙ ap length c.map.ensures in
    stands_at_start c.args.config.now _
    (subst (λ processes. length processes ≤ 1024) c.map.ensures c.len-processes.ensures.few)
    c.in_ok-nobody_destroyed.ensures
    c.in_ok-first_rights.ensures
    (c.in_ok-make.ensures ∙ ap (λ n. replicate n empty_disk) count)
    (λ p. c.everyone.ensures p ∙ ap (λ processes. nat_lt p (length processes)) c.map-2.ensures)
    (c.in_ok-quiet_net.ensures ∙ ap quiet count)
    c.make-2.ensures
