use Rattle.std.proofs.Common.{◌≡◌, ◌∙◌, ◌++◌, ℕ, List, IfOk, string_bytes, length, codes, decimal, append_assoc, ap, sym, subst}
use Rattle.fy_where.proofs.config.counts_of.Goals as goal

-- the pieces of a line, put together as a format has them
regrouped : (a b c d e f g h i j k l m : List ℕ) →
    (a ++ (b ++ (c ++ (d ++ (e ++ (f ++ (g ++ (h ++ (i ++ (j ++ (k ++ l))))))))))) ++ m ≡
    a ++ b ++ c ++ d ++ e ++ f ++ g ++ h ++ i ++ j ++ k ++ l ++ m
regrouped a b c d e f g h i j k l m = simp append_assoc

pub returns : goal.returns
returns c =
    let processes = c.len-processes.ensures.count ∙ ap length c.map.ensures in
    let policies = ap length c.policies.ensures in
    let actors = c.actors-actors.ensures in
    let grants = ap length c.grants.ensures in
    let protections = ap length c.protections.ensures in
    let limit = c.journal_limit-limit.ensures in
    rw (sym processes, sym policies, sym actors, sym grants, sym protections, sym limit)
    (subst (λ line. IfOk c.format.result (λ text. string_bytes text ≡ line))
    (regrouped (codes "ok: processes ") (decimal c.len-processes.result) (codes ", policies ")
    (decimal (length c.policies.result.now)) (codes ", actors ") (decimal c.actors-actors.result)
    (codes ", grants ") (decimal (length c.grants.result.now)) (codes ", protections ")
    (decimal (length c.protections.result.now)) (codes ", journal limit ")
    (decimal c.journal_limit-limit.result) (codes "\n"))
    c.format.ensures.ok)
