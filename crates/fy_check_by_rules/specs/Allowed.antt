-- the reply to an act that its actor may make
use Rattle.std.specs.Prelude.{ℕ}
use Rattle.fy_acts.specs.declared.act.Act.{Act}
use Rattle.fy_acts.specs.declared.reply.Reply.{Reply}
use Rattle.fy_cluster.specs.Replies.{first_refusal_or, refusals, answer}
use Rattle.fy_check_by_rules.specs.declared.past.Past.{Past}
use Rattle.fy_check_by_rules.specs.Past.{history_of}

-- the first refusal of the act that holds after these entries, or else the answer
abbrev pub allowed_reply : Past → ℕ → Act → Reply
allowed_reply before by act =
    first_refusal_or (refusals before.config.now (history_of before) act)
    (answer before.config.now (history_of before) by act)
