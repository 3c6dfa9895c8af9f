-- the text of an entry that a program can hold is of that entry alone: a reader that took a rule's
-- policy by any number of 64 bits would find it again
use Rattle.std.proofs.Common.{◌≡◌, ℕ, List, codes, bytes_eq, Option, Some, None, option_map, refl, sym, ap, ◌∙◌, if◌then◌else◌}
use Rattle.serde_json.specs.Data.{Data}
use Rattle.serde_json.specs.Find.{as_str, at}
use Rattle.serde_json.specs.Read.{read}
use Rattle.fy_kinds.specs.declared.verdict.Rule.{Rule}
use Rattle.fy_kinds.specs.declared.verdict.Rule.TheVariants.{NoTarget, NoGrant, Protected, TooManyDestroyed, TooFewLeft}
use Rattle.fy_kinds.specs.declared.verdict.Verdict.{Verdict as VerdictOf}
use Rattle.fy_spelling.specs.Representable.{IsRepresentableRule, IsRepresentableReply, IsRepresentable}
use Rattle.fy_spelling.specs.Values.{rule_data, reply_data, entry_data, text_of}
use Rattle.fy_locality.specs.Chain.{◌>>=◌}
use Rattle.fy_spelling.specs.Candidate.{sole, two, u64_from, kind_from}
use Rattle.fy_spelling.specs.Replied.{first_word, rule_by, reply_by, reply_at}
use Rattle.fy_acts.specs.declared.reply.Reply.{Reply}
use Rattle.fy_acts.specs.declared.reply.Reply.TheVariants.{Verdict, Ruled, Formed, Begun, Stored, Marked, Sent, Synced, Time, Done, No}
use Rattle.fy_acts.specs.declared.entry.Entry.{Entry}
use Rattle.fy_spelling.proofs.Again.{long-again, short-again, process-again}
use Rattle.fy_spelling.proofs.Replied.{struck-again, refusal-again}
use Rattle.fy_spelling.proofs.Round.{entry_once, some_reply, some_value}
use Rattle.fy_spelling.proofs.Shapes.{read_held_text}

abbrev long_rule_by : List ℕ → Data → Option Rule
long_rule_by word d =
    if bytes_eq word (codes "TooManyDestroyed") then option_map TooManyDestroyed (at 1 d >>= u64_from)
    else if bytes_eq word (codes "TooFewLeft") then option_map TooFewLeft (at 1 d >>= u64_from)
    else rule_by word d

abbrev long_rule_from : Data → Option Rule
long_rule_from d = first_word d >>= λ word. long_rule_by word d

abbrev long_verdict_from : Data → Option VerdictOf
long_verdict_from d = do
  values ← two (codes "rule") (codes "struck") d
  Some (record { struck = kind_from values.1; rule = long_rule_from values.0 })

abbrev long_reply_by : List ℕ → Data → Option Reply
long_reply_by name d =
    if bytes_eq name (codes "verdict") then option_map Verdict (long_verdict_from d)
    else if bytes_eq name (codes "ruled") then Some (Ruled (long_rule_from d))
    else reply_by name d

abbrev long_reply_at : Option (List ℕ) → Data → Option Reply
long_reply_at (Some word) d = reply_at (Some word) d
long_reply_at None d = sole d >>= λ named. long_reply_by named.0 named.1

abbrev long_reply_from : Data → Option Reply
long_reply_from d = long_reply_at (as_str d) d

rule-again : (r : Option Rule) → IsRepresentableRule r → long_rule_from (rule_data r) ≡ r
rule-again None h = refl
rule-again (Some NoTarget) h = refl
rule-again (Some (NoGrant p)) h = rw (process-again p h) refl
rule-again (Some (Protected p)) h = rw (process-again p h) refl
rule-again (Some (TooManyDestroyed i)) h = rw (long-again i h) refl
rule-again (Some (TooFewLeft i)) h = rw (long-again i h) refl

reply-again : (r : Reply) → IsRepresentableReply r → long_reply_from (reply_data r) ≡ Some r
reply-again (Verdict v) h = rw (rule-again v.rule h, struck-again v.struck) refl
reply-again (Ruled r) h = rw (rule-again r h) refl
reply-again (Formed n) h = rw (short-again n h) refl
reply-again (Begun m n) h = rw (long-again n h.1, short-again m h.0) refl
reply-again Stored h = refl
reply-again (Marked b) h = refl
reply-again (Sent n) h = rw (long-again n h) refl
reply-again (Synced m n) h = rw (short-again n h.1, long-again m h.0) refl
reply-again (Time n) h = rw (long-again n h) refl
reply-again Done h = refl
reply-again (No r) h = rw (refusal-again r h) refl

reply_once : (a b : Reply) → IsRepresentableReply a → IsRepresentableReply b → reply_data a ≡ reply_data b → a ≡ b
reply_once a b held_a held_b same =
    some_reply a b (sym (reply-again a held_a) ∙ ap long_reply_from same ∙ reply-again b held_b)

-- two held entries with one text are equal
pub one_held_entry : (a b : Entry) → IsRepresentable a → IsRepresentable b → text_of a ≡ text_of b → a ≡ b
one_held_entry a b held_a held_b same =
    let values : Some (entry_data a) ≡ Some (entry_data b) =
    sym (read_held_text a held_a) ∙ ap read same ∙ read_held_text b held_b in
    entry_once a b (held_a.act, held_a.at, held_a.by) (held_b.act, held_b.at, held_b.by)
    (reply_once a.reply b.reply held_a.reply held_b.reply)
    (some_value (entry_data a) (entry_data b) values)
