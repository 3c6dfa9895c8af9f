-- the reply that a value was made of is found in it, and so is the entry
use Rattle.std.proofs.Common.{◌≡◌, Option, Some, None, Result, Ok, Err, refl, sym, ap, ◌∙◌, arith}
use Rattle.fy_kinds.specs.declared.kind.Kind.{Kind}
use Rattle.fy_kinds.specs.declared.verdict.Rule.{Rule}
use Rattle.fy_kinds.specs.declared.verdict.Rule.TheVariants.{NoTarget, NoGrant, Protected, TooManyDestroyed, TooFewLeft}
use Rattle.fy_spelling.specs.Fits.{FitsRule, FitsRefusal, FitsReply, FitsEntry}
use Rattle.fy_spelling.specs.Values.{in_order, kinds_in, rule_data, struck_data, refusal_data, reply_data, entry_data}
use Rattle.fy_spelling.specs.Candidate.{kind_from, IsCheckedAct}
use Rattle.fy_spelling.specs.Replied.{rule_from, refusal_from, reply_from, entry_from}
use Rattle.fy_acts.specs.declared.act.Act.{Act}
use Rattle.fy_acts.specs.declared.act.Act.TheVariants.{Kill, Clog, Unclog, Form, Begin, Deliver, Lose, Resend, Sync, Up, Tick, Give, Take, Protect, Unprotect, CopyTo, Replace, Heal}
use Rattle.fy_spelling.specs.declared.command.LineFault.{LineFault}
use Rattle.fy_acts.specs.declared.reply.Refusal.{Refusal}
use Rattle.fy_acts.specs.declared.reply.Refusal.TheVariants.{Stranger, WrongRole, TooMany, NoPolicy, NoProcess, Gone, TeamShort, NoTeam, Payload, NetFull, NoMessage, Clogged, NotUp, NoRecord, NotMember, Acked, IsUp, ClockEnd, NoActor, Full, NoSuch, NoCopy, IsMember, NotDestroyed, StillNeeds}
use Rattle.fy_acts.specs.declared.reply.Reply.{Reply}
use Rattle.fy_acts.specs.declared.reply.Reply.TheVariants.{Verdict, Ruled, Formed, Begun, Stored, Marked, Sent, Synced, Time, Done, No}
use Rattle.fy_acts.specs.declared.entry.Entry.{Entry}
use Rattle.fy_spelling.proofs.Again.{found_as, long-again, short-again, process-again, kind-again, act-again}
use Rattle.fy_spelling.proofs.Orders.{same_parts}
use Rattle.fy_spelling.proofs.Plain.{gathered_in_order}

-- ---- replies

rule-again : (r : Option Rule) → FitsRule r → rule_from (rule_data r) ≡ r
rule-again None h = refl
rule-again (Some NoTarget) h = refl
rule-again (Some (NoGrant p)) h = rw (process-again p h) refl
rule-again (Some (Protected p)) h = rw (process-again p h) refl
rule-again (Some (TooManyDestroyed i)) h = rw (short-again i h) refl
rule-again (Some (TooFewLeft i)) h = rw (short-again i h) refl

pub struck-again : (k : Option Kind) → kind_from (struck_data k) ≡ k
struck-again None = refl
struck-again (Some k) = kind-again k

pub refusal-again : (r : Refusal) → FitsRefusal r → refusal_from (refusal_data r) ≡ Some r
refusal-again Stranger h = refl
refusal-again WrongRole h = refl
refusal-again TooMany h = refl
refusal-again NoPolicy h = refl
refusal-again NoProcess h = refl
refusal-again Gone h = refl
refusal-again (TeamShort n) h = rw (short-again n h) refl
refusal-again NoTeam h = refl
refusal-again Payload h = refl
refusal-again NetFull h = refl
refusal-again NoMessage h = refl
refusal-again Clogged h = refl
refusal-again NotUp h = refl
refusal-again NoRecord h = refl
refusal-again NotMember h = refl
refusal-again Acked h = refl
refusal-again IsUp h = refl
refusal-again ClockEnd h = refl
refusal-again NoActor h = refl
refusal-again Full h = refl
refusal-again NoSuch h = refl
refusal-again NoCopy h = refl
refusal-again IsMember h = refl
refusal-again NotDestroyed h = refl
refusal-again (StillNeeds n) h = rw (short-again n h) refl

pub reply-again : (r : Reply) → FitsReply r → reply_from (reply_data r) ≡ Some r
reply-again (Verdict v) h = rw (rule-again v.rule h, struck-again v.struck) refl
reply-again (Ruled r) h = rw (rule-again r h) refl
reply-again (Formed n) h = rw (short-again n h) refl
reply-again (Begun m n) h = rw (long-again n h.1, short-again m h.0) refl
reply-again Stored h = refl
reply-again (Marked b) h = refl
reply-again (Sent n) h = rw (long-again n h) refl
reply-again (Synced m n) h = rw (short-again n h.1, long-again m h.0) refl
reply-again (Time n) h = rw (long-again n h) refl
reply-again Done h = refl
reply-again (No r) h = rw (refusal-again r h) refl

-- ---- entries

pub entry-again :
    (e : Entry) → FitsEntry e
    → entry_from (entry_data e) ≡ Some (found_as e.act, e.at, e.by, e.reply)
entry-again e h =
    rw (
      short-again e.at h.at,
      short-again e.by h.by,
      reply-again e.reply h.reply,
      act-again (in_order (kinds_in e.act)) e.act (gathered_in_order (kinds_in e.act)) h.act,
    )
    refl

-- ---- what an act is found as means the act

same_meant : (a m : Act) → ◌≡◌ {A = Result Act LineFault} (Ok m) (Ok a) → m ≡ a
same_meant a m e = cc

pub checked_act-again : (a m : Act) → IsCheckedAct (found_as a) (Ok m) → m ≡ a
checked_act-again (Kill o) m k =
    k.is
    ∙ ap Kill (same_parts k.order o.target o.kind o.floor o.tear o.ordered k.target_is k.kind_is k.floor_is k.tear_is)
    ∙ ap Kill (sym (same_parts o o.target o.kind o.floor o.tear o.ordered refl refl refl refl))
checked_act-again (Clog t n) m e = same_meant (Clog t n) m e
checked_act-again (Unclog t) m e = same_meant (Unclog t) m e
checked_act-again (Form ms n) m e = same_meant (Form ms n) m e
checked_act-again (Begin n bs) m e = same_meant (Begin n bs) m e
checked_act-again (Deliver n) m e = same_meant (Deliver n) m e
checked_act-again (Lose n) m e = same_meant (Lose n) m e
checked_act-again (Resend n p) m e = same_meant (Resend n p) m e
checked_act-again (Sync p) m e = same_meant (Sync p) m e
checked_act-again (Up p) m e = same_meant (Up p) m e
checked_act-again (Tick n) m e = same_meant (Tick n) m e
checked_act-again (Give g) m e = same_meant (Give g) m e
checked_act-again (Take k n) m e = same_meant (Take k n) m e
checked_act-again (Protect p set) m e = same_meant (Protect p set) m e
checked_act-again (Unprotect p set) m e = same_meant (Unprotect p set) m e
checked_act-again (CopyTo p n q) m e = same_meant (CopyTo p n q) m e
checked_act-again (Replace n p q) m e = same_meant (Replace n p q) m e
checked_act-again (Heal p) m e = same_meant (Heal p) m e

other_way : (a : Act) (f : LineFault) → ◌≡◌ {A = Result Act LineFault} (Err f) (Ok a) → ⊥
other_way a f e = let no : ⊥ = cc in no

pub none-above : (a : Act) (f : LineFault) → IsCheckedAct (found_as a) (Err f) → ⊥
none-above (Kill o) f k = let below = o.ordered in let above = k.1 in omega arith
none-above (Clog t n) f e = other_way (Clog t n) f e
none-above (Unclog t) f e = other_way (Unclog t) f e
none-above (Form ms n) f e = other_way (Form ms n) f e
none-above (Begin n bs) f e = other_way (Begin n bs) f e
none-above (Deliver n) f e = other_way (Deliver n) f e
none-above (Lose n) f e = other_way (Lose n) f e
none-above (Resend n p) f e = other_way (Resend n p) f e
none-above (Sync p) f e = other_way (Sync p) f e
none-above (Up p) f e = other_way (Up p) f e
none-above (Tick n) f e = other_way (Tick n) f e
none-above (Give g) f e = other_way (Give g) f e
none-above (Take k n) f e = other_way (Take k n) f e
none-above (Protect p set) f e = other_way (Protect p set) f e
none-above (Unprotect p set) f e = other_way (Unprotect p set) f e
none-above (CopyTo p n q) f e = other_way (CopyTo p n q) f e
none-above (Replace n p q) f e = other_way (Replace n p q) f e
none-above (Heal p) f e = other_way (Heal p) f e
