-- what a program can hold of replies and entries: they fit, but for the number of a rule's policy
use Rattle.std.specs.Prelude.{⊤, Option, Some, None}
use Rattle.fy_kinds.specs.declared.verdict.Rule.{Rule}
use Rattle.fy_kinds.specs.declared.verdict.Rule.TheVariants.{NoTarget, NoGrant, Protected, TooManyDestroyed, TooFewLeft}
use Rattle.fy_spelling.specs.Fits.{IsU32, IsU64, IsProcess, FitsAct, FitsReply}
use Rattle.fy_acts.specs.declared.reply.Reply.{Reply}
use Rattle.fy_acts.specs.declared.reply.Reply.TheVariants.{Verdict, Ruled}
use Rattle.fy_acts.specs.declared.entry.Entry.{Entry}

-- a rule whose process is a number of 32 bits, and whose policy one of 64
abbrev pub IsRepresentableRule : Option Rule → Type 0
IsRepresentableRule None = ⊤
IsRepresentableRule (Some NoTarget) = ⊤
IsRepresentableRule (Some (NoGrant process)) = IsProcess process
IsRepresentableRule (Some (Protected process)) = IsProcess process
IsRepresentableRule (Some (TooManyDestroyed policy)) = IsU64 policy
IsRepresentableRule (Some (TooFewLeft policy)) = IsU64 policy

-- a reply with such a rule, or one that fits
abbrev pub IsRepresentableReply : Reply → Type 0
IsRepresentableReply (Verdict verdict) = IsRepresentableRule verdict.rule
IsRepresentableReply (Ruled rule) = IsRepresentableRule rule
IsRepresentableReply reply = FitsReply reply

-- an entry whose act fits, with such a reply
pub record IsRepresentable (entry : Entry) : Type 0 where
  pub act : FitsAct entry.act
  pub at : IsU32 entry.at
  pub by : IsU32 entry.by
  pub reply : IsRepresentableReply entry.reply
