-- the two reasons that come before all
use Rattle.std.proofs.Common.{◌≡◌, ℕ, true, false, Some, None, refl, slice_get}
use Rattle.fy_acts.specs.declared.act.Act.{Act}
use Rattle.fy_acts.specs.declared.reply.Reply.TheVariants.{No}
use Rattle.fy_acts.specs.declared.reply.Refusal.TheVariants.{Stranger, WrongRole}
use Rattle.fy_cluster.specs.declared.role.Role.{Role}
use Rattle.fy_cluster.specs.Setup.{Setup}
use Rattle.fy_cluster.specs.History.{History}
use Rattle.fy_cluster.specs.Replies.{reasons, reply, no_actor, may}
use Rattle.fy_cluster.proofs.Entering.{past_roles, within_roles}
use Rattle.fy_check_by_rules.specs.declared.past.Past.{Past}
use Rattle.fy_check_by_rules.specs.Past.{history_of}
use Rattle.fy_check_by_rules.specs.Allowed.{allowed_reply}

pub stranger : (c : Setup) (h : History) (by : ℕ) (act : Act) → slice_get c.roles by ≡ None → No Stranger ≡ reply c h by act
unfolding reply reasons
stranger c h by act e = let unknown : no_actor c by ≡ true = past_roles c.roles by e in rw unknown refl

pub wrong_role : (c : Setup) (h : History) (by : ℕ) (act : Act) (role : Role) → slice_get c.roles by ≡ Some role → may role act ≡ false → No WrongRole ≡ reply c h by act
unfolding reply reasons
wrong_role c h by act role e m = let known : no_actor c by ≡ false = within_roles c.roles by role e in rw (known, e, m) refl

pub allowed_so : (before : Past) (by : ℕ) (act : Act) (role : Role) → slice_get before.config.now.roles by ≡ Some role → may role act ≡ true → allowed_reply before by act ≡ reply before.config.now (history_of before) by act
unfolding reply reasons
allowed_so before by act role e m = let known : no_actor before.config.now by ≡ false = within_roles before.config.now.roles by role e in rw (known, e, m) refl
