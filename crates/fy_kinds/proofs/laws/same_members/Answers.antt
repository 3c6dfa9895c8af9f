use Rattle.std.proofs.Common.{◌≡◌, ◌∙◌, ap, Bool}
use Rattle.fy_kinds.specs.declared.kind.Kind.TheVariants.{RebootProcess, Reboot, RebootAndDelete, KillInstantly}
use Rattle.fy_kinds.specs.Members.{Members}
use Rattle.fy_kinds.specs.Kinds.{Deed, Striking, Clogging, has}
use Rattle.fy_kinds.proofs.laws.same_members.Goals as goal

abbrev made : Bool → Bool → Bool → Bool → Bool → Members
made first second third fourth fifth = record { reboot_process = first; reboot = second; reboot_and_delete = third; kill_instantly = fourth; clog = fifth }

by_members : (a b : Members) → ((d : Deed) → has a d ≡ has b d) → a ≡ b
by_members a b same =
    ap (λ x. made x a.reboot a.reboot_and_delete a.kill_instantly a.clog) (same (Striking RebootProcess))
    ∙ ap (λ x. made b.reboot_process x a.reboot_and_delete a.kill_instantly a.clog) (same (Striking Reboot))
    ∙ ap (λ x. made b.reboot_process b.reboot x a.kill_instantly a.clog) (same (Striking RebootAndDelete))
    ∙ ap (λ x. made b.reboot_process b.reboot b.reboot_and_delete x a.clog) (same (Striking KillInstantly))
    ∙ ap (λ x. made b.reboot_process b.reboot b.reboot_and_delete b.kill_instantly x) (same Clogging)

pub returns : goal.returns
returns c = by_members
