-- wrong journals: each has an entry whose place or reply the definitions refute
use Rattle.std.proofs.Common.{◌≡◌, ℕ, ◌≤◌, arith, true, false, Option, Some, None, ap}
use Rattle.fy_kinds.specs.declared.kind.Kind.TheVariants.{Reboot, RebootAndDelete, KillInstantly}
use Rattle.fy_kinds.specs.declared.verdict.Rule.{Rule}
use Rattle.fy_kinds.specs.declared.verdict.Rule.TheVariants.{NoGrant, Protected, TooManyDestroyed, TooFewLeft}
use Rattle.fy_acts.specs.declared.reply.Refusal.TheVariants.{TeamShort, NoMessage, NotUp, Acked, NoCopy, IsMember, StillNeeds}
use Rattle.fy_acts.specs.declared.reply.Reply.{Reply}
use Rattle.fy_acts.specs.declared.reply.Reply.TheVariants.{Verdict, Begun, Stored, Marked, Sent, Done, No}
use Rattle.fy_cluster.specs.Replies.{Legal}
use Rattle.fy_laws.specs.Clusters.{six, four, process, struck, weakened, barred}
use Rattle.fy_laws.specs.Targets.{data_centers}
use Rattle.fy_laws.specs.Wrong as wrong
use Rattle.fy_laws.proofs.Played.{cluster_on_literals}

-- the rule of a verdict
abbrev rule_of : Reply → Option Rule
rule_of (Verdict verdict) = verdict.rule
rule_of _ = None

killed_or_rebooted : struck KillInstantly ≡ weakened Reboot (TooManyDestroyed 0) → ⊥
killed_or_rebooted e = let rules : None ≡ Some (TooManyDestroyed 0) = ap rule_of e in absurd (cc)

pub second_zone_killed : Legal six wrong.second_zone_killed → ⊥
unfolding cluster_on_literals
second_zone_killed l = killed_or_rebooted l.1.1.0.right

two_or_one : ◌≡◌ {A = ℕ} 2 1 → ⊥
two_or_one e = omega arith

pub place_left_out : Legal six wrong.place_left_out → ⊥
place_left_out l = two_or_one l.1.1.0.place

grant_or_protection : weakened Reboot (NoGrant (process 0)) ≡ weakened Reboot (Protected (process 1)) → ⊥
grant_or_protection e = let rules : Some (NoGrant (process 0)) ≡ Some (Protected (process 1)) = ap rule_of e in absurd (cc)

pub grant_overlooked : Legal six wrong.grant_overlooked → ⊥
unfolding cluster_on_literals
grant_overlooked l = grant_or_protection l.1.1.0.right

protection_or_grant : barred (Protected (process 1)) ≡ barred (NoGrant (process 0)) → ⊥
protection_or_grant e = let rules : Some (Protected (process 1)) ≡ Some (NoGrant (process 0)) = ap rule_of e in absurd (cc)

pub protection_named_first : Legal six wrong.protection_named_first → ⊥
unfolding cluster_on_literals
protection_named_first l = protection_or_grant l.1.1.0.right

replication_or_grant : barred (TooManyDestroyed 0) ≡ barred (NoGrant (process 2)) → ⊥
replication_or_grant e = let rules : Some (TooManyDestroyed 0) ≡ Some (NoGrant (process 2)) = ap rule_of e in absurd (cc)

pub replication_before_grant : Legal six wrong.replication_before_grant → ⊥
unfolding cluster_on_literals
replication_before_grant l = replication_or_grant l.1.1.0.right

replication_or_protection : weakened Reboot (TooManyDestroyed 0) ≡ weakened Reboot (Protected (process 3)) → ⊥
replication_or_protection e = let rules : Some (TooManyDestroyed 0) ≡ Some (Protected (process 3)) = ap rule_of e in absurd (cc)

pub replication_before_protection : Legal six wrong.replication_before_protection → ⊥
unfolding cluster_on_literals
replication_before_protection l = replication_or_protection l.1.1.1.0.right

pub two_zones_by_data_center : Legal data_centers wrong.two_zones_by_data_center → ⊥
unfolding cluster_on_literals
two_zones_by_data_center l = killed_or_rebooted l.1.0.right

rebooted_or_barred : struck Reboot ≡ barred (NoGrant (process 4)) → ⊥
rebooted_or_barred e = let rules : None ≡ Some (NoGrant (process 4)) = ap rule_of e in absurd (cc)

pub covered_in_part : Legal data_centers wrong.covered_in_part → ⊥
unfolding cluster_on_literals
covered_in_part l = rebooted_or_barred l.1.1.0.right

from_one_or_nought : Begun 0 1 ≡ Begun 0 0 → ⊥
from_one_or_nought e = absurd (cc)

pub number_left_out : Legal six wrong.number_left_out → ⊥
unfolding cluster_on_literals
number_left_out l = from_one_or_nought l.1.1.0.right

marked_or_stored : Marked false ≡ Stored → ⊥
marked_or_stored e = absurd (cc)

pub stored_or_marked : Stored ≡ Marked true → ⊥
stored_or_marked e = absurd (cc)

pub marked_unsynced : Legal six wrong.marked_unsynced → ⊥
unfolding cluster_on_literals
marked_unsynced l = marked_or_stored l.1.1.1.0.right

marked_or_no_message : Marked false ≡ No NoMessage → ⊥
marked_or_no_message e = absurd (cc)

pub ack_never_sent : Legal six wrong.ack_never_sent → ⊥
unfolding cluster_on_literals
ack_never_sent l = marked_or_no_message l.1.1.1.1.0.right

sent_or_acknowledged : Sent 4 ≡ No Acked → ⊥
sent_or_acknowledged e = absurd (cc)

pub sent_though_acknowledged : Legal six wrong.sent_though_acknowledged → ⊥
unfolding cluster_on_literals
sent_though_acknowledged l = sent_or_acknowledged l.1.1.1.1.1.1.1.1.1.1.0.right

killed_or_emptied : struck KillInstantly ≡ weakened RebootAndDelete (TooFewLeft 0) → ⊥
killed_or_emptied e = let rules : None ≡ Some (TooFewLeft 0) = ap rule_of e in absurd (cc)

pub too_few_left : Legal four wrong.too_few_left → ⊥
unfolding cluster_on_literals
too_few_left l = killed_or_emptied l.1.0.right

-- ---- copies, replaced members and healing

acked_or_not : Marked true ≡ Marked false → ⊥
acked_or_not e = absurd (cc)

pub mark_kept : Legal six wrong.mark_kept → ⊥
unfolding cluster_on_literals
mark_kept l = acked_or_not l.1.1.1.1.1.1.1.1.1.1.1.0.right

pub ack_kept : Legal six wrong.ack_kept → ⊥
unfolding cluster_on_literals
ack_kept l = marked_or_no_message l.1.1.1.1.1.1.1.1.0.right

done_or_needed : Done ≡ No (StillNeeds 0) → ⊥
done_or_needed e = absurd (cc)

pub healed_in_need : Legal six wrong.healed_in_need → ⊥
unfolding cluster_on_literals
healed_in_need l = done_or_needed l.1.1.1.1.1.1.1.1.1.1.1.1.0.right

pub replaced_in_need : Legal six wrong.replaced_in_need → ⊥
unfolding cluster_on_literals
replaced_in_need l = done_or_needed l.1.1.1.1.1.1.1.1.1.1.1.0.right

done_or_member : Done ≡ No IsMember → ⊥
done_or_member e = absurd (cc)

pub replaced_by_member : Legal six wrong.replaced_by_member → ⊥
unfolding cluster_on_literals
replaced_by_member l = done_or_member l.1.1.1.1.1.1.1.1.1.1.1.0.right

done_or_short : Done ≡ No (TeamShort 0) → ⊥
done_or_short e = absurd (cc)

pub replaced_short : Legal six wrong.replaced_short → ⊥
unfolding cluster_on_literals
replaced_short l = done_or_short l.1.1.1.1.1.1.1.1.1.1.1.0.right

acknowledged_or_sent : No Acked ≡ Sent 5 → ⊥
acknowledged_or_sent e = absurd (cc)

pub acknowledged_by_replace : Legal six wrong.acknowledged_by_replace → ⊥
unfolding cluster_on_literals
acknowledged_by_replace l = acknowledged_or_sent l.1.1.1.1.1.1.1.1.1.1.1.0.right

sent_or_no_copy : Sent 4 ≡ No NoCopy → ⊥
sent_or_no_copy e = absurd (cc)

pub copied_from_nothing : Legal six wrong.copied_from_nothing → ⊥
unfolding cluster_on_literals
copied_from_nothing l = sent_or_no_copy l.1.1.1.1.1.1.1.1.1.1.1.0.right

sent_or_not_up : Sent 4 ≡ No NotUp → ⊥
sent_or_not_up e = absurd (cc)

pub copied_while_down : Legal six wrong.copied_while_down → ⊥
unfolding cluster_on_literals
copied_while_down l = sent_or_not_up l.1.1.1.1.1.1.1.1.1.1.1.1.0.right

weakened_or_emptied : weakened Reboot (TooManyDestroyed 0) ≡ struck RebootAndDelete → ⊥
weakened_or_emptied e = let rules : Some (TooManyDestroyed 0) ≡ None = ap rule_of e in absurd (cc)

pub healed_and_counted : Legal six wrong.healed_and_counted → ⊥
unfolding cluster_on_literals
healed_and_counted l = weakened_or_emptied l.1.1.1.1.1.1.1.1.1.1.1.1.1.1.1.1.1.0.right

emptied_or_weakened : struck RebootAndDelete ≡ weakened Reboot (TooManyDestroyed 0) → ⊥
emptied_or_weakened e = let rules : None ≡ Some (TooManyDestroyed 0) = ap rule_of e in absurd (cc)

pub back_and_not_counted : Legal six wrong.back_and_not_counted → ⊥
unfolding cluster_on_literals
back_and_not_counted l = emptied_or_weakened l.1.1.1.1.1.1.1.1.1.1.1.1.0.right

-- ---- a journal that is too long

two_in_one : 2 ≤ 1 → ⊥
two_in_one e = omega arith

pub too_long : Legal wrong.short_lived wrong.two_ticks → ⊥
too_long l = two_in_one l.0
