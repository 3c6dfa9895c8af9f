-- what the laws of every journal say of written ones
use Rattle.std.proofs.Common.{◌≡◌, ◌∙◌, ◌<◌, arith, [], Some, refl, sym}
use Rattle.fy_kinds.specs.declared.kind.Kind.TheVariants.{Reboot}
use Rattle.fy_kinds.specs.declared.verdict.Rule.TheVariants.{TooManyDestroyed}
use Rattle.fy_kinds.specs.declared.verdict.Verdict.{Verdict}
use Rattle.fy_decide.specs.Safety.{AreShort, AreSatisfied}
use Rattle.fy_decide.specs.Verdicts.{verdict}
use Rattle.fy_acts.specs.declared.reply.Reply.TheVariants.{Verdict as Verdicted}
use Rattle.std.specs.Prelude.{ℕ, List, map, IsTrue, is_some}
use Rattle.fy_acts.specs.declared.entry.Entry.{Entry}
use Rattle.fy_acts.specs.declared.version.Version.TheVariants.{First, Second}
use Rattle.fy_cluster.specs.Setup.{IsMet}
use Rattle.fy_cluster.specs.History.{history, destroyed, left, acked, keeper}
use Rattle.fy_cluster.specs.Rules.{situation}
use Rattle.fy_cluster.specs.Replies.{Legal}
use Rattle.fy_cluster.specs.Versions.{SecondKnowsAll, LegalUnder}
use Rattle.fy_cluster.specs.Earlier.{EarlierRulesHold, IsAsEarlier}
use Rattle.fy_decide.specs.Hardest.{OneVerdictAnswers}
use Rattle.fy_cluster.specs.Survival.{DestroyedShort, LeftSatisfy, KillsJudged, RecordsKept, KeepersFound, SameActsSameJournal, Kept, by_and_act}
use Rattle.fy_laws.specs.Clusters.{six}
use Rattle.fy_laws.specs.Records.{written_and_synced}
use Rattle.fy_laws.specs.Strikes.{one_zone, two_zones, second_kill}

same_verdict : (v w : Verdict) → Verdicted v ≡ Verdicted w → v ≡ w
same_verdict v w e = cc

actor_1_is_there : 1 < 5
actor_1_is_there = omega arith

pub verdict_stands : OneVerdictAnswers → KillsJudged → Legal six two_zones → verdict (situation six (history six one_zone) 1) second_kill ≡ record { struck = Some Reboot; rule = Some (TooManyDestroyed 0) }
verdict_stands one law legal =
    let told = (law six two_zones legal one_zone [] _ second_kill refl refl).known actor_1_is_there in
    sym (one (situation six (history six one_zone) 1) second_kill told.0 told.2) ∙ sym (same_verdict _ _ told.1)

pub short_after : DestroyedShort → IsMet six → Legal six written_and_synced → AreShort six.processes six.policies (destroyed (history six written_and_synced))
short_after law met legal = law six written_and_synced met legal

pub satisfied_after : LeftSatisfy → IsMet six → Legal six two_zones → AreSatisfied six.processes six.policies (left six (history six two_zones))
satisfied_after law met legal = law six two_zones met legal

pub six_keep : RecordsKept → IsMet six → (journal : List Entry) → Legal six journal → (r : ℕ) → IsTrue (acked (history six journal) r) → Kept (history six journal) r
six_keep law met journal legal = law six journal met legal

pub six_have_keepers : KeepersFound → IsMet six → (journal : List Entry) → Legal six journal → (r : ℕ) → is_some (keeper six (history six journal) r) ≡ acked (history six journal) r
six_have_keepers law met journal legal r = (law six journal met legal r).0

pub two_zones_alone : SameActsSameJournal → SecondKnowsAll → Legal six two_zones → (journal : List Entry) → Legal six journal → map by_and_act journal ≡ map by_and_act two_zones → journal ≡ two_zones
two_zones_alone law known right journal legal same = law Second six journal two_zones ((known six journal).1 legal) ((known six two_zones).1 right) same

pub six_as_earlier : EarlierRulesHold → IsMet six → LegalUnder First six written_and_synced → IsAsEarlier (history six written_and_synced)
six_as_earlier law met legal = law six written_and_synced met legal
