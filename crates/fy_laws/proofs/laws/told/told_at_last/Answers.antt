use Rattle.std.proofs.Common.{true, false, [], ◌∷◌, ◌++◌, refl, true≢false}
use Rattle.fy_acts.specs.declared.reply.Reply.TheVariants.{Marked}
use Rattle.fy_laws.specs.Clusters.{six, process}
use Rattle.fy_laws.specs.Told.{both_synced, last_ack}
use Rattle.fy_laws.proofs.Played.{legal_by_acts, cluster_on_literals}
use Rattle.fy_laws.proofs.Illegal.{stored_or_marked}
use Rattle.fy_laws.proofs.laws.told.told_at_last.Goals as goal

pub returns-clause-legal : goal.returns-clause-legal
unfolding cluster_on_literals
returns-clause-legal c = legal_by_acts six (both_synced ++ last_ack (Marked true) ∷ []) refl refl

pub returns-clause-told : goal.returns-clause-told
unfolding cluster_on_literals
returns-clause-told c = c.clients_told.ensures six (both_synced ++ last_ack (Marked true) ∷ []) (legal_by_acts six (both_synced ++ last_ack (Marked true) ∷ []) refl refl) both_synced [] (last_ack (Marked true)) refl

pub returns-clause-denied : goal.returns-clause-denied
returns-clause-denied c = λ told. true≢false (told.answered 3 0 (process 2) false refl refl refl)

pub returns-clause-untold : goal.returns-clause-untold
returns-clause-untold c = λ told. stored_or_marked (told.acknowledged 0 refl refl).4
