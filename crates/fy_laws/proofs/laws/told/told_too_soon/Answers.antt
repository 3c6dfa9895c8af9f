use Rattle.std.proofs.Common.{true, false, [], ◌∷◌, ◌++◌, refl}
use Rattle.std.proofs.lemmas.Bool.{false≢true}
use Rattle.fy_acts.specs.declared.act.Act.TheVariants.{Sync}
use Rattle.fy_acts.specs.declared.reply.Reply.TheVariants.{Marked, Synced}
use Rattle.fy_laws.specs.Clusters.{six, entry, process}
use Rattle.fy_laws.specs.Told.{first_synced, first_ack, both_synced, last_ack}
use Rattle.fy_laws.proofs.laws.told.told_too_soon.Goals as goal

pub returns-clause-told : goal.returns-clause-told
returns-clause-told c = c.clients_told.ensures six (both_synced ++ last_ack (Marked true) ∷ []) c.told_at_last.ensures.legal first_synced (entry 6 0 (Sync (process 2)) (Synced 3 1) ∷ last_ack (Marked true) ∷ []) (first_ack (Marked false)) refl

pub returns-clause-wrong : goal.returns-clause-wrong
returns-clause-wrong c = λ told. false≢true (told.answered 2 0 (process 0) true refl refl refl)
