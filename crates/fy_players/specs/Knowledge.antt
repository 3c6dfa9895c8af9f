-- what a storage actor keeps in mind
use Rattle.std.specs.Prelude.{ℕ, List, [], ◌∷◌, ◌++◌, Option, Some, None, unwrap_or}
use Rattle.fy_acts.specs.declared.reply.Refusal.TheVariants.{StillNeeds}
use Rattle.fy_acts.specs.declared.reply.Reply.{Reply}
use Rattle.fy_acts.specs.declared.reply.Reply.TheVariants.{Formed, Begun, Sent, Synced, No}
use Rattle.fy_players.specs.declared.knowledge.Known.{Known}
use Rattle.fy_players.specs.declared.knowledge.Latest.{Latest}
use Rattle.fy_players.specs.declared.knowledge.Mending.{Mending}
use Rattle.fy_players.specs.declared.knowledge.Note.{Note}
use Rattle.fy_players.specs.declared.knowledge.Note.TheVariants.{Plain, Forms, Begins, Mends}

-- the teams that it formed, the last record that it began, the first message of the last reply that
-- had one, and a replacement that isn't done
pub record Knowledge : Type 0 where
  pub teams : List Known
  pub latest : Option Latest
  pub newest : ℕ
  pub mending : Option Mending

-- nothing is known yet
abbrev pub no_knowledge : Knowledge
no_knowledge = record { teams = []; latest = None; newest = 0; mending = None }

-- the first message that a reply says was sent
abbrev pub first_sent : Reply → Option ℕ
first_sent (Begun rec first) = Some first
first_sent (Sent message) = Some message
first_sent (Synced first count) = Some first
first_sent _ = None

-- what is left to do of a replacement, by the reply to its last act: the heir lacks a record, or it
-- was sent the one that it lacked, or there is no more to do
abbrev pub mending_after : Mending → Reply → Option Mending
mending_after mending (No (StillNeeds rec)) = Some (record mending { lacks = Some rec })
mending_after mending (Sent message) = Some (record mending { lacks = None })
mending_after mending _ = None

-- a reply may tell a newer message
abbrev pub with_sent : Knowledge → Reply → Knowledge
with_sent known reply = record known { newest = unwrap_or (first_sent reply) known.newest }

-- what is remembered of an act, by its reply
abbrev pub noted : Knowledge → Note → Reply → Knowledge
noted known Plain reply = known
noted known (Forms members) (Formed team) =
    record known { teams = known.teams ++ record { team = team; members = members } ∷ [] }
noted known (Forms members) _ = known
noted known (Begins place) (Begun rec first) =
    record known { latest = Some (record { rec = rec; place = place }) }
noted known (Begins place) _ = known
noted known (Mends mending) reply = record known { mending = mending_after mending reply }

-- what is known once the reply to an act has come
abbrev pub learned : Knowledge → Note → Reply → Knowledge
learned known note reply = noted (with_sent known reply) note reply
