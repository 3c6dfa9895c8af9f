-- texts written out by hand, byte for byte
use Rattle.std.specs.Prelude.{◌≡◌, ◌≤◌, ℕ, List, [], ◌∷◌, ◌++◌, codes, true, Some, None}
use Rattle.serde_json.specs.Written.{compact_text}
use Rattle.fy_locality.specs.declared.ProcId.{ProcId}
use Rattle.fy_locality.specs.declared.key.Key.TheVariants.{Zone, DataHall}
use Rattle.fy_kinds.specs.Kinds.{rank, in_either, only, every_deed, no_deed, Striking, Clogging}
use Rattle.fy_kinds.specs.declared.kind.Kind.TheVariants.{Reboot, KillInstantly}
use Rattle.fy_kinds.specs.declared.verdict.Rule.TheVariants.{NoTarget, TooManyDestroyed}
use Rattle.fy_grants.specs.declared.grant.Scope.TheVariants.{All, Where}
use Rattle.fy_spelling.specs.Values.{act_data, reply_data, text_of}
use Rattle.fy_spelling.specs.Plain.{command_text}
use Rattle.fy_acts.specs.declared.act.Act.{Act}
use Rattle.fy_acts.specs.declared.act.Act.TheVariants.{Kill, Form, Begin, Give, Protect, CopyTo, Replace}
use Rattle.fy_acts.specs.declared.reply.Refusal.TheVariants.{Clogged, TeamShort, StillNeeds}
use Rattle.fy_acts.specs.declared.reply.Reply.{Reply}
use Rattle.fy_acts.specs.declared.reply.Reply.TheVariants.{Verdict, Ruled, Formed, Begun, Stored, Marked, Sent, Synced, Time, Done, No}

-- an order to kill a zone for good, or else to reboot it
abbrev zone_order : List ℕ → rank Reboot ≤ rank KillInstantly → Act
zone_order zone ordered =
    Kill (record {
      target = record { key = Zone; value = zone };
      kind = KillInstantly;
      floor = Reboot;
      tear = 0;
      ordered = ordered;
    })

-- the first zone is killed, and of the second only what is allowed
pub record EntryTexts : Type 0 where
  pub first : (o : rank Reboot ≤ rank KillInstantly) →
      text_of (record {
        at = 0;
        by = 1;
        act = zone_order (codes "z0") o;
        reply = Verdict (record { struck = Some KillInstantly; rule = None });
      })
      ≡ codes "{\"act\":{\"kill\":{\"floor\":\"Reboot\",\"key\":\"zoneid\","
      ++ codes "\"kind\":\"KillInstantly\",\"tear\":0,\"value\":\"z0\"}},\"at\":0,\"by\":1,"
      ++ codes "\"reply\":{\"verdict\":{\"rule\":null,\"struck\":\"KillInstantly\"}}}"
  pub second : (o : rank Reboot ≤ rank KillInstantly) →
      text_of (record {
        at = 1;
        by = 1;
        act = zone_order (codes "z1") o;
        reply = Verdict (record { struck = Some Reboot; rule = Some (TooManyDestroyed 0) });
      })
      ≡ codes "{\"act\":{\"kill\":{\"floor\":\"Reboot\",\"key\":\"zoneid\","
      ++ codes "\"kind\":\"KillInstantly\",\"tear\":0,\"value\":\"z1\"}},\"at\":1,\"by\":1,"
      ++ codes "\"reply\":{\"verdict\":{\"rule\":[\"TooManyDestroyed\",0],"
      ++ codes "\"struck\":\"Reboot\"}}}"

-- the text of a reply
abbrev pub text_of_reply : Reply → List ℕ
text_of_reply reply = compact_text (reply_data reply)

-- replies with small numbers
pub record ReplyTexts : Type 0 where
  pub verdict :
      text_of_reply (Verdict (record { struck = None; rule = Some NoTarget }))
      ≡ codes "{\"verdict\":{\"rule\":[\"NoTarget\"],\"struck\":null}}"
  pub ruled : text_of_reply (Ruled None) ≡ codes "{\"ruled\":null}"
  pub formed : text_of_reply (Formed 0) ≡ codes "{\"formed\":0}"
  pub begun : text_of_reply (Begun 0 0) ≡ codes "{\"begun\":{\"first\":0,\"record\":0}}"
  pub stored : text_of_reply Stored ≡ codes "\"stored\""
  pub marked : text_of_reply (Marked true) ≡ codes "{\"marked\":true}"
  pub sent : text_of_reply (Sent 2) ≡ codes "{\"sent\":2}"
  pub synced : text_of_reply (Synced 2 1) ≡ codes "{\"synced\":{\"count\":1,\"first\":2}}"
  pub time : text_of_reply (Time 9) ≡ codes "{\"time\":9}"
  pub done : text_of_reply Done ≡ codes "\"done\""
  pub clogged : text_of_reply (No Clogged) ≡ codes "{\"no\":[\"Clogged\"]}"
  pub short : text_of_reply (No (TeamShort 0)) ≡ codes "{\"no\":[\"TeamShort\",0]}"
  pub needed : text_of_reply (No (StillNeeds 0)) ≡ codes "{\"no\":[\"StillNeeds\",0]}"

-- the text of an act
abbrev pub text_of_act : Act → List ℕ
text_of_act act = compact_text (act_data act)

-- the process with a number
abbrev process : ℕ → ProcId
process n = record { 0 = n }

-- acts that hold lists, and acts of three numbers
pub record ActTexts : Type 0 where
  pub form :
      text_of_act (Form (process 0 ∷ process 2 ∷ []) 3)
      ≡ codes "{\"form\":{\"members\":[0,2],\"policy\":3}}"
  pub empty : text_of_act (Form [] 0) ≡ codes "{\"form\":{\"members\":[],\"policy\":0}}"
  pub begin :
      text_of_act (Begin 4 (0 ∷ 104 ∷ 255 ∷ []))
      ≡ codes "{\"begin\":{\"payload\":\"0068ff\",\"team\":4}}"
  pub everything :
      text_of_act (Give (record { actor = 1; kinds = every_deed; scope = All }))
      ≡ codes "{\"give\":{\"actor\":1,\"kinds\":[\"RebootProcess\",\"Reboot\","
      ++ codes "\"RebootAndDelete\",\"KillInstantly\",\"Clog\"],\"scope\":\"all\"}}"
  pub hall :
      text_of_act (Give (record {
        actor = 1;
        kinds = no_deed;
        scope = Where (record { key = DataHall; value = codes "h-1" });
      }))
      ≡ codes "{\"give\":{\"actor\":1,\"kinds\":[],\"scope\":{\"key\":\"data_hall\","
      ++ codes "\"value\":\"h-1\"}}}"
  pub protect :
      text_of_act (Protect (process 5) (in_either (only Clogging) (only (Striking Reboot))))
      ≡ codes "{\"protect\":{\"kinds\":[\"Reboot\",\"Clog\"],\"process\":5}}"
  pub copy :
      text_of_act (CopyTo (process 6) 7 (process 8))
      ≡ codes "{\"copy\":{\"from\":6,\"record\":7,\"to\":8}}"
  pub replace :
      text_of_act (Replace 9 (process 10) (process 11))
      ≡ codes "{\"replace\":{\"into\":11,\"out\":10,\"team\":9}}"

-- a command in its plain spelling
abbrev pub CommandText : Type 0
CommandText =
    (o : rank Reboot ≤ rank KillInstantly)
    → command_text (record { by = 1; act = zone_order (codes "z0") o })
    ≡ codes "{\"by\":1,\"act\":{\"kill\":{\"floor\":\"Reboot\",\"key\":\"zoneid\","
    ++ codes "\"kind\":\"KillInstantly\",\"tear\":0,\"value\":\"z0\"}}}"
