-- What every legal journal keeps. How to read it:
-- - `AllByRecursion P xs`: P holds of each element of xs.
-- - `IsTrue b`, `IsFalse b`: the test b is true, or false. `→ ⊥`: not so.
-- - `×`: and. `(x : A) × P`: there is an x of which P holds. `(x : A) → P`: P holds of each x.
-- - `abbrev N` with a type below it: N stands for the statement behind the `=`.
-- - a `record` of clauses: each of them holds.
use Rattle.std.specs.Prelude.{◌≡◌, ◌↔◌, ℕ, not, List, [], ◌∷◌, ◌++◌, Contains, IsTrue, IsFalse, Some, None, is_some, ◌≤◌, ◌<◌, length, map, Bool, true, slice_get}
use Rattle.std.specs.List.{list_any}
use Rattle.fy_locality.specs.declared.ProcId.{ProcId}
use Rattle.fy_kinds.specs.Orders.{Order}
use Rattle.fy_kinds.specs.declared.verdict.Verdict.{Verdict}
use Rattle.fy_grants.specs.Least.{LeastWith}
use Rattle.fy_net.specs.declared.message.Body.TheVariants.{Synced}
use Rattle.fy_team.specs.Teams.{is_among}
use Rattle.fy_decide.specs.Safety.{AreShort, AreSatisfied, first_unmet}
use Rattle.fy_decide.specs.Hardest.{AnswersOrder}
use Rattle.fy_acts.specs.declared.act.Act.{Act}
use Rattle.fy_acts.specs.declared.act.Act.TheVariants.{Kill, Deliver}
use Rattle.fy_acts.specs.declared.reply.Reply.TheVariants.{Verdict as Verdicted, Marked, No}
use Rattle.fy_acts.specs.declared.reply.Refusal.TheVariants.{Stranger}
use Rattle.fy_acts.specs.declared.entry.Entry.{Entry}
use Rattle.fy_acts.specs.declared.version.Version.{Version}
use Rattle.fy_cluster.specs.Setup.{Setup, IsMet}
use Rattle.fy_cluster.specs.History.{History, step_of, history, destroyed, left, sent, synced, acked, keeps, keeper, members_for, payload_of}
use Rattle.fy_cluster.specs.Rules.{situation}
use Rattle.fy_cluster.specs.Replies.{MayFollow, Legal}
use Rattle.fy_cluster.specs.Versions.{LegalUnder}

-- who asked for what
abbrev pub by_and_act : Entry → ℕ × Act
by_and_act e = (e.by, e.act)

-- some member of the record's team isn't destroyed, and every such member has the record synced,
-- with the payload that it was begun with
pub record Kept (h : History) (r : ℕ) : Type 0 where
  pub someone : IsTrue (list_any (λ p. not (destroyed h p.0)) (members_for h r))
  pub everyone : (p : ProcId) → Contains (members_for h r) p → IsFalse (destroyed h p.0) →
      Contains (synced h p.0) (record { rec = r; payload = payload_of h r })

-- the destroyed are short of every policy
abbrev pub DestroyedShort : Type 0
DestroyedShort =
    (c : Setup) (journal : List Entry) → IsMet c → Legal c journal →
    AreShort c.processes c.policies (destroyed (history c journal))

-- those left satisfy every policy
abbrev pub LeftSatisfy : Type 0
LeftSatisfy =
    (c : Setup) (journal : List Entry) → IsMet c → Legal c journal →
    AreSatisfied c.processes c.policies (left c (history c journal))

-- a kill's reply is a verdict that answers its order: the hardest kind that nothing bars strikes,
-- and the first rule against the ordered kind is named. Where no actor of the cluster made it, it
-- is No(Stranger)
pub record IsJudged (c : Setup) (h : History) (e : Entry) (order : Order) : Type 0 where
  pub known : e.by < length c.roles →
      (verdict : Verdict) × (e.reply ≡ Verdicted verdict) × AnswersOrder (situation c h e.by) order verdict
  pub stranger : length c.roles ≤ e.by → e.reply ≡ No Stranger

-- each kill of a journal is judged by what came before it
abbrev pub AreJudged : Setup → List Entry → Type 0
AreJudged c journal =
    (before later : List Entry) (e : Entry) (order : Order) → journal ≡ before ++ e ∷ later →
    e.act ≡ Kill order → IsJudged c (history c before) e order

-- every kill of a legal journal is judged
abbrev pub KillsJudged : Type 0
KillsJudged = (c : Setup) (journal : List Entry) → Legal c journal → AreJudged c journal

-- each verdict of a journal names no rule exactly where the ordered kind struck
abbrev pub AreNamed : List Entry → Type 0
AreNamed journal =
    (before later : List Entry) (e : Entry) (order : Order) (verdict : Verdict) →
    journal ≡ before ++ e ∷ later → e.act ≡ Kill order → e.reply ≡ Verdicted verdict →
    (verdict.rule ≡ None) ↔ (verdict.struck ≡ Some order.kind)

-- each verdict of a legal journal does
abbrev pub RulesNamed : Type 0
RulesNamed = (c : Setup) (journal : List Entry) → Legal c journal → AreNamed journal

-- every acknowledged record is kept
abbrev pub RecordsKept : Type 0
RecordsKept =
    (c : Setup) (journal : List Entry) → IsMet c → Legal c journal → (r : ℕ) →
    IsTrue (acked (history c journal) r) → Kept (history c journal) r

-- there is a keeper of exactly the acknowledged records, and it is the least member of the record's
-- team that keeps it
abbrev pub KeepersFound : Type 0
KeepersFound = (c : Setup) (journal : List Entry) → IsMet c → Legal c journal → (r : ℕ) →
    (is_some (keeper c (history c journal) r) ≡ acked (history c journal) r)
    × (IsTrue (acked (history c journal) r) →
    LeastWith (is_among (members_for (history c journal) r)) (keeps (history c journal) r)
    (keeper c (history c journal) r))

-- a front of a legal journal is legal
abbrev pub FrontsLegal : Type 0
FrontsLegal = (c : Setup) (before later : List Entry) → Legal c (before ++ later) → Legal c before

-- one entry more is one step more
abbrev pub EntryAddsStep : Type 0
EntryAddsStep =
    (c : Setup) (journal : List Entry) (e : Entry) →
    history c (journal ++ e ∷ []) ≡ step_of c (history c journal) e ∷ history c journal

-- a legal journal with one entry more is legal exactly where the entry may follow it
abbrev pub NextLegal : Type 0
NextLegal =
    (c : Setup) (journal : List Entry) (e : Entry) → Legal c journal →
    Legal c (journal ++ e ∷ []) ↔ MayFollow c journal e

-- no policy of a setup is unmet
abbrev pub NoneUnmet : Type 0
NoneUnmet = (c : Setup) → IsMet c → first_unmet c.processes c.policies ≡ None

-- the same acts by the same actors make the same journal of a version
abbrev pub SameActsSameJournal : Type 0
SameActsSameJournal =
    (version : Version) (c : Setup) (xs ys : List Entry) → LegalUnder version c xs →
    LegalUnder version c ys → map by_and_act xs ≡ map by_and_act ys → xs ≡ ys

-- the reply to a delivered acknowledgement says whether the record is now acknowledged; no other
-- entry acknowledges one; an acknowledged record stays acknowledged
pub record IsTold (c : Setup) (h : History) (e : Entry) : Type 0 where
  pub answered : (n r : ℕ) (from : ProcId) (told : Bool) → e.act ≡ Deliver n →
      slice_get (sent h) n ≡ Some (Synced r from) → e.reply ≡ Marked told →
      acked (step_of c h e ∷ h) r ≡ told
  pub acknowledged : (r : ℕ) → IsFalse (acked h r) → IsTrue (acked (step_of c h e ∷ h) r) →
      (n : ℕ) × (from : ProcId) × (e.act ≡ Deliver n)
      × (slice_get (sent h) n ≡ Some (Synced r from)) × (e.reply ≡ Marked true)
  pub stays : (r : ℕ) → IsTrue (acked h r) → IsTrue (acked (step_of c h e ∷ h) r)

-- each entry of a journal tells so, by what came before it
abbrev pub AreTold : Setup → List Entry → Type 0
AreTold c journal =
    (before later : List Entry) (e : Entry) → journal ≡ before ++ e ∷ later →
    IsTold c (history c before) e

-- every entry of a legal journal does
abbrev pub ClientsTold : Type 0
ClientsTold = (c : Setup) (journal : List Entry) → Legal c journal → AreTold c journal

-- what holds after a history: the destroyed are short of every policy, those left satisfy each, and
-- every acknowledged record has a synced copy on an undestroyed member
pub record IsSafeAfter (c : Setup) (h : History) : Type 0 where
  pub short : AreShort c.processes c.policies (destroyed h)
  pub satisfied : AreSatisfied c.processes c.policies (left c h)
  pub kept : (r : ℕ) → IsTrue (acked h r) → Kept h r

-- what a journal keeps, whatever was ordered: it is legal, each of its prefixes is safe, every kill
-- is judged by what came before it, no rule is named exactly where the ordered kind struck, and
-- clients are told which records are acknowledged
pub record Survives (c : Setup) (journal : List Entry) : Type 0 where
  pub legal : Legal c journal
  pub safe : (before later : List Entry) → journal ≡ before ++ later →
      IsSafeAfter c (history c before)
  pub judged : AreJudged c journal
  pub named : AreNamed journal
  pub told : AreTold c journal

-- every legal journal keeps all this
abbrev pub JournalsSurvive : Type 0
JournalsSurvive =
    (c : Setup) (journal : List Entry) → IsMet c → Legal c journal → Survives c journal
