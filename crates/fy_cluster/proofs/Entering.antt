-- one entry more in a legal journal
use Rattle.std.proofs.Common.{IsTrue, ◌↔◌, ◌≤◌, inl, inr, ◌≡◌, ℕ, zero, suc, ◌+◌, ◌<◌, true, false, List, [], ◌∷◌, ◌++◌, length, Some, None, Result, Ok, Err, IfOk, OnErr, Option, Bool, not, refl, sym, ◌∙◌, ap, subst, arith, nat_le, slice_get, length-append}
use Rattle.std.specs.Prelude.{is_some}
use Rattle.std.proofs.lemmas.Bool.{cases_lt, false≢true}
use Rattle.std.proofs.lemmas.Bool.Decides.{nat_tests}
use Rattle.std.proofs.lemmas.Option.{slice_get_within}
use Rattle.fy_acts.specs.declared.act.Act.{Act}
use Rattle.fy_acts.specs.declared.reply.Reply.{Reply}
use Rattle.fy_acts.specs.declared.reply.Reply.TheVariants.{No}
use Rattle.fy_acts.specs.declared.reply.Refusal.TheVariants.{Stranger, WrongRole}
use Rattle.fy_acts.specs.declared.entry.Entry.{Entry}
use Rattle.fy_cluster.specs.declared.fault.Fault.{Fault}
use Rattle.fy_cluster.specs.declared.role.Role.{Role}
use Rattle.fy_cluster.specs.declared.machine.Machine.{Machine}
use Rattle.fy_cluster.specs.Setup.{Setup}
use Rattle.fy_cluster.specs.History.{History, step_of, history}
use Rattle.fy_cluster.specs.Replies.{first_refusal_or, refusals, reasons, answer, reply, no_actor, may}
use Rattle.fy_cluster.specs.Execution.{Execution}
use Rattle.fy_cluster.specs.Standing.{Refines, Point, StepsToOrOom, RepliesOrOom, EntersOrOom, entry_of, RefinesJournal, IsReachable}
use Rattle.fy_cluster.proofs.Journals.{after-append, length-history, legal-push}
use Rattle.fy_cluster.proofs.Refusals.{unmoved_by}

-- ---- the two reasons that come before all

pub past_roles : {X : Type 0} (xs : List X) (i : ℕ) → slice_get xs i ≡ None → nat_le (length xs) i ≡ true
past_roles [] i e = grind (arith, nat_tests)
past_roles (x ∷ xs) zero e = absurd (cc)
past_roles (x ∷ xs) (suc i) e = let more = past_roles xs i e in grind (arith, nat_tests)

pub within_roles : {X : Type 0} (xs : List X) (i : ℕ) (x : X) → slice_get xs i ≡ Some x → nat_le (length xs) i ≡ false
within_roles xs i x e = let l = slice_get_within xs i x e in grind (arith, nat_tests)

pub stranger : (c : Setup) (h : History) (by : ℕ) (act : Act) → slice_get c.roles by ≡ None → reply c h by act ≡ No Stranger
unfolding reply reasons
stranger c h by act e = let unknown : no_actor c by ≡ true = past_roles c.roles by e in rw unknown refl

wrong_role : (c : Setup) (h : History) (by : ℕ) (act : Act) (role : Role) → slice_get c.roles by ≡ Some role → may role act ≡ false → reply c h by act ≡ No WrongRole
unfolding reply reasons
wrong_role c h by act role e m = let known : no_actor c by ≡ false = within_roles c.roles by role e in rw (known, e, m) refl

pub may_reply : (c : Setup) (h : History) (by : ℕ) (act : Act) (role : Role) → slice_get c.roles by ≡ Some role → may role act ≡ true → reply c h by act ≡ first_refusal_or (refusals c h act) (answer c h by act)
unfolding reply reasons
may_reply c h by act role e m = let known : no_actor c by ≡ false = within_roles c.roles by role e in rw (known, e, m) refl

pub by_stranger : (point : Point) (by : ℕ) (act : Act) (m : Machine) → Refines point.setup point.before m → by ≡ point.by → slice_get point.setup.roles by ≡ None → RepliesOrOom point act (Ok (No Stranger)) m
by_stranger point by act m k same e = (sym (stranger point.setup point.before point.by act (sym (ap (slice_get point.setup.roles) same) ∙ e)), unmoved_by point act Stranger m k)

pub by_wrong_role : (point : Point) (by : ℕ) (act : Act) (role : Role) (m : Machine) → Refines point.setup point.before m → by ≡ point.by → slice_get point.setup.roles by ≡ Some role → may role act ≡ false → RepliesOrOom point act (Ok (No WrongRole)) m
by_wrong_role point by act role m k same e f = (sym (wrong_role point.setup point.before point.by act role (sym (ap (slice_get point.setup.roles) same) ∙ e) f), unmoved_by point act WrongRole m k)

pub by_actor : (point : Point) (by : ℕ) (act : Act) (role : Role) (result : Result Reply Fault) (m : Machine) → by ≡ point.by → slice_get point.setup.roles by ≡ Some role → may role act ≡ true → StepsToOrOom point act result m → RepliesOrOom point act result m
by_actor point by act role (Ok answered) m same e f k = (k.right ∙ sym (may_reply point.setup point.before point.by act role (sym (ap (slice_get point.setup.roles) same) ∙ e) f), k.stands)
by_actor point by act role (Err fault) m same e f k = k

pub none_when : {X : Type 0} (o : Option X) (b : Bool) → is_some o ≡ not b → b ≡ true → o ≡ None
none_when None b e none = refl
none_when (Some x) b e none = absurd (false≢true (sym (e ∙ ap not none)))

-- the same of an act that each role may make
pub by_someone : (point : Point) (by : ℕ) (act : Act) (role : Option Role) (result : Result Reply Fault) (m : Machine) → by ≡ point.by → slice_get point.setup.roles by ≡ role → is_some role ≡ true → ((some : Role) → may some act ≡ true) → StepsToOrOom point act result m → RepliesOrOom point act result m
by_someone point by act None result m same e some allowed k = absurd (false≢true some)
by_someone point by act (Some role) result m same e some allowed k = by_actor point by act role result m same e (allowed role) k

-- ---- the journal

-- a journal that isn't full has room for an entry
pub not_full : (execution : Execution) → (IsTrue false ↔ (execution.setup.limit ≤ length execution.journal)) → length execution.journal < execution.setup.limit
not_full execution full = elim (cases_lt (length execution.journal) execution.setup.limit) [ inl room ↦ room | inr none ↦ absurd (false≢true (full.1 none)) ]

-- a point after a journal
abbrev pub point_after : Setup → List Entry → ℕ → Point
point_after c journal by = record { setup = c; before = history c journal; by = by }

-- its entry is the next of the journal
pub kept_on : (c : Setup) (journal : List Entry) (by : ℕ) (act : Act) (answered : Reply) (m old : Machine) → RefinesJournal c journal old → length journal < c.limit → RepliesOrOom (point_after c journal by) act (Ok answered) m
    → RefinesJournal c (journal ++ record { at = length journal; by = by; act = act; reply = answered } ∷ []) m
kept_on c journal by act answered m old k room a =
    let e : Entry = record { at = length journal; by = by; act = act; reply = answered } in
    let same : entry_of (point_after c journal by) act answered ≡ e = ap (λ n. record { at = n; by = by; act = act; reply = answered }) (length-history c journal) in
    record {
      setup = k.setup;
      legal = (let l : length (journal ++ e ∷ []) ≡ length journal + 1 = length-append journal (e ∷ []) in omega arith, legal-push c [] journal e k.legal.1 (record { place = sym (length-history c journal); right = a.0 }));
      stands = subst (λ h. Refines c h m) (ap (λ x. step_of c (history c journal) x ∷ history c journal) same ∙ sym (after-append c [] journal (e ∷ []))) a.1;
    }

pub reachable : (c : Setup) (journal : List Entry) (m : Machine) → RefinesJournal c journal m → length journal < c.limit → IsReachable c (history c journal)
reachable c journal m k room = record { journal = journal; same = refl; setup = k.setup; legal = k.legal; room = room }

-- whether or not an entry was made, the journal is kept
pub kept_after_act : (c : Setup) (journal entries : List Entry) (by : ℕ) (act : Act) (result : Result Entry Fault) (m old : Machine) → RefinesJournal c journal old → length journal < c.limit → EntersOrOom (point_after c journal by) (length journal) by act result m
    → IfOk result (λ entry. entries ≡ journal ++ entry ∷ []) → OnErr result (entries ≡ journal) → RefinesJournal c entries m
kept_after_act c journal entries by act (Ok entry) m old k room a entered err =
    let e : Entry = record { at = length journal; by = by; act = act; reply = entry.reply } in
    let right : entry.reply ≡ reply c (history c journal) by act = ap (λ (x : Entry). x.reply) a.0 in
    let same : e ≡ entry = ap (λ answered. record { at = length journal; by = by; act = act; reply = answered }) right ∙ sym a.0 in
    rw entered (subst (λ (x : Entry). RefinesJournal c (journal ++ x ∷ []) m) same (kept_on c journal by act entry.reply m old k room (right, a.1)))
kept_after_act c journal entries by act (Err fault) m old k room a entered err = rw err (record { setup = k.setup; legal = k.legal; stands = a.1 })
