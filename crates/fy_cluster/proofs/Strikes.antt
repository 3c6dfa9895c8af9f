-- the destroyed stay short of every policy, and those left satisfy each
use Rattle.std.proofs.Common.{◌≡◌, ℕ, Bool, true, false, ◌||◌, not, List, [], ◌∷◌, length, Option, Some, None, refl, sym, ◌∙◌, ap, inl, inr, ◌⊎◌, nat_lt, if◌then◌else◌}
use Rattle.std.proofs.lemmas.Bool.{false≢true, or_cases, or_left, or_right, and_parts, and_from, not-true, both_ways}
use Rattle.std.specs.List.{AllByRecursion}
use Rattle.fy_locality.specs.declared.locality.Locality.{Locality}
use Rattle.fy_policy.specs.Tree.{Tree, IsPolicy}
use Rattle.fy_policy.specs.Sat.{Sat}
use Rattle.fy_kinds.specs.declared.kind.Kind.{Kind}
use Rattle.fy_kinds.specs.declared.kind.Kind.TheVariants.{RebootProcess, Reboot, RebootAndDelete, KillInstantly}
use Rattle.fy_kinds.specs.declared.verdict.Verdict.{Verdict}
use Rattle.fy_kinds.specs.Orders.{Order}
use Rattle.fy_kinds.specs.Kinds.{is_destroying, destroys_for_good}
use Rattle.fy_decide.specs.declared.dead_book.Loss.{Loss}
use Rattle.fy_decide.specs.declared.dead_book.Loss.TheVariants.{Emptied, Gone}
use Rattle.fy_decide.specs.Safety.{AreShort, AreSatisfied, MayDestroy, with_set, without_set, everyone}
use Rattle.fy_decide.specs.Verdicts.{Situation, targets, verdict, loss_of}
use Rattle.fy_acts.specs.declared.act.Act.{Act}
use Rattle.fy_acts.specs.declared.act.Act.TheVariants.{Kill}
use Rattle.fy_acts.specs.declared.reply.Reply.{Reply}
use Rattle.fy_acts.specs.declared.reply.Reply.TheVariants.{Verdict as Verdicted}
use Rattle.fy_acts.specs.declared.reply.Refusal.{Refusal}
use Rattle.fy_acts.specs.declared.entry.Entry.{Entry}
use Rattle.fy_cluster.specs.Setup.{Setup, IsMet}
use Rattle.fy_cluster.specs.History.{History, Step, step_of, history, is_accepted, struck_by, some_is, strikes, destroys, heals_at, destroyed, gone, left, targets_of}
use Rattle.fy_cluster.specs.Rules.{situation}
use Rattle.fy_cluster.specs.Replies.{first_refusal_or, reasons, answer, reply, IsNext, Legal}
use Rattle.fy_cluster.proofs.Journals.{kept_after}

-- ---- what a strike tells

struck_Kill : (act : Act) (r : Reply) (k : Kind) → struck_by act r ≡ Some k → (o : Order) × (v : Verdict) × (act ≡ Kill o) × (r ≡ Verdicted v) × (v.struck ≡ Some k)
struck_Kill (Kill o) (Verdicted v) k e = (o, v, refl, refl, e)
struck_Kill _ _ k e = absurd (cc)

refused_accepted : (rs : List (Bool × Refusal)) (answer r : Reply) → r ≡ first_refusal_or rs answer → is_accepted r ≡ true → AllByRecursion (λ t. t.0 ≡ false) rs × (r ≡ answer)
refused_accepted [] a r e s = (tt, e)
refused_accepted ((true, why) ∷ rs) a r e s = absurd (false≢true (rw e at s))
refused_accepted ((false, why) ∷ rs) a r e s = let rest = refused_accepted rs a r e s in ((refl, rest.0), rest.1)

-- an accepted reply had no reason against it, and is the answer
pub accepted : (c : Setup) (h : History) (e : Entry) → IsNext c h e → is_accepted e.reply ≡ true → AllByRecursion (λ t. t.0 ≡ false) (reasons c h e.by e.act) × (e.reply ≡ answer c h e.by e.act)
unfolding reply
accepted c h e next ok = refused_accepted (reasons c h e.by e.act) (answer c h e.by e.act) e.reply next.right ok

verdict_answer : (c : Setup) (h : History) (by : ℕ) (o : Order) (v : Verdict) → Verdicted v ≡ answer c h by (Kill o) → v ≡ verdict (situation c h by) o
unfolding answer
verdict_answer c h by o v e = inside v (verdict (situation c h by) o) e
  where
    inside : (v w : Verdict) → Verdicted v ≡ Verdicted w → v ≡ w
    inside v w e = cc

-- what struck in a legal entry is what the verdict lets strike
struck_verdict : (c : Setup) (h : History) (e : Entry) → IsNext c h e → (k : Kind) → struck_by e.act e.reply ≡ Some k → (o : Order) × (e.act ≡ Kill o) × ((verdict (situation c h e.by) o).struck ≡ Some k)
struck_verdict c h e next k s =
    let found = struck_Kill e.act e.reply k s in
    let ok : is_accepted e.reply ≡ true = ap is_accepted found.3 in
    let same : Verdicted found.1 ≡ answer c h e.by (Kill found.0) = sym found.3 ∙ (accepted c h e next ok).1 ∙ ap (answer c h e.by) found.2 in
    (found.0, found.2, ap (λ (x : Verdict). x.struck) (sym (verdict_answer c h e.by found.0 found.1 same)) ∙ found.4)

-- ---- one entry more

some_is_true : {X : Type 0} (f : X → Bool) (o : Option X) → some_is f o ≡ true → (x : X) × (o ≡ Some x) × (f x ≡ true)
some_is_true f None e = absurd (false≢true e)
some_is_true f (Some x) e = (x, refl, e)

some_if : {X : Type 0} (b : Bool) (o : Option X) (x : X) → (if b then o else None) ≡ Some x → (b ≡ true) × (o ≡ Some x)
some_if true o x e = (refl, e)
some_if false o x e = absurd (cc)

struck_at : (test : Kind → Bool) (m : Step) (p : ℕ) → some_is test (strikes m p) ≡ true → (k : Kind) × (struck_by m.entry.act m.entry.reply ≡ Some k) × (test k ≡ true) × (m.targets p ≡ true)
struck_at test m p e =
    let found = some_is_true test (strikes m p) e in
    let parts = some_if (m.targets p) (struck_by m.entry.act m.entry.reply) found.0 found.1 in
    (found.0, parts.1, found.2, parts.0)

some_is_from : {X : Type 0} (f : X → Bool) (o : Option X) (x : X) → o ≡ Some x → f x ≡ true → some_is f o ≡ true
some_is_from f o x e t = ap (some_is f) e ∙ t

-- an entry that struck with such a kind struck the targets of an order of its actor, by its verdict
record Struck (c : Setup) (h : History) (e : Entry) (test : Kind → Bool) : Type 0 where
  kind : Kind
  order : Order
  is : test kind ≡ true
  act : e.act ≡ Kill order
  strikes : (verdict (situation c h e.by) order).struck ≡ Some kind

struck : (c : Setup) (h : History) (e : Entry) → IsNext c h e → (test : Kind → Bool) → some_is test (struck_by e.act e.reply) ≡ true → Struck c h e test
struck c h e next test s =
    let found = some_is_true test (struck_by e.act e.reply) s in
    let told = struck_verdict c h e next found.0 found.1 in
    record { kind = found.0; order = told.0; is = found.2; act = told.1; strikes = told.2 }

-- it struck no others
only_targets : (c : Setup) (h : History) (e : Entry) (o : Order) → e.act ≡ Kill o → (test : Kind → Bool) (p : ℕ) → some_is test (strikes (step_of c h e) p) ≡ true → targets c.processes (left c h) o.target p ≡ true
only_targets c h e o a test p s = let same : targets_of c h e.act p ≡ true = (struck_at test (step_of c h e) p s).3 in sym (ap (λ act. targets_of c h act p) a) ∙ same

-- and none where it struck with no such kind
struck_none : (c : Setup) (h : History) (e : Entry) (test : Kind → Bool) → some_is test (struck_by e.act e.reply) ≡ false → (p : ℕ) → some_is test (strikes (step_of c h e) p) ≡ true → ⊥
struck_none c h e test f p s =
    let found = struck_at test (step_of c h e) p s in
    false≢true (sym f ∙ some_is_from test _ found.0 found.1 found.2)

abbrev pub More : Type 0
More = (processes : List Locality) (policy : Tree) (s t : ℕ → Bool) → ((p : ℕ) → s p ≡ true → t p ≡ true) → Sat processes policy s → Sat processes policy t

abbrev May : Type 0
May = (situation : Situation) (order : Order) (kind : Kind) (loss : Loss) → (verdict situation order).struck ≡ Some kind → loss_of kind ≡ Some loss → MayDestroy situation.processes situation.policies situation.destroyed situation.left (targets situation.processes situation.left order.target) loss

module _ (more : More) where
  short_less : (processes : List Locality) (policies : List Tree) (s t : ℕ → Bool) → ((p : ℕ) → s p ≡ true → t p ≡ true) → AreShort processes policies t → AreShort processes policies s
  short_less processes [] s t within short = tt
  short_less processes (P ∷ policies) s t within short = (λ sat. short.0 (more processes P s t within sat), short_less processes policies s t within short.1)

  satisfied_more : (processes : List Locality) (policies : List Tree) (s t : ℕ → Bool) → ((p : ℕ) → s p ≡ true → t p ≡ true) → AreSatisfied processes policies s → AreSatisfied processes policies t
  satisfied_more processes [] s t within satisfied = tt
  satisfied_more processes (P ∷ policies) s t within satisfied = (more processes P s t within satisfied.0, satisfied_more processes policies s t within satisfied.1)

-- what a destroying kind leaves short, and what a kill leaves satisfied
short_by : (processes : List Locality) (policies : List Tree) (destroyed left s : ℕ → Bool) (kind : Kind) → is_destroying kind ≡ true → ((loss : Loss) → loss_of kind ≡ Some loss → MayDestroy processes policies destroyed left s loss) → AreShort processes policies (with_set destroyed s)
short_by processes policies destroyed left s RebootProcess is may = absurd (false≢true is)
short_by processes policies destroyed left s Reboot is may = absurd (false≢true is)
short_by processes policies destroyed left s RebootAndDelete is may = may Emptied refl
short_by processes policies destroyed left s KillInstantly is may = (may Gone refl).0

satisfied_by : (processes : List Locality) (policies : List Tree) (destroyed left s : ℕ → Bool) (kind : Kind) → destroys_for_good kind ≡ true → ((loss : Loss) → loss_of kind ≡ Some loss → MayDestroy processes policies destroyed left s loss) → AreSatisfied processes policies (without_set left s)
satisfied_by processes policies destroyed left s RebootProcess is may = absurd (false≢true is)
satisfied_by processes policies destroyed left s Reboot is may = absurd (false≢true is)
satisfied_by processes policies destroyed left s RebootAndDelete is may = absurd (false≢true is)
satisfied_by processes policies destroyed left s KillInstantly is may = (may Gone refl).1

-- who is destroyed after an entry was struck by it, or was destroyed before
destroyed_by : (m : Step) (h : History) (p : ℕ) → destroyed (m ∷ h) p ≡ true → (destroys m p ≡ true) ⊎ (destroyed h p ≡ true)
destroyed_by m h p d = elim (or_cases (destroys m p) _ d) [ inl a ↦ inl a | inr a ↦ inr (and_parts (not (heals_at m p)) (destroyed h p) a).1 ]

-- the destroyed stay short
short_next : More → May → (c : Setup) (h : History) (e : Entry) → IsNext c h e → AreShort c.processes c.policies (destroyed h) → AreShort c.processes c.policies (destroyed (step_of c h e ∷ h))
short_next more may c h e next before = at (some_is is_destroying (struck_by e.act e.reply)) refl
  where
    at : (b : Bool) → some_is is_destroying (struck_by e.act e.reply) ≡ b → AreShort c.processes c.policies (destroyed (step_of c h e ∷ h))
    at false f = short_less more c.processes c.policies _ (destroyed h) (λ p d. elim (destroyed_by (step_of c h e) h p d) [ inl a ↦ absurd (struck_none c h e is_destroying f p a) | inr a ↦ a ]) before
    at true t =
        let s = struck c h e next is_destroying t in
        short_less more c.processes c.policies _ (with_set (destroyed h) (targets c.processes (left c h) s.order.target))
        (λ p d. elim (destroyed_by (step_of c h e) h p d) [ inl a ↦ or_right (destroyed h p) _ (only_targets c h e s.order s.act is_destroying p a) | inr a ↦ or_left _ _ a ])
        (short_by c.processes c.policies (destroyed h) (left c h) _ s.kind s.is (λ loss brings. may (situation c h e.by) s.order s.kind loss s.strikes brings))

not_either : (a b : Bool) → (a ≡ true → ⊥) → not b ≡ true → not (a || b) ≡ true
not_either true b f n = absurd (f refl)
not_either false b f n = n

-- those left still satisfy
left_next : More → May → (c : Setup) (h : History) (e : Entry) → IsNext c h e → AreSatisfied c.processes c.policies (left c h) → AreSatisfied c.processes c.policies (left c (step_of c h e ∷ h))
left_next more may c h e next before = at (some_is destroys_for_good (struck_by e.act e.reply)) refl
  where
    at : (b : Bool) → some_is destroys_for_good (struck_by e.act e.reply) ≡ b → AreSatisfied c.processes c.policies (left c (step_of c h e ∷ h))
    at false f = satisfied_more more c.processes c.policies (left c h) _ (λ p l. let both = and_parts (nat_lt p (length c.processes)) (not (gone h p)) l in
        and_from _ _ both.0 (not_either _ (gone h p) (struck_none c h e destroys_for_good f p) both.1)) before
    at true t =
        let s = struck c h e next destroys_for_good t in
        satisfied_more more c.processes c.policies (without_set (left c h) (targets c.processes (left c h) s.order.target)) _
        (λ p l.
        let spared = and_parts (left c h p) (not (targets c.processes (left c h) s.order.target p)) l in
        let both = and_parts (nat_lt p (length c.processes)) (not (gone h p)) spared.0 in
        and_from _ _ both.0 (not_either _ (gone h p) (λ k. both_ways _ (not-true _ spared.1) (only_targets c h e s.order s.act destroys_for_good p k)) both.1))
        (satisfied_by c.processes c.policies (destroyed h) (left c h) _ s.kind s.is (λ loss brings. may (situation c h e.by) s.order s.kind loss s.strikes brings))

-- ---- whole journals

none_short : ((processes : List Locality) (policy : Tree) (s : ℕ → Bool) → IsPolicy policy → ((p : ℕ) → s p ≡ false) → Sat processes policy s → ⊥) → (processes : List Locality) (policies : List Tree) (all : ℕ → Bool) → AllByRecursion (λ P. IsPolicy P × Sat processes P all) policies → AreShort processes policies (destroyed [])
none_short empty processes [] all met = tt
none_short empty processes (P ∷ policies) all met = (λ sat. empty processes P (destroyed []) met.0.0 (λ p. refl) sat, none_short empty processes policies all met.1)

all_left : More → (processes : List Locality) (policies : List Tree) (t : ℕ → Bool) → ((p : ℕ) → everyone processes p ≡ true → t p ≡ true) → AllByRecursion (λ P. IsPolicy P × Sat processes P (everyone processes)) policies → AreSatisfied processes policies t
all_left more processes [] t within met = tt
all_left more processes (P ∷ policies) t within met = (more processes P (everyone processes) t within met.0.1, all_left more processes policies t within met.1)

pub destroyed_short : ((processes : List Locality) (policy : Tree) (s : ℕ → Bool) → IsPolicy policy → ((p : ℕ) → s p ≡ false) → Sat processes policy s → ⊥) → More → May → (c : Setup) (journal : List Entry) → IsMet c → Legal c journal → AreShort c.processes c.policies (destroyed (history c journal))
destroyed_short empty more may c journal met l =
    kept_after c (λ h. AreShort c.processes c.policies (destroyed h)) (λ h e next before. short_next more may c h e next before) [] journal (none_short empty c.processes c.policies (everyone c.processes) met) l.1

pub left_satisfy : More → May → (c : Setup) (journal : List Entry) → IsMet c → Legal c journal → AreSatisfied c.processes c.policies (left c (history c journal))
left_satisfy more may c journal met l =
    kept_after c (λ h. AreSatisfied c.processes c.policies (left c h)) (λ h e next before. left_next more may c h e next before) [] journal (all_left more c.processes c.policies (left c []) (λ p t. and_from _ _ t refl) met) l.1
