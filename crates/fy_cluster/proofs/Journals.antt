-- from one entry to a whole journal
use Rattle.std.proofs.Common.{arith, length-append, ◌≡◌, ◌↔◌, ℕ, ◌+◌, Some, None, inl, inr, ◌⊎◌, ◌≤◌, ◌<◌, true, false, List, [], ◌∷◌, ◌++◌, length, map, refl, sym, ◌∙◌, ap, ap₂, subst, nat_le, le-leb}
use Rattle.std.proofs.lemmas.Option.{slice_get-get_or}
use Rattle.std.proofs.lemmas.Bool.{lt-leb, cases_lt, and_parts, and_from}
use Rattle.fy_kinds.specs.Orders.{Order}
use Rattle.fy_kinds.specs.declared.verdict.Verdict.{Verdict as VerdictOf}
use Rattle.fy_decide.specs.Verdicts.{Situation, verdict}
use Rattle.fy_acts.specs.declared.act.Act.{Act}
use Rattle.fy_acts.specs.declared.act.Act.TheVariants.{Kill}
use Rattle.fy_acts.specs.declared.reply.Reply.{Reply}
use Rattle.fy_acts.specs.declared.reply.Reply.TheVariants.{Verdict, No}
use Rattle.fy_acts.specs.declared.reply.Refusal.TheVariants.{Stranger}
use Rattle.fy_acts.specs.declared.entry.Entry.{Entry}
use Rattle.fy_acts.specs.declared.version.Version.{Version}
use Rattle.fy_acts.specs.declared.version.Version.TheVariants.{Second}
use Rattle.fy_cluster.specs.declared.role.Role.TheVariants.{Fault}
use Rattle.fy_cluster.specs.Setup.{Setup}
use Rattle.fy_cluster.specs.History.{History, step_of, after, history}
use Rattle.fy_cluster.specs.Rules.{situation}
use Rattle.fy_cluster.specs.Replies.{refusals, reasons, answer, reply, IsNext, LegalAfter, Legal}
use Rattle.fy_cluster.specs.Versions.{knows_all, SecondKnowsAll, NextLegalUnder}
use Rattle.fy_acts.specs.Versions.{knows}
use Rattle.fy_decide.specs.Hardest.{VerdictAnswers}
use Rattle.fy_cluster.specs.Survival.{by_and_act, KillsJudged, RulesNamed, FrontsLegal, EntryAddsStep, NextLegal, SameActsSameJournal}

-- what each legal entry keeps, a legal journal keeps
pub kept_after : (c : Setup) (Q : History → Type 0) → ((h : History) (e : Entry) → IsNext c h e → Q h → Q (step_of c h e ∷ h)) → (h : History) (later : List Entry) → Q h → LegalAfter c h later → Q (after c h later)
kept_after c Q step h [] q l = q
kept_after c Q step h (e ∷ later) q l = kept_after c Q step (step_of c h e ∷ h) later (step h e l.0 q) l.1

pub legal_parts : (c : Setup) (h : History) (xs ys : List Entry) → LegalAfter c h (xs ++ ys) → LegalAfter c h xs × LegalAfter c (after c h xs) ys
legal_parts c h [] ys l = (tt, l)
legal_parts c h (e ∷ xs) ys l = let rest = legal_parts c (step_of c h e ∷ h) xs ys l.1 in ((l.0, rest.0), rest.1)

-- ---- one entry more

pub after-append : (c : Setup) (h : History) (xs ys : List Entry) → after c h (xs ++ ys) ≡ after c (after c h xs) ys
after-append c h [] ys = refl
after-append c h (x ∷ xs) ys = after-append c (step_of c h x ∷ h) xs ys

length-after : (c : Setup) (h : History) (xs : List Entry) → length (after c h xs) ≡ length h + length xs
length-after c h [] = omega arith
length-after c h (x ∷ xs) = length-after c (step_of c h x ∷ h) xs ∙ (omega arith)

pub length-history : (c : Setup) (journal : List Entry) → length (history c journal) ≡ length journal
length-history c journal = length-after c [] journal ∙ (omega arith)

pub legal-push : (c : Setup) (h : History) (xs : List Entry) (e : Entry) → LegalAfter c h xs → IsNext c (after c h xs) e → LegalAfter c h (xs ++ e ∷ [])
legal-push c h [] e l next = (next, tt)
legal-push c h (x ∷ xs) e l next = (l.0, legal-push c (step_of c h x ∷ h) xs e l.1 next)

pub fronts_legal : FrontsLegal
fronts_legal c before later l = (let n = length-append before later in let few = l.0 in omega arith, (legal_parts c [] before later l.1).0)

pub moments_entered : EntryAddsStep
moments_entered c journal e = after-append c [] journal (e ∷ [])

pub next_legal : NextLegal
next_legal c journal e l = (
  λ more.
      let next : IsNext c (history c journal) e = (legal_parts c [] journal (e ∷ []) more.1).1.0 in
      record {
        room = let n = length-append journal (e ∷ []) in let few = more.0 in omega arith;
        place = next.place ∙ length-history c journal;
        right = next.right;
      },
  λ may.
      let next : IsNext c (history c journal) e = record { place = may.place ∙ sym (length-history c journal); right = may.right } in
      (let n = length-append journal (e ∷ []) in let room = may.room in omega arith, legal-push c [] journal e l.1 next),
)

cons_parts : {X : Type 0} (x y : X) (xs ys : List X) → x ∷ xs ≡ y ∷ ys → (x ≡ y) × (xs ≡ ys)
cons_parts x y xs ys e = (cc, cc)

same_entry : (x y : Entry) → x.at ≡ y.at → x.by ≡ y.by → x.act ≡ y.act → x.reply ≡ y.reply → x ≡ y
same_entry x y p b a r = ap₂ (λ (u : ℕ × ℕ) (v : Act × Reply). record { at = u.0; by = u.1; act = v.0; reply = v.1 }) (ap₂ (λ s t. (s, t)) p b) (ap₂ (λ s t. (s, t)) a r)

same_after : (c : Setup) (h : History) (xs ys : List Entry) → LegalAfter c h xs → LegalAfter c h ys → map by_and_act xs ≡ map by_and_act ys → xs ≡ ys
same_after c h [] [] l k e = refl
same_after c h [] (y ∷ ys) l k e = absurd (cc)
same_after c h (x ∷ xs) [] l k e = absurd (cc)
same_after c h (x ∷ xs) (y ∷ ys) l k e =
    let parts = cons_parts (by_and_act x) (by_and_act y) (map by_and_act xs) (map by_and_act ys) e in
    let b : x.by ≡ y.by = ap (λ (z : ℕ × Act). z.0) parts.0 in
    let a : x.act ≡ y.act = ap (λ (z : ℕ × Act). z.1) parts.0 in
    let rest = parts.1 in
    let place : x.at ≡ y.at = l.0.place ∙ sym k.0.place in
    let right : x.reply ≡ y.reply = l.0.right ∙ ap₂ (reply c h) b a ∙ sym k.0.right in
    let same : x ≡ y = same_entry x y place b a right in
    let moved : LegalAfter c (step_of c h x ∷ h) ys = subst (λ z. LegalAfter c (step_of c h z ∷ h) ys) (sym same) k.1 in
    ap₂ (λ z zs. z ∷ zs) same (same_after c (step_of c h x ∷ h) xs ys l.1 moved rest)

pub same_acts_same_journal : SameActsSameJournal
same_acts_same_journal version c xs ys l k e = same_after c [] xs ys l.legal.1 k.legal.1 e

-- ---- versions

all_known : (entries : List Entry) → knows_all Second entries ≡ true
all_known [] = refl
all_known (e ∷ entries) = all_known entries

pub second_knows_all : SecondKnowsAll
second_knows_all c entries = (λ l. l.legal, λ l. record { legal = l; known = all_known entries })

known_parts : (version : Version) (xs ys : List Entry) → knows_all version (xs ++ ys) ≡ true → (knows_all version xs ≡ true) × (knows_all version ys ≡ true)
known_parts version [] ys k = (refl, k)
known_parts version (x ∷ xs) ys k =
    let both = and_parts (knows version x.act) _ k in
    let rest = known_parts version xs ys both.1 in
    (and_from _ _ both.0 rest.0, rest.1)

known_both : (version : Version) (xs ys : List Entry) → knows_all version xs ≡ true → knows_all version ys ≡ true → knows_all version (xs ++ ys) ≡ true
known_both version [] ys j k = k
known_both version (x ∷ xs) ys j k =
    let both = and_parts (knows version x.act) _ j in
    and_from _ _ both.0 (known_both version xs ys both.1 k)

pub next_legal_under : NextLegalUnder
next_legal_under version c journal e l = (
  λ more.
      ((next_legal c journal e l.legal).0 more.legal, (and_parts (knows version e.act) true (known_parts version journal (e ∷ []) more.known).1).0),
  λ next.
      record {
        legal = (next_legal c journal e l.legal).1 next.0;
        known = known_both version journal (e ∷ []) l.known (and_from _ true next.1 refl);
      },
)

-- ---- kills carry their verdicts
kill_known : (c : Setup) (h : History) (by : ℕ) (order : Order) → by < length c.roles → reply c h by (Kill order) ≡ Verdict (verdict (situation c h by) order)
unfolding reply reasons refusals answer
kill_known c h by order known =
    let role = slice_get-get_or c.roles by Fault known in
    let there : nat_le (length c.roles) by ≡ false = lt-leb _ _ known in
    rw (there, role) refl

kill_unknown : (c : Setup) (h : History) (by : ℕ) (order : Order) → length c.roles ≤ by → reply c h by (Kill order) ≡ No Stranger
unfolding reply reasons refusals answer
kill_unknown c h by order unknown = let none : nat_le (length c.roles) by ≡ true = le-leb _ _ unknown in rw none refl

module _ (c : Setup) (before later : List Entry) (e : Entry) (order : Order) (l : Legal c (before ++ e ∷ later)) (a : e.act ≡ Kill order) where
  said : e.reply ≡ reply c (history c before) e.by (Kill order)
  said =
      let next : IsNext c (history c before) e = (legal_parts c [] before (e ∷ later) l.1).1.0 in
      next.right ∙ ap (reply c (history c before) e.by) a

  by_actor : e.by < length c.roles → e.reply ≡ Verdict (verdict (situation c (history c before) e.by) order)
  by_actor known = said ∙ kill_known c (history c before) e.by order known

  by_stranger : length c.roles ≤ e.by → e.reply ≡ No Stranger
  by_stranger unknown = said ∙ kill_unknown c (history c before) e.by order unknown

pub kills_judged : VerdictAnswers → KillsJudged
kills_judged answers c journal legal before later e order is a =
    let l : Legal c (before ++ e ∷ later) = subst (Legal c) is legal in
    let s = situation c (history c before) e.by in
    record {
      known = λ known. (verdict s order, by_actor c before later e order l a known, answers s order);
      stranger = by_stranger c before later e order l a;
    }

abbrev Named : Type 0
Named = (situation : Situation) (order : Order) → ((verdict situation order).rule ≡ None) ↔ ((verdict situation order).struck ≡ Some order.kind)

inside : (v w : VerdictOf) → Verdict v ≡ Verdict w → v ≡ w
inside v w e = cc

pub rules_named : Named → RulesNamed
rules_named named c journal legal before later e order v is a r = at (cases_lt e.by (length c.roles))
  where
    l : Legal c (before ++ e ∷ later)
    l = subst (Legal c) is legal

    at : (e.by < length c.roles) ⊎ (length c.roles ≤ e.by) → (v.rule ≡ None) ↔ (v.struck ≡ Some order.kind)
    at (inl known) =
        let same : v ≡ verdict (situation c (history c before) e.by) order = inside v _ (sym r ∙ by_actor c before later e order l a known) in
        subst (λ w. (w.rule ≡ None) ↔ (w.struck ≡ Some order.kind)) (sym same) (named (situation c (history c before) e.by) order)
    at (inr unknown) = absurd (let wrong : Verdict v ≡ No Stranger = sym r ∙ by_stranger c before later e order l a unknown in let none : ⊥ = cc in none)
