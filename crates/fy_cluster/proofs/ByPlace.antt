-- what the folds of the history come to, by the places of entries
use Rattle.std.proofs.Common.{◌≡◌, ℕ, ◌+◌, ◌≤◌, ◌<◌, max, min, Bool, true, false, ◌&&◌, ◌||◌, not, List, [], ◌∷◌, ◌++◌, Contains, Option, Some, None, is_some, refl, sym, ap, subst, arith, inl, inr, ◌⊎◌, if◌then◌else◌, ltb-true, lt-ltb}
use Rattle.std.proofs.Math.Nat.{le-max_left, le-max_right, max-le}
use Rattle.std.proofs.lemmas.Bool.{false≢true, true≢false, or_cases, or_left, or_right, or_parts, and_parts, and_from, both_ways, cases_lt}
use Rattle.std.proofs.lemmas.List.Elements.{Contains-append_right, All-contains}
use Rattle.std.proofs.lemmas.List.Sums.{AllPass-from_list_all}
use Rattle.std.specs.List.{list_any, list_all}
use Rattle.std.specs.Option.{option_map_or}
use Rattle.fy_locality.specs.declared.ProcId.{ProcId}
use Rattle.fy_net.specs.declared.limits.TheConstants.{LAST_TICK}
use Rattle.fy_acts.specs.declared.act.Act.{Act}
use Rattle.fy_acts.specs.declared.act.Act.TheVariants.{Clog}
use Rattle.fy_acts.specs.declared.reply.Reply.{Reply}
use Rattle.fy_kinds.specs.declared.order.Target.{Target}
use Rattle.fy_cluster.specs.History.{History, Step, clogs, unclogs, heals_at, now, clog_end, unclog_end, clog_end_by, clog_ends, marks, marked, marked_after, delivers_ack_of, members_for, acked}
use Rattle.fy_cluster.specs.Places.{HasMark, IsAckedAt, AckedByPlace, unclogs_at, IsCloggedPast, CloggedByPlace}

or_false : (x y : Bool) → x ≡ false → y ≡ false → (x || y) ≡ false
or_false x y a b = rw (a, b) refl

none_is_some : (later : List Step) (at : Step) (before : History) → [] ≡ later ++ at ∷ before → ⊥
none_is_some [] at before e = absurd (let y : ⊥ = cc in y)
none_is_some (m ∷ later) at before e = absurd (let y : ⊥ = cc in y)

-- ---- marks

-- a heal that takes no mark away, while the record isn't acknowledged, heals another
heals_other : (heals was : Bool) → was ≡ false → not (heals && not was) ≡ true → heals ≡ false
heals_other false was u n = refl
heals_other true true u n = absurd (true≢false u)
heals_other true false u n = absurd (false≢true n)

takes_none : (heals was : Bool) → heals ≡ false → not (heals && not was) ≡ true
takes_none heals was n = rw n refl

to_mark : (m : Step) (h : History) (r p : ℕ) → acked h r ≡ false → marked_after m r p (acked h r) (marked h r p) ≡ true → HasMark (m ∷ h) r p
to_mark m [] r p a k = elim (or_cases (marks m r p) _ k) [
  | inl s ↦ record { later = []; at = m; before = []; split = refl; delivered = s; unhealed = refl }
  | inr b ↦ absurd (false≢true (and_parts (not (heals_at m p && not (acked [] r))) _ b).1)
]
to_mark m (n ∷ h) r p a k = elim (or_cases (marks m r p) _ k) [
  | inl s ↦ record { later = []; at = m; before = n ∷ h; split = refl; delivered = s; unhealed = refl }
  | inr b ↦
      let both = and_parts (not (heals_at m p && not (acked (n ∷ h) r))) (marked (n ∷ h) r p) b in
      let was = to_mark n h r p (or_parts (acked h r) _ a).0 both.1 in
      let other : heals_at m p ≡ false = heals_other (heals_at m p) (acked (n ∷ h) r) a both.0 in
      record {
        later = m ∷ was.later;
        at = was.at;
        before = was.before;
        split = ap (λ l. m ∷ l) was.split;
        delivered = was.delivered;
        unhealed = or_false (heals_at m p) _ other was.unhealed;
      }
]

from_mark : (m : Step) (h : History) (r p : ℕ) → acked h r ≡ false → (later : List Step) (at : Step) (before : History) → m ∷ h ≡ later ++ at ∷ before → marks at r p ≡ true → list_any (λ x. heals_at x p) later ≡ false
    → marked_after m r p (acked h r) (marked h r p) ≡ true
from_mark m h r p a [] at before split s u = let same : at ≡ m = cc in or_left (marks m r p) _ (subst (λ x. marks x r p ≡ true) same s)
from_mark m [] r p a (n ∷ later) at before split s u = absurd (none_is_some later at before (let e : [] ≡ later ++ at ∷ before = cc in e))
from_mark m (k ∷ h) r p a (n ∷ later) at before split s u =
    let parts = or_parts (heals_at n p) (list_any (λ x. heals_at x p) later) u in
    let rest : k ∷ h ≡ later ++ at ∷ before = cc in
    let same : n ≡ m = cc in
    let other : heals_at m p ≡ false = subst (λ x. heals_at x p ≡ false) same parts.0 in
    or_right (marks m r p) _ (and_from _ _ (takes_none (heals_at m p) (acked (k ∷ h) r) other) (from_mark k h r p (or_parts (acked h r) _ a).0 later at before rest s parts.1))

-- ---- acknowledged records

acked_later : (later : List Step) (h : History) (r : ℕ) → acked h r ≡ true → acked (later ++ h) r ≡ true
acked_later [] h r a = a
acked_later (m ∷ later) h r a = or_left (acked (later ++ h) r) _ (acked_later later h r a)

all_from : (f : ProcId → Bool) (ps : List ProcId) → ((p : ProcId) → Contains ps p → f p ≡ true) → list_all f ps ≡ true
all_from f [] w = refl
all_from f (p ∷ ps) w = and_from (f p) _ (w p (0, omega arith, refl)) (all_from f ps (λ q i. w q (Contains-append_right (p ∷ []) ps q i)))

to_acked : (h : History) (r : ℕ) → acked h r ≡ true → IsAckedAt h r
to_acked [] r a = absurd (false≢true a)
to_acked (m ∷ h) r a = at (to_acked h r) (acked h r) refl
  where
    at : (acked h r ≡ true → IsAckedAt h r) → (b : Bool) → acked h r ≡ b → IsAckedAt (m ∷ h) r
    at earlier true was =
        let k = earlier was in
        record { later = m ∷ k.later; at = k.at; before = k.before; split = ap (λ l. m ∷ l) k.split; delivered = k.delivered; by_each = k.by_each }
    at earlier false was =
        let f : ProcId → Bool = λ q. marked_after m r q.0 (acked h r) (marked h r q.0) in
        let now : (delivers_ack_of m r && list_all f (members_for h r)) ≡ true = elim (or_cases (acked h r) _ a) [ inl k ↦ absurd (both_ways _ was k) | inr k ↦ k ] in
        let both = and_parts (delivers_ack_of m r) (list_all f (members_for h r)) now in
        record {
          later = [];
          at = m;
          before = h;
          split = refl;
          delivered = both.0;
          by_each = λ p i. to_mark m h r p.0 was (All-contains (λ q. f q ≡ true) (members_for h r) p (AllPass-from_list_all f (members_for h r) both.1) i);
        }

from_acked : (h : History) (r : ℕ) → IsAckedAt h r → acked h r ≡ true
from_acked h r k = subst (λ h. acked h r ≡ true) (sym k.split) (acked_later k.later (k.at ∷ k.before) r (here (acked k.before r) refl))
  where
    here : (b : Bool) → acked k.before r ≡ b → acked (k.at ∷ k.before) r ≡ true
    here true was = or_left (acked k.before r) _ was
    here false was = or_right (acked k.before r) _ (and_from (delivers_ack_of k.at r) _ k.delivered (all_from (λ q. marked_after k.at r q.0 (acked k.before r) (marked k.before r q.0)) (members_for k.before r)
        (λ p i. let mark = k.by_each p i in from_mark k.at k.before r p.0 was mark.later mark.at mark.before mark.split mark.delivered mark.unhealed)))

pub acked_by_place : AckedByPlace
acked_by_place h r = (to_acked h r, from_acked h r)

-- ---- clogs

clog_ends_none : (act : Act) (r : Reply) (n : ℕ) → clogs act r ≡ Some n → is_some (unclogs act r) ≡ false
clog_ends_none (Clog target k) r n e = refl
clog_ends_none _ r n e = absurd (let y : ⊥ = cc in y)

-- one entry more that doesn't end the clogs
past_still : (m : Step) (h : History) (p time : ℕ) → unclogs_at m p ≡ false → IsCloggedPast h p time → IsCloggedPast (m ∷ h) p time
past_still m h p time u k = record {
  later = m ∷ k.later;
  at = k.at;
  before = k.before;
  split = ap (λ l. m ∷ l) k.split;
  named = k.named;
  ticks = k.ticks;
  clogged = k.clogged;
  lasts = k.lasts;
  unended = or_false (unclogs_at m p) _ u k.unended;
}

to_clogged : (h : History) (p time : ℕ) → now h ≤ time → time < clog_ends h p → IsCloggedPast h p time
to_clogged [] p time passed before = absurd (omega (arith, before))
to_clogged (m ∷ h) p time passed before = at (to_clogged h p time earlier) (m.targets p) refl before
  where
    earlier : now h ≤ time
    earlier = omega (arith, passed)

    by : (time < clog_ends h p → IsCloggedPast h p time) → m.targets p ≡ true → (c : Option ℕ) (u : Option Target) → clogs m.entry.act m.entry.reply ≡ c → unclogs m.entry.act m.entry.reply ≡ u
        → time < option_map_or (λ n. clog_end n (now h) (clog_ends h p)) c (if is_some u then unclog_end (now h) (clog_ends h p) else clog_ends h p) → IsCloggedPast (m ∷ h) p time
    by was named (Some n) u ec eu lt = elim (longer (clog_ends h p) (min (now h + n) LAST_TICK) lt) [
      | inl l ↦ past_still m h p time (rw (named, clog_ends_none m.entry.act m.entry.reply n ec) refl) (was l)
      | inr l ↦ record { later = []; at = m; before = h; split = refl; named = named; ticks = n; clogged = ec; lasts = l; unended = refl }
    ]
      where
        longer : (a b : ℕ) → time < max a b → (time < a) ⊎ (time < b)
        longer a b l = elim (cases_lt time a) [
          | inl x ↦ inl x
          | inr x ↦ elim (cases_lt time b) [ inl y ↦ inr y | inr y ↦ absurd (let m : max a b ≤ time = max-le x y in omega (arith, l, m)) ]
        ]
    by was named None (Some t) ec eu lt = absurd (omega (arith, lt, earlier))
    by was named None None ec eu lt = past_still m h p time (rw (named, eu) refl) (was lt)

    at : (time < clog_ends h p → IsCloggedPast h p time) → (b : Bool) → m.targets p ≡ b → time < (if b then clog_end_by m.entry (now h) (clog_ends h p) else clog_ends h p) → IsCloggedPast (m ∷ h) p time
    at was true named lt = by was named (clogs m.entry.act m.entry.reply) (unclogs m.entry.act m.entry.reply) refl refl lt
    at was false named lt = past_still m h p time (rw named refl) (was lt)

-- what clogs a process until a time isn't ended by what follows
from_clogged : (h : History) (p time : ℕ) → now h ≤ time → (later : List Step) (at : Step) (before : History) (n : ℕ) → h ≡ later ++ at ∷ before → at.targets p ≡ true → clogs at.entry.act at.entry.reply ≡ Some n
    → time < min (now before + n) LAST_TICK → list_any (λ m. unclogs_at m p) later ≡ false → time < clog_ends h p
from_clogged [] p time passed later at before n split named clog lasts u = absurd (none_is_some later at before split)
from_clogged (m ∷ h) p time passed [] at before n split named clog lasts u =
    let same : at ≡ m = cc in
    let rest : before ≡ h = cc in
    let named_m : m.targets p ≡ true = subst (λ x. x.targets p ≡ true) same named in
    let clog_m : clogs m.entry.act m.entry.reply ≡ Some n = subst (λ x. clogs x.entry.act x.entry.reply ≡ Some n) same clog in
    let end : time < min (now h + n) LAST_TICK = subst (λ b. time < min (now b + n) LAST_TICK) rest lasts in
    rw (named_m, clog_m) (omega (arith, end, le-max_right (clog_ends h p) (min (now h + n) LAST_TICK)))
from_clogged (m ∷ h) p time passed (k ∷ later) at before n split named clog lasts u =
    let parts = or_parts (unclogs_at k p) (list_any (λ m. unclogs_at m p) later) u in
    let same : k ≡ m = cc in
    let rest : h ≡ later ++ at ∷ before = cc in
    go (from_clogged h p time (omega (arith, passed)) later at before n rest named clog lasts parts.1) (subst (λ x. unclogs_at x p ≡ false) same parts.0) (m.targets p) refl
  where
    by : time < clog_ends h p → (c : Option ℕ) (u : Option Target) → is_some u ≡ false → time < option_map_or (λ n. clog_end n (now h) (clog_ends h p)) c (if is_some u then unclog_end (now h) (clog_ends h p) else clog_ends h p)
    by lt (Some n) u none = omega (arith, lt, le-max_left (clog_ends h p) (min (now h + n) LAST_TICK))
    by lt None (Some t) none = absurd (true≢false none)
    by lt None None none = lt

    go : time < clog_ends h p → unclogs_at m p ≡ false → (b : Bool) → m.targets p ≡ b → time < clog_ends (m ∷ h) p
    go lt u true named = rw named (by lt (clogs m.entry.act m.entry.reply) (unclogs m.entry.act m.entry.reply) (let e : (m.targets p && is_some (unclogs m.entry.act m.entry.reply)) ≡ false = u in rw named at e))
    go lt u false named = rw named lt

pub clogged_by_place : CloggedByPlace
clogged_by_place h p = (
  λ c. to_clogged h p (now h) (omega arith) (ltb-true (now h) (clog_ends h p) c),
  λ k. lt-ltb (now h) (clog_ends h p) (from_clogged h p (now h) (omega arith) k.later k.at k.before k.ticks k.split k.named k.clogged k.lasts k.unended),
)
