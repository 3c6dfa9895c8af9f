-- what was written, one step after another
use Rattle.std.proofs.Common.{◌≡◌, ℕ, zero, suc, ◌+◌, ◌-◌, ◌<◌, ◌≤◌, Bool, true, false, ◌||◌, ◌&&◌, cond, List, [], ◌∷◌, ◌++◌, length, take, drop, get_or, map, Option, Some, None, refl, sym, ◌∙◌, ap, ap₂, arith, add-one}
use Rattle.std.proofs.Math.Seq.{take-length}
use Rattle.std.proofs.lemmas.List.{length-drop, take_all, drop_all}
use Rattle.std.specs.Prelude.{find, option_to_list, ◌==◌, is_none, not, if◌then◌else◌}
use Rattle.std.specs.List.{list_any}
use Rattle.fy_locality.specs.declared.ProcId.{ProcId}
use Rattle.fy_disk.specs.declared.item.Item.{Item}
use Rattle.fy_net.specs.declared.message.Body.TheVariants.{Synced}
use Rattle.fy_cluster.specs.History.{History, Step, some_is, closes, close_keeps, destroys, writes, written_item, acks_of}
use Rattle.fy_check_by_rules.specs.Written.{is_kept, written, place}
use Rattle.fy_check_by_rules.specs.declared.step.FoundStep.{FoundStep}
use Rattle.fy_check_by_rules.specs.Past.{as_step, past}
use Rattle.fy_check_by_rules.specs.Later.{later_after}
use Rattle.fy_check_by_rules.proofs.Pasts.{past_next}

pub closes-later : (h : History) (p : ℕ) (later : List FoundStep) → is_none (find (closes p) (later_after h later)) ≡ not (list_any (λ s. closes p (as_step [] s)) later)
closes-later h p [] = refl
closes-later h p (s ∷ later) = at (closes p (as_step [] s)) (closes-later (as_step h s ∷ h) p later)
  where
    rest : Option Step
    rest = find (closes p) (later_after (as_step h s ∷ h) later)

    some : Bool
    some = list_any (λ s. closes p (as_step [] s)) later

    at : (b : Bool) → is_none rest ≡ not some → is_none (cond b (Some (as_step h s)) rest) ≡ not (b || some)
    at true e = refl
    at false e = e

pub keeps-later : (h : History) (p i : ℕ) (later : List FoundStep) → some_is (close_keeps p i) (find (closes p) (later_after h later)) ≡ some_is (λ s. close_keeps p i (as_step [] s)) (find (λ s. closes p (as_step [] s)) later)
keeps-later h p i [] = refl
keeps-later h p i (s ∷ later) = at (closes p (as_step [] s)) (keeps-later (as_step h s ∷ h) p i later)
  where
    rest : Option Step
    rest = find (closes p) (later_after (as_step h s ∷ h) later)

    found : Option FoundStep
    found = find (λ s. closes p (as_step [] s)) later

    at : (b : Bool) → some_is (close_keeps p i) rest ≡ some_is (λ s. close_keeps p i (as_step [] s)) found → some_is (close_keeps p i) (cond b (Some (as_step h s)) rest) ≡ some_is (λ s. close_keeps p i (as_step [] s)) (cond b (Some s) found)
    at true e = refl
    at false e = e

pub destroys-later : (h : History) (p : ℕ) (later : List FoundStep) → list_any (λ m. destroys m p) (later_after h later) ≡ list_any (λ s. destroys (as_step [] s) p) later
destroys-later h p [] = refl
destroys-later h p (s ∷ later) = ap (λ b. destroys (as_step [] s) p || b) (destroys-later (as_step h s ∷ h) p later)

-- what becomes of a write, by the steps alone
pub kept_later : (h : History) (p i : ℕ) (later : List FoundStep) → is_kept p (later_after h later) i
    ≡ (some_is (λ s. close_keeps p i (as_step [] s)) (find (λ s. closes p (as_step [] s)) later) && not (list_any (λ s. destroys (as_step [] s) p) later))
kept_later h p i later = ap₂ (λ a b. a && not b) (keeps-later h p i later) (destroys-later h p later)

-- the records of what was written
abbrev pub recs : List Item → List ℕ
recs items = map (λ (x : Item). x.rec) items

recs-push : (h : History) (items : List Item) (passes : Bool) (write : Option ℕ) → recs (items ++ option_to_list (if passes then written_item h write else None)) ≡ recs items ++ option_to_list (if passes then write else None)
recs-push h [] true (Some r) = refl
recs-push h [] true None = refl
recs-push h [] false w = refl
recs-push h (x ∷ items) passes w = ap (λ rs. x.rec ∷ rs) (recs-push h items passes w)

-- the later steps are the next one and those after it
pub drop-next : {X : Type 0} (xs : List X) (i : ℕ) (x : X) → i < length xs → x ≡ get_or xs i x → drop i xs ≡ x ∷ drop (suc i) xs
drop-next [] i x l e = absurd (omega (arith, l))
drop-next (y ∷ xs) zero x l e = ap (λ z. z ∷ xs) (sym e)
drop-next (y ∷ xs) (suc i) x l e = drop-next xs i x (omega (arith, l)) e

-- what came later than the first steps
abbrev pub later_at : List FoundStep → ℕ → List Step
later_at steps i = later_after (past (take i steps)) (drop i steps)

later-next : (steps : List FoundStep) (i : ℕ) (s : FoundStep) → i < length steps → s ≡ get_or steps i s → later_at steps i ≡ as_step (past (take i steps)) s ∷ later_at steps (i + 1)
later-next steps i s l e =
    ap (later_after (past (take i steps))) (drop-next steps i s l e)
    ∙ ap₂ (λ h rest. as_step (past (take i steps)) s ∷ later_after h rest) (sym (past_next steps i s l e)) (ap (λ n. drop n steps) (sym (add-one i)))

-- one step more
pub written-next : (p : ℕ) (passes : List Step → ℕ → Bool) (steps : List FoundStep) (i : ℕ) (s : FoundStep) → i < length steps → s ≡ get_or steps i s
    → recs (written p passes (later_at steps (i + 1)) (past (take (i + 1) steps)))
    ≡ recs (written p passes (later_at steps i) (past (take i steps))) ++ option_to_list (if passes (later_at steps (i + 1)) (place (past (take i steps)) p) then writes (as_step [] s) p else None)
written-next p passes steps i s l e =
    let h = past (take i steps) in
    let later = later_at steps (i + 1) in
    ap (λ h. recs (written p passes later h)) (past_next steps i s l e)
    ∙ recs-push h (written p passes (as_step h s ∷ later) h) (passes later (place h p)) (writes (as_step [] s) p)
    ∙ ap (λ later_i. recs (written p passes later_i h) ++ option_to_list (if passes later (place h p) then writes (as_step [] s) p else None)) (sym (later-next steps i s l e))

-- all steps
pub written_all : (p : ℕ) (passes : List Step → ℕ → Bool) (steps : List FoundStep) (i : ℕ) (list : List ℕ) (items : List Item) → length steps ≤ i
    → list ≡ recs (written p passes (later_at steps i) (past (take i steps))) → items ≡ written p passes [] (past steps) → list ≡ recs items
written_all p passes steps i list items l is same =
    is
    ∙ ap₂ (λ (front rest : List FoundStep). recs (written p passes (later_after (past front) rest) (past front))) (take_all i steps l) (drop_all i steps l)
    ∙ ap recs (sym same)

-- a record is among those of the items
pub any_recs : (items : List Item) (r : ℕ) → list_any (λ n. n == r) (recs items) ≡ list_any (λ (x : Item). x.rec == r) items
any_recs [] r = refl
any_recs (x ∷ items) r = ap (λ b. x.rec == r || b) (any_recs items r)

-- the first later step that closes, and what it keeps
abbrev pub keeps_first : ℕ → ℕ → List FoundStep → Bool
keeps_first p i later = some_is (λ s. close_keeps p i (as_step [] s)) (find (λ s. closes p (as_step [] s)) later)

pub keeps-next : (p at : ℕ) (later : List FoundStep) (i : ℕ) (s : FoundStep) → i < length later → s ≡ get_or later i s → keeps_first p at (drop i later) ≡ cond (closes p (as_step [] s)) (close_keeps p at (as_step [] s)) (keeps_first p at (drop (i + 1) later))
keeps-next p at later i s l e =
    ap (keeps_first p at) (drop-next later i s l e ∙ ap (λ n. s ∷ drop n later) (sym (add-one i))) ∙ here (closes p (as_step [] s))
  where
    rest : Option FoundStep
    rest = find (λ s. closes p (as_step [] s)) (drop (i + 1) later)

    here : (b : Bool) → some_is (λ s. close_keeps p at (as_step [] s)) (cond b (Some s) rest) ≡ cond b (close_keeps p at (as_step [] s)) (some_is (λ s. close_keeps p at (as_step [] s)) rest)
    here true = refl
    here false = refl

-- all that comes from a place on
pub rest-all : {X : Type 0} (xs : List X) (i : ℕ) → take (length xs - i) (drop i xs) ≡ drop i xs
rest-all xs i = ap (λ n. take n (drop i xs)) (sym (length-drop i xs)) ∙ take-length (drop i xs)

-- the words of the records of what was written
pub acks_are : (process : ProcId) (items : List Item) → map (λ (rec : ℕ). Synced rec process) (recs items) ≡ acks_of process items
acks_are process [] = refl
acks_are process (x ∷ items) = ap (λ words. Synced x.rec process ∷ words) (acks_are process items)
