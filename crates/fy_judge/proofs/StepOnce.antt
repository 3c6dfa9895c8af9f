-- a line does one thing to what was said before it
use Rattle.std.proofs.Common.{◌≡◌, ◌≢◌, ◌∙◌, ◌↔◌, ◌⊎◌, inl, inr, ◌<◌, ◌≤◌, zero, suc, Bool, true, false, cond, leb, ℕ, List, [], ◌∷◌, ◌++◌, length, Option, Some, None, refl, sym, ap, arith}
use Rattle.std.specs.Prelude.{Result, Ok, Err}
use Rattle.std.specs.Set.{is_member}
use Rattle.std.specs.Str.{bytes_eq}
use Rattle.std.proofs.lemmas.Bool.Decides.{nat_tests}
use Rattle.fy_locality.specs.declared.locality.Locality.{Locality}
use Rattle.fy_locality.specs.declared.key.Key.{Key}
use Rattle.fy_locality.specs.declared.key.Key.TheVariants.{Process}
use Rattle.fy_locality.specs.declared.map.MapFault.{MapFault}
use Rattle.fy_locality.specs.declared.map.MapFault.TheVariants.{Twice as MapTwice, TooMany as MapTooMany}
use Rattle.fy_locality.specs.Locality.{value_of, values_of, id_refusal}
use Rattle.fy_policy.specs.Tree.{Tree}
use Rattle.fy_policy.specs.Reading.{Reads}
use Rattle.fy_policy.specs.declared.fault.PolicyFault.{PolicyFault}
use Rattle.fy_policy.specs.declared.fault.PolicyFault.TheVariants.{NoMemory}
use Rattle.fy_decide.specs.declared.dead_book.Loss.{Loss}
use Rattle.fy_judge.specs.declared.line.Ask.{Ask}
use Rattle.fy_judge.specs.declared.stop.JudgeFault.{JudgeFault}
use Rattle.fy_judge.specs.declared.stop.JudgeFault.TheVariants.{Syntax, Policy, Twice, TooMany, Unknown}
use Rattle.fy_judge.specs.JudgeLines.{ParsedLine, policy, process, ask, Input, Step, unread, policy_late, policy_refused, policy_ninth, policy_next, process_early, process_late, process_twice, process_too_many, process_next, ask_early, ask_unknown, ask_next}

-- what the crates below say of the names of processes, and of the texts of policies
abbrev pub NamesOccur : Type 0
NamesOccur = (processes : List Locality) (key : Key) (v : List ℕ) → (is_member bytes_eq (values_of processes key) v ≡ true) ↔ ((p : ℕ) × (value_of processes key p ≡ Some v))

abbrev pub ReadingSettled : Type 0
ReadingSettled = (bytes : List ℕ) (a b : Result Tree PolicyFault) → Reads bytes a → Reads bytes b → (a ≡ Err NoMemory → ⊥) → (b ≡ Err NoMemory → ⊥) → a ≡ b

-- no two processes have one name
abbrev pub Differ : List Locality → Type 0
Differ processes = (p q : ℕ) (id : List ℕ) → value_of processes Process p ≡ Some id → value_of processes Process q ≡ Some id → p ≡ q

-- ---- names that differ

-- the name of a process is that of an earlier one, or it is the new one's
value_of-push : (processes : List Locality) (new : Locality) (p : ℕ) (id : List ℕ) → value_of (processes ++ new ∷ []) Process p ≡ Some id
    → (value_of processes Process p ≡ Some id) ⊎ ((p ≡ length processes) × (new.process ≡ id))
value_of-push [] new zero id e = inr (refl, let same : new.process ≡ id = cc in same)
value_of-push [] new (suc p) id e = absurd (let x : ⊥ = cc in x)
value_of-push (x ∷ xs) new zero id e = inl e
value_of-push (x ∷ xs) new (suc p) id e = go (value_of-push xs new p id e)
  where
    go : (value_of xs Process p ≡ Some id) ⊎ ((p ≡ length xs) × (new.process ≡ id)) → (value_of xs Process p ≡ Some id) ⊎ ((suc p ≡ length (x ∷ xs)) × (new.process ≡ id))
    go (inl earlier) = inl earlier
    go (inr last) = inr (ap suc last.0, last.1)

Differ-push : (processes : List Locality) (new : Locality) → Differ processes → ((p : ℕ) → value_of processes Process p ≡ Some new.process → ⊥) → Differ (processes ++ new ∷ [])
Differ-push processes new differ fresh p q id e f = go (value_of-push processes new p id e) (value_of-push processes new q id f)
  where
    go : (value_of processes Process p ≡ Some id) ⊎ ((p ≡ length processes) × (new.process ≡ id)) → (value_of processes Process q ≡ Some id) ⊎ ((q ≡ length processes) × (new.process ≡ id)) → p ≡ q
    go (inl a) (inl b) = differ p q id a b
    go (inl a) (inr b) = absurd (fresh p (a ∙ ap Some (sym b.1)))
    go (inr a) (inl b) = absurd (fresh q (b ∙ ap Some (sym a.1)))
    go (inr a) (inr b) = a.0 ∙ sym b.0

-- a name that may be added is nobody's
fresh_name : NamesOccur → (processes : List Locality) (id : List ℕ) → id_refusal processes id ≡ None → (p : ℕ) → value_of processes Process p ≡ Some id → ⊥
fresh_name occur processes id free p e = go (is_member bytes_eq (values_of processes Process) id) ((occur processes Process id).1 (p, e)) free
  where
    go : (taken : Bool) → taken ≡ true → cond taken (Some MapTwice) (cond (leb 1024 (length processes)) (Some MapTooMany) None) ≡ None → ⊥
    go true is e = let x : ⊥ = cc in x
    go false is e = let x : ⊥ = cc in x

-- ---- one outcome

-- what comes of a process's line
process_outcome : List Tree → List Ask → Option MapFault → Result Input JudgeFault → Result Input JudgeFault
process_outcome [] asks refusal added = Err Syntax
process_outcome (p ∷ ps) (a ∷ later) refusal added = Err Syntax
process_outcome (p ∷ ps) [] None added = added
process_outcome (p ∷ ps) [] (Some MapTwice) added = Err Twice
process_outcome (p ∷ ps) [] (Some _) added = Err TooMany

outcome_late : (policies : List Tree) (asks : List Ask) (refusal : Option MapFault) (added : Result Input JudgeFault) → (asks ≡ [] → ⊥) → process_outcome policies asks refusal added ≡ Err Syntax
unfolding process_outcome
outcome_late [] asks refusal added some = refl
outcome_late (p ∷ ps) [] refusal added some = absurd (some refl)
outcome_late (p ∷ ps) (a ∷ later) refusal added some = refl

outcome_twice : (policies : List Tree) (asks : List Ask) (refusal : Option MapFault) (added : Result Input JudgeFault) → (policies ≡ [] → ⊥) → asks ≡ [] → refusal ≡ Some MapTwice → process_outcome policies asks refusal added ≡ Err Twice
unfolding process_outcome
outcome_twice [] asks refusal added some none is = absurd (some refl)
outcome_twice (p ∷ ps) asks refusal added some none is = rw (none, is) refl

outcome_too_many : (policies : List Tree) (asks : List Ask) (refusal : Option MapFault) (added : Result Input JudgeFault) → (policies ≡ [] → ⊥) → asks ≡ [] → refusal ≡ Some MapTooMany → process_outcome policies asks refusal added ≡ Err TooMany
unfolding process_outcome
outcome_too_many [] asks refusal added some none is = absurd (some refl)
outcome_too_many (p ∷ ps) asks refusal added some none is = rw (none, is) refl

outcome_next : (policies : List Tree) (asks : List Ask) (refusal : Option MapFault) (added : Result Input JudgeFault) → (policies ≡ [] → ⊥) → asks ≡ [] → refusal ≡ None → process_outcome policies asks refusal added ≡ added
unfolding process_outcome
outcome_next [] asks refusal added some none is = absurd (some refl)
outcome_next (p ∷ ps) asks refusal added some none is = rw (none, is) refl

outcome_early : (policies : List Tree) (asks : List Ask) (refusal : Option MapFault) (added : Result Input JudgeFault) → policies ≡ [] → process_outcome policies asks refusal added ≡ Err Syntax
unfolding process_outcome
outcome_early policies asks refusal added none = rw none refl

outcome_of_process : (i : Input) (new : Locality) (x : Result Input JudgeFault) → Step i (Some (process new)) x → process_outcome i.policies i.asks (id_refusal i.processes new.process) (Ok (record i { processes = i.processes ++ new ∷ [] })) ≡ x
outcome_of_process i new x (process_early _ none) = outcome_early _ _ _ _ none
outcome_of_process i new x (process_late _ some) = outcome_late _ _ _ _ some
outcome_of_process i new x (process_twice _ some none is) = outcome_twice _ _ _ _ some none is
outcome_of_process i new x (process_too_many _ some none is) = outcome_too_many _ _ _ _ some none is
outcome_of_process i new x (process_next _ some none is) = outcome_next _ _ _ _ some none is

-- what comes of a policy's line, by what its text reads as
policy_outcome : Input → Result Tree PolicyFault → Result Input JudgeFault
policy_outcome i (Err fault) = Err Policy
policy_outcome i (Ok tree) = cond (leb 8 (length i.policies)) (Err TooMany) (Ok (record i { policies = i.policies ++ tree ∷ [] }))

many_is : (n : ℕ) → 8 ≤ n → leb 8 n ≡ true
many_is n many = grind (arith, nat_tests)

few_is : (n : ℕ) → n < 8 → leb 8 n ≡ false
few_is n few = grind (arith, nat_tests)

-- a policy comes after a process, or its text reads as something
record ReadsTo (i : Input) (text : List ℕ) (x : Result Input JudgeFault) : Type 0 where
  reading : Result Tree PolicyFault
  reads : Reads text reading
  memory : reading ≡ Err NoMemory → ⊥
  outcome : policy_outcome i reading ≡ x

late_or_read : (i : Input) (text : List ℕ) (x : Result Input JudgeFault) → Step i (Some (policy text)) x → ((i.processes ≡ [] → ⊥) × (x ≡ Err Syntax)) ⊎ ((i.processes ≡ []) × ReadsTo i text x)
unfolding policy_outcome
late_or_read i text x (policy_late _ some) = inl (some, refl)
late_or_read i text x (policy_refused _ fault none reads wanted) = inr (none, record { reading = Err fault; reads = reads; memory = λ e. wanted (let same : fault ≡ NoMemory = cc in same); outcome = refl })
late_or_read i text x (policy_ninth _ tree none reads many) = inr (none, record { reading = Ok tree; reads = reads; memory = λ e. let x : ⊥ = cc in x; outcome = rw (many_is (length i.policies) many) refl })
late_or_read i text x (policy_next _ tree none reads few) = inr (none, record { reading = Ok tree; reads = reads; memory = λ e. let x : ⊥ = cc in x; outcome = rw (few_is (length i.policies) few) refl })

policy_once : ReadingSettled → (i : Input) (text : List ℕ) (x y : Result Input JudgeFault) → Step i (Some (policy text)) x → Step i (Some (policy text)) y → x ≡ y
policy_once settled i text x y a b = go (late_or_read i text x a) (late_or_read i text y b)
  where
    go : ((i.processes ≡ [] → ⊥) × (x ≡ Err Syntax)) ⊎ ((i.processes ≡ []) × ReadsTo i text x) → ((i.processes ≡ [] → ⊥) × (y ≡ Err Syntax)) ⊎ ((i.processes ≡ []) × ReadsTo i text y) → x ≡ y
    go (inl a) (inl b) = a.1 ∙ sym b.1
    go (inl a) (inr b) = absurd (a.0 b.0)
    go (inr a) (inl b) = absurd (b.0 a.0)
    go (inr a) (inr b) = sym a.1.outcome ∙ ap (policy_outcome i) (settled text a.1.reading b.1.reading a.1.reads b.1.reads a.1.memory b.1.memory) ∙ b.1.outcome

-- an ask comes before the processes, or of none of them, or of one
data AskedTo (i : Input) (loss : Loss) (id : List ℕ) (x : Result Input JudgeFault) : Type 0 where
  early : i.processes ≡ [] → x ≡ Err Syntax → AskedTo i loss id x
  unknown : (i.processes ≡ [] → ⊥) → ((p : ℕ) → value_of i.processes Process p ≢ Some id) → x ≡ Err Unknown → AskedTo i loss id x
  known : (p : ℕ) → (i.processes ≡ [] → ⊥) → value_of i.processes Process p ≡ Some id → x ≡ Ok (record i { asks = i.asks ++ record { loss = loss; process = record { 0 = p } } ∷ [] }) → AskedTo i loss id x

asked : (i : Input) (loss : Loss) (id : List ℕ) (x : Result Input JudgeFault) → Step i (Some (ask loss id)) x → AskedTo i loss id x
asked i loss id x (ask_early _ _ none) = early none refl
asked i loss id x (ask_unknown _ _ some nobody) = unknown some nobody refl
asked i loss id x (ask_next _ _ p some is) = known p some is refl

ask_once : (i : Input) → Differ i.processes → (loss : Loss) (id : List ℕ) (x y : Result Input JudgeFault) → AskedTo i loss id x → AskedTo i loss id y → x ≡ y
ask_once i differ loss id x y (early none e) (early also f) = e ∙ sym f
ask_once i differ loss id x y (early none e) (unknown some nobody f) = absurd (some none)
ask_once i differ loss id x y (early none e) (known p some is f) = absurd (some none)
ask_once i differ loss id x y (unknown some nobody e) (early none f) = absurd (some none)
ask_once i differ loss id x y (unknown some nobody e) (unknown also nowhere f) = e ∙ sym f
ask_once i differ loss id x y (unknown some nobody e) (known p also is f) = absurd (nobody p is)
ask_once i differ loss id x y (known p some is e) (early none f) = absurd (some none)
ask_once i differ loss id x y (known p some is e) (unknown also nobody f) = absurd (nobody p is)
ask_once i differ loss id x y (known p some is e) (known q also was f) = e ∙ ap (λ (r : ℕ). Ok (record i { asks = i.asks ++ record { loss = loss; process = record { 0 = r } } ∷ [] })) (differ p q id is was) ∙ sym f

unread_is : (i : Input) (x : Result Input JudgeFault) → Step i None x → x ≡ Err Syntax
unread_is i x unread = refl

pub Step-once : ReadingSettled → (i : Input) → Differ i.processes → (said : Option ParsedLine) (x y : Result Input JudgeFault) → Step i said x → Step i said y → x ≡ y
Step-once settled i differ None x y a b = unread_is i x a ∙ sym (unread_is i y b)
Step-once settled i differ (Some (policy text)) x y a b = policy_once settled i text x y a b
Step-once settled i differ (Some (process new)) x y a b = sym (outcome_of_process i new x a) ∙ outcome_of_process i new y b
Step-once settled i differ (Some (ask loss id)) x y a b = ask_once i differ loss id x y (asked i loss id x a) (asked i loss id y b)

-- names go on to differ
pub Differ-Step : NamesOccur → (i : Input) → Differ i.processes → (said : Option ParsedLine) (j : Input) → Step i said (Ok j) → Differ j.processes
Differ-Step occur i differ said j (policy_next _ tree none reads few) = differ
Differ-Step occur i differ said j (process_next new some none is) = Differ-push i.processes new differ (fresh_name occur i.processes new.process is)
Differ-Step occur i differ said j (ask_next _ _ p some is) = differ
