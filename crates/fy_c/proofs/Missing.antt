-- a heal that is refused for a record: the process still needs it
use Rattle.std.proofs.Common.{◌≡◌, ◌&&◌, not, ℕ, Bool, true, false, List, [], ◌∷◌, Option, Some, None, map, find, length, slice_get, nat_lt, append-nil, if◌then◌else◌, refl, sym, ap, ap₂, ◌∙◌, arith}
use Rattle.std.specs.Prelude.{Result, Ok}
use Rattle.std.specs.List.{range_with_len}
use Rattle.std.specs.Option.{option_map_or}
use Rattle.std.proofs.lemmas.Bool.Decides.{nat_tests}
use Rattle.fy_disk.specs.Disks.{has_record}
use Rattle.fy_locality.specs.declared.ProcId.{ProcId}
use Rattle.fy_team.specs.Teams.{is_among}
use Rattle.fy_acts.specs.declared.act.Act.TheVariants.{Heal}
use Rattle.fy_acts.specs.declared.reply.Refusal.{Refusal}
use Rattle.fy_acts.specs.declared.reply.Refusal.TheVariants.{Stranger, WrongRole, NoProcess, Gone, NotDestroyed, NotUp, StillNeeds}
use Rattle.fy_acts.specs.declared.reply.Reply.{Reply}
use Rattle.fy_acts.specs.declared.reply.Reply.TheVariants.{Done, No}
use Rattle.fy_cluster.specs.declared.fault.Fault.{Fault}
use Rattle.fy_cluster.specs.Setup.{Setup}
use Rattle.fy_cluster.specs.Execution.{Execution, history_of, next_entry}
use Rattle.fy_cluster.specs.History.{History, Step, step_of, Write, Fate, pending, durable, lost, is_durable, fate_after, write_after, writes_to, items_with, records, teams, members_for, acked, gone, destroyed, up}
use Rattle.fy_cluster.specs.Replies.{reply, reasons, refusals, answer, first_refusal_or, still_needs, no_actor, may_make, no_process}
use Rattle.fy_cluster.specs.Sights.{needed_at, needed_of}
use Rattle.fy_cluster.proofs.Journals.{moments_entered}
use Rattle.fy_cluster.proofs.Still.{or_nothing}
use Rattle.fy_c.specs.Entering.{Applies, Enters, IsMissing, refusal_of}

-- ---- a refused heal leaves what its process needs

-- the step of a heal that is refused
abbrev refused : Setup → History → (at by : ℕ) → ProcId → Refusal → Step
refused c h at by p why =
    step_of c h (record { at = at; by = by; act = Heal p; reply = No why })

writes_same : (c : Setup) (h : History) (at by : ℕ) (p : ProcId) (why : Refusal) (q : ℕ) →
    writes_to (refused c h at by p why ∷ h) q ≡ writes_to h q
writes_same c h at by p why q = append-nil (map (write_after q m) (writes_to h q)) ∙ all (writes_to h q)
  where
    m : Step
    m = refused c h at by p why

    fate : (f : Fate) → fate_after q m f ≡ f
    fate (pending i) = refl
    fate durable = refl
    fate lost = refl

    all : (ws : List Write) → map (write_after q m) ws ≡ ws
    all [] = refl
    all (w ∷ ws) = ap₂ (λ (f : Fate) (rest : List Write). record w { fate = f } ∷ rest) (fate w.fate) (all ws)

needed_same : (c : Setup) (h : History) (at by : ℕ) (p : ProcId) (why : Refusal) (q : ℕ) →
    needed_at (refused c h at by p why ∷ h) q ≡ needed_at h q
needed_same c h at by p why q =
    λ i. find
    (λ r. or_nothing (acked h r) i && is_among (members r i) q
    && not (has_record (items_with is_durable (writes_same c h at by p why q i)) r))
    (range_with_len 0 (length (append-nil (records h) i)))
  where
    members : (r : ℕ) → members_for (refused c h at by p why ∷ h) r ≡ members_for h r
    members r = λ i. option_map_or
        (λ b. option_map_or (λ t. t.members) (slice_get (append-nil (teams h) i) b.team) [])
        (slice_get (append-nil (records h) i) r) []

-- ---- which record the refusal names

-- the first reason is the record, so none before it holds
named : (a b c d e f : Bool) (need : Option ℕ) (rec : ℕ) →
    first_refusal_or
    ((a, Stranger)
    ∷ (b, WrongRole)
    ∷ (c, NoProcess)
    ∷ (d, Gone)
    ∷ (not e, NotDestroyed)
    ∷ (not f, NotUp)
    ∷ still_needs need
    ∷ [])
    Done
    ≡ No (StillNeeds rec) → (c ≡ false) × (need ≡ Some rec)
named true b c d e f need rec is = absurd (cc)
named false true c d e f need rec is = absurd (cc)
named false false true d e f need rec is = absurd (cc)
named false false false true e f need rec is = absurd (cc)
named false false false false false f need rec is = absurd (cc)
named false false false false true false need rec is = absurd (cc)
named false false false false true true None rec is = absurd (cc)
named false false false false true true (Some n) rec is = (refl, cc)

heal_named : (c : Setup) (h : History) (by : ℕ) (p : ProcId) (rec : ℕ) →
    reply c h by (Heal p) ≡ No (StillNeeds rec) →
    (no_process c p.0 ≡ false) × (needed_at h p.0 ≡ Some rec)
unfolding reply reasons refusals answer
heal_named c h by p rec is =
    named (no_actor c by) (not (may_make c by (Heal p))) (no_process c p.0) (gone h p.0)
    (destroyed h p.0) (up h p.0) (needed_at h p.0) rec is

-- ---- what the call tells

still_needed : (old new : Execution) (by process rec : ℕ) →
    Applies old new by (Heal (record { 0 = process })) (Ok (No (StillNeeds rec))) →
    IsMissing old new by process
still_needed old new by process rec applies = record {
  rec = rec;
  named = sym applies.1;
  needed =
      ap (λ (it : Execution). needed_of it.setup (history_of it) process) applies.0
      ∙ ap (λ h. needed_of old.setup h process)
      (moments_entered old.setup old.journal (next_entry old by (Heal p)))
      ∙ ap
      (λ r. needed_of old.setup (step_of old.setup (history_of old) (record {
        at = length old.journal;
        by = by;
        act = Heal p;
        reply = r;
      }) ∷ history_of old) process)
      (sym applies.1)
      ∙ ap₂ (λ (b : Bool) (need : Option ℕ). if b then need else None) there
      (needed_same old.setup (history_of old) (length old.journal) by p (StillNeeds rec) process
      ∙ is.1);
}
  where
    p : ProcId
    p = record { 0 = process }

    is : (no_process old.setup process ≡ false) × (needed_at (history_of old) process ≡ Some rec)
    is = heal_named old.setup (history_of old) by p rec (sym applies.1)

    there : nat_lt process (length old.setup.processes) ≡ true
    there = grind (arith, nat_tests, is.0)

-- a heal whose answer names a record
told_missing : (old new : Execution) (by process : ℕ) (answer : Result Reply Fault) →
    Applies old new by (Heal (record { 0 = process })) answer → refusal_of answer ≡ 25 →
    IsMissing old new by process
told_missing old new by process (Ok (No (StillNeeds rec))) applies is =
    still_needed old new by process rec applies
told_missing old new by process _ applies is = absurd (omega (arith, is))

-- and one of which that is told
pub missing : (old new : Execution) (by process code refusal : ℕ) →
    Enters old new by (Heal (record { 0 = process })) code refusal → refusal ≡ 25 →
    IsMissing old new by process
missing old new by process code refusal enters is =
    told_missing old new by process enters.answer enters.applies (sym enters.why ∙ is)
