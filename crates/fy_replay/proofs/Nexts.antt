-- whether an entry may come next
use Rattle.std.proofs.Common.{◌≡◌, ◌↔◌, ℕ, ◌<◌, ◌≤◌, inl, inr, Bool, true, List, [], ◌∷◌, ◌++◌, length, take, get_or, slice_get, Some, Ok, Err, Result, IsTrue, sym, ◌∙◌, ap, arith}
use Rattle.std.specs.Bool.{Decides}
use Rattle.std.proofs.lemmas.Bool.{cases_lt}
use Rattle.std.proofs.lemmas.List.{length-take-le}
use Rattle.fy_acts.specs.declared.act.Act.{Act}
use Rattle.fy_acts.specs.declared.reply.Reply.{Reply}
use Rattle.fy_acts.specs.declared.entry.Entry.{Entry}
use Rattle.fy_acts.specs.declared.version.Version.{Version}
use Rattle.fy_cluster.specs.declared.fault.Fault.{Fault}
use Rattle.fy_cluster.specs.declared.fault.Fault.TheVariants.{JournalFull}
use Rattle.fy_cluster.specs.Setup.{Setup}
use Rattle.fy_cluster.specs.Execution.{Execution, replied, entered}
use Rattle.fy_cluster.specs.History.{history}
use Rattle.fy_cluster.specs.Replies.{reply}
use Rattle.fy_cluster.specs.Versions.{LegalUnder, NextLegalUnder}
use Rattle.fy_acts.specs.Versions.{knows}
use Rattle.std.proofs.lemmas.Option.{slice_get-get_or}

-- the entry with its journal is legal where the test is true
abbrev pub Tells : Version → Setup → List Entry → Entry → Bool → Type 0
Tells version c journal e may = IsTrue may ↔ LegalUnder version c (journal ++ e ∷ [])

pub by_reply : NextLegalUnder → (version : Version) (c : Setup) (journal : List Entry) (e : Entry) (answered : Reply) (same : Bool) → LegalUnder version c journal → knows version e.act ≡ true → length journal < c.limit → e.at ≡ length journal
    → answered ≡ reply c (history c journal) e.by e.act → Decides same (answered ≡ e.reply) → Tells version c journal e same
by_reply law version c journal e answered same l k room place right d = (
  λ t. (law version c journal e l).1 (record { room = room; place = place; right = sym (d.0 t) ∙ right }, k),
  λ more. d.1 (right ∙ sym ((law version c journal e l).0 more).0.right),
)

-- where an entry was made, the journal had a place for it
pub had_place : (n limit : ℕ) (made : Entry) → ((limit ≤ n) ↔ (let result : Result Entry Fault = Ok made in result ≡ Err JournalFull)) → n < limit
had_place n limit made full = elim (cases_lt n limit) [ inl room ↦ room | inr none ↦ absurd (let wrong = full.0 none in let no : ⊥ = cc in no) ]

-- the entry of these parts
pub of_parts : (e : Entry) (at : ℕ) (act : Act) (reply : Reply) → e.at ≡ at → e.act ≡ act → e.reply ≡ reply → record { at = at; by = e.by; act = act; reply = reply } ≡ e
of_parts e at act reply p a r = λ i. record { at = sym p i; by = e.by; act = sym a i; reply = sym r i }

-- the course has the entry then
pub entered_is : (execution new : Execution) (e : Entry) (act : Act) (answered : Reply) → act ≡ e.act → e.at ≡ length execution.journal → answered ≡ e.reply → answered ≡ replied execution e.by act → new ≡ entered execution e.by act
    → new ≡ record { setup = execution.setup; journal = execution.journal ++ e ∷ [] }
entered_is execution new e act answered a place same right is =
    is ∙ ap (λ (x : Entry). let more : Execution = record { setup = execution.setup; journal = execution.journal ++ x ∷ [] } in more) (of_parts e (length execution.journal) act (replied execution e.by act) place (sym a) (sym same ∙ right))

-- ---- the entries one after another

-- each entry is numbered by its place
abbrev pub AreNumbered : List Entry → Type 0
AreNumbered entries = (place : ℕ) (entry : Entry) → slice_get entries place ≡ Some entry → entry.at ≡ place

pub place_is : (entries : List Entry) (i : ℕ) (e : Entry) → i < length entries → e ≡ get_or entries i e → AreNumbered entries → e.at ≡ length (take i entries)
place_is entries i e l is numbered =
    numbered i e (slice_get-get_or entries i e l ∙ ap Some (sym is)) ∙ sym (length-take-le i entries (omega arith))
