-- the entries of an audit, whose acts are made once more
use Rattle.std.proofs.Common.{◌≡◌, ◌≢◌, ◌↔◌, ℕ, ◌<◌, ◌≤◌, inl, inr, List, [], ◌∷◌, ◌++◌, length, Ok, Err, Result, Bool, IsTrue, sym, ◌∙◌, ap, subst, append-nil}
use Rattle.std.specs.Bool.{Decides}
use Rattle.std.proofs.lemmas.Bool.{cases_lt}
use Rattle.fy_acts.specs.declared.reply.Reply.{Reply}
use Rattle.fy_acts.specs.declared.entry.Entry.{Entry}
use Rattle.fy_audit.specs.Audit.{AuditOf, BeginsFaulty, BeginsWith, MayStandFrom}
use Rattle.fy_audit.specs.AuditText.{header, audit_text}
use Rattle.fy_audit.specs.Reading.{EndsAsAudit, HasRead, ReaderState, ReadsEntry, Stops}
use Rattle.fy_audit.specs.declared.audit.AuditFault.{AuditFault}
use Rattle.fy_audit.specs.declared.audit.AuditFault.TheVariants.{TooLong, Line, NoMemory}
use Rattle.fy_audit.specs.declared.audit.AuditLineFault.TheVariants.{Header}
use Rattle.fy_cluster.specs.declared.fault.Fault.{Fault}
use Rattle.fy_cluster.specs.declared.fault.Fault.TheVariants.{JournalFull}
use Rattle.fy_cluster.specs.Setup.{Setup}
use Rattle.fy_cluster.specs.Execution.{Execution, replied, entered}
use Rattle.fy_cluster.specs.History.{history}
use Rattle.fy_cluster.specs.Replies.{Legal, reply}
use Rattle.fy_cluster.specs.Survival.{NextLegal}
use Rattle.fy_acts.specs.declared.version.Version.TheVariants.{First, Second}
use Rattle.fy_c.specs.Checking.{audit_status}
use Rattle.fy_c.specs.Resuming.{BeginsLegal, Follows, NotFollowed, Refutes}
use Rattle.fy_c.specs.declared.status.Status.TheVariants.{NoHeader}

-- the entry with its journal is legal just where it got the reply that it tells
pub by_reply : NextLegal → (c : Setup) (journal : List Entry) (e : Entry) (answered : Reply) (same : Bool) → Legal c journal → length journal < c.limit → e.at ≡ length journal
    → answered ≡ reply c (history c journal) e.by e.act → Decides same (answered ≡ e.reply) → IsTrue same ↔ Legal c (journal ++ e ∷ [])
by_reply law c journal e answered same legal room place right d = (
  λ t. (law c journal e legal).1 (record { room = room; place = place; right = sym (d.0 t) ∙ right }),
  λ more. d.1 (right ∙ sym ((law c journal e legal).0 more).right),
)

-- where a reply was made, the journal had a place for it
pub had_place : (n limit : ℕ) (made : Reply) → ((limit ≤ n) ↔ (let result : Result Reply Fault = Ok made in result ≡ Err JournalFull)) → n < limit
had_place n limit made full = elim (cases_lt n limit) [ inl room ↦ room | inr none ↦ absurd (let wrong = full.0 none in let no : ⊥ = cc in no) ]

-- the entry of these parts
of_parts : (e : Entry) (at : ℕ) (told : Reply) → e.at ≡ at → e.reply ≡ told → record { at = at; by = e.by; act = e.act; reply = told } ≡ e
of_parts e at told p r = λ i. record { at = sym p i; by = e.by; act = e.act; reply = sym r i }

-- the journal has the entry then
pub entered_is : (execution new : Execution) (e : Entry) (answered : Reply) → e.at ≡ length execution.journal → answered ≡ e.reply → answered ≡ replied execution e.by e.act → new ≡ entered execution e.by e.act
    → new ≡ record { setup = execution.setup; journal = execution.journal ++ e ∷ [] }
entered_is execution new e answered place same right is =
    is ∙ ap (λ (x : Entry). let more : Execution = record { setup = execution.setup; journal = execution.journal ++ x ∷ [] } in more) (of_parts e (length execution.journal) (replied execution e.by e.act) place (sym same ∙ right))

-- no header was given
pub no_header : (setup : Setup) (audit : List ℕ) (fault : AuditFault) → (fault ≢ TooLong → fault ≡ Line 1 Header) → AuditOf audit (Err fault) → NotFollowed setup audit (audit_status fault)
no_header setup audit TooLong first told = NotFollowed.too_long told
no_header setup audit (Line number fault) first told =
    let is = first (λ same. let wrong : ⊥ = cc in wrong) in
    subst (λ f. NotFollowed setup audit (audit_status f)) (sym is) (NotFollowed.no_header (subst (λ f. AuditOf audit (Err f)) is told))
no_header setup audit NoMemory first told = absurd told

-- an audit of the first version
pub of_first : (setup : Setup) (audit : List ℕ) (reader_state : ReaderState) → HasRead audit [] reader_state → reader_state.version ≡ First → NotFollowed setup audit NoHeader
of_first setup audit reader_state has first = NotFollowed.of_first has.bound reader_state.rest
    (has.split ∙ ap (λ v. audit_text v [] ++ reader_state.rest) first ∙ ap (λ text. text ++ reader_state.rest) (append-nil (header First)))

-- the entries that were read are those of a cluster, which are a legal journal
pub begins_legal : (setup : Setup) (audit : List ℕ) (now : Execution) (reader_state : ReaderState) → HasRead audit now.journal reader_state → reader_state.version ≡ Second → now.setup ≡ setup
    → Legal now.setup now.journal → BeginsLegal setup audit now.journal reader_state.rest
begins_legal setup audit now reader_state has second same legal = record {
  bound = has.bound;
  split = has.split ∙ ap (λ v. audit_text v now.journal ++ reader_state.rest) second;
  faultless = subst (λ v. MayStandFrom v 0 now.journal) second has.faultless;
  legal = subst (λ c. Legal c now.journal) same legal;
}

-- a reader stopped behind them
pub not_read : (setup : Setup) (audit : List ℕ) (now : Execution) (reader_state : ReaderState) (fault : AuditFault) → BeginsLegal setup audit now.journal reader_state.rest
    → reader_state.version ≡ Second → reader_state.place ≡ length now.journal → Stops reader_state fault → NotFollowed setup audit (audit_status fault)
not_read setup audit now reader_state TooLong begins second place none = absurd none
not_read setup audit now reader_state (Line number fault) begins second place stops =
    NotFollowed.faulty now.journal reader_state.rest begins fault
    (subst (λ v. BeginsFaulty v (length now.journal) reader_state.rest fault) second (subst (λ n. BeginsFaulty reader_state.version n reader_state.rest fault) place stops.1))
not_read setup audit now reader_state NoMemory begins second place stops = NotFollowed.no_memory now.journal reader_state.rest begins

-- the entry that was read behind them is no part of a legal journal
pub refuted : (setup : Setup) (audit : List ℕ) (before : Execution) (bad : Entry) (reader_state now : ReaderState) → before.setup ≡ setup → BeginsLegal setup audit before.journal reader_state.rest
    → reader_state.version ≡ Second → reader_state.place ≡ length before.journal → ReadsEntry bad reader_state now → (Legal before.setup (before.journal ++ bad ∷ []) → ⊥) → Refutes setup audit bad.at
refuted setup audit before bad reader_state now same begins second place read wrong = record {
  before = before.journal;
  rest = reader_state.rest;
  begins = begins;
  bad = bad;
  after = now.rest;
  next = subst (λ v. BeginsWith v (length before.journal) reader_state.rest bad now.rest) second (subst (λ n. BeginsWith reader_state.version n reader_state.rest bad now.rest) place read.front);
  wrong = λ more. wrong (subst (λ c. Legal c (before.journal ++ bad ∷ [])) (sym same) more);
  place = read.front.may.at ∙ place;
}

-- all of an audit that is followed
pub followed_whole : (setup : Setup) (audit : List ℕ) (now : Execution) → Follows setup audit now → BeginsLegal setup audit now.journal []
followed_whole setup audit now follows = record {
  bound = follows.read.0;
  split = follows.read.1 ∙ sym (append-nil (audit_text Second now.journal));
  faultless = follows.read.2;
  legal = follows.legal;
}

-- one entry more was read, and it is the cluster's
pub read_on : (audit : List ℕ) (before now : Execution) (setup : Setup) (entry : Entry) (reader_state : ReaderState) → HasRead audit (before.journal ++ entry ∷ []) reader_state
    → reader_state.version ≡ Second → before.setup ≡ setup → Legal before.setup (before.journal ++ entry ∷ [])
    → now ≡ record { setup = before.setup; journal = before.journal ++ entry ∷ [] }
    → HasRead audit now.journal reader_state × (reader_state.version ≡ Second) × (now.setup ≡ setup) × Legal now.setup now.journal
read_on audit before now setup entry reader_state has second same legal is = (
  subst (λ (x : Execution). HasRead audit x.journal reader_state) (sym is) has,
  second,
  ap (λ (x : Execution). x.setup) is ∙ same,
  subst (λ (x : Execution). Legal x.setup x.journal) (sym is) legal,
)

-- the whole audit was read, and its entries are the cluster's
pub read_whole : EndsAsAudit → (setup : Setup) (audit : List ℕ) (now : Execution) (reader_state : ReaderState) → HasRead audit now.journal reader_state → reader_state.version ≡ Second
    → now.setup ≡ setup → Legal now.setup now.journal → reader_state.rest ≡ [] → Follows setup audit now
read_whole ends setup audit now reader_state has second same legal none = record {
  setup_is = same;
  read = subst (λ v. AuditOf audit (Ok (record { version = v; entries = now.journal }))) second (ends audit now.journal reader_state has none);
  legal = subst (λ c. Legal c now.journal) same legal;
}
