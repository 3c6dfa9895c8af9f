-- bytes have one finding
use Rattle.std.proofs.Common.{◌≡◌, ℕ, true, false, List, length, Ok, Err, ap, subst}
use Rattle.fy_audit.specs.Audit.{Audit, AuditOf}
use Rattle.fy_audit.specs.One.{AuditIsUnambiguous}
use Rattle.fy_audit.specs.declared.audit.AuditFault.{AuditFault}
use Rattle.fy_cluster.specs.Setup.{Setup}
use Rattle.fy_replay.specs.Check.{Checks, OneAnswer}
use Rattle.fy_replay.specs.declared.fault.CheckFault.TheVariants.{BadEntry}
use Rattle.fy_streams.specs.declared.stop.Stop.TheVariants.{Audit as audit_stopped}
use Rattle.fy_check.specs.CheckTexts.{Finds, legal_line, bad_line, FindingIsOne}

-- bytes that are an audit have no fault
no_fault : AuditIsUnambiguous → (bytes : List ℕ) (audit : Audit) (fault : AuditFault) →
    AuditOf bytes (Ok audit) → AuditOf bytes (Err fault) → ⊥
no_fault once bytes audit fault read refused =
    let same = once bytes (Ok audit) (Err fault) read refused in let no : ⊥ = cc in no

one_audit : AuditIsUnambiguous → (bytes : List ℕ) (a b : Audit) → AuditOf bytes (Ok a) →
    AuditOf bytes (Ok b) → a ≡ b
one_audit once bytes a b p q = let same = once bytes (Ok a) (Ok b) p q in cc

-- a legal audit has no first bad entry
not_both : OneAnswer → (setup : Setup) (a b : Audit) (at : ℕ) → a ≡ b →
    Checks a.version setup a.entries (Ok tt) → Checks b.version setup b.entries (Err (BadEntry at)) → ⊥
not_both one setup a b at same legal bad =
    let moved = subst (λ (x : Audit). Checks x.version setup x.entries (Ok tt)) same legal in
    let both = one b.version setup b.entries (Ok tt) (Err (BadEntry at)) moved bad in
    let no : ⊥ = cc in
    no

same_place : OneAnswer → (setup : Setup) (a b : Audit) (m n : ℕ) → a ≡ b →
    Checks a.version setup a.entries (Err (BadEntry m)) →
    Checks b.version setup b.entries (Err (BadEntry n)) → m ≡ n
same_place one setup a b m n same first second =
    let moved = subst (λ (x : Audit). Checks x.version setup x.entries (Err (BadEntry m))) same first in
    let both = one b.version setup b.entries (Err (BadEntry m)) (Err (BadEntry n)) moved second in
    cc

pub finding_is_one : AuditIsUnambiguous → OneAnswer → FindingIsOne
finding_is_one once one setup bytes _ _ (Finds.refuses f p) (Finds.refuses g q) =
    let same = once bytes (Err f) (Err g) p q in
    let fault : f ≡ g = cc in
    ap (λ fault. Err (audit_stopped fault)) fault
finding_is_one once one setup bytes _ _ (Finds.refuses f p) (Finds.confirms b q l) = absurd (no_fault once bytes b f q p)
finding_is_one once one setup bytes _ _ (Finds.refuses f p) (Finds.refutes b n q l) = absurd (no_fault once bytes b f q p)
finding_is_one once one setup bytes _ _ (Finds.confirms a p k) (Finds.refuses g q) = absurd (no_fault once bytes a g p q)
finding_is_one once one setup bytes _ _ (Finds.confirms a p k) (Finds.confirms b q l) =
    ap (λ (audit : Audit). Ok (true, legal_line (length audit.entries))) (one_audit once bytes a b p q)
finding_is_one once one setup bytes _ _ (Finds.confirms a p k) (Finds.refutes b n q l) =
    absurd (not_both one setup a b n (one_audit once bytes a b p q) k l)
finding_is_one once one setup bytes _ _ (Finds.refutes a m p k) (Finds.refuses g q) = absurd (no_fault once bytes a g p q)
finding_is_one once one setup bytes _ _ (Finds.refutes a m p k) (Finds.confirms b q l) =
    absurd (not_both one setup b a m (one_audit once bytes b a q p) l k)
finding_is_one once one setup bytes _ _ (Finds.refutes a m p k) (Finds.refutes b n q l) =
    ap (λ at. Ok (false, bad_line at)) (same_place one setup a b m n (one_audit once bytes a b p q) k l)
