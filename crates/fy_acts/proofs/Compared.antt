-- equality of acts decides whether they are the same
use Rattle.std.proofs.Common.{◌≡◌, ℕ, ◌≤◌, Bool, true, false, ◌&&◌, List, refl, sym, ◌∙◌, ap, ap₂, subst, rules}
use Rattle.std.specs.Bool.{Decides, beq}
use Rattle.std.specs.Prelude.{Option, nat_eq}
use Rattle.std.proofs.lemmas.Bool.{false≢true, and_parts}
use Rattle.std.proofs.lemmas.Slice.Eq.{slice_eq-Decides, bytes_eq-Decides}
use Rattle.std.proofs.Math.Bridge.{le_prop}
use Rattle.fy_locality.specs.declared.ProcId.{ProcId}
use Rattle.fy_kinds.specs.declared.kind.Kind.{Kind}
use Rattle.fy_kinds.specs.Kinds.{rank, bits_of, set_of_bits}
use Rattle.fy_kinds.specs.declared.order.Target.{Target}
use Rattle.fy_kinds.specs.Orders.{Order}
use Rattle.fy_kinds.specs.declared.kind_set.KindSet.{KindSet}
use Rattle.fy_kinds.specs.contracts.kind.KindPartialEq.TheImpl as kind
use Rattle.fy_kinds.specs.contracts.order.TargetPartialEq.TheImpl as target
use Rattle.fy_kinds.specs.contracts.order.KillOrderPartialEq.TheImpl as order
use Rattle.fy_kinds.specs.contracts.kind_set.KindSetPartialEq.TheImpl as kinds
use Rattle.fy_grants.specs.declared.grant.Grant.{Grant}
use Rattle.fy_grants.specs.declared.grant.Scope.{Scope}
use Rattle.fy_grants.specs.declared.grant.Scope.TheVariants.{All, Where}
use Rattle.fy_grants.specs.contracts.grant.GrantPartialEq.TheImpl as grants
use Rattle.fy_grants.specs.contracts.grant.ScopePartialEq.TheImpl as scopes
use Rattle.fy_team.specs.Members.{same_numbers}
use Rattle.fy_acts.specs.declared.act.Act.{Act}
use Rattle.fy_acts.specs.declared.act.Act.TheVariants.{Kill, Clog, Unclog, Form, Begin, Deliver, Lose, Resend, Sync, Up, Tick, Give, Take, Protect, Unprotect, CopyTo, Replace, Heal}
use Rattle.fy_acts.specs.contracts.act.ActPartialEq.TheImpl as acts
use Rattle.fy_kinds.specs.declared.verdict.Rule.{Rule}
use Rattle.fy_kinds.specs.declared.verdict.Verdict.{Verdict}
use Rattle.fy_kinds.specs.contracts.verdict.VerdictPartialEq.TheImpl as verdicts
use Rattle.fy_acts.specs.declared.reply.Refusal.{Refusal}
use Rattle.fy_acts.specs.declared.reply.Reply.{Reply}
use Rattle.fy_acts.specs.declared.reply.Reply.TheVariants.{Verdict as Verdicted, Ruled, Formed, Begun, Stored, Marked, Sent, Synced, Time, Done, No}
use Rattle.fy_acts.specs.declared.entry.Entry.{Entry}
use Rattle.fy_acts.specs.contracts.reply.RefusalPartialEq.TheImpl as refusals
use Rattle.fy_acts.specs.contracts.reply.ReplyPartialEq.TheImpl as replies
use Rattle.fy_acts.specs.contracts.entry.EntryPartialEq.TheImpl as entries

-- ---- tests that decide

-- both of two
both : {P Q : Type 0} (e f : Bool) → Decides e P → Decides f Q → Decides (e && f) (P × Q)
both true f p q = (λ h. (p.0 refl, q.0 h), λ w. q.1 w.1)
both false f p q = (λ h. absurd (let x : ⊥ = cc in x), λ w. p.1 w.0)

-- the same fact in other words
said : {P Q : Type 0} (e : Bool) → Decides e P → (P → Q) → (Q → P) → Decides e Q
said e p forth back = (λ h. forth (p.0 h), λ w. p.1 (back w))

-- what never holds
never : {Q : Type 0} → (Q → ⊥) → Decides false Q
never against = (λ h. absurd (false≢true h), λ w. absurd (against w))

-- ---- parts of acts

same_number : (m n : ℕ) → Decides (nat_eq m n) (m ≡ n)
same_number m n = search rules

same_bool : (a b : Bool) → Decides (beq a b) (a ≡ b)
same_bool a b = search rules

same_kind : (a b : Kind) → Decides (kind.ghosts.eq a b) (a ≡ b)
same_kind a b = search rules

same_target : (a b : Target) → Decides (target.ghosts.eq a b) (a ≡ b)
same_target a b = search rules

same_process : (p q : ProcId) → Decides (nat_eq p.0 q.0) (p ≡ q)
same_process p q = said _ (same_number p.0 q.0) (λ e. λ i. record { 0 = e i }) (ap (λ (r : ProcId). r.0))

same_members : (ps qs : List ProcId) → Decides (same_numbers ps qs) (ps ≡ qs)
same_members ps qs = slice_eq-Decides same_process ps qs (same_numbers ps qs) refl

-- a test that passes at both truth values passes at each
abbrev at_both : (Bool → Bool) → Bool
at_both test = test true && test false

at_each : (test : Bool → Bool) → at_both test ≡ true → (b : Bool) → test b ≡ true
at_each test e true = (and_parts (test true) (test false) e).0
at_each test e false = (and_parts (test true) (test false) e).1

abbrev kinds_of : Bool → Bool → Bool → Bool → Bool → KindSet
kinds_of p r d k c = record { reboot_process = p; reboot = r; reboot_and_delete = d; kill_instantly = k; clog = c }

-- two sets by their members
abbrev are_alike : KindSet → KindSet → Bool
are_alike a b = beq a.reboot_process b.reboot_process && (beq a.reboot b.reboot && (beq a.reboot_and_delete b.reboot_and_delete && (beq a.kill_instantly b.kill_instantly && beq a.clog b.clog)))

alike : (a b : KindSet) → Decides (are_alike a b) (a ≡ b)
alike a b =
    said _
    (both _ _ (same_bool a.reboot_process b.reboot_process)
    (both _ _ (same_bool a.reboot b.reboot)
    (both _ _ (same_bool a.reboot_and_delete b.reboot_and_delete)
    (both _ _ (same_bool a.kill_instantly b.kill_instantly) (same_bool a.clog b.clog)))))
    (λ w. λ i. record { reboot_process = w.0 i; reboot = w.1.0 i; reboot_and_delete = w.1.1.0 i; kill_instantly = w.1.1.1.0 i; clog = w.1.1.1.1 i })
    (λ e. (ap (λ (k : KindSet). k.reboot_process) e, (ap (λ (k : KindSet). k.reboot) e, (ap (λ (k : KindSet). k.reboot_and_delete) e, (ap (λ (k : KindSet). k.kill_instantly) e, ap (λ (k : KindSet). k.clog) e)))))

-- a set is had back from its bits
abbrev goes_back : Bool → Bool → Bool → Bool → Bool → Bool
goes_back p r d k c = are_alike (set_of_bits (bits_of (kinds_of p r d k c))) (kinds_of p r d k c)

all_go_back : at_both (λ p. at_both (λ r. at_both (λ d. at_both (λ k. at_both (λ c. goes_back p r d k c))))) ≡ true
all_go_back = refl

had_back : (a : KindSet) → set_of_bits (bits_of a) ≡ a
had_back a =
    let p = a.reboot_process in
    let r = a.reboot in
    let d = a.reboot_and_delete in
    let k = a.kill_instantly in
    (alike (set_of_bits (bits_of a)) a).0
    (at_each (λ c. goes_back p r d k c)
    (at_each (λ k. at_both (λ c. goes_back p r d k c))
    (at_each (λ d. at_both (λ k. at_both (λ c. goes_back p r d k c)))
    (at_each (λ r. at_both (λ d. at_both (λ k. at_both (λ c. goes_back p r d k c))))
    (at_each (λ p. at_both (λ r. at_both (λ d. at_both (λ k. at_both (λ c. goes_back p r d k c))))) all_go_back p)
    r)
    d)
    k)
    a.clog)

same_kinds : (a b : KindSet) → Decides (kinds.ghosts.eq a b) (a ≡ b)
same_kinds a b = said _ (same_number (bits_of a) (bits_of b)) (λ e. sym (had_back a) ∙ ap set_of_bits e ∙ had_back b) (ap bits_of)

same_scope : (a b : Scope) → Decides (scopes.ghosts.eq a b) (a ≡ b)
same_scope All All = (λ h. refl, λ e. refl)
same_scope (Where s) (Where t) = said _ (same_target s t) (ap Where) (λ e. cc)
same_scope All (Where t) = never (λ e. cc)
same_scope (Where s) All = never (λ e. cc)

same_grant : (a b : Grant) → Decides (grants.ghosts.eq a b) (a ≡ b)
same_grant a b =
    said _
    (both _ _ (same_number a.actor b.actor) (both _ _ (same_kinds a.kinds b.kinds) (same_scope a.scope b.scope)))
    (λ w. λ i. record { actor = w.0 i; kinds = w.1.0 i; scope = w.1.1 i })
    (λ e. (ap (λ (g : Grant). g.actor) e, (ap (λ (g : Grant). g.kinds) e, ap (λ (g : Grant). g.scope) e)))

abbrev order_of : Target → (k f : Kind) → ℕ → rank f ≤ rank k → Order
order_of t k f n o = record { target = t; kind = k; floor = f; tear = n; ordered = o }

-- orders of the same parts are the same, whatever shows that the floor isn't above the kind
pub same_parts : (a : Order) (t : Target) (k f : Kind) (n : ℕ) (o : rank f ≤ rank k) → a.target ≡ t → a.kind ≡ k → a.floor ≡ f → a.tear ≡ n → a ≡ order_of t k f n o
same_parts a t k f n o et ek ef en =
    subst (λ (f : Kind). (o : rank f ≤ rank k) → a ≡ order_of t k f n o) ef
    (subst (λ (k : Kind). (o : rank a.floor ≤ rank k) → a ≡ order_of t k a.floor n o) ek
    (λ o'. λ i. order_of (et i) a.kind a.floor (en i) (le_prop a.ordered o' i)))
    o

same_order : (a b : Order) → Decides (order.ghosts.eq a b) (a ≡ b)
same_order a b =
    said _
    (both _ _ (same_target a.target b.target) (both _ _ (same_kind a.kind b.kind) (both _ _ (same_kind a.floor b.floor) (same_number a.tear b.tear))))
    (λ w. same_parts a b.target b.kind b.floor b.tear b.ordered w.0 w.1.0 w.1.1.0 w.1.1.1)
    (λ e. (ap (λ (o : Order). o.target) e, (ap (λ (o : Order). o.kind) e, (ap (λ (o : Order). o.floor) e, ap (λ (o : Order). o.tear) e))))

-- ---- acts

pub same_act : (a b : Act) → Decides (acts.ghosts.eq a b) (a ≡ b)
same_act (Kill o) (Kill p) = said _ (same_order o p) (ap Kill) (λ e. cc)
same_act (Kill o) b = never (λ e. cc)
same_act (Clog s m) (Clog t n) = said _ (both _ _ (same_target s t) (same_number m n)) (λ w. ap₂ Clog w.0 w.1) (λ e. (cc, cc))
same_act (Clog s m) b = never (λ e. cc)
same_act (Unclog s) (Unclog t) = said _ (same_target s t) (ap Unclog) (λ e. cc)
same_act (Unclog s) b = never (λ e. cc)
same_act (Form ps m) (Form qs n) = said _ (both _ _ (same_members ps qs) (same_number m n)) (λ w. ap₂ Form w.0 w.1) (λ e. (cc, cc))
same_act (Form ps m) b = never (λ e. cc)
same_act (Begin m xs) (Begin n ys) = said _ (both _ _ (same_number m n) (bytes_eq-Decides xs ys)) (λ w. ap₂ Begin w.0 w.1) (λ e. (cc, cc))
same_act (Begin m xs) b = never (λ e. cc)
same_act (Deliver m) (Deliver n) = said _ (same_number m n) (ap Deliver) (λ e. cc)
same_act (Deliver m) b = never (λ e. cc)
same_act (Lose m) (Lose n) = said _ (same_number m n) (ap Lose) (λ e. cc)
same_act (Lose m) b = never (λ e. cc)
same_act (Resend m p) (Resend n q) = said _ (both _ _ (same_number m n) (same_process p q)) (λ w. ap₂ Resend w.0 w.1) (λ e. (cc, cc))
same_act (Resend m p) b = never (λ e. cc)
same_act (Sync p) (Sync q) = said _ (same_process p q) (ap Sync) (λ e. cc)
same_act (Sync p) b = never (λ e. cc)
same_act (Up p) (Up q) = said _ (same_process p q) (ap Up) (λ e. cc)
same_act (Up p) b = never (λ e. cc)
same_act (Tick m) (Tick n) = said _ (same_number m n) (ap Tick) (λ e. cc)
same_act (Tick m) b = never (λ e. cc)
same_act (Give g) (Give k) = said _ (same_grant g k) (ap Give) (λ e. cc)
same_act (Give g) b = never (λ e. cc)
same_act (Take m i) (Take n j) = said _ (both _ _ (same_number m n) (same_number i j)) (λ w. ap₂ Take w.0 w.1) (λ e. (cc, cc))
same_act (Take m i) b = never (λ e. cc)
same_act (Protect p k) (Protect q l) = said _ (both _ _ (same_process p q) (same_kinds k l)) (λ w. ap₂ Protect w.0 w.1) (λ e. (cc, cc))
same_act (Protect p k) b = never (λ e. cc)
same_act (Unprotect p k) (Unprotect q l) = said _ (both _ _ (same_process p q) (same_kinds k l)) (λ w. ap₂ Unprotect w.0 w.1) (λ e. (cc, cc))
same_act (Unprotect p k) b = never (λ e. cc)
same_act (CopyTo p m r) (CopyTo q n s) = said _ (both _ _ (same_process p q) (both _ _ (same_number m n) (same_process r s))) (λ w. λ i. CopyTo (w.0 i) (w.1.0 i) (w.1.1 i)) (λ e. (cc, (cc, cc)))
same_act (CopyTo p m r) b = never (λ e. cc)
same_act (Replace m p r) (Replace n q s) = said _ (both _ _ (same_number m n) (both _ _ (same_process p q) (same_process r s))) (λ w. λ i. Replace (w.0 i) (w.1.0 i) (w.1.1 i)) (λ e. (cc, (cc, cc)))
same_act (Replace m p r) b = never (λ e. cc)
same_act (Heal p) (Heal q) = said _ (same_process p q) (ap Heal) (λ e. cc)
same_act (Heal p) b = never (λ e. cc)

-- ---- replies and entries

same_refusal : (a b : Refusal) → Decides (refusals.ghosts.eq a b) (a ≡ b)
same_refusal a b = search rules

same_verdict : (a b : Verdict) → Decides (verdicts.ghosts.eq a b) (a ≡ b)
same_verdict a b = search rules

same_ruled : (a b : Option Rule) → Decides (replies.ghosts.eq (Ruled a) (Ruled b)) (a ≡ b)
same_ruled a b = search rules

pub same_reply : (a b : Reply) → Decides (replies.ghosts.eq a b) (a ≡ b)
same_reply (Verdicted v) (Verdicted w) = said _ (same_verdict v w) (ap Verdicted) (λ e. cc)
same_reply (Verdicted v) b = never (λ e. cc)
same_reply (Ruled r) (Ruled q) = said _ (same_ruled r q) (ap Ruled) (λ e. cc)
same_reply (Ruled r) b = never (λ e. cc)
same_reply (Formed m) (Formed n) = said _ (same_number m n) (ap Formed) (λ e. cc)
same_reply (Formed m) b = never (λ e. cc)
same_reply (Begun m i) (Begun n j) = said _ (both _ _ (same_number m n) (same_number i j)) (λ w. ap₂ Begun w.0 w.1) (λ e. (cc, cc))
same_reply (Begun m i) b = never (λ e. cc)
same_reply Stored Stored = (λ h. refl, λ e. refl)
same_reply Stored b = never (λ e. cc)
same_reply (Marked m) (Marked n) = said _ (same_bool m n) (ap Marked) (λ e. cc)
same_reply (Marked m) b = never (λ e. cc)
same_reply (Sent m) (Sent n) = said _ (same_number m n) (ap Sent) (λ e. cc)
same_reply (Sent m) b = never (λ e. cc)
same_reply (Synced m i) (Synced n j) = said _ (both _ _ (same_number m n) (same_number i j)) (λ w. ap₂ Synced w.0 w.1) (λ e. (cc, cc))
same_reply (Synced m i) b = never (λ e. cc)
same_reply (Time m) (Time n) = said _ (same_number m n) (ap Time) (λ e. cc)
same_reply (Time m) b = never (λ e. cc)
same_reply Done Done = (λ h. refl, λ e. refl)
same_reply Done b = never (λ e. cc)
same_reply (No r) (No q) = said _ (same_refusal r q) (ap No) (λ e. cc)
same_reply (No r) b = never (λ e. cc)

pub same_entry : (a b : Entry) → Decides (entries.ghosts.eq a b) (a ≡ b)
same_entry a b =
    said _
    (both _ _ (same_number a.at b.at) (both _ _ (same_number a.by b.by) (both _ _ (same_act a.act b.act) (same_reply a.reply b.reply))))
    (λ w. λ i. record { at = w.0 i; by = w.1.0 i; act = w.1.1.0 i; reply = w.1.1.1 i })
    (λ e. (ap (λ (x : Entry). x.at) e, (ap (λ (x : Entry). x.by) e, (ap (λ (x : Entry). x.act) e, ap (λ (x : Entry). x.reply) e))))
