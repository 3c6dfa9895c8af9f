-- the act that a value lists is found in it
use Rattle.std.proofs.Common.{◌≡◌, ℕ, zero, suc, ◌^◌, true, List, [], ◌∷◌, map, codes, Some, bytes_eq, refl, ap, arith, lt-ltb}
use Rattle.std.specs.List.{AllByRecursion}
use Rattle.std.proofs.lemmas.Slice.Eq.{bytes_eq-Decides}
use Rattle.serde_json.specs.Data.{Data, string}
use Rattle.serde_json.specs.View.{items_of}
use Rattle.hex.specs.Hex.{encode_lower, IsBytes}
use Rattle.hex.proofs.HexLemmas.{decode_of-encode_lower}
use Rattle.fy_locality.specs.Key.{key_text}
use Rattle.fy_locality.specs.declared.ProcId.{ProcId}
use Rattle.fy_locality.specs.declared.key.Key.{Key}
use Rattle.fy_locality.specs.declared.key.Key.TheVariants.{Process, Machine, Zone, DataHall, DataCenter}
use Rattle.fy_kinds.specs.Kinds.{Deed, Striking, Clogging, deed_text, kind_text}
use Rattle.fy_kinds.specs.Members.{Members}
use Rattle.fy_kinds.specs.declared.kind.Kind.{Kind}
use Rattle.fy_kinds.specs.declared.kind.Kind.TheVariants.{RebootProcess, Reboot, RebootAndDelete, KillInstantly}
use Rattle.fy_kinds.specs.declared.order.Target.{Target}
use Rattle.fy_grants.specs.declared.grant.Scope.{Scope}
use Rattle.fy_grants.specs.declared.grant.Scope.TheVariants.{All, Where}
use Rattle.fy_spelling.specs.Candidate.{u64_from, u32_from, process_from, processes_from, members_from, kind_from, key_from, target_from, deed_from, deeds_from, kinds_from, payload_from, scope_from, act_from, command_from}
use Rattle.fy_spelling.specs.Command.{gathered, asking}
use Rattle.fy_spelling.specs.Fits.{IsU32, IsU64, IsByte, IsProcess, FitsTarget, FitsScope, FitsMembers, FitsAct}
use Rattle.fy_spelling.specs.Values.{under, whole, processes_value, deeds_value, order_value, scope_value, act_listing, kinds_in}
use Rattle.fy_acts.specs.declared.act.Act.{Act}
use Rattle.fy_acts.specs.declared.act.Act.TheVariants.{Kill, Clog, Unclog, Form, Begin, Deliver, Lose, Resend, Sync, Up, Tick, Give, Take, Protect, Unprotect, CopyTo, Replace, Heal}
use Rattle.fy_spelling.specs.declared.reading.UncheckedAct.{UncheckedAct}
use Rattle.fy_spelling.specs.declared.reading.UncheckedAct.TheVariants.{Order, Other}

-- ---- parts

pub long-again : (n : ℕ) → IsU64 n → u64_from (whole n) ≡ Some n
long-again n h = rw (lt-ltb n (2 ^ 64) h) refl

long : (n : ℕ) → IsU32 n → IsU64 n
long n h = omega arith

pub short-again : (n : ℕ) → IsU32 n → u32_from (whole n) ≡ Some n
short-again n h = rw (long-again n (long n h)) (rw (lt-ltb n (2 ^ 32) h) refl)

pub process-again : (p : ProcId) → IsProcess p → process_from (whole p.0) ≡ Some p
process-again p h = rw (short-again p.0 h) refl

processes-again : (ps : List ProcId) → AllByRecursion IsProcess ps → processes_from (items_of (map (λ (p : ProcId). whole p.0) ps)) ≡ Some ps
processes-again [] h = refl
processes-again (p ∷ ps) h = rw (process-again p h.0, processes-again ps h.1) refl

members-again : (ps : List ProcId) → FitsMembers ps → members_from (processes_value ps) ≡ Some ps
members-again ps h = rw (processes-again ps h.1) (rw h.0 refl)

pub kind-again : (k : Kind) → kind_from (string (kind_text k)) ≡ Some k
kind-again RebootProcess = refl
kind-again Reboot = refl
kind-again RebootAndDelete = refl
kind-again KillInstantly = refl

key-again : (k : Key) → key_from (string (key_text k)) ≡ Some k
key-again Process = refl
key-again Machine = refl
key-again Zone = refl
key-again DataHall = refl
key-again DataCenter = refl

deed-again : (d : Deed) → deed_from (string (deed_text d)) ≡ Some d
deed-again (Striking RebootProcess) = refl
deed-again (Striking Reboot) = refl
deed-again (Striking RebootAndDelete) = refl
deed-again (Striking KillInstantly) = refl
deed-again Clogging = refl

target-again : (t : Target) → FitsTarget t → target_from (string (key_text t.key)) (string t.value) ≡ Some t
target-again t h = rw (key-again t.key, h) refl

scope-again : (s : Scope) → FitsScope s → scope_from (scope_value s) ≡ Some s
scope-again All h = refl
scope-again (Where t) h = rw (target-again t h) refl

deeds-again : (ds : List Deed) → deeds_from (items_of (map (λ (d : Deed). string (deed_text d)) ds)) ≡ Some ds
deeds-again [] = refl
deeds-again (d ∷ ds) = rw (deed-again d, deeds-again ds) refl

kinds-again : (ds : List Deed) (set : Members) → gathered ds ≡ set → kinds_from (deeds_value ds) ≡ Some set
kinds-again ds set same = rw (deeds-again ds) (ap Some same)

bytes : (bs : List ℕ) → AllByRecursion IsByte bs → IsBytes bs
bytes [] h i = omega arith
bytes (b ∷ bs) h zero = h.0
bytes (b ∷ bs) h (suc i) = bytes bs h.1 i

itself : (xs : List ℕ) → bytes_eq xs xs ≡ true
itself xs = (bytes_eq-Decides xs xs).1 refl

payload-again : (bs : List ℕ) → AllByRecursion IsByte bs → payload_from (string (encode_lower bs)) ≡ Some bs
payload-again bs h = rw (decode_of-encode_lower bs (bytes bs h)) (rw (itself (encode_lower bs)) refl)

-- ---- acts

order-again :
    (t : Target) (kind floor : Kind) (tear : ℕ) → FitsTarget t → IsU64 tear
    → act_from (under (codes "kill") (order_value t kind floor tear)) ≡ Some (Order t kind floor tear)
order-again t kind floor tear h small =
    rw (kind-again floor, target-again t h, kind-again kind, long-again tear small) refl

-- what an act is found as
abbrev pub found_as : Act → UncheckedAct
found_as (Kill order) = Order order.target order.kind order.floor order.tear
found_as asked = Other asked

pub act-again :
    (kinds : List Deed) (a : Act) → gathered kinds ≡ kinds_in a → FitsAct a
    → act_from (act_listing kinds a) ≡ Some (found_as a)
act-again kinds (Kill o) same h = order-again o.target o.kind o.floor o.tear h.0 h.1
act-again kinds (Clog t n) same h = rw (target-again t h.0, long-again n h.1) refl
act-again kinds (Unclog t) same h = rw (target-again t h) refl
act-again kinds (Form ms n) same h = rw (short-again n h.1, members-again ms h.0) refl
act-again kinds (Begin n bs) same h = rw (short-again n h.0, payload-again bs h.1) refl
act-again kinds (Deliver n) same h = rw (long-again n h) refl
act-again kinds (Lose n) same h = rw (long-again n h) refl
act-again kinds (Resend n p) same h = rw (process-again p h.1, short-again n h.0) refl
act-again kinds (Sync p) same h = rw (process-again p h) refl
act-again kinds (Up p) same h = rw (process-again p h) refl
act-again kinds (Tick n) same h = rw (long-again n h) refl
act-again kinds (Give g) same h =
    rw (short-again g.actor h.0, kinds-again kinds g.kinds same, scope-again g.scope h.1) refl
act-again kinds (Take m n) same h = rw (short-again m h.0, short-again n h.1) refl
act-again kinds (Protect p set) same h = rw (kinds-again kinds set same, process-again p h) refl
act-again kinds (Unprotect p set) same h = rw (kinds-again kinds set same, process-again p h) refl
act-again kinds (CopyTo p n q) same h =
    rw (process-again p h.0, short-again n h.1, process-again q h.2) refl
act-again kinds (Replace n p q) same h =
    rw (process-again q h.2, process-again p h.1, short-again n h.0) refl
act-again kinds (Heal p) same h = rw (process-again p h) refl

asking-again :
    (by : ℕ) (value : Data) (asked : UncheckedAct) → IsU32 by → act_from value ≡ Some asked
    → command_from (asking by value) ≡ Some (by, asked)
asking-again by value asked small e = rw (short-again by small, e) refl

pub command-again :
    (by : ℕ) (kinds : List Deed) (a : Act) → gathered kinds ≡ kinds_in a → IsU32 by → FitsAct a
    → command_from (asking by (act_listing kinds a)) ≡ Some (by, found_as a)
command-again by kinds a same small h =
    asking-again by (act_listing kinds a) (found_as a) small (act-again kinds a same h)

pub inverted-again :
    (by : ℕ) (t : Target) (kind floor : Kind) (tear : ℕ) → IsU32 by → FitsTarget t → IsU64 tear
    → command_from (asking by (under (codes "kill") (order_value t kind floor tear)))
    ≡ Some (by, Order t kind floor tear)
inverted-again by t kind floor tear small h long =
    asking-again by (under (codes "kill") (order_value t kind floor tear)) (Order t kind floor tear)
    small (order-again t kind floor tear h long)
