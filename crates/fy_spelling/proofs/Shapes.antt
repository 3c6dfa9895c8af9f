-- the values of acts, replies and entries are tame, and nest a few deep
use Rattle.std.proofs.Common.{◌≡◌, ℕ, ◌<◌, ◌≤◌, List, [], ◌∷◌, map, true, Some, None, Option, refl, arith, length, not, ◌&&◌, ◌==◌, nat_le, nat_lt, slice_index}
use Rattle.std.specs.Prelude.{IsUtf8}
use Rattle.std.specs.Str.{IsAscii}
use Rattle.std.specs.List.{list_all, AllByRecursion}
use Rattle.std.proofs.lemmas.Bool.{and_parts}
use Rattle.std.proofs.lemmas.Bool.Decides.{nat_tests}
use Rattle.std.proofs.lemmas.Str.{IsUtf8-from_ascii}
use Rattle.std.proofs.lemmas.Str.Ascii.{IsAscii-nil, IsAscii-cons}
use Rattle.json.proofs.Printed.Utf8.{are_ascii, IsUtf8-are_ascii}
use Rattle.serde_json.specs.Data.{string, depth, items_depth}
use Rattle.serde_json.specs.Read.{read, max_depth}
use Rattle.serde_json.specs.View.{items_of}
use Rattle.hex.specs.Hex.{lower_digits, encode_lower}
use Rattle.hex.proofs.HexLemmas.{IsAscii-encode_with}
use Rattle.fy_locality.specs.Name.{is_name, is_name_byte}
use Rattle.fy_locality.specs.Key.{key_text}
use Rattle.fy_locality.specs.declared.name.TheConstants.{MOST_NAME_CHARACTERS}
use Rattle.fy_locality.specs.declared.ProcId.{ProcId}
use Rattle.fy_locality.specs.declared.key.Key.{Key}
use Rattle.fy_locality.specs.declared.key.Key.TheVariants.{Process, Machine, Zone, DataHall, DataCenter}
use Rattle.fy_kinds.specs.Kinds.{Deed, Striking, Clogging, deed_text, kind_text}
use Rattle.fy_kinds.specs.declared.kind.Kind.{Kind}
use Rattle.fy_kinds.specs.declared.kind.Kind.TheVariants.{RebootProcess, Reboot, RebootAndDelete, KillInstantly}
use Rattle.fy_kinds.specs.declared.order.Target.{Target}
use Rattle.fy_grants.specs.declared.grant.Scope.{Scope}
use Rattle.fy_grants.specs.declared.grant.Scope.TheVariants.{All, Where}
use Rattle.fy_spelling.specs.Fits.{IsU32, IsU64, IsProcess, FitsTarget, FitsScope, FitsAct, FitsRule, FitsRefusal, FitsReply, FitsEntry}
use Rattle.fy_spelling.specs.Representable.{IsRepresentableRule, IsRepresentableReply, IsRepresentable}
use Rattle.fy_spelling.specs.RoundTrip.{RoundTrips, ItemsRoundTrip}
use Rattle.fy_spelling.specs.Values.{whole, order_value, target_value, clog_value, scope_value, act_listing, act_data, in_order, kinds_in, rule_data, struck_data, refusal_data, reply_data, entry_data, text_of}
use Rattle.fy_kinds.specs.declared.verdict.Rule.{Rule}
use Rattle.fy_kinds.specs.declared.verdict.Rule.TheVariants.{NoTarget, NoGrant, Protected, TooManyDestroyed, TooFewLeft}
use Rattle.fy_acts.specs.declared.reply.Refusal.{Refusal}
use Rattle.fy_acts.specs.declared.reply.Refusal.TheVariants.{Stranger, WrongRole, TooMany, NoPolicy, NoProcess, Gone, TeamShort, NoTeam, Payload, NetFull, NoMessage, Clogged, NotUp, NoRecord, NotMember, Acked, IsUp, ClockEnd, NoActor, Full, NoSuch, NoCopy, IsMember, NotDestroyed, StillNeeds}
use Rattle.fy_acts.specs.declared.reply.Reply.{Reply}
use Rattle.fy_acts.specs.declared.reply.Reply.TheVariants.{Verdict, Ruled, Formed, Begun, Stored, Marked, Sent, Synced, Time, Done, No}
use Rattle.fy_acts.specs.declared.entry.Entry.{Entry}
use Rattle.fy_acts.specs.declared.act.Act.{Act}
use Rattle.fy_acts.specs.declared.act.Act.TheVariants.{Kill, Clog, Unclog, Form, Begin, Deliver, Lose, Resend, Sync, Up, Tick, Give, Take, Protect, Unprotect, CopyTo, Replace, Heal}
use Rattle.fy_spelling.proofs.RoundTrip.{reads_back, utf8}

-- ---- texts are UTF-8

name_byte_ascii : (b : ℕ) → is_name_byte b ≡ true → b < 128
name_byte_ascii b h = grind (arith, nat_tests)

name_bytes_ascii : (bs : List ℕ) → list_all is_name_byte bs ≡ true → IsAscii bs
name_bytes_ascii [] h = IsAscii-nil
name_bytes_ascii (b ∷ bs) h = let p = and_parts (is_name_byte b) _ h in IsAscii-cons b bs (name_byte_ascii b p.0) (name_bytes_ascii bs p.1)

pub utf8_name : (bs : List ℕ) → is_name bs ≡ true → IsUtf8 bs
utf8_name bs h =
    IsUtf8-from_ascii bs (name_bytes_ascii bs (and_parts (nat_lt 0 (length bs) && nat_le (length bs) MOST_NAME_CHARACTERS && not (slice_index bs 0 == 45)) (list_all is_name_byte bs) h).1)

lower_ascii : IsAscii lower_digits
lower_ascii = name_bytes_ascii lower_digits refl

pub utf8_hex : (bs : List ℕ) → IsUtf8 (encode_lower bs)
utf8_hex bs = IsUtf8-from_ascii _ (IsAscii-encode_with lower_digits bs lower_ascii)

pub word : (s : List ℕ) → are_ascii s ≡ true → IsUtf8 s
word s h = IsUtf8-are_ascii s h

pub utf8_kind : (k : Kind) → IsUtf8 (kind_text k)
utf8_kind RebootProcess = word _ refl
utf8_kind Reboot = word _ refl
utf8_kind RebootAndDelete = word _ refl
utf8_kind KillInstantly = word _ refl

utf8_deed : (d : Deed) → IsUtf8 (deed_text d)
utf8_deed (Striking k) = utf8_kind k
utf8_deed Clogging = word _ refl

pub utf8_key : (k : Key) → IsUtf8 (key_text k)
utf8_key Process = word _ refl
utf8_key Machine = word _ refl
utf8_key Zone = word _ refl
utf8_key DataHall = word _ refl
utf8_key DataCenter = word _ refl

-- ---- parts of acts are tame

pub short : (n : ℕ) → IsU32 n → IsU64 n
short n h = omega arith

-- one member of an object, and two, and three, are tame where their values are

tame_processes : (ps : List ProcId) → AllByRecursion IsProcess ps → ItemsRoundTrip (items_of (map (λ p. whole p.0) ps))
tame_processes [] h = tt
tame_processes (p ∷ ps) h = (short p.0 h.0, tame_processes ps h.1)

tame_deeds : (ds : List Deed) → ItemsRoundTrip (items_of (map (λ d. string (deed_text d)) ds))
tame_deeds [] = tt
tame_deeds (d ∷ ds) = (utf8_deed d, tame_deeds ds)

pub tame_order : (s : Target) (k f : Kind) (n : ℕ) → FitsTarget s → IsU64 n → RoundTrips (order_value s k f n)
tame_order s k f n fits long =
    (refl, (word _ refl, utf8_kind f, (word _ refl, utf8_key s.key, (word _ refl, utf8_kind k, (word _ refl, long, (word _ refl, utf8_name s.value fits, tt))))))

tame_target : (s : Target) → FitsTarget s → RoundTrips (target_value s)
tame_target s fits = (refl, (word _ refl, utf8_key s.key, (word _ refl, utf8_name s.value fits, tt)))

tame_clog : (s : Target) (n : ℕ) → FitsTarget s → IsU64 n → RoundTrips (clog_value s n)
tame_clog s n fits long = (refl, (word _ refl, utf8_key s.key, (word _ refl, long, (word _ refl, utf8_name s.value fits, tt))))

tame_scope : (s : Scope) → FitsScope s → RoundTrips (scope_value s)
tame_scope All h = word _ refl
tame_scope (Where target) h = tame_target target h

-- ---- acts are tame, whatever kinds they list

pub tame_listing : (kinds : List Deed) (a : Act) → FitsAct a → RoundTrips (act_listing kinds a)
tame_listing kinds (Kill o) h = (refl, (word _ refl, tame_order o.target o.kind o.floor o.tear h.0 h.1, tt))
tame_listing kinds (Clog s n) h = (refl, (word _ refl, tame_clog s n h.0 h.1, tt))
tame_listing kinds (Unclog s) h = (refl, (word _ refl, tame_target s h, tt))
tame_listing kinds (Form ps n) h = (refl, (word _ refl, (refl, (word _ refl, tame_processes ps h.0.1, (word _ refl, short n h.1, tt))), tt))
tame_listing kinds (Begin n bs) h = (refl, (word _ refl, (refl, (word _ refl, utf8_hex bs, (word _ refl, short n h.0, tt))), tt))
tame_listing kinds (Deliver n) h = (refl, (word _ refl, (refl, (word _ refl, h, tt)), tt))
tame_listing kinds (Lose n) h = (refl, (word _ refl, (refl, (word _ refl, h, tt)), tt))
tame_listing kinds (Resend n p) h = (refl, (word _ refl, (refl, (word _ refl, short p.0 h.1, (word _ refl, short n h.0, tt))), tt))
tame_listing kinds (Sync p) h = (refl, (word _ refl, (refl, (word _ refl, short p.0 h, tt)), tt))
tame_listing kinds (Up p) h = (refl, (word _ refl, (refl, (word _ refl, short p.0 h, tt)), tt))
tame_listing kinds (Tick n) h = (refl, (word _ refl, (refl, (word _ refl, h, tt)), tt))
tame_listing kinds (Give g) h =
    (refl, (word _ refl, (refl, (word _ refl, short g.actor h.0, (word _ refl, tame_deeds kinds, (word _ refl, tame_scope g.scope h.1, tt)))), tt))
tame_listing kinds (Take m n) h = (refl, (word _ refl, (refl, (word _ refl, short m h.0, (word _ refl, short n h.1, tt))), tt))
tame_listing kinds (Protect p k) h = (refl, (word _ refl, (refl, (word _ refl, tame_deeds kinds, (word _ refl, short p.0 h, tt))), tt))
tame_listing kinds (Unprotect p k) h = (refl, (word _ refl, (refl, (word _ refl, tame_deeds kinds, (word _ refl, short p.0 h, tt))), tt))
tame_listing kinds (CopyTo p n q) h =
    (refl, (word _ refl, (refl, (word _ refl, short p.0 h.0, (word _ refl, short n h.1, (word _ refl, short q.0 h.2, tt)))), tt))
tame_listing kinds (Replace n p q) h =
    (refl, (word _ refl, (refl, (word _ refl, short q.0 h.2, (word _ refl, short p.0 h.1, (word _ refl, short n h.0, tt)))), tt))
tame_listing kinds (Heal p) h = (refl, (word _ refl, (refl, (word _ refl, short p.0 h, tt)), tt))

pub tame_act : (a : Act) → FitsAct a → RoundTrips (act_data a)
tame_act a h = tame_listing (in_order (kinds_in a)) a h

-- ---- and they nest at most three deep

depth_processes : (ps : List ProcId) → items_depth (items_of (map (λ p. whole p.0) ps)) ≡ 0
depth_processes [] = refl
depth_processes (p ∷ ps) = rw (depth_processes ps) refl

depth_deeds : (ds : List Deed) → items_depth (items_of (map (λ d. string (deed_text d)) ds)) ≡ 0
depth_deeds [] = refl
depth_deeds (d ∷ ds) = rw (depth_deeds ds) refl

depth_scope : (s : Scope) → depth (scope_value s) ≤ 1
depth_scope All = omega arith
depth_scope (Where target) = omega arith

pub depth_listing : (kinds : List Deed) (a : Act) → depth (act_listing kinds a) ≤ 3
depth_listing kinds (Kill o) = omega arith
depth_listing kinds (Clog s n) = omega arith
depth_listing kinds (Unclog s) = omega arith
depth_listing kinds (Form ps n) = omega (arith, depth_processes ps)
depth_listing kinds (Begin n bs) = omega arith
depth_listing kinds (Deliver n) = omega arith
depth_listing kinds (Lose n) = omega arith
depth_listing kinds (Resend n p) = omega arith
depth_listing kinds (Sync p) = omega arith
depth_listing kinds (Up p) = omega arith
depth_listing kinds (Tick n) = omega arith
depth_listing kinds (Give g) = omega (arith, depth_deeds kinds, depth_scope g.scope)
depth_listing kinds (Take m n) = omega arith
depth_listing kinds (Protect p k) = omega (arith, depth_deeds kinds)
depth_listing kinds (Unprotect p k) = omega (arith, depth_deeds kinds)
depth_listing kinds (CopyTo p n q) = omega arith
depth_listing kinds (Replace n p q) = omega arith
depth_listing kinds (Heal p) = omega arith

-- ---- replies and entries are tame

tame_rule : (r : Option Rule) → IsRepresentableRule r → RoundTrips (rule_data r)
tame_rule None h = tt
tame_rule (Some NoTarget) h = (word _ refl, tt)
tame_rule (Some (NoGrant p)) h = (word _ refl, (short p.0 h, tt))
tame_rule (Some (Protected p)) h = (word _ refl, (short p.0 h, tt))
tame_rule (Some (TooManyDestroyed i)) h = (word _ refl, (h, tt))
tame_rule (Some (TooFewLeft i)) h = (word _ refl, (h, tt))

tame_struck : (k : Option Kind) → RoundTrips (struck_data k)
tame_struck None = tt
tame_struck (Some k) = utf8_kind k

tame_refusal : (r : Refusal) → FitsRefusal r → RoundTrips (refusal_data r)
tame_refusal Stranger h = (word _ refl, tt)
tame_refusal WrongRole h = (word _ refl, tt)
tame_refusal TooMany h = (word _ refl, tt)
tame_refusal NoPolicy h = (word _ refl, tt)
tame_refusal NoProcess h = (word _ refl, tt)
tame_refusal Gone h = (word _ refl, tt)
tame_refusal (TeamShort n) h = (word _ refl, (short n h, tt))
tame_refusal NoTeam h = (word _ refl, tt)
tame_refusal Payload h = (word _ refl, tt)
tame_refusal NetFull h = (word _ refl, tt)
tame_refusal NoMessage h = (word _ refl, tt)
tame_refusal Clogged h = (word _ refl, tt)
tame_refusal NotUp h = (word _ refl, tt)
tame_refusal NoRecord h = (word _ refl, tt)
tame_refusal NotMember h = (word _ refl, tt)
tame_refusal Acked h = (word _ refl, tt)
tame_refusal IsUp h = (word _ refl, tt)
tame_refusal ClockEnd h = (word _ refl, tt)
tame_refusal NoActor h = (word _ refl, tt)
tame_refusal Full h = (word _ refl, tt)
tame_refusal NoSuch h = (word _ refl, tt)
tame_refusal NoCopy h = (word _ refl, tt)
tame_refusal IsMember h = (word _ refl, tt)
tame_refusal NotDestroyed h = (word _ refl, tt)
tame_refusal (StillNeeds n) h = (word _ refl, (short n h, tt))

pub tame_reply : (r : Reply) → IsRepresentableReply r → RoundTrips (reply_data r)
tame_reply (Verdict v) h = (refl, (word _ refl, (refl, (word _ refl, tame_rule v.rule h, (word _ refl, tame_struck v.struck, tt))), tt))
tame_reply (Ruled r) h = (refl, (word _ refl, tame_rule r h, tt))
tame_reply (Formed n) h = (refl, (word _ refl, short n h, tt))
tame_reply (Begun m n) h = (refl, (word _ refl, (refl, (word _ refl, h.1, (word _ refl, short m h.0, tt))), tt))
tame_reply Stored h = word _ refl
tame_reply (Marked b) h = (refl, (word _ refl, tt, tt))
tame_reply (Sent n) h = (refl, (word _ refl, h, tt))
tame_reply (Synced m n) h = (refl, (word _ refl, (refl, (word _ refl, short n h.1, (word _ refl, h.0, tt))), tt))
tame_reply (Time n) h = (refl, (word _ refl, h, tt))
tame_reply Done h = word _ refl
tame_reply (No r) h = (refl, (word _ refl, tame_refusal r h, tt))

pub tame_entry : (e : Entry) → IsRepresentable e → RoundTrips (entry_data e)
tame_entry e h = (refl, (word _ refl, tame_act e.act h.act, (word _ refl, short e.at h.at, (word _ refl, short e.by h.by, (word _ refl, tame_reply e.reply h.reply, tt)))))

-- ---- and nest at most four deep

depth_rule : (r : Option Rule) → depth (rule_data r) ≤ 1
depth_rule None = omega arith
depth_rule (Some NoTarget) = omega arith
depth_rule (Some (NoGrant p)) = omega arith
depth_rule (Some (Protected p)) = omega arith
depth_rule (Some (TooManyDestroyed i)) = omega arith
depth_rule (Some (TooFewLeft i)) = omega arith

depth_struck : (k : Option Kind) → depth (struck_data k) ≤ 1
depth_struck None = omega arith
depth_struck (Some k) = omega arith

depth_refusal : (r : Refusal) → depth (refusal_data r) ≤ 1
depth_refusal Stranger = omega arith
depth_refusal WrongRole = omega arith
depth_refusal TooMany = omega arith
depth_refusal NoPolicy = omega arith
depth_refusal NoProcess = omega arith
depth_refusal Gone = omega arith
depth_refusal (TeamShort n) = omega arith
depth_refusal NoTeam = omega arith
depth_refusal Payload = omega arith
depth_refusal NetFull = omega arith
depth_refusal NoMessage = omega arith
depth_refusal Clogged = omega arith
depth_refusal NotUp = omega arith
depth_refusal NoRecord = omega arith
depth_refusal NotMember = omega arith
depth_refusal Acked = omega arith
depth_refusal IsUp = omega arith
depth_refusal ClockEnd = omega arith
depth_refusal NoActor = omega arith
depth_refusal Full = omega arith
depth_refusal NoSuch = omega arith
depth_refusal NoCopy = omega arith
depth_refusal IsMember = omega arith
depth_refusal NotDestroyed = omega arith
depth_refusal (StillNeeds n) = omega arith

pub depth_reply : (r : Reply) → depth (reply_data r) ≤ 3
depth_reply (Verdict v) = omega (arith, depth_rule v.rule, depth_struck v.struck)
depth_reply (Ruled r) = omega (arith, depth_rule r)
depth_reply (Formed n) = omega arith
depth_reply (Begun m n) = omega arith
depth_reply Stored = omega arith
depth_reply (Marked b) = omega arith
depth_reply (Sent n) = omega arith
depth_reply (Synced m n) = omega arith
depth_reply (Time n) = omega arith
depth_reply Done = omega arith
depth_reply (No r) = omega (arith, depth_refusal r)

pub depth_entry : (e : Entry) → depth (entry_data e) ≤ max_depth
depth_entry e = omega (arith, depth_listing (in_order (kinds_in e.act)) e.act, depth_reply e.reply)

-- ---- what fits can be held

held_rule : (r : Option Rule) → FitsRule r → IsRepresentableRule r
held_rule None h = tt
held_rule (Some NoTarget) h = tt
held_rule (Some (NoGrant p)) h = h
held_rule (Some (Protected p)) h = h
held_rule (Some (TooManyDestroyed i)) h = short i h
held_rule (Some (TooFewLeft i)) h = short i h

pub held_reply : (r : Reply) → FitsReply r → IsRepresentableReply r
held_reply (Verdict v) h = held_rule v.rule h
held_reply (Ruled r) h = held_rule r h
held_reply (Formed n) h = h
held_reply (Begun m n) h = h
held_reply Stored h = h
held_reply (Marked b) h = h
held_reply (Sent n) h = h
held_reply (Synced m n) h = h
held_reply (Time n) h = h
held_reply Done h = h
held_reply (No r) h = h

pub held_entry : (e : Entry) → FitsEntry e → IsRepresentable e
held_entry e h = record { act = h.act; at = h.at; by = h.by; reply = held_reply e.reply h.reply }

-- ---- the text of an entry reads as its value, and is UTF-8

pub read_held_text : (e : Entry) → IsRepresentable e → read (text_of e) ≡ Some (entry_data e)
unfolding text_of
read_held_text e h = reads_back (entry_data e) (tame_entry e h) (depth_entry e)

pub read_text_of : (e : Entry) → FitsEntry e → read (text_of e) ≡ Some (entry_data e)
read_text_of e h = read_held_text e (held_entry e h)

pub utf8_text_of : (e : Entry) → IsRepresentable e → IsUtf8 (text_of e)
unfolding text_of
utf8_text_of e h = utf8 (entry_data e) (tame_entry e h)
