-- the pieces of a text make its compact text
use Rattle.std.proofs.Common.{◌≡◌, ℕ, zero, suc, ◌<◌, ◌/◌, ◌%◌, inl, inr, List, [], ◌∷◌, ◌++◌, Bool, true, false, Option, Some, None, ◌&&◌, codes, decimal, map, refl, ap, ◌∙◌, arith, append_assoc, length, not, ◌==◌, nat_le, nat_lt, slice_index}
use Rattle.std.specs.List.{list_all, AllByRecursion}
use Rattle.std.proofs.lemmas.Bool.{and_parts, cases_lt}
use Rattle.std.proofs.lemmas.Bool.Decides.{nat_tests}
use Rattle.json.specs.Print.{escape, escape_byte}
use Rattle.json.proofs.Printed.Strings.{escape_byte_plain}
use Rattle.serde_json.proofs.OnLiterals.{serde_json_on_literals}
use Rattle.serde_json.specs.View.{items_of}
use Rattle.serde_json.specs.Data.{Data, string}
use Rattle.serde_json.specs.Written.{compact_text, items_text, comma_if}
use Rattle.hex.specs.Hex.{lower_digits, encode_lower, encode_with}
use Rattle.fy_locality.specs.Name.{is_name, is_name_byte}
use Rattle.fy_locality.specs.Key.{key_text}
use Rattle.fy_locality.specs.declared.name.TheConstants.{MOST_NAME_CHARACTERS}
use Rattle.fy_locality.specs.declared.ProcId.{ProcId}
use Rattle.fy_locality.specs.declared.key.Key.{Key}
use Rattle.fy_locality.specs.declared.key.Key.TheVariants.{Process, Machine, Zone, DataHall, DataCenter}
use Rattle.fy_kinds.specs.Kinds.{Deed, Striking, Clogging, deed_text, kind_text}
use Rattle.fy_kinds.specs.Members.{Members}
use Rattle.fy_kinds.specs.Orders.{Order}
use Rattle.fy_kinds.specs.declared.kind.Kind.{Kind}
use Rattle.fy_kinds.specs.declared.kind.Kind.TheVariants.{RebootProcess, Reboot, RebootAndDelete, KillInstantly}
use Rattle.fy_kinds.specs.declared.order.Target.{Target}
use Rattle.fy_grants.specs.declared.grant.Scope.{Scope}
use Rattle.fy_grants.specs.declared.grant.Scope.TheVariants.{All, Where}
use Rattle.fy_spelling.specs.Fits.{IsByte, FitsTarget, FitsScope, FitsAct}
use Rattle.fy_spelling.specs.Values.{whole, in_order, act_data, rule_data, reply_data, text_of}
use Rattle.fy_spelling.specs.Plain.{command_text}
use Rattle.fy_spelling.specs.Pieces.{target_text, order_text, clog_text, processes_text, deeds_text, form_text, begin_text, give_text, protection_text, act_text, asked_text, rule_text, verdict_text, ruled_text, refusal_text, marked_text, reply_text, entry_pieces, NeedsNoEscape}
use Rattle.fy_acts.specs.declared.act.Act.{Act}
use Rattle.fy_acts.specs.declared.act.Act.TheVariants.{Kill, Clog, Unclog, Form, Begin, Deliver, Lose, Resend, Sync, Up, Tick, Give, Take, Protect, Unprotect, CopyTo, Replace, Heal}
use Rattle.fy_kinds.specs.declared.verdict.Rule.{Rule}
use Rattle.fy_kinds.specs.declared.verdict.Rule.TheVariants.{NoTarget, NoGrant, Protected, TooManyDestroyed, TooFewLeft}
use Rattle.fy_acts.specs.declared.reply.Refusal.{Refusal}
use Rattle.fy_acts.specs.declared.reply.Refusal.TheVariants.{Stranger, WrongRole, TooMany, NoPolicy, NoProcess, Gone, TeamShort, NoTeam, Payload, NetFull, NoMessage, Clogged, NotUp, NoRecord, NotMember, Acked, IsUp, ClockEnd, NoActor, Full, NoSuch, NoCopy, IsMember, NotDestroyed, StillNeeds}
use Rattle.fy_acts.specs.declared.reply.Reply.{Reply}
use Rattle.fy_acts.specs.declared.reply.Reply.TheVariants.{Verdict, Ruled, Formed, Begun, Stored, Marked, Sent, Synced, Time, Done, No}
use Rattle.fy_acts.specs.declared.entry.Entry.{Entry}
use Rattle.fy_spelling.specs.declared.command.Command.{Command}

-- ---- what needs no escape

byte_plain : (b : ℕ) → is_name_byte b ≡ true → escape_byte b ≡ b ∷ []
byte_plain b h = escape_byte_plain b (λ e. grind (arith, nat_tests)) (λ e. grind (arith, nat_tests)) (grind (arith, nat_tests))

bytes_plain : (bs : List ℕ) → list_all is_name_byte bs ≡ true → escape bs ≡ bs
bytes_plain [] h = refl
bytes_plain (b ∷ bs) h = let p = and_parts (is_name_byte b) _ h in rw (byte_plain b p.0, bytes_plain bs p.1) refl

abbrev digits_named : ℕ → Bool
digits_named zero = true
digits_named (suc n) = is_name_byte (slice_index lower_digits n) && digits_named n

digit_named : (n k : ℕ) → digits_named n ≡ true → k < n → is_name_byte (slice_index lower_digits k) ≡ true
digit_named zero k h lt = absurd (omega arith)
digit_named (suc n) k h lt =
    let parts = and_parts (is_name_byte (slice_index lower_digits n)) (digits_named n) h in
    elim (cases_lt k n) [
      | inl below ↦ digit_named n k parts.1 below
      | inr top ↦
          let e : k ≡ n = omega arith in
          rw e parts.0
    ]

hex_named : (bs : List ℕ) → AllByRecursion IsByte bs → list_all is_name_byte (encode_lower bs) ≡ true
unfolding encode_with
hex_named [] h = refl
hex_named (b ∷ bs) h =
    let high : b / 16 < 16 = omega (arith, h.0) in
    let low : b % 16 < 16 = omega (arith, h.0) in
    rw (digit_named 16 (b / 16) refl high, digit_named 16 (b % 16) refl low, hex_named bs h.1) refl

hex_plain : (bs : List ℕ) → AllByRecursion IsByte bs → escape (encode_lower bs) ≡ encode_lower bs
hex_plain bs h = bytes_plain (encode_lower bs) (hex_named bs h)

name_plain : (bs : List ℕ) → is_name bs ≡ true → escape bs ≡ bs
name_plain bs h =
    bytes_plain bs (and_parts (nat_lt 0 (length bs) && nat_le (length bs) MOST_NAME_CHARACTERS && not (slice_index bs 0 == 45)) (list_all is_name_byte bs) h).1

pub kind_plain : (k : Kind) → escape (kind_text k) ≡ kind_text k
kind_plain RebootProcess = bytes_plain _ refl
kind_plain Reboot = bytes_plain _ refl
kind_plain RebootAndDelete = bytes_plain _ refl
kind_plain KillInstantly = bytes_plain _ refl

deed_plain : (d : Deed) → escape (deed_text d) ≡ deed_text d
deed_plain (Striking k) = kind_plain k
deed_plain Clogging = bytes_plain _ refl

key_plain : (k : Key) → escape (key_text k) ≡ key_text k
key_plain Process = bytes_plain _ refl
key_plain Machine = bytes_plain _ refl
key_plain Zone = bytes_plain _ refl
key_plain DataHall = bytes_plain _ refl
key_plain DataCenter = bytes_plain _ refl

-- ---- lists

processes_same : (later : Bool) (ps : List ProcId) → processes_text later ps ++ codes "]" ≡ items_text later (items_of (map (λ p. whole p.0) ps))
processes_same later [] = refl
processes_same later (p ∷ ps) =
    append_assoc (comma_if later) (decimal p.0 ++ processes_text true ps) (codes "]")
    ∙ ap (λ x. comma_if later ++ x) (append_assoc (decimal p.0) (processes_text true ps) (codes "]") ∙ ap (λ x. decimal p.0 ++ x) (processes_same true ps))

deed_shape : (c w t : List ℕ)
    → (c ++ (codes "\"" ++ (w ++ (codes "\"" ++ t)))) ++ codes "]" ≡ c ++ (codes "\"" ++ ((w ++ codes "\"") ++ (t ++ codes "]")))
deed_shape c w t = simp append_assoc

deeds_same : (later : Bool) (ds : List Deed) → deeds_text later ds ++ codes "]" ≡ items_text later (items_of (map (λ d. string (deed_text d)) ds))
deeds_same later [] = refl
deeds_same later (d ∷ ds) = deed_shape (comma_if later) (deed_text d) (deeds_text true ds) ∙ rw (deed_plain d, deeds_same true ds) refl

-- ---- acts

-- what stands before the end of an act stands before the end of what it holds

one_shape : (h m : List ℕ) → h ++ (m ++ codes "}}") ≡ h ++ ((m ++ codes "}") ++ codes "}")
one_shape h m = simp append_assoc

two_shape : (h m b n : List ℕ) → h ++ (m ++ (b ++ (n ++ codes "}}"))) ≡ h ++ ((m ++ (b ++ (n ++ codes "}"))) ++ codes "}")
two_shape h m b n = simp append_assoc

three_shape : (h m b n c k : List ℕ)
    → h ++ (m ++ (b ++ (n ++ (c ++ (k ++ codes "}}"))))) ≡ h ++ ((m ++ (b ++ (n ++ (c ++ (k ++ codes "}"))))) ++ codes "}")
three_shape h m b n c k = simp append_assoc

list_shape : (h m b n : List ℕ) → h ++ (m ++ (codes "]" ++ (b ++ (n ++ codes "}}")))) ≡ h ++ (((m ++ codes "]") ++ (b ++ (n ++ codes "}"))) ++ codes "}")
list_shape h m b n = simp append_assoc

kill_shape : (f k d t v : List ℕ)
    → (codes "{\"kill\":{\"floor\":\"" ++ (f ++ (codes "\",\"key\":\"" ++ (k ++ (codes "\",\"kind\":\"" ++ d))))) ++ (codes "\",\"tear\":" ++ (t ++ (codes ",\"value\":\"" ++ (v ++ codes "\"}}"))))
    ≡ codes "{\"kill\":{\"floor\":\"" ++ (((f ++ 34 ∷ []) ++ (codes ",\"key\":\"" ++ ((k ++ 34 ∷ []) ++ (codes ",\"kind\":\"" ++ ((d ++ 34 ∷ []) ++ (codes ",\"tear\":" ++ (t ++ (codes ",\"value\":\"" ++ ((v ++ 34 ∷ []) ++ codes "}"))))))))) ++ codes "}")
kill_shape f k d t v = simp append_assoc

kill_same : (o : Order) → FitsTarget o.target → order_text o ≡ compact_text (act_data (Kill o))
unfolding serde_json_on_literals
kill_same o h =
    rw (kind_plain o.floor, kind_plain o.kind, key_plain o.target.key, name_plain o.target.value h) (kill_shape (kind_text o.floor) (key_text o.target.key) (kind_text o.kind) (decimal o.tear) o.target.value)

clog_shape : (k t v : List ℕ)
    → codes "{\"clog\":{\"key\":\"" ++ (k ++ (codes "\",\"ticks\":" ++ (t ++ (codes ",\"value\":\"" ++ (v ++ codes "\"}}")))))
    ≡ codes "{\"clog\":{\"key\":\"" ++ (((k ++ 34 ∷ []) ++ (codes ",\"ticks\":" ++ (t ++ (codes ",\"value\":\"" ++ ((v ++ 34 ∷ []) ++ codes "}"))))) ++ codes "}")
clog_shape k t v = simp append_assoc

clog_same : (s : Target) (n : ℕ) → FitsTarget s → clog_text s n ≡ compact_text (act_data (Clog s n))
unfolding serde_json_on_literals
clog_same s n h = rw (key_plain s.key, name_plain s.value h) (clog_shape (key_text s.key) (decimal n) s.value)

unclog_shape : (k v : List ℕ)
    → codes "{\"unclog\":{\"key\":\"" ++ (k ++ (codes "\",\"value\":\"" ++ (v ++ codes "\"}}")))
    ≡ codes "{\"unclog\":{\"key\":\"" ++ (((k ++ 34 ∷ []) ++ (codes ",\"value\":\"" ++ ((v ++ 34 ∷ []) ++ codes "}"))) ++ codes "}")
unclog_shape k v = simp append_assoc

unclog_same : (s : Target) → FitsTarget s → target_text (codes "{\"unclog\":{\"key\":\"") s (codes "\"}}") ≡ compact_text (act_data (Unclog s))
unfolding serde_json_on_literals
unclog_same s h = rw (key_plain s.key, name_plain s.value h) (unclog_shape (key_text s.key) s.value)

form_same : (members : List ProcId) (policy : ℕ) → form_text members policy ≡ compact_text (act_data (Form members policy))
unfolding serde_json_on_literals
form_same members policy = list_shape (codes "{\"form\":{\"members\":[") (processes_text false members) (codes ",\"policy\":") (decimal policy) ∙ rw (processes_same false members) refl

begin_shape : (p t : List ℕ)
    → codes "{\"begin\":{\"payload\":\"" ++ (p ++ (codes "\",\"team\":" ++ (t ++ codes "}}")))
    ≡ codes "{\"begin\":{\"payload\":\"" ++ (((p ++ 34 ∷ []) ++ (codes ",\"team\":" ++ (t ++ codes "}"))) ++ codes "}")
begin_shape p t = simp append_assoc

begin_same : (team : ℕ) (payload : List ℕ) → AllByRecursion IsByte payload → begin_text team payload ≡ compact_text (act_data (Begin team payload))
unfolding serde_json_on_literals
begin_same team payload h = rw (hex_plain payload h) (begin_shape (encode_lower payload) (decimal team))

give_all_shape : (a k : List ℕ)
    → codes "{\"give\":{\"actor\":" ++ (a ++ (codes ",\"kinds\":[" ++ (k ++ codes "],\"scope\":\"all\"}}")))
    ≡ codes "{\"give\":{\"actor\":" ++ ((a ++ (codes ",\"kinds\":[" ++ ((k ++ codes "]") ++ codes ",\"scope\":\"all\"}"))) ++ codes "}")
give_all_shape a k = simp append_assoc

give_where_shape : (a k s v : List ℕ)
    → codes "{\"give\":{\"actor\":" ++ (a ++ (codes ",\"kinds\":[" ++ (k ++ (codes "],\"scope\":{\"key\":\"" ++ (s ++ (codes "\",\"value\":\"" ++ (v ++ codes "\"}}}")))))))
    ≡ codes "{\"give\":{\"actor\":" ++ ((a ++ (codes ",\"kinds\":[" ++ ((k ++ codes "]") ++ (codes ",\"scope\":{\"key\":\"" ++ (((s ++ 34 ∷ []) ++ (codes ",\"value\":\"" ++ ((v ++ 34 ∷ []) ++ codes "}"))) ++ codes "}"))))) ++ codes "}")
give_where_shape a k s v = simp append_assoc

give_same : (actor : ℕ) (kinds : Members) (scope : Scope) → FitsScope scope
    → give_text (record { actor = actor; kinds = kinds; scope = scope }) ≡ compact_text (act_data (Give (record { actor = actor; kinds = kinds; scope = scope })))
unfolding serde_json_on_literals
give_same actor kinds All h = give_all_shape (decimal actor) (deeds_text false (in_order kinds)) ∙ rw (deeds_same false (in_order kinds)) refl
give_same actor kinds (Where s) h =
    give_where_shape (decimal actor) (deeds_text false (in_order kinds)) (key_text s.key) s.value ∙ rw (deeds_same false (in_order kinds), key_plain s.key, name_plain s.value h) refl

protect_same : (p : ProcId) (kinds : Members) → protection_text (codes "{\"protect\":{\"kinds\":[") kinds p ≡ compact_text (act_data (Protect p kinds))
unfolding serde_json_on_literals
protect_same p kinds =
    list_shape (codes "{\"protect\":{\"kinds\":[") (deeds_text false (in_order kinds)) (codes ",\"process\":") (decimal p.0) ∙ rw (deeds_same false (in_order kinds)) refl

unprotect_same : (p : ProcId) (kinds : Members) → protection_text (codes "{\"unprotect\":{\"kinds\":[") kinds p ≡ compact_text (act_data (Unprotect p kinds))
unfolding serde_json_on_literals
unprotect_same p kinds =
    list_shape (codes "{\"unprotect\":{\"kinds\":[") (deeds_text false (in_order kinds)) (codes ",\"process\":") (decimal p.0) ∙ rw (deeds_same false (in_order kinds)) refl

-- the names and bytes of an act that fits need no escape
pub bare_of : (a : Act) → FitsAct a → NeedsNoEscape a
bare_of (Kill order) h = h.0
bare_of (Clog target ticks) h = h.0
bare_of (Unclog target) h = h
bare_of (Form members policy) h = tt
bare_of (Begin team payload) h = h.1
bare_of (Deliver message) h = tt
bare_of (Lose message) h = tt
bare_of (Resend rec process) h = tt
bare_of (Sync process) h = tt
bare_of (Up process) h = tt
bare_of (Tick ticks) h = tt
bare_of (Give grant) h = h.1
bare_of (Take actor index) h = tt
bare_of (Protect process kinds) h = tt
bare_of (Unprotect process kinds) h = tt
bare_of (CopyTo from rec to) h = tt
bare_of (Replace team out into) h = tt
bare_of (Heal process) h = tt

-- the pieces of an act make its text
pub act_same : (a : Act) → NeedsNoEscape a → act_text a ≡ compact_text (act_data a)
unfolding serde_json_on_literals
act_same (Kill order) h = kill_same order h
act_same (Clog target ticks) h = clog_same target ticks h
act_same (Unclog target) h = unclog_same target h
act_same (Form members policy) h = form_same members policy
act_same (Begin team payload) h = begin_same team payload h
act_same (Deliver message) h = one_shape (codes "{\"deliver\":{\"message\":") (decimal message)
act_same (Lose message) h = one_shape (codes "{\"lose\":{\"message\":") (decimal message)
act_same (Resend rec process) h = two_shape (codes "{\"resend\":{\"process\":") (decimal process.0) (codes ",\"record\":") (decimal rec)
act_same (Sync process) h = one_shape (codes "{\"sync\":{\"process\":") (decimal process.0)
act_same (Up process) h = one_shape (codes "{\"up\":{\"process\":") (decimal process.0)
act_same (Tick ticks) h = one_shape (codes "{\"tick\":{\"ticks\":") (decimal ticks)
act_same (Give grant) h = give_same grant.actor grant.kinds grant.scope h
act_same (Take actor index) h = two_shape (codes "{\"take\":{\"actor\":") (decimal actor) (codes ",\"index\":") (decimal index)
act_same (Protect process kinds) h = protect_same process kinds
act_same (Unprotect process kinds) h = unprotect_same process kinds
act_same (CopyTo from rec to) h =
    three_shape (codes "{\"copy\":{\"from\":") (decimal from.0) (codes ",\"record\":") (decimal rec) (codes ",\"to\":") (decimal to.0)
act_same (Replace team out into) h =
    three_shape (codes "{\"replace\":{\"into\":") (decimal into.0) (codes ",\"out\":") (decimal out.0) (codes ",\"team\":") (decimal team)
act_same (Heal process) h = one_shape (codes "{\"heal\":{\"process\":") (decimal process.0)

-- the pieces of a command make its text
pub command_same : (command : Command) → NeedsNoEscape command.act → asked_text command ≡ command_text command
unfolding command_text serde_json_on_literals
command_same command h = rw (act_same command.act h) refl

-- ---- replies

-- a reply as an entry's last member, with the entry's end
abbrev closing : Data → List ℕ
closing reply = codes ",\"reply\":" ++ (compact_text reply ++ codes "}")

rule_same : (r : Option Rule) → rule_text r ≡ compact_text (rule_data r)
unfolding serde_json_on_literals
rule_same None = refl
rule_same (Some NoTarget) = refl
rule_same (Some (NoGrant p)) = refl
rule_same (Some (Protected p)) = refl
rule_same (Some (TooManyDestroyed i)) = refl
rule_same (Some (TooFewLeft i)) = refl

none_shape : (r : List ℕ)
    → codes ",\"reply\":{\"verdict\":{\"rule\":" ++ (r ++ codes ",\"struck\":null}}}")
    ≡ codes ",\"reply\":{\"verdict\":{\"rule\":" ++ (((r ++ codes ",\"struck\":null}") ++ codes "}") ++ codes "}")
none_shape r = simp append_assoc

struck_shape : (r k : List ℕ)
    → codes ",\"reply\":{\"verdict\":{\"rule\":" ++ (r ++ (codes ",\"struck\":\"" ++ (k ++ codes "\"}}}")))
    ≡ codes ",\"reply\":{\"verdict\":{\"rule\":" ++ (((r ++ (codes ",\"struck\":\"" ++ ((k ++ 34 ∷ []) ++ codes "}"))) ++ codes "}") ++ codes "}")
struck_shape r k = simp append_assoc

verdict_same : (struck : Option Kind) (rule : Option Rule)
    → verdict_text (record { struck = struck; rule = rule }) ≡ closing (reply_data (Verdict (record { struck = struck; rule = rule })))
unfolding serde_json_on_literals
verdict_same None rule = none_shape (rule_text rule) ∙ rw (rule_same rule) refl
verdict_same (Some k) rule = struck_shape (rule_text rule) (kind_text k) ∙ rw (rule_same rule, kind_plain k) refl

ruled_same : (r : Option Rule) → ruled_text r ≡ closing (reply_data (Ruled r))
unfolding serde_json_on_literals
ruled_same r = one_shape (codes ",\"reply\":{\"ruled\":") (rule_text r) ∙ rw (rule_same r) refl

-- two numbers, and the end of three objects
both_shape : (h m b n : List ℕ) → h ++ (m ++ (b ++ (n ++ codes "}}}"))) ≡ h ++ (((m ++ (b ++ (n ++ codes "}"))) ++ codes "}") ++ codes "}")
both_shape h m b n = simp append_assoc

number_shape : (h n : List ℕ) → h ++ (n ++ codes "]}}") ≡ h ++ (((n ++ codes "]") ++ codes "}") ++ codes "}")
number_shape h n = simp append_assoc

no_same : (r : Refusal) → refusal_text r ≡ closing (reply_data (No r))
unfolding serde_json_on_literals
no_same Stranger = refl
no_same WrongRole = refl
no_same TooMany = refl
no_same NoPolicy = refl
no_same NoProcess = refl
no_same Gone = refl
no_same (TeamShort n) = number_shape (codes ",\"reply\":{\"no\":[\"TeamShort\",") (decimal n)
no_same NoTeam = refl
no_same Payload = refl
no_same NetFull = refl
no_same NoMessage = refl
no_same Clogged = refl
no_same NotUp = refl
no_same NoRecord = refl
no_same NotMember = refl
no_same Acked = refl
no_same IsUp = refl
no_same ClockEnd = refl
no_same NoActor = refl
no_same Full = refl
no_same NoSuch = refl
no_same NoCopy = refl
no_same IsMember = refl
no_same NotDestroyed = refl
no_same (StillNeeds n) = number_shape (codes ",\"reply\":{\"no\":[\"StillNeeds\",") (decimal n)

marked_same : (acked : Bool) → marked_text acked ≡ closing (reply_data (Marked acked))
unfolding serde_json_on_literals
marked_same true = refl
marked_same false = refl

reply_same : (r : Reply) → reply_text r ≡ closing (reply_data r)
unfolding serde_json_on_literals
reply_same (Verdict verdict) = verdict_same verdict.struck verdict.rule
reply_same (Ruled rule) = ruled_same rule
reply_same (Formed team) = one_shape (codes ",\"reply\":{\"formed\":") (decimal team)
reply_same (Begun rec first) = both_shape (codes ",\"reply\":{\"begun\":{\"first\":") (decimal first) (codes ",\"record\":") (decimal rec)
reply_same Stored = refl
reply_same (Marked acked) = marked_same acked
reply_same (Sent message) = one_shape (codes ",\"reply\":{\"sent\":") (decimal message)
reply_same (Synced first count) = both_shape (codes ",\"reply\":{\"synced\":{\"count\":") (decimal count) (codes ",\"first\":") (decimal first)
reply_same (Time now) = one_shape (codes ",\"reply\":{\"time\":") (decimal now)
reply_same Done = refl
reply_same (No refusal) = no_same refusal

-- ---- entries

entry_shape : (a p b r : List ℕ)
    → (codes "{\"act\":" ++ (a ++ (codes ",\"at\":" ++ (p ++ (codes ",\"by\":" ++ b))))) ++ (codes ",\"reply\":" ++ (r ++ codes "}"))
    ≡ codes "{\"act\":" ++ (a ++ (codes ",\"at\":" ++ (p ++ (codes ",\"by\":" ++ (b ++ (codes ",\"reply\":" ++ (r ++ codes "}")))))))
entry_shape a p b r = simp append_assoc

-- the pieces of an entry make its text
pub entry_same : (entry : Entry) → NeedsNoEscape entry.act → entry_pieces entry ≡ text_of entry
unfolding text_of serde_json_on_literals
entry_same entry h =
    rw (act_same entry.act h, reply_same entry.reply)
    (entry_shape (compact_text (act_data entry.act)) (decimal entry.at) (decimal entry.by) (compact_text (reply_data entry.reply)))
