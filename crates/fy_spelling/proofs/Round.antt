-- a value is of one act, of one reply and of one entry
use Rattle.std.proofs.Common.{◌≡◌, ℕ, List, codes, Option, Some, None, refl, sym, ap, ◌∙◌, arith}
use Rattle.serde_json.specs.Data.{Data}
use Rattle.serde_json.specs.Find.{get}
use Rattle.serde_json.specs.Read.{read}
use Rattle.fy_spelling.specs.Fits.{IsU32, FitsAct, FitsReply, FitsEntry}
use Rattle.fy_spelling.specs.Values.{whole, in_order, kinds_in, act_data, reply_data, entry_data, text_of}
use Rattle.fy_spelling.specs.Command.{asking}
use Rattle.fy_spelling.specs.Candidate.{u32_from, command_from}
use Rattle.fy_spelling.specs.Replied.{reply_from}
use Rattle.fy_acts.specs.declared.act.Act.{Act}
use Rattle.fy_acts.specs.declared.act.Act.TheVariants.{Kill, Clog, Unclog, Form, Begin, Deliver, Lose, Resend, Sync, Up, Tick, Give, Take, Protect, Unprotect, CopyTo, Replace, Heal}
use Rattle.fy_spelling.specs.declared.reading.UncheckedAct.{UncheckedAct}
use Rattle.fy_spelling.specs.declared.reading.UncheckedAct.TheVariants.{Other}
use Rattle.fy_acts.specs.declared.reply.Reply.{Reply}
use Rattle.fy_acts.specs.declared.entry.Entry.{Entry}
use Rattle.fy_spelling.proofs.Again.{found_as, command-again, short-again}
use Rattle.fy_spelling.proofs.Orders.{same_parts}
use Rattle.fy_spelling.proofs.Plain.{gathered_in_order}
use Rattle.fy_spelling.proofs.Replied.{reply-again}
use Rattle.fy_spelling.proofs.Shapes.{read_text_of}

-- ---- acts

-- what is asked for but for a kill is asked for once
other_once : (a b : Act) → Other a ≡ found_as b → a ≡ b
other_once a (Kill order) e = cc
other_once a (Clog target ticks) e = cc
other_once a (Unclog target) e = cc
other_once a (Form members policy) e = cc
other_once a (Begin team payload) e = cc
other_once a (Deliver message) e = cc
other_once a (Lose message) e = cc
other_once a (Resend rec process) e = cc
other_once a (Sync process) e = cc
other_once a (Up process) e = cc
other_once a (Tick ticks) e = cc
other_once a (Give grant) e = cc
other_once a (Take actor index) e = cc
other_once a (Protect process kinds) e = cc
other_once a (Unprotect process kinds) e = cc
other_once a (CopyTo from rec to) e = cc
other_once a (Replace team out into) e = cc
other_once a (Heal process) e = cc

pub found_once : (a b : Act) → found_as a ≡ found_as b → a ≡ b
found_once (Kill o) (Kill p) e =
    let target : o.target ≡ p.target = cc in
    let kind : o.kind ≡ p.kind = cc in
    let floor : o.floor ≡ p.floor = cc in
    let tear : o.tear ≡ p.tear = cc in
    ap Kill (same_parts o p.target p.kind p.floor p.tear p.ordered target kind floor tear)
found_once (Kill order) (Clog target ticks) e = sym (other_once (Clog target ticks) (Kill order) (sym e))
found_once (Kill order) (Unclog target) e = sym (other_once (Unclog target) (Kill order) (sym e))
found_once (Kill order) (Form members policy) e = sym (other_once (Form members policy) (Kill order) (sym e))
found_once (Kill order) (Begin team payload) e = sym (other_once (Begin team payload) (Kill order) (sym e))
found_once (Kill order) (Deliver message) e = sym (other_once (Deliver message) (Kill order) (sym e))
found_once (Kill order) (Lose message) e = sym (other_once (Lose message) (Kill order) (sym e))
found_once (Kill order) (Resend rec process) e = sym (other_once (Resend rec process) (Kill order) (sym e))
found_once (Kill order) (Sync process) e = sym (other_once (Sync process) (Kill order) (sym e))
found_once (Kill order) (Up process) e = sym (other_once (Up process) (Kill order) (sym e))
found_once (Kill order) (Tick ticks) e = sym (other_once (Tick ticks) (Kill order) (sym e))
found_once (Kill order) (Give grant) e = sym (other_once (Give grant) (Kill order) (sym e))
found_once (Kill order) (Take actor index) e = sym (other_once (Take actor index) (Kill order) (sym e))
found_once (Kill order) (Protect process kinds) e = sym (other_once (Protect process kinds) (Kill order) (sym e))
found_once (Kill order) (Unprotect process kinds) e = sym (other_once (Unprotect process kinds) (Kill order) (sym e))
found_once (Kill order) (CopyTo from rec to) e = sym (other_once (CopyTo from rec to) (Kill order) (sym e))
found_once (Kill order) (Replace team out into) e = sym (other_once (Replace team out into) (Kill order) (sym e))
found_once (Kill order) (Heal process) e = sym (other_once (Heal process) (Kill order) (sym e))
found_once (Clog target ticks) b e = other_once (Clog target ticks) b e
found_once (Unclog target) b e = other_once (Unclog target) b e
found_once (Form members policy) b e = other_once (Form members policy) b e
found_once (Begin team payload) b e = other_once (Begin team payload) b e
found_once (Deliver message) b e = other_once (Deliver message) b e
found_once (Lose message) b e = other_once (Lose message) b e
found_once (Resend rec process) b e = other_once (Resend rec process) b e
found_once (Sync process) b e = other_once (Sync process) b e
found_once (Up process) b e = other_once (Up process) b e
found_once (Tick ticks) b e = other_once (Tick ticks) b e
found_once (Give grant) b e = other_once (Give grant) b e
found_once (Take actor index) b e = other_once (Take actor index) b e
found_once (Protect process kinds) b e = other_once (Protect process kinds) b e
found_once (Unprotect process kinds) b e = other_once (Unprotect process kinds) b e
found_once (CopyTo from rec to) b e = other_once (CopyTo from rec to) b e
found_once (Replace team out into) b e = other_once (Replace team out into) b e
found_once (Heal process) b e = other_once (Heal process) b e

-- what was found to be asked
abbrev asked_of : Option (ℕ × UncheckedAct) → UncheckedAct
asked_of (Some p) = p.1
asked_of None = Other (Heal (record { 0 = 0 }))

some_once : (x y : UncheckedAct) (o : Option (ℕ × UncheckedAct)) → o ≡ Some (0, x) → o ≡ Some (0, y) → x ≡ y
some_once x y o e f = sym (ap asked_of e) ∙ ap asked_of f

found : (a : Act) → FitsAct a → command_from (asking 0 (act_data a)) ≡ Some (0, found_as a)
found a fits = command-again 0 (in_order (kinds_in a)) a (gathered_in_order (kinds_in a)) (omega arith) fits

pub act_once : (a b : Act) → FitsAct a → FitsAct b → act_data a ≡ act_data b → a ≡ b
act_once a b fits_a fits_b same =
    found_once a b
    (some_once (found_as a) (found_as b) (command_from (asking 0 (act_data a))) (found a fits_a)
    (ap (λ d. command_from (asking 0 d)) same ∙ found b fits_b))

-- ---- replies

pub some_reply : (a b : Reply) → Some a ≡ Some b → a ≡ b
some_reply a b e = cc

pub reply_once : (a b : Reply) → FitsReply a → FitsReply b → reply_data a ≡ reply_data b → a ≡ b
reply_once a b fits_a fits_b same =
    some_reply a b (sym (reply-again a fits_a) ∙ ap reply_from same ∙ reply-again b fits_b)

-- ---- entries

pub some_value : (d e : Data) → Some d ≡ Some e → d ≡ e
some_value d e same = cc

-- what stands at a key of both
at_key : (key : List ℕ) (a b : Entry) (d e : Data) → entry_data a ≡ entry_data b → get key (entry_data a) ≡ Some d → get key (entry_data b) ≡ Some e → d ≡ e
at_key key a b d e same at_a at_b =
    some_value d e (sym at_a ∙ ap (get key) same ∙ at_b)

whole_once : (m n : ℕ) → IsU32 m → IsU32 n → whole m ≡ whole n → m ≡ n
whole_once m n short_m short_n same =
    let both : Some m ≡ Some n = sym (short-again m short_m) ∙ ap u32_from same ∙ short-again n short_n in
    cc

-- entries of one value are equal where their replies are
pub entry_once : (a b : Entry) → FitsAct a.act × IsU32 a.at × IsU32 a.by → FitsAct b.act × IsU32 b.at × IsU32 b.by
    → (reply_data a.reply ≡ reply_data b.reply → a.reply ≡ b.reply) → entry_data a ≡ entry_data b → a ≡ b
entry_once a b (act_a, at_a, by_a) (act_b, at_b, by_b) replied same =
    let acts = act_once a.act b.act act_a act_b (at_key (codes "act") a b (act_data a.act) (act_data b.act) same refl refl) in
    let places = whole_once a.at b.at at_a at_b (at_key (codes "at") a b (whole a.at) (whole b.at) same refl refl) in
    let actors = whole_once a.by b.by by_a by_b (at_key (codes "by") a b (whole a.by) (whole b.by) same refl refl) in
    let replies = replied (at_key (codes "reply") a b (reply_data a.reply) (reply_data b.reply) same refl refl) in
    λ i. record { at = places i; by = actors i; act = acts i; reply = replies i }

-- two entries with one text are equal
pub one_entry : (a b : Entry) → FitsEntry a → FitsEntry b → text_of a ≡ text_of b → a ≡ b
one_entry a b fits_a fits_b same =
    let values : Some (entry_data a) ≡ Some (entry_data b) = sym (read_text_of a fits_a) ∙ ap read same ∙ read_text_of b fits_b in
    entry_once a b (fits_a.act, fits_a.at, fits_a.by) (fits_b.act, fits_b.at, fits_b.by) (reply_once a.reply b.reply fits_a.reply fits_b.reply) (some_value (entry_data a) (entry_data b) values)
