-- What the words of a command leave where they have no fault: each row of the matches has a value
-- that its parser passes, and so has each argument that is required.
use Rattle.std.proofs.Common.{rules, arith, length, ◌≡◌, ◌∙◌, ◌⊎◌, ◌&&◌, ◌||◌, not, inl, inr, ℕ, zero, suc, Bool, true, false, List, [], ◌∷◌, ◌++◌, Option, None, Some, codes, refl, sym, ap, subst, ne_eqb, is_some, fold, drop}
use Rattle.std.specs.Prelude.{if◌then◌else◌, find, nat_lt, option_and_then, option_map, encode_utf8, slice_get}
use Rattle.std.specs.Option.{option_map_or}
use Rattle.std.specs.List.{list_any}
use Rattle.std.specs.Str.{bytes_eq, chars}
use Rattle.std.proofs.lemmas.Slice.Eq.{bytes_eq-Decides}
use Rattle.clap.specs.Words.{Row, Rule, Text, Shape, first_of, one_of}
use Rattle.clap.specs.Walk.{Held, Names, Outcome, Step, Waiting, Walk, action_of, after_flag, after_step, arg_by_id, arg_by_index, arg_by_long, arg_by_short, at_row, attached_value, bundle, bundle_met, bundle_step, default_rows, done, finished, flag_met, has_row, idle, is_empty, is_pending, long_met, long_or_other, more_values, most_values, next, nothing_held, option, option_met, option_word, plain, plain_word, positional, positional_held, reacted, reading_by, refused, row_text, settled, settled_rows, short_met, short_or_plain, subcommand, subcommand_met, subcommand_or_other, takes_several, takes_values, to_positional, trailing, used, used_as, used_by_id, value, values_or_missing, waits, walk, walk_from, walked, walked_from, with_default, with_values, without, word_met}
use Rattle.clap.specs.Lexer.{long_of, short_of}
use Rattle.clap.specs.Facts.{explicit_source, parser_of_value, unwrap_or_range}
use Rattle.clap.specs.Takes.{is_given}
use Rattle.clap.specs.Values.{is_request, read_as, reading_of, refused_kind}
use Rattle.clap.specs.ValueTests.{accepts}
use Rattle.clap.specs.Kinds.{Kinds, check_kinds, or_else, range_kinds, request_kinds, values_kinds}
use Rattle.clap.specs.Faults.{action_fault, bundle_fault, bundle_step_fault, check_fault, default_fault, defaults_fault, flag_word_fault, flags_fault, level_fault, long_fault, option_fault, other_fault, positional_fault, react_fault, repeat_fault, settle_fault, short_fault, step_fault, stray_fault, turn_fault, use_fault, walk_fault, word_fault}
use Rattle.clap.specs.declared.builder.action.ArgAction.{ArgAction}
use Rattle.clap.specs.declared.builder.action.ArgAction.TheVariants as action
use Rattle.clap.specs.declared.builder.value_parser.Reading.{Reading}
use Rattle.clap.specs.declared.builder.value_parser.ValueParser.{ValueParser}
use Rattle.clap.specs.declared.builder.value_parser.ValueParser.TheVariants.{Bool as Flag, String, Unsigned}
use Rattle.clap.specs.declared.parser.matches.ValueSource.{ValueSource}
use Rattle.clap.specs.declared.parser.matches.ValueSource.TheVariants.{DefaultValue, CommandLine}
use Rattle.clap.specs.declared.error.kind.ErrorKind.{ErrorKind}
use Rattle.clap.specs.declared.error.kind.ErrorKind.TheVariants.{InvalidValue, TooManyValues}
use Rattle.faultyard.specs.Commands.{largest_seed}

pub some_kinds : (k : ErrorKind) (ks : Kinds) → k ∷ ks ≡ [] → ⊥
some_kinds k ks none = let bad : length (k ∷ ks) ≡ 0 = ap length none in omega arith

pub or_else_none : (first second : Kinds) → or_else first second ≡ [] → (first ≡ []) × (second ≡ [])
or_else_none [] second none = (refl, none)
or_else_none (k ∷ ks) second none = absurd (some_kinds k ks none)

-- ---- rows that have a value

abbrev HasText : List Text → Type 0
HasText [] = ⊥
HasText (v ∷ vs) = Unit {0}

-- the parser of an argument, by its id
abbrev pub parser_for : Text → ValueParser
parser_for id =
    if bytes_eq id (codes "seed") then Unsigned 0 largest_seed
    else (if bytes_eq id (codes "acts") then Unsigned 0 largest_seed
    else (if bytes_eq id (codes "json") then Flag
    else (if bytes_eq id (codes "fresh") then Flag
    else (if bytes_eq id (codes "questions") then Flag
    else (if bytes_eq id (codes "explain") then Flag else String)))))

-- the parser passes each of these
abbrev pub PassAll : ValueParser → List Text → Type 0
PassAll p [] = Unit {0}
PassAll p (v ∷ vs) = (accepts false p v ≡ true) × PassAll p vs

-- a row with a value, whose values its parser passes and reads
abbrev pub IsFilled : Row → Type 0
IsFilled r =
    HasText r.values × PassAll (parser_for r.id) r.values
    × (r.reading ≡ reading_of (parser_for r.id))

abbrev pub AreFilled : List Row → Type 0
AreFilled [] = Unit {0}
AreFilled (r ∷ rs) = IsFilled r × AreFilled rs

filled_append : (xs ys : List Row) → AreFilled xs → AreFilled ys → AreFilled (xs ++ ys)
filled_append [] ys here there = there
filled_append (x ∷ xs) ys here there = (here.0, filled_append xs ys here.1 there)

filled_at : (id : Text) (change : Row → List Row) (missing rows : List Row) → ((r : Row) → r.id ≡ id → IsFilled r → AreFilled (change r)) → AreFilled missing → AreFilled rows
    → AreFilled (at_row id change missing rows)
filled_at id change missing [] changed none filled = none
filled_at id change missing (r ∷ rs) changed none filled = by (bytes_eq r.id id) refl (filled_at id change missing rs changed none filled.1)
  where
    by : (b : Bool) → bytes_eq r.id id ≡ b → AreFilled (at_row id change missing rs) → AreFilled (if b then change r ++ rs else r ∷ at_row id change missing rs)
    by true is rest = filled_append (change r) rs (changed r ((bytes_eq-Decides r.id id).0 is) filled.0) filled.1
    by false is rest = (filled.0, rest)

append_some : (xs : List Text) (v : Text) (vs : List Text) → HasText (xs ++ v ∷ vs)
append_some [] v vs = tt
append_some (x ∷ xs) v vs = tt

append_pass : (p : ValueParser) (xs ys : List Text) → PassAll p xs → PassAll p ys → PassAll p (xs ++ ys)
append_pass p [] ys here there = there
append_pass p (x ∷ xs) ys here there = (here.0, append_pass p xs ys here.1 there)

with_values_filled : (id : Text) (how : Reading) (s : ValueSource) (v : Text) (vs : List Text) (rows : List Row) → how ≡ reading_of (parser_for id) → PassAll (parser_for id) (v ∷ vs) → AreFilled rows
    → AreFilled (with_values id how s (v ∷ vs) rows)
with_values_filled id how s v vs rows reads passed filled =
    filled_at id (more_values s (v ∷ vs)) _ rows
    (λ r is has. ((append_some r.values v vs, append_pass (parser_for r.id) r.values (v ∷ vs) has.1 (subst (λ (t : Text). PassAll (parser_for t) (v ∷ vs)) (sym is) passed), has.2), tt))
    ((tt, passed, reads), tt) filled

without_filled : (id : Text) (rows : List Row) → AreFilled rows → AreFilled (without id rows)
without_filled id rows filled = filled_at id (λ r. []) [] rows (λ r is has. tt) tt filled

-- ---- one use of an argument

-- a use of the argument has a value, or asks for help or the version
abbrev pub is_filling : Rule → Bool
is_filling a = is_request (action_of a) || (nat_lt 0 (unwrap_or_range a.range).start_inclusive || not (is_empty a.missing))

-- it is so, and the argument has the parser of its id
abbrev pub Fills : Rule → Type 0
Fills a = (is_filling a ≡ true) × (a.ignore_case ≡ false) × (parser_of_value a.parser ≡ parser_for a.id)

no_values : (least most : ℕ) → nat_lt 0 least ≡ true → range_kinds least most 0 ≡ [] → ⊥
no_values least most wants none = some_kinds InvalidValue [] (rw wants at none)

given_values : (a : Rule) (values : List Text) → (nat_lt 0 (unwrap_or_range a.range).start_inclusive || not (is_empty a.missing)) ≡ true
    → range_kinds (unwrap_or_range a.range).start_inclusive (most_values a) (length values) ≡ [] → HasText (values_or_missing a values)
given_values a (v ∷ vs) fills none = tt
given_values a [] fills none = by (nat_lt 0 (unwrap_or_range a.range).start_inclusive) a.missing refl fills
  where
    by : (b : Bool) (m : List Text) → nat_lt 0 (unwrap_or_range a.range).start_inclusive ≡ b → (b || not (is_empty m)) ≡ true → HasText m
    by true m wants fills = absurd (no_values (unwrap_or_range a.range).start_inclusive (most_values a) wants none)
    by false (v ∷ vs) wants fills = tt
    by false [] wants fills = let bad : false ≡ true = fills in absurd (search rules)

-- values that have no fault pass
all_pass : (p : ValueParser) (values : List Text) → values_kinds false p values ≡ [] → PassAll p values
all_pass p [] none = tt
all_pass p (v ∷ vs) none =
    let parts = or_else_none _ (values_kinds false p vs) none in
    (by (accepts false p v) (refused_kind p) parts.0, all_pass p vs parts.1)
  where
    by : (b : Bool) (k : ErrorKind) → (if b then [] else k ∷ []) ≡ [] → b ≡ true
    by true k none = refl
    by false k none = absurd (some_kinds k [] none)

rule_passes : (a : Rule) (values : List Text) → a.ignore_case ≡ false → parser_of_value a.parser ≡ parser_for a.id → values_kinds a.ignore_case (parser_of_value a.parser) values ≡ []
    → PassAll (parser_for a.id) values
rule_passes a values case parser none =
    all_pass (parser_for a.id) values
    (subst (λ (b : Bool). values_kinds b (parser_for a.id) values ≡ []) case (subst (λ (p : ValueParser). values_kinds a.ignore_case p values ≡ []) parser none))

set_filled : (again : Bool) (a : Rule) (v : Text) (vs : List Text) (rows : List Row) → Fills a → values_kinds a.ignore_case (parser_of_value a.parser) (v ∷ vs) ≡ [] → AreFilled rows
    → AreFilled (with_values a.id (reading_by a) CommandLine (v ∷ vs) rows)
set_filled again a v vs rows fills none filled =
    with_values_filled a.id (reading_by a) CommandLine v vs rows (ap reading_of fills.2) (rule_passes a (v ∷ vs) fills.1 fills.2 none) filled

used_given : (x : ArgAction) (again : Bool) (a : Rule) (v : Text) (vs : List Text) (rows : List Row) → Fills a → action_fault x again a (v ∷ vs) rows ≡ [] → AreFilled rows
    → AreFilled (used_as x a.id (reading_by a) (v ∷ vs) rows)
used_given action.Set again a v vs rows fills none filled = set_filled again a v vs (without a.id rows) fills (or_else_none (repeat_fault again a.id rows) _ none).1 (without_filled a.id rows filled)
used_given action.SetTrue again a v vs rows fills none filled = set_filled again a v vs (without a.id rows) fills (or_else_none (repeat_fault again a.id rows) _ none).1 (without_filled a.id rows filled)
used_given action.SetFalse again a v vs rows fills none filled = set_filled again a v vs (without a.id rows) fills (or_else_none (repeat_fault again a.id rows) _ none).1 (without_filled a.id rows filled)
used_given action.Append again a v vs rows fills none filled = set_filled again a v vs rows fills none filled
used_given action.Count again a v vs rows fills none filled = set_filled again a v vs (without a.id rows) fills none (without_filled a.id rows filled)
used_given action.Help again a v vs rows fills none filled = filled
used_given action.HelpShort again a v vs rows fills none filled = filled
used_given action.HelpLong again a v vs rows fills none filled = filled
used_given action.Version again a v vs rows fills none filled = filled

used_some : (x : ArgAction) (again : Bool) (a : Rule) (values : List Text) (rows : List Row) → Fills a → action_fault x again a values rows ≡ [] → HasText values → AreFilled rows
    → AreFilled (used_as x a.id (reading_by a) values rows)
used_some x again a (v ∷ vs) rows fills none some filled = used_given x again a v vs rows fills none filled
used_some x again a [] rows fills none some filled = absurd some

asked : (x : ArgAction) (id : Text) (how : Reading) (values : List Text) (rows : List Row) → is_request x ≡ true → used_as x id how values rows ≡ rows
asked action.Help id how values rows is = refl
asked action.HelpShort id how values rows is = refl
asked action.HelpLong id how values rows is = refl
asked action.Version id how values rows is = refl
asked action.Set id how values rows is = let bad : false ≡ true = is in absurd (search rules)
asked action.SetTrue id how values rows is = let bad : false ≡ true = is in absurd (search rules)
asked action.SetFalse id how values rows is = let bad : false ≡ true = is in absurd (search rules)
asked action.Append id how values rows is = let bad : false ≡ true = is in absurd (search rules)
asked action.Count id how values rows is = let bad : false ≡ true = is in absurd (search rules)

used_filled : (again : Bool) (a : Rule) (values : List Text) (rows : List Row) → Fills a → use_fault again a values rows ≡ [] → AreFilled rows → AreFilled (used a values rows)
used_filled again a values rows fills none filled = by (is_request (action_of a)) refl fills.0
  where
    by : (b : Bool) → is_request (action_of a) ≡ b → (b || (nat_lt 0 (unwrap_or_range a.range).start_inclusive || not (is_empty a.missing))) ≡ true → AreFilled (used a values rows)
    by true is fills = subst AreFilled (sym (asked (action_of a) a.id (reading_by a) (values_or_missing a values) rows is)) filled
    by false is wants =
        let parts = or_else_none (range_kinds (unwrap_or_range a.range).start_inclusive (most_values a) (length values)) _ none in
        used_some (action_of a) again a (values_or_missing a values) rows fills parts.1 (given_values a values wants parts.0) filled

-- ---- the walk

abbrev pub AreFilling : List Rule → Type 0
AreFilling [] = Unit {0}
AreFilling (a ∷ rest) = Fills a × AreFilling rest

abbrev FillsIf : Option Rule → Type 0
FillsIf None = Unit {0}
FillsIf (Some a) = Fills a

found_fills : (p : Rule → Bool) (c : List Rule) → AreFilling c → FillsIf (find p c)
found_fills p [] fills = tt
found_fills p (a ∷ rest) fills = by (p a) (found_fills p rest fills.1) fills.0
  where
    by : (b : Bool) → FillsIf (find p rest) → Fills a → FillsIf (if b then Some a else find p rest)
    by true there here = here
    by false there here = there

by_id_filled : (again : Bool) (o : Option Rule) (values : List Text) (rows : List Row) → FillsIf o → option_map_or (λ a. use_fault again a values rows) o [] ≡ [] → AreFilled rows
    → AreFilled (used_by_id o values rows)
by_id_filled again None values rows fills none filled = filled
by_id_filled again (Some a) values rows fills none filled = used_filled again a values rows fills none filled

settled_filled : (c : List Rule) (again : Bool) (h : Held) → AreFilling c → settle_fault c again h ≡ [] → AreFilled h.rows → AreFilled (settled c h).rows
settled_filled c again h fills none filled = by h.pending none
  where
    by : (p : Option (Text × List Text)) → option_map_or (λ q. option_map_or (λ a. use_fault again a q.1 h.rows) (arg_by_id c q.0) []) p [] ≡ [] → AreFilled (settled_rows c p h.rows)
    by None none = filled
    by (Some p) none = by_id_filled again (arg_by_id c p.0) p.1 h.rows (found_fills _ c fills) none filled

reacted_filled : (c : List Rule) (again : Bool) (a : Rule) (values : List Text) (h : Held) → AreFilling c → Fills a → react_fault c again a values h ≡ [] → AreFilled h.rows
    → AreFilled (reacted c a values h).rows
reacted_filled c again a values h fills here none filled =
    let parts = or_else_none (settle_fault c again h) _ none in
    used_filled again a values (settled c h).rows here parts.1 (settled_filled c again h fills parts.0 filled)

option_filled : (c : List Rule) (again : Bool) (a : Rule) (given : Option Text) (h : Held) → AreFilling c → Fills a → option_fault c again a given h ≡ [] → AreFilled h.rows
    → AreFilled (option_met c a given h).0.rows
option_filled c again a (Some v) h fills here none filled = reacted_filled c again a (v ∷ []) h fills here none filled
option_filled c again a None h fills here none filled = settled_filled c again h fills none filled

long_filled : (c : List Rule) (again : Bool) (o : Option Rule) (given : Option Text) (h : Held) → AreFilling c → FillsIf o → long_fault c again o given h ≡ [] → AreFilled h.rows
    → AreFilled (long_met c o given h).0.rows
long_filled c again None given h fills here none filled = filled
long_filled c again (Some a) given h fills here none filled = by (takes_values a) given none
  where
    by : (b : Bool) (v : Option Text) → (if b then option_fault c again a v h else (if is_some v then TooManyValues ∷ [] else react_fault c again a [] h)) ≡ []
        → AreFilled (if b then option_met c a v h else flag_met c a v h).0.rows
    by true v none = option_filled c again a v h fills here none filled
    by false None none = reacted_filled c again a [] h fills here none filled
    by false (Some v) none = filled

short_filled : (c : List Rule) (again : Bool) (o : Option Rule) (rest : Text) (h : Held) (on : Held → Held × Outcome) (on_fault : Held → Kinds) → AreFilling c → FillsIf o
    → ((k : Held) → on_fault k ≡ [] → AreFilled k.rows → AreFilled (on k).0.rows) → short_fault c again o rest h on_fault ≡ [] → AreFilled h.rows → AreFilled (short_met c o rest h on).0.rows
short_filled c again None rest h on on_fault fills here goes none filled = filled
short_filled c again (Some a) rest h on on_fault fills here goes none filled = by (takes_values a) none
  where
    by : (b : Bool) → (if b then option_fault c again a (attached_value rest) h else or_else (react_fault c again a [] h) (on_fault (reacted c a [] h))) ≡ []
        → AreFilled (if b then option_met c a (attached_value rest) h else on (reacted c a [] h)).0.rows
    by true none = option_filled c again a (attached_value rest) h fills here none filled
    by false none =
        let parts = or_else_none (react_fault c again a [] h) _ none in
        goes (reacted c a [] h) parts.1 (reacted_filled c again a [] h fills here parts.0 filled)

bundle_filled : (c : List Rule) (again : Bool) → AreFilling c → (k : ℕ) (flags : Text) (skip : ℕ) (so_far : Outcome) (h : Held) → flags_fault c again k flags skip h ≡ [] → AreFilled h.rows
    → AreFilled (bundle_met c k flags skip so_far h).0.rows
unfolding bundle_met flags_fault
bundle_filled c again fills zero flags skip so_far h none filled = filled
bundle_filled c again fills (suc k) flags skip so_far h none filled = by (slice_get (chars flags) 0) skip none (bundle_filled c again fills k)
  where
    by : (o : Option ℕ) (n : ℕ) → bundle_step_fault c again o flags n h (flags_fault c again k) ≡ []
        → ((f : Text) (i : ℕ) (met : Outcome) (g : Held) → flags_fault c again k f i g ≡ [] → AreFilled g.rows → AreFilled (bundle_met c k f i met g).0.rows) → AreFilled (bundle_step c o flags n so_far h (bundle_met c k)).0.rows
    by None n none on = filled
    by (Some x) zero none on =
        short_filled c again (arg_by_short c x) (drop (length (encode_utf8 x)) flags) h (bundle_met c k (drop (length (encode_utf8 x)) flags) 0 done) (flags_fault c again k (drop (length (encode_utf8 x)) flags) 0)
        fills (found_fills _ c fills) (on (drop (length (encode_utf8 x)) flags) 0 done) none filled
    by (Some x) (suc n) none on = on (drop (length (encode_utf8 x)) flags) n so_far h none filled

plain_filled : (c : List Rule) (waiting : Waiting) (word : Text) (h : Held) → AreFilled h.rows → AreFilled (plain_word c waiting word h).0.rows
plain_filled c (option id) word h filled = by (arg_by_id c id)
  where
    by : (o : Option Rule) → AreFilled (option_word o id word h).0.rows
    by None = filled
    by (Some a) = filled
plain_filled c idle word h filled = filled
plain_filled c positional word h filled = filled

flag_filled : (c : List Rule) (waiting : Waiting) (word : Text) (h : Held) (outcome : Outcome) → AreFilled h.rows → AreFilled (after_flag c waiting word h outcome).0.rows
flag_filled c waiting word h done filled = filled
flag_filled c waiting word h (waits id) filled = filled
flag_filled c waiting word h plain filled = plain_filled c waiting word h filled
flag_filled c waiting word h refused filled = plain_filled c waiting word h filled

flag_word_filled : (c : List Rule) (again : Bool) (waiting : Waiting) (word : Text) (flag : Option (Text × Option Text)) (h : Held) → AreFilling c
    → flag_word_fault c again flag word h ≡ [] → AreFilled h.rows → AreFilled (long_or_other c waiting word flag h).0.rows
flag_word_filled c again waiting word (Some p) h fills none filled =
    flag_filled c waiting word (long_met c (arg_by_long c p.0) p.1 h).0 (long_met c (arg_by_long c p.0) p.1 h).1
    (long_filled c again (arg_by_long c p.0) p.1 h fills (found_fills _ c fills) none filled)
flag_word_filled c again waiting word None h fills none filled = by (short_of word) none
  where
    by : (flags : Option Text) → option_map_or (λ f. bundle_fault c again f h) flags [] ≡ [] → AreFilled (short_or_plain c waiting word flags h).0.rows
    by None none = plain_filled c waiting word h filled
    by (Some flags) none =
        flag_filled c waiting word (bundle c flags h).0 (bundle c flags h).1
        (bundle_filled c again fills (length flags) flags h.skip plain (record h { skip = 0 }) none filled)

other_filled : (s : Shape) (met : Option Text) (waiting : Waiting) (position : ℕ) (word : Text) (h : Held) → AreFilling s.rules → other_fault s met word h ≡ [] → AreFilled h.rows
    → AreFilled (subcommand_or_other s.rules met waiting position word h).0.rows
other_filled s (Some name) waiting position word h fills none filled = filled
other_filled s None waiting position word h fills none filled = by (bytes_eq word (45 ∷ 45 ∷ [])) none
  where
    by : (b : Bool) → (if b then [] else flag_word_fault s.rules s.args_override_self (long_of word) word h) ≡ []
        → AreFilled (if b then (h, trailing position) else long_or_other s.rules waiting word (long_of word) h).0.rows
    by true none = filled
    by false none = flag_word_filled s.rules s.args_override_self waiting word (long_of word) h fills none filled

word_filled : (s : Shape) (names : Names) (is_trailing : Bool) (waiting : Waiting) (position : ℕ) (word : Text) (h : Held) → AreFilling s.rules
    → word_fault s names is_trailing waiting word h ≡ [] → AreFilled h.rows → AreFilled (word_met s.rules names is_trailing waiting position word h).0.rows
word_filled s names true waiting position word h fills none filled = filled
word_filled s names false waiting position word h fills none filled = other_filled s (subcommand_met names waiting word) waiting position word h fills none filled

held_filled : (c : List Rule) (again : Bool) (a : Rule) (h : Held) (word : Text) → AreFilling c → positional_fault c again a h ≡ [] → AreFilled h.rows → AreFilled (positional_held c a word h).rows
held_filled c again a h word fills none filled = by (is_pending a h.pending && takes_several a) none
  where
    by : (b : Bool) → (if b then [] else settle_fault c again h) ≡ [] → AreFilled (if b then h else settled c h).rows
    by true none = filled
    by false none = settled_filled c again h fills none filled

step_filled : (s : Shape) (word : Text) (w : Walk) (h : Held) (step : Step) → AreFilling s.rules → step_fault s w.position h step ≡ [] → AreFilled h.rows
    → AreFilled (after_step s.rules word w h step).held.rows
step_filled s word w h (next waiting) fills none filled = filled
step_filled s word w h (trailing position) fills none filled = filled
step_filled s word w h (subcommand name) fills none filled = filled
step_filled s word w h value fills none filled = by (arg_by_index s.rules w.position) none
  where
    by : (o : Option Rule) → option_map_or (λ a. positional_fault s.rules s.args_override_self a h) o (stray_fault s) ≡ [] → AreFilled (to_positional s.rules o word w h).held.rows
    by None none = filled
    by (Some a) none = held_filled s.rules s.args_override_self a h word fills none filled

turn_filled : (s : Shape) (names : Names) (stop : Option (Text × List Text)) (w : Walk) (word : Text) → AreFilling s.rules
    → (if is_some stop then [] else or_else (word_fault s names w.is_trailing w.waiting word w.held)
    (step_fault s w.position (word_met s.rules names w.is_trailing w.waiting w.position word w.held).0 (word_met s.rules names w.is_trailing w.waiting w.position word w.held).1)) ≡ []
    → AreFilled w.held.rows → AreFilled (walked_from s.rules names stop w word).held.rows
turn_filled s names (Some p) w word fills none filled = filled
turn_filled s names None w word fills none filled =
    let parts = or_else_none (word_fault s names w.is_trailing w.waiting word w.held) _ none in
    let met = word_met s.rules names w.is_trailing w.waiting w.position word w.held in
    step_filled s word w met.0 met.1 fills parts.1 (word_filled s names w.is_trailing w.waiting w.position word w.held fills parts.0 filled)

walk_filled : (s : Shape) (names : Names) → AreFilling s.rules → (words : List Text) (w : Walk) → walk_fault s names w words ≡ [] → AreFilled w.held.rows
    → AreFilled (fold (walked s.rules names) w words).held.rows
unfolding walked walk_fault
walk_filled s names fills [] w none filled = filled
walk_filled s names fills (word ∷ rest) w none filled =
    let parts = or_else_none (turn_fault s names w word) _ none in
    walk_filled s names fills rest (walked s.rules names w word) parts.1 (turn_filled s names w.stopped w word fills parts.0 filled)

-- ---- after the walk

not_empty : (v : Text) (vs : List Text) → is_empty (v ∷ vs) ≡ false
not_empty v vs = ne_eqb (length (v ∷ vs)) 0 (λ e. omega (arith, e))

default_filled : (a : Rule) (rows : List Row) → Fills a → default_fault rows a ≡ [] → AreFilled rows → AreFilled (with_default rows a)
default_filled a rows fills none filled = by (has_row a.id rows) a.defaults none
  where
    by : (b : Bool) (values : List Text) → (if b || is_empty values then [] else or_else (request_kinds (action_of a)) (values_kinds a.ignore_case (parser_of_value a.parser) values)) ≡ []
        → AreFilled (if b then rows else default_rows a.id (reading_by a) values rows)
    by true values none = filled
    by false [] none = filled
    by false (v ∷ vs) none =
        let some : or_else (request_kinds (action_of a)) (values_kinds a.ignore_case (parser_of_value a.parser) (v ∷ vs)) ≡ [] =
        subst (λ (b : Bool). (if b then [] else or_else (request_kinds (action_of a)) (values_kinds a.ignore_case (parser_of_value a.parser) (v ∷ vs))) ≡ []) (not_empty v vs) none in
        with_values_filled a.id (reading_by a) DefaultValue v vs rows (ap reading_of fills.2)
        (rule_passes a (v ∷ vs) fills.1 fills.2 (or_else_none (request_kinds (action_of a)) _ some).1) filled

defaults_filled : (c : List Rule) (rows : List Row) → AreFilling c → defaults_fault rows c ≡ [] → AreFilled rows → AreFilled (fold with_default rows c)
unfolding defaults_fault
defaults_filled [] rows fills none filled = filled
defaults_filled (a ∷ rest) rows fills none filled =
    let parts = or_else_none (default_fault rows a) _ none in
    defaults_filled rest (with_default rows a) fills.1 parts.1 (default_filled a rows fills.0 parts.0 filled)

-- the rows of a level whose words have no fault have a value each, and pass the last check
pub level_filled : (s : Shape) (names : Names) (words : List Text) (has_subcommand : Bool) (below : Kinds) → AreFilling s.rules → level_fault s names nothing_held words has_subcommand below ≡ []
    → AreFilled (finished s.rules (walk s.rules names nothing_held words).held)
    × (check_fault s (finished s.rules (walk s.rules names nothing_held words).held) has_subcommand ≡ [])
level_filled s names words has_subcommand below fills none =
    let ended = walk s.rules names nothing_held words in
    let walking = or_else_none (walk_fault s names (walk_from nothing_held) words) _ none in
    let entering = or_else_none below _ walking.1 in
    let settling = or_else_none (settle_fault s.rules s.args_override_self ended.held) _ entering.1 in
    let filling = or_else_none (defaults_fault (settled s.rules ended.held).rows s.rules) _ settling.1 in
    let rows = walk_filled s names fills words (walk_from nothing_held) walking.0 tt in
    (defaults_filled s.rules (settled s.rules ended.held).rows fills filling.0 (settled_filled s.rules s.args_override_self ended.held fills settling.0 rows), filling.1)

-- ---- what is required

-- an argument with this id is required
abbrev pub Requires : Text → List Rule → Type 0
Requires id [] = ⊥
Requires id (a ∷ rest) = ((a.required ≡ true) × (a.id ≡ id)) ⊎ Requires id rest

no_argument_wanted : (help sub arg : Bool) → check_kinds help sub arg ≡ [] → arg ≡ false
no_argument_wanted true sub arg none = absurd (some_kinds _ _ none)
no_argument_wanted false true arg none = absurd (some_kinds _ _ none)
no_argument_wanted false false true none = absurd (some_kinds _ _ none)
no_argument_wanted false false false none = refl

none_of : (p q : Bool) → (p || q) ≡ false → (p ≡ false) × (q ≡ false)
none_of false q none = (refl, none)
none_of true q none = let bad : true ≡ false = none in absurd (search rules)

given_if : (rows : List Row) (rules : List Rule) (id : Text) → Requires id rules → list_any (λ a. a.required && not (is_given a.id rows)) rules ≡ false → is_given id rows ≡ true
given_if rows [] id wanted none = absurd wanted
given_if rows (a ∷ rest) id wanted none =
    let parts = none_of (a.required && not (is_given a.id rows)) _ none in
    elim wanted [
      | inl here ↦ subst (λ t. is_given t rows ≡ true) here.1 (by a.required (is_given a.id rows) here.0 parts.0)
      | inr there ↦ given_if rows rest id there parts.1
    ]
  where
    by : (needs has : Bool) → needs ≡ true → (needs && not has) ≡ false → has ≡ true
    by needs true is none = refl
    by true false is none = let bad : true ≡ false = none in absurd (search rules)
    by false false is none = is

-- the rows have a value of the id, which its parser passes and reads
abbrev pub HasValue : Text → List Row → Type 0
HasValue id rows =
    (v : Text) × (first_of id rows ≡ Some v)
    × (one_of id rows ≡ Some (read_as (reading_of (parser_for id)) v))
    × (accepts false (parser_for id) v ≡ true)

has_value : (id : Text) (rows : List Row) → AreFilled rows → is_given id rows ≡ true → HasValue id rows
has_value id [] filled given = let bad : false ≡ true = given in absurd (search rules)
has_value id (r ∷ rs) filled given = by (bytes_eq r.id id) refl (has_value id rs filled.1) given
  where
    first : (r : Row) → IsFilled r → r.id ≡ id
        → (v : Text) × (slice_get r.values 0 ≡ Some v) × (row_text r ≡ Some (read_as (reading_of (parser_for id)) v)) × (accepts false (parser_for id) v ≡ true)
    first r has same = of r.values refl has.0 (subst (λ (t : Text). PassAll (parser_for t) r.values) same has.1) (has.2 ∙ ap (λ (t : Text). reading_of (parser_for t)) same)
      where
        of : (values : List Text) → r.values ≡ values → HasText values → PassAll (parser_for id) values → r.reading ≡ reading_of (parser_for id)
            → (v : Text) × (slice_get values 0 ≡ Some v) × (option_map (read_as r.reading) (slice_get values 0) ≡ Some (read_as (reading_of (parser_for id)) v)) × (accepts false (parser_for id) v ≡ true)
        of [] is some passed reads = absurd some
        of (v ∷ vs) is some passed reads = (v, refl, ap (λ (how : Reading). Some (read_as how v)) reads, passed.0)

    by : (b : Bool) → bytes_eq r.id id ≡ b → (is_given id rs ≡ true → HasValue id rs)
        → option_map_or (λ q. explicit_source q.source) (if b then Some r else find (λ q. bytes_eq q.id id) rs) false ≡ true
        → (v : Text) × (option_and_then (λ q. slice_get q.values 0) (if b then Some r else find (λ q. bytes_eq q.id id) rs) ≡ Some v)
        × (option_and_then row_text (if b then Some r else find (λ q. bytes_eq q.id id) rs) ≡ Some (read_as (reading_of (parser_for id)) v)) × (accepts false (parser_for id) v ≡ true)
    by true is rest given = first r filled.0 ((bytes_eq-Decides r.id id).0 is)
    by false is rest given = rest given

-- a required argument of a command without a subcommand, whose words have no fault, has a value
pub required_value : (s : Shape) (names : Names) (words : List Text) (below : Kinds) (id : Text) → AreFilling s.rules → Requires id s.rules → s.subcommand_negates_reqs ≡ false
    → level_fault s names nothing_held words false below ≡ [] → HasValue id (finished s.rules (walk s.rules names nothing_held words).held)
required_value s names words below id fills wanted negates none =
    let rows = finished s.rules (walk s.rules names nothing_held words).held in
    let level = level_filled s names words false below fills none in
    let all : list_any (λ a. a.required && not (is_given a.id rows)) s.rules ≡ false =
    subst (λ b. (not (b && false) && list_any (λ a. a.required && not (is_given a.id rows)) s.rules) ≡ false) negates (no_argument_wanted _ _ _ level.1) in
    has_value id rows level.0 (given_if rows s.rules id wanted all)
