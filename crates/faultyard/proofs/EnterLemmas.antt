-- Words without a fault enter a subcommand where the command wants one: one that its caller added,
-- as `help` answers in place of the parse. This holds of any command whose subcommands have none.
use Rattle.std.proofs.Common.{rules, ◌≡◌, ◌∙◌, ◌⊎◌, ◌||◌, ◌&&◌, not, inl, inr, Bool, true, false, List, [], ◌∷◌, Option, None, Some, codes, refl, sym, ap, is_some, fold}
use Rattle.std.specs.Prelude.{if◌then◌else◌, find, option_map}
use Rattle.std.specs.Option.{option_map_or}
use Rattle.std.specs.List.{list_any}
use Rattle.std.specs.Str.{bytes_eq}
use Rattle.std.proofs.lemmas.Slice.Eq.{bytes_eq-Decides}
use Rattle.clap.specs.Words.{App, Row, Rule, Shape, Text, fault_of, subcommand_of}
use Rattle.clap.specs.Walk.{Held, Names, Outcome, Step, Waiting, Walk, after_flag, after_step, answers_to, arg_by_index, arg_by_long, bundle, done, finished, idle, long_met, long_or_other, next, nothing_held, option, plain, plain_word, positional, refused, settled, short_or_plain, subcommand, subcommand_met, subcommand_or_other, to_positional, trailing, value, waits, walk, walk_from, walked, walked_from, word_met}
use Rattle.clap.specs.Simple.{argument_words, built, entered, label_of, names_of, rows_at}
use Rattle.clap.specs.Lexer.{long_of, short_of}
use Rattle.clap.specs.Kinds.{Kinds, check_kinds}
use Rattle.clap.specs.Faults.{check_fault, defaults_fault, entered_fault, level_fault, other_fault, settle_fault, turn_fault, walk_fault, word_fault}
use Rattle.clap.specs.declared.error.kind.ErrorKind.TheVariants.{DisplayHelp, InvalidSubcommand}
use Rattle.faultyard.proofs.RowLemmas.{or_else_none, some_kinds}

-- ---- no word but a subcommand's name stops the walk

abbrev NoSubcommand : Step → Type 0
NoSubcommand (subcommand name) = ⊥
NoSubcommand _ = Unit {0}

plain_goes_on : (c : List Rule) (waiting : Waiting) (word : Text) (h : Held) → NoSubcommand (plain_word c waiting word h).1
plain_goes_on c (option id) word h = tt
plain_goes_on c idle word h = tt
plain_goes_on c positional word h = tt

flag_goes_on : (c : List Rule) (waiting : Waiting) (word : Text) (h : Held) (outcome : Outcome) → NoSubcommand (after_flag c waiting word h outcome).1
flag_goes_on c waiting word h done = tt
flag_goes_on c waiting word h (waits id) = tt
flag_goes_on c waiting word h plain = plain_goes_on c waiting word h
flag_goes_on c waiting word h refused = plain_goes_on c waiting word h

long_goes_on : (c : List Rule) (waiting : Waiting) (word : Text) (flag : Option (Text × Option Text)) (h : Held) → NoSubcommand (long_or_other c waiting word flag h).1
long_goes_on c waiting word (Some p) h = flag_goes_on c waiting word (long_met c (arg_by_long c p.0) p.1 h).0 (long_met c (arg_by_long c p.0) p.1 h).1
long_goes_on c waiting word None h = short_goes_on (short_of word)
  where
    short_goes_on : (flags : Option Text) → NoSubcommand (short_or_plain c waiting word flags h).1
    short_goes_on (Some flags) = flag_goes_on c waiting word (bundle c flags h).0 (bundle c flags h).1
    short_goes_on None = plain_goes_on c waiting word h

-- ---- the walk does not stop at `help`

abbrev IsNoHelp : Option (Text × List Text) → Type 0
IsNoHelp stop = option_map_or (λ p. bytes_eq p.0 (codes "help")) stop false ≡ false

no_stop : (stop : Option (Text × List Text)) → stop ≡ None → IsNoHelp stop
no_stop None is = refl
no_stop (Some p) is = let bad : true ≡ false = ap is_some is in absurd (search rules)

positional_stays : (c : List Rule) (a : Option Rule) (word : Text) (w : Walk) (h : Held) → w.stopped ≡ None → IsNoHelp (to_positional c a word w h).stopped
positional_stays c None word w h is = no_stop w.stopped is
positional_stays c (Some a) word w h is = refl

step_stays : (c : List Rule) (word : Text) (w : Walk) (h : Held) (step : Step) → NoSubcommand step → w.stopped ≡ None → IsNoHelp (after_step c word w h step).stopped
step_stays c word w h (next waiting) goes is = no_stop w.stopped is
step_stays c word w h (trailing position) goes is = no_stop w.stopped is
step_stays c word w h (subcommand name) goes is = absurd goes
step_stays c word w h value goes is = positional_stays c (arg_by_index c w.position) word w h is

-- `help` answers with a fault
help_is_refused : (s : Shape) (name word : Text) (h : Held) → s.disable_help_subcommand ≡ false → other_fault s (Some name) word h ≡ [] → bytes_eq name (codes "help") ≡ false
help_is_refused s name word h has_help none = by (bytes_eq name (codes "help")) s.disable_help_subcommand has_help none
  where
    by : (is_help off : Bool) → off ≡ false → (if is_help && not off then DisplayHelp ∷ InvalidSubcommand ∷ [] else []) ≡ [] → is_help ≡ false
    by false off on none = refl
    by true false on none = absurd (some_kinds _ _ none)
    by true true on none = on

met_stays : (s : Shape) (met : Option Text) (word : Text) (w : Walk) → s.disable_help_subcommand ≡ false → other_fault s met word w.held ≡ [] → w.stopped ≡ None
    → IsNoHelp (after_step s.rules word w (subcommand_or_other s.rules met w.waiting w.position word w.held).0 (subcommand_or_other s.rules met w.waiting w.position word w.held).1).stopped
met_stays s (Some name) word w has_help none is = help_is_refused s name word w.held has_help none
met_stays s None word w has_help none is = dashes (bytes_eq word (45 ∷ 45 ∷ []))
  where
    dashes : (b : Bool) → IsNoHelp (after_step s.rules word w
        (if b then (w.held, trailing w.position) else long_or_other s.rules w.waiting word (long_of word) w.held).0
        (if b then (w.held, trailing w.position) else long_or_other s.rules w.waiting word (long_of word) w.held).1).stopped
    dashes true = no_stop w.stopped is
    dashes false = step_stays s.rules word w (long_or_other s.rules w.waiting word (long_of word) w.held).0 (long_or_other s.rules w.waiting word (long_of word) w.held).1
        (long_goes_on s.rules w.waiting word (long_of word) w.held) is

word_stays : (s : Shape) (names : Names) (is_trailing : Bool) (word : Text) (w : Walk) → s.disable_help_subcommand ≡ false → word_fault s names is_trailing w.waiting word w.held ≡ [] → w.stopped ≡ None
    → IsNoHelp (after_step s.rules word w (word_met s.rules names is_trailing w.waiting w.position word w.held).0 (word_met s.rules names is_trailing w.waiting w.position word w.held).1).stopped
word_stays s names true word w has_help none is = positional_stays s.rules (arg_by_index s.rules w.position) word w w.held is
word_stays s names false word w has_help none is = met_stays s (subcommand_met names w.waiting word) word w has_help none is

going_on : (stop : Option (Text × List Text)) (kinds : Kinds) → stop ≡ None → (if is_some stop then [] else kinds) ≡ [] → kinds ≡ []
going_on None kinds is none = none
going_on (Some p) kinds is none = let bad : true ≡ false = ap is_some is in absurd (search rules)

turn_stays : (s : Shape) (names : Names) (stop : Option (Text × List Text)) (word : Text) (w : Walk) → s.disable_help_subcommand ≡ false → w.stopped ≡ stop → IsNoHelp stop
    → turn_fault s names w word ≡ [] → IsNoHelp (walked_from s.rules names stop w word).stopped
turn_stays s names (Some p) word w has_help is stays none = stays
turn_stays s names None word w has_help is stays none =
    word_stays s names w.is_trailing word w has_help (or_else_none _ _ (going_on w.stopped _ is none)).0 is

walk_stays : (s : Shape) (names : Names) (words : List Text) (w : Walk) → s.disable_help_subcommand ≡ false → IsNoHelp w.stopped → walk_fault s names w words ≡ []
    → IsNoHelp (fold (walked s.rules names) w words).stopped
unfolding walked walk_fault
walk_stays s names [] w has_help stays none = stays
walk_stays s names (word ∷ rest) w has_help stays none =
    let parts = or_else_none _ _ none in
    walk_stays s names rest (walked s.rules names w word) has_help (turn_stays s names w.stopped word w has_help refl stays parts.0) parts.1

-- ---- the subcommand that is entered

-- the shape is one of these
abbrev pub IsIn : Shape → List Shape → Type 0
IsIn s [] = ⊥
IsIn s (x ∷ xs) = (s ≡ x) ⊎ IsIn s xs

-- the first of the shapes that passes a test is one of them, and passes it
found_in : (p : Shape → Bool) (xs : List Shape) (s : Shape) → find p xs ≡ Some s → IsIn s xs × (p s ≡ true)
found_in p [] s is = let bad : false ≡ true = ap is_some is in absurd (search rules)
found_in p (x ∷ xs) s is = by (p x) refl (found_in p xs s) is
  where
    by : (b : Bool) → p x ≡ b → (find p xs ≡ Some s → IsIn s xs × (p s ≡ true)) → (if b then Some x else find p xs) ≡ Some s → IsIn s (x ∷ xs) × (p s ≡ true)
    by true passes rest is =
        let same : s ≡ x = search rules in
        (inl same, ap p same ∙ passes)
    by false passes rest is = let found = rest is in (inr found.0, found.1)

-- a subcommand `s` of the command is entered with words that it finds no fault with, and it is not
-- the one that answers to `help` alone
pub record Enters (a : App) (met : Option (Text × List Row)) : Type 0 where
  pub shape : Shape
  pub words : List Text
  pub is : met ≡ Some (rows_at shape words)
  pub known : IsIn shape a.subs
  pub other : shape.name ≡ codes "help" → shape.aliases ≡ [] → ⊥
  pub faultless : level_fault shape [] nothing_held words false [] ≡ []

no_subcommand : (help sub arg : Bool) → sub ≡ true → check_kinds help sub arg ≡ [] → ⊥
no_subcommand true sub arg wanted none = some_kinds _ _ none
no_subcommand false true arg wanted none = some_kinds _ _ none
no_subcommand false false arg wanted none = let bad : false ≡ true = wanted in absurd (search rules)

no_help : (name : Text) (s : Shape) → bytes_eq name (codes "help") ≡ false → answers_to name (label_of s) ≡ true → s.name ≡ codes "help" → s.aliases ≡ [] → ⊥
no_help name s differs answers is none =
    let here : (bytes_eq (codes "help") name || false) ≡ true = (λ i. (bytes_eq (sym is i) name || list_any (λ alias. bytes_eq alias name) (sym none i))) ∙ answers in
    by (bytes_eq (codes "help") name) refl here
  where
    by : (b : Bool) → bytes_eq (codes "help") name ≡ b → (b || false) ≡ true → ⊥
    by true same here =
        let named : codes "help" ≡ name = (bytes_eq-Decides (codes "help") name).0 same in
        let bad : true ≡ false = sym ((bytes_eq-Decides name (codes "help")).1 (sym named)) ∙ differs in
        absurd (search rules)
    by false same here = let bad : false ≡ true = here in absurd (search rules)

enters : (a : App) (stop : Option (Text × List Text)) (rows : List Row) → a.top.subcommand_required ≡ true → IsNoHelp stop → entered_fault a stop ≡ []
    → check_fault a.top rows (is_some (entered a stop)) ≡ [] → Enters a (entered a stop)
enters a None rows wanted stays below none = absurd (no_subcommand _ _ _ wanted none)
enters a (Some p) rows wanted stays below none = by (find (λ s. answers_to p.0 (label_of s)) a.subs) refl below none
  where
    by : (o : Option Shape) → find (λ s. answers_to p.0 (label_of s)) a.subs ≡ o → option_map_or (λ s. level_fault s [] nothing_held p.1 false []) o [] ≡ []
        → check_fault a.top rows (is_some (option_map (λ s. rows_at s p.1) o)) ≡ [] → Enters a (option_map (λ s. rows_at s p.1) (find (λ s. answers_to p.0 (label_of s)) a.subs))
    by None is below none = absurd (no_subcommand _ _ _ wanted none)
    by (Some s) is below none =
        let found = found_in (λ t. answers_to p.0 (label_of t)) a.subs s is in
        record {
          shape = s;
          words = p.1;
          is = ap (option_map (λ t. rows_at t p.1)) is;
          known = found.0;
          other = no_help p.0 s stays found.1;
          faultless = below;
        }

-- a command that wants a subcommand, and has `help`, enters one by words without a fault
pub words_enter : (command : App) (words : List Text) → (built command).top.subcommand_required ≡ true → (built command).top.disable_help_subcommand ≡ false
    → fault_of command words ≡ [] → Enters (built command) (subcommand_of command words)
words_enter command words wanted has_help none =
    let whole = built command in
    let names = names_of whole in
    let given = argument_words command words in
    let ended = walk whole.top.rules names nothing_held given in
    let walking = or_else_none (walk_fault whole.top names (walk_from nothing_held) given) _ none in
    let entering = or_else_none (entered_fault whole ended.stopped) _ walking.1 in
    let settling = or_else_none (settle_fault whole.top.rules whole.top.args_override_self ended.held) _ entering.1 in
    let filling = or_else_none (defaults_fault (settled whole.top.rules ended.held).rows whole.top.rules) _ settling.1 in
    enters whole ended.stopped (finished whole.top.rules ended.held) wanted
    (walk_stays whole.top names given (walk_from nothing_held) has_help refl walking.0) entering.0 filling.1
