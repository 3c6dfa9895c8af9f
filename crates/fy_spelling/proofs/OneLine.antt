-- a line comes to one thing
use Rattle.std.proofs.Common.{◌≡◌, ℕ, ◌≤◌, List, Option, Some, None, Result, Ok, Err, refl, sym, ap, subst, ◌∙◌, arith}
use Rattle.serde_json.specs.Data.{Data}
use Rattle.fy_kinds.specs.Kinds.{rank}
use Rattle.fy_kinds.specs.declared.kind.Kind.{Kind}
use Rattle.fy_kinds.specs.declared.order.Target.{Target}
use Rattle.fy_spelling.specs.Candidate.{command_from}
use Rattle.fy_spelling.specs.Command.{asking, ParsesAs, ParsesAsInverted, LineOf}
use Rattle.fy_spelling.specs.Values.{act_listing}
use Rattle.fy_acts.specs.declared.act.Act.{Act}
use Rattle.fy_acts.specs.declared.act.Act.TheVariants.{Kill, Clog, Unclog, Form, Begin, Deliver, Lose, Resend, Sync, Up, Tick, Give, Take, Protect, Unprotect, CopyTo, Replace, Heal}
use Rattle.fy_spelling.specs.declared.command.Command.{Command}
use Rattle.fy_spelling.specs.declared.command.LineFault.{LineFault}
use Rattle.fy_spelling.specs.declared.command.LineFault.TheVariants.{TooLong, Syntax, Floor}
use Rattle.fy_spelling.specs.declared.reading.UncheckedAct.{UncheckedAct}
use Rattle.fy_spelling.specs.declared.reading.UncheckedAct.TheVariants.{Order, Other}
use Rattle.fy_spelling.proofs.Again.{found_as, command-again, inverted-again}
use Rattle.fy_spelling.proofs.Lines.{one_value}
use Rattle.fy_spelling.proofs.Round.{found_once}

-- who asked, and for what
abbrev by_of : Option (ℕ × UncheckedAct) → ℕ
by_of (Some p) = p.0
by_of None = 0

abbrev asked_of : UncheckedAct → Option (ℕ × UncheckedAct) → UncheckedAct
asked_of other (Some p) = p.1
asked_of other None = other

-- what is found of a line that spells a command
found : (line : List ℕ) (d : Data) (command : Command) (spells : ParsesAs line command) →
    d ≡ asking command.by (act_listing spells.kinds command.act) →
    command_from d ≡ Some (command.by, found_as command.act)
found line d command spells is =
    ap command_from is
    ∙ command-again command.by spells.kinds command.act spells.same spells.by spells.act

-- a line spells one command
spelled_once : (line : List ℕ) (a b : Command) → ParsesAs line a → ParsesAs line b → a ≡ b
spelled_once line a b first second =
    let value = one_value line _ _ first.json second.json in
    let here = found line _ a first refl in
    let there = found line _ b second value in
    let same : Some (a.by, found_as a.act) ≡ Some (b.by, found_as b.act) = sym here ∙ there in
    let by : a.by ≡ b.by = ap by_of same in
    let act : a.act ≡ b.act = found_once a.act b.act (ap (asked_of (found_as a.act)) same) in
    λ i. record { by = by i; act = act i }

-- no act's floor is above its kind
ordered : (act : Act) (target : Target) (kind floor : Kind) (tear : ℕ) →
    found_as act ≡ Order target kind floor tear → rank floor ≤ rank kind
ordered (Kill order) target kind floor tear is = ordered_as order.kind order.floor order.ordered kind floor is
  where
    kind_of : UncheckedAct → Kind
    kind_of (Order t k f n) = k
    kind_of (Other a) = order.kind

    floor_of : UncheckedAct → Kind
    floor_of (Order t k f n) = f
    floor_of (Other a) = order.floor

    ordered_as : (k f : Kind) → rank f ≤ rank k → (l g : Kind) →
        Order order.target order.kind order.floor order.tear ≡ Order target l g tear → rank g ≤ rank l
    ordered_as k f below l g same =
        subst (λ x. rank x ≤ rank l) (ap floor_of same)
        (subst (λ x. rank order.floor ≤ rank x) (ap kind_of same) order.ordered)
ordered (Clog t ticks) target kind floor tear is = absurd (let no : ⊥ = cc in no)
ordered (Unclog t) target kind floor tear is = absurd (let no : ⊥ = cc in no)
ordered (Form members policy) target kind floor tear is = absurd (let no : ⊥ = cc in no)
ordered (Begin team payload) target kind floor tear is = absurd (let no : ⊥ = cc in no)
ordered (Deliver message) target kind floor tear is = absurd (let no : ⊥ = cc in no)
ordered (Lose message) target kind floor tear is = absurd (let no : ⊥ = cc in no)
ordered (Resend rec process) target kind floor tear is = absurd (let no : ⊥ = cc in no)
ordered (Sync process) target kind floor tear is = absurd (let no : ⊥ = cc in no)
ordered (Up process) target kind floor tear is = absurd (let no : ⊥ = cc in no)
ordered (Tick ticks) target kind floor tear is = absurd (let no : ⊥ = cc in no)
ordered (Give grant) target kind floor tear is = absurd (let no : ⊥ = cc in no)
ordered (Take actor index) target kind floor tear is = absurd (let no : ⊥ = cc in no)
ordered (Protect process kinds) target kind floor tear is = absurd (let no : ⊥ = cc in no)
ordered (Unprotect process kinds) target kind floor tear is = absurd (let no : ⊥ = cc in no)
ordered (CopyTo from rec to) target kind floor tear is = absurd (let no : ⊥ = cc in no)
ordered (Replace team out into) target kind floor tear is = absurd (let no : ⊥ = cc in no)
ordered (Heal process) target kind floor tear is = absurd (let no : ⊥ = cc in no)

-- a line that spells a command spells no floor above its kind
not_inverted : (line : List ℕ) (command : Command) → ParsesAs line command → ParsesAsInverted line → ⊥
not_inverted line command first second =
    let value = one_value line _ _ second.json first.json in
    let here = found line _ command first value in
    let there =
    inverted-again second.actor second.target second.kind second.floor second.tear second.by
    second.fits.0 second.fits.1 in
    let same : Some (command.by, found_as command.act)
    ≡ Some (second.actor, Order second.target second.kind second.floor second.tear) = sym here ∙ there in
    let below =
    ordered command.act second.target second.kind second.floor second.tear
    (ap (asked_of (found_as command.act)) same) in
    let above = second.above in
    omega arith

pub line_once : (line : List ℕ) (x y : Result Command LineFault) → LineOf line x → LineOf line y → x ≡ y
line_once line (Ok a) (Ok b) p q = ap Ok (spelled_once line a b p.1 q.1)
line_once line (Ok a) (Err TooLong) p q = absurd (omega (arith, p.0, q))
line_once line (Ok a) (Err Syntax) p q = absurd (q.1 a p.1)
line_once line (Ok a) (Err Floor) p q = absurd (not_inverted line a p.1 q.1)
line_once line (Err TooLong) (Ok b) p q = absurd (omega (arith, q.0, p))
line_once line (Err TooLong) (Err TooLong) p q = refl
line_once line (Err TooLong) (Err Syntax) p q = absurd (omega (arith, q.0, p))
line_once line (Err TooLong) (Err Floor) p q = absurd (omega (arith, q.0, p))
line_once line (Err Syntax) (Ok b) p q = absurd (p.1 b q.1)
line_once line (Err Syntax) (Err TooLong) p q = absurd (omega (arith, p.0, q))
line_once line (Err Syntax) (Err Syntax) p q = refl
line_once line (Err Syntax) (Err Floor) p q = absurd (p.2 q.1)
line_once line (Err Floor) (Ok b) p q = absurd (not_inverted line b q.1 p.1)
line_once line (Err Floor) (Err TooLong) p q = absurd (omega (arith, p.0, q))
line_once line (Err Floor) (Err Syntax) p q = absurd (q.2 p.1)
line_once line (Err Floor) (Err Floor) p q = refl
