-- what a line comes to, by what is found in its value
use Rattle.std.proofs.Common.{◌≡◌, ℕ, ◌≤◌, List, [], length, codes, Some, None, Ok, Err, refl, sym, ap, subst, ◌∙◌}
use Rattle.serde_json.specs.Data.{Data}
use Rattle.fy_spelling.specs.Candidate.{command_from, IsCheckedAct}
use Rattle.fy_spelling.specs.Command.{asking, IsJson, ParsesAs, LineOf}
use Rattle.fy_spelling.specs.Fits.{FitsTarget, IsU64}
use Rattle.fy_spelling.specs.Values.{under, order_value}
use Rattle.fy_acts.specs.declared.act.Act.{Act}
use Rattle.fy_spelling.specs.declared.command.LineFault.{LineFault}
use Rattle.fy_spelling.specs.declared.command.LineFault.TheVariants.{Syntax}
use Rattle.fy_spelling.specs.declared.command.TheConstants.{MOST_LINE_BYTES}
use Rattle.fy_spelling.specs.declared.reading.UncheckedAct.{UncheckedAct}
use Rattle.fy_spelling.specs.declared.reading.UncheckedAct.TheVariants.{Order, Other}
use Rattle.fy_spelling.proofs.Again.{command-again, inverted-again}
use Rattle.fy_spelling.proofs.Listing.{Lists, IsFor, told_command}

-- an act that its value lists
listed : (value : Data) (asked : UncheckedAct) (checked_act : Act) → IsFor value asked → IsCheckedAct asked (Ok checked_act) → Lists value checked_act
listed value (Other asked) checked_act is e = let same : asked ≡ checked_act = cc in subst (Lists value) same is
listed value (Order target kind floor tear) checked_act is k =
    subst (Lists value) (sym k.is)
    (record {
      kinds = [];
      same = refl;
      fits = (subst FitsTarget (sym k.target_is) is.0, subst IsU64 (sym k.tear_is) is.1);
      is = is.2 ∙ sym (λ i. under (codes "kill") (order_value (k.target_is i) (k.kind_is i) (k.floor_is i) (k.tear_is i)));
    })

pub spelled :
    (line : List ℕ) (d : Data) (by : ℕ) (asked : UncheckedAct) (checked_act : Act) → IsJson line d
    → command_from d ≡ Some (by, asked) → IsCheckedAct asked (Ok checked_act)
    → ParsesAs line (record { by = by; act = checked_act })
spelled line d by asked checked_act json found is =
    let told = told_command d by asked found in
    let lists = listed told.value asked checked_act told.act is in
    record {
      kinds = lists.kinds;
      same = lists.same;
      by = told.by;
      act = lists.fits;
      json = subst (IsJson line) (told.is ∙ ap (asking by) lists.is) json;
    }

pub inverted :
    (line : List ℕ) (d : Data) (by : ℕ) (asked : UncheckedAct) (fault : LineFault) → length line ≤ MOST_LINE_BYTES → IsJson line d
    → command_from d ≡ Some (by, asked) → IsCheckedAct asked (Err fault) → LineOf line (Err fault)
inverted line d by (Other asked) fault short json found is = absurd (let no : ⊥ = cc in no)
inverted line d by (Order target kind floor tear) fault short json found is =
    let told = told_command d by (Order target kind floor tear) found in
    subst (λ f. LineOf line (Err f)) (sym is.0) (
      short,
      record {
        actor = by;
        target = target;
        kind = kind;
        floor = floor;
        tear = tear;
        above = is.1;
        by = told.by;
        fits = (told.act.0, told.act.1);
        json = subst (IsJson line) (told.is ∙ ap (asking by) told.act.2) json;
      },
    )

-- a line has one value
pub one_value : (line : List ℕ) (d e : Data) → IsJson line d → IsJson line e → d ≡ e
one_value line d e a b = let same = sym a.reads ∙ b.reads in cc

pub nothing :
    (line : List ℕ) (d : Data) → length line ≤ MOST_LINE_BYTES → IsJson line d → command_from d ≡ None
    → LineOf line (Err Syntax)
nothing line d short json none = (
  short,
  (λ command s.
      let same = one_value line d _ json s.json in
      let found = command-again command.by s.kinds command.act s.same s.by s.act in
      let no : ⊥ = cc in no),
  (λ s.
      let same = one_value line d _ json s.json in
      let found = inverted-again s.actor s.target s.kind s.floor s.tear s.by s.fits.0 s.fits.1 in
      let no : ⊥ = cc in no),
)
