-- what turns and acts at a desk come to
use Rattle.std.proofs.Common.{◌≡◌, ◌≤◌, ◌↔◌, Bool, true, false, nat_lt, if◌then◌else◌, Option, Some, None, IsSome, Err, List, [], ◌∷◌, length, refl, ap, map, take, get_or, ◌<◌, ◌+◌, ◌++◌, ◌∙◌, ℕ}
use Rattle.std.proofs.lemmas.List.{take_more}
use Rattle.fy_kinds.specs.declared.kind.Kind.{Kind}
use Rattle.fy_locality.specs.declared.key.Key.TheVariants.{Machine}
use Rattle.fy_kinds.specs.Kinds.{rank}
use Rattle.fy_kinds.specs.Orders.{Order}
use Rattle.fy_acts.specs.declared.act.Act.TheVariants.{Kill}
use Rattle.fy_acts.specs.declared.act.Act.{Act}
use Rattle.fy_acts.proofs.Compared.{same_parts}
use Rattle.fy_cluster.specs.declared.fault.Fault.{Fault}
use Rattle.fy_cluster.specs.declared.fault.Fault.TheVariants.{JournalFull}
use Rattle.fy_actors.specs.Desk.{DeskState, receipt, after_act, Worked}
use Rattle.fy_actors.specs.Turns.{TakesTurn}
use Rattle.fy_cluster.specs.declared.sight.Sight.{Sight}
use Rattle.fy_actors.specs.declared.driver.Team.{Team}
use Rattle.fy_actors.specs.declared.driver.Team.TheVariants.{Unformed, Formed, Refused}
use Rattle.fy_actors.specs.Schedules.{attrition_act}
use Rattle.fy_actors.specs.Drives.{Drive, act_while, next_act, driven, is_refused, goes_on}
use Rattle.fy_actors.proofs.Drawing.{map_last}

-- an act is work
pub acted_works : (before after : DeskState) (act : Act) → after ≡ after_act before act → Worked before after
acted_works before after act e = record {
  setup = ap (λ (desk : DeskState). desk.setup) e;
  actor = ap (λ (desk : DeskState). desk.actor) e;
  new = receipt before act ∷ [];
  journal = ap (λ (desk : DeskState). desk.journal) e;
  own = (refl, tt);
  receipts = ap (λ (desk : DeskState). desk.receipts) e;
}

-- ---- a driver's turns

none_while : (drive : Drive) (sight : Sight) (b : Bool) (team : Team)
    → (if is_refused team then false else b) ≡ false
    → (if b then act_while drive sight team else None) ≡ None
none_while drive sight true Unformed e = absurd (let none : ⊥ = cc in none)
none_while drive sight true (Formed team) e = absurd (let none : ⊥ = cc in none)
none_while drive sight true Refused e = refl
none_while drive sight false team e = refl

pub none_left : (drive : Drive) (sight : Sight) → goes_on drive ≡ false → next_act drive sight ≡ None
none_left drive sight e = none_while drive sight (nat_lt drive.made drive.acts) drive.team e

some_while : (drive : Drive) (sight : Sight) (b : Bool) (team : Team)
    → (if is_refused team then false else b) ≡ true
    → IsSome (if b then act_while drive sight team else None)
some_while drive sight false Unformed e = absurd (let none : ⊥ = cc in none)
some_while drive sight false (Formed team) e = absurd (let none : ⊥ = cc in none)
some_while drive sight b Refused e = absurd (let none : ⊥ = cc in none)
some_while drive sight true Unformed e = refl
some_while drive sight true (Formed team) e = refl

-- where an act is left, a fault that is a full journal exactly where it is full holds it up
held_up_at : (next : Option Act) (was : Drive × DeskState) (fault : Fault) → IsSome next
    → ((fault ≡ JournalFull) ↔ (was.1.setup.limit ≤ length was.1.journal))
    → TakesTurn driven goes_on next was was (Err fault)
held_up_at None was fault there full = absurd (let none : ⊥ = cc in none)
held_up_at (Some act) was fault there full = record { same = refl; full = full }

pub held_up : (sight : Sight) (was : Drive × DeskState) (fault : Fault) → goes_on was.0 ≡ true
    → ((fault ≡ JournalFull) ↔ (was.1.setup.limit ≤ length was.1.journal))
    → TakesTurn driven goes_on (next_act was.0 sight) was was (Err fault)
held_up sight was fault left full =
    held_up_at (next_act was.0 sight) was fault
    (some_while was.0 sight (nat_lt was.0.made was.0.acts) was.0.team left) full

-- ---- orders for one machine after another

pub one_order : (a : Order) (machine : List ℕ) (k f : Kind) (n : ℕ) (o : rank f ≤ rank k)
    → a.target ≡ record { key = Machine; value = machine } → a.kind ≡ k → a.floor ≡ f → a.tear ≡ n
    → Kill a ≡ attrition_act k f n o machine
one_order a machine k f n o et ek ef en = ap Kill (same_parts a _ k f n o et ek ef en)

pub one_act_more : {A B : Type 0} (f : A → B) (xs : List A) (i : ℕ) (d : A) → i < length xs
    → map f (take (i + 1) xs) ≡ map f (take i xs) ++ f (get_or xs i d) ∷ []
one_act_more f xs i d within =
    ap (map f) (take_more xs i d within) ∙ map_last f (take i xs) (get_or xs i d)
