-- the parts of acts are found as they are defined
use Rattle.std.proofs.Common.{◌≡◌, ℕ, ◌+◌, ◌<◌, suc, Bool, true, false, cond, ◌||◌, List, ◌∷◌, length, drop, get_or, Option, Some, None, option_map, refl, sym, ap, ◌∙◌, arith}
use Rattle.std.proofs.Math.Seq.{drop-cons}
use Rattle.serde_json.specs.View.{view, items_view}
use Rattle.serde_json.specs.declared.value.Value.{Value}
use Rattle.fy_locality.specs.declared.ProcId.{ProcId}
use Rattle.fy_kinds.specs.Kinds.{Deed, only, in_either}
use Rattle.fy_kinds.specs.Members.{Members}
use Rattle.fy_team.specs.Members.{are_members}
use Rattle.fy_team.specs.Standing.{MembersTested}
use Rattle.fy_team.specs.Teams.{AreMembers}
use Rattle.fy_locality.specs.Chain.{◌>>=◌}
use Rattle.fy_spelling.specs.Candidate.{deed_from, deeds_from}
use Rattle.fy_spelling.specs.Command.{gathered}

-- ---- members

pub members_kept :
    MembersTested → (ps m : List ProcId) (b : Bool) → are_members ps ≡ b
    → ((AreMembers ps → ⊥) → ⊥) → m ≡ ps → Some m ≡ cond b (Some ps) None
members_kept law ps m true e h is = ap Some is
members_kept law ps m false e h is =
    absurd (h (λ are. let t : are_members ps ≡ true = (law ps).1 are in let no : ⊥ = cc in no))

pub members_refused :
    MembersTested → (ps : List ProcId) (b : Bool) → are_members ps ≡ b → (AreMembers ps → ⊥)
    → None ≡ cond b (Some ps) None
members_refused law ps true e h = absurd (h ((law ps).0 e))
members_refused law ps false e h = refl

-- ---- kinds

or_regroups : (a b c : Bool) → ((a || b) || c) ≡ (a || (b || c))
or_regroups true b c = refl
or_regroups false b c = refl

-- three sets together, whichever two come first
with_all_regroups : (a b c : Members) → in_either (in_either a b) c ≡ in_either a (in_either b c)
with_all_regroups a b c =
    rw (
      or_regroups a.reboot_process b.reboot_process c.reboot_process,
      or_regroups a.reboot b.reboot c.reboot,
      or_regroups a.reboot_and_delete b.reboot_and_delete c.reboot_and_delete,
      or_regroups a.kill_instantly b.kill_instantly c.kill_instantly,
      or_regroups a.clog b.clog c.clog,
    )

-- one set more goes to those that are left, or to those before
one_more :
    (before x : Members) (found : Option Deed) (rest : Option (List Deed))
    → option_map only found ≡ Some x
    → option_map (λ more. in_either (in_either before x) (gathered more)) rest
    ≡ option_map (λ more. in_either before (gathered more))
    (found >>= λ deed. option_map (λ more. deed ∷ more) rest)
one_more before x None rest e = absurd (let no : ⊥ = cc in no)
one_more before x (Some deed) None e = refl
one_more before x (Some deed) (Some more) e =
    let is : only deed ≡ x = cc in
    ap Some
    (with_all_regroups before x (gathered more)
    ∙ ap (λ s. in_either before (in_either s (gathered more))) (sym is))

drop_next :
    (vs : List Value) (i : ℕ) (v : Value) → i < length vs
    → drop i vs ≡ get_or vs i v ∷ drop (i + 1) vs
drop_next vs i v within =
    drop-cons vs i v within ∙ ap (λ n. get_or vs i v ∷ drop n vs) (let e : suc i ≡ i + 1 = omega arith in e)

-- what the words from a place on name
deeds_from-drop :
    (vs : List Value) (i : ℕ) (v : Value) → i < length vs → v ≡ get_or vs i v
    → deeds_from (items_view (drop i vs))
    ≡ (deed_from (view v) >>= λ deed.
    option_map (λ more. deed ∷ more) (deeds_from (items_view (drop (i + 1) vs))))
deeds_from-drop vs i v within is =
    ap (λ (w : List Value). deeds_from (items_view w)) (drop_next vs i v within)
    ∙ ap (λ (w : Value). deed_from (view w) >>= λ deed.
    option_map (λ more. deed ∷ more) (deeds_from (items_view (drop (i + 1) vs))))
    (sym is)

-- after a word more, the kinds so far and those of the words that are left are the same together
pub kinds_kept :
    (before x : Members) (vs : List Value) (i : ℕ) (v : Value) (whole : Option Members)
    → i < length vs → v ≡ get_or vs i v → option_map only (deed_from (view v)) ≡ Some x
    → option_map (λ more. in_either before (gathered more)) (deeds_from (items_view (drop i vs)))
    ≡ whole
    → option_map (λ more. in_either (in_either before x) (gathered more))
    (deeds_from (items_view (drop (i + 1) vs)))
    ≡ whole
kinds_kept before x vs i v whole within is has so_far =
    one_more before x (deed_from (view v)) (deeds_from (items_view (drop (i + 1) vs))) has
    ∙ ap (option_map (λ more. in_either before (gathered more)))
    (sym (deeds_from-drop vs i v within is))
    ∙ so_far
