-- teams whose members change
use Rattle.std.proofs.Common.{◌≡◌, ℕ, zero, suc, ◌<◌, List, [], ◌∷◌, length, map, get_or, Some, refl, sym, ◌∙◌, ap, ap₂, slice_get, slice_set}
use Rattle.std.specs.Option.{option_map_or}
use Rattle.fy_locality.specs.declared.ProcId.{ProcId}
use Rattle.fy_team.specs.Teams.{swapped}
use Rattle.fy_cluster.specs.History.{Swap, with_swap, after_swap}
use Rattle.fy_check_by_rules.specs.declared.teams.Team.{Team as FoundTeam}
use Rattle.fy_check_by_rules.specs.Formed.{team_of}
use Rattle.std.proofs.lemmas.Option.{slice_get-get_or}

map-get : (items : List FoundTeam) (i : ℕ) (x : FoundTeam) → slice_get items i ≡ Some x → slice_get (map team_of items) i ≡ Some (team_of x)
map-get [] i x e = absurd (cc)
map-get (y ∷ items) zero x e = let same : y ≡ x = cc in ap (λ (t : FoundTeam). Some (team_of t)) same
map-get (y ∷ items) (suc i) x e = map-get items i x e

map-set : (items : List FoundTeam) (i : ℕ) (x : FoundTeam) → map team_of (slice_set items i x) ≡ slice_set (map team_of items) i (team_of x)
map-set [] zero x = refl
map-set [] (suc i) x = refl
map-set (y ∷ items) zero x = refl
map-set (y ∷ items) (suc i) x = ap (λ ts. team_of y ∷ ts) (map-set items i x)

-- a member of a team is swapped
pub swapped_in : (items : List FoundTeam) (i : ℕ) (x new : FoundTeam) (out into : ProcId) → i < length items → x ≡ get_or items i x → new.members.items ≡ swapped out into x.members.items → new.policy ≡ x.policy
    → map team_of (slice_set items i new) ≡ after_swap (Some (record { team = i; out = out; into = into })) (map team_of items)
swapped_in items i x new out into l is members policy =
    let swap : Swap = record { team = i; out = out; into = into } in
    let same : team_of new ≡ with_swap swap (team_of x) = ap₂ (λ ms p. record { members = ms; policy = p }) members policy in
    map-set items i new ∙ ap (slice_set (map team_of items) i) same ∙ ap (λ found. option_map_or (λ team. slice_set (map team_of items) i (with_swap swap team)) found (map team_of items)) (sym (map-get items i x (slice_get-get_or items i x l ∙ ap Some (sym is))))
