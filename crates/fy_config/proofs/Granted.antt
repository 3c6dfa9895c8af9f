-- the grants of actors, put one after another
use Rattle.std.proofs.Common.{◌≡◌, ◌∙◌, ◌+◌, ◌<◌, ◌≤◌, ℕ, Bool, true, false, cond, not, List, [], ◌∷◌, ◌++◌, ◌||◌, ◌&&◌, length, take, map, Some, None, refl, sym, ap, arith}
use Rattle.std.specs.Prelude.{slice_get, is_some}
use Rattle.std.specs.List.{list_any, filter_map, flat_map, enumerate_from, position}
use Rattle.std.proofs.lemmas.List.{take_all, length-map, length-take-le, append-nil}
use Rattle.std.proofs.lemmas.Grind.{flat_map-append}
use Rattle.std.proofs.lemmas.Option.{slice_get_within}
use Rattle.fy_kinds.specs.Members.{Members}
use Rattle.fy_grants.specs.declared.grant.Grant.{Grant}
use Rattle.fy_grants.specs.declared.grant.Scope.{Scope}
use Rattle.fy_cluster.specs.declared.role.Role.{Role}
use Rattle.fy_config.specs.declared.given.GivenGrant.{GivenGrant}
use Rattle.fy_config.specs.Given.{has_name, grant_given, actor_given}
use Rattle.fy_config.specs.Config.{is_bad_actor, grants_of}
use Rattle.fy_config.specs.Named.{grant_by, have_scopes}
use Rattle.fy_config.proofs.Places.{NotYet, not_yet_more, position_here, position_none, take_at, kept_at}

abbrev Actor : Type 0
Actor = Role × List (Members × Scope)

-- the scopes of grants are known where their values are names
pub scopes_kept :
    (grants : List (Members × Scope))
    → have_scopes (map grant_given grants) ≡ not (list_any (λ grant. not (has_name grant.1)) grants)
scopes_kept [] = refl
scopes_kept (g ∷ gs) = go (has_name g.1) (scopes_kept gs)
  where
    go : (b : Bool) → have_scopes (map grant_given gs) ≡ not (list_any (λ grant. not (has_name grant.1)) gs)
        → (is_some (cond b (Some g.1) None) && have_scopes (map grant_given gs)) ≡ not (not b || list_any (λ grant. not (has_name grant.1)) gs)
    go true e = e
    go false e = refl

-- the grants that are put of those that are spelt
pub grants_kept :
    (number : ℕ) (grants : List (Members × Scope))
    → have_scopes (map grant_given grants) ≡ true
    → filter_map (grant_by number) (map grant_given grants)
    ≡ map (λ grant. record { actor = number; kinds = grant.0; scope = grant.1 }) grants
grants_kept number [] e = refl
grants_kept number (g ∷ gs) e = go (has_name g.1) e (grants_kept number gs)
  where
    spelt : List (Members × Scope) → List Grant
    spelt those = map (λ grant. record { actor = number; kinds = grant.0; scope = grant.1 }) those

    go : (b : Bool) → (is_some (cond b (Some g.1) None) && have_scopes (map grant_given gs)) ≡ true
        → (have_scopes (map grant_given gs) ≡ true → filter_map (grant_by number) (map grant_given gs) ≡ map (λ grant. record { actor = number; kinds = grant.0; scope = grant.1 }) gs)
        → filter_map (grant_by number) (record { kinds = g.0; scope = cond b (Some g.1) None } ∷ map grant_given gs)
        ≡ record { actor = number; kinds = g.0; scope = g.1 } ∷ map (λ grant. record { actor = number; kinds = grant.0; scope = grant.1 }) gs
    go true h rest = ap (λ (those : List Grant). record { actor = number; kinds = g.0; scope = g.1 } ∷ those) (rest h)
    go false h rest = absurd (let c : ⊥ = cc in c)

enumerate_push :
    {A : Type 0} (n : ℕ) (xs : List A) (x : A) (m : ℕ) → n + length xs ≡ m
    → enumerate_from n (xs ++ x ∷ []) ≡ enumerate_from n xs ++ (m, x) ∷ []
enumerate_push n [] x m e = let here : n ≡ m = omega arith in ap (λ k. (k, x) ∷ []) here
enumerate_push n (y ∷ xs) x m e = ap (λ rest. (n, y) ∷ rest) (enumerate_push (n + 1) xs x m (omega arith))

-- the grants of the actors up to a place are there, and none of these is bad
pub record Granted (actors : List (Role × List GivenGrant)) (grants : List Grant) (i : ℕ) : Type 0 where
  pub so_far : (spelt : List Actor) → actors ≡ map actor_given spelt
      → (grants ≡ flat_map grants_of (enumerate_from 0 (take i spelt))) × NotYet is_bad_actor spelt i

-- an actor is bad where not all of its scopes are known
bad_actor :
    (actor : Role × List GivenGrant) (spelt : Actor) (b : Bool)
    → actor_given spelt ≡ actor → have_scopes actor.1 ≡ not b → is_bad_actor spelt ≡ b
bad_actor actor spelt b same e =
    twice (is_bad_actor spelt) b
    (sym (scopes_kept spelt.1) ∙ ap (λ (a : Role × List GivenGrant). have_scopes a.1) same ∙ e)
  where
    twice : (x y : Bool) → not x ≡ not y → x ≡ y
    twice true true h = refl
    twice false false h = refl
    twice true false h = absurd (let c : ⊥ = cc in c)
    twice false true h = absurd (let c : ⊥ = cc in c)

pub granted_more :
    (actors : List (Role × List GivenGrant)) (grants more : List Grant) (i : ℕ) (actor : Role × List GivenGrant)
    → Granted actors grants i → slice_get actors i ≡ Some actor
    → have_scopes actor.1 ≡ true → more ≡ grants ++ filter_map (grant_by i) actor.1
    → Granted actors more (i + 1)
granted_more actors grants more i actor m at good grown =
    record { so_far = λ spelt kept. go spelt (kept_at actor_given spelt actors i actor kept at) (m.so_far spelt kept) }
  where
    go : (spelt : List Actor) → (t : Actor) × (slice_get spelt i ≡ Some t) × (actor_given t ≡ actor)
        → (grants ≡ flat_map grants_of (enumerate_from 0 (take i spelt))) × NotYet is_bad_actor spelt i
        → (more ≡ flat_map grants_of (enumerate_from 0 (take (i + 1) spelt))) × NotYet is_bad_actor spelt (i + 1)
    go spelt (t, is, same) (front, yet) =
        let within : i < length spelt = slice_get_within spelt i t is in
        let long : length (take i spelt) ≡ i = length-take-le i spelt (omega arith) in
        let scopes : have_scopes (map grant_given t.1) ≡ true = ap (λ (a : Role × List GivenGrant). have_scopes a.1) same ∙ good in
        let last : filter_map (grant_by i) actor.1 ≡ grants_of (i, t) =
        ap (λ (a : Role × List GivenGrant). filter_map (grant_by i) a.1) (sym same) ∙ grants_kept i t.1 scopes in
        let all : flat_map grants_of (enumerate_from 0 (take (i + 1) spelt)) ≡ flat_map grants_of (enumerate_from 0 (take i spelt)) ++ (grants_of (i, t) ++ []) =
        ap (λ (xs : List Actor). flat_map grants_of (enumerate_from 0 xs)) (take_at spelt i t is)
        ∙ ap (flat_map grants_of) (enumerate_push 0 (take i spelt) t i (omega arith))
        ∙ flat_map-append grants_of (enumerate_from 0 (take i spelt)) ((i, t) ∷ []) in (
          grown ∙ ap (λ (gs : List Grant). gs ++ filter_map (grant_by i) actor.1) front
              ∙ ap (λ (gs : List Grant). flat_map grants_of (enumerate_from 0 (take i spelt)) ++ gs) (last ∙ sym (append-nil (grants_of (i, t))))
              ∙ sym all,
          not_yet_more is_bad_actor spelt i t yet is (bad_actor actor t false same good),
        )

pub granted_bad :
    (actors : List (Role × List GivenGrant)) (grants : List Grant) (i : ℕ) (actor : Role × List GivenGrant)
    → Granted actors grants i → slice_get actors i ≡ Some actor → have_scopes actor.1 ≡ false
    → (spelt : List Actor) → actors ≡ map actor_given spelt → position is_bad_actor spelt ≡ Some i
granted_bad actors grants i actor m at bad spelt kept =
    let (t, is, same) = kept_at actor_given spelt actors i actor kept at in
    position_here is_bad_actor spelt i t (m.so_far spelt kept).1 is (bad_actor actor t true same bad)

pub granted_all :
    (actors : List (Role × List GivenGrant)) (grants : List Grant) (i : ℕ)
    → Granted actors grants i → length actors ≤ i
    → (spelt : List Actor) → actors ≡ map actor_given spelt
    → (position is_bad_actor spelt ≡ None) × (grants ≡ flat_map grants_of (enumerate_from 0 spelt))
granted_all actors grants i m all spelt kept =
    let (front, yet) = m.so_far spelt kept in
    let short : length spelt ≤ i = omega (arith, ap length kept, length-map spelt actor_given) in (
      position_none is_bad_actor spelt i yet short,
      front ∙ ap (λ (xs : List Actor). flat_map grants_of (enumerate_from 0 xs)) (take_all i spelt short),
    )
