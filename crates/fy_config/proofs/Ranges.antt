-- what was given is in its ranges exactly where what is spelt is
use Rattle.std.proofs.Common.{◌≡◌, ◌∙◌, ◌+◌, ℕ, List, [], ◌∷◌, length, map, sum_by, sym, ap, refl}
use Rattle.std.specs.List.{fold}
use Rattle.std.proofs.lemmas.List.{length-map}
use Rattle.fy_kinds.specs.Members.{Members}
use Rattle.fy_grants.specs.declared.grant.Scope.{Scope}
use Rattle.fy_cluster.specs.declared.role.Role.{Role}
use Rattle.fy_config.specs.declared.given.GivenActor.{GivenActor}
use Rattle.fy_config.specs.declared.given.GivenGrant.{GivenGrant}
use Rattle.fy_config.specs.declared.fields.GivenFields.{GivenFields}
use Rattle.fy_config.specs.Given.{process_given, actor_given, actor_kept, grant_given, protection_given}
use Rattle.fy_config.specs.Config.{Fields, first_outside}
use Rattle.fy_config.specs.Kept.{HoldsFields, grant_count, first_given_outside}

-- lists that look alike are as long
as_long :
    {A B C : Type 0} (f : A → C) (g : B → C) (xs : List A) (ys : List B)
    → map f xs ≡ map g ys → length xs ≡ length ys
as_long f g xs ys same = sym (length-map xs f) ∙ ap length same ∙ length-map ys g

-- grants that are kept of actors count as those of the actors, from any count on
count_kept :
    (n : ℕ) (actors : List GivenActor)
    → fold (λ count actor. count + length actor.1) n (map actor_kept actors)
    ≡ fold (λ count actor. count + length actor.grants.items) n actors
count_kept n [] = refl
count_kept n (actor ∷ actors) = count_kept (n + length actor.grants.items) actors

count_given :
    (n : ℕ) (actors : List (Role × List (Members × Scope)))
    → fold (λ count actor. count + length actor.1) n (map actor_given actors)
    ≡ fold (λ count actor. count + length actor.1) n actors
count_given n [] = refl
count_given n (actor ∷ actors) =
    ap (λ m. fold (λ count a. count + length a.1) (n + m) (map actor_given actors))
    (length-map actor.1 grant_given)
    ∙ count_given (n + length actor.1) actors

-- the first part outside its range is the same
pub outside_kept :
    (given : GivenFields) (f : Fields) → HoldsFields given f → first_given_outside given ≡ first_outside f
outside_kept given f kept =
    let policies : length given.policies.items ≡ length f.policies =
    sym (length-map given.policies.items (λ text. text.now)) ∙ ap length kept.policies in
    let processes : length given.processes.items ≡ length f.processes =
    ap length kept.processes ∙ length-map f.processes process_given in
    let actors : length given.actors.items ≡ length f.actors =
    as_long actor_kept actor_given given.actors.items f.actors kept.actors in
    let grants
    : grant_count given.actors.items ≡ sum_by (λ actor. length actor.1) f.actors =
    sym (count_kept 0 given.actors.items)
    ∙ ap (λ (seen : List (Role × List GivenGrant)). fold (λ count a. count + length a.1) 0 seen) kept.actors
    ∙ count_given 0 f.actors in
    let protections : length given.protections.items ≡ length f.protections =
    ap length kept.protections ∙ length-map f.protections protection_given in
    rw (kept.journal_limit, policies, processes, actors, grants, protections)
