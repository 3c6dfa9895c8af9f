-- what a document is, by what each of its parts is found to be
use Rattle.std.proofs.Common.{◌≡◌, ◌∙◌, ℕ, List, [], ◌∷◌, map, Option, Some, None, refl, sym, ap, subst}
use Rattle.std.specs.Prelude.{Result, Ok, Err, MatchOption, MatchResult, unwrap_or, slice_get}
use Rattle.std.specs.List.{filter_map, flat_map, enumerate_from, position}
use Rattle.toml.specs.Data.{Members as Entries}
use Rattle.fy_kinds.specs.Members.{Members}
use Rattle.fy_policy.specs.Tree.{Tree}
use Rattle.fy_grants.specs.declared.grant.Scope.{Scope}
use Rattle.fy_cluster.specs.Setup.{Setup, setup_of, config_refusal}
use Rattle.fy_cluster.specs.declared.role.Role.{Role}
use Rattle.fy_config.specs.declared.fault.Part.{Part}
use Rattle.fy_config.specs.declared.fault.Part.TheVariants.{Process, Actor, Protect}
use Rattle.fy_config.specs.declared.fault.ConfigFault.{ConfigFault}
use Rattle.fy_config.specs.declared.fault.ConfigFault.TheVariants.{TooLong, Toml, Field, Limit, Name, Policy, PolicyUnmet, NoMemory}
use Rattle.fy_config.specs.declared.given.GivenActor.{GivenActor}
use Rattle.fy_config.specs.Given.{actor_given, actor_kept}
use Rattle.fy_config.specs.Config.{Fields, fields_of, FieldsAre, DocumentIs, NamedIs, AreRead, UnlessOom, first_outside, first_bad_name, first_index, is_bad_process, is_bad_actor, is_bad_protection, bad_name_at, grants_of, protection_in, limit_given, setup_in}
use Rattle.fy_config.specs.declared.reading.Numbered.{Numbered}
use Rattle.fy_config.specs.Named.{IsNameFault, IsPolicyFault, IsNumbered, IsMade}

-- ---- answers that an allocation failure can take the place of

pub unless : {A : Type 0} (Holds : Result A ConfigFault → Type 0) (answer : Result A ConfigFault) → Holds answer → UnlessOom Holds answer
unless Holds (Ok x) h = h
unless Holds (Err TooLong) h = h
unless Holds (Err Toml) h = h
unless Holds (Err (Field part)) h = h
unless Holds (Err (Limit part)) h = h
unless Holds (Err (Name part index)) h = h
unless Holds (Err (Policy index)) h = h
unless Holds (Err (PolicyUnmet index)) h = h
unless Holds (Err NoMemory) h = tt

-- a fault that what holds gives for what has to hold
pub unless_err :
    {A B : Type 0} (Holds : Result A ConfigFault → Type 0) (Wanted : Result B ConfigFault → Type 0)
    (fault : ConfigFault) → UnlessOom Holds (Err fault) → (Holds (Err fault) → Wanted (Err fault))
    → UnlessOom Wanted (Err fault)
unless_err Holds Wanted TooLong h k = k h
unless_err Holds Wanted Toml h k = k h
unless_err Holds Wanted (Field p) h k = k h
unless_err Holds Wanted (Limit p) h k = k h
unless_err Holds Wanted (Name p index) h k = k h
unless_err Holds Wanted (Policy index) h k = k h
unless_err Holds Wanted (PolicyUnmet index) h k = k h
unless_err Holds Wanted NoMemory h k = tt

-- a bad name that a part tells, where it is what has to hold
pub name_answer :
    {B : Type 0} (part : Part) (bad : Option ℕ) (Holds : Result B ConfigFault → Type 0)
    (fault : ConfigFault) → IsNameFault part bad fault
    → (bad_name_at part bad ≡ Some fault → Holds (Err fault)) → UnlessOom Holds (Err fault)
name_answer part bad Holds TooLong h k = k h
name_answer part bad Holds Toml h k = k h
name_answer part bad Holds (Field p) h k = k h
name_answer part bad Holds (Limit p) h k = k h
name_answer part bad Holds (Name p index) h k = k h
name_answer part bad Holds (Policy index) h k = k h
name_answer part bad Holds (PolicyUnmet index) h k = k h
name_answer part bad Holds NoMemory h k = tt

-- a policy that is refused, where it is what has to hold
pub policy_answer :
    {B : Type 0} (f : Fields) (Holds : Result B ConfigFault → Type 0)
    (fault : ConfigFault) → IsPolicyFault f.policies fault
    → (NamedIs f (Err fault) → Holds (Err fault)) → UnlessOom Holds (Err fault)
policy_answer f Holds TooLong h k = absurd h
policy_answer f Holds Toml h k = absurd h
policy_answer f Holds (Field p) h k = absurd h
policy_answer f Holds (Limit p) h k = absurd h
policy_answer f Holds (Name p index) h k = absurd h
policy_answer f Holds (Policy index) h k = k h
policy_answer f Holds (PolicyUnmet index) h k = absurd h
policy_answer f Holds NoMemory h k = tt

-- ---- the first bad name

first_of : Option ConfigFault → Option ConfigFault → Option ConfigFault → Option ConfigFault
first_of process actor protection =
    slice_get (filter_map (λ fault. fault) (process ∷ actor ∷ protection ∷ [])) 0

pub bad_process :
    (f : Fields) (fault : ConfigFault)
    → bad_name_at Process (first_index is_bad_process f.processes) ≡ Some fault
    → first_bad_name f ≡ Some fault
unfolding first_of
bad_process f fault e =
    ap (λ o. first_of o (bad_name_at Actor (position is_bad_actor f.actors)) (bad_name_at Protect (first_index (is_bad_protection f.processes) f.protections))) e

pub bad_actor :
    (f : Fields) (fault : ConfigFault)
    → first_index is_bad_process f.processes ≡ None
    → bad_name_at Actor (position is_bad_actor f.actors) ≡ Some fault
    → first_bad_name f ≡ Some fault
unfolding first_of
bad_actor f fault none e =
    ap (λ o. first_of (bad_name_at Process o) (bad_name_at Actor (position is_bad_actor f.actors)) (bad_name_at Protect (first_index (is_bad_protection f.processes) f.protections))) none
    ∙ ap (λ o. first_of None o (bad_name_at Protect (first_index (is_bad_protection f.processes) f.protections))) e

pub bad_protection :
    (f : Fields) (fault : Option ConfigFault)
    → first_index is_bad_process f.processes ≡ None
    → position is_bad_actor f.actors ≡ None
    → bad_name_at Protect (first_index (is_bad_protection f.processes) f.protections) ≡ fault
    → first_bad_name f ≡ fault
unfolding first_of
bad_protection f fault none no_actor e =
    ap (λ o. first_of (bad_name_at Process o) (bad_name_at Actor (position is_bad_actor f.actors)) (bad_name_at Protect (first_index (is_bad_protection f.processes) f.protections))) none
    ∙ ap (λ o. first_of None (bad_name_at Actor o) (bad_name_at Protect (first_index (is_bad_protection f.processes) f.protections))) no_actor
    ∙ ap (first_of None None) e
    ∙ one fault
  where
    one : (o : Option ConfigFault) → first_of None None o ≡ o
    one None = refl
    one (Some fault) = refl

-- ---- documents

pub document_limit :
    (ms : Entries) (f : Fields) (part : Part) (answer : Result Setup ConfigFault)
    → fields_of ms ≡ Ok f → first_outside f ≡ Some part → answer ≡ Err (Limit part) → DocumentIs ms answer
document_limit ms f part answer spelt outside is =
    subst (λ (r : Result Fields ConfigFault). MatchResult r (λ g. FieldsAre g answer) (λ fault. answer ≡ Err fault)) (sym spelt)
    (subst (λ (o : Option Part). MatchOption o (MatchOption (first_bad_name f) (NamedIs f answer) (λ fault. answer ≡ Err fault)) (λ p. answer ≡ Err (Limit p))) (sym outside) is)

pub document_name :
    (ms : Entries) (f : Fields) (fault : ConfigFault) (answer : Result Setup ConfigFault)
    → fields_of ms ≡ Ok f → first_outside f ≡ None → first_bad_name f ≡ Some fault → answer ≡ Err fault
    → DocumentIs ms answer
document_name ms f fault answer spelt inside bad is =
    subst (λ (r : Result Fields ConfigFault). MatchResult r (λ g. FieldsAre g answer) (λ other. answer ≡ Err other)) (sym spelt)
    (subst (λ (o : Option Part). MatchOption o (MatchOption (first_bad_name f) (NamedIs f answer) (λ other. answer ≡ Err other)) (λ p. answer ≡ Err (Limit p))) (sym inside)
    (subst (λ (o : Option ConfigFault). MatchOption o (NamedIs f answer) (λ other. answer ≡ Err other)) (sym bad) is))

pub document_named :
    (ms : Entries) (f : Fields) (answer : Result Setup ConfigFault)
    → fields_of ms ≡ Ok f → first_outside f ≡ None → first_bad_name f ≡ None → NamedIs f answer
    → DocumentIs ms answer
document_named ms f answer spelt inside good named =
    subst (λ (r : Result Fields ConfigFault). MatchResult r (λ g. FieldsAre g answer) (λ other. answer ≡ Err other)) (sym spelt)
    (subst (λ (o : Option Part). MatchOption o (MatchOption (first_bad_name f) (NamedIs f answer) (λ other. answer ≡ Err other)) (λ p. answer ≡ Err (Limit p))) (sym inside)
    (subst (λ (o : Option ConfigFault). MatchOption o (NamedIs f answer) (λ other. answer ≡ Err other)) (sym good) named))

-- ---- the setup

map_map : {A B C : Type 0} (f : B → C) (g : A → B) (xs : List A) → map f (map g xs) ≡ map (λ x. f (g x)) xs
map_map f g [] = refl
map_map f g (x ∷ xs) = ap (λ ys. f (g x) ∷ ys) (map_map f g xs)

-- the roles are those that are spelt
pub roles_kept :
    (actors : List GivenActor) (spelt : List (Role × List (Members × Scope)))
    → map actor_kept actors ≡ map actor_given spelt
    → map (λ actor. actor.role) actors ≡ map (λ actor. actor.0) spelt
roles_kept actors spelt kept =
    sym (map_map (λ (seen : Role × List _). seen.0) actor_kept actors)
    ∙ ap (map (λ seen. seen.0)) kept
    ∙ map_map (λ (seen : Role × List _). seen.0) actor_given spelt

-- numbered parts make up what the parts begin a cluster with
pub numbered_setup :
    (f : Fields) (policies : List Tree) (parts : Numbered) (limit : ℕ) → IsNumbered f parts
    → limit_given f.journal_limit ≡ Some limit
    → setup_of parts.map policies parts.roles.items parts.grants.items parts.protections.items limit ≡ setup_in f policies
numbered_setup f policies parts limit is limited =
    ap (λ all. setup_of all policies parts.roles.items parts.grants.items parts.protections.items limit) is.processes
    ∙ ap (λ rs. setup_of f.processes policies rs parts.grants.items parts.protections.items limit) is.roles
    ∙ ap (λ gs. setup_of f.processes policies (map (λ actor. actor.0) f.actors) gs parts.protections.items limit) is.grants
    ∙ ap (λ ps. setup_of f.processes policies (map (λ actor. actor.0) f.actors) (flat_map grants_of (enumerate_from 0 f.actors)) ps limit) is.protections
    ∙ ap (λ o. setup_of f.processes policies (map (λ actor. actor.0) f.actors) (flat_map grants_of (enumerate_from 0 f.actors)) (map (protection_in f.processes) f.protections) (unwrap_or o 0)) (sym limited)

-- where no name is bad, no protection is
pub good_protections :
    (f : Fields) → first_bad_name f ≡ None → first_index (is_bad_protection f.processes) f.protections ≡ None
unfolding first_of
good_protections f good =
    go (bad_name_at Process (first_index is_bad_process f.processes)) (bad_name_at Actor (position is_bad_actor f.actors))
    (first_index (is_bad_protection f.processes) f.protections) good
  where
    go : (a b : Option ConfigFault) (place : Option ℕ) → first_of a b (bad_name_at Protect place) ≡ None → place ≡ None
    go a b None e = refl
    go None None (Some place) e = absurd (let no : ⊥ = cc in no)
    go None (Some x) (Some place) e = absurd (let no : ⊥ = cc in no)
    go (Some x) b (Some place) e = absurd (let no : ⊥ = cc in no)

-- a setup that is made is what the parts are
pub made_named :
    (f : Fields) (policies : List Tree) (setup : Setup) (answer : Result Setup ConfigFault)
    → AreRead f.policies policies → setup ≡ setup_in f policies → IsMade setup answer → NamedIs f answer
made_named f policies setup (Ok config) read same made = (
  policies,
  read,
  made.0 ∙ same,
  ap config_refusal made.0 ∙ made.1,
)
made_named f policies setup (Err (PolicyUnmet index)) read same made = (policies, read, ap config_refusal (sym same) ∙ made)
made_named f policies setup (Err TooLong) read same made = absurd made
made_named f policies setup (Err Toml) read same made = absurd made
made_named f policies setup (Err (Field part)) read same made = absurd made
made_named f policies setup (Err (Limit part)) read same made = absurd made
made_named f policies setup (Err (Name part index)) read same made = absurd made
made_named f policies setup (Err (Policy index)) read same made = absurd made
made_named f policies setup (Err NoMemory) read same made = absurd made
