-- what the bytes of a cluster file begin a cluster with, or why they are no cluster file
use Rattle.std.specs.Prelude.{◌≡◌, ◌<◌, ◌≤◌, ℕ, ℤ, pos, negsuc, List, [], ◌∷◌, codes, length, take, map, sum_by, position, slice_get, MatchOption, MatchResult, option_and_then, unwrap_or, Bool, not, ◌&&◌, ◌||◌, nat_le, bytes_eq, Option, Some, None, Result, Ok, Err, IsUtf8, option_map, is_some, if◌then◌else◌}
use Rattle.std.specs.List.{find, filter_map, list_any, enumerate_from, flat_map}
use Rattle.toml.specs.Data.{Data, Members as Entries, get_member, as_str}
use Rattle.toml.specs.Parse.{parse_document}
use Rattle.fy_locality.specs.Locality.{are_names}
use Rattle.fy_locality.specs.declared.TheConstants.{MOST_PROCESSES}
use Rattle.fy_locality.specs.declared.locality.Locality.{Locality}
use Rattle.fy_kinds.specs.Members.{Members}
use Rattle.fy_policy.specs.Tree.{Tree}
use Rattle.fy_policy.specs.Reading.{Reads}
use Rattle.fy_policy.specs.declared.limits.TheConstants.{MOST_POLICIES}
use Rattle.fy_grants.specs.declared.grant.Scope.{Scope}
use Rattle.fy_grants.specs.declared.grant.Grant.{Grant}
use Rattle.fy_grants.specs.declared.book.TheConstants.{MOST_GRANTS}
use Rattle.fy_cluster.specs.Setup.{Setup, setup_of, is_between, config_refusal}
use Rattle.fy_cluster.specs.declared.config.MakeFault.TheVariants as make
use Rattle.fy_cluster.specs.declared.role.Role.{Role}
use Rattle.fy_cluster.specs.declared.config.Protection.{Protection}
use Rattle.fy_cluster.specs.declared.config.TheConstants.{MOST_ACTORS, MOST_JOURNAL_ENTRIES}
use Rattle.fy_config.specs.Given.{has_name}
use Rattle.fy_config.specs.Tables.{provided, has_only, integer_at, list_of, list_if_any, process_of, actor_of, protection_of}
use Rattle.fy_config.specs.declared.limits.TheConstants.{MOST_FILE_BYTES, MOST_PROTECTIONS}
use Rattle.fy_config.specs.declared.fault.Part.{Part}
use Rattle.fy_config.specs.declared.fault.Part.TheVariants.{JournalLimit, Policies, Process, Actor, Protect, Unknown}
use Rattle.fy_config.specs.declared.fault.ConfigFault.{ConfigFault}
use Rattle.fy_config.specs.declared.fault.ConfigFault.TheVariants.{TooLong, Toml, Field, Limit, Name, Policy, PolicyUnmet, NoMemory}

-- what the parts of a file spell, before any limit: their texts need not be names or policies yet
pub record Fields : Type 0 where
  pub journal_limit : ℤ
  pub policies : List (List ℕ)
  pub processes : List Locality
  pub actors : List (Role × List (Members × Scope))
  pub protections : List (List ℕ × Members)

-- ---- fields

infixl 10 ◌>>=◌
-- what a part spells goes on to the next part, and the first that spells nothing is told
abbrev pub ◌>>=◌ : {A B : Type 0}
    → Result A ConfigFault → (A → Result B ConfigFault) → Result B ConfigFault
(Ok x) >>= f = f x
(Err fault) >>= f = Err fault

-- what a part spells
abbrev pub field : {A : Type 0} → Part → Option A → Result A ConfigFault
field part (Some x) = Ok x
field part None = Err (Field part)

-- the array at a key, each of whose items spells something
abbrev pub array_at : {A : Type 0} → (Data → Option A) → List ℕ → Entries → Option (List A)
array_at f key ms = option_and_then (list_of f) (get_member key ms)

-- the keys at the top of a file
abbrev pub top_keys : List (List ℕ)
top_keys =
    codes "journal_limit" ∷ codes "policies" ∷ codes "process" ∷ codes "actor" ∷ codes "protect"
    ∷ []

-- what all parts spell, or the first part that spells nothing; the last says that no other key is
-- there
abbrev pub fields_from : Option ℤ → Option (List (List ℕ)) → Option (List Locality)
    → Option (List (Role × List (Members × Scope))) → Option (List (List ℕ × Members))
    → Option Bool → Result Fields ConfigFault
fields_from journal_limit policies processes actors protections known = do
  limit ← field JournalLimit journal_limit
  texts ← field Policies policies
  all ← field Process processes
  each ← field Actor actors
  those ← field Protect protections
  only ← field Unknown known
  Ok (record {
    journal_limit = limit;
    policies = texts;
    processes = all;
    actors = each;
    protections = those;
  })

-- what the parts of a document spell, or the first part that spells nothing
abbrev pub fields_of : Entries → Result Fields ConfigFault
fields_of ms =
    fields_from
    (integer_at (codes "journal_limit") ms)
    (array_at as_str (codes "policies") ms)
    (array_at process_of (codes "process") ms)
    (array_at actor_of (codes "actor") ms)
    (list_if_any protection_of (get_member (codes "protect") ms))
    (provided (has_only top_keys ms))

-- ---- limits

-- a whole number from 1 to the most entries of a journal
abbrev pub limit_given : ℤ → Option ℕ
limit_given (pos n) = if is_between 1 MOST_JOURNAL_ENTRIES n then Some n else None
limit_given (negsuc n) = None

-- for each part, whether its numbers and lengths are in their ranges
abbrev pub ranges : Fields → List (Part × Bool)
ranges f =
    (JournalLimit, is_some (limit_given f.journal_limit))
    ∷ (Policies, is_between 1 MOST_POLICIES (length f.policies))
    ∷ (Process, is_between 1 MOST_PROCESSES (length f.processes))
    ∷ (
      Actor,
      is_between 1 MOST_ACTORS (length f.actors)
          && nat_le (sum_by (λ actor. length actor.1) f.actors) MOST_GRANTS,
    )
    ∷ (Protect, nat_le (length f.protections) MOST_PROTECTIONS)
    ∷ []

-- the first part that is outside its range
abbrev pub first_outside : Fields → Option Part
first_outside f = option_map (λ part. part.0) (find (λ part. not part.1) (ranges f))

-- ---- names

-- the place of the first item that fails a test, which is told of those before it
abbrev pub first_index : {A : Type 0} → (List A → A → Bool) → List A → Option ℕ
first_index fails xs =
    option_map (λ x. x.0) (find (λ x. fails (take x.0 xs) x.1) (enumerate_from 0 xs))

-- a process whose texts aren't names, or with the name of one before
abbrev pub is_bad_process : List Locality → Locality → Bool
is_bad_process before process =
    not (are_names process) || list_any (λ p. bytes_eq p.process process.process) before

-- an actor with a grant whose value is no name
abbrev pub is_bad_actor : Role × List (Members × Scope) → Bool
is_bad_actor actor = list_any (λ grant. not (has_name grant.1)) actor.1

-- a protection of a process that isn't there, or that one before protects
abbrev pub is_bad_protection : List Locality → List (List ℕ × Members) → List ℕ × Members → Bool
is_bad_protection processes before protection =
    not (list_any (λ p. bytes_eq p.process protection.0) processes)
    || list_any (λ earlier. bytes_eq earlier.0 protection.0) before

-- a bad name at a place of a part
abbrev pub bad_name_at : Part → Option ℕ → Option ConfigFault
bad_name_at part place = option_map (λ index. Name part index) place

-- for each part its first bad name, where it has one
abbrev pub bad_names : Fields → List (Option ConfigFault)
bad_names f =
    bad_name_at Process (first_index is_bad_process f.processes)
    ∷ bad_name_at Actor (position is_bad_actor f.actors)
    ∷ bad_name_at Protect (first_index (is_bad_protection f.processes) f.protections)
    ∷ []

-- the first bad name
abbrev pub first_bad_name : Fields → Option ConfigFault
first_bad_name f = slice_get (filter_map (λ fault. fault) (bad_names f)) 0

-- ---- policies and the setup

-- the texts are those of the policies
abbrev pub AreRead : List (List ℕ) → List Tree → Type 0
AreRead [] [] = Unit {0}
AreRead (text ∷ texts) (policy ∷ policies) = Reads text (Ok policy) × AreRead texts policies
AreRead [] (policy ∷ policies) = ⊥
AreRead (text ∷ texts) [] = ⊥

-- the text is of no policy
abbrev pub IsRefused : List ℕ → Type 0
IsRefused text = (policy : Tree) → Reads text (Ok policy) → ⊥

-- the text at this place is the first that is of no policy
abbrev pub IsFirstRefused : List (List ℕ) → ℕ → Type 0
IsFirstRefused texts index =
    (policies : List Tree) × AreRead (take index texts) policies
    × (text : List ℕ) × (slice_get texts index ≡ Some text) × IsRefused text

-- the place of the process with a name
abbrev pub index_of : List Locality → List ℕ → Option ℕ
index_of processes name = position (λ p. bytes_eq p.process name) processes

-- the number of the process with a name, which is its place
abbrev pub number_of : List Locality → List ℕ → ℕ
number_of processes name = unwrap_or (index_of processes name) 0

-- the grants of the actor with this number
abbrev pub grants_of : ℕ × (Role × List (Members × Scope)) → List Grant
grants_of actor =
    map (λ grant. record { actor = actor.0; kinds = grant.0; scope = grant.1 }) actor.1.1

-- the protection of the process that it names
abbrev pub protection_in : List Locality → List ℕ × Members → Protection
protection_in processes protection =
    record { process = record { 0 = number_of processes protection.0 }; kinds = protection.1 }

-- what the parts of a file begin a cluster with
abbrev pub setup_in : Fields → List Tree → Setup
setup_in f policies =
    setup_of f.processes policies (map (λ actor. actor.0) f.actors)
    (flat_map grants_of (enumerate_from 0 f.actors))
    (map (protection_in f.processes) f.protections)
    (unwrap_or (limit_given f.journal_limit) 0)

-- what parts within their limits and with good names are: all policies have to be met
abbrev pub NamedIs : Fields → Result Setup ConfigFault → Type 0
NamedIs f (Ok setup) =
    (policies : List Tree) × AreRead f.policies policies
    × (setup ≡ setup_in f policies) × (config_refusal setup ≡ None)
NamedIs f (Err (Policy index)) = IsFirstRefused f.policies index
NamedIs f (Err (PolicyUnmet index)) =
    (policies : List Tree) × AreRead f.policies policies
    × (config_refusal (setup_in f policies) ≡ Some (make.PolicyUnmet index))
NamedIs f (Err _) = ⊥

-- what the parts of a file are: limits come first, and then names
abbrev pub FieldsAre : Fields → Result Setup ConfigFault → Type 0
FieldsAre f answer =
    MatchOption (first_outside f)
    (MatchOption (first_bad_name f) (NamedIs f answer) (λ fault. answer ≡ Err fault))
    (λ part. answer ≡ Err (Limit part))

-- what a document is
abbrev pub DocumentIs : Entries → Result Setup ConfigFault → Type 0
DocumentIs ms answer =
    MatchResult (fields_of ms) (λ f. FieldsAre f answer) (λ fault. answer ≡ Err fault)

-- bytes are no document where they aren't UTF-8, or the text isn't TOML
abbrev pub IsNoDocument : List ℕ → Type 0
IsNoDocument bytes = IsUtf8 bytes → parse_document bytes ≡ None

-- bytes of one document
abbrev pub IsDocument : List ℕ → Entries → Type 0
IsDocument bytes ms = IsUtf8 bytes × (parse_document bytes ≡ Some ms)

-- what the bytes of a cluster file are: the setup that they spell, or the first fault
abbrev pub ConfigOf : List ℕ → Result Setup ConfigFault → Type 0
ConfigOf bytes (Err TooLong) = MOST_FILE_BYTES < length bytes
ConfigOf bytes (Err Toml) = (length bytes ≤ MOST_FILE_BYTES) × IsNoDocument bytes
ConfigOf bytes answer =
    (length bytes ≤ MOST_FILE_BYTES)
    × (ms : Entries) × IsDocument bytes ms × DocumentIs ms answer

-- what holds of an answer, save where an allocation failure takes its place
abbrev pub UnlessOom : {A : Type 0}
    → (Result A ConfigFault → Type 0) → Result A ConfigFault → Type 0
UnlessOom Holds (Err NoMemory) = Unit {0}
UnlessOom Holds answer = Holds answer

-- an answer is what the bytes are; an allocation failure can take the place of any
abbrev pub Answers : List ℕ → Result Setup ConfigFault → Type 0
Answers bytes answer = UnlessOom (ConfigOf bytes) answer
