-- what each table of a cluster file spells, where its keys are known and their values of the right
-- type
use Rattle.std.specs.Prelude.{ℕ, ℤ, List, [], ◌∷◌, codes, nat_eq, Bool, true, false, ◌&&◌, Option, Some, None, option_map, bytes_eq}
use Rattle.std.specs.Cmp.Lexicographic.{pointwise}
use Rattle.std.specs.List.{find, list_any}
use Rattle.toml.specs.Data.{Data, Items, no_items, item, Members as Entries, no_members, member, get_member, as_str, as_integer, as_array, as_table}
use Rattle.fy_locality.specs.Chain.{◌>>=◌}
use Rattle.fy_locality.specs.Key.{key_named}
use Rattle.fy_locality.specs.Locality.{locality_of}
use Rattle.fy_locality.specs.declared.locality.Locality.{Locality}
use Rattle.fy_kinds.specs.Kinds.{no_deed, in_either, set_named}
use Rattle.fy_kinds.specs.Members.{Members}
use Rattle.fy_grants.specs.declared.grant.Scope.{Scope}
use Rattle.fy_grants.specs.declared.grant.Scope.TheVariants.{All, Where}
use Rattle.fy_cluster.specs.declared.role.Role.{Role}
use Rattle.fy_cluster.specs.declared.role.Role.TheVariants.{Fault, Storage, Operator}

-- something exactly where a test holds
abbrev pub provided : Bool → Option Bool
provided true = Some true
provided false = None

-- every key is one of these
abbrev pub has_only : List (List ℕ) → Entries → Bool
has_only keys no_members = true
has_only keys (member k d ms) = list_any (bytes_eq k) keys && has_only keys ms

-- the values of all items, where each has one
abbrev pub all_of : {A : Type 0} → (Data → Option A) → Items → Option (List A)
all_of f no_items = Some []
all_of f (item d ds) = f d >>= λ x. option_map (λ xs. x ∷ xs) (all_of f ds)

-- the text at a key
abbrev pub text_at : List ℕ → Entries → Option (List ℕ)
text_at key ms = get_member key ms >>= as_str

-- the whole number at a key
abbrev pub integer_at : List ℕ → Entries → Option ℤ
integer_at key ms = get_member key ms >>= as_integer

-- the text, if there is a value
abbrev pub text_if_any : Option Data → Option (Option (List ℕ))
text_if_any None = Some None
text_if_any (Some d) = option_map Some (as_str d)

-- the list of the values of an array
abbrev pub list_of : {A : Type 0} → (Data → Option A) → Data → Option (List A)
list_of f d = as_array d >>= all_of f

-- the list, which is empty where there is no value
abbrev pub list_if_any : {A : Type 0} → (Data → Option A) → Option Data → Option (List A)
list_if_any f None = Some []
list_if_any f (Some d) = list_of f d

-- ---- processes

-- the keys of a table of a process
abbrev pub process_keys : List (List ℕ)
process_keys =
    codes "processid" ∷ codes "machineid" ∷ codes "zoneid" ∷ codes "data_hall" ∷ codes "dcid" ∷ []

-- the texts of a process, of which the last two may be missing
abbrev pub process_in : Entries → Option Locality
process_in ms = do
  process ← text_at (codes "processid") ms
  machine ← text_at (codes "machineid") ms
  zone ← text_at (codes "zoneid") ms
  data_hall ← text_if_any (get_member (codes "data_hall") ms)
  data_center ← text_if_any (get_member (codes "dcid") ms)
  Some (locality_of process machine zone data_hall data_center)

-- a process is a table of these keys and texts
abbrev pub process_of : Data → Option Locality
process_of d = do
  ms ← as_table d
  known ← provided (has_only process_keys ms)
  process_in ms

-- ---- sets of kinds

-- the set of the kind that a word names
abbrev pub kind_set_of : Data → Option Members
kind_set_of d = as_str d >>= set_named

-- the kinds of all sets together
abbrev pub union_of : List Members → Members
union_of [] = no_deed
union_of (kinds ∷ more) = in_either kinds (union_of more)

-- the set of the kinds that an array of words names
abbrev pub kinds_at : List ℕ → Entries → Option Members
kinds_at key ms = option_map union_of (get_member key ms >>= list_of kind_set_of)

-- ---- grants and actors

-- the processes with one value of a key
abbrev pub scope_where : Data → Data → Option Scope
scope_where key value = do
  word ← as_str key
  named ← key_named word
  text ← as_str value
  Some (Where (record { key = named; value = text }))

-- the scope of a grant has both a key and a value, or neither, and then it is all processes
abbrev pub scope_of : Option Data → Option Data → Option Scope
scope_of None None = Some All
scope_of (Some key) (Some value) = scope_where key value
scope_of (Some key) None = None
scope_of None (Some value) = None

-- the keys of a table of a grant
abbrev pub grant_keys : List (List ℕ)
grant_keys = codes "kinds" ∷ codes "key" ∷ codes "value" ∷ []

-- the kinds and the scope of a grant
abbrev pub grant_in : Entries → Option (Members × Scope)
grant_in ms = do
  kinds ← kinds_at (codes "kinds") ms
  scope ← scope_of (get_member (codes "key") ms) (get_member (codes "value") ms)
  Some (kinds, scope)

-- a grant is a table of kinds and a scope
abbrev pub grant_of : Data → Option (Members × Scope)
grant_of d = do
  ms ← as_table d
  known ← provided (has_only grant_keys ms)
  grant_in ms

-- how roles are written
abbrev pub role_text : Role → List ℕ
role_text Fault = codes "fault"
role_text Storage = codes "storage"
role_text Operator = codes "operator"

-- the role that is written so
abbrev pub role_named : List ℕ → Option Role
role_named word =
    find (λ role. pointwise nat_eq (role_text role) word) (Fault ∷ Storage ∷ Operator ∷ [])

-- the role at its key
abbrev pub role_at : Entries → Option Role
role_at ms = text_at (codes "role") ms >>= role_named

-- the keys of a table of an actor
abbrev pub actor_keys : List (List ℕ)
actor_keys = codes "role" ∷ codes "grants" ∷ []

-- an actor is a table of a role and grants, which may be missing
abbrev pub actor_of : Data → Option (Role × List (Members × Scope))
actor_of d = do
  ms ← as_table d
  known ← provided (has_only actor_keys ms)
  role ← role_at ms
  grants ← list_if_any grant_of (get_member (codes "grants") ms)
  Some (role, grants)

-- ---- protections

-- the keys of a table of a protection
abbrev pub protection_keys : List (List ℕ)
protection_keys = codes "process" ∷ codes "kinds" ∷ []

-- a protection is a table of the text of a process and kinds
abbrev pub protection_of : Data → Option (List ℕ × Members)
protection_of d = do
  ms ← as_table d
  known ← provided (has_only protection_keys ms)
  process ← text_at (codes "process") ms
  kinds ← kinds_at (codes "kinds") ms
  Some (process, kinds)
