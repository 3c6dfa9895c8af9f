-- what `bears` warns people of
use Rattle.std.specs.Prelude.{ℕ, zero, suc, ◌/◌, ◌==◌, ◌&&◌, ◌||◌, nat_lt, List, [], ◌++◌, Bool, true, false, not, bytes_eq, codes, length, Option, Some, None, slice_get, slice_index_or, if◌then◌else◌}
use Rattle.std.specs.FinSet as sets
use Rattle.fy_locality.specs.declared.locality.Locality.{Locality}
use Rattle.fy_locality.specs.declared.key.Key.{Key}
use Rattle.fy_locality.specs.declared.key.Key.TheVariants.{Process, Machine, Zone, DataHall, DataCenter}
use Rattle.fy_locality.specs.Key.{key_text}
use Rattle.fy_locality.specs.Locality.{values_of}
use Rattle.fy_policy.specs.Tree.{Tree, one, across, every, Parts, none, part}
use Rattle.fy_tolerance.specs.declared.borne.Findings.{Findings}
use Rattle.fy_tolerance.specs.declared.tolerance.Tolerance.{Tolerance}
use Rattle.fy_bears.specs.Pieces.{between, each_below}

-- a policy bears that more than half of all are emptied
abbrev pub most_text : (i any : ℕ) → List ℕ
most_text i any =
    between (codes "warning: policy ") i (between (codes " bears that ") any
    (codes " processes are emptied, more than half: a majority store has then lost its quorum\n"))

-- it bears no emptied process, or more than half of all
abbrev pub emptied_warning : (half i : ℕ) → Option Tolerance → List ℕ
emptied_warning half i None = []
emptied_warning half i (Some found) =
    if found.any == 0
    then between (codes "warning: some single process is too many for policy ") i (codes "\n")
    else if nat_lt half found.any then most_text i found.any
    else []

-- so it is of each policy
abbrev pub emptied_warnings : ℕ → List Tolerance → List ℕ
emptied_warnings half found =
    each_below (λ i. emptied_warning half i (slice_get found i)) (length found)

-- a process is left, and may be killed for good
abbrev pub may_go : Findings → ℕ → Bool
may_go findings p =
    sets.contains findings.left p && slice_index_or findings.gone.processes.items p false

-- some process below a number is
abbrev pub may_any_go : Findings → ℕ → Bool
may_any_go findings zero = false
may_any_go findings (suc p) = may_any_go findings p || may_go findings p

-- who may not be killed for good
abbrev pub who_text : Bool → List ℕ
who_text true = codes "some process may not"
who_text false = codes "no process may"

-- no process may be emptied, or any one killed for good
abbrev pub is_quiet : Findings → Bool
is_quiet findings = findings.emptied.any == 0 || not (findings.gone.any == 0)

-- that too few would be left
abbrev pub few_text : (some_may : Bool) → List ℕ
few_text some_may =
    codes "warning: " ++ (who_text some_may
    ++ codes " be killed for good: too few would be left\n")

-- any one process may be emptied, and not any one killed for good
abbrev pub gone_warning : List Locality → Findings → List ℕ
gone_warning processes findings =
    if is_quiet findings then [] else few_text (may_any_go findings (length processes))

-- keys with one text are one
abbrev pub is_same : Key → Key → Bool
is_same named key = bytes_eq (key_text named) (key_text key)

abbrev mutual
  -- a policy names a key
  pub names : Key → Tree → Bool
  names key one = false
  names key (across n named policy) = is_same named key || names key policy
  names key (every parts) = any_names key parts

  -- a part of it does
  pub any_names : Key → Parts → Bool
  any_names key none = false
  any_names key (part policy parts) = names key policy || any_names key parts

-- how few values a key has
abbrev pub lone_text : ℕ → List ℕ
lone_text values =
    if values == 0 then codes ", which no process has\n"
    else codes ", of which there is one value only\n"

-- a policy names a key of fewer than two values
abbrev pub key_warning : List Locality → ℕ → Tree → Key → List ℕ
key_warning processes i policy key =
    if nat_lt (length (values_of processes key)) 2 && names key policy
    then between (codes "warning: policy ") i (codes " names ")
    ++ (key_text key ++ lone_text (length (values_of processes key)))
    else []

-- of each key
abbrev pub policy_warnings : List Locality → ℕ → Option Tree → List ℕ
policy_warnings processes i None = []
policy_warnings processes i (Some policy) =
    key_warning processes i policy Process ++ (key_warning processes i policy Machine
    ++ (key_warning processes i policy Zone ++ (key_warning processes i policy DataHall
    ++ key_warning processes i policy DataCenter)))

-- and of each policy
abbrev pub keys_warnings : List Locality → List Tree → List ℕ
keys_warnings processes policies =
    each_below (λ i. policy_warnings processes i (slice_get policies i)) (length policies)

-- all that is warned of, a line for each
abbrev pub warning_lines : List Locality → List Tree → Findings → List ℕ
warning_lines processes policies findings =
    emptied_warnings (length processes / 2) findings.emptied.tolerances.items
    ++ (gone_warning processes findings ++ keys_warnings processes policies)

-- lines behind an empty one, if there are any
abbrev pub apart : List ℕ → List ℕ
apart lines = if length lines == 0 then [] else codes "\n" ++ lines

-- what is warned of
abbrev pub warnings_text : List Locality → List Tree → Findings → List ℕ
warnings_text processes policies findings = apart (warning_lines processes policies findings)
