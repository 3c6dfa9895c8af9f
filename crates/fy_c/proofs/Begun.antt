-- why no guard is opened
use Rattle.std.proofs.Common.{inl, inr}
use Rattle.std.proofs.lemmas.Bool.{cases_lt}
use Rattle.std.specs.Prelude.{◌≡◌, ◌<◌, ◌≤◌, ℕ, List, length, IsUtf8, Result, Ok, Err}
use Rattle.fy_cluster.specs.Setup.{Setup}
use Rattle.fy_config.specs.Config.{Answers}
use Rattle.fy_config.specs.declared.fault.ConfigFault.{ConfigFault}
use Rattle.fy_config.specs.declared.fault.ConfigFault.TheVariants.{TooLong, Toml, Field, Limit, Name, Policy, PolicyUnmet, NoMemory}
use Rattle.fy_config.specs.declared.limits.TheConstants.{MOST_FILE_BYTES}
use Rattle.fy_c.specs.Faults.{part_of, place_of, Faults}
use Rattle.fy_c.specs.Opening.{NotOpened}
use Rattle.fy_c.specs.Statuses.{config_status}
use Rattle.fy_c.specs.declared.status.Status.TheVariants as status

-- what a reader of cluster files says of bytes that are too many
abbrev pub IsLong : List ℕ → Result Setup ConfigFault → Type 0
IsLong bytes answer = MOST_FILE_BYTES < length bytes → answer ≡ Err TooLong

-- and of bytes that are no UTF-8
abbrev pub IsNoText : List ℕ → Result Setup ConfigFault → Type 0
IsNoText bytes answer =
    length bytes ≤ MOST_FILE_BYTES → (IsUtf8 bytes → ⊥) → answer ≡ Err Toml

-- behind any other answer it asked for memory
had_none : (bytes : List ℕ) (answer : Result Setup ConfigFault) → IsLong bytes answer →
    IsNoText bytes answer → (answer ≡ Err TooLong → ⊥) → (answer ≡ Err Toml → ⊥) →
    NotOpened bytes status.NoMemory
had_none bytes answer long text not_long not_toml =
    elim (cases_lt MOST_FILE_BYTES (length bytes)) [
      | inl over ↦ absurd (not_long (long over))
      | inr few ↦ NotOpened.no_memory few (λ none. not_toml (text few none))
    ]

not_long : (answer : Result Setup ConfigFault) → answer ≡ Err NoMemory → answer ≡ Err TooLong → ⊥
not_long answer is other = cc

not_toml : (answer : Result Setup ConfigFault) → answer ≡ Err NoMemory → answer ≡ Err Toml → ⊥
not_toml answer is other = cc

ok_differs : (answer : Result Setup ConfigFault) (setup : Setup) (fault : ConfigFault) →
    answer ≡ Ok setup → answer ≡ Err fault → ⊥
ok_differs answer setup fault is other = cc

-- an allocation failed once a file was read
pub had_none_left : (bytes : List ℕ) (answer : Result Setup ConfigFault) (setup : Setup) →
    answer ≡ Ok setup → IsLong bytes answer → IsNoText bytes answer →
    NotOpened bytes status.NoMemory
had_none_left bytes answer setup is long text =
    had_none bytes answer long text (ok_differs answer setup TooLong is)
    (ok_differs answer setup Toml is)

-- a reader of cluster files answers a fault: it is the file's, or an allocation failed
pub not_begun : (bytes : List ℕ) (answer : Result Setup ConfigFault) (fault : ConfigFault) →
    answer ≡ Err fault → IsLong bytes answer → IsNoText bytes answer →
    Answers bytes (Err fault) → NotOpened bytes (config_status fault)
not_begun bytes answer TooLong same long text is = NotOpened.refused TooLong is
not_begun bytes answer Toml same long text is = NotOpened.refused Toml is
not_begun bytes answer (Field part) same long text is = NotOpened.refused (Field part) is
not_begun bytes answer (Limit part) same long text is = NotOpened.refused (Limit part) is
not_begun bytes answer (Name part index) same long text is =
    NotOpened.refused (Name part index) is
not_begun bytes answer (Policy index) same long text is = NotOpened.refused (Policy index) is
not_begun bytes answer (PolicyUnmet index) same long text is =
    NotOpened.refused (PolicyUnmet index) is
not_begun bytes answer NoMemory same long text is =
    had_none bytes answer long text (not_long answer same) (not_toml answer same)

-- and what is told of the fault
pub faults_of : (bytes : List ℕ) (answer : Result Setup ConfigFault) (fault : ConfigFault)
    (part place : ℕ) → answer ≡ Err fault → IsLong bytes answer → IsNoText bytes answer →
    Answers bytes (Err fault) → part ≡ part_of fault → place ≡ place_of fault →
    Faults bytes part place (config_status fault)
faults_of bytes answer TooLong part place same long text is at index =
    Faults.refused TooLong is at index
faults_of bytes answer Toml part place same long text is at index =
    Faults.refused Toml is at index
faults_of bytes answer (Field it) part place same long text is at index =
    Faults.refused (Field it) is at index
faults_of bytes answer (Limit it) part place same long text is at index =
    Faults.refused (Limit it) is at index
faults_of bytes answer (Name it n) part place same long text is at index =
    Faults.refused (Name it n) is at index
faults_of bytes answer (Policy n) part place same long text is at index =
    Faults.refused (Policy n) is at index
faults_of bytes answer (PolicyUnmet n) part place same long text is at index =
    Faults.refused (PolicyUnmet n) is at index
faults_of bytes answer NoMemory part place same long text is at index =
    Faults.no_memory
    (had_none bytes answer long text (not_long answer same) (not_toml answer same))
    at index
