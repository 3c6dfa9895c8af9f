-- a document is never refused as too long or as no document
use Rattle.std.proofs.Common.{◌≡◌, ◌≤◌, ℕ, ℤ, Bool, List, [], ◌∷◌, length, Option, Some, None, refl, sym, subst}
use Rattle.std.specs.Prelude.{Result, Ok, Err, MatchOption, MatchResult, slice_get}
use Rattle.std.specs.List.{filter_map}
use Rattle.toml.specs.Data.{Members as Entries}
use Rattle.fy_locality.specs.declared.locality.Locality.{Locality}
use Rattle.fy_kinds.specs.Members.{Members}
use Rattle.fy_grants.specs.declared.grant.Scope.{Scope}
use Rattle.fy_cluster.specs.Setup.{Setup}
use Rattle.fy_cluster.specs.declared.role.Role.{Role}
use Rattle.fy_config.specs.declared.fault.Part.{Part}
use Rattle.fy_config.specs.declared.fault.ConfigFault.{ConfigFault}
use Rattle.fy_config.specs.declared.fault.Part.TheVariants.{JournalLimit, Policies, Process, Actor, Protect, Unknown}
use Rattle.fy_config.specs.declared.fault.ConfigFault.TheVariants.{TooLong, Toml, Field, Limit, Name, Policy, PolicyUnmet, NoMemory}
use Rattle.fy_config.specs.declared.limits.TheConstants.{MOST_FILE_BYTES}
use Rattle.fy_config.specs.Config.{Fields, fields_from, fields_of, FieldsAre, DocumentIs, NamedIs, IsDocument, ConfigOf, Answers, UnlessOom, first_outside, first_bad_name, bad_name_at}

-- what a document may be
abbrev pub IsOfDocument : Result Setup ConfigFault → Type 0
IsOfDocument (Err TooLong) = ⊥
IsOfDocument (Err Toml) = ⊥
IsOfDocument answer = Unit {0}

-- parts that spell nothing are told as fields
field_fault :
    (journal_limit : Option ℤ) (policies : Option (List (List ℕ))) (processes : Option (List Locality))
    (actors : Option (List (Role × List (Members × Scope)))) (protections : Option (List (List ℕ × Members)))
    (known : Option Bool) (fault : ConfigFault)
    → fields_from journal_limit policies processes actors protections known ≡ Err fault
    → (part : Part) × (Field part ≡ fault)
field_fault None policies processes actors protections known fault e = (JournalLimit, cc)
field_fault (Some a) None processes actors protections known fault e = (Policies, cc)
field_fault (Some a) (Some b) None actors protections known fault e = (Process, cc)
field_fault (Some a) (Some b) (Some c) None protections known fault e = (Actor, cc)
field_fault (Some a) (Some b) (Some c) (Some d) None known fault e = (Protect, cc)
field_fault (Some a) (Some b) (Some c) (Some d) (Some g) None fault e = (Unknown, cc)
field_fault (Some a) (Some b) (Some c) (Some d) (Some g) (Some h) fault e = absurd (let none : ⊥ = cc in none)

-- the first of bad names is one
name_fault :
    (process actor protection : Option ℕ) (fault : ConfigFault)
    → slice_get (filter_map (λ fault. fault) (bad_name_at Process process ∷ bad_name_at Actor actor ∷ bad_name_at Protect protection ∷ [])) 0 ≡ Some fault
    → (part : Part) × (index : ℕ) × (Name part index ≡ fault)
name_fault (Some i) actor protection fault e = (Process, i, cc)
name_fault None (Some i) protection fault e = (Actor, i, cc)
name_fault None None (Some i) fault e = (Protect, i, cc)
name_fault None None None fault e = absurd (let none : ⊥ = cc in none)

of_same :
    (fault other : ConfigFault) (answer : Result Setup ConfigFault)
    → answer ≡ Err other → fault ≡ other → IsOfDocument (Err fault) → IsOfDocument answer
of_same fault other answer is same h =
    subst IsOfDocument (sym is) (subst (λ (it : ConfigFault). IsOfDocument (Err it)) same h)

of_named : (f : Fields) (answer : Result Setup ConfigFault) → NamedIs f answer → IsOfDocument answer
of_named f (Ok setup) h = tt
of_named f (Err TooLong) h = absurd h
of_named f (Err Toml) h = absurd h
of_named f (Err (Field part)) h = tt
of_named f (Err (Limit part)) h = tt
of_named f (Err (Name part index)) h = tt
of_named f (Err (Policy index)) h = tt
of_named f (Err (PolicyUnmet index)) h = tt
of_named f (Err NoMemory) h = tt

pub of_document : (ms : Entries) (answer : Result Setup ConfigFault) → DocumentIs ms answer → IsOfDocument answer
of_document ms answer = go (fields_of ms) refl
  where
    names : (f : Fields) (bad : Option ConfigFault) → first_bad_name f ≡ bad
        → MatchOption bad (NamedIs f answer) (λ fault. answer ≡ Err fault) → IsOfDocument answer
    names f None is h = of_named f answer h
    names f (Some fault) is h =
        let (part, index, same) = name_fault _ _ _ fault is in
        of_same (Name part index) fault answer h same tt

    limits : (f : Fields) (outside : Option Part)
        → MatchOption outside (MatchOption (first_bad_name f) (NamedIs f answer) (λ fault. answer ≡ Err fault)) (λ part. answer ≡ Err (Limit part))
        → IsOfDocument answer
    limits f None h = names f (first_bad_name f) refl h
    limits f (Some part) h = of_same (Limit part) (Limit part) answer h refl tt

    go : (read : Result Fields ConfigFault) → fields_of ms ≡ read
        → MatchResult read (λ f. FieldsAre f answer) (λ fault. answer ≡ Err fault) → IsOfDocument answer
    go (Ok f) is h = limits f (first_outside f) h
    go (Err fault) is h =
        let (part, same) = field_fault _ _ _ _ _ _ fault is in
        of_same (Field part) fault answer h same tt

-- bytes of a document are what the document is
pub config_document :
    (bytes : List ℕ) (ms : Entries) (answer : Result Setup ConfigFault)
    → length bytes ≤ MOST_FILE_BYTES → IsDocument bytes ms → DocumentIs ms answer → ConfigOf bytes answer
config_document bytes ms answer short document is = go answer (of_document ms answer is) is
  where
    go : (it : Result Setup ConfigFault) → IsOfDocument it → DocumentIs ms it → ConfigOf bytes it
    go (Ok setup) later h = (short, ms, document, h)
    go (Err TooLong) later h = absurd later
    go (Err Toml) later h = absurd later
    go (Err (Field part)) later h = (short, ms, document, h)
    go (Err (Limit part)) later h = (short, ms, document, h)
    go (Err (Name part index)) later h = (short, ms, document, h)
    go (Err (Policy index)) later h = (short, ms, document, h)
    go (Err (PolicyUnmet index)) later h = (short, ms, document, h)
    go (Err NoMemory) later h = (short, ms, document, h)

-- an answer about a document is one about its bytes
pub answers_document :
    (bytes : List ℕ) (ms : Entries) (answer : Result Setup ConfigFault)
    → length bytes ≤ MOST_FILE_BYTES → IsDocument bytes ms → UnlessOom (DocumentIs ms) answer
    → Answers bytes answer
answers_document bytes ms (Ok setup) short document h = config_document bytes ms (Ok setup) short document h
answers_document bytes ms (Err TooLong) short document h = config_document bytes ms (Err TooLong) short document h
answers_document bytes ms (Err Toml) short document h = config_document bytes ms (Err Toml) short document h
answers_document bytes ms (Err (Field part)) short document h = config_document bytes ms (Err (Field part)) short document h
answers_document bytes ms (Err (Limit part)) short document h = config_document bytes ms (Err (Limit part)) short document h
answers_document bytes ms (Err (Name part index)) short document h = config_document bytes ms (Err (Name part index)) short document h
answers_document bytes ms (Err (Policy index)) short document h = config_document bytes ms (Err (Policy index)) short document h
answers_document bytes ms (Err (PolicyUnmet index)) short document h = config_document bytes ms (Err (PolicyUnmet index)) short document h
answers_document bytes ms (Err NoMemory) short document h = tt
