-- what a line of judge's input says, and what it does to what was said before
use Rattle.std.specs.Prelude.{◌≡◌, ◌≢◌, ℕ, ◌<◌, ◌≤◌, Bool, ◌&&◌, ◌==◌, nat_lt, List, [], ◌∷◌, ◌++◌, length, Option, Some, None, Result, Ok, Err, codes, if◌then◌else◌}
use Rattle.std.specs.List.{list_all, AllByRecursion}
use Rattle.std.specs.Str.{bytes_eq}
use Rattle.fy_locality.specs.declared.locality.Locality.{Locality}
use Rattle.fy_locality.specs.declared.key.Key.TheVariants.{Process}
use Rattle.fy_locality.specs.declared.map.MapFault.TheVariants.{Twice as twice, TooMany as too_many}
use Rattle.fy_locality.specs.Locality.{value_of, locality_of, are_names, id_refusal}
use Rattle.fy_locality.specs.Name.{is_name}
use Rattle.fy_policy.specs.declared.limits.TheConstants.{MOST_POLICIES}
use Rattle.fy_policy.specs.Tree.{Tree}
use Rattle.fy_policy.specs.Reading.{Reads}
use Rattle.fy_policy.specs.declared.fault.PolicyFault.{PolicyFault}
use Rattle.fy_policy.specs.declared.fault.PolicyFault.TheVariants.{NoMemory as no_memory}
use Rattle.fy_decide.specs.declared.dead_book.Loss.{Loss}
use Rattle.fy_decide.specs.declared.dead_book.Loss.TheVariants.{Emptied, Gone}
use Rattle.fy_lines.specs.Lines.{onto_first}
use Rattle.fy_judge.specs.declared.line.Ask.{Ask}
use Rattle.fy_judge.specs.declared.line.Keyword.{Keyword}
use Rattle.fy_judge.specs.declared.line.Keyword.TheVariants.{Policy as KeywordPolicy, Process as KeywordProcess, Ask as KeywordAsk}
use Rattle.fy_judge.specs.declared.stop.JudgeFault.{JudgeFault}
use Rattle.fy_judge.specs.declared.stop.JudgeFault.TheVariants.{Syntax, Policy, Twice, TooMany, Unknown}

-- the words of a line, separated by exactly one blank
abbrev pub tokens_of : List ℕ → List (List ℕ)
tokens_of [] = [] ∷ []
tokens_of (x ∷ xs) = if x == 32 then [] ∷ tokens_of xs else onto_first x (tokens_of xs)

-- a policy's text, a process, or an ask with the ID that it names
pub data ParsedLine : Type 0 where
  policy : List ℕ → ParsedLine
  process : Locality → ParsedLine
  ask : Loss → List ℕ → ParsedLine

-- what the first word of a line announces
abbrev pub keyword_of : List ℕ → Option Keyword
keyword_of word =
    if bytes_eq word (codes "policy") then Some KeywordPolicy
    else (if bytes_eq word (codes "proc") then Some KeywordProcess
    else (if bytes_eq word (codes "destroy") then Some (KeywordAsk Gone)
    else (if bytes_eq word (codes "empty") then Some (KeywordAsk Emptied) else None)))

-- whether there is a text and none of its bytes is above 127
abbrev pub is_text : List ℕ → Bool
is_text word = nat_lt 0 (length word) && list_all (λ b. nat_lt b 128) word

-- `-` for a data hall or a data centre means that it is absent
abbrev pub known : List ℕ → Option (List ℕ)
known word = if bytes_eq word (codes "-") then None else Some word

-- what the words behind the first say
abbrev pub parse_arguments : Option Keyword → List (List ℕ) → Option ParsedLine
parse_arguments (Some KeywordPolicy) (word ∷ []) = if is_text word then Some (policy word) else None
parse_arguments (Some (KeywordAsk loss)) (word ∷ []) = if is_name word then Some (ask loss word) else None
parse_arguments (Some KeywordProcess) (id ∷ machine ∷ zone ∷ hall ∷ data_center ∷ []) =
    if are_names (locality_of id machine zone (known hall) (known data_center))
    then Some (process (locality_of id machine zone (known hall) (known data_center))) else None
parse_arguments _ _ = None

-- what words say, the first of which is the keyword
abbrev pub parse_tokens : List (List ℕ) → Option ParsedLine
parse_tokens [] = None
parse_tokens (word ∷ words) = parse_arguments (keyword_of word) words

-- what a line says, if it is of the table
abbrev pub parse_line : List ℕ → Option ParsedLine
parse_line line = parse_tokens (tokens_of line)

-- the policies, the processes and the asks so far
pub record Input : Type 0 where
  pub policies : List Tree
  pub processes : List Locality
  pub asks : List Ask

-- nothing said yet
abbrev pub empty_input : Input
empty_input = record { policies = []; processes = []; asks = [] }

-- what comes of the next line: what was said with it, or its first fault
pub data Step (i : Input) : Option ParsedLine → Result Input JudgeFault → Type 0 where
  unread : Step i None (Err Syntax)
  policy_late : (text : List ℕ) → (i.processes ≡ [] → ⊥) → Step i (Some (policy text)) (Err Syntax)
  policy_refused : (text : List ℕ) (fault : PolicyFault) → i.processes ≡ [] →
      Reads text (Err fault) → fault ≢ no_memory → Step i (Some (policy text)) (Err Policy)
  policy_ninth : (text : List ℕ) (tree : Tree) → i.processes ≡ [] → Reads text (Ok tree) →
      MOST_POLICIES ≤ length i.policies → Step i (Some (policy text)) (Err TooMany)
  policy_next : (text : List ℕ) (tree : Tree) → i.processes ≡ [] → Reads text (Ok tree) →
      length i.policies < MOST_POLICIES →
      Step i (Some (policy text)) (Ok (record i { policies = i.policies ++ tree ∷ [] }))
  process_early : (new : Locality) → i.policies ≡ [] → Step i (Some (process new)) (Err Syntax)
  process_late : (new : Locality) → (i.asks ≡ [] → ⊥) → Step i (Some (process new)) (Err Syntax)
  process_twice : (new : Locality) → (i.policies ≡ [] → ⊥) → i.asks ≡ [] →
      id_refusal i.processes new.process ≡ Some twice → Step i (Some (process new)) (Err Twice)
  process_too_many : (new : Locality) → (i.policies ≡ [] → ⊥) → i.asks ≡ [] →
      id_refusal i.processes new.process ≡ Some too_many →
      Step i (Some (process new)) (Err TooMany)
  process_next : (new : Locality) → (i.policies ≡ [] → ⊥) → i.asks ≡ [] →
      id_refusal i.processes new.process ≡ None →
      Step i (Some (process new)) (Ok (record i { processes = i.processes ++ new ∷ [] }))
  ask_early : (loss : Loss) (id : List ℕ) → i.processes ≡ [] →
      Step i (Some (ask loss id)) (Err Syntax)
  ask_unknown : (loss : Loss) (id : List ℕ) → (i.processes ≡ [] → ⊥) →
      ((p : ℕ) → value_of i.processes Process p ≢ Some id) →
      Step i (Some (ask loss id)) (Err Unknown)
  ask_next : (loss : Loss) (id : List ℕ) (p : ℕ) → (i.processes ≡ [] → ⊥) →
      value_of i.processes Process p ≡ Some id →
      Step i (Some (ask loss id))
      (Ok (record i { asks = i.asks ++ record { loss = loss; process = record { 0 = p } } ∷ [] }))

-- lines without a fault, from what was said before them to what is said after them
abbrev pub FollowLines : Input → List (List ℕ) → Input → Type 0
FollowLines i [] j = i ≡ j
FollowLines i (line ∷ lines) j = (k : Input) × Step i (parse_line line) (Ok k) × FollowLines k lines j

-- at most eight policies, and asks of processes that are there
pub record IsInput (i : Input) : Type 0 where
  pub few : length i.policies ≤ MOST_POLICIES
  pub there : AllByRecursion (λ a. a.process.0 < length i.processes) i.asks
