-- the next line, by what the parts of the input say
use Rattle.std.proofs.Common.{◌≡◌, ◌∙◌, ◌⊎◌, inl, inr, Bool, true, false, cond, eqb, leb, ℕ, List, [], ◌∷◌, length, Option, Some, None, refl, sym, ap, subst, arith}
use Rattle.std.specs.Prelude.{Result, Ok, Err, IfErr}
use Rattle.std.specs.Option.{ok_or}
use Rattle.std.specs.Set.{is_member}
use Rattle.std.specs.Str.{bytes_eq}
use Rattle.std.proofs.lemmas.Bool.Decides.{nat_tests}
use Rattle.fy_locality.specs.declared.ProcId.{ProcId}
use Rattle.fy_locality.specs.declared.locality.Locality.{Locality}
use Rattle.fy_locality.specs.declared.key.Key.TheVariants.{Process}
use Rattle.fy_locality.specs.declared.map.MapFault.{MapFault}
use Rattle.fy_locality.specs.declared.map.MapFault.TheVariants.{Twice, TooMany, NoMemory}
use Rattle.fy_locality.specs.Locality.{values_of, id_refusal}
use Rattle.fy_policy.specs.declared.fault.PolicyFault.{PolicyFault}
use Rattle.fy_policy.specs.declared.fault.PolicyFault.TheVariants.{TooLong as PolicyTooLong, Syntax as PolicySyntax, Count as PolicyCount, Depth as PolicyDepth, Nodes as PolicyNodes, NoMemory as PolicyNoMemory}
use Rattle.fy_policy.specs.Reading.{Reads}
use Rattle.fy_judge.specs.declared.stop.JudgeFault.{JudgeFault}
use Rattle.fy_judge.specs.declared.stop.JudgeFault.TheVariants.{Syntax}
use Rattle.fy_judge.specs.declared.line.Keyword.{Keyword}
use Rattle.fy_judge.specs.JudgeLines.{Input, policy, process, tokens_of, keyword_of, parse_arguments, parse_tokens, parse_line, Step, unread, policy_refused, process_twice, process_too_many}
use Rattle.fy_judge.specs.JudgeViews.{IfFault, policy_fault_of, process_fault_of}
use Rattle.fy_judge.proofs.WordLemmas.{no_words_said}

-- what an answer of Map::push says of why it refuses
module _ (o : Option MapFault) (r : Result ProcId MapFault) (refused : (f : MapFault) → o ≡ Some f → r ≡ Err f) (memory : o ≡ None → IfErr r (λ e. e ≡ NoMemory)) where
  pub unrefused : (p : ProcId) → r ≡ Ok p → o ≡ None
  unrefused p ok = go o refl
    where
      go : (x : Option MapFault) → o ≡ x → o ≡ None
      go None is = is
      go (Some f) is = let e : r ≡ Err f = refused f is in absurd (let y : ⊥ = cc in y)

  pub settled : (f : MapFault) → r ≡ Err f → (f ≡ NoMemory) ⊎ (o ≡ Some f)
  settled f err = go o refl
    where
      go : (x : Option MapFault) → o ≡ x → (f ≡ NoMemory) ⊎ (o ≡ Some f)
      go None is = inl (subst (λ x. IfErr x (λ e. e ≡ NoMemory)) err (memory is))
      go (Some g) is = let e : r ≡ Err g = refused g is in inr (is ∙ ap Some (let same : g ≡ f = cc in same))

-- a process whose names are names is refused for two reasons alone
two_reasons : (processes : List Locality) (id : List ℕ) (f : MapFault) → id_refusal processes id ≡ Some f → (f ≡ Twice) ⊎ (f ≡ TooMany)
two_reasons processes id f e = go (is_member bytes_eq (values_of processes Process) id) (leb 1024 (length processes)) e
  where
    go : (a b : Bool) → cond a (Some Twice) (cond b (Some TooMany) None) ≡ Some f → (f ≡ Twice) ⊎ (f ≡ TooMany)
    go true b e = inl (let x : f ≡ Twice = cc in x)
    go false true e = inr (let x : f ≡ TooMany = cc in x)
    go false false e = absurd (let x : ⊥ = cc in x)

-- the fault of a process's line
pub process_refused : (i : Input) (new : Locality) (f : MapFault) → (i.policies ≡ [] → ⊥) → i.asks ≡ [] → (f ≡ NoMemory) ⊎ (id_refusal i.processes new.process ≡ Some f) → IfFault (process_fault_of f) (λ fault. Step i (Some (process new)) (Err fault))
process_refused i new f some none (inl e) = subst (λ g. IfFault (process_fault_of g) (λ fault. Step i (Some (process new)) (Err fault))) (sym e) tt
process_refused i new f some none (inr e) = go (two_reasons i.processes new.process f e)
  where
    go : (f ≡ Twice) ⊎ (f ≡ TooMany) → IfFault (process_fault_of f) (λ fault. Step i (Some (process new)) (Err fault))
    go (inl h) = subst (λ g. IfFault (process_fault_of g) (λ fault. Step i (Some (process new)) (Err fault))) (sym h) (process_twice new some none (e ∙ ap Some h))
    go (inr h) = subst (λ g. IfFault (process_fault_of g) (λ fault. Step i (Some (process new)) (Err fault))) (sym h) (process_too_many new some none (e ∙ ap Some h))

pub untrue : {T : Type 0} (b : Bool) → b ≡ false → b ≡ true → T
untrue b e f = absurd (let x : ⊥ = cc in x)

-- the fault of a policy's line
pub policy_line_refused : (i : Input) (text : List ℕ) (f : PolicyFault) → i.processes ≡ [] → Reads text (Err f) → IfFault (policy_fault_of f) (λ fault. Step i (Some (policy text)) (Err fault))
policy_line_refused i text PolicyTooLong none reads = policy_refused text PolicyTooLong none reads (λ e. let x : ⊥ = cc in x)
policy_line_refused i text PolicySyntax none reads = policy_refused text PolicySyntax none reads (λ e. let x : ⊥ = cc in x)
policy_line_refused i text PolicyCount none reads = policy_refused text PolicyCount none reads (λ e. let x : ⊥ = cc in x)
policy_line_refused i text PolicyDepth none reads = policy_refused text PolicyDepth none reads (λ e. let x : ⊥ = cc in x)
policy_line_refused i text PolicyNodes none reads = policy_refused text PolicyNodes none reads (λ e. let x : ⊥ = cc in x)
policy_line_refused i text PolicyNoMemory none reads = tt

-- what `is_empty` says of a list
pub empty_list : {X : Type 0} (xs : List X) (n : ℕ) (b : Bool) → b ≡ eqb n 0 → n ≡ length xs → b ≡ true → xs ≡ []
empty_list [] n b test is e = refl
empty_list (x ∷ xs) n b test is e = absurd (let z : eqb n 0 ≡ true = sym test ∙ e in let y : n ≡ 0 = grind (arith, nat_tests) in omega arith)

pub full_list : {X : Type 0} (xs : List X) (n : ℕ) (b : Bool) → b ≡ eqb n 0 → n ≡ length xs → b ≡ false → xs ≡ [] → ⊥
full_list xs n b test is e none = let l : n ≡ 0 = is ∙ ap length none in let z : eqb n 0 ≡ false = sym test ∙ e in let x : ⊥ = grind (arith, nat_tests) in x

-- where `ok_or` gives a fault there is nothing, and it is that fault
pub missing : {T : Type 0} (o : Option T) (r : Result T JudgeFault) (fault e : JudgeFault) → r ≡ ok_or o fault → r ≡ Err e → (o ≡ None) × (e ≡ fault)
missing None r fault e given is = (refl, let same : e ≡ fault = cc in same)
missing (Some x) r fault e given is = absurd (let none : ⊥ = cc in none)

-- ---- a line that says nothing
pub unsaid : (i : Input) (line : List ℕ) → parse_line line ≡ None → Step i (parse_line line) (Err Syntax)
unsaid i line none = subst (λ o. Step i o (Err Syntax)) (sym none) unread

pub said_behind : (line word rest : List ℕ) → tokens_of line ≡ word ∷ tokens_of rest → parse_line line ≡ parse_arguments (keyword_of word) (tokens_of rest)
said_behind line word rest is = ap parse_tokens is

pub lone_unsaid : (i : Input) (line word : List ℕ) → tokens_of line ≡ word ∷ [] → Step i (parse_line line) (Err Syntax)
lone_unsaid i line word is = unsaid i line (ap parse_tokens is ∙ no_words_said (keyword_of word))

pub keyword_unsaid : (i : Input) (line word rest : List ℕ) (k : Option Keyword) → tokens_of line ≡ word ∷ tokens_of rest → k ≡ keyword_of word → parse_arguments k (tokens_of rest) ≡ None → Step i (parse_line line) (Err Syntax)
keyword_unsaid i line word rest k is key none = unsaid i line (said_behind line word rest is ∙ ap (λ k. parse_arguments k (tokens_of rest)) (sym key) ∙ none)
