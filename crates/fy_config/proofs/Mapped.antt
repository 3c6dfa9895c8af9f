-- processes that are put into a map one after another
use Rattle.std.proofs.Common.{◌≡◌, ◌∙◌, ◌+◌, ◌<◌, ℕ, Bool, true, false, cond, not, List, [], ◌∷◌, ◌++◌, ◌||◌, leb, subst, length, take, map, bytes_eq, Option, Some, None, refl, sym, ap, arith}
use Rattle.std.specs.Prelude.{slice_get, IfSome, IfErr, Result, Ok, Err}
use Rattle.std.specs.List.{list_any}
use Rattle.std.specs.Set.{is_member}
use Rattle.std.proofs.lemmas.List.{length_push}
use Rattle.std.proofs.lemmas.Option.{cond_some}
use Rattle.std.proofs.lemmas.Slice.Eq.{bytes_eq-Decides}
use Rattle.std.proofs.lemmas.Bool.Decides.{same_from_decides, nat_tests}
use Rattle.fy_locality.specs.Locality.{are_names, value_of, values_of, id_refusal}
use Rattle.fy_locality.specs.declared.ProcId.{ProcId}
use Rattle.fy_locality.specs.declared.TheConstants.{MOST_PROCESSES}
use Rattle.fy_locality.specs.declared.map.MapFault.{MapFault}
use Rattle.fy_locality.specs.declared.map.MapFault.TheVariants.{Twice, TooMany, NoMemory}
use Rattle.fy_locality.specs.Values.{ValuesOccur}
use Rattle.fy_locality.specs.declared.key.Key.TheVariants.{Process}
use Rattle.fy_locality.specs.declared.locality.Locality.{Locality}
use Rattle.fy_config.specs.Given.{process_given}
use Rattle.fy_config.specs.Config.{first_index, is_bad_process}
use Rattle.fy_config.specs.Named.{is_bad_given}
use Rattle.fy_config.proofs.Places.{Passed, passed_more, passed_here, take_at, kept_at, any_at, some_at}

-- a name is among those of the processes exactly where one of them has it
pub taken_is :
    ValuesOccur → (processes : List Locality) (name : List ℕ)
    → is_member bytes_eq (values_of processes Process) name
    ≡ list_any (λ p. bytes_eq p.process name) processes
taken_is occur processes name =
    same_from_decides (is_member bytes_eq (values_of processes Process) name)
    (list_any (λ p. bytes_eq p.process name) processes) (occur processes Process name) (has, given)
  where
    has : list_any (λ p. bytes_eq p.process name) processes ≡ true → (p : ℕ) × (value_of processes Process p ≡ Some name)
    has e =
        let (k, x, at, it) = some_at (λ (p : Locality). bytes_eq p.process name) processes e in
        let same : x.process ≡ name = (bytes_eq-Decides x.process name).0 it in
        let found : value_of processes Process k ≡ Some x.process = rw at in
        (k, found ∙ ap Some same)

    given : (p : ℕ) × (value_of processes Process p ≡ Some name) → list_any (λ p. bytes_eq p.process name) processes ≡ true
    given (p, e) = go (slice_get processes p) refl e
      where
        go : (o : Option Locality) → slice_get processes p ≡ o → value_of processes Process p ≡ Some name → list_any (λ q. bytes_eq q.process name) processes ≡ true
        go None is h = absurd (let none : value_of processes Process p ≡ None = rw is in let c : ⊥ = cc in c)
        go (Some x) is h =
            let one : value_of processes Process p ≡ Some x.process = rw is in
            let same : x.process ≡ name = cc in
            any_at (λ (q : Locality). bytes_eq q.process name) processes p x is ((bytes_eq-Decides x.process name).1 same)

-- a process that was pushed isn't bad
pub pushed_good :
    ValuesOccur → (processes : List Locality) (process : Locality) (result : Result ProcId MapFault) (number : ProcId)
    → ((fault : MapFault) → id_refusal processes process.process ≡ Some fault → result ≡ Err fault)
    → result ≡ Ok number → is_bad_given processes (Some process) ≡ false
pushed_good occur processes process result number refused ok =
    go (is_member bytes_eq (values_of processes Process) process.process) refl
  where
    go : (b : Bool) → is_member bytes_eq (values_of processes Process) process.process ≡ b
        → is_bad_given processes (Some process) ≡ false
    go true is =
        let taken : id_refusal processes process.process ≡ Some Twice =
        ap (λ b. cond b (Some Twice) (cond (leb MOST_PROCESSES (length processes)) (Some TooMany) None)) is in
        let err : result ≡ Err Twice = refused Twice taken in
        absurd (let c : ⊥ = cc in c)
    go false is = sym (taken_is occur processes process.process) ∙ is

-- where there was room, a process that was refused is bad, or an allocation failed
pub refused_bad :
    ValuesOccur → (processes : List Locality) (process : Locality) (result : Result ProcId MapFault)
    → length processes < MOST_PROCESSES
    → (id_refusal processes process.process ≡ None → IfErr result (λ fault. fault ≡ NoMemory))
    → result ≡ Err Twice → is_bad_given processes (Some process) ≡ true
refused_bad occur processes process result room memory err =
    go (is_member bytes_eq (values_of processes Process) process.process) refl
  where
    go : (b : Bool) → is_member bytes_eq (values_of processes Process) process.process ≡ b
        → is_bad_given processes (Some process) ≡ true
    go true is = sym (taken_is occur processes process.process) ∙ is
    go false is =
        let less : leb MOST_PROCESSES (length processes) ≡ false = grind (arith, nat_tests) in
        let free : id_refusal processes process.process ≡ None =
        ap (λ b. cond b (Some Twice) (cond (leb MOST_PROCESSES (length processes)) (Some TooMany) None)) is
        ∙ ap (λ b. cond b (Some TooMany) None) less in
        let other : Twice ≡ NoMemory = subst (λ (r : Result ProcId MapFault). IfErr r (λ fault. fault ≡ NoMemory)) err (memory free) in
        absurd (let c : ⊥ = cc in c)

-- what is kept of a process is bad where its texts are
pub bad_kept :
    (before : List Locality) (texts : Locality)
    → is_bad_given before (process_given texts) ≡ is_bad_process before texts
bad_kept before texts = go (are_names texts)
  where
    go : (b : Bool) → is_bad_given before (cond b (Some texts) None) ≡ (not b || list_any (λ p. bytes_eq p.process texts.process) before)
    go true = refl
    go false = refl

pub kept_is : (texts p : Locality) → process_given texts ≡ Some p → texts ≡ p
kept_is texts p e = (cond_some (are_names texts) texts p e).1

-- the processes up to a place are in the map, and none of them is bad
pub record Mapped (given : List (Option Locality)) (processes : List Locality) (i : ℕ) : Type 0 where
  pub count : length processes ≡ i
  pub so_far : (texts : List Locality) → given ≡ map process_given texts → (processes ≡ take i texts) × Passed is_bad_process texts i

pub mapped_more :
    (given : List (Option Locality)) (processes more : List Locality) (i : ℕ) (process : Option Locality)
    → Mapped given processes i → slice_get given i ≡ Some process
    → is_bad_given processes process ≡ false
    → IfSome process (λ p. more ≡ processes ++ p ∷ [])
    → Mapped given more (i + 1)
mapped_more given processes more i None m at good grown = absurd (let c : ⊥ = cc in c)
mapped_more given processes more i (Some p) m at good grown =
    record {
      count = ap length grown ∙ length_push processes p ∙ ap (λ n. n + 1) m.count;
      so_far = λ texts kept. go texts kept (kept_at process_given texts given i (Some p) kept at) (m.so_far texts kept);
    }
  where
    go : (texts : List Locality) → given ≡ map process_given texts
        → (t : Locality) × (slice_get texts i ≡ Some t) × (process_given t ≡ Some p)
        → (processes ≡ take i texts) × Passed is_bad_process texts i
        → (more ≡ take (i + 1) texts) × Passed is_bad_process texts (i + 1)
    go texts kept (t, is, same) (front, passed) =
        let here : t ≡ p = kept_is t p same in
        let fine : is_bad_process (take i texts) t ≡ false =
        sym (bad_kept (take i texts) t) ∙ ap (is_bad_given (take i texts)) same
        ∙ ap (λ before. is_bad_given before (Some p)) (sym front) ∙ good in (
          grown ∙ ap (λ before. before ++ p ∷ []) front ∙ ap (λ q. take i texts ++ q ∷ []) (sym here) ∙ sym (take_at texts i t is),
          passed_more is_bad_process texts i t passed is fine,
        )

pub mapped_bad :
    (given : List (Option Locality)) (processes : List Locality) (i : ℕ) (process : Option Locality)
    → Mapped given processes i → slice_get given i ≡ Some process
    → is_bad_given processes process ≡ true
    → (texts : List Locality) → given ≡ map process_given texts
    → first_index is_bad_process texts ≡ Some i
mapped_bad given processes i process m at bad texts kept =
    let (t, is, same) = kept_at process_given texts given i process kept at in
    let (front, passed) = m.so_far texts kept in
    let wrong : is_bad_process (take i texts) t ≡ true =
    sym (bad_kept (take i texts) t) ∙ ap (is_bad_given (take i texts)) same
    ∙ ap (λ before. is_bad_given before process) (sym front) ∙ bad in
    passed_here is_bad_process texts i t passed is wrong
