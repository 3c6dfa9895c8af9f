-- parts within their ranges and with good names make a setup within its ranges
use Rattle.std.proofs.Common.{suc, ◌≡◌, ◌∙◌, ◌+◌, ◌<◌, ◌≤◌, ℕ, ℤ, pos, negsuc, Bool, true, false, cond, not, List, [], ◌∷◌, ◌++◌, ◌||◌, ◌&&◌, leb, ltb, length, take, map, Some, None, option_map, sum_by, refl, sym, ap, arith}
use Rattle.std.specs.Prelude.{slice_get, unwrap_or, is_some, bytes_eq}
use Rattle.std.specs.List.{list_all, list_any, find, flat_map, enumerate_from, position_or_len}
use Rattle.std.proofs.lemmas.List.{length-map, length-append}
use Rattle.std.proofs.lemmas.List.Sums.{sum_by-cons}
use Rattle.std.proofs.lemmas.Bool.Decides.{nat_tests}
use Rattle.fy_locality.specs.declared.TheConstants.{MOST_PROCESSES}
use Rattle.fy_locality.specs.declared.locality.Locality.{Locality}
use Rattle.fy_kinds.specs.Members.{Members}
use Rattle.fy_policy.specs.Tree.{Tree}
use Rattle.fy_policy.specs.declared.limits.TheConstants.{MOST_POLICIES}
use Rattle.fy_grants.specs.declared.book.TheConstants.{MOST_GRANTS}
use Rattle.fy_grants.specs.declared.grant.Grant.{Grant}
use Rattle.fy_grants.specs.declared.grant.Scope.{Scope}
use Rattle.fy_cluster.specs.Setup.{is_between, is_in_range}
use Rattle.fy_cluster.specs.declared.config.Protection.{Protection}
use Rattle.fy_cluster.specs.declared.config.TheConstants.{MOST_ACTORS, MOST_JOURNAL_ENTRIES}
use Rattle.fy_cluster.specs.declared.role.Role.{Role}
use Rattle.fy_config.specs.declared.fault.Part.{Part}
use Rattle.fy_config.specs.declared.fault.Part.TheVariants.{JournalLimit, Policies, Process, Actor, Protect}
use Rattle.fy_config.specs.declared.limits.TheConstants.{MOST_PROTECTIONS}
use Rattle.fy_config.specs.Config.{Fields, AreRead, limit_given, first_outside, first_index, is_bad_protection, grants_of, number_of, protection_in, setup_in}
use Rattle.fy_config.proofs.Places.{some_before, kept_at, no_place}

-- what each part within its range says
pub record Within (f : Fields) : Type 0 where
  pub limit : is_some (limit_given f.journal_limit) ≡ true
  pub policies : is_between 1 MOST_POLICIES (length f.policies) ≡ true
  pub processes : is_between 1 MOST_PROCESSES (length f.processes) ≡ true
  pub actors : is_between 1 MOST_ACTORS (length f.actors) ≡ true
  pub grants : leb (sum_by (λ actor. length actor.1) f.actors) MOST_GRANTS ≡ true
  pub protections : leb (length f.protections) MOST_PROTECTIONS ≡ true

both : (a b : Bool) → (a && b) ≡ true → (a ≡ true) × (b ≡ true)
both true true e = (refl, refl)
both true false e = absurd (let c : ⊥ = cc in c)
both false b e = absurd (let c : ⊥ = cc in c)

-- the first of a list of parts whose test fails is none
head_passes :
    (part : Part) (test : Bool) (more : List (Part × Bool))
    → option_map (λ p. p.0) (find (λ p. not p.1) ((part, test) ∷ more)) ≡ None
    → (test ≡ true) × (option_map (λ p. p.0) (find (λ p. not p.1) more) ≡ None)
head_passes part true more e = (refl, e)
head_passes part false more e = absurd (let c : ⊥ = cc in c)

-- the ranges from a part on
abbrev tail4 : Fields → List (Part × Bool)
tail4 f = (Protect, leb (length f.protections) MOST_PROTECTIONS) ∷ []

abbrev tail3 : Fields → List (Part × Bool)
tail3 f =
    (Actor, is_between 1 MOST_ACTORS (length f.actors) && leb (sum_by (λ actor. length actor.1) f.actors) MOST_GRANTS)
    ∷ tail4 f

abbrev tail2 : Fields → List (Part × Bool)
tail2 f = (Process, is_between 1 MOST_PROCESSES (length f.processes)) ∷ tail3 f

abbrev tail1 : Fields → List (Part × Bool)
tail1 f = (Policies, is_between 1 MOST_POLICIES (length f.policies)) ∷ tail2 f

pub within : (f : Fields) → first_outside f ≡ None → Within f
within f e =
    let (limit, e1) = head_passes JournalLimit (is_some (limit_given f.journal_limit)) (tail1 f) e in
    let (policies, e2) = head_passes Policies (is_between 1 MOST_POLICIES (length f.policies)) (tail2 f) e1 in
    let (processes, e3) = head_passes Process (is_between 1 MOST_PROCESSES (length f.processes)) (tail3 f) e2 in
    let (actors, e4) = head_passes Actor (is_between 1 MOST_ACTORS (length f.actors) && leb (sum_by (λ (actor : Role × List (Members × Scope)). length actor.1) f.actors) MOST_GRANTS) (tail4 f) e3 in
    let (protections, e5) = head_passes Protect (leb (length f.protections) MOST_PROTECTIONS) [] e4 in
    let (count, grants) = both (is_between 1 MOST_ACTORS (length f.actors)) (leb (sum_by (λ (actor : Role × List (Members × Scope)). length actor.1) f.actors) MOST_GRANTS) actors in
    record {
      limit = limit;
      policies = policies;
      processes = processes;
      actors = count;
      grants = grants;
      protections = protections;
    }

as_many : (texts : List (List ℕ)) (policies : List Tree) → AreRead texts policies → length policies ≡ length texts
as_many [] [] h = refl
as_many [] (p ∷ policies) h = absurd h
as_many (t ∷ texts) [] h = absurd h
as_many (t ∷ texts) (p ∷ policies) h = ap (λ n. suc n) (as_many texts policies h.1)

limit_within : (j : ℤ) → is_some (limit_given j) ≡ true → is_between 1 MOST_JOURNAL_ENTRIES (unwrap_or (limit_given j) 0) ≡ true
limit_within (pos n) e = go (is_between 1 MOST_JOURNAL_ENTRIES n) refl e
  where
    go : (b : Bool) → is_between 1 MOST_JOURNAL_ENTRIES n ≡ b → is_some (cond b (Some n) None) ≡ true
        → is_between 1 MOST_JOURNAL_ENTRIES (unwrap_or (cond b (Some n) None) 0) ≡ true
    go true is h = is
    go false is h = absurd (let c : ⊥ = cc in c)
limit_within (negsuc n) e = absurd (let c : ⊥ = cc in c)

-- the grants of an actor that is there, before others
grants_there :
    (n m : ℕ) (grants : List (Members × Scope)) (rest : List Grant)
    → ltb n m ≡ true → list_all (λ grant. ltb grant.actor m) rest ≡ true
    → list_all (λ grant. ltb grant.actor m) (map (λ grant. record { actor = n; kinds = grant.0; scope = grant.1 }) grants ++ rest) ≡ true
grants_there n m [] rest there e = e
grants_there n m (g ∷ grants) rest there e =
    ap (λ b. b && list_all (λ (grant : Grant). grant_there grant) (map (λ grant. record { actor = n; kinds = grant.0; scope = grant.1 }) grants ++ rest)) there
    ∙ grants_there n m grants rest there e
  where
    grant_there : Grant → Bool
    grant_there grant = ltb grant.actor m

all_there :
    (n m : ℕ) (actors : List (Role × List (Members × Scope)))
    → n + length actors ≤ m
    → list_all (λ grant. ltb grant.actor m) (flat_map grants_of (enumerate_from n actors)) ≡ true
all_there n m [] h = refl
all_there n m (actor ∷ actors) h =
    let less : ltb n m ≡ true = (let l : n < m = omega arith in grind (arith, nat_tests)) in
    grants_there n m actor.1 (flat_map grants_of (enumerate_from (n + 1) actors)) less
    (all_there (n + 1) m actors (omega arith))

count_granted :
    (n : ℕ) (actors : List (Role × List (Members × Scope)))
    → length (flat_map grants_of (enumerate_from n actors)) ≡ sum_by (λ actor. length actor.1) actors
count_granted n [] = refl
count_granted n (actor ∷ actors) =
    length-append (grants_of (n, actor)) (flat_map grants_of (enumerate_from (n + 1) actors))
    ∙ ap (λ k. k + length (flat_map grants_of (enumerate_from (n + 1) actors)))
    (length-map actor.1 (λ (grant : Members × Scope). grant_by_number grant))
    ∙ ap (λ k. length actor.1 + k) (count_granted (n + 1) actors)
    ∙ sym (sum_by-cons (λ (a : Role × List (Members × Scope)). length a.1) actor actors)
  where
    grant_by_number : Members × Scope → Grant
    grant_by_number grant = record { actor = n; kinds = grant.0; scope = grant.1 }

all_from :
    {A : Type 0} (p : A → Bool) (xs : List A)
    → ((k : ℕ) (x : A) → slice_get xs k ≡ Some x → p x ≡ true) → list_all p xs ≡ true
all_from p [] each = refl
all_from p (x ∷ xs) each =
    ap (λ b. b && list_all p xs) (each 0 x refl) ∙ all_from p xs (λ k y at. each (suc k) y at)

-- a process that is there has a number below the count
number_within :
    (processes : List Locality) (name : List ℕ)
    → list_any (λ q. bytes_eq q.process name) processes ≡ true
    → number_of processes name < length processes
number_within processes name e =
    let test : Locality → Bool = λ (q : Locality). bytes_eq q.process name in
    let before : position_or_len (λ (q : Locality). bytes_eq q.process name) processes < length processes =
    some_before (λ (q : Locality). bytes_eq q.process name) processes e in
    let less : ltb (position_or_len (λ (q : Locality). bytes_eq q.process name) processes) (length processes) ≡ true = grind (arith, nat_tests) in
    let number : number_of processes name ≡ position_or_len (λ (q : Locality). bytes_eq q.process name) processes =
    ap (λ b. unwrap_or (cond b (Some (position_or_len (λ (q : Locality). bytes_eq q.process name) processes)) None) 0) less in
    omega arith

protections_there :
    (processes : List Locality) (protections : List (List ℕ × Members))
    → first_index (is_bad_protection processes) protections ≡ None
    → list_all (λ protection. ltb protection.process.0 (length processes)) (map (protection_in processes) protections) ≡ true
protections_there processes protections good =
    all_from (λ (protection : Protection). ltb protection.process.0 (length processes)) (map (protection_in processes) protections) each
  where
    there : (a b : Bool) → (not a || b) ≡ false → a ≡ true
    there true b e = refl
    there false b e = absurd (let c : ⊥ = cc in c)

    each : (k : ℕ) (x : Protection) → slice_get (map (protection_in processes) protections) k ≡ Some x → ltb x.process.0 (length processes) ≡ true
    each k x at =
        let (t, is, same) = kept_at (protection_in processes) protections (map (protection_in processes) protections) k x refl at in
        let fine : is_bad_protection processes (take k protections) t ≡ false = no_place (is_bad_protection processes) protections k t good is in
        let found : list_any (λ (q : Locality). bytes_eq q.process t.0) processes ≡ true =
        there (list_any (λ (q : Locality). bytes_eq q.process t.0) processes) (list_any (λ (earlier : List ℕ × Members). bytes_eq earlier.0 t.0) (take k protections)) fine in
        let small : number_of processes t.0 < length processes = number_within processes t.0 found in
        let less : ltb (number_of processes t.0) (length processes) ≡ true = grind (arith, nat_tests) in
        ap (λ (p : Protection). ltb p.process.0 (length processes)) (sym same) ∙ less

all_true :
    (a b c d e g : Bool)
    → a ≡ true → b ≡ true → c ≡ true → d ≡ true → e ≡ true → g ≡ true
    → (a && b && c && d && e && g) ≡ true
all_true a b c d e g h1 h2 h3 h4 h5 h6 = rw (h1, h2, h3, h4, h5, h6)

-- the setup of parts within their ranges and with good names is within its ranges
pub setup_within :
    (f : Fields) (policies : List Tree)
    → first_outside f ≡ None → first_index (is_bad_protection f.processes) f.protections ≡ None
    → AreRead f.policies policies → is_in_range (setup_in f policies) ≡ true
setup_within f policies inside good read =
    let w : Within f = within f inside in
    let roles : length (map (λ (actor : Role × List (Members × Scope)). actor.0) f.actors) ≡ length f.actors =
    length-map f.actors (λ (actor : Role × List (Members × Scope)). actor.0) in
    all_true _ _ _ _ _ _
    (ap (is_between 1 MOST_POLICIES) (as_many f.policies policies read) ∙ w.policies)
    (ap (is_between 1 MOST_ACTORS) roles ∙ w.actors)
    (ap (λ n. leb n MOST_GRANTS) (count_granted 0 f.actors) ∙ w.grants)
    (all_there 0 (length (map (λ (actor : Role × List (Members × Scope)). actor.0) f.actors)) f.actors (omega arith))
    (protections_there f.processes f.protections good)
    (limit_within f.journal_limit w.limit)
