-- protections that are put one after another
use Rattle.std.proofs.Common.{◌≡◌, ◌∙◌, ◌+◌, ℕ, Bool, true, false, cond, not, List, [], ◌∷◌, ◌++◌, ◌||◌, ◌&&◌, eqb, subst, take, map, get_or, Option, Some, None, refl, sym, ap}
use Rattle.std.specs.Prelude.{slice_get, option_and_then, bytes_eq, unwrap_or}
use Rattle.std.specs.Ordering.{nat_cmp}
use Rattle.std.specs.Cmp.{unsigned_tied}
use Rattle.std.specs.FinSet as sets
use Rattle.std.specs.List.{list_any}
use Rattle.std.specs.Option.{option_eq, option_map_or}
use Rattle.std.proofs.lemmas.Cmp.{nat_cmp_total, nat_list_eq_equiv}
use Rattle.std.proofs.lemmas.List.{map-append}
use Rattle.std.proofs.lemmas.List.Folds.{list_any-append}
use Rattle.std.proofs.lemmas.List.Quantifiers.{position-Some}
use Rattle.std.proofs.lemmas.Option.{slice_get-get_or}
use Rattle.std.proofs.lemmas.Slice.Eq.{bytes_eq-Decides}
use Rattle.std.proofs.lemmas.Bool.Decides.{same_from_decides, Decides-eqb}
use Rattle.fy_locality.specs.Name.{is_name}
use Rattle.fy_locality.specs.Locality.{are_names, value_of, has_value, NamesDiffer}
use Rattle.fy_locality.specs.declared.key.Key.TheVariants.{Process}
use Rattle.fy_locality.specs.declared.locality.Locality.{Locality}
use Rattle.fy_kinds.specs.Members.{Members}
use Rattle.fy_cluster.specs.declared.config.Protection.{Protection}
use Rattle.fy_config.specs.declared.given.GivenProtection.{GivenProtection}
use Rattle.fy_config.specs.Given.{name_given, protection_given}
use Rattle.fy_config.specs.Config.{first_index, is_bad_process, is_bad_protection, index_of, number_of, protection_in}
use Rattle.fy_config.proofs.Places.{Passed, passed_none, passed_more, passed_here, no_place, take_at, kept_at, any_at, some_at, any_alike, none_at}

abbrev Spelt : Type 0
Spelt = List ℕ × Members

-- the set has the processes that protections name
pub record Named (processes : List Locality) (before : List Spelt) (set : sets.FinSet nat_cmp) : Type 0 where
  pub those : (q : ℕ) → sets.contains set q ≡ list_any (λ earlier. has_value processes Process earlier.0 q) before

-- a process with a name, by its place
pub record IsNamedAt (processes : List Locality) (name : List ℕ) (p : ℕ) : Type 0 where
  pub place : index_of processes name ≡ Some p
  pub found : list_any (λ q. bytes_eq q.process name) processes ≡ true
  pub value : value_of processes Process p ≡ Some name
  pub number : number_of processes name ≡ p

pub named_at :
    (processes : List Locality) (name : List ℕ) (p : ℕ)
    → index_of processes name ≡ Some p → IsNamedAt processes name p
named_at [] name p e = absurd (let c : ⊥ = cc in c)
named_at (first ∷ more) name p e =
    let processes : List Locality = first ∷ more in
    let (within, passes, before) = position-Some (λ (q : Locality). bytes_eq q.process name) processes p first e in
    let at : slice_get processes p ≡ Some (get_or processes p first) = slice_get-get_or processes p first within in
    let same : (get_or processes p first).process ≡ name = (bytes_eq-Decides (get_or processes p first).process name).0 passes in
    let value : value_of processes Process p ≡ Some (get_or processes p first).process =
    ap (option_and_then (λ (q : Locality). Some q.process)) at in
    record {
      place = e;
      found = any_at (λ (q : Locality). bytes_eq q.process name) processes p (get_or processes p first) at passes;
      value = value ∙ ap Some same;
      number = ap (λ (o : Option ℕ). unwrap_or o 0) e;
    }

-- a process has a name exactly where it is the one that stands there
has_that :
    (processes : List Locality) (name : List ℕ) (p q : ℕ)
    → NamesDiffer processes → IsNamedAt processes name p
    → has_value processes Process name q ≡ eqb q p
has_that processes name p q differ here =
    same_from_decides (has_value processes Process name q) (eqb q p) (only, back) (Decides-eqb q p)
  where
    only : has_value processes Process name q ≡ true → q ≡ p
    only e = go (value_of processes Process q) refl e
      where
        go : (o : Option (List ℕ)) → value_of processes Process q ≡ o → option_eq bytes_eq o (Some name) ≡ true → q ≡ p
        go None is h = absurd (let c : ⊥ = cc in c)
        go (Some v) is h =
            let same : v ≡ name = (bytes_eq-Decides v name).0 h in
            differ q p name (is ∙ ap Some same) here.value

    back : q ≡ p → has_value processes Process name q ≡ true
    back e =
        ap (λ r. option_eq bytes_eq (value_of processes Process r) (Some name)) e
        ∙ ap (λ o. option_eq bytes_eq o (Some name)) here.value
        ∙ (bytes_eq-Decides name name).1 refl

-- one protection more names its process
pub named_more :
    (processes : List Locality) (before : List Spelt) (set more : sets.FinSet nat_cmp) (t : Spelt) (p : ℕ)
    → NamesDiffer processes → Named processes before set → IsNamedAt processes t.0 p
    → more ≡ sets.insert set p → Named processes (before ++ t ∷ []) more
named_more processes before set more t p differ named here grown =
    record {
      those = λ q.
          ap (λ s. sets.contains s q) grown
          ∙ sets.contains-insert nat_cmp_total set p q
          ∙ ap (λ b. b || sets.contains set q) (unsigned_tied q p ∙ sym (has_that processes t.0 p q differ here))
          ∙ ap (λ b. has_value processes Process t.0 q || b) (named.those q)
          ∙ turned (has_value processes Process t.0 q) (list_any (λ (earlier : Spelt). has_value processes Process earlier.0 q) before)
          ∙ sym (list_any-append (λ (earlier : Spelt). has_value processes Process earlier.0 q) before (t ∷ []));
    }
  where
    turned : (a b : Bool) → (a || b) ≡ (b || (a || false))
    turned true true = refl
    turned true false = refl
    turned false true = refl
    turned false false = refl

-- what stands was named before exactly where it is in the set
named_before :
    (processes : List Locality) (before : List Spelt) (set : sets.FinSet nat_cmp) (name : List ℕ) (p : ℕ)
    → Named processes before set → IsNamedAt processes name p
    → sets.contains set p ≡ list_any (λ earlier. bytes_eq earlier.0 name) before
named_before processes before set name p named here =
    named.those p
    ∙ any_alike (λ (earlier : Spelt). has_value processes Process earlier.0 p) (λ earlier. bytes_eq earlier.0 name) before
    (λ earlier. ap (λ o. option_eq bytes_eq o (Some earlier.0)) here.value ∙ nat_list_eq_equiv.symm name earlier.0)

-- a protection of what stands there is bad exactly where that is in the set
pub bad_where_named :
    (processes : List Locality) (before : List Spelt) (set : sets.FinSet nat_cmp) (t : Spelt) (p : ℕ)
    → Named processes before set → IsNamedAt processes t.0 p
    → is_bad_protection processes before t ≡ sets.contains set p
bad_where_named processes before set t p named here =
    ap (λ b. not b || list_any (λ (earlier : Spelt). bytes_eq earlier.0 t.0) before) here.found
    ∙ sym (named_before processes before set t.0 p named here)

no_fault : (a b : Bool) → (not a || b) ≡ false → a ≡ true
no_fault true b e = refl
no_fault false b e = absurd (let c : ⊥ = cc in c)

first_of : (a b c d e : Bool) → (a && b && c && d && e) ≡ true → a ≡ true
first_of true b c d e h = refl
first_of false b c d e h = absurd (let x : ⊥ = cc in x)

-- a text that is no name is that of no process
pub no_such_process :
    (processes : List Locality) (text : List ℕ)
    → first_index is_bad_process processes ≡ None → name_given text ≡ None
    → list_any (λ q. bytes_eq q.process text) processes ≡ false
no_such_process processes text good none =
    go (list_any (λ (q : Locality). bytes_eq q.process text) processes) refl
  where
    go : (b : Bool) → list_any (λ (q : Locality). bytes_eq q.process text) processes ≡ b → list_any (λ (q : Locality). bytes_eq q.process text) processes ≡ false
    go false is = is
    go true is =
        let (k, q, at, it) = some_at (λ (q : Locality). bytes_eq q.process text) processes is in
        let same : q.process ≡ text = (bytes_eq-Decides q.process text).0 it in
        let fine : is_bad_process (take k processes) q ≡ false = no_place is_bad_process processes k q good at in
        let known : are_names q ≡ true = no_fault (are_names q) (list_any (λ (p : Locality). bytes_eq p.process q.process) (take k processes)) fine in
        let named : is_name q.process ≡ true =
        first_of (is_name q.process) (is_name q.machine) (is_name q.zone) (option_map_or is_name q.data_hall true) (option_map_or is_name q.data_center true) known in
        let some : name_given text ≡ Some text = ap (λ b. cond b (Some text) None) (ap is_name (sym same) ∙ named) in
        absurd (let c : ⊥ = cc in c)

-- a protection of what doesn't stand there is bad
pub bad_where_unknown :
    (processes : List Locality) (before : List Spelt) (t : Spelt)
    → first_index is_bad_process processes ≡ None
    → option_and_then (index_of processes) (name_given t.0) ≡ None
    → is_bad_protection processes before t ≡ true
bad_where_unknown processes before t good none =
    ap (λ b. not b || list_any (λ (earlier : Spelt). bytes_eq earlier.0 t.0) before) (go (is_name t.0) refl)
  where
    go : (b : Bool) → is_name t.0 ≡ b → list_any (λ q. bytes_eq q.process t.0) processes ≡ false
    go true is =
        let named : name_given t.0 ≡ Some t.0 = ap (λ b. cond b (Some t.0) None) is in
        let nowhere : index_of processes t.0 ≡ None = sym (ap (option_and_then (index_of processes)) named) ∙ none in
        none_at (λ (q : Locality). bytes_eq q.process t.0) processes nowhere
    go false is = no_such_process processes t.0 good (ap (λ b. cond b (Some t.0) None) is)

-- the protections up to a place are there, their processes are named, and none of them is bad
pub record Protected
    (processes : List Locality) (given : List GivenProtection) (protections : List Protection)
    (named : sets.FinSet nat_cmp) (i : ℕ)
    : Type 0 where
  pub so_far : (texts : List Spelt) → given ≡ map protection_given texts
      → (protections ≡ map (protection_in processes) (take i texts))
      × Named processes (take i texts) named
      × Passed (is_bad_protection processes) texts i

pub protected_none :
    (processes : List Locality) (given : List GivenProtection) (protections : List Protection)
    (named : sets.FinSet nat_cmp)
    → protections ≡ [] → named ≡ sets.empty → Protected processes given protections named 0
protected_none processes given protections named none empty =
    record {
      so_far = λ texts kept. (
        none,
        record { those = λ q. ap (λ s. sets.contains s q) empty ∙ sets.contains-empty nat_cmp q },
        passed_none (is_bad_protection processes) texts,
      );
    }

-- the process that a protection names stands at the place that was found
name_stands :
    (processes : List Locality) (t : Spelt) (given : GivenProtection) (p : ℕ)
    → protection_given t ≡ given → option_and_then (index_of processes) given.process ≡ Some p
    → IsNamedAt processes t.0 p
name_stands processes t given p same found = go (is_name t.0) refl
  where
    found_by : option_and_then (index_of processes) (name_given t.0) ≡ Some p
    found_by = ap (λ (g : GivenProtection). option_and_then (index_of processes) g.process) same ∙ found

    go : (b : Bool) → is_name t.0 ≡ b → IsNamedAt processes t.0 p
    go true is =
        let named : name_given t.0 ≡ Some t.0 = ap (λ b. cond b (Some t.0) None) is in
        named_at processes t.0 p (sym (ap (option_and_then (index_of processes)) named) ∙ found_by)
    go false is =
        let nameless : name_given t.0 ≡ None = ap (λ b. cond b (Some t.0) None) is in
        let lost : option_and_then (index_of processes) (name_given t.0) ≡ None = ap (option_and_then (index_of processes)) nameless in
        absurd (let c : ⊥ = cc in c)

pub protected_more :
    (processes : List Locality) (given : List GivenProtection) (protections more : List Protection)
    (named grown : sets.FinSet nat_cmp) (i : ℕ) (protection : GivenProtection) (p : ℕ) (put : Protection)
    → NamesDiffer processes → Protected processes given protections named i
    → slice_get given i ≡ Some protection
    → option_and_then (index_of processes) protection.process ≡ Some p
    → sets.contains named p ≡ false → grown ≡ sets.insert named p
    → put ≡ record { process = record { 0 = p }; kinds = protection.kinds }
    → more ≡ protections ++ put ∷ []
    → Protected processes given more grown (i + 1)
protected_more processes given protections more named grown i protection p put differ m at found new larger is_put longer =
    record { so_far = λ texts kept. go texts (kept_at protection_given texts given i protection kept at) (m.so_far texts kept) }
  where
    go : (texts : List Spelt)
        → (t : Spelt) × (slice_get texts i ≡ Some t) × (protection_given t ≡ protection)
        → (protections ≡ map (protection_in processes) (take i texts)) × Named processes (take i texts) named × Passed (is_bad_protection processes) texts i
        → (more ≡ map (protection_in processes) (take (i + 1) texts)) × Named processes (take (i + 1) texts) grown × Passed (is_bad_protection processes) texts (i + 1)
    go texts (t, is, same) (front, those, passed) =
        let here : IsNamedAt processes t.0 p = name_stands processes t protection p same found in
        let kinds : t.1 ≡ protection.kinds = ap (λ (g : GivenProtection). g.kinds) same in
        let one : put ≡ protection_in processes t =
        is_put
        ∙ ap (λ n. record { process = record { 0 = n }; kinds = protection.kinds }) (sym here.number)
        ∙ ap (λ k. record { process = record { 0 = number_of processes t.0 }; kinds = k }) (sym kinds) in
        let split : take (i + 1) texts ≡ take i texts ++ t ∷ [] = take_at texts i t is in
        let all : map (protection_in processes) (take (i + 1) texts) ≡ map (protection_in processes) (take i texts) ++ protection_in processes t ∷ [] =
        ap (map (protection_in processes)) split ∙ map-append (protection_in processes) (take i texts) (t ∷ []) in (
          longer ∙ ap (λ (ps : List Protection). ps ++ put ∷ []) front
              ∙ ap (λ q. map (protection_in processes) (take i texts) ++ q ∷ []) one ∙ sym all,
          subst (λ (before : List Spelt). Named processes before grown) (sym split)
              (named_more processes (take i texts) named grown t p differ those here larger),
          passed_more (is_bad_protection processes) texts i t passed is
              (bad_where_named processes (take i texts) named t p those here ∙ new),
        )

pub protected_bad :
    (processes : List Locality) (given : List GivenProtection) (protections : List Protection)
    (named : sets.FinSet nat_cmp) (i : ℕ) (protection : GivenProtection)
    → first_index is_bad_process processes ≡ None
    → Protected processes given protections named i → slice_get given i ≡ Some protection
    → option_and_then (index_of processes) protection.process ≡ None
    → (texts : List Spelt) → given ≡ map protection_given texts
    → first_index (is_bad_protection processes) texts ≡ Some i
protected_bad processes given protections named i protection good m at lost texts kept =
    let (t, is, same) = kept_at protection_given texts given i protection kept at in
    let (front, those, passed) = m.so_far texts kept in
    let nowhere : option_and_then (index_of processes) (name_given t.0) ≡ None =
    ap (λ (g : GivenProtection). option_and_then (index_of processes) g.process) same ∙ lost in
    passed_here (is_bad_protection processes) texts i t passed is
    (bad_where_unknown processes (take i texts) t good nowhere)

pub protected_twice :
    (processes : List Locality) (given : List GivenProtection) (protections : List Protection)
    (named : sets.FinSet nat_cmp) (i : ℕ) (protection : GivenProtection) (p : ℕ)
    → Protected processes given protections named i → slice_get given i ≡ Some protection
    → option_and_then (index_of processes) protection.process ≡ Some p
    → sets.contains named p ≡ true
    → (texts : List Spelt) → given ≡ map protection_given texts
    → first_index (is_bad_protection processes) texts ≡ Some i
protected_twice processes given protections named i protection p m at found old texts kept =
    let (t, is, same) = kept_at protection_given texts given i protection kept at in
    let (front, those, passed) = m.so_far texts kept in
    let here : IsNamedAt processes t.0 p = name_stands processes t protection p same found in
    passed_here (is_bad_protection processes) texts i t passed is
    (bad_where_named processes (take i texts) named t p those here ∙ old)
