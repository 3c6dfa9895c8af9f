-- zones that may stand in a row make an order of the operations
use Rattle.std.proofs.Common.{inl, inr, ◌⊎◌, ◌≡◌, ◌≢◌, ℕ, ◌<◌, ◌≤◌, Bool, true, false, cond, ◌==◌, List, [], ◌∷◌, ◌++◌, Some, None, Option, refl, sym, ap, subst, ◌∙◌, arith, eq-eqb, eqb-true}
use Rattle.std.specs.List.{Contains, AllPairs, filter}
use Rattle.std.proofs.lemmas.List.Elements.{Contains-append_cases, Contains-append_left, Contains-append_right}
use Rattle.fy_registers.specs.declared.operation.Act.{Act}
use Rattle.fy_registers.specs.declared.operation.Act.TheVariants.{Write, Read}
use Rattle.fy_registers.specs.declared.operation.Operation.{Operation}
use Rattle.fy_registers.specs.declared.zone.Zone.{Zone}
use Rattle.fy_registers.specs.Linear.{value_in, value_of, HasEnded, IsBefore, held_after, IsAnswered, AreAnswered, IsLinearizable, IsWrittenOnce, IsHistory}
use Rattle.fy_registers.specs.Evidence.{IsReadOf}
use Rattle.fy_registers.specs.Zones.{IsZone, AreZones, MayPrecede}
use Rattle.fy_registers.proofs.Lists.{contains_here, contains_there, contains_cases, contains_none, pairs_head, pairs_tail, pairs_cons, pairs_none, pairs_append, pairs_filter, pairs_weaker, pairs_apart, from_filter, into_filter}
use Rattle.fy_registers.proofs.Histories.{ends_late}

-- ---- the test of a read that ended and answered so

abbrev same : Option ℕ → Option ℕ → Bool
same None None = true
same None (Some v) = false
same (Some u) None = false
same (Some u) (Some v) = u == v

abbrev reads : Option ℕ → Act → Option ℕ → Bool
reads x (Write v) ended = false
reads x (Read answer) None = false
reads x (Read answer) (Some end) = same answer x

abbrev is_read : Option ℕ → Operation → Bool
is_read x o = reads x o.act o.ended

same-true : (x y : Option ℕ) → same x y ≡ true → x ≡ y
same-true None None e = refl
same-true None (Some v) e = cc
same-true (Some u) None e = cc
same-true (Some u) (Some v) e = ap Some (eqb-true u v e)

same-refl : (x : Option ℕ) → same x x ≡ true
same-refl None = refl
same-refl (Some u) = eq-eqb u u refl

reads-true : (x : Option ℕ) (act : Act) (ended : Option ℕ) → reads x act ended ≡ true → (act ≡ Read x) × ((end : ℕ) × (ended ≡ Some end))
reads-true x (Write v) ended e = absurd (let z : ⊥ = cc in z)
reads-true x (Read answer) None e = absurd (let z : ⊥ = cc in z)
reads-true x (Read answer) (Some end) e = (ap Read (same-true answer x e), (end, refl))

is_read-true : (x : Option ℕ) (o : Operation) → is_read x o ≡ true → (o.act ≡ Read x) × HasEnded o
is_read-true x o e = reads-true x o.act o.ended e

is_read-from : (x : Option ℕ) (o : Operation) → o.act ≡ Read x → HasEnded o → is_read x o ≡ true
is_read-from x o act (end, ended) =
    ap (λ a. reads x a o.ended) act ∙ ap (λ e. reads x (Read x) e) ended ∙ same-refl x

-- one may stand before a later one
abbrev MayStand : Operation → Operation → Type 0
MayStand one later = (one ≢ later) × (IsBefore later one → ⊥)

module _ (h : List Operation) (history : IsHistory h) (written_once : IsWrittenOnce h) where
  abbrev reads_of : Option ℕ → List Operation
  reads_of x = filter (is_read x) h

  -- the write of a value, and then the reads that answered it, in the order in which they began
  abbrev cluster : Zone → List Operation
  cluster z = z.write ∷ reads_of (Some z.value)

  abbrev clusters : List Zone → List Operation
  clusters [] = []
  clusters (z ∷ zs) = cluster z ++ clusters zs

  reads_are : (x : Option ℕ) (o : Operation) → Contains (reads_of x) o → IsReadOf h x o
  reads_are x o among =
      let kept = from_filter (is_read x) h o among in
      let facts = is_read-true x o kept.1 in
      record { within = kept.0; act = facts.0; ended = facts.1 }

  -- an operation of a zone's value
  record Member (z : Zone) (o : Operation) : Type 0 where
    within : Contains h o
    value : value_of o ≡ Some z.value
    began : o.began ≤ z.last.began
    ended : (end : ℕ) → o.ended ≡ Some end → z.end ≤ end

  members : (z : Zone) → IsZone h z → (o : Operation) → Contains (cluster z) o → Member z o
  members z zone o among = go (contains_cases z.write o (reads_of (Some z.value)) among)
    where
      go : (o ≡ z.write) ⊎ Contains (reads_of (Some z.value)) o → Member z o
      go (inl is) = subst (λ q. Member z q) (sym is) (record {
        within = zone.write.within;
        value = ap value_in zone.write.act;
        began = zone.after_write;
        ended = λ end e. zone.least z.write zone.write.within (ap value_in zone.write.act) end e;
      })
      go (inr there) = let read = reads_are (Some z.value) o there in record {
        within = read.within;
        value = ap value_in read.act;
        began = zone.latest o read.within (ap value_in read.act) read.ended;
        ended = λ end e. zone.least o read.within (ap value_in read.act) end e;
      }

  -- the reads of one answer may stand as they began
  reads_in_row : (x : Option ℕ) → AllPairs MayStand (reads_of x)
  reads_in_row x = pairs_weaker (λ one later. one.began < later.began) MayStand (reads_of x)
      (λ a b a_in b_in less. go a b (reads_are x b b_in) less)
      (pairs_filter (is_read x) (λ one later. one.began < later.began) h history.in_order)
    where
      go : (a b : Operation) → IsReadOf h x b → a.began < b.began → MayStand a b
      go a b read less = (
        (λ e. let same_place : a.began ≡ b.began = ap (λ (o : Operation). o.began) e in omega arith),
        (λ (end, ended, before). let late = ends_late h history b read.within end ended in omega arith),
      )

  cluster_in_row : (z : Zone) → IsZone h z → AllPairs MayStand (cluster z)
  cluster_in_row z zone = pairs_cons MayStand z.write (reads_of (Some z.value))
      (λ o among. go o (reads_are (Some z.value) o among)) (reads_in_row (Some z.value))
    where
      go : (o : Operation) → IsReadOf h (Some z.value) o → MayStand z.write o
      go o read = (
        (λ e. let acts : Write z.value ≡ Read (Some z.value) = sym zone.write.act ∙ ap (λ (q : Operation). q.act) e ∙ read.act in cc),
        (λ (end, ended, before). let late = zone.least o read.within (ap value_in read.act) end ended in let first = zone.written in omega arith),
      )

  across : (y z : Zone) → y.value ≢ z.value → MayPrecede y z → (a b : Operation) → Member y a → Member z b → MayStand a b
  across y z apart precedes a b a_of b_of = (
    (λ e. let values : Some y.value ≡ Some z.value = sym a_of.value ∙ ap value_of e ∙ b_of.value in apart (let equal : y.value ≡ z.value = cc in equal)),
    (λ (end, ended, before). let late = b_of.ended end ended in let early = a_of.began in omega arith),
  )

  of_clusters : (zs : List Zone) (o : Operation) → Contains (clusters zs) o → (z : Zone) × Contains zs z × Contains (cluster z) o
  of_clusters [] o among = absurd (contains_none o among)
  of_clusters (z ∷ zs) o among = go (λ there. of_clusters zs o there) (Contains-append_cases (cluster z) (clusters zs) o among)
    where
      go : (Contains (clusters zs) o → (y : Zone) × Contains zs y × Contains (cluster y) o) → Contains (cluster z) o ⊎ Contains (clusters zs) o → (y : Zone) × Contains (z ∷ zs) y × Contains (cluster y) o
      go more (inl here) = (z, contains_here z zs, here)
      go more (inr there) = let its = more there in (its.0, contains_there z its.0 zs its.1, its.2)

  into_clusters : (zs : List Zone) (z : Zone) (o : Operation) → Contains zs z → Contains (cluster z) o → Contains (clusters zs) o
  into_clusters [] z o among its = absurd (contains_none z among)
  into_clusters (y ∷ zs) z o among its = go (λ there. into_clusters zs z o there its) (contains_cases y z zs among)
    where
      go : (Contains zs z → Contains (clusters zs) o) → (z ≡ y) ⊎ Contains zs z → Contains (clusters (y ∷ zs)) o
      go more (inl is) = Contains-append_left (cluster y) (clusters zs) o (subst (λ q. Contains (cluster q) o) is its)
      go more (inr there) = Contains-append_right (cluster y) (clusters zs) o (more there)

  -- the clusters may stand in a row
  in_row : (zs : List Zone) → ((z : Zone) → Contains zs z → IsZone h z) → AllPairs (λ y z. y.value ≢ z.value) zs → AllPairs MayPrecede zs → AllPairs MayStand (clusters zs)
  in_row [] each apart precede = pairs_none MayStand
  in_row (y ∷ zs) each apart precede =
      pairs_append MayStand (cluster y) (clusters zs)
      (cluster_in_row y (each y (contains_here y zs)))
      (in_row zs (λ z among. each z (contains_there y z zs among)) (pairs_tail (λ y z. y.value ≢ z.value) y zs apart) (pairs_tail MayPrecede y zs precede))
      (λ a b a_in b_in. let its = of_clusters zs b b_in in
      across y its.0 (pairs_head (λ y z. y.value ≢ z.value) y its.0 zs apart its.1) (pairs_head MayPrecede y its.0 zs precede its.1) a b
      (members y (each y (contains_here y zs)) a a_in)
      (members its.0 (each its.0 (contains_there y its.0 zs its.1)) b its.2))

  -- ---- what is answered
  read_answered : (held : Option ℕ) (act : Act) (rest : List Operation) → act ≡ Read held → AreAnswered held rest → IsAnswered held act × AreAnswered (held_after held act) rest
  read_answered held act rest is answered = subst (λ a. IsAnswered held a × AreAnswered (held_after held a) rest) (sym is) (refl, answered)

  reads_answered : (held : Option ℕ) (rest : List Operation) → AreAnswered held rest → (xs : List Operation) → AreAnswered held (filter (is_read held) xs ++ rest)
  reads_answered held rest answered [] = answered
  reads_answered held rest answered (x ∷ xs) = go (is_read held x) refl (reads_answered held rest answered xs)
    where
      go : (b : Bool) → is_read held x ≡ b → AreAnswered held (filter (is_read held) xs ++ rest) → AreAnswered held (cond b (x ∷ filter (is_read held) xs) (filter (is_read held) xs) ++ rest)
      go true e more = read_answered held x.act (filter (is_read held) xs ++ rest) (is_read-true held x e).0 more
      go false e more = more

  clusters_answered : (held : Option ℕ) (zs : List Zone) → ((z : Zone) → Contains zs z → IsZone h z) → AreAnswered held (clusters zs)
  clusters_answered held [] each = tt
  clusters_answered held (z ∷ zs) each =
      subst (λ a. IsAnswered held a × AreAnswered (held_after held a) (reads_of (Some z.value) ++ clusters zs)) (sym (each z (contains_here z zs)).write.act)
      (tt, reads_answered (Some z.value) (clusters zs) (clusters_answered (Some z.value) zs (λ y among. each y (contains_there z y zs among))) h)

  -- ---- the order
  module _ (zs : List Zone) (zones : AreZones h zs) (precede : AllPairs MayPrecede zs) (nothing : (r : Operation) → IsReadOf h None r → (z : Zone) → Contains zs z → r.began ≤ z.end) where
    abbrev order : List Operation
    order = reads_of None ++ clusters zs

    taken : (o : Operation) → Contains order o → Contains h o
    taken o among = go (Contains-append_cases (reads_of None) (clusters zs) o among)
      where
        go : Contains (reads_of None) o ⊎ Contains (clusters zs) o → Contains h o
        go (inl there) = (reads_are None o there).within
        go (inr there) = let its = of_clusters zs o there in (members its.0 (zones.each its.0 its.1) o its.2).within

    in_its_cluster : (o : Operation) → Contains h o → HasEnded o → (act : Act) → o.act ≡ act → (z : Zone) → IsZone h z → value_in act ≡ Some z.value → Contains (cluster z) o
    in_its_cluster o within ended (Write v) is z zone value =
        let writes : o.act ≡ Write z.value = is ∙ ap Write (let e : v ≡ z.value = cc in e) in
        subst (λ q. Contains (cluster z) q) (written_once z.write o z.value zone.write.within within zone.write.act writes) (contains_here z.write (reads_of (Some z.value)))
    in_its_cluster o within ended (Read answer) is z zone value =
        contains_there z.write o (reads_of (Some z.value)) (into_filter (is_read (Some z.value)) h o within (is_read-from (Some z.value) o (is ∙ ap Read value) ended))

    of_value : (o : Operation) → Contains h o → HasEnded o → (v : ℕ) → value_of o ≡ Some v → Contains order o
    of_value o within ended v value =
        let its = zones.all o within ended v value in
        Contains-append_right (reads_of None) (clusters zs) o
        (into_clusters zs its.0 o its.1 (in_its_cluster o within ended o.act refl its.0 (zones.each its.0 its.1) (value ∙ ap Some (sym its.2))))

    complete : (o : Operation) → Contains h o → HasEnded o → Contains order o
    complete o within ended = go o.act refl
      where
        go : (act : Act) → o.act ≡ act → Contains order o
        go (Write v) is = of_value o within ended v (ap value_in is)
        go (Read (Some v)) is = of_value o within ended v (ap value_in is)
        go (Read None) is = Contains-append_left (reads_of None) (clusters zs) o (into_filter (is_read None) h o within (is_read-from None o is ended))

    may_stand : AllPairs MayStand order
    may_stand = pairs_append MayStand (reads_of None) (clusters zs) (reads_in_row None)
        (in_row zs zones.each (pairs_apart (λ z. z.value) zs zones.apart) precede)
        (λ a b a_in b_in. let its = of_clusters zs b b_in in go a b its.0 (reads_are None a a_in) its.1 (members its.0 (zones.each its.0 its.1) b its.2))
      where
        go : (a b : Operation) (z : Zone) → IsReadOf h None a → Contains zs z → Member z b → MayStand a b
        go a b z read among member = (
          (λ e. let values : None ≡ Some z.value = sym (ap value_in read.act) ∙ ap value_of e ∙ member.value in cc),
          (λ (end, ended, before). let late = member.ended end ended in let early = nothing a read z among in omega arith),
        )

    pub linearizable : IsLinearizable h
    linearizable = (
      order,
      record {
        taken = taken;
        complete = complete;
        once = pairs_weaker MayStand (λ one later. one ≢ later) order (λ a b a_in b_in may. may.0) may_stand;
        in_time = pairs_weaker MayStand (λ one later. IsBefore later one → ⊥) order (λ a b a_in b_in may. may.1) may_stand;
        answered = reads_answered None (clusters zs) (clusters_answered None zs zones.each) h;
      },
    )
