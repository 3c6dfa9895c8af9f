-- from what the code finds to the first rule, and from the kinds that it walks to the hardest one
use Rattle.std.proofs.Common.{zero, suc, ◌≡◌, ◌↔◌, ℕ, ◌+◌, ◌<◌, ◌≤◌, Bool, true, false, cond, ◌&&◌, ◌||◌, not, List, [], ◌∷◌, ◌++◌, length, refl, sym, ap, ap₂, subst, ◌∙◌, arith, true≢false, inl, inr}
use Rattle.std.specs.Prelude.{◌≢◌, Option, None, Some, option_map, is_none, nat_le, nat_lt}
use Rattle.std.specs.Option.{option_or}
use Rattle.std.specs.List.{find, list_any, position, range_with_len, AllByRecursion}
use Rattle.std.specs.Ordering.{nat_cmp}
use Rattle.std.specs.FinSet as sets
use Rattle.std.specs.Cmp.{nat_cmp_total}
use Rattle.std.proofs.lemmas.Bool.{cases_lt}
use Rattle.std.proofs.lemmas.Bool.Decides.{nat_tests}
use Rattle.fy_locality.specs.declared.ProcId.{ProcId}
use Rattle.fy_kinds.specs.declared.verdict.Rule.{Rule}
use Rattle.fy_kinds.specs.declared.verdict.Rule.TheVariants.{NoTarget, NoGrant, Protected, TooManyDestroyed, TooFewLeft}
use Rattle.fy_grants.specs.Least.{LeastWith, least_with}
use Rattle.fy_kinds.specs.declared.kind_set.KindSet.{KindSet}
use Rattle.fy_kinds.specs.Kinds.{Deed, Striking, Clogging, rank, is_destroying, has, has_some, only}
use Rattle.fy_kinds.specs.declared.kind.Kind.{Kind}
use Rattle.fy_kinds.specs.declared.kind.Kind.TheVariants.{RebootProcess, Reboot, RebootAndDelete, KillInstantly}
use Rattle.fy_kinds.specs.Orders.{Order}
use Rattle.fy_grants.specs.Rights.{Rights, grants_of, protections_of, is_covered, is_protected}
use Rattle.fy_decide.specs.DeadBook.{Losses}
use Rattle.fy_decide.specs.Verdicts.{Situation, situation_of, numbers, least, first_rule, permission_rules, loss_rules, bar, verdict, hardest, hardest_first, is_allowed, is_granted_to, too_many_destroyed, too_few_left, targets, loss_of}
use Rattle.fy_decide.specs.declared.dead_book.Loss.{Loss}
use Rattle.fy_decide.specs.declared.dead_book.Loss.TheVariants.{Emptied, Gone}
use Rattle.fy_decide.specs.Safety.{AreShort, AreSatisfied, MayDestroy, with_set, without_set}
use Rattle.fy_decide.proofs.Deciding.{none_found, each_satisfied}
use Rattle.fy_policy.specs.Tree.{Tree}
use Rattle.fy_policy.specs.Laws.{TestIsSatisfaction}
use Rattle.fy_policy.specs.Sat.{satisfies}
use Rattle.fy_locality.specs.declared.locality.Locality.{Locality}
use Rattle.std.proofs.lemmas.Iterator.Adapters.{position_from-zero}

pub swapped : (a b : Bool) → (a && b) ≡ (b && a)
swapped true true = refl
swapped true false = refl
swapped false true = refl
swapped false false = refl

-- ---- the least process of a set that passes a test, as the first number that does
abbrev FirstFound : Type 0
FirstFound = (count : ℕ) (set test : ℕ → Bool) (found : Option ProcId) → ((q : ℕ) → set q ≡ true → q < count) → LeastWith set test found ↔ (option_map (λ p. p.0) found ≡ least_with count set test)

back : (found : Option ProcId) → option_map {U = ProcId} (λ p. record { 0 = p }) (option_map (λ p. p.0) found) ≡ found
back None = refl
back (Some p) = refl

-- ---- an empty set

some_number : (t : ℕ → Bool) (a n p : ℕ) → a ≤ p → p < a + n → t p ≡ true → list_any t (range_with_len a n) ≡ true
some_number t a zero p least most passes = absurd (omega arith)
some_number t a (suc n) p least most passes = elim (cases_lt a p) [
  | inl lt ↦ go (t a) (some_number t (a + 1) n p (omega arith) (omega arith) passes)
  | inr ge ↦ let same : a ≡ p = omega arith in ap (λ b. b || list_any t (range_with_len (a + 1) n)) (ap t same ∙ passes)
]
  where
    go : (b : Bool) → list_any t (range_with_len (a + 1) n) ≡ true → (b || list_any t (range_with_len (a + 1) n)) ≡ true
    go true e = refl
    go false e = e

no_number : (t : ℕ → Bool) (a n : ℕ) → ((q : ℕ) → t q ≡ false) → list_any t (range_with_len a n) ≡ false
no_number t a zero none = refl
no_number t a (suc n) none = ap (λ b. b || list_any t (range_with_len (a + 1) n)) (none a) ∙ no_number t (a + 1) n none

pub nobody : (s : sets.FinSet nat_cmp) (n : ℕ) → s ≡ sets.empty → list_any (sets.contains s) (range_with_len 0 n) ≡ false
nobody s n e = no_number (sets.contains s) 0 n (λ q. ap (λ t. sets.contains t q) e ∙ sets.contains-empty nat_cmp q)

module _ (s : sets.FinSet nat_cmp) (n : ℕ) (small : (q : ℕ) → sets.contains s q ≡ true → q < n) where
  empty_where_none : list_any (sets.contains s) (range_with_len 0 n) ≡ false → s ≡ sets.empty
  empty_where_none none = sets.same_set nat_cmp_total sets.nat_cmp-IsAntisymmetric s sets.empty (λ q. off q (sets.contains s q) refl ∙ sym (sets.contains-empty nat_cmp q))
    where
      off : (q : ℕ) (b : Bool) → sets.contains s q ≡ b → sets.contains s q ≡ false
      off q true e = let here : list_any (sets.contains s) (range_with_len 0 n) ≡ true = some_number (sets.contains s) 0 n q (omega arith) (let h : q < n = small q e in omega arith) e in absurd (true≢false (sym here ∙ none))
      off q false e = e

  pub somebody : (b : Bool) → b ≡ false → (b ≡ true) ↔ (s ≡ sets.empty) → list_any (sets.contains s) (range_with_len 0 n) ≡ true
  somebody b off law = go (list_any (sets.contains s) (range_with_len 0 n)) refl
    where
      go : (c : Bool) → list_any (sets.contains s) (range_with_len 0 n) ≡ c → c ≡ true
      go true e = refl
      go false e = absurd (true≢false (sym (law.1 (empty_where_none e)) ∙ off))

-- ---- the first rule

pub first_of_both : (xs ys : List (Option Rule)) → first_rule (xs ++ ys) ≡ option_or (first_rule xs) (first_rule ys)
first_of_both [] ys = refl
first_of_both (None ∷ xs) ys = first_of_both xs ys
first_of_both (Some x ∷ xs) ys = refl

-- the rules of permission, by what was found
module _ (law : FirstFound) (situation : Situation) (deed : Deed) (s : ℕ → Bool) (small : (q : ℕ) → s q ≡ true → q < length situation.processes) where
  least_is : (test : ℕ → Bool) (found : Option ProcId) → LeastWith s test found → least situation s test ≡ found
  least_is test found is = ap (option_map (λ p. record { 0 = p })) (sym ((law (length situation.processes) s test found small).0 is)) ∙ back found

  abbrev granted : ℕ → Bool
  granted = is_covered situation.processes situation.grants (only deed)

  abbrev no_grant : Option Rule
  no_grant = option_map NoGrant (least situation s (λ p. not (granted p)))

  abbrev protected : Option Rule
  protected = option_map Protected (least situation s (λ p. situation.is_protected p deed))

  pub permission_untargeted : list_any s (numbers situation) ≡ false → Some NoTarget ≡ first_rule (permission_rules situation deed s)
  permission_untargeted e = ap (λ c. first_rule (cond c None (Some NoTarget) ∷ no_grant ∷ protected ∷ [])) (sym e)

  some_target : list_any s (numbers situation) ≡ true → first_rule (permission_rules situation deed s) ≡ first_rule (no_grant ∷ protected ∷ [])
  some_target e = ap (λ c. first_rule (cond c None (Some NoTarget) ∷ no_grant ∷ protected ∷ [])) e

  pub permission_uncovered : list_any s (numbers situation) ≡ true → (u : Option ProcId) (p : ProcId) → LeastWith s (λ q. not (granted q)) u → u ≡ Some p → Some (NoGrant p) ≡ first_rule (permission_rules situation deed s)
  permission_uncovered any u p found is = sym (some_target any ∙ ap (λ r. first_rule (option_map NoGrant r ∷ protected ∷ [])) (least_is (λ q. not (granted q)) u found ∙ is))

  pub permission_covered : list_any s (numbers situation) ≡ true → (u b : Option ProcId) → LeastWith s (λ q. not (granted q)) u → u ≡ None → LeastWith s (λ q. situation.is_protected q deed) b → first_rule (option_map Protected b ∷ []) ≡ first_rule (permission_rules situation deed s)
  permission_covered any u b found is barred =
      sym (some_target any
      ∙ ap (λ r. first_rule (option_map NoGrant r ∷ protected ∷ [])) (least_is (λ q. not (granted q)) u found ∙ is)
      ∙ ap (λ r. first_rule (option_map Protected r ∷ [])) (least_is (λ q. situation.is_protected q deed) b barred))

-- the same from what the two books answer of their processes and the set of one deed
module _ (law : FirstFound) (one : (kinds : KindSet) (deed : Deed) → has_some kinds (only deed) ≡ has kinds deed) (dead : Losses) (rights : Rights) (actor : ℕ) (deed : Deed) (kinds : KindSet) (same : rights.processes ≡ dead.processes) (single : kinds ≡ only deed)
    (s : sets.FinSet nat_cmp) (small : (q : ℕ) → sets.contains s q ≡ true → q < length dead.processes) (no_target : Bool) (some : no_target ≡ false) (tested : (no_target ≡ true) ↔ (s ≡ sets.empty)) where
  there : list_any (sets.contains s) (range_with_len 0 (length dead.processes)) ≡ true
  there = somebody s (length dead.processes) small no_target some tested

  as_asked : (u : Option ProcId) → LeastWith (sets.contains s) (λ q. not (is_covered rights.processes (grants_of rights actor) kinds q)) u → LeastWith (sets.contains s) (λ q. not (is_covered dead.processes (grants_of rights actor) (only deed) q)) u
  as_asked u found =
      subst (λ ps. LeastWith (sets.contains s) (λ q. not (is_covered ps (grants_of rights actor) (only deed) q)) u) same
      (subst (λ ks. LeastWith (sets.contains s) (λ q. not (is_covered rights.processes (grants_of rights actor) ks q)) u) single found)

  pub uncovered_by : (u : Option ProcId) (p : ProcId) → LeastWith (sets.contains s) (λ q. not (is_covered rights.processes (grants_of rights actor) kinds q)) u → u ≡ Some p → Some (NoGrant p) ≡ first_rule (permission_rules (situation_of dead rights actor) deed (sets.contains s))
  uncovered_by u p found is = permission_uncovered law (situation_of dead rights actor) deed (sets.contains s) small there u p (as_asked u found) is

  pub barred_by : (u b found : Option ProcId) → LeastWith (sets.contains s) (λ q. not (is_covered rights.processes (grants_of rights actor) kinds q)) u → u ≡ None → LeastWith (sets.contains s) (is_protected rights kinds) b → b ≡ found → first_rule (option_map Protected found ∷ []) ≡ first_rule (permission_rules (situation_of dead rights actor) deed (sets.contains s))
  barred_by u b found none is barred answer =
      ap (λ o. first_rule (option_map Protected o ∷ [])) (sym answer)
      ∙ permission_covered law (situation_of dead rights actor) deed (sets.contains s) small there u b (as_asked u none) is
      (subst (λ t. LeastWith (sets.contains s) t b) (λ i q. (ap (has_some (protections_of rights q)) single ∙ one (protections_of rights q) deed) i) barred)

-- ---- the bar of a kind
pub bar_of_permission : (situation : Situation) (deed : Deed) (s : ℕ → Bool) (found : Option Rule) (rule : Rule) → found ≡ first_rule (permission_rules situation deed s) → found ≡ Some rule → Some rule ≡ bar situation deed s
unfolding bar
bar_of_permission situation deed s found rule is some = sym (first_of_both (permission_rules situation deed s) (loss_rules situation deed s) ∙ ap (λ r. option_or r (first_rule (loss_rules situation deed s))) (sym is ∙ some))

pub bar_of_loss : (situation : Situation) (deed : Deed) (s : ℕ → Bool) (found lost : Option Rule) → found ≡ first_rule (permission_rules situation deed s) → found ≡ None → lost ≡ first_rule (loss_rules situation deed s) → lost ≡ bar situation deed s
unfolding bar
bar_of_loss situation deed s found lost is none then = sym (first_of_both (permission_rules situation deed s) (loss_rules situation deed s) ∙ ap (λ r. option_or r (first_rule (loss_rules situation deed s))) (sym is ∙ none) ∙ sym then)

-- ---- which rule it was

abbrev five : Bool → (u p : Option ProcId) (m f : Option ℕ) → Option Rule
five b u p m f = first_rule (cond b None (Some NoTarget) ∷ option_map NoGrant u ∷ option_map Protected p ∷ option_map TooManyDestroyed m ∷ option_map TooFewLeft f ∷ [])

untargeted_by : (b : Bool) (u p : Option ProcId) (m f : Option ℕ) → five b u p m f ≡ Some NoTarget → b ≡ false
untargeted_by false u p m f e = refl
untargeted_by true (Some x) p m f e = absurd (let y : ⊥ = cc in y)
untargeted_by true None (Some x) m f e = absurd (let y : ⊥ = cc in y)
untargeted_by true None None (Some x) f e = absurd (let y : ⊥ = cc in y)
untargeted_by true None None None (Some x) e = absurd (let y : ⊥ = cc in y)
untargeted_by true None None None None e = absurd (let y : ⊥ = cc in y)

many_by : (b : Bool) (u p : Option ProcId) (m f : Option ℕ) (i : ℕ) → five b u p m f ≡ Some (TooManyDestroyed i) → m ≡ Some i
many_by false u p m f i e = absurd (let y : ⊥ = cc in y)
many_by true (Some x) p m f i e = absurd (let y : ⊥ = cc in y)
many_by true None (Some x) m f i e = absurd (let y : ⊥ = cc in y)
many_by true None None (Some x) f i e = cc
many_by true None None None (Some x) i e = absurd (let y : ⊥ = cc in y)
many_by true None None None None i e = absurd (let y : ⊥ = cc in y)

free_by : (b : Bool) (u p : Option ProcId) (m f : Option ℕ) → five b u p m f ≡ None → (b ≡ true) × (m ≡ None)
free_by false u p m f e = absurd (let y : ⊥ = cc in y)
free_by true (Some x) p m f e = absurd (let y : ⊥ = cc in y)
free_by true None (Some x) m f e = absurd (let y : ⊥ = cc in y)
free_by true None None (Some x) f e = absurd (let y : ⊥ = cc in y)
free_by true None None None (Some x) e = absurd (let y : ⊥ = cc in y)
free_by true None None None None e = (refl, refl)

-- what the rules of replication find, where the kind asks for them
abbrev of_destroying : Kind → Option ℕ → Option ℕ
of_destroying RebootProcess m = None
of_destroying Reboot m = None
of_destroying RebootAndDelete m = m
of_destroying KillInstantly m = m

abbrev of_killing : Kind → Option ℕ → Option ℕ
of_killing RebootProcess f = None
of_killing Reboot f = None
of_killing RebootAndDelete f = None
of_killing KillInstantly f = f

module _ (situation : Situation) (s : ℕ → Bool) where
  abbrev has_target : Bool
  has_target = list_any s (numbers situation)

  abbrev ungranted : Kind → Option ProcId
  ungranted kind = least situation s (λ p. not (is_granted_to situation (Striking kind) p))

  abbrev shielded : Kind → Option ProcId
  shielded kind = least situation s (λ p. situation.is_protected p (Striking kind))

  abbrev many : Option ℕ
  many = too_many_destroyed situation s

  abbrev few : Option ℕ
  few = too_few_left situation s

  bar_is : (kind : Kind) → bar situation (Striking kind) s ≡ five has_target (ungranted kind) (shielded kind) (of_destroying kind many) (of_killing kind few)
  unfolding bar
  bar_is RebootProcess = refl
  bar_is Reboot = refl
  bar_is RebootAndDelete = refl
  bar_is KillInstantly = refl

  -- without a target there is none for any kind
  pub untargeted_too : (other kind : Kind) (rule : Rule) → rule ≡ NoTarget → bar situation (Striking other) s ≡ Some rule → bar situation (Striking kind) s ≢ None
  untargeted_too other kind rule is barred free = true≢false
      (sym (free_by has_target (ungranted kind) (shielded kind) (of_destroying kind many) (of_killing kind few) (sym (bar_is kind) ∙ free)).0
      ∙ untargeted_by has_target (ungranted other) (shielded other) (of_destroying other many) (of_killing other few) (sym (bar_is other) ∙ barred ∙ ap Some is))

  found_many : (kind : Kind) (m : Option ℕ) (i : ℕ) → of_destroying kind m ≡ Some i → m ≡ Some i
  found_many RebootProcess m i e = absurd (let y : ⊥ = cc in y)
  found_many Reboot m i e = absurd (let y : ⊥ = cc in y)
  found_many RebootAndDelete m i e = e
  found_many KillInstantly m i e = e

  found_none : (kind : Kind) (m : Option ℕ) → is_destroying kind ≡ true → of_destroying kind m ≡ None → m ≡ None
  found_none RebootProcess m e is = absurd (true≢false (sym e))
  found_none Reboot m e is = absurd (true≢false (sym e))
  found_none RebootAndDelete m e is = is
  found_none KillInstantly m e is = is

  -- where too many would be destroyed, they are for each kind that destroys
  pub many_too : (other kind : Kind) (rule : Rule) (i : ℕ) → rule ≡ TooManyDestroyed i → is_destroying kind ≡ true → bar situation (Striking other) s ≡ Some rule → bar situation (Striking kind) s ≢ None
  many_too other kind rule i is destroys barred free =
      let some : many ≡ Some i = found_many other many i (many_by has_target (ungranted other) (shielded other) (of_destroying other many) (of_killing other few) i (sym (bar_is other) ∙ barred ∙ ap Some is)) in
      let none : many ≡ None = found_none kind many destroys (free_by has_target (ungranted kind) (shielded kind) (of_destroying kind many) (of_killing kind few) (sym (bar_is kind) ∙ free)).1 in
      cc

-- ---- a kind in place of the ordered one
module _ (situation : Situation) (order : Order) (kind : Kind) (s : ℕ → Bool) where
  abbrev passes : Bool
  passes = is_none (bar situation (Striking kind) s)

  pub allowed : (found : Option Rule) → nat_lt (rank kind) (rank order.kind) ≡ true → nat_lt (rank kind) (rank order.floor) ≡ false → found ≡ bar situation (Striking kind) s → is_none found ≡ (is_allowed order kind && passes)
  allowed found milder above is = ap is_none is ∙ sym (ap (λ b. b && passes) (both (rank kind) (rank order.kind) (rank order.floor) milder above))
    where
      both : (a b c : ℕ) → nat_lt a b ≡ true → nat_lt a c ≡ false → (nat_le c a && nat_le a b) ≡ true
      both a b c milder above = grind (arith, nat_tests)

-- ---- the verdict
first_of : {X : Type 0} (b : Bool) (x y : X) → b ≡ true → cond b x y ≡ x
first_of true x y e = refl
first_of false x y e = absurd (true≢false (sym e))

-- where the ordered kind passes, it is the first of those allowed
ordered_first : (kind floor : Kind) (f : Kind → Bool) → rank floor ≤ rank kind → f kind ≡ true → find (λ k. (nat_le (rank floor) (rank k) && nat_le (rank k) (rank kind)) && f k) hardest_first ≡ Some kind
ordered_first KillInstantly KillInstantly f h e = first_of _ _ _ e
ordered_first KillInstantly RebootAndDelete f h e = first_of _ _ _ e
ordered_first KillInstantly Reboot f h e = first_of _ _ _ e
ordered_first KillInstantly RebootProcess f h e = first_of _ _ _ e
ordered_first RebootAndDelete KillInstantly f h e = absurd (omega arith)
ordered_first RebootAndDelete RebootAndDelete f h e = first_of _ _ _ e
ordered_first RebootAndDelete Reboot f h e = first_of _ _ _ e
ordered_first RebootAndDelete RebootProcess f h e = first_of _ _ _ e
ordered_first Reboot KillInstantly f h e = absurd (omega arith)
ordered_first Reboot RebootAndDelete f h e = absurd (omega arith)
ordered_first Reboot Reboot f h e = first_of _ _ _ e
ordered_first Reboot RebootProcess f h e = first_of _ _ _ e
ordered_first RebootProcess KillInstantly f h e = absurd (omega arith)
ordered_first RebootProcess RebootAndDelete f h e = absurd (omega arith)
ordered_first RebootProcess Reboot f h e = absurd (omega arith)
ordered_first RebootProcess RebootProcess f h e = first_of _ _ _ e

module _ (situation : Situation) (order : Order) where
  pub ordered_strikes : (s : ℕ → Bool) → bar situation (Striking order.kind) s ≡ None → hardest situation order s ≡ Some order.kind
  ordered_strikes s free = ordered_first order.kind order.floor (λ kind. is_none (bar situation (Striking kind) s)) order.ordered (ap is_none free)

-- what strikes rests on the two kinds of an order alone
pub between : (situation : Situation) (order : Order) (s : ℕ → Bool) (kind floor : Kind) → order.kind ≡ kind → order.floor ≡ floor
    → find (λ milder. (nat_le (rank floor) (rank milder) && nat_le (rank milder) (rank kind)) && is_none (bar situation (Striking milder) s)) hardest_first ≡ hardest situation order s
between situation order s kind floor kind_is floor_is =
    ap₂ (λ k f. find (λ milder. (nat_le (rank f) (rank milder) && nat_le (rank milder) (rank k)) && is_none (bar situation (Striking milder) s)) hardest_first) (sym kind_is) (sym floor_is)

-- whom the order is about
abbrev those : Situation → Order → ℕ → Bool
those situation order = targets situation.processes situation.left order.target

pub rule_of : (situation : Situation) (order : Order) (s : ℕ → Bool) (kind : Kind) (rule : Option Rule) → s ≡ those situation order → kind ≡ order.kind → rule ≡ bar situation (Striking kind) s → rule ≡ bar situation (Striking order.kind) (those situation order)
rule_of situation order s kind rule same is found = found ∙ ap (λ k. bar situation (Striking k) s) is ∙ ap (bar situation (Striking order.kind)) same

pub judged_free : (situation : Situation) (order : Order) (kind : Kind) (rule : Option Rule) → kind ≡ order.kind → rule ≡ bar situation (Striking order.kind) (those situation order) → rule ≡ None → record { struck = Some kind; rule = rule } ≡ verdict situation order
unfolding verdict
judged_free situation order kind rule is found free = λ i. record {
  struck = (ap Some is ∙ sym (ordered_strikes situation order (those situation order) (sym found ∙ free))) i;
  rule = found i;
}

pub judged_barred : (situation : Situation) (order : Order) (s : ℕ → Bool) (struck : Option Kind) (rule : Option Rule) → s ≡ those situation order → rule ≡ bar situation (Striking order.kind) (those situation order) → struck ≡ hardest situation order s → record { struck = struck; rule = rule } ≡ verdict situation order
unfolding verdict
judged_barred situation order s struck rule same found strongest = λ i. record { struck = (strongest ∙ ap (hardest situation order) same) i; rule = found i }

-- ---- what strikes has no bar
pub found_passes : {X : Type 0} (t : X → Bool) (xs : List X) (x : X) → find t xs ≡ Some x → t x ≡ true
found_passes t [] x e = absurd (let y : ⊥ = cc in y)
found_passes t (z ∷ zs) x e = go (found_passes t zs x) (t z) refl e
  where
    go : (find t zs ≡ Some x → t x ≡ true) → (b : Bool) → t z ≡ b → cond b (Some z) (find t zs) ≡ Some x → t x ≡ true
    go later true is here = let same : z ≡ x = cc in ap t (sym same) ∙ is
    go later false is here = later here

pub both_true : (a b : Bool) → (a && b) ≡ true → (a ≡ true) × (b ≡ true)
both_true true b e = (refl, e)
both_true false b e = absurd (true≢false (sym e))

pub none_of : {X : Type 0} (o : Option X) → is_none o ≡ true → o ≡ None
none_of None e = refl
none_of (Some x) e = absurd (true≢false (sym e))

-- what strikes was allowed and has no bar
strikes_free : (situation : Situation) (order : Order) (kind : Kind) → (verdict situation order).struck ≡ Some kind → bar situation (Striking kind) (those situation order) ≡ None
unfolding verdict
strikes_free situation order kind e =
    none_of _ (both_true _ _ (found_passes (λ k. is_allowed order k && is_none (bar situation (Striking k) (those situation order))) hardest_first kind e)).1

pub less_is_named : (situation : Situation) (order : Order) → ((verdict situation order).rule ≡ None) ↔ ((verdict situation order).struck ≡ Some order.kind)
unfolding verdict
less_is_named situation order = (λ free. ordered_strikes situation order (those situation order) free, λ struck. strikes_free situation order order.kind struck)

-- ---- clogging breaks no policy
or_none : {X : Type 0} (o : Option X) → option_or o None ≡ o
or_none None = refl
or_none (Some x) = refl

pub bar_of_clog : (situation : Situation) (s : ℕ → Bool) → first_rule (permission_rules situation Clogging s) ≡ bar situation Clogging s
unfolding bar
bar_of_clog situation s = sym (first_of_both (permission_rules situation Clogging s) (loss_rules situation Clogging s) ∙ or_none _)

-- ---- what has no bar may be destroyed
neither : (a b : Option Rule) → option_or a b ≡ None → b ≡ None
neither None b e = e
neither (Some x) b e = absurd (let y : ⊥ = cc in y)

no_loss : (situation : Situation) (deed : Deed) (s : ℕ → Bool) → bar situation deed s ≡ None → first_rule (loss_rules situation deed s) ≡ None
unfolding bar
no_loss situation deed s e = neither (first_rule (permission_rules situation deed s)) _ (sym (first_of_both (permission_rules situation deed s) (loss_rules situation deed s)) ∙ e)

abbrev too_many : Situation → (ℕ → Bool) → Option ℕ
too_many situation s = position (λ P. satisfies situation.processes P (with_set situation.destroyed s)) situation.policies

abbrev too_few : Situation → (ℕ → Bool) → Option ℕ
too_few situation s = position (λ P. not (satisfies situation.processes P (without_set situation.left s))) situation.policies

not_many : (many : Option ℕ) (few : Option Rule) → first_rule (option_map TooManyDestroyed many ∷ few ∷ []) ≡ None → many ≡ None
not_many None few e = refl
not_many (Some i) few e = absurd (let y : ⊥ = cc in y)

not_few : (many few : Option ℕ) → first_rule (option_map TooManyDestroyed many ∷ option_map TooFewLeft few ∷ []) ≡ None → few ≡ None
not_few None None e = refl
not_few None (Some i) e = absurd (let y : ⊥ = cc in y)
not_few (Some i) few e = absurd (let y : ⊥ = cc in y)

pub each_short : (processes : List Locality) (policies : List Tree) (s : ℕ → Bool)
    → TestIsSatisfaction
    → AllByRecursion (λ P. satisfies processes P s ≡ false) policies → AreShort processes policies s
each_short processes [] s law h = tt
each_short processes (q ∷ qs) s law h = (λ sat. absurd (true≢false (sym ((law processes q s).1 sat) ∙ h.0)), each_short processes qs s law h.1)

module _ (law : TestIsSatisfaction) (situation : Situation) (s : ℕ → Bool) where
  short_where : too_many situation s ≡ None → AreShort situation.processes situation.policies (with_set situation.destroyed s)
  short_where e = each_short situation.processes situation.policies _ law (none_found _ 0 situation.policies (sym (position_from-zero (λ P. satisfies situation.processes P (with_set situation.destroyed s)) situation.policies) ∙ e))

  enough_where : too_few situation s ≡ None → AreSatisfied situation.processes situation.policies (without_set situation.left s)
  enough_where e = each_satisfied situation.processes situation.policies _ law (none_found _ 0 situation.policies (sym (position_from-zero (λ P. not (satisfies situation.processes P (without_set situation.left s))) situation.policies) ∙ e))

  pub may_where_free : (kind : Kind) (loss : Loss) → loss_of kind ≡ Some loss → bar situation (Striking kind) s ≡ None → MayDestroy situation.processes situation.policies situation.destroyed situation.left s loss
  may_where_free RebootProcess loss e free = absurd (let y : ⊥ = cc in y)
  may_where_free Reboot loss e free = absurd (let y : ⊥ = cc in y)
  may_where_free RebootAndDelete loss e free = subst (MayDestroy situation.processes situation.policies situation.destroyed situation.left s) (some_same e) (short_where (not_many (too_many situation s) None (no_loss situation (Striking RebootAndDelete) s free)))
    where
      some_same : Some Emptied ≡ Some loss → Emptied ≡ loss
      some_same e = cc
  may_where_free KillInstantly loss e free = subst (MayDestroy situation.processes situation.policies situation.destroyed situation.left s) (some_same e) (short_where (not_many (too_many situation s) _ (no_loss situation (Striking KillInstantly) s free)), enough_where (not_few (too_many situation s) (too_few situation s) (no_loss situation (Striking KillInstantly) s free)))
    where
      some_same : Some Gone ≡ Some loss → Gone ≡ loss
      some_same e = cc

pub struck_may : TestIsSatisfaction → (situation : Situation) (order : Order) (kind : Kind) (loss : Loss) → (verdict situation order).struck ≡ Some kind → loss_of kind ≡ Some loss → MayDestroy situation.processes situation.policies situation.destroyed situation.left (those situation order) loss
struck_may law situation order kind loss struck brings = may_where_free law situation (those situation order) kind loss brings (strikes_free situation order kind struck)
