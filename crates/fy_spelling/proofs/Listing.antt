-- what is found in an act's value is the act that is listed so
use Rattle.std.proofs.Common.{◌≡◌, ℕ, Bool, true, false, cond, List, [], ◌∷◌, codes, Option, Some, None, option_map, bytes_eq, refl, sym, ap, subst, ◌∙◌}
use Rattle.std.proofs.lemmas.Slice.Eq.{bytes_eq-Decides}
use Rattle.serde_json.specs.Data.{Data}
use Rattle.fy_kinds.specs.Kinds.{Deed}
use Rattle.fy_kinds.specs.Members.{Members}
use Rattle.fy_kinds.specs.declared.order.Target.{Target}
use Rattle.fy_locality.specs.declared.ProcId.{ProcId}
use Rattle.std.specs.Option.{option_or}
use Rattle.fy_spelling.specs.Candidate.{sole, one, two, three, five, u64_from, u32_from, process_from, members_from, kind_from, target_from, kinds_from, payload_from, target_in, scope_from, u64_in, process_in, clog_in, order_in, form_in, begin_in, give_in, protection_in, resend_in, take_in, copy_in, replace_in, clog_or_tick_from, message_act_from, rights_act_from, healing_act_from, plain_act_from, named_act_from, act_from, command_from}
use Rattle.fy_spelling.specs.Command.{gathered, asking}
use Rattle.fy_spelling.specs.Fits.{IsU32, IsU64, IsProcess, FitsTarget, FitsAct}
use Rattle.fy_spelling.specs.Values.{with_fields, under, whole, order_value, protection_value, process_value, act_listing, kinds_in}
use Rattle.fy_acts.specs.declared.act.Act.{Act}
use Rattle.fy_acts.specs.declared.act.Act.TheVariants as act
use Rattle.fy_spelling.specs.declared.reading.UncheckedAct.{UncheckedAct}
use Rattle.fy_spelling.specs.declared.reading.UncheckedAct.TheVariants.{Order, Other}
use Rattle.fy_spelling.proofs.Told.{came, mapped, same_some, told_one, told_sole, told_two, told_three, told_five, told_long, told_short, told_process, told_members, told_kind, told_target, told_target_in, told_scope, told_kinds, told_payload}

-- the value lists the act
pub record Lists (value : Data) (asked : Act) : Type 0 where
  pub kinds : List Deed
  pub same : gathered kinds ≡ kinds_in asked
  pub fits : FitsAct asked
  pub is : value ≡ act_listing kinds asked

-- the value is that of what was found
abbrev pub IsFor : Data → UncheckedAct → Type 0
IsFor value (Order target kind floor tear) =
    FitsTarget target × IsU64 tear
    × (value ≡ under (codes "kill") (order_value target kind floor tear))
IsFor value (Other asked) = Lists value asked

-- an act that names no kinds
plain :
    (value : Data) (asked : Act) → gathered [] ≡ kinds_in asked → FitsAct asked
    → value ≡ act_listing [] asked → Lists value asked
plain value asked same fits is = record { kinds = []; same = same; fits = fits; is = is }

-- ---- parts

told_long_in : (key : List ℕ) (d : Data) (n : ℕ) → u64_in key d ≡ Some n → (d ≡ under key (whole n)) × IsU64 n
told_long_in key d n e =
    let v = came (one key d) _ n e in
    let m = told_long v.x n v.then in
    (told_one key d v.x v.is ∙ ap (under key) m.0, m.1)

told_process_in : (d : Data) (p : ProcId) → process_in d ≡ Some p → (d ≡ process_value p) × IsProcess p
told_process_in d p e =
    let v = came (one (codes "process") d) _ p e in
    let m = told_process v.x p v.then in
    (told_one (codes "process") d v.x v.is ∙ ap (under (codes "process")) m.0, m.1)

-- ---- acts

told_clog : (d : Data) (a : Act) → option_map (λ c. act.Clog c.0 c.1) (clog_in d) ≡ Some a → Lists (under (codes "clog") d) a
told_clog d a e =
    let c = mapped _ (clog_in d) a e in
    let v = came (three (codes "key") (codes "ticks") (codes "value") d) _ c.x c.is in
    let t = came (target_from v.x.0 v.x.2) _ c.x v.then in
    let n = came (u64_from v.x.1) _ c.x t.then in
    let at = told_target v.x.0 v.x.2 t.x t.is in
    let ticks = told_long v.x.1 n.x n.is in
    let same : act.Clog t.x n.x ≡ a = ap (λ (p : Target × ℕ). act.Clog p.0 p.1) (same_some (t.x, n.x) c.x n.then) ∙ same_some _ a c.then in
    subst (Lists (under (codes "clog") d)) same
    (plain _ (act.Clog t.x n.x) refl (at.fits, ticks.1)
    (ap (under (codes "clog"))
    (told_three (codes "key") (codes "ticks") (codes "value") d v.x v.is
    ∙ (λ i. with_fields ((codes "key", at.key i) ∷ (codes "ticks", ticks.0 i) ∷ (codes "value", at.value i) ∷ [])))))

told_unclog : (d : Data) (a : Act) → option_map act.Unclog (target_in d) ≡ Some a → Lists (under (codes "unclog") d) a
told_unclog d a e =
    let t = mapped act.Unclog (target_in d) a e in
    let at = told_target_in d t.x t.is in
    subst (Lists (under (codes "unclog") d)) (same_some _ a t.then)
    (plain _ (act.Unclog t.x) refl at.1 (ap (under (codes "unclog")) at.0))

told_tick : (d : Data) (a : Act) → option_map act.Tick (u64_in (codes "ticks") d) ≡ Some a → Lists (under (codes "tick") d) a
told_tick d a e =
    let n = mapped act.Tick (u64_in (codes "ticks") d) a e in
    let at = told_long_in (codes "ticks") d n.x n.is in
    subst (Lists (under (codes "tick") d)) (same_some _ a n.then)
    (plain _ (act.Tick n.x) refl at.1 (ap (under (codes "tick")) at.0))

told_deliver : (d : Data) (a : Act) → option_map act.Deliver (u64_in (codes "message") d) ≡ Some a → Lists (under (codes "deliver") d) a
told_deliver d a e =
    let n = mapped act.Deliver (u64_in (codes "message") d) a e in
    let at = told_long_in (codes "message") d n.x n.is in
    subst (Lists (under (codes "deliver") d)) (same_some _ a n.then)
    (plain _ (act.Deliver n.x) refl at.1 (ap (under (codes "deliver")) at.0))

told_lose : (d : Data) (a : Act) → option_map act.Lose (u64_in (codes "message") d) ≡ Some a → Lists (under (codes "lose") d) a
told_lose d a e =
    let n = mapped act.Lose (u64_in (codes "message") d) a e in
    let at = told_long_in (codes "message") d n.x n.is in
    subst (Lists (under (codes "lose") d)) (same_some _ a n.then)
    (plain _ (act.Lose n.x) refl at.1 (ap (under (codes "lose")) at.0))

told_sync : (d : Data) (a : Act) → option_map act.Sync (process_in d) ≡ Some a → Lists (under (codes "sync") d) a
told_sync d a e =
    let p = mapped act.Sync (process_in d) a e in
    let at = told_process_in d p.x p.is in
    subst (Lists (under (codes "sync") d)) (same_some _ a p.then)
    (plain _ (act.Sync p.x) refl at.1 (ap (under (codes "sync")) at.0))

told_up : (d : Data) (a : Act) → option_map act.Up (process_in d) ≡ Some a → Lists (under (codes "up") d) a
told_up d a e =
    let p = mapped act.Up (process_in d) a e in
    let at = told_process_in d p.x p.is in
    subst (Lists (under (codes "up") d)) (same_some _ a p.then)
    (plain _ (act.Up p.x) refl at.1 (ap (under (codes "up")) at.0))

told_heal : (d : Data) (a : Act) → option_map act.Heal (process_in d) ≡ Some a → Lists (under (codes "heal") d) a
told_heal d a e =
    let p = mapped act.Heal (process_in d) a e in
    let at = told_process_in d p.x p.is in
    subst (Lists (under (codes "heal") d)) (same_some _ a p.then)
    (plain _ (act.Heal p.x) refl at.1 (ap (under (codes "heal")) at.0))

told_resend : (d : Data) (a : Act) → resend_in d ≡ Some a → Lists (under (codes "resend") d) a
told_resend d a e =
    let v = came (two (codes "process") (codes "record") d) _ a e in
    let p = came (process_from v.x.0) _ a v.then in
    let n = came (u32_from v.x.1) _ a p.then in
    let process = told_process v.x.0 p.x p.is in
    let rec = told_short v.x.1 n.x n.is in
    subst (Lists (under (codes "resend") d)) (same_some _ a n.then)
    (plain _ (act.Resend n.x p.x) refl (rec.1, process.1)
    (ap (under (codes "resend"))
    (told_two (codes "process") (codes "record") d v.x v.is
    ∙ (λ i. with_fields ((codes "process", process.0 i) ∷ (codes "record", rec.0 i) ∷ [])))))

told_take : (d : Data) (a : Act) → take_in d ≡ Some a → Lists (under (codes "take") d) a
told_take d a e =
    let v = came (two (codes "actor") (codes "index") d) _ a e in
    let m = came (u32_from v.x.0) _ a v.then in
    let n = came (u32_from v.x.1) _ a m.then in
    let actor = told_short v.x.0 m.x m.is in
    let index = told_short v.x.1 n.x n.is in
    subst (Lists (under (codes "take") d)) (same_some _ a n.then)
    (plain _ (act.Take m.x n.x) refl (actor.1, index.1)
    (ap (under (codes "take"))
    (told_two (codes "actor") (codes "index") d v.x v.is
    ∙ (λ i. with_fields ((codes "actor", actor.0 i) ∷ (codes "index", index.0 i) ∷ [])))))

told_copy : (d : Data) (a : Act) → copy_in d ≡ Some a → Lists (under (codes "copy") d) a
told_copy d a e =
    let v = came (three (codes "from") (codes "record") (codes "to") d) _ a e in
    let p = came (process_from v.x.0) _ a v.then in
    let n = came (u32_from v.x.1) _ a p.then in
    let q = came (process_from v.x.2) _ a n.then in
    let from = told_process v.x.0 p.x p.is in
    let rec = told_short v.x.1 n.x n.is in
    let to = told_process v.x.2 q.x q.is in
    subst (Lists (under (codes "copy") d)) (same_some _ a q.then)
    (plain _ (act.CopyTo p.x n.x q.x) refl (from.1, rec.1, to.1)
    (ap (under (codes "copy"))
    (told_three (codes "from") (codes "record") (codes "to") d v.x v.is
    ∙ (λ i. with_fields ((codes "from", from.0 i) ∷ (codes "record", rec.0 i) ∷ (codes "to", to.0 i) ∷ [])))))

told_replace : (d : Data) (a : Act) → replace_in d ≡ Some a → Lists (under (codes "replace") d) a
told_replace d a e =
    let v = came (three (codes "into") (codes "out") (codes "team") d) _ a e in
    let p = came (process_from v.x.0) _ a v.then in
    let q = came (process_from v.x.1) _ a p.then in
    let n = came (u32_from v.x.2) _ a q.then in
    let into = told_process v.x.0 p.x p.is in
    let out = told_process v.x.1 q.x q.is in
    let team = told_short v.x.2 n.x n.is in
    subst (Lists (under (codes "replace") d)) (same_some _ a n.then)
    (plain _ (act.Replace n.x q.x p.x) refl (team.1, out.1, into.1)
    (ap (under (codes "replace"))
    (told_three (codes "into") (codes "out") (codes "team") d v.x v.is
    ∙ (λ i. with_fields ((codes "into", into.0 i) ∷ (codes "out", out.0 i) ∷ (codes "team", team.0 i) ∷ [])))))

told_form : (d : Data) (a : Act) → form_in d ≡ Some a → Lists (under (codes "form") d) a
told_form d a e =
    let v = came (two (codes "members") (codes "policy") d) _ a e in
    let n = came (u32_from v.x.1) _ a v.then in
    let m = came (members_from v.x.0) _ a n.then in
    let policy = told_short v.x.1 n.x n.is in
    let members = told_members v.x.0 m.x m.is in
    subst (Lists (under (codes "form") d)) (same_some _ a m.then)
    (plain _ (act.Form m.x n.x) refl (members.1, policy.1)
    (ap (under (codes "form"))
    (told_two (codes "members") (codes "policy") d v.x v.is
    ∙ (λ i. with_fields ((codes "members", members.0 i) ∷ (codes "policy", policy.0 i) ∷ [])))))

told_begin : (d : Data) (a : Act) → begin_in d ≡ Some a → Lists (under (codes "begin") d) a
told_begin d a e =
    let v = came (two (codes "payload") (codes "team") d) _ a e in
    let n = came (u32_from v.x.1) _ a v.then in
    let b = came (payload_from v.x.0) _ a n.then in
    let team = told_short v.x.1 n.x n.is in
    let payload = told_payload v.x.0 b.x b.is in
    subst (Lists (under (codes "begin") d)) (same_some _ a b.then)
    (plain _ (act.Begin n.x b.x) refl (team.1, payload.1)
    (ap (under (codes "begin"))
    (told_two (codes "payload") (codes "team") d v.x v.is
    ∙ (λ i. with_fields ((codes "payload", payload.0 i) ∷ (codes "team", team.0 i) ∷ [])))))

told_give : (d : Data) (a : Act) → give_in d ≡ Some a → Lists (under (codes "give") d) a
told_give d a e =
    let v = came (three (codes "actor") (codes "kinds") (codes "scope") d) _ a e in
    let n = came (u32_from v.x.0) _ a v.then in
    let k = came (kinds_from v.x.1) _ a n.then in
    let s = came (scope_from v.x.2) _ a k.then in
    let actor = told_short v.x.0 n.x n.is in
    let kinds = told_kinds v.x.1 k.x k.is in
    let scope = told_scope v.x.2 s.x s.is in
    subst (Lists (under (codes "give") d)) (same_some _ a s.then)
    (record {
      kinds = kinds.kinds;
      same = kinds.same;
      fits = (actor.1, scope.1);
      is = ap (under (codes "give"))
          (told_three (codes "actor") (codes "kinds") (codes "scope") d v.x v.is
          ∙ (λ i. with_fields ((codes "actor", actor.0 i) ∷ (codes "kinds", kinds.is i) ∷ (codes "scope", scope.0 i) ∷ [])));
    })

-- a protection, of either kind
told_protection :
    (make : ProcId → Members → Act) (word : List ℕ)
    → ((kinds : List Deed) (p : ProcId) (set : Members) → act_listing kinds (make p set) ≡ under word (protection_value kinds p))
    → ((p : ProcId) (set : Members) → kinds_in (make p set) ≡ set)
    → ((p : ProcId) (set : Members) → IsProcess p → FitsAct (make p set))
    → (d : Data) (a : Act) → option_map (λ p. make p.0 p.1) (protection_in d) ≡ Some a
    → Lists (under word d) a
told_protection make word listed named fitting d a e =
    let c = mapped _ (protection_in d) a e in
    let v = came (two (codes "kinds") (codes "process") d) _ c.x c.is in
    let k = came (kinds_from v.x.0) _ c.x v.then in
    let p = came (process_from v.x.1) _ c.x k.then in
    let kinds = told_kinds v.x.0 k.x k.is in
    let process = told_process v.x.1 p.x p.is in
    let same : make p.x k.x ≡ a = ap (λ (q : ProcId × Members). make q.0 q.1) (same_some (p.x, k.x) c.x p.then) ∙ same_some _ a c.then in
    subst (Lists (under word d)) same
    (record {
      kinds = kinds.kinds;
      same = kinds.same ∙ sym (named p.x k.x);
      fits = fitting p.x k.x process.1;
      is = ap (under word)
          (told_two (codes "kinds") (codes "process") d v.x v.is
          ∙ (λ i. with_fields ((codes "kinds", kinds.is i) ∷ (codes "process", process.0 i) ∷ [])))
          ∙ sym (listed kinds.kinds p.x k.x);
    })

told_order : (d : Data) (asked : UncheckedAct) → order_in d ≡ Some asked → IsFor (under (codes "kill") d) asked
told_order d asked e =
    let v = came (five (codes "floor") (codes "key") (codes "kind") (codes "tear") (codes "value") d) _ asked e in
    let f = came (kind_from v.x.0) _ asked v.then in
    let t = came (target_from v.x.1 v.x.4) _ asked f.then in
    let k = came (kind_from v.x.2) _ asked t.then in
    let n = came (u64_from v.x.3) _ asked k.then in
    let at = told_target v.x.1 v.x.4 t.x t.is in
    let floor = told_kind v.x.0 f.x f.is in
    let kind = told_kind v.x.2 k.x k.is in
    let tear = told_long v.x.3 n.x n.is in
    subst (IsFor (under (codes "kill") d)) (same_some _ asked n.then) (
      at.fits,
      tear.1,
      ap (under (codes "kill"))
          (told_five (codes "floor") (codes "key") (codes "kind") (codes "tear") (codes "value") d v.x v.is
          ∙ (λ i. with_fields ((codes "floor", floor i) ∷ (codes "key", at.key i) ∷ (codes "kind", kind i) ∷ (codes "tear", tear.0 i) ∷ (codes "value", at.value i) ∷ []))),
    )

-- ---- acts by their names

-- the act of a word, or one of those behind it
at_word :
    {A : Type 0} (Is : Data → A → Type 0) (name word : List ℕ) (p q : Option A) (d : Data) (a : A)
    → (p ≡ Some a → Is (under word d) a) → (q ≡ Some a → Is (under name d) a)
    → cond (bytes_eq name word) p q ≡ Some a → Is (under name d) a
at_word Is name word p q d a here later = go (bytes_eq name word) refl
  where
    go : (b : Bool) → bytes_eq name word ≡ b → cond b p q ≡ Some a → Is (under name d) a
    go true is e = subst (λ w. Is (under w d) a) (sym ((bytes_eq-Decides name word).0 is)) (here e)
    go false is e = later e

told_aimed : (name : List ℕ) (d : Data) (a : Act) → clog_or_tick_from name d ≡ Some a → Lists (under name d) a
told_aimed name d a =
    at_word Lists name (codes "clog") _ _ d a (told_clog d a)
    (at_word Lists name (codes "unclog") _ _ d a (told_unclog d a)
    (at_word Lists name (codes "tick") _ _ d a (told_tick d a)
    (λ e. absurd (let no : ⊥ = cc in no))))

told_moved : (name : List ℕ) (d : Data) (a : Act) → message_act_from name d ≡ Some a → Lists (under name d) a
told_moved name d a =
    at_word Lists name (codes "deliver") _ _ d a (told_deliver d a)
    (at_word Lists name (codes "lose") _ _ d a (told_lose d a)
    (at_word Lists name (codes "resend") _ _ d a (told_resend d a)
    (at_word Lists name (codes "sync") _ _ d a (told_sync d a)
    (at_word Lists name (codes "up") _ _ d a (told_up d a)
    (λ e. absurd (let no : ⊥ = cc in no))))))

told_righted : (name : List ℕ) (d : Data) (a : Act) → rights_act_from name d ≡ Some a → Lists (under name d) a
told_righted name d a =
    at_word Lists name (codes "give") _ _ d a (told_give d a)
    (at_word Lists name (codes "take") _ _ d a (told_take d a)
    (at_word Lists name (codes "protect") _ _ d a
    (told_protection act.Protect (codes "protect") (λ kinds p set. refl) (λ p set. refl) (λ p set h. h) d a)
    (at_word Lists name (codes "unprotect") _ _ d a
    (told_protection act.Unprotect (codes "unprotect") (λ kinds p set. refl) (λ p set. refl) (λ p set h. h) d a)
    (λ e. absurd (let no : ⊥ = cc in no)))))

told_healed : (name : List ℕ) (d : Data) (a : Act) → healing_act_from name d ≡ Some a → Lists (under name d) a
told_healed name d a =
    at_word Lists name (codes "copy") _ _ d a (told_copy d a)
    (at_word Lists name (codes "replace") _ _ d a (told_replace d a)
    (at_word Lists name (codes "heal") _ _ d a (told_heal d a)
    (λ e. absurd (let no : ⊥ = cc in no))))

-- the first of two, or the other
at_either : {A : Type 0} (P : Type 0) (p q : Option A) (a : A) → (p ≡ Some a → P) → (q ≡ Some a → P)
    → option_or p q ≡ Some a → P
at_either P None q a first second e = second e
at_either P (Some x) q a first second e = first e

told_plain : (name : List ℕ) (d : Data) (a : Act) → plain_act_from name d ≡ Some a → Lists (under name d) a
told_plain name d a =
    let aimed = clog_or_tick_from name d in
    let moved = message_act_from name d in
    let righted = rights_act_from name d in
    at_either _ (option_or (option_or aimed moved) righted) (healing_act_from name d) a
    (at_either _ (option_or aimed moved) righted a
    (at_either _ aimed moved a (told_aimed name d a) (told_moved name d a))
    (told_righted name d a))
    (told_healed name d a)

-- an act that is no kill
told_other :
    (value : Data) (o : Option Act) (asked : UncheckedAct)
    → ((a : Act) → o ≡ Some a → Lists value a) → option_map Other o ≡ Some asked → IsFor value asked
told_other value o asked told e =
    let a = mapped Other o asked e in
    subst (IsFor value) (same_some (Other a.x) asked a.then) (told a.x a.is)

told_asked : (name : List ℕ) (d : Data) (asked : UncheckedAct) → named_act_from name d ≡ Some asked → IsFor (under name d) asked
told_asked name d asked =
    at_word IsFor name (codes "kill") _ _ d asked (told_order d asked)
    (at_word IsFor name (codes "form") _ _ d asked (told_other (under (codes "form") d) _ asked (told_form d))
    (at_word IsFor name (codes "begin") _ _ d asked (told_other (under (codes "begin") d) _ asked (told_begin d))
    (told_other (under name d) _ asked (told_plain name d))))

pub told_act : (d : Data) (asked : UncheckedAct) → act_from d ≡ Some asked → IsFor d asked
told_act d asked e =
    let p = came (sole d) _ asked e in
    subst (λ w. IsFor w asked) (sym (told_sole d p.x p.is)) (told_asked p.x.0 p.x.1 asked p.then)

-- the value of a line, and who asks
pub record IsAsked (d : Data) (actor : ℕ) (asked : UncheckedAct) : Type 0 where
  pub value : Data
  pub act : IsFor value asked
  pub by : IsU32 actor
  pub is : d ≡ asking actor value

pub told_command : (d : Data) (by : ℕ) (asked : UncheckedAct) → command_from d ≡ Some (by, asked) → IsAsked d by asked
told_command d by asked e =
    let v = came (two (codes "act") (codes "by") d) _ (by, asked) e in
    let n = came (u32_from v.x.1) _ (by, asked) v.then in
    let a = came (act_from v.x.0) _ (by, asked) n.then in
    let actor = told_short v.x.1 n.x n.is in
    let same : (n.x, a.x) ≡ (by, asked) = same_some _ (by, asked) a.then in
    subst (λ (q : ℕ × UncheckedAct). IsAsked d q.0 q.1) same
    (record {
      value = v.x.0;
      act = told_act v.x.0 a.x a.is;
      by = actor.1;
      is = told_two (codes "act") (codes "by") d v.x v.is
          ∙ (λ i. with_fields ((codes "act", v.x.0) ∷ (codes "by", actor.0 i) ∷ []));
    })
