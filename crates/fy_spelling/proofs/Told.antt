-- what is told of a value is so: the value is that of the act that was found
use Rattle.std.proofs.Common.{◌≡◌, ℕ, suc, ◌<◌, ◌^◌, Bool, true, false, cond, nat_lt, ltb, List, [], ◌∷◌, map, codes, Option, Some, None, option_map, Result, Ok, Err, bytes_eq, refl, sym, ap, subst, ◌∙◌, arith}
use Rattle.std.proofs.lemmas.Bool.Decides.{nat_tests}
use Rattle.std.proofs.lemmas.Slice.Eq.{bytes_eq-Decides}
use Rattle.std.specs.Cmp.Lexicographic.{pointwise, same_text}
use Rattle.std.specs.List.{find, AllByRecursion}
use Rattle.std.specs.Prelude.{nat_eq}
use Rattle.serde_json.specs.Data.{Num, Data, null, boolean, number, unsigned, negative, float, string, array, object, Items, no_items, item, Members as Fields, no_members, member}
use Rattle.serde_json.specs.Find.{as_object, as_array, as_str, as_number, as_u64}
use Rattle.serde_json.specs.View.{items_of}
use Rattle.hex.specs.Hex.{decode_of, encode_lower, IsBytes}
use Rattle.hex.specs.declared.error.FromHexError.{FromHexError}
use Rattle.hex.proofs.HexLemmas.{decode_of-ok}
use Rattle.fy_locality.specs.Key.{key_text}
use Rattle.fy_locality.specs.Name.{is_name}
use Rattle.fy_locality.specs.declared.ProcId.{ProcId}
use Rattle.fy_locality.specs.declared.key.Key.{Key}
use Rattle.fy_kinds.specs.Kinds.{Deed, deeds, deed_text, kind_text, all_kinds}
use Rattle.fy_kinds.specs.Members.{Members}
use Rattle.fy_kinds.specs.declared.kind.Kind.{Kind}
use Rattle.fy_kinds.specs.declared.order.Target.{Target}
use Rattle.fy_grants.specs.declared.grant.Scope.{Scope}
use Rattle.fy_grants.specs.declared.grant.Scope.TheVariants.{All, Where}
use Rattle.fy_team.specs.Members.{are_members}
use Rattle.fy_locality.specs.Chain.{◌>>=◌}
use Rattle.fy_locality.specs.Key.{all_keys}
use Rattle.fy_spelling.specs.Candidate.{next_at, first_of, at_end, sole, one, two, three, five, u64_from, u32_from, process_from, processes_from, members_from, kind_from, key_from, name_from, target_from, deed_from, deeds_from, kinds_from, given, payload_from, target_in, scope_by, scope_from}
use Rattle.fy_spelling.specs.Command.{gathered}
use Rattle.fy_spelling.specs.Fits.{IsU32, IsU64, IsByte, IsProcess, FitsTarget, FitsScope, FitsMembers}
use Rattle.fy_spelling.specs.Values.{with_fields, under, whole, processes_value, deeds_value, target_value, scope_value}

-- ---- steps

-- what came of two steps came of a first and a second
pub record Came {A B : Type 0} (o : Option A) (f : A → Option B) (y : B) : Type 0 where
  pub x : A
  pub is : o ≡ Some x
  pub then : f x ≡ Some y

pub came : {A B : Type 0} (o : Option A) (f : A → Option B) (y : B) → (o >>= f) ≡ Some y → Came o f y
came None f y e = absurd (let no : ⊥ = cc in no)
came (Some x) f y e = record { x = x; is = refl; then = e }

pub same_some : {A : Type 0} (x y : A) → Some x ≡ Some y → x ≡ y
same_some x y e = cc

pub mapped : {A B : Type 0} (g : A → B) (o : Option A) (y : B) → option_map g o ≡ Some y → Came o (λ x. Some (g x)) y
mapped g None y e = absurd (let no : ⊥ = cc in no)
mapped g (Some x) y e = record { x = x; is = refl; then = e }

pub passed : {A : Type 0} (b : Bool) (x y : A) → cond b (Some x) None ≡ Some y → (b ≡ true) × (x ≡ y)
passed true x y e = (refl, same_some x y e)
passed false x y e = absurd (let no : ⊥ = cc in no)

-- ---- members of objects

told_next : (key : List ℕ) (ms : Fields) (p : Data × Fields) → next_at key ms ≡ Some p → ms ≡ member key p.0 p.1
told_next key no_members p e = absurd (let no : ⊥ = cc in no)
told_next key (member k d ms) p e =
    let both = passed (bytes_eq k key) (d, ms) p e in
    let same : k ≡ key = (bytes_eq-Decides k key).0 both.0 in
    λ i. member (same i) (both.1 i).0 (both.1 i).1

told_end : {A : Type 0} (ms : Fields) (x y : A) → at_end ms x ≡ Some y → (ms ≡ no_members) × (x ≡ y)
told_end no_members x y e = (refl, same_some x y e)
told_end (member k d ms) x y e = absurd (let no : ⊥ = cc in no)

told_object : (d : Data) (ms : Fields) → as_object d ≡ Some ms → d ≡ object ms
told_object null ms e = absurd (let no : ⊥ = cc in no)
told_object (boolean b) ms e = absurd (let no : ⊥ = cc in no)
told_object (number n) ms e = absurd (let no : ⊥ = cc in no)
told_object (string s) ms e = absurd (let no : ⊥ = cc in no)
told_object (array ds) ms e = absurd (let no : ⊥ = cc in no)
told_object (object found) ms e = ap object (same_some found ms e)

pub told_one : (k : List ℕ) (d v : Data) → one k d ≡ Some v → d ≡ under k v
told_one k d v e =
    let o = came (as_object d) _ v e in
    let a = came (next_at k o.x) _ v o.then in
    let z = told_end a.x.1 a.x.0 v a.then in
    told_object d o.x o.is
    ∙ ap object (told_next k o.x a.x a.is)
    ∙ (λ i. object (member k (z.1 i) (z.0 i)))

pub told_sole : (d : Data) (p : List ℕ × Data) → sole d ≡ Some p → d ≡ under p.0 p.1
told_sole d p e =
    let o = came (as_object d) _ p e in
    let a = came (first_of o.x) _ p o.then in
    let z = told_end a.x.1 a.x.0 p a.then in
    told_object d o.x o.is
    ∙ ap object (first o.x a.x a.is)
    ∙ (λ i. object (member (z.1 i).0 (z.1 i).1 (z.0 i)))
  where
    first : (ms : Fields) (q : (List ℕ × Data) × Fields) → first_of ms ≡ Some q → ms ≡ member q.0.0 q.0.1 q.1
    first no_members q e = absurd (let no : ⊥ = cc in no)
    first (member k d ms) q e =
        let same = same_some ((k, d), ms) q e in λ i. member (same i).0.0 (same i).0.1 (same i).1

pub told_two :
    (k l : List ℕ) (d : Data) (p : Data × Data)
    → two k l d ≡ Some p → d ≡ with_fields ((k, p.0) ∷ (l, p.1) ∷ [])
told_two k l d p e =
    let o = came (as_object d) _ p e in
    let a = came (next_at k o.x) _ p o.then in
    let b = came (next_at l a.x.1) _ p a.then in
    let z = told_end b.x.1 (a.x.0, b.x.0) p b.then in
    told_object d o.x o.is
    ∙ ap object (told_next k o.x a.x a.is)
    ∙ ap (λ ms. object (member k a.x.0 ms)) (told_next l a.x.1 b.x b.is)
    ∙ (λ i. object (member k (z.1 i).0 (member l (z.1 i).1 (z.0 i))))

pub told_three :
    (k l m : List ℕ) (d : Data) (p : Data × Data × Data)
    → three k l m d ≡ Some p → d ≡ with_fields ((k, p.0) ∷ (l, p.1) ∷ (m, p.2) ∷ [])
told_three k l m d p e =
    let o = came (as_object d) _ p e in
    let a = came (next_at k o.x) _ p o.then in
    let b = came (next_at l a.x.1) _ p a.then in
    let c = came (next_at m b.x.1) _ p b.then in
    let z = told_end c.x.1 (a.x.0, b.x.0, c.x.0) p c.then in
    told_object d o.x o.is
    ∙ ap object (told_next k o.x a.x a.is)
    ∙ ap (λ ms. object (member k a.x.0 ms)) (told_next l a.x.1 b.x b.is)
    ∙ ap (λ ms. object (member k a.x.0 (member l b.x.0 ms))) (told_next m b.x.1 c.x c.is)
    ∙ (λ i. object (member k (z.1 i).0 (member l (z.1 i).1 (member m (z.1 i).2 (z.0 i)))))

pub told_five :
    (k l m n o : List ℕ) (d : Data) (p : Data × Data × Data × Data × Data)
    → five k l m n o d ≡ Some p
    → d ≡ with_fields ((k, p.0) ∷ (l, p.1) ∷ (m, p.2) ∷ (n, p.3) ∷ (o, p.4) ∷ [])
told_five k l m n o d p e =
    let u = came (as_object d) _ p e in
    let a = came (next_at k u.x) _ p u.then in
    let b = came (next_at l a.x.1) _ p a.then in
    let c = came (next_at m b.x.1) _ p b.then in
    let f = came (next_at n c.x.1) _ p c.then in
    let g = came (next_at o f.x.1) _ p f.then in
    let z = told_end g.x.1 (a.x.0, b.x.0, c.x.0, f.x.0, g.x.0) p g.then in
    told_object d u.x u.is
    ∙ ap object (told_next k u.x a.x a.is)
    ∙ ap (λ ms. object (member k a.x.0 ms)) (told_next l a.x.1 b.x b.is)
    ∙ ap (λ ms. object (member k a.x.0 (member l b.x.0 ms))) (told_next m b.x.1 c.x c.is)
    ∙ ap (λ ms. object (member k a.x.0 (member l b.x.0 (member m c.x.0 ms)))) (told_next n c.x.1 f.x f.is)
    ∙ ap (λ ms. object (member k a.x.0 (member l b.x.0 (member m c.x.0 (member n f.x.0 ms))))) (told_next o f.x.1 g.x g.is)
    ∙ (λ i. object (member k (z.1 i).0 (member l (z.1 i).1 (member m (z.1 i).2 (member n (z.1 i).3 (member o (z.1 i).4 (z.0 i)))))))

-- ---- numbers

told_u64 : (d : Data) (num : Num) (n : ℕ) → as_number d ≡ Some num → as_u64 num ≡ Some n → d ≡ whole n
told_u64 null num n e f = absurd (let no : ⊥ = cc in no)
told_u64 (boolean b) num n e f = absurd (let no : ⊥ = cc in no)
told_u64 (string s) num n e f = absurd (let no : ⊥ = cc in no)
told_u64 (array ds) num n e f = absurd (let no : ⊥ = cc in no)
told_u64 (object ms) num n e f = absurd (let no : ⊥ = cc in no)
told_u64 (number m) (unsigned k) n e f = ap number (same_some m (unsigned k) e ∙ ap unsigned (same_some k n f))
told_u64 (number m) (negative z) n e f = absurd (let no : ⊥ = cc in no)
told_u64 (number m) (float x) n e f = absurd (let no : ⊥ = cc in no)

small : (n bound : ℕ) → ltb n bound ≡ true → n < bound
small n bound e = grind (arith, nat_tests)

pub told_long : (d : Data) (n : ℕ) → u64_from d ≡ Some n → (d ≡ whole n) × IsU64 n
told_long d n e =
    let a = came (as_number d) _ n e in
    let b = came (as_u64 a.x) _ n a.then in
    let c = passed (nat_lt b.x (2 ^ 64)) b.x n b.then in
    (told_u64 d a.x b.x a.is b.is ∙ ap whole c.1, subst IsU64 c.1 (small b.x (2 ^ 64) c.0))

pub told_short : (d : Data) (n : ℕ) → u32_from d ≡ Some n → (d ≡ whole n) × IsU32 n
told_short d n e =
    let a = came (u64_from d) _ n e in
    let c = passed (nat_lt a.x (2 ^ 32)) a.x n a.then in
    ((told_long d a.x a.is).0 ∙ ap whole c.1, subst IsU32 c.1 (small a.x (2 ^ 32) c.0))

pub told_process : (d : Data) (p : ProcId) → process_from d ≡ Some p → (d ≡ whole p.0) × IsProcess p
told_process d p e =
    let a = mapped _ (u32_from d) p e in
    let n = told_short d a.x a.is in
    let same = same_some _ p a.then in
    (n.0 ∙ ap (λ (q : ProcId). whole q.0) same, subst IsProcess same n.1)

told_processes :
    (ds : Items) (ps : List ProcId) → processes_from ds ≡ Some ps
    → (ds ≡ items_of (map (λ (p : ProcId). whole p.0) ps)) × AllByRecursion IsProcess ps
told_processes no_items ps e =
    let same = same_some [] ps e in
    (ap (λ (qs : List ProcId). items_of (map (λ (p : ProcId). whole p.0) qs)) same, subst (AllByRecursion IsProcess) same tt)
told_processes (item d ds) ps e =
    let a = came (process_from d) _ ps e in
    let b = mapped _ (processes_from ds) ps a.then in
    let p = told_process d a.x a.is in
    let rest = told_processes ds b.x b.is in
    let same = same_some (a.x ∷ b.x) ps b.then in (
      (λ i. item (p.0 i) (rest.0 i)) ∙ ap (λ (qs : List ProcId). items_of (map (λ (p : ProcId). whole p.0) qs)) same,
      subst (AllByRecursion IsProcess) same (p.1, rest.1),
    )

told_array : (d : Data) (ds : Items) → as_array d ≡ Some ds → d ≡ array ds
told_array null ds e = absurd (let no : ⊥ = cc in no)
told_array (boolean b) ds e = absurd (let no : ⊥ = cc in no)
told_array (number n) ds e = absurd (let no : ⊥ = cc in no)
told_array (string s) ds e = absurd (let no : ⊥ = cc in no)
told_array (array found) ds e = ap array (same_some found ds e)
told_array (object ms) ds e = absurd (let no : ⊥ = cc in no)

pub told_members : (d : Data) (ps : List ProcId) → members_from d ≡ Some ps → (d ≡ processes_value ps) × FitsMembers ps
told_members d ps e =
    let a = came (as_array d) _ ps e in
    let b = came (processes_from a.x) _ ps a.then in
    let c = passed (are_members b.x) b.x ps b.then in
    let all = told_processes a.x b.x b.is in (
      told_array d a.x a.is ∙ ap array all.0 ∙ ap processes_value c.1,
      subst FitsMembers c.1 (c.0, all.1),
    )

-- ---- words

told_text : (d : Data) (s : List ℕ) → as_str d ≡ Some s → d ≡ string s
told_text null s e = absurd (let no : ⊥ = cc in no)
told_text (boolean b) s e = absurd (let no : ⊥ = cc in no)
told_text (number n) s e = absurd (let no : ⊥ = cc in no)
told_text (string found) s e = ap string (same_some found s e)
told_text (array ds) s e = absurd (let no : ⊥ = cc in no)
told_text (object ms) s e = absurd (let no : ⊥ = cc in no)

found_passes : {A : Type 0} (test : A → Bool) (xs : List A) (x : A) → find test xs ≡ Some x → test x ≡ true
found_passes test [] x e = absurd (let no : ⊥ = cc in no)
found_passes test (y ∷ ys) x e = go (found_passes test ys x) (test y) refl e
  where
    go : (find test ys ≡ Some x → test x ≡ true) → (b : Bool) → test y ≡ b → cond b (Some y) (find test ys) ≡ Some x → test x ≡ true
    go later true is e = subst (λ z. test z ≡ true) (same_some y x e) is
    go later false is e = later e

told_word :
    {A : Type 0} (text : A → List ℕ) (xs : List A) (word : List ℕ) (x : A)
    → find (λ y. pointwise nat_eq (text y) word) xs ≡ Some x → word ≡ text x
told_word text xs word x e =
    sym (same_text (text x) word (sym (found_passes (λ y. pointwise nat_eq (text y) word) xs x e)))

pub told_kind : (d : Data) (kind : Kind) → kind_from d ≡ Some kind → d ≡ string (kind_text kind)
told_kind d kind e =
    let a = came (as_str d) _ kind e in
    told_text d a.x a.is ∙ ap string (told_word kind_text all_kinds a.x kind a.then)

pub told_key : (d : Data) (key : Key) → key_from d ≡ Some key → d ≡ string (key_text key)
told_key d key e =
    let a = came (as_str d) _ key e in
    told_text d a.x a.is ∙ ap string (told_word key_text all_keys a.x key a.then)

told_deed : (d : Data) (deed : Deed) → deed_from d ≡ Some deed → d ≡ string (deed_text deed)
told_deed d deed e =
    let a = came (as_str d) _ deed e in
    told_text d a.x a.is ∙ ap string (told_word deed_text deeds a.x deed a.then)

pub told_name : (d : Data) (name : List ℕ) → name_from d ≡ Some name → (d ≡ string name) × (is_name name ≡ true)
told_name d name e =
    let a = came (as_str d) _ name e in
    let b = passed (is_name a.x) a.x name a.then in
    (told_text d a.x a.is ∙ ap string b.1, subst (λ n. is_name n ≡ true) b.1 b.0)

-- the values of a target
pub record IsAt (k v : Data) (target : Target) : Type 0 where
  pub key : k ≡ string (key_text target.key)
  pub value : v ≡ string target.value
  pub fits : FitsTarget target

pub told_target : (k v : Data) (target : Target) → target_from k v ≡ Some target → IsAt k v target
told_target k v target e =
    let a = came (key_from k) _ target e in
    let b = came (name_from v) _ target a.then in
    let name = told_name v b.x b.is in
    subst (IsAt k v) (same_some _ target b.then)
    (record { key = told_key k a.x a.is; value = name.0; fits = name.1 })

pub told_target_in : (d : Data) (target : Target) → target_in d ≡ Some target → (d ≡ target_value target) × FitsTarget target
told_target_in d target e =
    let v = came (two (codes "key") (codes "value") d) _ target e in
    let t = told_target v.x.0 v.x.1 target v.then in (
      told_two (codes "key") (codes "value") d v.x v.is
          ∙ (λ i. with_fields ((codes "key", t.key i) ∷ (codes "value", t.value i) ∷ [])),
      t.fits,
    )

pub told_scope : (d : Data) (scope : Scope) → scope_from d ≡ Some scope → (d ≡ scope_value scope) × FitsScope scope
told_scope d scope e = go (as_str d) refl e
  where
    go : (word : Option (List ℕ)) → as_str d ≡ word → scope_by word d ≡ Some scope → (d ≡ scope_value scope) × FitsScope scope
    go (Some word) is e =
        let b = passed (bytes_eq word (codes "all")) All scope e in
        let same : word ≡ codes "all" = (bytes_eq-Decides word (codes "all")).0 b.0 in
        (told_text d word is ∙ ap string same ∙ ap scope_value b.1, subst FitsScope b.1 tt)
    go None is e =
        let t = mapped Where (target_in d) scope e in
        let at = told_target_in d t.x t.is in
        let same = same_some (Where t.x) scope t.then in
        (at.0 ∙ ap scope_value same, subst FitsScope same at.1)

told_deeds :
    (ds : Items) (kinds : List Deed) → deeds_from ds ≡ Some kinds
    → ds ≡ items_of (map (λ (k : Deed). string (deed_text k)) kinds)
told_deeds no_items kinds e = ap (λ (ks : List Deed). items_of (map (λ (k : Deed). string (deed_text k)) ks)) (same_some [] kinds e)
told_deeds (item d ds) kinds e =
    let a = came (deed_from d) _ kinds e in
    let b = mapped _ (deeds_from ds) kinds a.then in
    let deed = told_deed d a.x a.is in
    let rest = told_deeds ds b.x b.is in
    (λ i. item (deed i) (rest i))
    ∙ ap (λ (ks : List Deed). items_of (map (λ (k : Deed). string (deed_text k)) ks)) (same_some (a.x ∷ b.x) kinds b.then)

-- kinds that are listed so
pub record AreListed (d : Data) (set : Members) : Type 0 where
  pub kinds : List Deed
  pub same : gathered kinds ≡ set
  pub is : d ≡ deeds_value kinds

pub told_kinds : (d : Data) (set : Members) → kinds_from d ≡ Some set → AreListed d set
told_kinds d set e =
    let a = mapped gathered (as_array d >>= deeds_from) set e in
    let b = came (as_array d) deeds_from a.x a.is in
    record {
      kinds = a.x;
      same = same_some (gathered a.x) set a.then;
      is = told_array d b.x b.is ∙ ap array (told_deeds b.x a.x b.then);
    }

told_given : (r : Result (List ℕ) FromHexError) (bs : List ℕ) → given r ≡ Some bs → r ≡ Ok bs
told_given (Ok found) bs e = ap Ok (same_some found bs e)
told_given (Err x) bs e = absurd (let no : ⊥ = cc in no)

all_bytes : (bs : List ℕ) → IsBytes bs → AllByRecursion IsByte bs
all_bytes [] h = tt
all_bytes (b ∷ bs) h = (h 0, all_bytes bs (λ i. h (suc i)))

pub told_payload : (d : Data) (bs : List ℕ) → payload_from d ≡ Some bs → (d ≡ string (encode_lower bs)) × AllByRecursion IsByte bs
told_payload d bs e =
    let a = came (as_str d) _ bs e in
    let b = came (given (decode_of a.x)) _ bs a.then in
    let c = passed (bytes_eq (encode_lower b.x) a.x) b.x bs b.then in
    let same : encode_lower b.x ≡ a.x = (bytes_eq-Decides (encode_lower b.x) a.x).0 c.0 in
    let read = decode_of-ok a.x b.x (told_given (decode_of a.x) b.x b.is) in (
      told_text d a.x a.is ∙ ap string (sym same) ∙ ap (λ (xs : List ℕ). string (encode_lower xs)) c.1,
      subst (AllByRecursion IsByte) c.1 (all_bytes b.x read.3),
    )
