-- bytes have one answer
use Rattle.std.proofs.Common.{◌≡◌, ◌∙◌, ◌<◌, ◌≤◌, zero, suc, ℕ, List, [], ◌∷◌, length, take, Option, Some, None, refl, sym, ap, subst, inl, inr, arith}
use Rattle.std.specs.Prelude.{Result, Ok, Err, MatchOption, MatchResult, slice_get}
use Rattle.std.proofs.lemmas.Bool.{cases_lt}
use Rattle.toml.specs.Data.{Members as Entries}
use Rattle.toml.specs.Parse.{parse_document}
use Rattle.fy_policy.specs.Tree.{Tree}
use Rattle.fy_policy.specs.Reading.{Reads}
use Rattle.fy_policy.specs.Laws.{ReadingIsSettled}
use Rattle.fy_cluster.specs.Setup.{Setup, config_refusal}
use Rattle.fy_config.specs.declared.fault.Part.{Part}
use Rattle.fy_config.specs.declared.fault.ConfigFault.{ConfigFault}
use Rattle.fy_config.specs.declared.fault.ConfigFault.TheVariants.{TooLong, Toml, Field, Limit, Name, Policy, PolicyUnmet, NoMemory}
use Rattle.fy_config.specs.declared.limits.TheConstants.{MOST_FILE_BYTES}
use Rattle.fy_config.specs.Config.{Fields, fields_of, FieldsAre, DocumentIs, NamedIs, AreRead, IsFirstRefused, IsDocument, IsNoDocument, ConfigOf, first_outside, first_bad_name, setup_in}
use Rattle.fy_config.specs.Laws.{ConfigIsUnambiguous}
use Rattle.fy_config.proofs.Later.{IsOfDocument}

-- a text of one of many policies that are read is read
read_at :
    (texts : List (List ℕ)) (policies : List Tree) (k : ℕ) (text : List ℕ)
    → AreRead texts policies → slice_get texts k ≡ Some text
    → (policy : Tree) × Reads text (Ok policy)
read_at [] policies k text read at = absurd (let c : ⊥ = cc in c)
read_at (t ∷ texts) [] k text read at = absurd read
read_at (t ∷ texts) (p ∷ policies) zero text read at =
    let same : t ≡ text = cc in
    (p, subst (λ (it : List ℕ). Reads it (Ok p)) same read.0)
read_at (t ∷ texts) (p ∷ policies) (suc k) text read at = read_at texts policies k text read.1 at

-- what stands in front of a place
in_front :
    (texts : List (List ℕ)) (n k : ℕ) (text : List ℕ)
    → k < n → slice_get texts k ≡ Some text → slice_get (take n texts) k ≡ Some text
in_front texts zero k text h at = absurd (let c : ⊥ = omega arith in c)
in_front [] (suc n) k text h at = at
in_front (t ∷ texts) (suc n) zero text h at = at
in_front (t ∷ texts) (suc n) (suc k) text h at = in_front texts n k text (omega arith) at

-- a refused text isn't among those that are read
not_both :
    (texts : List (List ℕ)) (i j : ℕ) → IsFirstRefused texts i → IsFirstRefused texts j → i < j → ⊥
not_both texts i j (_, _, text, at, refused) (policies, read, _, _, _) before =
    let (policy, is) = read_at (take j texts) policies i text read (in_front texts j i text before at) in
    refused policy is

one_place : (texts : List (List ℕ)) (i j : ℕ) → IsFirstRefused texts i → IsFirstRefused texts j → i ≡ j
one_place texts i j a b =
    elim (cases_lt i j) [
      | inl h ↦ absurd (not_both texts i j a b h)
      | inr h ↦ elim (cases_lt j i) [
        | inl k ↦ absurd (not_both texts j i b a k)
        | inr k ↦ omega arith
      ]
    ]

all_or_first :
    (texts : List (List ℕ)) (policies : List Tree) (i : ℕ) → AreRead texts policies → IsFirstRefused texts i → ⊥
all_or_first texts policies i all (_, _, text, at, refused) =
    let (policy, is) = read_at texts policies i text all at in
    refused policy is

module _ (settled : ReadingIsSettled) where
  one_policy : (text : List ℕ) (p q : Tree) → Reads text (Ok p) → Reads text (Ok q) → p ≡ q
  one_policy text p q a b =
      let one : Ok p ≡ Ok q = settled text (Ok p) (Ok q) a b (λ e. let c : ⊥ = cc in c) (λ e. let c : ⊥ = cc in c) in
      cc

  one_list :
      (texts : List (List ℕ)) (ps qs : List Tree) → AreRead texts ps → AreRead texts qs → ps ≡ qs
  one_list [] [] [] a b = refl
  one_list [] [] (q ∷ qs) a b = absurd b
  one_list [] (p ∷ ps) qs a b = absurd a
  one_list (t ∷ texts) [] qs a b = absurd a
  one_list (t ∷ texts) (p ∷ ps) [] a b = absurd b
  one_list (t ∷ texts) (p ∷ ps) (q ∷ qs) a b =
      let head : p ≡ q = one_policy t p q a.0 b.0 in
      let tail : ps ≡ qs = one_list texts ps qs a.1 b.1 in
      cc

  -- what the setup of the parts is, or why it is none
  setup_once :
      (f : Fields) (ps qs : List Tree) → AreRead f.policies ps → AreRead f.policies qs → setup_in f ps ≡ setup_in f qs
  setup_once f ps qs a b = ap (setup_in f) (one_list f.policies ps qs a b)

  met_once :
      (f : Fields) (setup : Setup) (index : ℕ) → NamedIs f (Ok setup) → NamedIs f (Err (PolicyUnmet index)) → ⊥
  met_once f setup index (ps, a, is, met) (qs, b, unmet) =
      let same : config_refusal setup ≡ config_refusal (setup_in f qs) = ap config_refusal (is ∙ setup_once f ps qs a b) in
      let c : ⊥ = cc in
      c

  named_once : (f : Fields) (a b : Result Setup ConfigFault) → NamedIs f a → NamedIs f b → a ≡ b
  named_once f (Ok s) (Ok t) (ps, a, is, _) (qs, b, are, _) = ap Ok (is ∙ setup_once f ps qs a b ∙ sym are)
  named_once f (Ok s) (Err (Policy i)) (ps, a, _, _) b = absurd (all_or_first f.policies ps i a b)
  named_once f (Ok s) (Err (PolicyUnmet i)) a b = absurd (met_once f s i a b)
  named_once f (Err (Policy i)) (Ok t) a (qs, b, _, _) = absurd (all_or_first f.policies qs i b a)
  named_once f (Err (Policy i)) (Err (Policy j)) a b = ap (λ k. Err (Policy k)) (one_place f.policies i j a b)
  named_once f (Err (Policy i)) (Err (PolicyUnmet j)) a (qs, b, _) = absurd (all_or_first f.policies qs i b a)
  named_once f (Err (PolicyUnmet i)) (Ok t) a b = absurd (met_once f t i b a)
  named_once f (Err (PolicyUnmet i)) (Err (Policy j)) (ps, a, _) b = absurd (all_or_first f.policies ps j a b)
  named_once f (Err (PolicyUnmet i)) (Err (PolicyUnmet j)) (ps, a, e) (qs, b, h) =
      let same : config_refusal (setup_in f ps) ≡ config_refusal (setup_in f qs) = ap config_refusal (setup_once f ps qs a b) in
      let one : i ≡ j = cc in
      ap (λ k. Err (PolicyUnmet k)) one
  named_once f (Err TooLong) b x y = absurd x
  named_once f (Err Toml) b x y = absurd x
  named_once f (Err (Field part)) b x y = absurd x
  named_once f (Err (Limit part)) b x y = absurd x
  named_once f (Err (Name part i)) b x y = absurd x
  named_once f (Err NoMemory) b x y = absurd x
  named_once f a (Err TooLong) x y = absurd y
  named_once f a (Err Toml) x y = absurd y
  named_once f a (Err (Field part)) x y = absurd y
  named_once f a (Err (Limit part)) x y = absurd y
  named_once f a (Err (Name part i)) x y = absurd y
  named_once f a (Err NoMemory) x y = absurd y

  fields_once : (f : Fields) (a b : Result Setup ConfigFault) → FieldsAre f a → FieldsAre f b → a ≡ b
  fields_once f a b = limits (first_outside f)
    where
      names : (bad : Option ConfigFault)
          → MatchOption bad (NamedIs f a) (λ fault. a ≡ Err fault)
          → MatchOption bad (NamedIs f b) (λ fault. b ≡ Err fault) → a ≡ b
      names None x y = named_once f a b x y
      names (Some fault) x y = x ∙ sym y

      limits : (outside : Option Part)
          → MatchOption outside (MatchOption (first_bad_name f) (NamedIs f a) (λ fault. a ≡ Err fault)) (λ part. a ≡ Err (Limit part))
          → MatchOption outside (MatchOption (first_bad_name f) (NamedIs f b) (λ fault. b ≡ Err fault)) (λ part. b ≡ Err (Limit part))
          → a ≡ b
      limits None x y = names (first_bad_name f) x y
      limits (Some part) x y = x ∙ sym y

  document_once : (ms : Entries) (a b : Result Setup ConfigFault) → DocumentIs ms a → DocumentIs ms b → a ≡ b
  document_once ms a b = go (fields_of ms)
    where
      go : (read : Result Fields ConfigFault)
          → MatchResult read (λ f. FieldsAre f a) (λ fault. a ≡ Err fault)
          → MatchResult read (λ f. FieldsAre f b) (λ fault. b ≡ Err fault) → a ≡ b
      go (Ok f) x y = fields_once f a b x y
      go (Err fault) x y = x ∙ sym y

  -- what bytes of a document are told as
  pub record OfDocument (bytes : List ℕ) (answer : Result Setup ConfigFault) : Type 0 where
    pub ms : Entries
    pub document : IsDocument bytes ms
    pub is : DocumentIs ms answer

  of_bytes :
      (bytes : List ℕ) (answer : Result Setup ConfigFault)
      → ConfigOf bytes answer → IsOfDocument answer → (length bytes ≤ MOST_FILE_BYTES) × OfDocument bytes answer
  of_bytes bytes (Ok setup) (short, ms, document, is) later = (short, record { ms = ms; document = document; is = is })
  of_bytes bytes (Err TooLong) h later = absurd later
  of_bytes bytes (Err Toml) h later = absurd later
  of_bytes bytes (Err (Field part)) (short, ms, document, is) later = (short, record { ms = ms; document = document; is = is })
  of_bytes bytes (Err (Limit part)) (short, ms, document, is) later = (short, record { ms = ms; document = document; is = is })
  of_bytes bytes (Err (Name part i)) (short, ms, document, is) later = (short, record { ms = ms; document = document; is = is })
  of_bytes bytes (Err (Policy i)) (short, ms, document, is) later = (short, record { ms = ms; document = document; is = is })
  of_bytes bytes (Err (PolicyUnmet i)) (short, ms, document, is) later = (short, record { ms = ms; document = document; is = is })
  of_bytes bytes (Err NoMemory) (short, ms, document, is) later = (short, record { ms = ms; document = document; is = is })

  -- two documents of the same bytes are one
  both_documents :
      (bytes : List ℕ) (a b : Result Setup ConfigFault) → OfDocument bytes a → OfDocument bytes b → a ≡ b
  both_documents bytes a b x y =
      let one : Some x.ms ≡ Some y.ms = sym x.document.1 ∙ y.document.1 in
      let same : x.ms ≡ y.ms = cc in
      document_once y.ms a b (subst (λ (ms : Entries). DocumentIs ms a) same x.is) y.is

  no_document : (bytes : List ℕ) (a : Result Setup ConfigFault) → OfDocument bytes a → IsNoDocument bytes → ⊥
  no_document bytes a x none =
      let missing : parse_document bytes ≡ None = none x.document.0 in
      let found : parse_document bytes ≡ Some x.ms = x.document.1 in
      let c : ⊥ = cc in
      c

  too_long_once :
      (bytes : List ℕ) (b : Result Setup ConfigFault)
      → MOST_FILE_BYTES < length bytes → ConfigOf bytes b → Err TooLong ≡ b
  too_long_once bytes (Err TooLong) x y = refl
  too_long_once bytes b x y = absurd (let c : ⊥ = omega (arith, y.0) in c)

  toml_once :
      (bytes : List ℕ) (b : Result Setup ConfigFault)
      → length bytes ≤ MOST_FILE_BYTES → IsNoDocument bytes → ConfigOf bytes b → Err Toml ≡ b
  toml_once bytes (Err TooLong) short x y = absurd (let c : ⊥ = omega arith in c)
  toml_once bytes (Err Toml) short x y = refl
  toml_once bytes b short x y = absurd (no_document bytes b (of_bytes bytes b y tt).1 x)

  some_document_once :
      (bytes : List ℕ) (a b : Result Setup ConfigFault)
      → length bytes ≤ MOST_FILE_BYTES → OfDocument bytes a → ConfigOf bytes b → a ≡ b
  some_document_once bytes a (Err TooLong) short x y = absurd (let c : ⊥ = omega arith in c)
  some_document_once bytes a (Err Toml) short x y = absurd (no_document bytes a x y.1)
  some_document_once bytes a b short x y = both_documents bytes a b x (of_bytes bytes b y tt).1

  pub config_once : ConfigIsUnambiguous
  config_once bytes (Err TooLong) b x y = too_long_once bytes b x y
  config_once bytes (Err Toml) b x y = toml_once bytes b x.0 x.1 y
  config_once bytes a b x y =
      let (short, document) = of_bytes bytes a x tt in
      some_document_once bytes a b short document y
