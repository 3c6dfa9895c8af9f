-- what the lines so far of a history keep
use Rattle.std.proofs.Common.{inl, inr, ◌⊎◌, ◌≡◌, ◌≢◌, ◌∙◌, ◌+◌, ℕ, ◌<◌, ◌≤◌, Bool, true, false, ◌||◌, ◌&&◌, cond, nat_eq, List, [], ◌∷◌, ◌++◌, length, set, None, Some, slice_get, refl, sym, ap, subst, arith, eq-eqb}
use Rattle.std.specs.List.{Contains, AllPairs, list_any}
use Rattle.std.proofs.lemmas.List.Elements.{Contains-push, Contains-push_cases}
use Rattle.std.proofs.lemmas.List.Folds.{list_any-append}
use Rattle.indexmap.specs.IndexSet.{insert_key}
use Rattle.fy_history.specs.Progress.{State, Text, at_first, same_pair}
use Rattle.fy_history.specs.Sound.{write_line, read_line}
use Rattle.fy_history.specs.declared.history.Place.{Place}
use Rattle.fy_history.specs.declared.history.Write.{Write}
use Rattle.fy_history.specs.declared.history.Answer.TheVariants as answer
use Rattle.fy_history.specs.declared.history.Read.{Read}
use Rattle.fy_history.proofs.Members.{contains_cases, contains_none, pairs_none, pairs_cons, pairs_append, any_of, got, set_from, pairs_set}
use Rattle.fy_history.proofs.Apart.{AreApart}

-- where a write or a read began and ended, so far, and its numbers below a count of texts
pub record KeepsWrite (texts lines : ℕ) (pairs : List (ℕ × ℕ)) (w : Write) : Type 0 where
  pub began : w.began.line < lines
  pub ends : (end : Place) → w.ended ≡ Some end → w.began.line ≤ end.line
  pub key : w.key < texts
  pub value : w.value < texts
  pub paired : list_any (same_pair (w.key, w.value)) pairs ≡ true

pub record KeepsRead (texts lines : ℕ) (r : Read) : Type 0 where
  pub began : r.began.line < lines
  pub ends : (end : Place) → r.ended ≡ Some end → r.began.line ≤ end.line
  pub key : r.key < texts
  pub value : (v : ℕ) → r.answer ≡ answer.Value v → v < texts

abbrev pub pair_of : Write → ℕ × ℕ
pair_of w = (w.key, w.value)

-- what so many lines keep: no two operations begin at one, no value of a key is written twice
pub record SoFar (lines : ℕ) (names : List Text) (writes : List Write) (reads : List Read)
    (pairs : List (ℕ × ℕ)) : Type 0 where
  pub apart : AreApart names
  pub each_write : (w : Write) → Contains writes w → KeepsWrite (length names) lines pairs w
  pub each_read : (r : Read) → Contains reads r → KeepsRead (length names) lines r
  pub writes_rise : AllPairs (λ one later. write_line one < write_line later) writes
  pub reads_rise : AllPairs (λ one later. read_line one < read_line later) reads
  pub elsewhere : (w : Write) (r : Read) → Contains writes w → Contains reads r
      → write_line w ≡ read_line r → ⊥
  pub once : AllPairs (λ one later. (pair_of one).0 ≡ (pair_of later).0 → (pair_of one).1 ≡ (pair_of later).1 → ⊥) writes

abbrev pub IsSoundSoFar : (lines : ℕ) → State → Type 0
IsSoundSoFar lines s = SoFar lines s.names s.writes s.reads s.pairs

pub sound_at_first : IsSoundSoFar 0 at_first
sound_at_first = record {
  apart = pairs_none (λ one other. one ≢ other);
  each_write = λ w among. absurd (contains_none w among);
  each_read = λ r among. absurd (contains_none r among);
  writes_rise = pairs_none (λ one later. write_line one < write_line later);
  reads_rise = pairs_none (λ one later. read_line one < read_line later);
  elsewhere = λ w r w_in r_in e. contains_none w w_in;
  once = pairs_none (λ one later. (pair_of one).0 ≡ (pair_of later).0 → (pair_of one).1 ≡ (pair_of later).1 → ⊥);
}

-- ---- more lines, and more texts
module _ (lines : ℕ) (names : List Text) (writes : List Write) (reads : List Read)
    (pairs : List (ℕ × ℕ)) (sound : SoFar lines names writes reads pairs) (more : ℕ)
    (up : lines ≤ more) (now : List Text) (longer : length names ≤ length now) where
  pub write_stays : (w : Write) → KeepsWrite (length names) lines pairs w
      → KeepsWrite (length now) more pairs w
  write_stays w is = record {
    began = let less = is.began in omega arith;
    ends = is.ends;
    key = let less = is.key in omega arith;
    value = let less = is.value in omega arith;
    paired = is.paired;
  }

  pub read_stays : (r : Read) → KeepsRead (length names) lines r → KeepsRead (length now) more r
  read_stays r is = record {
    began = let less = is.began in omega arith;
    ends = is.ends;
    key = let less = is.key in omega arith;
    value = λ v e. let less = is.value v e in omega arith;
  }

  pub stays : AreApart now → SoFar more now writes reads pairs
  stays apart = record {
    apart = apart;
    each_write = λ w among. write_stays w (sound.each_write w among);
    each_read = λ r among. read_stays r (sound.each_read r among);
    writes_rise = sound.writes_rise;
    reads_rise = sound.reads_rise;
    elsewhere = sound.elsewhere;
    once = sound.once;
  }

-- a write that begins
module _ (lines : ℕ) (names : List Text) (writes : List Write) (reads : List Read)
    (pairs : List (ℕ × ℕ)) (sound : SoFar lines names writes reads pairs) (w : Write)
    (new : list_any (same_pair (pair_of w)) pairs ≡ false) (here : write_line w ≡ lines)
    (unended : w.ended ≡ None) (key : w.key < length names) (value : w.value < length names) where
  abbrev pairs_now : List (ℕ × ℕ)
  pairs_now = insert_key same_pair pairs (pair_of w)

  now_is : pairs_now ≡ pairs ++ pair_of w ∷ []
  now_is = ap (λ b. cond b pairs (pairs ++ pair_of w ∷ [])) new

  abbrev Twice : Write → Write → Type 0
  Twice one later = (pair_of one).0 ≡ (pair_of later).0 → (pair_of one).1 ≡ (pair_of later).1 → ⊥

  pair_itself : (p : ℕ × ℕ) → same_pair p p ≡ true
  pair_itself p = ap (λ b. b && nat_eq p.1 p.1) (eq-eqb p.0 p.0 refl) ∙ eq-eqb p.1 p.1 refl

  or_true : (a b : Bool) → a ≡ true → (a || b) ≡ true
  or_true a b e = ap (λ c. c || b) e

  older : (a : Write) → KeepsWrite (length names) lines pairs a
      → KeepsWrite (length names) (lines + 1) pairs_now a
  older a is = record {
    began = let less = is.began in omega arith;
    ends = is.ends;
    key = is.key;
    value = is.value;
    paired = ap (list_any (same_pair (pair_of a))) now_is
        ∙ list_any-append (same_pair (pair_of a)) pairs (pair_of w ∷ [])
        ∙ or_true (list_any (same_pair (pair_of a)) pairs) _ is.paired;
  }

  newest : KeepsWrite (length names) (lines + 1) pairs_now w
  newest = record {
    began = let is = here in omega arith;
    ends = λ end e. let z : None ≡ Some end = sym unended ∙ e in absurd (cc);
    key = key;
    value = value;
    paired = ap (list_any (same_pair (pair_of w))) now_is
        ∙ any_of (same_pair (pair_of w)) (pairs ++ pair_of w ∷ []) (pair_of w) (Contains-push pairs (pair_of w)) (pair_itself (pair_of w));
  }

  last_of : (y : Write) → Contains (w ∷ []) y → y ≡ w
  last_of y among = go (contains_cases w y [] among)
    where
      go : (y ≡ w) ⊎ Contains [] y → y ≡ w
      go (inl is) = is
      go (inr there) = absurd (contains_none y there)

  pub write_more : SoFar (lines + 1) names (writes ++ w ∷ []) reads pairs_now
  write_more = record {
    apart = sound.apart;
    each_write = λ a among. of_write a (Contains-push_cases writes w a among);
    each_read = λ r among. read_stays lines names writes reads pairs sound (lines + 1) (omega arith) names (omega arith) r (sound.each_read r among);
    writes_rise = pairs_append (λ one later. write_line one < write_line later) writes (w ∷ [])
        sound.writes_rise (pairs_cons (λ one later. write_line one < write_line later) w []
        (λ y among. absurd (contains_none y among)) (pairs_none (λ one later. write_line one < write_line later)))
        (λ x y x_in y_in. let less = (sound.each_write x x_in).began in
        let is = ap write_line (last_of y y_in) in let at = here in omega arith);
    reads_rise = sound.reads_rise;
    elsewhere = λ a r a_in r_in e. apart_from a r (Contains-push_cases writes w a a_in) r_in e;
    once = pairs_append Twice writes (w ∷ []) sound.once
        (pairs_cons Twice w [] (λ y among. absurd (contains_none y among)) (pairs_none Twice))
        (λ x y x_in y_in. never x y x_in (last_of y y_in));
  }
    where
      of_write : (a : Write) → Contains writes a ⊎ (w ≡ a) → KeepsWrite (length names) (lines + 1) pairs_now a
      of_write a (inl among) = older a (sound.each_write a among)
      of_write a (inr is) = subst (KeepsWrite (length names) (lines + 1) pairs_now) is newest

      apart_from : (a : Write) (r : Read) → Contains writes a ⊎ (w ≡ a) → Contains reads r
          → write_line a ≡ read_line r → ⊥
      apart_from a r (inl among) r_in e = sound.elsewhere a r among r_in e
      apart_from a r (inr is) r_in e =
          let less = (sound.each_read r r_in).began in
          let same = ap write_line is in let at = here in omega arith

      never : (x y : Write) → Contains writes x → y ≡ w → Twice x y
      never x y x_in is keys values =
          let there : list_any (same_pair (pair_of w)) pairs ≡ true =
          ap (λ k. list_any (same_pair (k, w.value)) pairs) (sym (keys ∙ ap (λ (q : Write). q.key) is))
          ∙ ap (λ v. list_any (same_pair (x.key, v)) pairs) (sym (values ∙ ap (λ (q : Write). q.value) is))
          ∙ (sound.each_write x x_in).paired in
          let z : true ≡ false = sym there ∙ new in cc

-- a read that begins
module _ (lines : ℕ) (names : List Text) (writes : List Write) (reads : List Read)
    (pairs : List (ℕ × ℕ)) (sound : SoFar lines names writes reads pairs) (r : Read)
    (here : read_line r ≡ lines) (unended : r.ended ≡ None) (unanswered : r.answer ≡ answer.Unanswered)
    (key : r.key < length names) where
  newest_read : KeepsRead (length names) (lines + 1) r
  newest_read = record {
    began = let is = here in omega arith;
    ends = λ end e. let z : None ≡ Some end = sym unended ∙ e in absurd (cc);
    key = key;
    value = λ v e. let z : answer.Unanswered ≡ answer.Value v = sym unanswered ∙ e in absurd (cc);
  }

  last_read : (y : Read) → Contains (r ∷ []) y → y ≡ r
  last_read y among = go (contains_cases r y [] among)
    where
      go : (y ≡ r) ⊎ Contains [] y → y ≡ r
      go (inl is) = is
      go (inr there) = absurd (contains_none y there)

  pub read_more : SoFar (lines + 1) names writes (reads ++ r ∷ []) pairs
  read_more = record {
    apart = sound.apart;
    each_write = λ a among. write_stays lines names writes reads pairs sound (lines + 1) (omega arith) names (omega arith) a (sound.each_write a among);
    each_read = λ a among. of_read a (Contains-push_cases reads r a among);
    writes_rise = sound.writes_rise;
    reads_rise = pairs_append (λ one later. read_line one < read_line later) reads (r ∷ [])
        sound.reads_rise (pairs_cons (λ one later. read_line one < read_line later) r []
        (λ y among. absurd (contains_none y among)) (pairs_none (λ one later. read_line one < read_line later)))
        (λ x y x_in y_in. let less = (sound.each_read x x_in).began in
        let is = ap read_line (last_read y y_in) in let at = here in omega arith);
    elsewhere = λ a b a_in b_in e. apart_from a b a_in (Contains-push_cases reads r b b_in) e;
    once = sound.once;
  }
    where
      of_read : (a : Read) → Contains reads a ⊎ (r ≡ a) → KeepsRead (length names) (lines + 1) a
      of_read a (inl among) = read_stays lines names writes reads pairs sound (lines + 1) (omega arith) names (omega arith) a (sound.each_read a among)
      of_read a (inr is) = subst (KeepsRead (length names) (lines + 1)) is newest_read

      apart_from : (a : Write) (b : Read) → Contains writes a → Contains reads b ⊎ (r ≡ b)
          → write_line a ≡ read_line b → ⊥
      apart_from a b a_in (inl among) e = sound.elsewhere a b a_in among e
      apart_from a b a_in (inr is) e =
          let less = (sound.each_write a a_in).began in
          let same = ap read_line is in let at = here in omega arith

-- a write that ended
module _ (lines : ℕ) (names : List Text) (writes : List Write) (reads : List Read)
    (pairs : List (ℕ × ℕ)) (sound : SoFar lines names writes reads pairs) (place : ℕ) (was now : Write)
    (there : slice_get writes place ≡ Some was) (key : now.key ≡ was.key) (value : now.value ≡ was.value)
    (began : now.began ≡ was.began) (end : Place) (ended : now.ended ≡ Some end)
    (late : end.line ≡ lines) where
  was_sound : KeepsWrite (length names) lines pairs was
  was_sound = sound.each_write was (got writes place was there)

  begun : write_line now ≡ write_line was
  begun = ap (λ (p : Place). p.line) began

  now_sound : KeepsWrite (length names) (lines + 1) pairs now
  now_sound = record {
    began = let less = was_sound.began in let same = begun in omega arith;
    ends = λ other e.
        let is : end ≡ other = cc in
        let same = ap (λ (p : Place). p.line) is in
        let less = was_sound.began in let equal = begun in let at = late in omega arith;
    key = subst (λ k. k < length names) (sym key) was_sound.key;
    value = subst (λ v. v < length names) (sym value) was_sound.value;
    paired =
        ap (λ k. list_any (same_pair (k, now.value)) pairs) key
        ∙ ap (λ v. list_any (same_pair (was.key, v)) pairs) value ∙ was_sound.paired;
  }

  same_pairs : pair_of now ≡ pair_of was
  same_pairs = (λ i. (key i, value i))

  pub write_ends : SoFar (lines + 1) names (set writes place now) reads pairs
  write_ends = record {
    apart = sound.apart;
    each_write = λ w among. of_write w (set_from writes place now w among);
    each_read = λ r among. read_stays lines names writes reads pairs sound (lines + 1) (omega arith) names (omega arith) r (sound.each_read r among);
    writes_rise = pairs_set write_line (λ one later. one < later) writes place now was there begun sound.writes_rise;
    reads_rise = sound.reads_rise;
    elsewhere = λ w r w_in r_in e. apart_from w r (set_from writes place now w w_in) r_in e;
    once = pairs_set pair_of (λ one later. one.0 ≡ later.0 → one.1 ≡ later.1 → ⊥) writes place now was there same_pairs sound.once;
  }
    where
      of_write : (w : Write) → (w ≡ now) ⊎ Contains writes w → KeepsWrite (length names) (lines + 1) pairs w
      of_write w (inl is) = subst (KeepsWrite (length names) (lines + 1) pairs) (sym is) now_sound
      of_write w (inr among) = write_stays lines names writes reads pairs sound (lines + 1) (omega arith) names (omega arith) w (sound.each_write w among)

      apart_from : (w : Write) (r : Read) → (w ≡ now) ⊎ Contains writes w → Contains reads r
          → write_line w ≡ read_line r → ⊥
      apart_from w r (inl is) r_in e =
          sound.elsewhere was r (got writes place was there) r_in (sym begun ∙ sym (ap write_line is) ∙ e)
      apart_from w r (inr among) r_in e = sound.elsewhere w r among r_in e

-- a read that ended
module _ (lines : ℕ) (names : List Text) (writes : List Write) (reads : List Read)
    (pairs : List (ℕ × ℕ)) (sound : SoFar lines names writes reads pairs) (texts : List Text)
    (texts_apart : AreApart texts) (longer : length names ≤ length texts) (place : ℕ) (was now : Read)
    (there : slice_get reads place ≡ Some was) (key : now.key ≡ was.key) (began : now.began ≡ was.began)
    (end : Place) (ended : now.ended ≡ Some end) (late : end.line ≡ lines)
    (value : (v : ℕ) → now.answer ≡ answer.Value v → v < length texts) where
  was_read : KeepsRead (length names) lines was
  was_read = sound.each_read was (got reads place was there)

  begun_read : read_line now ≡ read_line was
  begun_read = ap (λ (p : Place). p.line) began

  now_read : KeepsRead (length texts) (lines + 1) now
  now_read = record {
    began = let less = was_read.began in let same = begun_read in omega arith;
    ends = λ other e.
        let is : end ≡ other = cc in
        let same = ap (λ (p : Place). p.line) is in
        let less = was_read.began in let equal = begun_read in let at = late in omega arith;
    key = let less = was_read.key in let same = key in omega arith;
    value = value;
  }

  pub read_ends : SoFar (lines + 1) texts writes (set reads place now) pairs
  read_ends = record {
    apart = texts_apart;
    each_write = λ w among. write_stays lines names writes reads pairs sound (lines + 1) (omega arith) texts longer w (sound.each_write w among);
    each_read = λ r among. of_read r (set_from reads place now r among);
    writes_rise = sound.writes_rise;
    reads_rise = pairs_set read_line (λ one later. one < later) reads place now was there begun_read sound.reads_rise;
    elsewhere = λ w r w_in r_in e. apart_from w r w_in (set_from reads place now r r_in) e;
    once = sound.once;
  }
    where
      of_read : (r : Read) → (r ≡ now) ⊎ Contains reads r → KeepsRead (length texts) (lines + 1) r
      of_read r (inl is) = subst (KeepsRead (length texts) (lines + 1)) (sym is) now_read
      of_read r (inr among) = read_stays lines names writes reads pairs sound (lines + 1) (omega arith) texts longer r (sound.each_read r among)

      apart_from : (w : Write) (r : Read) → Contains writes w → (r ≡ now) ⊎ Contains reads r
          → write_line w ≡ read_line r → ⊥
      apart_from w r w_in (inl is) e =
          sound.elsewhere w was w_in (got reads place was there) (e ∙ ap read_line is ∙ begun_read)
      apart_from w r w_in (inr among) e = sound.elsewhere w r w_in among e
