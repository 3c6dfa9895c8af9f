-- the text of a tame value has no line feed
use Rattle.std.proofs.Common.{◌≡◌, ◌≢◌, ℕ, ◌+◌, ◌<◌, ◌/◌, ◌%◌, ◌==◌, ◌||◌, List, [], ◌∷◌, ◌++◌, Bool, true, false, cond, nat_lt, decimal, refl, sym, arith}
use Rattle.std.proofs.lemmas.Bool.{false≢true}
use Rattle.std.proofs.lemmas.Fmt.{decimal_is_IsNumeral}
use Rattle.std.specs.Char.{digit_char, digit_value}
use Rattle.std.specs.Str.Parse.{AllDigits}
use Rattle.json.specs.Print.{escape_letter, escape_byte, escape, quoted}
use Rattle.serde_json.specs.Data.{unsigned, negative, float, Data, null, boolean, number, string, array, object, Items, no_items, item, Members, no_members, member}
use Rattle.serde_json.specs.Written.{compact_text, items_text, members_text, comma_if}
use Rattle.fy_spelling.specs.OneText.{HasNoFeed}
use Rattle.fy_spelling.specs.RoundTrip.{RoundTrips, ItemsRoundTrip, MembersRoundTrip}
use Rattle.fy_spelling.specs.Fits.{FitsEntry}
use Rattle.fy_spelling.specs.Representable.{IsRepresentable}
use Rattle.fy_spelling.specs.Values.{text_of, entry_data}
use Rattle.fy_acts.specs.declared.entry.Entry.{Entry}
use Rattle.fy_spelling.proofs.Shapes.{tame_entry, held_entry}

feedless_both : (xs ys : List ℕ) → HasNoFeed xs → HasNoFeed ys → HasNoFeed (xs ++ ys)
feedless_both [] ys h k = k
feedless_both (x ∷ xs) ys h k = (h.0, feedless_both xs ys h.1 k)

pick : (b : Bool) (x y : ℕ) → (b ≡ true → x ≢ 10) → y ≢ 10 → cond b x y ≢ 10
pick true x y h k = h refl
pick false x y h k = k

choose : (b : Bool) (xs ys : List ℕ) → (b ≡ true → HasNoFeed xs) → (b ≡ false → HasNoFeed ys) → HasNoFeed (cond b xs ys)
choose true xs ys h k = h refl
choose false xs ys h k = k refl

quote_or_slash : (x : ℕ) → ((x == 34) || (x == 92)) ≡ true → x ≢ 10
quote_or_slash x e is = false≢true (rw is at e)

letter : (x : ℕ) → escape_letter x ≢ 10
letter x =
    pick ((x == 34) || (x == 92)) x _ (quote_or_slash x)
    (pick (x == 8) 98 _ (λ _ e. omega arith) (pick (x == 12) 102 _ (λ _ e. omega arith) (pick (x == 10) 110 _ (λ _ e. omega arith)
    (pick (x == 13) 114 _ (λ _ e. omega arith) (pick (x == 9) 116 0 (λ _ e. omega arith) (λ e. omega arith))))))

digit : (d : ℕ) → digit_char d ≢ 10
digit d = pick (nat_lt d 10) (48 + d) (87 + d) (λ _ e. omega arith) (λ e. omega arith)

plain : (x : ℕ) → nat_lt 0 (escape_letter x) ≡ false → x ≢ 10
plain x e is = false≢true (sym (rw is at e))

byte : (x : ℕ) → HasNoFeed (escape_byte x)
unfolding escape_byte
byte x =
    choose (nat_lt 0 (escape_letter x)) (92 ∷ escape_letter x ∷ []) _ (λ _. (λ e. omega arith, (letter x, tt)))
    (λ none. choose (nat_lt x 32) (92 ∷ 117 ∷ 48 ∷ 48 ∷ digit_char (x / 16) ∷ digit_char (x % 16) ∷ []) (x ∷ [])
    (λ _. (λ e. omega arith, (λ e. omega arith, (λ e. omega arith, (λ e. omega arith, (digit (x / 16), (digit (x % 16), tt))))))) (λ _. (plain x none, tt)))

escaped : (s : List ℕ) → HasNoFeed (escape s)
escaped [] = tt
escaped (x ∷ s) = feedless_both (escape_byte x) (escape s) (byte x) (escaped s)

quotes : (s : List ℕ) → HasNoFeed (quoted s)
quotes s = (λ e. omega arith, feedless_both (escape s) (34 ∷ []) (escaped s) (λ e. omega arith, tt))

digits : (ds : List ℕ) → AllDigits 10 ds → HasNoFeed ds
digits [] h = tt
digits (d ∷ ds) h = (λ is. let h' : digit_value 10 < 10 = rw is at h.0 in omega arith, digits ds h.1)

comma : (later : Bool) (t : List ℕ) → HasNoFeed t → HasNoFeed (comma_if later ++ t)
comma true t h = (λ e. omega arith, h)
comma false t h = h

mutual
  line : (d : Data) → RoundTrips d → HasNoFeed (compact_text d)
  line null h = (λ e. omega arith, (λ e. omega arith, (λ e. omega arith, (λ e. omega arith, tt))))
  line (boolean true) h = (λ e. omega arith, (λ e. omega arith, (λ e. omega arith, (λ e. omega arith, tt))))
  line (boolean false) h = (λ e. omega arith, (λ e. omega arith, (λ e. omega arith, (λ e. omega arith, (λ e. omega arith, tt)))))
  line (number (unsigned n)) h = digits (decimal n) (decimal_is_IsNumeral n h).0.1
  line (number (negative z)) h = absurd h
  line (number (float x)) h = absurd h
  line (string s) h = quotes s
  line (array ds) h = (λ e. omega arith, line_items false ds h)
  line (object ms) h = (λ e. omega arith, line_members false ms h.1)

  line_items : (later : Bool) (ds : Items) → ItemsRoundTrip ds → HasNoFeed (items_text later ds)
  line_items later no_items h = (λ e. omega arith, tt)
  line_items later (item d ds) h = comma later _ (feedless_both _ _ (line d h.0) (line_items true ds h.1))

  line_members : (later : Bool) (ms : Members) → MembersRoundTrip ms → HasNoFeed (members_text later ms)
  line_members later no_members h = (λ e. omega arith, tt)
  line_members later (member k d ms) h =
      comma later _ (feedless_both (quoted k) _ (quotes k) (λ e. omega arith, feedless_both _ _ (line d h.1) (line_members true ms h.2)))

pub held_feedless : (e : Entry) → IsRepresentable e → HasNoFeed (text_of e)
unfolding text_of
held_feedless e h = line (entry_data e) (tame_entry e h)

pub text_feedless : (e : Entry) → FitsEntry e → HasNoFeed (text_of e)
text_feedless e h = held_feedless e (held_entry e h)
