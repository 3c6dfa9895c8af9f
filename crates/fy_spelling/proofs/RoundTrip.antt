-- A tame value's compact text is UTF-8 and reads as the value.
use Rattle.std.proofs.Common.{◌≡◌, ℕ, ◌≤◌, List, [], ◌∷◌, ◌++◌, Bool, true, false, Some, option_map, refl, sym, ap, ◌∙◌, arith, append-nil, IsUtf8}
use Rattle.std.proofs.lemmas.Str.{IsUtf8-append, IsUtf8-from_ascii}
use Rattle.std.proofs.lemmas.Fmt.{IsAscii-decimal}
use Rattle.json.specs.Lex.{tokens}
use Rattle.json.specs.Tree as tree
use Rattle.json.proofs.Printed.Decimals.{IsNumber-decimal}
use Rattle.json.proofs.Printed.Tokens.{tokens-print}
use Rattle.json.proofs.Printed.Trees.{ArePrintable-json_tokens, value-json_tokens}
use Rattle.json.proofs.Printed.Utf8.{IsUtf8-are_ascii, IsUtf8-quoted, IsUtf8-boolean}
use Rattle.serde_json.specs.Data.{unsigned, negative, float, Data, null, boolean, number, string, array, object, Items, no_items, item, Members, no_members, member, put, depth, items_depth, members_depth}
use Rattle.serde_json.specs.Read.{read, of_json, of_items, of_members, max_depth}
use Rattle.serde_json.specs.Written.{outline, items_outline, members_outline, has_float, items_have_float, members_have_float, compact_text, items_text, members_text, comma_if}
use Rattle.serde_json.proofs.Numbers.{number_of-decimal}
use Rattle.serde_json.proofs.Texts.{print-outline}
use Rattle.fy_spelling.specs.RoundTrip.{put_all, RoundTrips, ItemsRoundTrip, MembersRoundTrip}

mutual
  pub no_float : (d : Data) → RoundTrips d → has_float d ≡ false
  no_float null h = refl
  no_float (boolean b) h = refl
  no_float (number (unsigned n)) h = refl
  no_float (number (negative z)) h = absurd h
  no_float (number (float x)) h = absurd h
  no_float (string s) h = refl
  no_float (array ds) h = no_float_items ds h
  no_float (object ms) h = no_float_members ms h.1

  no_float_items : (ds : Items) → ItemsRoundTrip ds → items_have_float ds ≡ false
  no_float_items no_items h = refl
  no_float_items (item d ds) h = rw (no_float d h.0) (no_float_items ds h.1)

  no_float_members : (ms : Members) → MembersRoundTrip ms → members_have_float ms ≡ false
  no_float_members no_members h = refl
  no_float_members (member k d ms) h = rw (no_float d h.1) (no_float_members ms h.2)

mutual
  of_outline : (d : Data) → RoundTrips d → of_json (outline d) ≡ Some d
  of_outline null h = refl
  of_outline (boolean b) h = refl
  of_outline (number (unsigned n)) h = ap (option_map number) (number_of-decimal n h)
  of_outline (number (negative z)) h = absurd h
  of_outline (number (float x)) h = absurd h
  of_outline (string s) h = refl
  of_outline (array ds) h = ap (option_map array) (of_items_outline ds h)
  of_outline (object ms) h = ap (option_map object) (of_members_outline ms no_members h.1 ∙ ap Some h.0)

  of_items_outline : (ds : Items) → ItemsRoundTrip ds → of_items (items_outline ds) ≡ Some ds
  of_items_outline no_items h = refl
  of_items_outline (item d ds) h = rw (of_outline d h.0, of_items_outline ds h.1) refl

  of_members_outline : (ms found : Members) → MembersRoundTrip ms → of_members (members_outline ms) found ≡ Some (put_all ms found)
  of_members_outline no_members found h = refl
  of_members_outline (member k d ms) found h = rw (of_outline d h.1) (of_members_outline ms (put k d found) h.2)

mutual
  numbers : (d : Data) → RoundTrips d → tree.HasNumbers (outline d)
  numbers null h = tt
  numbers (boolean b) h = tt
  numbers (number (unsigned n)) h = IsNumber-decimal n h
  numbers (number (negative z)) h = absurd h
  numbers (number (float x)) h = absurd h
  numbers (string s) h = tt
  numbers (array ds) h = numbers_items ds h
  numbers (object ms) h = numbers_members ms h.1

  numbers_items : (ds : Items) → ItemsRoundTrip ds → tree.ItemsHaveNumbers (items_outline ds)
  numbers_items no_items h = tt
  numbers_items (item d ds) h = (numbers d h.0, numbers_items ds h.1)

  numbers_members : (ms : Members) → MembersRoundTrip ms → tree.MembersHaveNumbers (members_outline ms)
  numbers_members no_members h = tt
  numbers_members (member k d ms) h = (numbers d h.1, numbers_members ms h.2)

mutual
  same_depth : (d : Data) → tree.depth (outline d) ≡ depth d
  same_depth null = refl
  same_depth (boolean b) = refl
  same_depth (number n) = refl
  same_depth (string s) = refl
  same_depth (array ds) = rw (same_depth_items ds) refl
  same_depth (object ms) = rw (same_depth_members ms) refl

  same_depth_items : (ds : Items) → tree.items_depth (items_outline ds) ≡ items_depth ds
  same_depth_items no_items = refl
  same_depth_items (item d ds) = rw (same_depth d, same_depth_items ds) refl

  same_depth_members : (ms : Members) → tree.members_depth (members_outline ms) ≡ members_depth ms
  same_depth_members no_members = refl
  same_depth_members (member k d ms) = rw (same_depth d, same_depth_members ms) refl

-- the text reads as the value
pub reads_back : (d : Data) → RoundTrips d → depth d ≤ max_depth → read (compact_text d) ≡ Some d
reads_back d tame shallow =
    let j = outline d in
    let same : tokens (compact_text d) ≡ tree.json_tokens j ++ [] =
    ap tokens (sym (print-outline d)) ∙ tokens-print (tree.json_tokens j) (ArePrintable-json_tokens j (numbers d tame)) ∙ sym (append-nil (tree.json_tokens j)) in
    let fits : tree.depth j ≤ max_depth = omega (arith, same_depth d) in
    rw (same, value-json_tokens j max_depth [] fits) (of_outline d tame)

comma : (later : Bool) (t : List ℕ) → IsUtf8 t → IsUtf8 (comma_if later ++ t)
comma true t h = IsUtf8-append (44 ∷ []) t (IsUtf8-are_ascii _ refl) h
comma false t h = h

mutual
  pub utf8 : (d : Data) → RoundTrips d → IsUtf8 (compact_text d)
  utf8 null h = IsUtf8-are_ascii _ refl
  utf8 (boolean b) h = IsUtf8-boolean b
  utf8 (number (unsigned n)) h = IsUtf8-from_ascii _ (IsAscii-decimal n h)
  utf8 (number (negative z)) h = absurd h
  utf8 (number (float x)) h = absurd h
  utf8 (string s) h = IsUtf8-quoted s h
  utf8 (array ds) h = IsUtf8-append (91 ∷ []) _ (IsUtf8-are_ascii _ refl) (utf8_items false ds h)
  utf8 (object ms) h = IsUtf8-append (123 ∷ []) _ (IsUtf8-are_ascii _ refl) (utf8_members false ms h.1)

  utf8_items : (later : Bool) (ds : Items) → ItemsRoundTrip ds → IsUtf8 (items_text later ds)
  utf8_items later no_items h = IsUtf8-are_ascii _ refl
  utf8_items later (item d ds) h = comma later _ (IsUtf8-append _ _ (utf8 d h.0) (utf8_items true ds h.1))

  utf8_members : (later : Bool) (ms : Members) → MembersRoundTrip ms → IsUtf8 (members_text later ms)
  utf8_members later no_members h = IsUtf8-are_ascii _ refl
  utf8_members later (member k d ms) h =
      comma later _ (IsUtf8-append _ _ (IsUtf8-quoted k h.0) (IsUtf8-append (58 ∷ []) _ (IsUtf8-are_ascii _ refl) (IsUtf8-append _ _ (utf8 d h.1) (utf8_members true ms h.2))))

-- members in any order: the text reads as the object that they make, one put in after another
pub read_put : (ms : Members) → MembersRoundTrip ms → depth (object ms) ≤ max_depth → read (compact_text (object ms)) ≡ Some (object (put_all ms no_members))
read_put ms tame shallow =
    let j = outline (object ms) in
    let same : tokens (compact_text (object ms)) ≡ tree.json_tokens j ++ [] =
    ap tokens (sym (print-outline (object ms))) ∙ tokens-print (tree.json_tokens j) (ArePrintable-json_tokens j (numbers_members ms tame)) ∙ sym (append-nil (tree.json_tokens j)) in
    let fits : tree.depth j ≤ max_depth = omega (arith, same_depth (object ms)) in
    rw (same, value-json_tokens j max_depth [] fits) (ap (option_map object) (of_members_outline ms no_members tame))

pub utf8_put : (ms : Members) → MembersRoundTrip ms → IsUtf8 (compact_text (object ms))
utf8_put ms h = IsUtf8-append (123 ∷ []) _ (IsUtf8-are_ascii _ refl) (utf8_members false ms h)
