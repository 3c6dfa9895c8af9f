-- The values whose compact text reads back: whole numbers of 64 bits, texts in UTF-8, members in
-- order.
use Rattle.std.specs.Prelude.{◌≡◌, ◌<◌, ◌^◌, IsUtf8, ⊤}
use Rattle.serde_json.specs.Data.{Num, unsigned, negative, float, Data, null, boolean, number, string, array, object, Items, no_items, item, Members, no_members, member, put}

-- the members put in one after another
abbrev pub put_all : Members → Members → Members
put_all no_members found = found
put_all (member k d ms) found = put_all ms (put k d found)

-- a whole number of 64 bits
abbrev pub IsWhole : Num → Type 0
IsWhole (unsigned n) = n < 2 ^ 64
IsWhole (negative z) = ⊥
IsWhole (float x) = ⊥

abbrev mutual
  -- a value whose compact text reads back
  pub RoundTrips : Data → Type 0
  RoundTrips null = ⊤
  RoundTrips (boolean b) = ⊤
  RoundTrips (number n) = IsWhole n
  RoundTrips (string s) = IsUtf8 s
  RoundTrips (array ds) = ItemsRoundTrip ds
  RoundTrips (object ms) = (put_all ms no_members ≡ ms) × MembersRoundTrip ms

  -- each item of a list does
  pub ItemsRoundTrip : Items → Type 0
  ItemsRoundTrip no_items = ⊤
  ItemsRoundTrip (item d ds) = RoundTrips d × ItemsRoundTrip ds

  -- each member of an object does
  pub MembersRoundTrip : Members → Type 0
  MembersRoundTrip no_members = ⊤
  MembersRoundTrip (member k d ms) = IsUtf8 k × RoundTrips d × MembersRoundTrip ms
