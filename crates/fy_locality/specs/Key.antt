-- how the keys of a locality are written
use Rattle.std.specs.Prelude.{◌≡◌, ℕ, nat_eq, List, [], ◌∷◌, codes, Option}
use Rattle.std.specs.Cmp.Lexicographic.{pointwise}
use Rattle.std.specs.List.{find}
use Rattle.fy_locality.specs.declared.key.Key.{Key}
use Rattle.fy_locality.specs.declared.key.Key.TheVariants.{Process, Machine, Zone, DataHall, DataCenter}

-- the text of each key
abbrev pub key_text : Key → List ℕ
key_text Process = codes "processid"
key_text Machine = codes "machineid"
key_text Zone = codes "zoneid"
key_text DataHall = codes "data_hall"
key_text DataCenter = codes "dcid"

-- every key of a locality
abbrev pub all_keys : List Key
all_keys = Process ∷ Machine ∷ Zone ∷ DataHall ∷ DataCenter ∷ []

-- the key that is written so
abbrev pub key_named : List ℕ → Option Key
key_named word = find (λ key. pointwise nat_eq (key_text key) word) all_keys

-- keys with one text are one
abbrev pub KeyTextsDiffer : Type 0
KeyTextsDiffer = (k l : Key) → key_text k ≡ key_text l → k ≡ l
