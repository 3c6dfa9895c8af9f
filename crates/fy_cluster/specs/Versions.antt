-- The versions of a journal's rules. A journal says of which version it is, and nothing changes
-- that; a cluster makes journals of the second. Both give each act the same reply, so Legal speaks
-- of the entries of either; but the first knows no CopyTo, Replace and Heal, so that a journal of
-- it which has one of these is not legal.
use Rattle.std.specs.Prelude.{◌↔◌, Bool, List, [], ◌∷◌, ◌++◌, IsTrue}
use Rattle.std.specs.List.{list_all}
use Rattle.fy_acts.specs.declared.entry.Entry.{Entry}
use Rattle.fy_acts.specs.declared.version.Version.{Version}
use Rattle.fy_acts.specs.declared.version.Version.TheVariants.{Second}
use Rattle.fy_acts.specs.Versions.{knows}
use Rattle.fy_cluster.specs.Setup.{Setup}
use Rattle.fy_cluster.specs.Replies.{Legal, MayFollow}

-- whether there is each act of the entries
abbrev pub knows_all : Version → List Entry → Bool
knows_all version entries = list_all (λ e. knows version e.act) entries

-- a journal of the version is legal: its entries are, and the version knows their acts
pub record LegalUnder (version : Version) (c : Setup) (entries : List Entry) : Type 0 where
  pub legal : Legal c entries
  pub known : IsTrue (knows_all version entries)

-- under the second version a journal is legal where its entries are
abbrev pub SecondKnowsAll : Type 0
SecondKnowsAll = (c : Setup) (entries : List Entry) → LegalUnder Second c entries ↔ Legal c entries

-- a journal that is legal under its version is so with one entry more exactly where the entry may
-- follow it and the version knows its act
abbrev pub NextLegalUnder : Type 0
NextLegalUnder =
    (version : Version) (c : Setup) (journal : List Entry) (e : Entry) →
    LegalUnder version c journal →
    LegalUnder version c (journal ++ e ∷ [])
    ↔ (MayFollow c journal e × IsTrue (knows version e.act))
