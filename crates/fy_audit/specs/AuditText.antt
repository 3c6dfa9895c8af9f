-- the bytes of an audit
use Rattle.std.specs.Prelude.{ℕ, List, [], ◌∷◌, ◌++◌, codes}
use Rattle.std.specs.List.{flat_map}
use Rattle.fy_spelling.specs.Values.{text_of}
use Rattle.fy_acts.specs.declared.entry.Entry.{Entry}
use Rattle.fy_acts.specs.declared.version.Version.{Version}
use Rattle.fy_acts.specs.declared.version.Version.TheVariants.{First, Second}

-- the line that an audit begins with
abbrev pub header : Version → List ℕ
header First = codes "{\"audit\":1}\n"
header Second = codes "{\"audit\":2}\n"

-- the text of an entry with its line feed
abbrev pub entry_line : Entry → List ℕ
entry_line entry = text_of entry ++ 10 ∷ []

-- the audit of a journal of a version
abbrev pub audit_text : Version → List Entry → List ℕ
audit_text version entries = header version ++ flat_map entry_line entries
