-- what is found in the value of a line that is the text of an entry
use Rattle.std.proofs.Common.{◌≡◌, ℕ, List, Some, sym, ap, subst, ◌∙◌}
use Rattle.std.specs.Prelude.{IsUtf8}
use Rattle.serde_json.specs.Data.{Data}
use Rattle.serde_json.specs.Read.{read}
use Rattle.fy_spelling.specs.Command.{IsJson}
use Rattle.fy_spelling.specs.EntryLine.{IsTextOf}
use Rattle.fy_spelling.specs.Replied.{entry_from}
use Rattle.fy_spelling.specs.Values.{entry_data}
use Rattle.fy_acts.specs.declared.entry.Entry.{Entry}
use Rattle.fy_spelling.specs.declared.reading.UncheckedAct.{UncheckedAct}
use Rattle.fy_acts.specs.declared.reply.Reply.{Reply}
use Rattle.fy_spelling.proofs.Again.{found_as}
use Rattle.fy_spelling.proofs.Lines.{one_value}
use Rattle.fy_spelling.proofs.Replied.{entry-again}
use Rattle.fy_spelling.proofs.Shapes.{held_entry, read_text_of, utf8_text_of}

-- the line is JSON of the entry's value
pub json_of : (line : List ℕ) (e : Entry) → IsTextOf line e → IsJson line (entry_data e)
json_of line e is =
    record {
      text = subst IsUtf8 (sym is.text) (utf8_text_of e (held_entry e is.fits));
      reads = ap read is.text ∙ read_text_of e is.fits;
    }

pub found_in :
    (line : List ℕ) (d : Data) (e : Entry) → IsJson line d → IsTextOf line e
    → entry_from d ≡ Some (found_as e.act, e.at, e.by, e.reply)
found_in line d e json is =
    ap entry_from (one_value line d _ json (json_of line e is)) ∙ entry-again e is.fits

pub same_parts_found : (p q : UncheckedAct × ℕ × ℕ × Reply) → Some p ≡ Some q → p ≡ q
same_parts_found p q e = cc
