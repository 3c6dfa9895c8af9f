use Rattle.std.proofs.Common.{refl}
use Rattle.std.specs.Fmt.{digits}
use Rattle.hex.specs.Hex.{encode_with}
use Rattle.serde_json.proofs.OnLiterals.{serde_json_on_literals}
use Rattle.fy_spelling.specs.Values.{text_of}
use Rattle.fy_spelling.specs.Plain.{command_text}
use Rattle.fy_spelling.proofs.laws.texts_are_as_written_out.Goals as goal

pub returns-clause-entries : goal.returns-clause-entries
unfolding text_of serde_json_on_literals digits
returns-clause-entries c = record { first = λ o. refl; second = λ o. refl }

pub returns-clause-replies : goal.returns-clause-replies
unfolding serde_json_on_literals digits
returns-clause-replies c = record {
  verdict = refl;
  ruled = refl;
  formed = refl;
  begun = refl;
  stored = refl;
  marked = refl;
  sent = refl;
  synced = refl;
  time = refl;
  done = refl;
  clogged = refl;
  short = refl;
  needed = refl;
}

pub returns-clause-acts : goal.returns-clause-acts
unfolding serde_json_on_literals digits encode_with
returns-clause-acts c = record {
  form = refl;
  empty = refl;
  begin = refl;
  everything = refl;
  hall = refl;
  protect = refl;
  copy = refl;
  replace = refl;
}

pub returns-clause-command : goal.returns-clause-command
unfolding command_text serde_json_on_literals digits
returns-clause-command c o = refl
