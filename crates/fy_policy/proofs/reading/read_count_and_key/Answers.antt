use Rattle.fy_policy.proofs.Readings.{no_key, no_comma}
use Rattle.fy_policy.proofs.reading.read_count_and_key.Goals as goal

pub returns-in_default-read_key : goal.returns-in_default-read_key
returns-in_default-read_key c =
    no_key c.args.text.now c.in-Some.rest.now c.in-Some.ensures.0 c.in-Some.ensures.2 c.in_default-read_key.ensures

pub returns-in_default-behind : goal.returns-in_default-behind
returns-in_default-behind c =
    no_comma c.args.text.now c.in-Some.rest.now c.in-Some-read_key.rest.now c.in-Some.ensures.0 c.in-Some-read_key.key c.in-Some.ensures.2 c.in-Some-read_key.ensures c.in_default-behind.ensures
