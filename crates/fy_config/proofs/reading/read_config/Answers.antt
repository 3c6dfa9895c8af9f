use Rattle.std.proofs.Common.{◌∙◌, ap, sym, arith}
use Rattle.toml.specs.Parse.{parse_document}
use Rattle.toml.specs.View.{table_view}
use Rattle.fy_config.proofs.Later.{answers_document}
use Rattle.fy_config.proofs.reading.read_config.Goals as goal

pub returns-in-Ok-table_from_str-clause-answers : goal.returns-in-Ok-table_from_str-clause-answers
returns-in-Ok-table_from_str-clause-answers c =
    answers_document c.args.bytes.now (table_view c.in-Ok-table_from_str.table) c.config_of.result (omega arith) (
      c.in-Ok.ensures.cases.1,
      ap parse_document (sym c.in-Ok.ensures.cases.0) ∙ c.in-Ok-table_from_str.ensures.ok,
    )
    c.config_of.ensures
