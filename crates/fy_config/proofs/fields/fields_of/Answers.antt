use Rattle.std.proofs.Common.{◌≡◌, ◌∙◌, ap, sym, refl, codes, map, Some, true}
use Rattle.toml.specs.Data.{get_member, as_str}
use Rattle.toml.specs.View.{table_view}
use Rattle.fy_config.specs.Given.{process_given, actor_given, protection_given}
use Rattle.fy_config.specs.Tables.{provided, integer_at, has_only, list_if_any, process_of, actor_of, protection_of}
use Rattle.fy_config.specs.Config.{Fields, limit_given, array_at, top_keys}
use Rattle.fy_config.proofs.Spelt.{some_of, all_spelt}
use Rattle.fy_config.proofs.fields.fields_of.Goals as goal

pub returns : goal.returns
returns c =
    let ms = table_view c.args.table.now in
    let (limit, spelt_limit, kept_limit) =
    some_of limit_given (integer_at (codes "journal_limit") ms) _ c.in-Some.ensures in
    let (processes, spelt_processes, kept_processes) =
    some_of (map process_given) (array_at process_of (codes "process") ms) _
    (rw c.in-Some-3.is at c.in_ok-processes.ensures) in
    let (actors, spelt_actors, kept_actors) =
    some_of (map actor_given) (array_at actor_of (codes "actor") ms) _
    (rw c.in-Some-4.is at c.in_ok-actors.ensures) in
    let (protections, spelt_protections, kept_protections) =
    some_of (map protection_given)
    (list_if_any protection_of (get_member (codes "protect") ms)) _
    (rw c.in-Some-5.is at c.in_ok-protections.ensures) in
    let policies = map (λ text. text.now) c.in-Some-2.policies.items in
    let spelt_policies : array_at as_str (codes "policies") ms ≡ Some policies =
    sym (rw c.in-Some-2.is at c.in_ok-policies.ensures) in
    let known : provided (has_only top_keys ms) ≡ Some true =
    ap provided (sym c.has_only.ensures ∙ c.if-not-has_only.false) in
    let f : Fields = record {
      journal_limit = limit;
      policies = policies;
      processes = processes;
      actors = actors;
      protections = protections;
    } in (
      f,
      all_spelt f _ _ _ _ _ _ spelt_limit spelt_policies spelt_processes spelt_actors
          spelt_protections known,
      record {
        journal_limit = kept_limit;
        policies = refl;
        processes = kept_processes;
        actors = kept_actors;
        protections = kept_protections;
      },
    )
