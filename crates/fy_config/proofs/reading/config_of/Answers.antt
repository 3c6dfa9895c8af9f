use Rattle.std.proofs.Common.{◌≡◌, ◌∙◌, ap, sym, map, refl, subst, None}
use Rattle.std.proofs.lemmas.Result.{err_from_is_err_and}
use Rattle.toml.specs.View.{table_view}
use Rattle.std.specs.Prelude.{Result, Err}
use Rattle.fy_cluster.specs.Setup.{Setup, is_in_range}
use Rattle.fy_config.specs.Config.{DocumentIs, first_outside, AreRead}
use Rattle.fy_config.specs.Named.{AreNumbered, IsPolicyFault}
use Rattle.fy_config.specs.declared.fault.ConfigFault.{ConfigFault}
use Rattle.fy_config.proofs.Answered.{unless, unless_err, document_limit, document_name, document_named, policy_answer, numbered_setup, good_protections, made_named}
use Rattle.fy_config.proofs.Ranges.{outside_kept}
use Rattle.fy_config.proofs.Setups.{setup_within}
use Rattle.fy_config.proofs.reading.config_of.Goals as goal

pub returns-in-Some : goal.returns-in-Some
returns-in-Some c =
    let (f, spelt, kept) = c.in_ok-fields.ensures in
    document_limit (table_view c.args.table.now) f c.in-Some.part _ spelt
    (sym (outside_kept c.in_ok-fields.fields f kept) ∙ sym c.first_outside.ensures ∙ c.in-Some.is) refl

pub number_parts-requires-clause-spelt : goal.number_parts-requires-clause-spelt
number_parts-requires-clause-spelt c =
    let (f, spelt, kept) = c.in_ok-fields.ensures in
    (f, kept)

pub returns-in_err-map : goal.returns-in_err-map
returns-in_err-map c =
    let ms = table_view c.args.table.now in
    let (f, spelt, kept) = c.in_ok-fields.ensures in
    let inside : first_outside f ≡ None =
    sym (outside_kept c.in_ok-fields.fields f kept) ∙ sym c.first_outside.ensures ∙ c.in_default.is in
    let p = err_from_is_err_and c.from_residual-in_err-map.result c.from_residual-in_err-map.ensures.1 in
    rw (p.1, p.2)
    (unless_err (AreNumbered f) (DocumentIs ms) c.in_err-map.field-0.0 (c.in_err-map.ensures f kept)
    (λ bad. document_name ms f c.in_err-map.field-0.0 _ spelt inside bad refl))

abbrev refused : ConfigFault → Result Setup ConfigFault
refused fault = Err fault

pub returns-in_err-policies : goal.returns-in_err-policies
returns-in_err-policies c =
    let ms = table_view c.args.table.now in
    let (f, spelt, kept) = c.in_ok-fields.ensures in
    let inside : first_outside f ≡ None =
    sym (outside_kept c.in_ok-fields.fields f kept) ∙ sym c.first_outside.ensures ∙ c.in_default.is in
    let (good, numbered) = c.in_ok-map.ensures f kept in
    let texts = ap (map (λ text. text.now)) c.deref.ensures.value ∙ kept.policies in
    let p = err_from_is_err_and c.from_residual-in_err-policies.result c.from_residual-in_err-policies.ensures.1 in
    rw (p.1, p.2)
    (policy_answer f (DocumentIs ms) c.in_err-policies.field-0.0
    (subst (λ spelt_texts. IsPolicyFault spelt_texts c.in_err-policies.field-0.0) texts c.in_err-policies.ensures)
    (document_named ms f (refused c.in_err-policies.field-0.0) spelt inside good))

pub config_made-requires : goal.config_made-requires
config_made-requires c =
    let (f, spelt, kept) = c.in_ok-fields.ensures in
    let inside : first_outside f ≡ None =
    sym (outside_kept c.in_ok-fields.fields f kept) ∙ sym c.first_outside.ensures ∙ c.in_default.is in
    let (good, numbered) = c.in_ok-map.ensures f kept in
    let texts = ap (map (λ text. text.now)) c.deref.ensures.value ∙ kept.policies in
    let read = subst (λ spelt_texts. AreRead spelt_texts c.in_ok-policies.policies.items) texts c.in_ok-policies.ensures in
    let setup =
    numbered_setup f c.in_ok-policies.policies.items c.in_ok-map.field-0 c.in-Some-journal_limit.limit numbered
    (sym kept.journal_limit ∙ c.in-Some-journal_limit.is) in
    ap is_in_range setup
    ∙ setup_within f c.in_ok-policies.policies.items inside (good_protections f good) read

pub returns : goal.returns
returns c =
    let ms = table_view c.args.table.now in
    let (f, spelt, kept) = c.in_ok-fields.ensures in
    let inside : first_outside f ≡ None =
    sym (outside_kept c.in_ok-fields.fields f kept) ∙ sym c.first_outside.ensures ∙ c.in_default.is in
    let (good, numbered) = c.in_ok-map.ensures f kept in
    let texts = ap (map (λ text. text.now)) c.deref.ensures.value ∙ kept.policies in
    let read = subst (λ spelt_texts. AreRead spelt_texts c.in_ok-policies.policies.items) texts c.in_ok-policies.ensures in
    let setup =
    numbered_setup f c.in_ok-policies.policies.items c.in_ok-map.field-0 c.in-Some-journal_limit.limit numbered
    (sym kept.journal_limit ∙ c.in-Some-journal_limit.is) in
    unless (DocumentIs ms) c.config_made.result
    (document_named ms f c.config_made.result spelt inside good
    (made_named f c.in_ok-policies.policies.items _ c.config_made.result read setup c.config_made.ensures))
