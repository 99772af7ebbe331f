use Rattle.std.proofs.Common.{◌&&◌, IsTrue, ◌∙◌, ap}
use Rattle.std.specs.List.{list_all}
use Rattle.std.proofs.lemmas.Result.{IfOk-weaker}
use Rattle.union_base.specs.Both.{true_both}
use Rattle.union_base.specs.LibraryCodes.{is_library_code}
use Rattle.marc_leader.specs.Codes.{are_printable}
use Rattle.marc_fields.specs.Spelling.{is_short}
use Rattle.marc_parts.specs.Loads.{is_loadable}
use Rattle.catalogue_editions.specs.Linked.{are_linked}
use Rattle.catalogue_editions.specs.Sound.{is_sound}
use Rattle.record_editions.specs.RecordLaws.{is_loaded}
use Rattle.record_editions.specs.Records.{edition_made}
use Rattle.record_editions.proofs.RecordsLaws.{edition-is}
use Rattle.record_editions.proofs.records.edition_of.Goals as goal

pub invariant_of-parts : goal.invariant_of-parts
invariant_of-parts c =
    let prefer = c.args.prefer.now in
    let library = c.args.library.now in
    let r = c.args.rec in
    let loaded : IsTrue (is_loaded library r) =
    true_both (is_library_code library && is_loadable r) (are_printable r.leader && list_all is_short r.fields)
    (true_both (is_library_code library) (is_loadable r) c.bytes-code.ensures.code c.requires.loadable)
    (true_both (are_printable r.leader) (list_all is_short r.fields) c.prints.ensures c.requires.short) in
    let whole = edition_made prefer library r loaded in
    record {
      linked = (λ i. are_linked (c.in_ok-content_of.ensures i).contributors (c.in_ok-features_of.ensures i).control) ∙ whole.linked;
      sound = ap is_sound c.in_ok-content_of.ensures ∙ whole.sound;
    }

pub returns-clause-value : goal.returns-clause-value
returns-clause-value c =
    let prefer = c.args.prefer.now in
    let library = c.args.library.now in
    let r = c.args.rec in
    let loaded : IsTrue (is_loaded library r) =
    true_both (is_library_code library && is_loadable r) (are_printable r.leader && list_all is_short r.fields)
    (true_both (is_library_code library) (is_loadable r) c.bytes-code.ensures.code c.requires.loadable)
    (true_both (are_printable r.leader) (list_all is_short r.fields) c.prints.ensures c.requires.short) in
    IfOk-weaker c.of.result _ _ (λ _ made. edition-is prefer library r _ loaded (record {
      features = ap (λ e. e.features) made ∙ c.in_ok-features_of.ensures;
      content = ap (λ e. e.content) made ∙ c.in_ok-content_of.ensures;
    })) c.of.ensures
