use Rattle.std.proofs.Common.{All, ◌++◌, ◌∙◌, ap, codes, subst, sym}
use Rattle.std.specs.List.{flat_map}
use Rattle.union_base.specs.SortedLists.{set_of}
use Rattle.marc_parts.specs.Parts.{text_under}
use Rattle.workset_keys.specs.Names.{HasTexts}
use Rattle.match_features.specs.Kept.{has_some, pairs_cmp, texts_cmp}
use Rattle.record_features.specs.Gathering.{numbers_in, isbns_in, issns_in, title_in, name_in, date_in, features}
use Rattle.record_features.proofs.Loadable.{loadable_texts}
use Rattle.record_features.proofs.Made.{features_made}
use Rattle.record_features.proofs.of_record.features_of.Goals as goal

pub gathered-requires : goal.gathered-requires
gathered-requires c = subst (All HasTexts) (sym c.as_slice-fields.ensures) (loadable_texts c.args.rec.now c.requires)

pub of_lists-requires : goal.of_lists-requires
of_lists-requires c = ap has_some (c.in_ok-found.ensures.control ∙ (λ i. c.in_ok-first_pairs.ensures i ++ flat_map numbers_in (c.as_slice-fields.ensures i)))

pub returns : goal.returns
returns c =
    let fields = c.as_slice-fields.ensures in
    let given = c.in_ok-found.ensures in
    let made = c.of_lists.ensures in
    features_made c.of_lists.result _ _ _ _ _ _ _ (features c.args.library.now c.args.rec.now) made.control made.types made.isbns made.issns made.titles made.dates made.names
    (record {
      control = ap (set_of pairs_cmp) (given.control ∙ (λ i. c.in_ok-first_pairs.ensures i ++ flat_map numbers_in (fields i)));
      types = ap (set_of texts_cmp) c.in_ok-types.ensures;
      isbns = ap (set_of texts_cmp) (given.isbns ∙ ap (flat_map isbns_in) fields);
      issns = ap (set_of texts_cmp) (given.issns ∙ ap (flat_map issns_in) fields);
      titles = ap (set_of texts_cmp) (given.titles ∙ ap (flat_map title_in) fields);
      dates = ap (set_of texts_cmp) (c.in_ok-dates.ensures ∙ ap date_in (c.text_under.ensures ∙ ap (text_under (codes "008")) fields));
      names = ap (set_of texts_cmp) (given.names ∙ ap (flat_map name_in) fields);
    })
