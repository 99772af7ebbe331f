use Rattle.std.proofs.Common.{◌≡◌, ◌≤◌, ◌&&◌, [], ap, length, sym, subst, true, vec_items, ◌∙◌, arith}
use Rattle.std.specs.FinMap.{empty}
use Rattle.std.specs.Prelude.{IfSome, nat_le}
use Rattle.std.specs.List.{list_all}
use Rattle.std.proofs.lemmas.Option.{IfSome_then}
use mathlib.Core.List.{IsPrefix}
use Rattle.catalogue_core.specs.Catalogues.{CatalogueValue}
use Rattle.snapshot_desk.proofs.Prefixes.{prefix_trans}
use Rattle.union_base.specs.Both.{both_true}
use Rattle.union_files.proofs.DistinctLaws.{distinct_deliveries}
use Rattle.union_files.proofs.FileLaws.{same_more}
use Rattle.union_files.specs.Inputs.{deliveries, inputs_of}
use Rattle.union_files.specs.Limits.{AreWithin}
use Rattle.catalogue_query.specs.Replies.{AreReplies}
use Rattle.union_words.specs.Meanings.{libraries_meaning}
use Rattle.union_words.specs.Words.{is_library_word, have_distinct_codes, most_libraries}
use Rattle.union_follow.proofs.AskedLaws.{replies_over}
use Rattle.union_follow.proofs.UnionLaws.{followed}
use Rattle.union_follow.specs.Following.{HasFollowed}
use Rattle.union_follow.specs.Turning.{AreTurnedFrom}
use Rattle.union_follow.proofs.following.follow_and_ask.Goals as goal

pub returns-in-Ok-ask_late-clause-gathers : goal.returns-in-Ok-ask_late-clause-gathers
returns-in-Ok-ask_late-clause-gathers g c =
    let words = c.args.libraries.now.words.now in
    let libraries = libraries_meaning c.args.libraries.now in
    let loaded = c.finish.result.loaded in
    let none = c.none.result in
    let after = c.gather-gathered.new.running.load.reports in
    let gathers = c.in-Ok-gathered.ensures.gathers in
    let distinct : have_distinct_codes words ≡ true =
    (both_true (list_all is_library_word words) (have_distinct_codes words)
    (both_true (nat_le 1 (length words) && nat_le (length words) most_libraries) (list_all is_library_word words && have_distinct_codes words) c.args.libraries.now.words_are_libraries).1).1 in (
      same_more (g.F.Shelf.faults c.args.shelf.now) (g.F.Shelf.faults c.open_rest.new.shelf) (g.F.Shelf.faults c.gather-gathered.new.shelf)
          c.in_ok-opened.ensures.calm gathers.0,
      subst (λ files. IfSome files (λ contents. AreWithin contents (inputs_of libraries) × HasFollowed (deliveries [] contents libraries) loaded)) c.in_ok-opened.ensures.files
          (IfSome_then (g.F.Shelf.files c.open_rest.new.shelf) gathers.1 (λ contents read. (
            read.0,
            followed contents libraries loaded none after
                (ap (λ (catalogue : CatalogueValue). catalogue.names) c.finish.ensures.catalogue ∙ c.gather-gathered.new.running.load.unnamed) c.none.ensures.text c.none.ensures.refused
                (subst (λ (catalogue : CatalogueValue). AreTurnedFrom contents 0 libraries [] catalogue.history none after) (sym c.finish.ensures.catalogue) read.1)
                (distinct_deliveries words [] contents distinct) (ap vec_items c.finish.ensures.reports) c.finish.ensures.refused,
          ))),
    )

pub returns-in-Ok-ask_late-clause-beside : goal.returns-in-Ok-ask_late-clause-beside
returns-in-Ok-ask_late-clause-beside g c =
    let history = c.finish.result.loaded.catalogue.history in
    let published = c.gather-gathered.new.running.load.publisher.published in
    let first = c.gather-gathered.new.asking.viewer.seen in
    let last = c.ask_late.new.viewer.seen in
    let questions = c.args.questions.beside.items in
    let replies = c.gather-gathered.new.asking.replies in
    let shown : published ≡ history = c.in-Ok-gathered.ensures.shown.published ∙ sym (ap (λ (catalogue : CatalogueValue). catalogue.history) c.finish.ensures.catalogue) in
    let follows : IsPrefix first history = prefix_trans first last history c.in-Ok-ask_late.ensures.seen (subst (IsPrefix last) shown c.finish.ensures.prefix) in
    subst (λ all. AreReplies empty history 0 questions all) (sym (ap vec_items c.finish.ensures.beside))
    (replies_over first history 0 0 questions replies.items follows (omega arith) c.in-Ok-gathered.ensures.replied c.in-Ok-gathered.ensures.all)

pub returns-in-Ok-ask_late-clause-late : goal.returns-in-Ok-ask_late-clause-late
returns-in-Ok-ask_late-clause-late g c =
    let history = c.finish.result.loaded.catalogue.history in
    let published = c.gather-gathered.new.running.load.publisher.published in
    let last = c.ask_late.new.viewer.seen in
    let asked = c.as_slice.result.now in
    let shown : published ≡ history = c.in-Ok-gathered.ensures.shown.published ∙ sym (ap (λ (catalogue : CatalogueValue). catalogue.history) c.finish.ensures.catalogue) in
    let least : length history ≤ length published = omega (arith, ap length shown) in
    subst (λ questions. AreReplies empty history (length history) questions c.finish.result.late.items) c.as_slice.ensures.value
    (subst (λ all. AreReplies empty history (length history) asked all) (sym (ap vec_items c.finish.ensures.late))
    (replies_over last history (length history) (length published) asked c.in-Ok-ask_late.late.items (subst (IsPrefix last) shown c.finish.ensures.prefix)
    least c.in-Ok-ask_late.ensures.replied c.in-Ok-ask_late.ensures.all))
