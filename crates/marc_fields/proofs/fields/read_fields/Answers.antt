use Rattle.std.proofs.Common.{◌≡◌, ◌++◌, ◌∷◌, sym, subst, take, get_or, [], true, List}
use Rattle.std.proofs.lemmas.List.{get_or_default}
use Rattle.marc_leader.specs.declared.entry.Entry.{Entry}
use Rattle.union_base.specs.declared.field.Field.{Field}
use Rattle.marc_fields.specs.Directories.{is_formed}
use Rattle.marc_fields.specs.Rules.{is_tile, is_control_shaped, is_data_shaped}
use Rattle.marc_fields.specs.Shapes.{are_inner, has_shape}
use Rattle.marc_fields.specs.Spelling.{AreEntriesOf}
use Rattle.marc_fields.proofs.AppendingLaws.{list_all-at, take_one_more}
use Rattle.marc_fields.proofs.FieldReading.{shapes-all, tile-inner, shape-right, field-IsEntryOf, AreEntriesOf-push}
use Rattle.marc_fields.proofs.fields.read_fields.Goals as goal

-- the entry that stands for none
none : Entry
none = record { tag = []; length = 0; start = 0 }

pub read_field-requires-clause-inner : goal.read_field-requires-clause-inner
unfolding none
read_field-requires-clause-inner c =
    let entries = c.args.entries.now in
    let bytes = c.args.bytes.now in
    let i = c.loop-entry.entry-index in
    let e : Entry = get_or entries i none in
    let is : e ≡ get_or entries i e = get_or_default entries i none e c.loop-entry-test.true in
    let tile = list_all-at (is_tile bytes) entries i e c.requires.tiles c.loop-entry-test.true is in
    subst (λ t. are_inner t ≡ true) (sym c.text_in.ensures) (tile-inner bytes e tile c.requires.inner)

pub read_field-requires-clause-shaped : goal.read_field-requires-clause-shaped
unfolding none
read_field-requires-clause-shaped c =
    let entries = c.args.entries.now in
    let bytes = c.args.bytes.now in
    let i = c.loop-entry.entry-index in
    let e : Entry = get_or entries i none in
    let is : e ≡ get_or entries i e = get_or_default entries i none e c.loop-entry-test.true in
    let all = shapes-all bytes entries c.requires.shaped in
    let control = list_all-at (is_control_shaped bytes) entries i e all.0 c.loop-entry-test.true is in
    let fit = list_all-at (is_data_shaped bytes) entries i e all.1 c.loop-entry-test.true is in
    subst (λ t. has_shape e.tag t ≡ true) (sym c.text_in.ensures) (shape-right bytes e control fit)

pub loop-entry-preserved : goal.loop-entry-preserved
unfolding none
loop-entry-preserved c =
    let entries = c.args.entries.now in
    let bytes = c.args.bytes.now in
    let i = c.loop-entry.entry-index in
    let e : Entry = get_or entries i none in
    let is : e ≡ get_or entries i e = get_or_default entries i none e c.loop-entry-test.true in
    let f = c.in_ok-read_field.field-0 in
    let tile = list_all-at (is_tile bytes) entries i e c.requires.tiles c.loop-entry-test.true is in
    let formed = list_all-at is_formed entries i e c.requires.formed c.loop-entry-test.true is in
    let At : List Entry → List Field → Type 0 = λ es fs. AreEntriesOf bytes es fs in
    let old = c.loop-entry.fields.items in
    let lies : At (take i entries ++ e ∷ []) (old ++ f ∷ [])
    = AreEntriesOf-push bytes (take i entries) old e f c.loop-entry.invariant (field-IsEntryOf bytes c.text_in.result.now e f tile formed c.text_in.ensures c.in_ok-read_field.ensures) in
    subst (λ es. At es c.push.new.self.items) (sym (take_one_more entries i e c.loop-entry-test.true is))
    (subst (λ fs. At (take i entries ++ e ∷ []) fs) (sym c.in_ok-push.ensures.items) lies)
