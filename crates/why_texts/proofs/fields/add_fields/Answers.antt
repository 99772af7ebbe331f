use Rattle.std.proofs.Common.{◌≡◌, ◌++◌}
use Rattle.std.specs.Prelude.{codes}
use Rattle.why_texts.specs.Answers.{size_text}
use Rattle.why_texts.specs.Fields.{contents_of, content_text, fields_text}
use Rattle.why_texts.specs.Ids.{id_text}
use Rattle.why_texts.proofs.TextLaws.{behind}
use Rattle.why_texts.proofs.fields.add_fields.Goals as goal

pub returns : goal.returns
unfolding fields_text
returns c =
    let e = c.args.edition.now in
    let fields = content_text e.content (contents_of c.args.records.now) in
    let told : c.add_merged.new.text.items ≡ c.extend_from_slice-2.new.self.items ++ fields =
    rw (c.as_slice.ensures.value, c.in_ok-contents.ensures, c.in_ok-merged.ensures) at c.in_ok-add_merged.ensures
    in
    behind c.args.text.now.items c.add_id.new.text.items c.add_merged.new.text.items (id_text c.args.id.now) (codes ": an edition of " ++ (size_text e ++ (codes "\n" ++ fields))) c.in_ok-add_id.ensures
    (behind c.add_id.new.text.items c.extend_from_slice.new.self.items c.add_merged.new.text.items (codes ": an edition of ") (size_text e ++ (codes "\n" ++ fields)) c.in_ok-extend_from_slice.ensures.items
    (behind c.extend_from_slice.new.self.items c.add_size.new.text.items c.add_merged.new.text.items (size_text e) (codes "\n" ++ fields) c.in_ok-add_size.ensures
    (behind c.add_size.new.text.items c.extend_from_slice-2.new.self.items c.add_merged.new.text.items (codes "\n") fields c.in_ok-extend_from_slice-2.ensures.items
    told)))
