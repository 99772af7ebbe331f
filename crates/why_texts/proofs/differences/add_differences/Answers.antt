use Rattle.std.proofs.Common.{◌≡◌, ◌++◌}
use Rattle.std.specs.Prelude.{codes}
use Rattle.match_features.specs.Kept.{texts_cmp, pairs_cmp}
use Rattle.edition_derivations.specs.Common.{first_common}
use Rattle.why_texts.specs.Differences.{control_told, line_text, same, differences_text}
use Rattle.why_texts.proofs.TextLaws.{behind}
use Rattle.why_texts.proofs.differences.add_differences.Goals as goal

pub returns : goal.returns
unfolding differences_text
returns c =
    let x = c.args.x.now in
    let y = c.args.y.now in
    let control : c.add_control.new.text.items ≡ c.args.text.now.items ++ control_told (first_common pairs_cmp x.control y.control) =
    rw c.first_common.ensures at c.in_ok-add_control.ensures
    in
    behind c.args.text.now.items c.add_control.new.text.items c.add_line-6.new.text.items (control_told (first_common pairs_cmp x.control y.control)) (line_text texts_cmp same (codes "ISBN      ") x.isbns y.isbns ++ (line_text texts_cmp same (codes "ISSN      ") x.issns y.issns ++ (line_text texts_cmp same (codes "title     ") x.titles y.titles ++ (line_text texts_cmp same (codes "name      ") x.names y.names ++ (line_text texts_cmp same (codes "date      ") x.dates y.dates ++ (line_text texts_cmp same (codes "type      ") x.types y.types)))))) control
    (behind c.add_control.new.text.items c.add_line.new.text.items c.add_line-6.new.text.items (line_text texts_cmp same (codes "ISBN      ") x.isbns y.isbns) (line_text texts_cmp same (codes "ISSN      ") x.issns y.issns ++ (line_text texts_cmp same (codes "title     ") x.titles y.titles ++ (line_text texts_cmp same (codes "name      ") x.names y.names ++ (line_text texts_cmp same (codes "date      ") x.dates y.dates ++ (line_text texts_cmp same (codes "type      ") x.types y.types))))) c.in_ok-add_line.ensures
    (behind c.add_line.new.text.items c.add_line-2.new.text.items c.add_line-6.new.text.items (line_text texts_cmp same (codes "ISSN      ") x.issns y.issns) (line_text texts_cmp same (codes "title     ") x.titles y.titles ++ (line_text texts_cmp same (codes "name      ") x.names y.names ++ (line_text texts_cmp same (codes "date      ") x.dates y.dates ++ (line_text texts_cmp same (codes "type      ") x.types y.types)))) c.in_ok-add_line-2.ensures
    (behind c.add_line-2.new.text.items c.add_line-3.new.text.items c.add_line-6.new.text.items (line_text texts_cmp same (codes "title     ") x.titles y.titles) (line_text texts_cmp same (codes "name      ") x.names y.names ++ (line_text texts_cmp same (codes "date      ") x.dates y.dates ++ (line_text texts_cmp same (codes "type      ") x.types y.types))) c.in_ok-add_line-3.ensures
    (behind c.add_line-3.new.text.items c.add_line-4.new.text.items c.add_line-6.new.text.items (line_text texts_cmp same (codes "name      ") x.names y.names) (line_text texts_cmp same (codes "date      ") x.dates y.dates ++ (line_text texts_cmp same (codes "type      ") x.types y.types)) c.in_ok-add_line-4.ensures
    (behind c.add_line-4.new.text.items c.add_line-5.new.text.items c.add_line-6.new.text.items (line_text texts_cmp same (codes "date      ") x.dates y.dates) (line_text texts_cmp same (codes "type      ") x.types y.types) c.in_ok-add_line-5.ensures
    (c.in_ok-add_line-6.ensures))))))
