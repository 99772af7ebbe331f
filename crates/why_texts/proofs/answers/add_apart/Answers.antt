use Rattle.std.proofs.Common.{◌≡◌, ◌++◌}
use Rattle.std.specs.Prelude.{codes}
use Rattle.why_texts.specs.Answers.{size_text, pair_text, apart_text}
use Rattle.why_texts.specs.Differences.{differences_text}
use Rattle.why_texts.proofs.TextLaws.{behind}
use Rattle.why_texts.proofs.answers.add_apart.Goals as goal

pub returns : goal.returns
unfolding apart_text
returns c =
    let x = c.args.x.now in
    let y = c.args.y.now in
    let differences : c.add_differences.new.text.items ≡ c.extend_from_slice-3.new.self.items ++ differences_text x.features y.features =
    rw (c.features.ensures, c.features-2.ensures) at c.in_ok-add_differences.ensures
    in
    behind c.args.text.now.items c.add_pair.new.text.items c.add_differences.new.text.items (pair_text c.args.one.now c.args.other.now) (codes ": two editions (" ++ (size_text x ++ (codes ", " ++ (size_text y ++ (codes ")\n" ++ (differences_text x.features y.features)))))) c.in_ok-add_pair.ensures
    (behind c.add_pair.new.text.items c.extend_from_slice.new.self.items c.add_differences.new.text.items (codes ": two editions (") (size_text x ++ (codes ", " ++ (size_text y ++ (codes ")\n" ++ (differences_text x.features y.features))))) c.in_ok-extend_from_slice.ensures.items
    (behind c.extend_from_slice.new.self.items c.add_size.new.text.items c.add_differences.new.text.items (size_text x) (codes ", " ++ (size_text y ++ (codes ")\n" ++ (differences_text x.features y.features)))) c.in_ok-add_size.ensures
    (behind c.add_size.new.text.items c.extend_from_slice-2.new.self.items c.add_differences.new.text.items (codes ", ") (size_text y ++ (codes ")\n" ++ (differences_text x.features y.features))) c.in_ok-extend_from_slice-2.ensures.items
    (behind c.extend_from_slice-2.new.self.items c.add_size-2.new.text.items c.add_differences.new.text.items (size_text y) (codes ")\n" ++ (differences_text x.features y.features)) c.in_ok-add_size-2.ensures
    (behind c.add_size-2.new.text.items c.extend_from_slice-3.new.self.items c.add_differences.new.text.items (codes ")\n") (differences_text x.features y.features) c.in_ok-extend_from_slice-3.ensures.items
    (differences))))))
