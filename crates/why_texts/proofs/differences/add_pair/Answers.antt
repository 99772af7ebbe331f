use Rattle.std.proofs.Common.{◌≡◌, ◌++◌}
use Rattle.std.specs.Prelude.{codes}
use Rattle.why_texts.proofs.TextLaws.{behind}
use Rattle.why_texts.proofs.differences.add_pair.Goals as goal

pub returns : goal.returns
returns c =
    let pair = c.args.pair.now in
    let source : c.extend_from_slice-2.new.self.items ≡ c.extend_from_slice.new.self.items ++ pair.0 =
    rw c.bytes.ensures at c.in_ok-extend_from_slice-2.ensures.items
    in
    let number : c.extend_from_slice-4.new.self.items ≡ c.extend_from_slice-3.new.self.items ++ pair.1 =
    rw c.bytes-2.ensures at c.in_ok-extend_from_slice-4.ensures.items
    in
    behind c.args.text.now.items c.extend_from_slice.new.self.items c.extend_from_slice-5.new.self.items (codes "control   same: (") (pair.0 ++ (codes ")" ++ (pair.1 ++ (codes "\n")))) c.in_ok-extend_from_slice.ensures.items
    (behind c.extend_from_slice.new.self.items c.extend_from_slice-2.new.self.items c.extend_from_slice-5.new.self.items (pair.0) (codes ")" ++ (pair.1 ++ (codes "\n"))) source
    (behind c.extend_from_slice-2.new.self.items c.extend_from_slice-3.new.self.items c.extend_from_slice-5.new.self.items (codes ")") (pair.1 ++ (codes "\n")) c.in_ok-extend_from_slice-3.ensures.items
    (behind c.extend_from_slice-3.new.self.items c.extend_from_slice-4.new.self.items c.extend_from_slice-5.new.self.items (pair.1) (codes "\n") number
    (c.in_ok-extend_from_slice-5.ensures.items))))
