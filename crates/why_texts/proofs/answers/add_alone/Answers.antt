use Rattle.std.proofs.Common.{◌++◌}
use Rattle.std.specs.Prelude.{codes}
use Rattle.why_texts.specs.Answers.{size_text, alone_text}
use Rattle.why_texts.specs.Ids.{id_text}
use Rattle.why_texts.specs.Steps.{steps_text}
use Rattle.why_texts.proofs.TextLaws.{behind}
use Rattle.why_texts.proofs.answers.add_alone.Goals as goal

pub returns : goal.returns
unfolding alone_text
returns c =
    let e = c.args.edition.now in
    behind c.args.text.now.items c.add_id.new.text.items c.add_steps.new.text.items (id_text c.args.id.now) (codes ": an edition of " ++ (size_text e ++ (codes "\n" ++ (steps_text c.args.told.now.records.now 1 c.args.told.now.steps.now)))) c.in_ok-add_id.ensures
    (behind c.add_id.new.text.items c.extend_from_slice.new.self.items c.add_steps.new.text.items (codes ": an edition of ") (size_text e ++ (codes "\n" ++ (steps_text c.args.told.now.records.now 1 c.args.told.now.steps.now))) c.in_ok-extend_from_slice.ensures.items
    (behind c.extend_from_slice.new.self.items c.add_size.new.text.items c.add_steps.new.text.items (size_text e) (codes "\n" ++ (steps_text c.args.told.now.records.now 1 c.args.told.now.steps.now)) c.in_ok-add_size.ensures
    (behind c.add_size.new.text.items c.extend_from_slice-2.new.self.items c.add_steps.new.text.items (codes "\n") (steps_text c.args.told.now.records.now 1 c.args.told.now.steps.now) c.in_ok-extend_from_slice-2.ensures.items
    (c.in_ok-add_steps.ensures))))
