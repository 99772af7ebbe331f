use Rattle.std.proofs.Common.{◌++◌, ◌∙◌, ap}
use Rattle.std.specs.Prelude.{option_to_list}
use Rattle.snapshot_desk.proofs.publisher.Publisher.publish_next.Goals as goal

pub returns-clause-moved : goal.returns-clause-moved
returns-clause-moved g c = (
  c.unwrap-entry.result,
  rw (← c.self.view_is) (c.pop_front.ensures.items ∙ ap (λ next. option_to_list next ++ c.pop_front.new.self.items) c.unwrap-entry.ensures),
  rw (← c.self.view_is) c.logged-reached.ensures.log,
)
