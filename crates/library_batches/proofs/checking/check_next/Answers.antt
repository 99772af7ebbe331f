use Rattle.library_batches.proofs.CheckedLaws.{IsChecked-accepted, IsChecked-refused}
use Rattle.library_batches.proofs.checking.check_next.Goals as goal

pub returns-in_ok-push-in-Ok-clause-checked : goal.returns-in_ok-push-in-Ok-clause-checked
returns-in_ok-push-in-Ok-clause-checked c = λ start taken before place checked.
    IsChecked-accepted c.args.origin.now.prefer.now c.args.origin.now.library.now start taken (c.args.cut, c.args.frame.now) c.args.ops.now.items c.push.new.self.items before c.args.refused.now.items
    _ c.in_ok-asked-in-Ok.asked c.in-Ok.ensures.first.0 c.in-Ok.ensures.first.1 c.in_ok-asked-in-Ok.ensures.value c.in_ok-asked-in-Ok.ensures.own
    c.in_ok-push-in-Ok.ensures.items checked

pub returns-in_ok-push-in-Err-Rule-clause-checked : goal.returns-in_ok-push-in-Err-Rule-clause-checked
returns-in_ok-push-in-Err-Rule-clause-checked c = λ start taken before place checked.
    IsChecked-refused c.args.origin.now.prefer.now c.args.origin.now.library.now start c.args.origin.now.number taken (c.args.cut, c.args.frame.now) c.args.ops.now.items before c.args.refused.now.items
    c.push-in-Err-Rule.new.self.items (record { rule = c.in-Err-Rule.rule; place = c.in-Err-Rule.place })
    (rw c.in-Err-Rule.field-0-is at c.in-Err-Rule.ensures.first) place
    (cc c.in_ok-push-in-Err-Rule.ensures.items) checked
