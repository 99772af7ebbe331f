use Rattle.std.proofs.Common.{arith, refl}
use Rattle.marc_json.proofs.ShapeLaws.{first_wrong}
use Rattle.marc_json.proofs.reading.fields_in.Goals as goal

pub returns-in-None-clause-refused : goal.returns-in-None-clause-refused
returns-in-None-clause-refused c =
    let none = rw c.in-None.is at c.in_ok-field.ensures in
    first_wrong c.loop-at.fields.items c.args.items.now c.loop-at.at c.index-items-at.result (omega arith) c.index-items-at.is c.loop-at.invariant (λ f e. none f refl e)
