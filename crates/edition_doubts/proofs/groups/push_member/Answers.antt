use Rattle.std.proofs.Common.{refl, arith}
use Rattle.edition_doubts.proofs.PlacingLaws.{pairs-put, pairs-past}
use Rattle.edition_doubts.specs.declared.groups.Group.{Group}
use Rattle.edition_doubts.proofs.groups.push_member.Goals as goal

pub returns-in_ok-push : goal.returns-in_ok-push
returns-in_ok-push c =
    let old = c.index_mut.result.now in
    let new : Group = record { edition = old.edition; members = c.push.new.self } in
    pairs-put c.args.groups.now.items c.args.place old new c.args.rec (omega arith) c.index_mut.ensures.value refl c.in_ok-push.ensures.items

pub returns-else-place-len : goal.returns-else-place-len
returns-else-place-len c = pairs-past c.args.groups.now.items c.args.place c.args.rec (omega arith)
