use Rattle.std.proofs.Common.{◌≡◌, ◌^◌, ◌<◌, length, rules, arith, ap, ◌∙◌}
use Rattle.std.proofs.lemmas.Grind.{common_steps}
use Rattle.marc_leader.specs.Entry.{entry_text, entry_of}
use Rattle.marc_leader.proofs.EntryLaws.{entry_of-entry_text}
use Rattle.marc_leader.proofs.entry.write_entry.Goals as goal

pub returns-clause-read : goal.returns-clause-read
returns-clause-read c = λ tag.
    let text : c.copy_from_slice.new.self ≡ entry_text c.args.entry.now = grind (arith, common_steps) in
    let three : length c.args.entry.now.tag ≡ 3 = search rules in
    let small : c.args.entry.now.length < 10 ^ 4 = omega arith in
    let low : c.args.entry.now.start < 10 ^ 5 = omega arith in
    ap entry_of text ∙ entry_of-entry_text c.args.entry.now three tag small low
