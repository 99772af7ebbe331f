use Rattle.std.proofs.Common.{◌≡◌, ◌+◌, ◌-◌, ◌∙◌, sym, arith, length}
use Rattle.marc_fields.specs.Rules.{entry_texts, has_digits, has_tag}
use Rattle.marc_fields.specs.Spelling.{entry_bytes}
use Rattle.marc_fields.proofs.DecodingLaws.{refusal-of}
use Rattle.marc_fields.proofs.DirectoryLaws.{row-later, entry-read, spelled-more, are-more, formed-more, directory_failure-from, directory-read}
use Rattle.marc_fields.proofs.ReadingLaws.{is_tag-read}
use Rattle.marc_fields.proofs.directory.check_directory.Goals as goal

pub loop-i-preserved : goal.loop-i-preserved
unfolding entry_bytes
loop-i-preserved c =
    let n = c.args.count - c.loop-i.i in
    let m = c.args.count - (c.loop-i.i + 1) in
    let text = c.split_at.result.0.now in
    let later = c.split_at.result.1.now in
    let rest = c.loop-i.rest.now in
    let old = c.loop-i.entries.items in
    let new = c.push.new.self.items in
    let e = c.in-Ok.entry in
    let read = entry-read text e c.in-Ok.ensures.value in
    let front = c.split_at.ensures.front in
    let back = c.split_at.ensures.back in
    let twelve : length text ≡ 12 = c.split_at.ensures.front_len in
    let more = c.in_ok-push-in-Ok.ensures.items in
    record {
      size = omega (arith, c.split_at.ensures.back_len, c.loop-i.invariant.size);
      digits = c.loop-i.invariant.digits ∙ row-later has_digits c.loop-i.i n m rest text later (omega arith) (omega arith) front back read.0;
      tags = c.loop-i.invariant.tags ∙ row-later has_tag c.loop-i.i n m rest text later (omega arith) (omega arith) front back read.1;
      spelled = spelled-more c.args.directory.now rest text later old new e c.loop-i.invariant.spelled front back c.in-Ok.ensures.spelled more;
      are = are-more _ n m rest text later old new e (omega arith) (omega arith) front back read.2 c.loop-i.invariant.are more;
      formed = formed-more old new e c.loop-i.invariant.formed (is_tag-read text e twelve (sym c.in-Ok.ensures.value) c.in-Ok.ensures.tag) c.in-Ok.ensures.length more;
    }

pub returns-in-Err : goal.returns-in-Err
returns-in-Err c =
    let inv = c.loop-i.invariant in
    let same = directory_failure-from (entry_texts c.args.count c.args.directory.now) (entry_texts (c.args.count - c.loop-i.i) c.loop-i.rest.now) (c.loop-i.i + 1) inv.digits inv.tags in
    refusal-of c.from.result c.failure_at.result _ c.from.ensures (sym same ∙ c.failure_at.ensures)

pub returns : goal.returns
returns c =
    let inv = c.loop-i.invariant in
    directory-read c.args.directory.now c.loop-i.rest.now c.args.count (c.args.count - c.loop-i.i) (c.loop-i.i + 1) c.loop-i.entries.items (omega arith) inv.size
    inv.digits inv.tags inv.spelled inv.are inv.formed
