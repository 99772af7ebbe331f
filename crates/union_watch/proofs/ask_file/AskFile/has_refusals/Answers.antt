use Rattle.std.proofs.Common.{sym}
use Rattle.std.specs.Result.{is_err}
use Rattle.union_watch.specs.AskLines.{line_meaning}
use Rattle.union_watch.proofs.AskLaws.{any-map}
use Rattle.union_watch.proofs.ask_file.AskFile.has_refusals.Goals as goal

pub returns : goal.returns
returns c =
    rw (c.has_refused.ensures, c.as_slice.ensures.value) (sym (any-map is_err line_meaning c.args.self.now.lines.items))
