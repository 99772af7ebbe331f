use Rattle.std.proofs.Common.{◌≡◌, false, sym, ap, ◌∙◌}
use Rattle.std.specs.Prelude.{is_some}
use Rattle.std.specs.List.{list_any}
use Rattle.iso2709_frame.specs.Frames.{is_terminator}
use Rattle.library_stream.proofs.StepLaws.{taken_whole}
use Rattle.library_stream.proofs.frame_reader.cut_unread.Goals as goal

pub returns-clause-none : goal.returns-clause-none
returns-clause-none c =
    λ none. let open_text : false ≡ list_any is_terminator c.unread.result.now = ap is_some (sym none) ∙ c.feed-taken.ensures.cut in
    c.skip.ensures ∙ rw c.unread.ensures at (taken_whole c.unread.result.now c.feed-taken.result.0 c.feed-taken.ensures.taken open_text)
