use Rattle.std.proofs.Common.{◌≡◌, ℕ, List, [], ◌∷◌, ◌++◌, sym, ap, subst, ◌∙◌}
use Rattle.std.specs.Prelude.{Option}
use Rattle.iso2709_frame.specs.declared.cut.Cut.{Cut}
use Rattle.library_stream.specs.Streaming.{Streaming, opened}
use Rattle.library_stream.specs.Answering.{Takes}
use Rattle.library_stream.proofs.AheadLaws.{Takes-more, handed_all}
use Rattle.record_tests.proofs.library_stream_tests.frames_of.Goals as goal

-- a frame that was handed out and is kept after the others
kept_behind : (a b c : Streaming) (one two three : Option (List ℕ)) (cuts cuts' : List (Cut × List ℕ)) (cut : Cut) (kept : List ℕ)
    → Takes a one b two cuts → Takes b two c three ((cut, c.frame) ∷ []) → kept ≡ c.frame → cuts' ≡ cuts ++ (cut, kept) ∷ []
    → Takes a one c three cuts'
kept_behind a b c one two three cuts cuts' cut kept so_far takes same pushed =
    subst (λ all. Takes a one c three all) (sym (pushed ∙ ap (λ frame. cuts ++ (cut, frame) ∷ []) same))
    (Takes-more a b c one two three cuts ((cut, c.frame) ∷ []) so_far takes)

pub loop-cut-preserved : goal.loop-cut-preserved
loop-cut-preserved g c =
    let left = g.S.Source.left in
    kept_behind (opened c.args.limit) c.loop-cut.reader c.next.new.self (left c.args.source.now) (left c.loop-cut.source) (left c.next.new.source)
    c.loop-cut.cuts.items c.push.new.self.items c.in-Frame.cut c.in_ok-of-in-Frame.field-0 c.loop-cut.invariant c.in-Frame.ensures.answers
    (c.in_ok-of-in-Frame.ensures ∙ c.frame.ensures) c.in_ok-push-in-Frame.ensures.items

pub returns-in-End-clause-all : goal.returns-in-End-clause-all
returns-in-End-clause-all g c =
    let left = g.S.Source.left in
    λ _. handed_all c.args.limit c.loop-cut.reader c.next.new.self (left c.args.source.now) (left c.loop-cut.source) (left c.next.new.source)
    c.loop-cut.cuts.items c.loop-cut.invariant c.in-End.ensures.answers
