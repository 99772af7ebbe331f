use Rattle.std.proofs.Common.{◌≡◌, ◌+◌, ◌≤◌, ℕ, List, [], ◌∷◌, ◌++◌, length, sym, ap, ◌∙◌, arith, length-append}
use Rattle.std.proofs.lemmas.Option.{IfSome_then}
use Rattle.iso2709_frame.specs.declared.cut.Cut.{Cut}
use Rattle.iso2709_frame.specs.Frames.{frames}
use Rattle.library_stream.specs.Streaming.{opened}
use Rattle.library_stream.specs.Answering.{AllHanded}
use Rattle.library_stream.proofs.AheadLaws.{Takes-more, handed_all}
use Rattle.record_tests.proofs.library_stream_tests.count_frames.Goals as goal

pub loop-count-preserved : goal.loop-count-preserved
loop-count-preserved g c =
    let so_far = c.loop-count.invariant in
    let left = g.S.Source.left in
    let frame : List (Cut × List ℕ) = (c.in-Frame.field-0, c.next.new.self.frame) ∷ [] in
    record {
      name = c.in-Frame.ensures.name ∙ so_far.name;
      faults = c.in-Frame.ensures.faults ∙ so_far.faults;
      handed = so_far.handed ++ frame;
      takes = Takes-more (opened c.args.limit) c.loop-count.reader c.next.new.self (left c.args.source.now) (left c.loop-count.source)
          (left c.next.new.source) so_far.handed frame so_far.takes c.in-Frame.ensures.answers;
      count = length-append so_far.handed frame ∙ ap (λ n. n + 1) so_far.count;
      bound = omega (arith, so_far.bound, c.in-Frame.ensures.fewer);
    }

-- as many frames as were counted
counted : (limit count : ℕ) (bytes : List ℕ) (handed : List (Cut × List ℕ)) → length handed ≡ count → AllHanded limit bytes handed
    → (length bytes ≤ limit) × (count ≡ length (frames bytes))
counted limit count bytes handed so_many all = (all.fits, sym so_many ∙ ap length (sym all.all))

pub returns-in-End-clause-all : goal.returns-in-End-clause-all
returns-in-End-clause-all g c =
    let so_far = c.loop-count.invariant in
    let left = g.S.Source.left in
    λ _. IfSome_then (left c.args.source.now)
    (handed_all c.args.limit c.loop-count.reader c.next.new.self (left c.args.source.now) (left c.loop-count.source) (left c.next.new.source)
    so_far.handed so_far.takes c.in-End.ensures.answers)
    (λ bytes all. counted c.args.limit c.loop-count.count bytes so_far.handed so_far.count all)
