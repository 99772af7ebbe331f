use Rattle.std.proofs.Common.{◌∙◌, ap, slice_index_or, slice_set}
use Rattle.match_features.specs.KeyLists.{title_alone}
use Rattle.match_features.proofs.TitledLaws.{one-more}
use Rattle.match_features.proofs.keys.make_titles_alone.Goals as goal

pub loop-key-preserved : goal.loop-key-preserved
loop-key-preserved c =
    let i = c.loop-key.key-index in
    let key = c.key-item.result in
    ap (λ new. slice_set c.loop-key.key-items i new) c.make_title_alone.ensures ∙
    ap (λ keys. slice_set keys i (title_alone (slice_index_or keys i key))) c.loop-key.invariant ∙
    one-more c.deref_mut-key-items.result.now i key c.loop-key-test.true
