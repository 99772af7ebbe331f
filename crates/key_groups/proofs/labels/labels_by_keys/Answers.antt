use Rattle.std.proofs.Common.{get_or, length, map, ap, arith}
use Rattle.key_groups.proofs.Labelling.{pairs_within, values_joined, pairs_joined}
use Rattle.key_groups.proofs.labels.labels_by_keys.Goals as goal

pub labels_by_pairs-requires : goal.labels_by_pairs-requires
labels_by_pairs-requires g c = λ p cp.
    let within = pairs_within c.args.list.items (map (λ part. part.items) c.in_ok-list.notes.items) c.in_ok-pairs.pairs.items c.in_ok-list.ensures.noted c.in_ok-pairs.ensures p cp in
    let size = ap length c.in_ok-list.ensures.list in
    (omega (arith, within.0, size, c.len-2.ensures, c.in_ok-list.list.ok.0), omega (arith, within.1, size, c.len-2.ensures, c.in_ok-list.list.ok.0))

pub returns-clause-joined : goal.returns-clause-joined
returns-clause-joined g c =
    values_joined c.args.list.items (map (λ part. part.items) c.in_ok-list.notes.items) c.in_ok-pairs.pairs.items c.in_ok-list.ensures.noted c.in_ok-pairs.ensures
    (λ i. get_or c.in_ok-labels.labels.items i 0) c.in_ok-labels.ensures.joined

pub returns-clause-only : goal.returns-clause-only
returns-clause-only g c = λ label joins.
    c.in_ok-labels.ensures.only label
    (pairs_joined c.args.list.items (map (λ part. part.items) c.in_ok-list.notes.items) c.in_ok-pairs.pairs.items c.in_ok-list.ensures.noted c.in_ok-pairs.ensures label joins)
