-- no two values of a resolution match
use Rattle.merge_tests.proofs.swoosh_halves_tests.both_by.Goals as goal

pub resolve_both-requires-clause-one : goal.resolve_both-requires-clause-one
resolve_both-requires-clause-one g c = c.resolution_is_apart.ensures _ c.in_ok-one.one.items c.in_ok-one.ensures.resolved

pub resolve_both-requires-clause-other : goal.resolve_both-requires-clause-other
resolve_both-requires-clause-other g c = c.resolution_is_apart.ensures _ c.in_ok-other.other.items c.in_ok-other.ensures.resolved
