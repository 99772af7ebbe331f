use Rattle.swoosh_resolver.proofs.numbers.seats.Goals as goal

pub numbers_for-requires-clause-distinct : goal.numbers_for-requires-clause-distinct
numbers_for-requires-clause-distinct g c = rw c.as_slice.ensures.value c.in_ok-vacated.ensures.distinct

pub numbers_for-requires-clause-old : goal.numbers_for-requires-clause-old
numbers_for-requires-clause-old g c n there = c.requires.old n (c.in_ok-vacated.ensures.members n (rw c.as_slice.ensures.value at there))

pub numbers_for-requires-clause-stood : goal.numbers_for-requires-clause-stood
numbers_for-requires-clause-stood g c n stood = (c.requires.stood n stood, λ there. c.in_ok-vacated.ensures.free n (rw c.as_slice.ensures.value at there) stood)

pub returns-clause-given : goal.returns-clause-given
returns-clause-given g c = rw c.as_slice.ensures.value at c.in_ok-numbers.ensures
