use Rattle.std.proofs.Common.{◌≡◌, None, Some, drop, length, ◌∙◌, ap}
use Rattle.std.specs.Prelude.{slice_set}
use Rattle.std.proofs.lemmas.List.{get_or-set_other, get_or-set_same}
use Rattle.swoosh_resolver.specs.Tables.{places_at}
use Rattle.swoosh_resolver.proofs.Putting.{posted-over, rest-absent, rest-once, rest-rows, starts-within}
use Rattle.swoosh_resolver.proofs.install.put.Goals as goal

pub places_from-requires : goal.places_from-requires
places_from-requires g c =
    let blocks = c.args.blocks.now.items in
    let n = c.args.number in
    let kept : c.kept_at-kept.result ≡ length (places_at blocks n) = c.kept_at-kept.ensures ∙ ap (λ bs. length (places_at bs n)) c.as_slice.ensures.value in
    rw kept (starts-within g.R.Resolvable.is_posted blocks c.args.postings.now c.requires.posted n c.requires.standing c.args.placed c.requires.placed c.requires.starts)

pub post-requires-clause-rows : goal.post-requires-clause-rows
post-requires-clause-rows g c =
    let blocks = c.args.blocks.now.items in
    let old = c.args.postings.now in
    let n = c.args.number in
    let x = c.args.placed in
    let posted = c.requires.posted in
    let is : c.places_from.result.now ≡ drop (length (places_at blocks n)) x.keys =
    c.places_from.ensures ∙ ap (λ kept. drop kept x.keys) (c.kept_at-kept.ensures ∙ ap (λ bs. length (places_at bs n)) c.as_slice.ensures.value) in
    rw is (rest-rows g.R.Resolvable.is_posted blocks old posted n c.requires.standing x c.requires.placed c.requires.starts)

pub post-requires-clause-once : goal.post-requires-clause-once
post-requires-clause-once g c =
    let blocks = c.args.blocks.now.items in
    let old = c.args.postings.now in
    let n = c.args.number in
    let x = c.args.placed in
    let posted = c.requires.posted in
    let is : c.places_from.result.now ≡ drop (length (places_at blocks n)) x.keys =
    c.places_from.ensures ∙ ap (λ kept. drop kept x.keys) (c.kept_at-kept.ensures ∙ ap (λ bs. length (places_at bs n)) c.as_slice.ensures.value) in
    rw is (rest-once g.R.Resolvable.is_posted blocks old posted n c.requires.standing x c.requires.placed c.requires.starts)

pub post-requires-clause-room : goal.post-requires-clause-room
post-requires-clause-room g c =
    let blocks = c.args.blocks.now.items in
    let old = c.args.postings.now in
    let n = c.args.number in
    let x = c.args.placed in
    let posted = c.requires.posted in
    let is : c.places_from.result.now ≡ drop (length (places_at blocks n)) x.keys =
    c.places_from.ensures ∙ ap (λ kept. drop kept x.keys) (c.kept_at-kept.ensures ∙ ap (λ bs. length (places_at bs n)) c.as_slice.ensures.value) in
    rw is c.requires.room

pub post-requires-clause-absent : goal.post-requires-clause-absent
post-requires-clause-absent g c =
    let blocks = c.args.blocks.now.items in
    let old = c.args.postings.now in
    let n = c.args.number in
    let x = c.args.placed in
    let posted = c.requires.posted in
    let is : c.places_from.result.now ≡ drop (length (places_at blocks n)) x.keys =
    c.places_from.ensures ∙ ap (λ kept. drop kept x.keys) (c.kept_at-kept.ensures ∙ ap (λ bs. length (places_at bs n)) c.as_slice.ensures.value) in
    rw is (rest-absent g.R.Resolvable.is_posted blocks old posted n c.requires.standing x c.requires.placed c.requires.starts)

pub returns-clause-posted : goal.returns-clause-posted
returns-clause-posted g c =
    let blocks = c.args.blocks.now.items in
    let old = c.args.postings.now in
    let n = c.args.number in
    let x = c.args.placed in
    let posted = c.requires.posted in
    let is : c.places_from.result.now ≡ drop (length (places_at blocks n)) x.keys =
    c.places_from.ensures ∙ ap (λ kept. drop kept x.keys) (c.kept_at-kept.ensures ∙ ap (λ bs. length (places_at bs n)) c.as_slice.ensures.value) in
    let long = c.lengthen.new.blocks.items in
    posted-over g.R.Resolvable.is_posted blocks old posted n c.requires.standing x c.requires.placed c.requires.starts c.post.new.postings (slice_set long n (Some x)) (rw is at c.post.ensures.numbers)
    (get_or-set_same long n (Some x) None c.lengthen.ensures.within) (λ m ne. get_or-set_other long n m (Some x) None ne ∙ c.lengthen.ensures.blocks m)
