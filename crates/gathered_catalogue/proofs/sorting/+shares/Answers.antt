use Rattle.std.proofs.Common.{◌≡◌, ◌++◌, List, map, sym, subst, ap, ap₂, ◌∙◌}
use Rattle.std.specs.List.Sorted.{IsPermutation}
use Rattle.std.proofs.lemmas.List.{take-append-drop, map-append}
use Rattle.std.proofs.lemmas.List.Sorted.{IsPermutation-append, IsPermutation-map, IsPermutation-trans}
use Rattle.std.proofs.lemmas.Result.{IfOk-at_ok, IfOk-weaker}
use Rattle.catalogue_editions.specs.declared.edition.Edition.{Edition}
use Rattle.gathered_catalogue.specs.declared.sorting.Named.{Named}
use Rattle.gathered_catalogue.proofs.sorting.+shares.Goals as goal

-- the editions behind the copies
abbrev editions : List Named → List Edition
editions all = map (λ n. n.edition) all

-- a share is that of the editions, sorted
pub returns-then-workers-eq1-clause-same : goal.returns-then-workers-eq1-clause-same
returns-then-workers-eq1-clause-same g t c =
    IfOk-weaker c.in_order.result (λ sorted. IsPermutation c.in_ok-all_named.field-0.items sorted.items) _
    (λ sorted same. subst (λ list. IsPermutation list (editions sorted.items)) c.in_ok-all_named.ensures
    (IsPermutation-map (λ (n : Named). n.edition) c.in_ok-all_named.field-0.items sorted.items same))
    c.in_order.ensures.same

-- the shares of both halves are the editions
pub returns-clause-same : goal.returns-clause-same
returns-clause-same g t c =
    let list = c.args.editions.items in
    let front = c.split_off.new.self.items in
    let back = c.in_ok-back.back.items in
    let one = c.in_ok-both.both.items in
    let other = c.in_ok-more.more.items in
    let both = c.append.new.self.items in
    let whole : front ++ back ≡ list = ap₂ ◌++◌ c.in_ok-back.ensures.items c.in_ok-back.ensures.tail ∙ take-append-drop _ list in
    let joined : editions both ≡ editions one ++ editions other = ap editions c.in_ok-append.ensures.items ∙ map-append (λ (n : Named). n.edition) one other in
    let shares = subst (λ all. IsPermutation all (editions one ++ editions other)) whole
    (IsPermutation-append front (editions one) back (editions other)
    (IfOk-at_ok (λ found. IsPermutation front (editions found.items)) {r = c.join-one.result.0} c.in_ok-both.was c.join-one.ensures.first)
    (IfOk-at_ok (λ found. IsPermutation back (editions found.items)) {r = c.join-one.result.1} c.in_ok-more.was c.join-one.ensures.second)) in
    IfOk-weaker c.in_order-2.result (λ sorted. IsPermutation both sorted.items) _
    (λ sorted same. IsPermutation-trans list (editions both) (editions sorted.items) (subst (λ all. IsPermutation list all) (sym joined) shares)
    (IsPermutation-map (λ (n : Named). n.edition) both sorted.items same))
    c.in_order-2.ensures.same
