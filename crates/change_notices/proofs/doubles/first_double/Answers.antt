use Rattle.std.proofs.Common.{◌≡◌, List, length, take, refl, sym, ap, subst, ◌∙◌, arith}
use Rattle.std.specs.BTreeSet.{contains}
use Rattle.std.specs.List.{list_any}
use Rattle.std.proofs.lemmas.Option.{slice_get_read}
use Rattle.union_base.specs.declared.record_id.RecordId.{RecordId}
use Rattle.union_base.specs.RecordIds.{id_cmp}
use Rattle.catalogue_editions.specs.declared.edition.Edition.{Edition}
use Rattle.change_notices.proofs.DoubleLaws.{bears, Looked, sees-more, taken-more, looked-stop, looked-more, looked-all}
use Rattle.change_notices.proofs.doubles.first_double.Goals as goal

pub loop-edition-preserved : goal.loop-edition-preserved
loop-edition-preserved c =
    λ q.
    let i = c.loop-edition.edition-index in
    let e = c.edition-item.result in
    sees-more (λ q. contains id_cmp c.loop-edition.seen q) (λ q. contains id_cmp c.add_contributors.new.seen q) (take i c.args.staying.now) e c.loop-edition.invariant
    c.in_ok-add_contributors.ensures q
    ∙ ap (λ (xs : List Edition). list_any (bears q) xs) (sym (taken-more c.args.staying.now i e c.loop-edition-test.true c.edition-item.is))

pub returns-then-has_seen : goal.returns-then-has_seen
returns-then-has_seen c =
    let opened = c.args.opened.now in
    let at = c.loop-at.at in
    let e = c.index-opened-at.result in
    looked-stop (λ q. contains id_cmp c.loop-at.seen q) c.args.staying.now opened at c.loop-at.invariant e
    (slice_get_read opened (length opened) at e refl c.loop-at-test.true c.index-opened-at.is) (sym c.has_seen.ensures ∙ c.if-has_seen.true)

pub loop-at-preserved : goal.loop-at-preserved
loop-at-preserved c =
    let opened = c.args.opened.now in
    let at = c.loop-at.at in
    let e = c.index-opened-at.result in
    looked-more (λ q. contains id_cmp c.loop-at.seen q) c.args.staying.now opened at c.loop-at.invariant e
    (slice_get_read opened (length opened) at e refl c.loop-at-test.true c.index-opened-at.is) (λ q. contains id_cmp c.add_contributors-in-loop-at.new.seen q)
    (sym c.has_seen.ensures ∙ c.if-has_seen.false) c.in_ok-add_contributors-2.ensures

pub returns : goal.returns
returns c =
    let seen = λ (q : RecordId). contains id_cmp c.loop-at.seen q in
    let all : c.loop-at.at ≡ length c.args.opened.now = omega (arith, c.loop-at-test.false, c.loop-at.auto.at-end) in
    looked-all seen c.args.staying.now c.args.opened.now (subst (λ n. Looked seen c.args.staying.now c.args.opened.now n) all c.loop-at.invariant)
