use Rattle.std.proofs.Common.{◌≡◌, ◌+◌, ◌<◌, ◌∙◌, false, true, length-set, sym, ap, arith, take, get_or, length, Some, None}
use Rattle.std.proofs.Math.ListN.{set}
use Rattle.std.proofs.lemmas.List.{get_or_default}
use Rattle.marc_leader.specs.declared.entry.Entry.{Entry}
use Rattle.marc_rules.specs.RequiredFields.{class_of, number_of, repeats, no_entry}
use Rattle.marc_rules.proofs.RequiredLaws.{repeated-later, seen-set, seen-same, repeats-class, repeats-none, AreMarks}
use Rattle.marc_rules.proofs.required_fields.first_repeated.Goals as goal
use Rattle.marc_rules.proofs.required_fields.first_repeated.Goals.{in-Some+else-seen-number, in_default}

pub loop-i-preserved : goal.loop-i-preserved
loop-i-preserved c =
    let entries = c.args.entries.now in
    let i = c.loop-i.i in
    let e : Entry = get_or entries i no_entry in
    let is : e ≡ get_or entries i e = get_or_default entries i no_entry e c.loop-i-test.true in
    elim c.match-class_of_tag.branch [
      | in-Some+else-seen-number w ↦
          let class = w.in-Some.class in
          let of : class_of e.tag ≡ Some class = sym c.class_of_tag.ensures ∙ w.in-Some.is in
          let number = w.number_of-number.ensures.value in
          let room : number_of class < length c.loop-i.seen = omega (arith, number, w.number_of-number.ensures.few, c.loop-i.invariant.size) in
          let unseen : get_or c.loop-i.seen (number_of class) false ≡ false
          = ap (λ n. get_or c.loop-i.seen n false) (sym number) ∙ w.if-seen-number.false in
          let new : repeats (take i entries) e ≡ false = repeats-class (take i entries) e class of ∙ (sym (c.loop-i.invariant.seen class) ∙ unseen) in
          let marks : AreMarks (set c.loop-i.seen (number_of class) true) (take (i + 1) entries)
          = seen-set entries i e c.loop-i.seen class c.loop-i-test.true is of room c.loop-i.invariant.seen in
          record {
            size = ap length w.seen-is ∙ (length-set c.loop-i.seen w.number_of-number.result true ∙ c.loop-i.invariant.size);
            row = c.loop-i.invariant.row ∙ repeated-later entries i e c.loop-i-test.true is new;
            seen = λ k. ap (λ seen. get_or seen (number_of k) false) (w.seen-is ∙ ap (λ n. set c.loop-i.seen n true) number) ∙ marks k;
          }
      | in_default w ↦
          let none : class_of e.tag ≡ None = sym c.class_of_tag.ensures ∙ w.in_default.is in
          record {
            size = ap length w.seen-is ∙ c.loop-i.invariant.size;
            row = c.loop-i.invariant.row ∙ repeated-later entries i e c.loop-i-test.true is (repeats-none (take i entries) e none);
            seen = λ k. ap (λ seen. get_or seen (number_of k) false) w.seen-is ∙ seen-same entries i e c.loop-i.seen c.loop-i-test.true is none c.loop-i.invariant.seen k;
          }
    ]
