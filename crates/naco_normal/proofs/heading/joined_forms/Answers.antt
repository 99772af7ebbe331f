use Rattle.std.proofs.Common.{◌≡◌, true, false, eqb, ℕ, List, sym, ap, subst, ◌∙◌, ◌||◌, IsUtf8}
use Rattle.std.proofs.lemmas.List.Elements.{All-head, All-rest, All-same}
use Rattle.std.specs.List.{list_any}
use Rattle.union_base.specs.Bodies.{Subfield}
use Rattle.naco_normal.specs.Heading.{main_code}
use Rattle.naco_normal.specs.Parts.{parts_of, subfield_form}
use Rattle.naco_normal.specs.Words.{joined}
use Rattle.naco_normal.proofs.WordsLemmas.{joined-nil, joined_assoc}
use Rattle.naco_normal.proofs.PartsLemmas.{parts_of-chosen, parts_of-other}
use Rattle.naco_normal.proofs.heading.joined_forms.Goals as goal

pub loop-subfield-init : goal.loop-subfield-init
loop-subfield-init c =
    let same = c.into_iter-subfield-iterator.ensures.into_iter_gives in
    let parts = parts_of c.args.first false c.args.codes.now in
    record {
      form = ap (λ form. joined form (parts c.into_iter-subfield-iterator.result)) c.in_ok-form.ensures.items ∙ (joined-nil (parts c.into_iter-subfield-iterator.result) ∙ ap parts same);
      texts = All-same (λ (s : Subfield). IsUtf8 s.text) _ _ same c.requires;
    }

pub loop-subfield-preserved-then-not-contains : goal.loop-subfield-preserved-then-not-contains
loop-subfield-preserved-then-not-contains c =
    let steps = c.in-Some.ensures.steps in
    let code = ap (λ (s : Subfield). s.code) c.subfield.view_is in
    let none : list_any (λ code. eqb code c.subfield.inside.code) c.args.codes.now ≡ false = cc (c.contains.ensures.value, c.if-not-contains.true) in
    let other = subst (λ k. list_any (λ code. eqb code k) c.args.codes.now ≡ false) code none in
    let parts = parts_of c.args.first c.loop-subfield.seen c.args.codes.now in
    record {
      form = ap (joined c.loop-subfield.form.items) (sym (ap parts steps ∙ parts_of-other c.args.first c.loop-subfield.seen c.args.codes.now c.in-Some.subfield c.next.new.self other))
          ∙ c.loop-subfield.invariant.form;
      texts = All-rest (λ (s : Subfield). IsUtf8 s.text) c.in-Some.subfield c.next.new.self _ steps c.loop-subfield.invariant.texts;
    }

pub append_subfield-requires : goal.append_subfield-requires
append_subfield-requires c =
    let texts = λ (s : Subfield). IsUtf8 s.text in
    All-head texts c.in-Some.subfield c.next.new.self (All-same texts _ _ (sym c.in-Some.ensures.steps) c.loop-subfield.invariant.texts)

pub loop-subfield-preserved : goal.loop-subfield-preserved
loop-subfield-preserved c =
    let steps = c.in-Some.ensures.steps in
    let code = ap (λ (s : Subfield). s.code) c.subfield.view_is in
    let some : list_any (λ code. eqb code c.subfield.inside.code) c.args.codes.now ≡ true = cc (c.contains.ensures.value, c.if-not-contains.false) in
    let chosen = subst (λ k. list_any (λ code. eqb code k) c.args.codes.now ≡ true) code some in
    let parts = parts_of c.args.first c.loop-subfield.seen c.args.codes.now in
    let behind : ℕ → List ℕ = λ k. parts_of c.args.first (c.loop-subfield.seen || eqb k main_code) c.args.codes.now c.next.new.self in
    let form = subfield_form c.args.first c.loop-subfield.seen c.in-Some.subfield in
    record {
      form = ap (λ form. joined form (behind c.subfield.inside.code)) c.in_ok-append_subfield.ensures
          ∙ (ap (λ k. joined (joined c.loop-subfield.form.items form) (behind k)) code
          ∙ (joined_assoc c.loop-subfield.form.items form (behind c.in-Some.subfield.code)
          ∙ (ap (joined c.loop-subfield.form.items) (sym (ap parts steps ∙ parts_of-chosen c.args.first c.loop-subfield.seen c.args.codes.now c.in-Some.subfield c.next.new.self chosen))
          ∙ c.loop-subfield.invariant.form)));
      texts = All-rest (λ (s : Subfield). IsUtf8 s.text) c.in-Some.subfield c.next.new.self _ steps c.loop-subfield.invariant.texts;
    }
