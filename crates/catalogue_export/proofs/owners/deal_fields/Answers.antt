use Rattle.std.proofs.Common.{◌≡◌, ◌∙◌, ◌++◌, ◌∷◌, [], true, false, take, sym, ap, append_assoc}
use Rattle.std.specs.List.{flat_map}
use Rattle.catalogue_editions.specs.Borrowed.{fields_of}
use Rattle.catalogue_export.specs.Exported.{field_of}
use Rattle.catalogue_export.specs.Holdings.{kept_field, marked_field}
use Rattle.catalogue_export.specs.Owners.{is_marked, owned_body}
use Rattle.catalogue_export.proofs.AddedFields.{added}
use Rattle.catalogue_export.proofs.DealtLaws.{kept-same, kept-more, marked-same, marked-more}
use Rattle.catalogue_export.proofs.owners.deal_fields.Goals as goal
use Rattle.catalogue_export.proofs.owners.deal_fields.Goals.{then-is_marked+in_ok-with_owner+in_ok-push, else-is_marked+in_ok-push-2}

pub loop-field-preserved : goal.loop-field-preserved
loop-field-preserved c =
    let library = c.args.library.now in
    let fields = c.args.united.now in
    let i = c.loop-field.field-index in
    let f = c.field-item.result in
    let within = c.loop-field-test.true in
    let at = c.field-item.is in
    let so = c.loop-field.invariant in
    let kept = c.reserve.new.self.items in
    let test = ap (λ code. is_marked code f) (sym c.bytes-code.ensures.value) ∙ sym c.is_marked.ensures in
    elim c.if-is_marked.branch [
      | then-is_marked+in_ok-with_owner+in_ok-push w ↦
          (let yes : is_marked library f ≡ true = test ∙ w.if-is_marked.true in
          let made = ap (λ code. field_of f.tag (owned_body code f.body)) (sym c.bytes-code.ensures.value) ∙ w.in_ok-with_owner.ensures in
          record {
            kept = rw (w.kept-is, kept-same library fields i f within at yes) so.kept;
            marked = rw (w.marked-is, w.in_ok-push.ensures.items, so.marked, marked-more library fields i f within at yes w.in_ok-with_owner.field-0 made)
                (append_assoc c.args.marked.now.items (flat_map (marked_field library) (take i fields)) (w.in_ok-with_owner.field-0 ∷ []));
          })
      | else-is_marked+in_ok-push-2 w ↦
          (let no : is_marked library f ≡ false = test ∙ w.if-is_marked.false in
          record {
            kept = rw w.kept-is
                (added c.loop-field.kept.items _ _ w.in_ok-push-2.ensures.items ∙ ap (λ fs. fs ++ f ∷ []) so.kept
                ∙ rw (kept-more library fields i f within at no) (append_assoc (fields_of kept) (flat_map (kept_field library) (take i fields)) (f ∷ [])));
            marked = rw (w.marked-is, marked-same library fields i f within at no) so.marked;
          })
    ]
