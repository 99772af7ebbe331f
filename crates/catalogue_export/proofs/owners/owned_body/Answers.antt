use Rattle.std.proofs.Common.{◌≡◌, ◌++◌, ◌∷◌, [], sym, ap, ◌∙◌, append_assoc}
use Rattle.union_base.specs.Fields.{is_field, spelled}
use Rattle.union_base.specs.Readings.{body_in}
use Rattle.catalogue_export.specs.Owners.{owned_body}
use Rattle.catalogue_export.proofs.OwnedLaws.{owned-spelled, owned-read, owned-formed}
use Rattle.catalogue_export.proofs.owners.owned_body.Goals as goal

pub spelled_by-requires : goal.spelled_by-requires
spelled_by-requires c =
    let f = c.args.field.now in
    let library = c.args.library.now in
    let first = c.in_ok-extend_from_slice.ensures.items ∙ (ap (λ l. l ++ c.spelling.result.now) c.clear.ensures.items ∙ c.spelling.ensures) in
    let second = c.in_ok-extend_from_slice-2.ensures.items ∙ ap (λ l. l ++ 0x1F ∷ 0x35 ∷ []) first in
    let third = c.in_ok-extend_from_slice-3.ensures.items ∙ ap (λ l. l ++ library) second ∙ append_assoc (spelled f.body) (0x1F ∷ 0x35 ∷ []) library in
    let bytes : c.in_ok-of.field-0 ≡ spelled (owned_body library f.body) = c.in_ok-of.ensures ∙ (c.as_slice.ensures.value ∙ (third ∙ sym (owned-spelled f c.requires.local library))) in
    ap (λ b. spelled (body_in b)) bytes ∙ (ap spelled (owned-read f c.requires.local library c.requires.code) ∙ sym bytes)

pub returns-clause-value : goal.returns-clause-value
returns-clause-value c =
    let f = c.args.field.now in
    let library = c.args.library.now in
    let first = c.in_ok-extend_from_slice.ensures.items ∙ (ap (λ l. l ++ c.spelling.result.now) c.clear.ensures.items ∙ c.spelling.ensures) in
    let second = c.in_ok-extend_from_slice-2.ensures.items ∙ ap (λ l. l ++ 0x1F ∷ 0x35 ∷ []) first in
    let third = c.in_ok-extend_from_slice-3.ensures.items ∙ ap (λ l. l ++ library) second ∙ append_assoc (spelled f.body) (0x1F ∷ 0x35 ∷ []) library in
    let bytes : c.in_ok-of.field-0 ≡ spelled (owned_body library f.body) = c.in_ok-of.ensures ∙ (c.as_slice.ensures.value ∙ (third ∙ sym (owned-spelled f c.requires.local library))) in
    c.spelled_by.ensures ∙ (ap body_in bytes ∙ owned-read f c.requires.local library c.requires.code)

pub returns-clause-formed : goal.returns-clause-formed
returns-clause-formed c =
    let f = c.args.field.now in
    let library = c.args.library.now in
    let first = c.in_ok-extend_from_slice.ensures.items ∙ (ap (λ l. l ++ c.spelling.result.now) c.clear.ensures.items ∙ c.spelling.ensures) in
    let second = c.in_ok-extend_from_slice-2.ensures.items ∙ ap (λ l. l ++ 0x1F ∷ 0x35 ∷ []) first in
    let third = c.in_ok-extend_from_slice-3.ensures.items ∙ ap (λ l. l ++ library) second ∙ append_assoc (spelled f.body) (0x1F ∷ 0x35 ∷ []) library in
    let bytes : c.in_ok-of.field-0 ≡ spelled (owned_body library f.body) = c.in_ok-of.ensures ∙ (c.as_slice.ensures.value ∙ (third ∙ sym (owned-spelled f c.requires.local library))) in
    ap (is_field f.tag) (c.spelled_by.ensures ∙ (ap body_in bytes ∙ owned-read f c.requires.local library c.requires.code)) ∙ owned-formed f c.requires.local library c.requires.code
