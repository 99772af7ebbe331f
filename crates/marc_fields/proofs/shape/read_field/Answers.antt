use Rattle.std.proofs.Common.{sym, ap, subst, refl, ◌∙◌}
use Rattle.std.proofs.lemmas.Bool.{and_from}
use Rattle.union_base.specs.Fields.{fits_tag, spelled}
use Rattle.union_base.specs.Readings.{body_in, IsSpelling}
use Rattle.marc_fields.proofs.ShapeLaws.{shaped-spelled}
use Rattle.marc_fields.proofs.shape.read_field.Goals as goal

pub spelled_by-requires : goal.spelled_by-requires
spelled_by-requires c =
    subst IsSpelling (sym c.in_ok-spelling.ensures) (shaped-spelled c.args.tag c.args.bytes.now c.requires.inner c.requires.shaped).0

pub invariant_of-result : goal.invariant_of-result
invariant_of-result c =
    let read = c.spelled_by.ensures ∙ ap body_in c.in_ok-spelling.ensures in
    let fits = ap (fits_tag c.args.tag) read ∙ (shaped-spelled c.args.tag c.args.bytes.now c.requires.inner c.requires.shaped).1 in
    record { well_formed = and_from _ _ c.requires.tag fits }

pub returns : goal.returns
returns c =
    let read = c.spelled_by.ensures ∙ ap body_in c.in_ok-spelling.ensures in
    record {
      shaped = c.requires.shaped;
      tagged = refl;
      spelled = ap spelled read ∙ (shaped-spelled c.args.tag c.args.bytes.now c.requires.inner c.requires.shaped).0;
    }
