use Rattle.std.proofs.Common.{◌≡◌, [], ◌∷◌, ap, ◌∙◌}
use Rattle.std.specs.Str.{is_utf8}
use Rattle.union_base.specs.Bodies.{Subfield}
use Rattle.marc_json.proofs.TextLaws.{code_text}
use Rattle.marc_json.proofs.writing.write_subfield.Goals as goal

pub as_text-requires : goal.as_text-requires
as_text-requires c =
    let same : c.subfield.inside.code ≡ c.args.subfield.now.code = ap (λ (s : Subfield). s.code) c.subfield.view_is in
    ap (λ b. is_utf8 (b ∷ [])) same ∙ code_text c.args.subfield.now c.requires.formed
