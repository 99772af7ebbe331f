use Rattle.std.specs.Prelude.{Err}
use Rattle.marc_fields.specs.Rules.{first_failure, head_failure, parts_failure, texts_of, data_in}
use Rattle.marc_fields.specs.Rows.{Answers}
use Rattle.marc_fields.specs.Spelling.{Spells}
use Rattle.marc_fields.proofs.DecodingLaws.{refusal-of, refusal-first, Answers-later}
use Rattle.marc_fields.proofs.NoFailure.{refuses-unspelled}
use Rattle.marc_fields.proofs.decoding.decode.Goals as goal

pub returns-in-Ok : goal.returns-in-Ok
unfolding first_failure
returns-in-Ok c =
    let frame = c.args.frame.now in
    let answers : Answers c.decode_behind.result (first_failure frame) (λ found. Spells frame found)
    = Answers-later c.decode_behind.result _ _ _ _ c.in-Ok.ensures.0 (λ value is. is) c.decode_behind.ensures in
    record { answer = answers; refused = refuses-unspelled c.decode_behind.result frame answers }

pub returns-in-Err : goal.returns-in-Err
unfolding first_failure
returns-in-Err c =
    let frame = c.args.frame.now in
    let refusal = c.from.result in
    let head = refusal-of refusal c.in-Err.failure (head_failure frame) c.from.ensures c.in-Err.ensures in
    let names = refusal-first refusal (head_failure frame) (parts_failure (texts_of frame) (data_in frame)) head in
    record { answer = names; refused = refuses-unspelled (Err refusal) frame names }
