use Rattle.std.proofs.Common.{[], ◌∷◌, ◌++◌, ◌+◌, length, sym, ap, subst, ◌∙◌}
use Rattle.std.proofs.lemmas.List.{length_push}
use Rattle.library_batches.specs.Streams.{accepted, AreSpelled}
use Rattle.union_files.proofs.FrameLaws.{accepted-one_more, refused-accepted_more}
use Rattle.union_json.proofs.WrittenLaws.{json_text-more, spelled-more}
use Rattle.union_json.specs.ToJson.{json_text}
use Rattle.union_json.proofs.written.Written.accept.Goals as goal

pub returns-clause-counted : goal.returns-clause-counted
returns-clause-counted c =
    λ frame is all before.
    let r = is.1.0 in
    let one_more = accepted-one_more all frame is.0 in
    record {
      records = before.records ++ r ∷ [];
      spelled = subst (λ frames. AreSpelled frames (before.records ++ r ∷ [])) (sym one_more)
          (spelled-more (accepted all) before.records frame.1 r before.spelled is.1.1);
      lines = c.in_ok-add.ensures ∙ ap (λ t. t ++ c.args.line.now) before.lines ∙ ap (λ t. json_text before.records ++ t) is.1.2
          ∙ sym (json_text-more before.records r);
      frames = ap (λ n. n + 1) before.frames ∙ sym (length_push all frame);
      written = ap (λ n. n + 1) before.written ∙ sym (ap length one_more ∙ length_push (accepted all) frame.1);
      refused = before.refused ∙ sym (refused-accepted_more all frame is.0);
    }
