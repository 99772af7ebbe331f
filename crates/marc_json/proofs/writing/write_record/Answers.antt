use Rattle.std.proofs.Common.{◌≡◌, ◌++◌, sym, ap, ◌∙◌}
use Rattle.std.proofs.lemmas.Result.{on_ok_weaker}
use Rattle.marc_json.specs.Tokens.{value_tokens}
use Rattle.marc_json.proofs.TokenLaws.{joined, fields_tokens, record_tokens}
use Rattle.marc_json.proofs.writing.write_record.Goals as goal

pub returns : goal.returns
unfolding value_tokens
returns c =
    let old = c.args.rec.now in
    let start = c.args.out.now.tokens in
    let fields : c.write_fields.new.out.tokens ≡ c.begin_array.new.self.tokens ++ fields_tokens old.fields =
    c.in_ok-write_fields.ensures.ok ∙ ap (λ fields. c.begin_array.new.self.tokens ++ fields_tokens fields) c.as_slice.ensures in
    let e2 = joined start c.begin_object.new.self.tokens c.key.new.self.tokens _ _ c.in_ok-begin_object.ensures.ok c.in_ok-key.ensures.ok in
    let e3 = joined start c.key.new.self.tokens c.begin_array.new.self.tokens _ _ e2 c.in_ok-begin_array.ensures.ok in
    let e4 = joined start c.begin_array.new.self.tokens c.write_fields.new.out.tokens _ _ e3 fields in
    let e5 = joined start c.write_fields.new.out.tokens c.end_array.new.self.tokens _ _ e4 c.in_ok-end_array.ensures.ok in
    let behind = c.end_array.new.self.tokens in
    let f2 = joined behind c.key-2.new.self.tokens c.write_codes.new.out.tokens _ _ c.in_ok-key-2.ensures.ok c.in_ok-write_codes.ensures.ok in
    record {
      ok = on_ok_weaker c.end_object.result
          (λ e. joined start behind c.end_object.new.self.tokens _ _ e5 (joined behind c.write_codes.new.out.tokens c.end_object.new.self.tokens _ _ f2 e)
          ∙ ap (λ l. start ++ l) (sym (record_tokens old)))
          c.end_object.ensures.ok;
      before =
          c.end_object.ensures.room.0 ∙ c.in_ok-write_codes.ensures.before ∙ c.in_ok-key-2.ensures.room.0 ∙ c.in_ok-end_array.ensures.room.0 ∙ c.in_ok-write_fields.ensures.before
          ∙ c.in_ok-begin_array.ensures.room.0 ∙ c.in_ok-key.ensures.room.0 ∙ c.in_ok-begin_object.ensures.room.0;
    }
