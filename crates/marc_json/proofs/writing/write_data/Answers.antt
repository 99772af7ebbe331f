use Rattle.std.proofs.Common.{◌≡◌, [], ◌∷◌, ◌++◌, sym, ap, ◌∙◌}
use Rattle.std.proofs.lemmas.Result.{on_ok_weaker}
use Rattle.json.specs.Token.{string}
use Rattle.marc_json.proofs.TextLaws.{indicator_text}
use Rattle.marc_json.proofs.TokenLaws.{joined, data_tokens}
use Rattle.marc_json.proofs.writing.write_data.Goals as goal

pub as_text-requires : goal.as_text-requires
as_text-requires c = indicator_text c.args.ind1 c.requires.ind1

pub as_text-requires-2 : goal.as_text-requires-2
as_text-requires-2 c = indicator_text c.args.ind2 c.requires.ind2

pub returns : goal.returns
returns c =
    let old = c.args.out.now.tokens in
    let ind1 : c.string.new.self.tokens ≡ c.key.new.self.tokens ++ string (c.args.ind1 ∷ []) ∷ [] =
    c.in_ok-string.ensures.ok ∙ ap (λ s. c.key.new.self.tokens ++ string s ∷ []) c.as_text.ensures in
    let ind2 : c.string-2.new.self.tokens ≡ c.key-2.new.self.tokens ++ string (c.args.ind2 ∷ []) ∷ [] =
    c.in_ok-string-2.ensures.ok ∙ ap (λ s. c.key-2.new.self.tokens ++ string s ∷ []) c.as_text-2.ensures in
    let e2 = joined old c.begin_object.new.self.tokens c.key.new.self.tokens _ _ c.in_ok-begin_object.ensures.ok c.in_ok-key.ensures.ok in
    let e3 = joined old c.key.new.self.tokens c.string.new.self.tokens _ _ e2 ind1 in
    let e4 = joined old c.string.new.self.tokens c.key-2.new.self.tokens _ _ e3 c.in_ok-key-2.ensures.ok in
    let e5 = joined old c.key-2.new.self.tokens c.string-2.new.self.tokens _ _ e4 ind2 in
    let e6 = joined old c.string-2.new.self.tokens c.key-3.new.self.tokens _ _ e5 c.in_ok-key-3.ensures.ok in
    let e7 = joined old c.key-3.new.self.tokens c.begin_array.new.self.tokens _ _ e6 c.in_ok-begin_array.ensures.ok in
    let e8 = joined old c.begin_array.new.self.tokens c.write_subfields.new.out.tokens _ _ e7 c.in_ok-write_subfields.ensures.ok in
    let e9 = joined old c.write_subfields.new.out.tokens c.end_array.new.self.tokens _ _ e8 c.in_ok-end_array.ensures.ok in
    record {
      ok = on_ok_weaker c.end_object.result (λ e. joined old c.end_array.new.self.tokens c.end_object.new.self.tokens _ _ e9 e ∙ ap (λ l. old ++ l) (sym (data_tokens c.args.ind1 c.args.ind2 c.args.subfields))) c.end_object.ensures.ok;
      before =
          c.end_object.ensures.room.0 ∙ c.in_ok-end_array.ensures.room.0 ∙ c.in_ok-write_subfields.ensures.before ∙ c.in_ok-begin_array.ensures.room.0 ∙ c.in_ok-key-3.ensures.room.0
          ∙ c.in_ok-string-2.ensures.room.0 ∙ c.in_ok-key-2.ensures.room.0 ∙ c.in_ok-string.ensures.room.0 ∙ c.in_ok-key.ensures.room.0 ∙ c.in_ok-begin_object.ensures.room.0;
    }
