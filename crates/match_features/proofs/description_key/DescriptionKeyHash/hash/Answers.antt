use Rattle.std.proofs.Common.{◌≡◌, ℕ, ◌+◌, List, ◌++◌, take, drop, sym, ap, ◌∙◌}
use Rattle.std.proofs.lemmas.List.{take-append-drop}
use Rattle.std.proofs.Math.Seq.{take-add}
use Rattle.match_features.proofs.description_key.DescriptionKeyHash.hash.Goals as goal

-- the three parts of a text are the text
whole : (n m : ℕ) (text : List ℕ) → text ≡ take n text ++ take m (drop n text) ++ drop (n + m) text
whole n m text = sym (take-append-drop (n + m) text) ∙ ap (λ front. front ++ drop (n + m) text) (take-add n m text)

pub returns : goal.returns
returns g c = c.write.ensures ∙ ap (g.H.Hasher.write c.args.state.now) (c.bytes.ensures ∙ whole c.self.inside.cut 4 c.self.inside.text ∙ ap (λ (k : List ℕ × List ℕ × List ℕ). k.0 ++ k.1 ++ k.2) c.self.view_is)
