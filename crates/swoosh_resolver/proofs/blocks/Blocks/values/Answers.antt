use Rattle.std.proofs.Common.{◌≡◌, ℕ, ◌+◌, ◌<◌, ◌++◌, ◌∷◌, [], List, Bor, length, get_or, take, sym, ap, subst, ◌∙◌}
use Rattle.std.specs.Prelude.{Option}
use Rattle.std.proofs.lemmas.List.{map-append, take_more, append-nil}
use Rattle.std.proofs.lemmas.List.Elements.{filter_map-append}
use Rattle.swoosh_resolver.specs.Tables.{Entry, blocks_in, values_of}
use Rattle.swoosh_resolver.proofs.blocks.Blocks.values.Goals as goal
use Rattle.swoosh_resolver.proofs.blocks.Blocks.values.Goals.{in-Some+in_ok-push, in_default}

-- with one number more
values-more : {R K : Type 0} (blocks : List (Option (Entry R K))) (i : ℕ) (b : Option (Entry R K)) → i < length blocks → b ≡ get_or blocks i b
    → values_of (blocks_in (take (i + 1) blocks)) ≡ values_of (blocks_in (take i blocks)) ++ values_of (blocks_in (b ∷ []))
values-more blocks i b within is =
    ap (λ bs. values_of (blocks_in bs)) (take_more blocks i b within)
    ∙ ap values_of (filter_map-append (λ b. b) (take i blocks) (get_or blocks i b ∷ []))
    ∙ map-append (λ e. e.value) (blocks_in (take i blocks)) (blocks_in (get_or blocks i b ∷ []))
    ∙ ap (λ x. values_of (blocks_in (take i blocks)) ++ values_of (blocks_in (x ∷ []))) (sym is)

pub loop-block-preserved : goal.loop-block-preserved
loop-block-preserved g c =
    let blocks = c.args.self.now.blocks in
    let i = c.loop-block.block-index in
    let b = c.block-item.result in
    let same = c.as_slice-block-items.ensures.value ∙ ap (λ v. v.blocks) c.self.view_is in
    let more = subst (λ bs. values_of (blocks_in (take (i + 1) bs)) ≡ values_of (blocks_in (take i bs)) ++ values_of (blocks_in (b ∷ []))) same
    (values-more c.as_slice-block-items.result.now i b c.loop-block-test.true c.block-item.is) in
    elim c.match-block.branch [
      | in-Some+in_ok-push w ↦
          rw w.found-is (rw w.in_ok-push.ensures.items (
          map-append (λ (r : Bor g.row.R.Denot). r.now) c.loop-block.found.items _
          ∙ ap (λ l. l ++ w.placed.inside.value ∷ []) c.loop-block.invariant
          ∙ ap (λ e. values_of (blocks_in (take i blocks)) ++ e.value ∷ []) w.placed.view_is
          ∙ ap (λ b. values_of (blocks_in (take i blocks)) ++ values_of (blocks_in (b ∷ []))) (sym w.in-Some.is)
          ∙ sym more))
      | in_default w ↦
          rw w.found-is (c.loop-block.invariant ∙ sym (append-nil _)
          ∙ ap (λ b. values_of (blocks_in (take i blocks)) ++ values_of (blocks_in (b ∷ []))) (sym w.in_default.is)
          ∙ sym more)
    ]
