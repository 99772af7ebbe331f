-- Replies over a longer history.
use Rattle.std.proofs.Common.{◌≡◌, ℕ, ◌+◌, ◌≤◌, List, [], ◌∷◌, ◌++◌, length, take, sym, ap, subst, ◌∙◌, arith}
use Rattle.std.proofs.lemmas.List.{take-append-le}
use Rattle.authority_names.specs.Leads.{Table}
use Rattle.catalogue_editions.specs.declared.batch.Batch.{Batch}
use Rattle.catalogue_lock.specs.History.{IsPrefix}
use Rattle.catalogue_query.specs.declared.answer.Answer.{Answer}
use Rattle.catalogue_query.specs.declared.query.Query.{Query}
use Rattle.catalogue_query.specs.Replies.{Replied, tells}

abbrev Entries : Type 0
Entries = List (ℕ × Batch)

pub replied_over : (names : Table) (seen history : Entries) (low known : ℕ) (questions : List Query) (replies : List (ℕ × Answer)) → IsPrefix seen history → low ≤ known
    → Replied names seen known questions replies → Replied names history low questions replies
replied_over names seen history low known [] [] follows least replied = tt
replied_over names seen history low known [] (reply ∷ replies) follows least replied = absurd replied
replied_over names seen history low known (question ∷ questions) [] follows least replied = tt
replied_over names seen history low known (question ∷ questions) (reply ∷ replies) follows least replied =
    let within : reply.0 ≤ length seen = replied.1 in
    let whole : take reply.0 seen ≡ take reply.0 history = sym (take-append-le reply.0 seen follows.0 within) ∙ ap (take reply.0) follows.1 in (
      omega (arith, replied.0),
      omega (arith, within, ap length follows.1, length_both seen follows.0),
      subst (λ entries. tells names entries question reply.1) whole replied.2,
      replied_over names seen history reply.0 reply.0 questions replies follows (omega arith) replied.3,
    )
  where
    length_both : (xs ys : Entries) → length (xs ++ ys) ≡ length xs + length ys
    length_both [] ys = omega arith
    length_both (x ∷ xs) ys = omega (arith, length_both xs ys)
