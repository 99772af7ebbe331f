-- How replies go on.
use Rattle.std.proofs.Common.{◌≡◌, ℕ, ◌≤◌, List, [], ◌∷◌, ◌++◌, length, take, append_assoc, append-nil, sym, ap, subst, ◌∙◌, arith, length-append}
use Rattle.std.proofs.Math.Seq.{take-append_seam}
use Rattle.authority_names.specs.Leads.{Table}
use Rattle.catalogue_editions.specs.declared.batch.Batch.{Batch}
use Rattle.catalogue_lock.specs.History.{IsPrefix}
use Rattle.catalogue_query.specs.declared.answer.Answer.{Answer}
use Rattle.catalogue_query.specs.declared.query.Query.{Query}
use Rattle.catalogue_query.specs.Replies.{Replied, tells}

-- whatever the replies to the questions that are left come to be, over any history that goes on, with these before them they are
-- the replies to all
pub record Leads (names : Table) (known : ℕ) (questions : List Query) (told : List (ℕ × Answer)) (now : ℕ) (seen : List (ℕ × Batch)) (left : List Query) : Type 0 where
  pub on : (history : List (ℕ × Batch)) (more : List (ℕ × Answer)) → IsPrefix seen history → Replied names history now left more
      → Replied names history known questions (told ++ more)

pub Leads-none : (names : Table) (known : ℕ) (questions : List Query) (told : List (ℕ × Answer)) (seen : List (ℕ × Batch)) → told ≡ []
    → Leads names known questions told known seen questions
Leads-none names known questions told seen none =
    record { on = λ history more follows replied. subst (λ xs. Replied names history known questions (xs ++ more)) (sym none) replied }

pub IsPrefix-more : (xs ys zs : List (ℕ × Batch)) → IsPrefix xs ys → IsPrefix ys zs → IsPrefix xs zs
IsPrefix-more xs ys zs one two =
    (one.0 ++ two.0, sym (append_assoc xs one.0 two.0) ∙ (ap (λ front. front ++ two.0) one.1 ∙ two.1))

pub IsPrefix-same : (xs : List (ℕ × Batch)) → IsPrefix xs xs
IsPrefix-same xs = ([], append-nil xs)

pub Leads-more : (names : Table) (known : ℕ) (questions : List Query) (told : List (ℕ × Answer)) (now later : ℕ) (seen seen' : List (ℕ × Batch)) (question : Query)
    (left : List Query) (reply : ℕ × Answer) → Leads names known questions told now seen (question ∷ left) → IsPrefix seen seen' → now ≤ reply.0
    → reply.0 ≡ length seen' → later ≡ reply.0 → tells names seen' question reply.1 → Leads names known questions (told ++ reply ∷ []) later seen' left
Leads-more names known questions told now later seen seen' question left reply leads follows above is floor says = record {
  on = λ history more goes_on replied.
      let whole : take reply.0 history ≡ seen' =
      ap (λ n. take n history) is ∙ ap (take (length seen')) (sym goes_on.1) ∙ take-append_seam seen' goes_on.0 in
      let within : reply.0 ≤ length history = omega (arith, is, ap length goes_on.1, length-append seen' goes_on.0) in
      subst (Replied names history known questions) (sym (append_assoc told (reply ∷ []) more))
      (leads.on history (reply ∷ more) (IsPrefix-more seen seen' history follows goes_on)
      (above, within, subst (λ entries. tells names entries question reply.1) (sym whole) says, subst (λ n. Replied names history n left more) floor replied));
}

Replied-none : (names : Table) (history : List (ℕ × Batch)) (known : ℕ) (questions : List Query) → Replied names history known questions []
Replied-none names history known [] = tt
Replied-none names history known (question ∷ questions) = tt

-- no more replies come
pub Leads-ends : (names : Table) (known : ℕ) (questions : List Query) (told : List (ℕ × Answer)) (now : ℕ) (seen history : List (ℕ × Batch)) (left : List Query)
    → Leads names known questions told now seen left → IsPrefix seen history → Replied names history known questions told
Leads-ends names known questions told now seen history left leads follows =
    subst (Replied names history known questions) (append-nil told) (leads.on history [] follows (Replied-none names history now left))
