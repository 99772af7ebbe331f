-- What a run did, by the job that its words are known to ask for.
use Rattle.std.proofs.Common.{◌≡◌, ◌∙◌, List, ℕ, ap, refl, subst, sym, inl, inr}
use Rattle.std.specs.Prelude.{Option, Some, None, IfSome, ◌↔◌, ◌⊎◌}
use Rattle.std.specs.Option.{option_map}
use Rattle.union_words.specs.Flows.{ShelfFlow, Outflow}
use Rattle.union_words.specs.Meanings.{job_meaning}
use Rattle.union_words.specs.Words.{Job, Check, ToJson, FromJson, Export, Works, Watch, Follow, Script, Trial, Help, Version}
use Rattle.union_words.specs.declared.job.Job.{Job as JobInPlace}
use Rattle.union_words.specs.declared.status.Status.{Status}
use Rattle.union_words.specs.declared.status.Status.TheVariants.{Usage}
use Rattle.union_files.specs.Openings.{OpensInTurn}
use Rattle.union_program.specs.Jobs.{loaded_files, Does, DoesAsked, HasDone}

module _ {help version : List ℕ} {unopened : Type 0} {shelf : ShelfFlow} {out notes : Outflow} {status : Status} {listed_before listed_after : List (List ℕ)} where
  -- what the run of the job that was read did, by the words that it was read from
  pub has_read : {read : Option JobInPlace} {job : JobInPlace} {words : Option Job} → option_map job_meaning read ≡ words → read ≡ Some job
      → DoesAsked help version unopened shelf out notes status listed_before listed_after (Some (job_meaning job)) → HasDone help version unopened shelf out notes status listed_before listed_after words
  has_read means is does = record { does = subst (DoesAsked help version unopened shelf out notes status listed_before listed_after) (sym (ap (option_map job_meaning) is) ∙ means) does }

  pub has_none : {read : Option JobInPlace} {words : Option Job} → option_map job_meaning read ≡ words → read ≡ None
      → DoesAsked help version unopened shelf out notes status listed_before listed_after None → HasDone help version unopened shelf out notes status listed_before listed_after words
  has_none means is does = record { does = subst (DoesAsked help version unopened shelf out notes status listed_before listed_after) (sym (ap (option_map job_meaning) is) ∙ means) does }

  -- what the run did, where the words ask for this job
  pub does_job : {words : Option Job} {job : Job} → HasDone help version unopened shelf out notes status listed_before listed_after words → words ≡ Some job
      → Does help version unopened shelf out notes status listed_before listed_after job
  does_job has is = (subst (DoesAsked help version unopened shelf out notes status listed_before listed_after) is has.does).1

  -- or where they are in no form
  pub does_none : {words : Option Job} → HasDone help version unopened shelf out notes status listed_before listed_after words → words ≡ None
      → DoesAsked help version unopened shelf out notes status listed_before listed_after None
  does_none has is = subst (DoesAsked help version unopened shelf out notes status listed_before listed_after) is has.does

  -- the words are in no form exactly where that is how it ended
  pub usage_words : {words : Option Job} → HasDone help version unopened shelf out notes status listed_before listed_after words → (status ≡ Usage) ↔ (words ≡ None)
  usage_words {words = None} has = (λ is. refl, λ is. has.does.0)
  usage_words {words = Some job} has = (λ is. absurd (has.does.0 is), λ is. cc)

  -- the shelf was left alone where the words name no file
  pub unopened_words : {words : Option Job} → HasDone help version unopened shelf out notes status listed_before listed_after words
      → (words ≡ None) ⊎ ((words ≡ Some Help) ⊎ (words ≡ Some Version)) → unopened
  unopened_words has (inl is) = (does_none has is).1.1
  unopened_words has (inr (inl is)) = (does_job has is).1
  unopened_words has (inr (inr is)) = (does_job has is).1

  -- the files that it loads were opened in their order
  pub opens_job : {words : Option Job} (job : Job) → HasDone help version unopened shelf out notes status listed_before listed_after words
      → words ≡ Some job → IfSome (loaded_files job) (λ files. OpensInTurn shelf.files status files listed_before listed_after)
  opens_job (Export form loading) has is = (does_job has is).1
  opens_job (Works loading) has is = (does_job has is).1
  opens_job (Watch asks loading) has is = (does_job has is).1
  opens_job (Follow asks libraries) has is = (does_job has is).1
  opens_job (Check file) has is = tt
  opens_job (ToJson file) has is = tt
  opens_job (FromJson file) has is = tt
  opens_job (Script path) has is = tt
  opens_job (Trial seed count workers) has is = tt
  opens_job Help has is = tt
  opens_job Version has is = tt
