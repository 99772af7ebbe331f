-- What a pass that asks leaves at the desk.
use Rattle.std.specs.Prelude.{◌≡◌, ℕ, List, [], ◌∷◌, ◌++◌, length, Vec}
use Rattle.std.specs.Global.{Global}
use Rattle.authority_names.specs.Leads.{Table}
use Rattle.catalogue_editions.specs.declared.batch.Batch.{Batch}
use Rattle.catalogue_lock.specs.Ended.{Ended}
use Rattle.catalogue_lock.specs.Tokens.{view}
use Rattle.catalogue_lock.specs.declared.view.View.{View}
use Rattle.catalogue_query.specs.declared.answer.Answer.{Answer}
use Rattle.catalogue_query.specs.declared.query.Query.{Query}
use Rattle.catalogue_query.specs.Replies.{AreReplies, Replied}
use Rattle.load_sessions.specs.declared.asker.Asker.{Asker}
use Rattle.load_sessions.specs.declared.end.End.TheVariants.{Done}
use Rattle.load_sessions.specs.declared.watched.Watched.{Watched}

-- what the pass of an asker leaves at the desk
abbrev pub left_by : Asker → Ended Batch
left_by asker = record { number = (view asker.pass).number; own = (view asker.pass).own; seen = (view asker.pass).seen }

-- a pass that left that has made no turn, and had a reply to each question, by these names, over what it has seen
pub record HasAsked (names : Table) (known : ℕ) (questions : List Query) (replies : List (ℕ × Answer)) (left : Ended Batch) : Type 0 where
  pub idle : left.own ≡ []
  pub replied : Replied names left.seen known questions replies
  pub all : length replies ≡ length questions

-- an asker that is done had a reply to each of its questions, by these names
abbrev pub HasReplies : Table → ℕ → Asker → Type 0
HasReplies names known asker =
    asker.end ≡ Done → HasAsked names known asker.questions.items asker.replies.items (left_by asker)

-- one pass more was ended, which had these replies to the questions
abbrev pub AsksLate : View Table Batch → View Table Batch → List Query → Vec (ℕ × Answer) Global → Type 0
AsksLate old new questions replies = (left : Ended Batch) × (new.ended ≡ old.ended ++ left ∷ [])
    × HasAsked old.setting old.floor questions replies.items left

-- the replies to the questions that were asked beside the load, by these names
abbrev pub AnswersBeside : Table → List Query → Watched → Type 0
AnswersBeside names questions watched = AreReplies names watched.loaded.catalogue.history 0 questions watched.beside.items

-- those to the late questions, which are over the whole history
abbrev pub AnswersLate : Table → List Query → Watched → Type 0
AnswersLate names questions watched =
    AreReplies names watched.loaded.catalogue.history (length watched.loaded.catalogue.history) questions watched.late.items
