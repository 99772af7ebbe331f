use Rattle.std.proofs.Common.{ap, true, ◌∙◌}
use Rattle.std.specs.Option.{option_map_or}
use Rattle.union_words.specs.Words.{has_report}
use Rattle.union_program.proofs.JobLaws.{does_job, does_none, opens_job, usage_words, unopened_words}
use Rattle.union_program.proofs.run.union_run.Goals as goal

pub returns-clause-usage : goal.returns-clause-usage
returns-clause-usage g c = usage_words c.run_words.ensures.has

pub returns-clause-check : goal.returns-clause-check
returns-clause-check g c = λ file is. (does_job c.run_words.ensures.has is).0

pub returns-clause-to_json : goal.returns-clause-to_json
returns-clause-to_json g c = λ file is. (does_job c.run_words.ensures.has is).0

pub returns-clause-from_json : goal.returns-clause-from_json
returns-clause-from_json g c = λ file is. (does_job c.run_words.ensures.has is).0

pub returns-clause-export : goal.returns-clause-export
returns-clause-export g c = λ form loading is. (does_job c.run_words.ensures.has is).0

pub returns-clause-works : goal.returns-clause-works
returns-clause-works g c = λ loading is. (does_job c.run_words.ensures.has is).0

pub returns-clause-watch : goal.returns-clause-watch
returns-clause-watch g c = λ asks loading is. (does_job c.run_words.ensures.has is).0

pub returns-clause-follow : goal.returns-clause-follow
returns-clause-follow g c = λ asks libraries is. (does_job c.run_words.ensures.has is).0

pub returns-clause-script : goal.returns-clause-script
returns-clause-script g c = λ path is. does_job c.run_words.ensures.has is

pub returns-clause-trial : goal.returns-clause-trial
returns-clause-trial g c = λ seed count workers is. (does_job c.run_words.ensures.has is).0

pub returns-clause-help : goal.returns-clause-help
returns-clause-help g c = λ is. (does_job c.run_words.ensures.has is).0

pub returns-clause-version : goal.returns-clause-version
returns-clause-version g c = λ is. (does_job c.run_words.ensures.has is).0

pub returns-clause-quiet : goal.returns-clause-quiet
returns-clause-quiet g c =
    λ job is quiet. c.run_words.ensures.quiet (ap (λ asked. option_map_or has_report asked true) is ∙ quiet)

pub returns-clause-unused : goal.returns-clause-unused
returns-clause-unused g c = λ is. (does_none c.run_words.ensures.has is).1.0

pub returns-clause-unopened : goal.returns-clause-unopened
returns-clause-unopened g c = λ which. unopened_words c.run_words.ensures.has which

pub returns-clause-trial_unopened : goal.returns-clause-trial_unopened
returns-clause-trial_unopened g c = λ seed count workers is. (does_job c.run_words.ensures.has is).1

pub returns-clause-check_others : goal.returns-clause-check_others
returns-clause-check_others g c = λ file is. (does_job c.run_words.ensures.has is).1

pub returns-clause-to_json_others : goal.returns-clause-to_json_others
returns-clause-to_json_others g c = λ file is. (does_job c.run_words.ensures.has is).1

pub returns-clause-from_json_others : goal.returns-clause-from_json_others
returns-clause-from_json_others g c = λ file is. (does_job c.run_words.ensures.has is).1

pub returns-clause-in_turn : goal.returns-clause-in_turn
returns-clause-in_turn g c = λ job is. opens_job job c.run_words.ensures.has is
