-- What the code's jobs and lines of scripts stand for.
use Rattle.std.specs.Prelude.{List, false}
use Rattle.std.specs.Option.{option_copied}
use Rattle.union_words.specs.declared.library_file.LibraryFile.{LibraryFile as FileInPlace}
use Rattle.union_words.specs.declared.libraries.Libraries.{Libraries}
use Rattle.union_words.specs.declared.loading.Loading.{Loading as LoadingInPlace}
use Rattle.union_words.specs.declared.options.Options.{Options as OptionsInPlace}
use Rattle.union_words.specs.declared.job.Job.{Job as JobInPlace}
use Rattle.union_words.specs.declared.job.Job.TheVariants.{Check as CheckInPlace, ToJson as ToJsonInPlace, FromJson as FromJsonInPlace, Export as ExportInPlace, Works as WorksInPlace, Watch as WatchInPlace, Follow as FollowInPlace, Script as ScriptInPlace, Trial as TrialInPlace, Help as HelpInPlace, Version as VersionInPlace}
use Rattle.union_words.specs.declared.trial.Trial.{Trial as TrialOfNumbers}
use Rattle.union_words.specs.declared.script_line.ScriptLine.{ScriptLine as LineInPlace}
use Rattle.union_words.specs.declared.script_line.ScriptLine.TheVariants.{Load as LoadInPlace, Export as ExportLineInPlace, Works as WorksLineInPlace, Notices as NoticesInPlace, Ask as AskInPlace, Word as WordInPlace}
use Rattle.union_words.specs.ScriptLines.{ScriptLine, Load, Notices, Ask, Word}
use Rattle.union_words.specs.ScriptLines as lines
use Rattle.union_words.specs.Words.{LibraryFile, Loading, Options, Job, Check, ToJson, FromJson, Export, Works, Watch, Follow, Script, Trial, Help, Version, libraries_of}

-- the library and the path that the code borrows
abbrev pub file_meaning : FileInPlace → LibraryFile
file_meaning file = record { library = file.library; path = file.path.now }

-- the libraries that the words name
abbrev pub libraries_meaning : Libraries → List LibraryFile
libraries_meaning libraries = libraries_of libraries.words.now

-- how the libraries are loaded that the words name
abbrev pub loading_meaning : LoadingInPlace → Loading
loading_meaning loading = record {
  workers = loading.workers.number;
  prefer = loading.prefer;
  names = option_copied loading.names;
  libraries = libraries_meaning loading.libraries;
}

-- the options, and the words after them
abbrev pub options_meaning : OptionsInPlace → Options
options_meaning options = record {
  workers = options.workers.number;
  prefer = options.prefer;
  names = option_copied options.names;
  rest = options.rest.now;
}

-- the job that the trial is
abbrev pub trial_meaning : TrialOfNumbers → Job
trial_meaning trial = Trial trial.seed trial.count trial.workers.number

-- a job whose words lie in place, as its value
abbrev pub job_meaning : JobInPlace → Job
job_meaning (CheckInPlace file) = Check (file_meaning file)
job_meaning (ToJsonInPlace file) = ToJson (file_meaning file)
job_meaning (FromJsonInPlace file) = FromJson (file_meaning file)
job_meaning (ExportInPlace exporting loading) = Export exporting (loading_meaning loading)
job_meaning (WorksInPlace loading) = Works (loading_meaning loading)
job_meaning (WatchInPlace asks loading) = Watch asks.now (loading_meaning loading)
job_meaning (FollowInPlace asks libraries) = Follow asks.now (libraries_meaning libraries)
job_meaning (ScriptInPlace path) = Script path.now
job_meaning (TrialInPlace trial) = trial_meaning trial
job_meaning HelpInPlace = Help
job_meaning VersionInPlace = Version

-- a line of a script whose words lie in place, as its value
abbrev pub line_meaning : LineInPlace → ScriptLine
line_meaning (LoadInPlace file) = Load false (file_meaning file)
line_meaning ExportLineInPlace = lines.Export
line_meaning WorksLineInPlace = lines.Works
line_meaning NoticesInPlace = Notices
line_meaning (AskInPlace line) = Ask line.now
line_meaning WordInPlace = Word
