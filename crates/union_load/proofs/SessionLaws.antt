-- What sessions come to, one after the other.
use Rattle.std.proofs.Common.{Vec, ◌≡◌, ℕ, suc, ◌+◌, ◌<◌, true, false, cond, List, [], ◌∷◌, ◌++◌, length, refl, IsTrue, sym, ap, subst, ◌∙◌, arith}
use Rattle.std.specs.Prelude.{map, All, Option, Some, None, IfSome, Result, Ok, Err}
use Rattle.std.specs.List.{AllByRecursion}
use Rattle.std.specs.Option.{option_map}
use Rattle.std.specs.Vec.{with_items}
use Rattle.std.proofs.lemmas.List.{with_items_is}
use Rattle.std.proofs.lemmas.List.Elements.{All-from_recursion}
use Rattle.atomic_table.specs.Seated.{TableId}
use Rattle.catalogue_lock.specs.Tokens.{view}
use Rattle.library_batches.specs.Reading.{most_bytes}
use Rattle.load_sessions.specs.Sessions.{IsReady, IsLoaded, Runs, RunsEach}
use Rattle.load_sessions.specs.declared.end.End.{End}
use Rattle.load_sessions.specs.declared.end.End.TheVariants.{ReadFault as EndFault}
use Rattle.load_sessions.specs.declared.session.Session.{Session}
use Rattle.union_io.specs.Causes.{Rose}
use Rattle.union_io.specs.Files.{told_file}
use Rattle.union_io.specs.Names.{is_among}
use Rattle.union_files.specs.Limits.{Contents, is_overfull, first_overfull, AreWithin, IsTooLongAt}
use Rattle.union_files.proofs.LimitLaws.{on_both}
use Rattle.union_files.specs.Inputs.{input_of, inputs_of, IsFresh, AreFresh, files_of}
use Rattle.union_files.specs.Courses.{file_of_course, AreNumbered}
use Rattle.union_load.specs.Sessions.{is_fault, Closes, IsReadyAs, AreReady, courses_of, session_state, session_states, HasRun, HaveRun}
use Rattle.union_words.specs.Flows.{InputFile}
use Rattle.union_words.specs.Words.{LibraryFile}
use Rattle.union_words.specs.declared.input.Input.{Input}
use Rattle.union_words.specs.declared.status.Status.{Status}
use Rattle.union_words.specs.declared.status.Status.TheVariants.{TooLong, Memory}

-- ---- two ends, one after the other

abbrev named : InputFile → Input
named file = file.input

too_long_behind : (contents : Contents) (file : InputFile) (rest : List InputFile) (i : Input) → AreWithin contents (file ∷ [])
    → IsTooLongAt contents rest i → IsTooLongAt contents (file ∷ rest) i
too_long_behind contents file rest i within at =
    elim (is_overfull contents file) as (λ b. cond b (Some file) None ≡ None → option_map named (cond b (Some file) (first_overfull contents rest)) ≡ Some i)
    [ true ↦ λ within. cc | false ↦ λ within. at ] within

within_both : (contents : Contents) (file : InputFile) (rest : List InputFile) → AreWithin contents (file ∷ []) → AreWithin contents rest
    → AreWithin contents (file ∷ rest)
within_both contents file rest within later =
    elim (is_overfull contents file) as (λ b. cond b (Some file) None ≡ None → cond b (Some file) (first_overfull contents rest) ≡ None)
    [ true ↦ λ within. cc | false ↦ λ within. later ] within

-- an end after an input that was read
pub closes_behind : {T : Type 0} (later : Result T Status) (file : LibraryFile) (rest : List LibraryFile) (files : Option Contents) (P Q R : Contents → Type 0)
    → ((contents : Contents) → P contents → Q contents → R contents) → IfSome files (λ contents. AreWithin contents (inputs_of (file ∷ [])) × P contents)
    → Closes later rest files Q → Closes later (file ∷ rest) files R
closes_behind (Ok done) file rest files P Q R both here behind =
    on_both files (λ contents p q. (within_both contents (input_of file) (inputs_of rest) p.0 q.0, both contents p.1 q.1)) here behind
closes_behind (Err (TooLong input)) file rest files P Q R both here behind =
    on_both files (λ contents p at. too_long_behind contents (input_of file) (inputs_of rest) input p.0 at) here behind
closes_behind (Err Memory) file rest files P Q R both here behind = tt
closes_behind (Err status) file rest files P Q R both here behind = absurd behind

-- ---- sessions that are run

some_fault : (before after : ℕ) → before ≡ 0 → Rose before after → 0 < after
some_fault before after none rose = let first : Rose 0 after = subst (λ n. Rose n after) none rose in omega (arith, first)

fault_is : (end : End) → is_fault end ≡ true → end ≡ EndFault
fault_is EndFault is = refl
fault_is end is = cc

module _ {S : Type 0} where
  pub ready_pushed : (desk : TableId) (prefer : List (List ℕ)) (number : ℕ) (sessions : List (Session S)) (session : Session S)
      → AreReady desk prefer number sessions → IsReadyAs desk prefer (number + length sessions) session
      → AreReady desk prefer number (sessions ++ session ∷ [])
  ready_pushed desk prefer number [] session all one =
      (let here : number + 0 ≡ number = omega arith in (subst (λ n. IsReadyAs desk prefer n session) here one, tt))
  ready_pushed desk prefer number (first ∷ sessions) session all one =
      (let here : number + length (first ∷ sessions) ≡ suc number + length sessions = omega arith in
      (all.0, ready_pushed desk prefer (suc number) sessions session all.1 (subst (λ n. IsReadyAs desk prefer n session) here one)))

  pub ready_all : (desk : TableId) (prefer : List (List ℕ)) (number : ℕ) (sessions : List (Session S)) → AreReady desk prefer number sessions
      → All (IsReady desk) sessions
  ready_all desk prefer number sessions all = All-from_recursion (IsReady desk) sessions (each number sessions all)
    where
      each : (number : ℕ) (sessions : List (Session S)) → AreReady desk prefer number sessions → AllByRecursion (IsReady desk) sessions
      each number [] all = tt
      each number (session ∷ sessions) all = (all.0.ready, each (suc number) sessions all.1)

  module _ (name : S → List ℕ) (left : S → Option (List ℕ)) (faults : S → ℕ) where
    has_run : (desk : TableId) (prefer : List (List ℕ)) (number : ℕ) (files : Option Contents) (names : List (List ℕ)) (before now : Session S)
        → IsReadyAs desk prefer number before
        → IsFresh files names (session_state name left faults before) → Runs name left faults desk before now → HasRun name faults desk files names now
    has_run desk prefer number files names before now ready fresh runs =
        let told : left before.source ≡ told_file files (name now.source) = fresh.left ∙ ap (told_file files) (sym runs.keeps.source) in
        record {
          desk_is = runs.keeps.desk_is;
          listed = subst (λ n. IsTrue (is_among n names)) (sym runs.keeps.source) fresh.listed;
          done = λ is. subst (λ t. IfSome t (λ bytes. IsLoaded now.prefer now.library most_bytes bytes (view now.pass).own now.report)) told
              (subst (λ limit. IfSome (left before.source) (λ bytes. IsLoaded now.prefer now.library limit bytes (view now.pass).own now.report)) ready.limit
              (subst (λ library. IfSome (left before.source) (λ bytes. IsLoaded now.prefer library before.limit bytes (view now.pass).own now.report)) (sym runs.keeps.library)
              (subst (λ prefer. IfSome (left before.source) (λ bytes. IsLoaded prefer before.library before.limit bytes (view now.pass).own now.report)) (sym runs.keeps.prefer)
              (runs.done is))));
          counts = runs.counts;
          long = λ is. subst (λ t. IfSome t (λ bytes. most_bytes < length bytes)) told
              (subst (λ limit. IfSome (left before.source) (λ bytes. limit < length bytes)) ready.limit (runs.long is));
          fault = λ is. some_fault (faults before.source) (faults now.source) fresh.faults (runs.fault (fault_is now.end is));
          calm = λ none. runs.calm (λ is. (let clash : true ≡ false = sym (ap is_fault is) ∙ none in cc)) ∙ fresh.faults;
        }

    -- what the run of sessions leaves
    pub record HaveEnded (desk : TableId) (prefer : List (List ℕ)) (number : ℕ) (files : Option Contents) (names : List (List ℕ)) (before now : List (Session S)) : Type 0 where
      pub prefers : AllByRecursion (λ c. c.prefer ≡ prefer) (courses_of name now)
      pub ran : HaveRun name faults desk files names now
      pub files_are : map file_of_course (courses_of name now) ≡ files_of (session_states name left faults before)
      pub numbers : AreNumbered number (courses_of name now)
      pub long : length (courses_of name now) ≡ length before

    have_run : (desk : TableId) (prefer : List (List ℕ)) (number : ℕ) (files : Option Contents) (names : List (List ℕ)) (before now : List (Session S))
        → AreReady desk prefer number before
        → AreFresh files names (session_states name left faults before) → RunsEach name left faults desk before now
        → HaveEnded desk prefer number files names before now
    have_run desk prefer number files names [] [] ready fresh runs = record { prefers = tt; ran = tt; files_are = refl; numbers = tt; long = refl }
    have_run desk prefer number files names [] (session ∷ now) ready fresh runs = absurd (omega (arith, runs.long))
    have_run desk prefer number files names (session ∷ before) [] ready fresh runs = absurd (omega (arith, runs.long))
    have_run desk prefer number files names (first ∷ before) (session ∷ now) ready fresh runs =
        let one : Runs name left faults desk first session = runs.each 0 first (omega arith) in
        let rest : RunsEach name left faults desk before now = record {
          long = omega (arith, runs.long);
          each = λ place other below. runs.each (suc place) other (omega (arith, below));
        } in
        let more = have_run desk prefer (suc number) files names before now ready.1 fresh.1 rest in
        record {
          prefers = (one.keeps.prefer ∙ ready.0.prefer_is, more.prefers);
          ran = (has_run desk prefer number files names first session ready.0 fresh.0 one, more.ran);
          files_are = ap (λ path. record { library = session.library; path = path } ∷ map file_of_course (courses_of name now)) one.keeps.source
              ∙ (ap (λ library. record { library = library; path = name first.source } ∷ map file_of_course (courses_of name now)) one.keeps.library
              ∙ ap (λ files. record { library = first.library; path = name first.source } ∷ files) more.files_are);
          numbers = (one.keeps.pass.0 ∙ ready.0.number_is, more.numbers);
          long = ap suc more.long;
        }

    -- the same of a list of sessions whose places were lent to be run
    pub have_ended : {Z : Type 0} (desk : TableId) (prefer : List (List ℕ)) (number : ℕ) (files : Option Contents) (names : List (List ℕ))
        (sessions : Vec (Session S) Z) (lent now : List (Session S)) → lent ≡ sessions.items → AreReady desk prefer number sessions.items
        → AreFresh files names (session_states name left faults sessions.items) → RunsEach name left faults desk lent now
        → HaveEnded desk prefer number files names sessions.items (with_items sessions now).items
    have_ended desk prefer number files names sessions lent now same ready fresh runs =
        let each : RunsEach name left faults desk sessions.items now = subst (λ before. RunsEach name left faults desk before now) same runs in
        subst (HaveEnded desk prefer number files names sessions.items) (sym (with_items_is sessions now (each.long ∙ sym sessions.ok.0)))
        (have_run desk prefer number files names sessions.items now ready fresh each)
