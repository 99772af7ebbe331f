-- Which files could not be read, and what the counts of a shelf say of them.
use Rattle.std.proofs.Common.{◌≡◌, ◌≢◌, ℕ, zero, suc, ◌+◌, ◌-◌, ◌≤◌, length, get_or, take, drop, slice_get, Bool, true, false, cond, ◌&&◌, ◌||◌, inl, inr, List, [], ◌∷◌, refl, sym, ap, subst, ◌∙◌, arith}
use Rattle.std.specs.Prelude.{map, nat_eq, Option, Some, None, Result, Ok, Err}
use Rattle.std.proofs.Math.Seq.{take-length}
use Rattle.std.specs.Cmp.Lexicographic.{pointwise, bytes_decides}
use Rattle.std.specs.List.{list_any}
use Rattle.std.specs.Option.{option_map}
use Rattle.std.proofs.lemmas.Option.{same_Some}
use Rattle.union_io.specs.Counts.{SameCounts}
use Rattle.union_files.specs.Limits.{Contents}
use Rattle.union_files.proofs.FileLaws.{Counts, flow}
use Rattle.union_files.proofs.InputLaws.{drop_at}
use Rattle.union_files.specs.Inputs.{Gathers, input_of, inputs_of, IsEarliest, IsElsewhere, StopsAtLibraries}
use Rattle.load_sessions.specs.declared.session.Session.{Session}
use Rattle.union_files.specs.Courses.{Course, file_of_course}
use Rattle.union_load.specs.Sessions.{course_of, courses_of, Closes, fails_on, is_failed_in, first_failed, NoneFailed, RaisesFailed}
use Rattle.union_words.specs.Flows.{ShelfFlow}
use Rattle.union_words.specs.Words.{LibraryFile}
use Rattle.union_words.specs.declared.input.Input.TheVariants.{Library}
use Rattle.union_words.specs.declared.status.Status.{Status}
use Rattle.union_words.specs.declared.status.Status.TheVariants.{ReadFault, TooLong, Memory}

-- ---- places

drop_get : {B : Type 0} (ys : List B) (n : ℕ) (y : B) (rest : List B) → y ∷ rest ≡ drop n ys → (slice_get ys n ≡ Some y) × (rest ≡ drop (suc n) ys)
drop_get [] zero y rest same = cc
drop_get [] (suc n) y rest same = cc
drop_get (z ∷ ys) zero y rest same = (cc, cc)
drop_get (z ∷ ys) (suc n) y rest same = drop_get ys n y rest same

-- the library of the first session, and those of the rest
module _ {S : Type 0} (name : S → List ℕ) where
  pub library_of : (sessions : List (Session S)) (libraries : List LibraryFile) (place : ℕ) (session : Session S)
      → map file_of_course (courses_of name sessions) ≡ drop place libraries → 1 ≤ length sessions → session ≡ get_or sessions 0 session
      → slice_get libraries place ≡ Some (file_of_course (course_of name session))
  library_of [] libraries place session same some is = absurd (omega (arith, some))
  library_of (first ∷ sessions) libraries place session same some is =
      (drop_get libraries place (file_of_course (course_of name first)) (map file_of_course (courses_of name sessions)) same).0
      ∙ ap (λ (session : Session S). Some (file_of_course (course_of name session))) (sym is)

  pub libraries_behind : (sessions : List (Session S)) (libraries : List LibraryFile) (place : ℕ) → map file_of_course (courses_of name sessions) ≡ drop place libraries
      → 1 ≤ length sessions
      → map file_of_course (courses_of name (take (length sessions - 1) (drop 1 sessions))) ≡ drop (place + 1) libraries
  libraries_behind [] libraries place same some = absurd (omega (arith, some))
  libraries_behind (first ∷ sessions) libraries place same some =
      let next : suc place ≡ place + 1 = omega arith in
      let rest : length (first ∷ sessions) - 1 ≡ length sessions = omega arith in
      ap (λ (all : List (Session S)). map file_of_course (courses_of name all)) (ap (λ n. take n sessions) rest ∙ take-length sessions)
      ∙ ((drop_get libraries place (file_of_course (course_of name first)) (map file_of_course (courses_of name sessions)) same).1 ∙ ap (λ n. drop n libraries) next)

  -- a read of the file failed in the first session, or in one of the rest
  pub failed_first : (sessions : List (Session S)) (session : Session S) (path : List ℕ) → 1 ≤ length sessions → session ≡ get_or sessions 0 session
      → is_failed_in (courses_of name sessions) path
      ≡ (fails_on path (course_of name session) || is_failed_in (courses_of name (take (length sessions - 1) (drop 1 sessions))) path)
  failed_first [] session path some is = absurd (omega (arith, some))
  failed_first (first ∷ sessions) session path some is =
      let rest : length (first ∷ sessions) - 1 ≡ length sessions = omega arith in
      let all : take (length (first ∷ sessions) - 1) sessions ≡ sessions = ap (λ n. take n sessions) rest ∙ take-length sessions in
      ap (λ (s : Session S). fails_on path (course_of name s) || is_failed_in (courses_of name sessions) path) (sym is)
      ∙ ap (λ (others : List (Session S)). fails_on path (course_of name session) || is_failed_in (courses_of name others) path) (sym all)

-- ---- the first that failed

-- a library of a file that was read is passed over
pub first-passed : (courses : List Course) (libraries : List LibraryFile) (place : ℕ) (file : LibraryFile) → slice_get libraries place ≡ Some file
    → is_failed_in courses file.path ≡ false → first_failed courses (drop place libraries) ≡ first_failed courses libraries
    → first_failed courses (drop (place + 1) libraries) ≡ first_failed courses libraries
first-passed courses libraries place file at none before =
    sym (ap (λ t. cond t (Some file) (first_failed courses (drop (place + 1) libraries))) none)
    ∙ subst (λ all. first_failed courses all ≡ first_failed courses libraries) (drop_at libraries place file at) before

pub first-found : (courses : List Course) (libraries : List LibraryFile) (place : ℕ) (file : LibraryFile) → slice_get libraries place ≡ Some file
    → is_failed_in courses file.path ≡ true → first_failed courses (drop place libraries) ≡ first_failed courses libraries
    → Some file ≡ first_failed courses libraries
first-found courses libraries place file at some before =
    sym (ap (λ t. cond t (Some file) (first_failed courses (drop (place + 1) libraries))) some)
    ∙ subst (λ all. first_failed courses all ≡ first_failed courses libraries) (drop_at libraries place file at) before

earliest : (courses : List Course) (libraries : List LibraryFile) (shelf : ShelfFlow) (file : LibraryFile) → RaisesFailed courses shelf.before shelf.after
    → first_failed courses libraries ≡ Some file → IsEarliest shelf (input_of file) (inputs_of libraries) × (is_failed_in courses file.path ≡ true)
earliest courses [] shelf file raises at = cc
earliest courses (first ∷ rest) shelf file raises at =
    elim (is_failed_in courses first.path) as (λ t. is_failed_in courses first.path ≡ t → cond t (Some first) (first_failed courses rest) ≡ Some file
    → IsEarliest shelf (input_of file) (inputs_of (first ∷ rest)) × (is_failed_in courses file.path ≡ true)) [
      | true ↦ λ is at. (
        inl (ap input_of (sym (same_Some first file at))),
        subst (λ (f : LibraryFile). is_failed_in courses f.path ≡ true) (same_Some first file at) is,
      )
      | false ↦ λ is at. (let more = earliest courses rest shelf file raises at in (inr (raises.others first.path is, more.0), more.1))
    ] refl at

not-on : (failed same : Bool) (path name : List ℕ) → pointwise nat_eq path name ≡ same → path ≢ name → (failed && same) ≡ false
not-on true true path name is apart = absurd (apart ((bytes_decides path name).0 is))
not-on true false path name is apart = refl
not-on false same path name is apart = refl

-- under a name that is none of theirs
unfailed-elsewhere : (courses : List Course) (name : List ℕ) → IsElsewhere name (inputs_of (map file_of_course courses)) → is_failed_in courses name ≡ false
unfailed-elsewhere [] name apart = refl
unfailed-elsewhere (course ∷ courses) name apart =
    ap (λ t. t || is_failed_in courses name) (not-on course.failed (pointwise nat_eq course.path name) course.path name refl apart.0)
    ∙ unfailed-elsewhere courses name apart.1

mapped_some : (found : Option LibraryFile) (library : List ℕ) → Some library ≡ option_map (λ (file : LibraryFile). file.library) found
    → (file : LibraryFile) × (found ≡ Some file) × (library ≡ file.library)
mapped_some None library is = cc
mapped_some (Some file) library is = (file, refl, same_Some library file.library is)

mapped_none : (found : Option LibraryFile) → None ≡ option_map (λ (file : LibraryFile). file.library) found → found ≡ None
mapped_none None is = refl
mapped_none (Some file) is = cc

-- a run that names it
pub failed-first : (courses : List Course) (libraries : List LibraryFile) (library : List ℕ) (files : Option Contents) (a b : Counts)
    → map file_of_course courses ≡ libraries → RaisesFailed courses a b
    → Some library ≡ option_map (λ (file : LibraryFile). file.library) (first_failed courses libraries)
    → StopsAtLibraries (ReadFault (Library library)) libraries (flow files a b)
failed-first courses libraries library files a b same raises is =
    let found = mapped_some (first_failed courses libraries) library is in
    let at = earliest courses libraries (flow files a b) found.0 raises found.1 in
    record {
      file = input_of found.0;
      one = at.0;
      named = ap Library found.2;
      failed = raises.raised found.0.path at.1;
      others = λ name apart. raises.others name (unfailed-elsewhere courses name (subst (λ all. IsElsewhere name (inputs_of all)) (sym same) apart));
    }

-- ---- where there is none

same-text : (text : List ℕ) → pointwise nat_eq text text ≡ true
same-text text = (bytes_decides text text).1 refl

or-true : (b : Bool) → (b || true) ≡ true
or-true true = refl
or-true false = refl

unfailed-within : (all courses : List Course) → ((name : List ℕ) → is_failed_in courses name ≡ true → is_failed_in all name ≡ true)
    → first_failed all (map file_of_course courses) ≡ None → NoneFailed courses
unfailed-within all [] within none = refl
unfailed-within all (course ∷ courses) within none =
    elim (is_failed_in all course.path) as (λ t. is_failed_in all course.path ≡ t
    → cond t (Some (file_of_course course)) (first_failed all (map file_of_course courses)) ≡ None → NoneFailed (course ∷ courses)) [
      | true ↦ λ is none. cc
      | false ↦ λ is none. elim course.failed as (λ t. course.failed ≡ t → (t || list_any (λ (c : Course). c.failed) courses) ≡ false) [
        | true ↦ λ failed.
            (let here : is_failed_in (course ∷ courses) course.path ≡ true =
            ap (λ t. (t && pointwise nat_eq course.path course.path) || is_failed_in courses course.path) failed
            ∙ ap (λ t. t || is_failed_in courses course.path) (same-text course.path) in
            let clash : true ≡ false = sym (within course.path here) ∙ is in cc)
        | false ↦ λ failed. unfailed-within all courses
            (λ name more. within name (ap (λ t. fails_on name course || t) more ∙ or-true (fails_on name course))) none
      ] refl
    ] refl none

unfailed-at : (courses : List Course) (name : List ℕ) → NoneFailed courses → is_failed_in courses name ≡ false
unfailed-at [] name none = refl
unfailed-at (course ∷ courses) name none =
    elim course.failed as (λ t. (t || list_any (λ (c : Course). c.failed) courses) ≡ false
    → ((t && pointwise nat_eq course.path name) || is_failed_in courses name) ≡ false)
    [ true ↦ λ none. cc | false ↦ λ none. unfailed-at courses name none ] none

-- one session and others
pub unfailed-one : (course : Course) (courses : List Course) → NoneFailed (course ∷ courses) → NoneFailed (course ∷ [])
unfailed-one course courses none =
    elim course.failed as (λ t. (t || list_any (λ (c : Course). c.failed) courses) ≡ false → (t || false) ≡ false) [ true ↦ λ none. cc | false ↦ λ none. refl ] none

pub unfailed-more : (course : Course) (courses : List Course) → NoneFailed (course ∷ courses) → NoneFailed courses
unfailed-more course courses none =
    elim course.failed as (λ t. (t || list_any (λ (c : Course). c.failed) courses) ≡ false → NoneFailed courses) [ true ↦ λ none. cc | false ↦ λ none. none ] none

-- a run that stops at no failed read, or at none
pub unfailed-gathers : (result : Result (Unit {0}) Status) (courses : List Course) (libraries : List LibraryFile) (files : Option Contents) (a b : Counts)
    (P : Contents → Type 0) → map file_of_course courses ≡ libraries → RaisesFailed courses a b
    → None ≡ option_map (λ (file : LibraryFile). file.library) (first_failed courses libraries)
    → (NoneFailed courses → Closes result (map file_of_course courses) files P) → Gathers result libraries (flow files a b) (λ done contents. P contents)
unfailed-gathers result courses libraries files a b P same raises none closes =
    let unfailed : NoneFailed courses = unfailed-within courses courses (λ name is. is)
    (subst (λ all. first_failed courses all ≡ None) (sym same) (mapped_none (first_failed courses libraries) none)) in
    gathers result (λ name. raises.others name (unfailed-at courses name unfailed)) (subst (λ all. Closes result all files P) same (closes unfailed))
  where
    gathers : (result : Result (Unit {0}) Status) → SameCounts a b → Closes result libraries files P
        → Gathers result libraries (flow files a b) (λ done contents. P contents)
    gathers (Ok done) calm closes = (calm, closes)
    gathers (Err (TooLong input)) calm closes = (calm, closes)
    gathers (Err Memory) calm closes = calm
    gathers (Err status) calm closes = absurd closes
