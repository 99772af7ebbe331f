-- Libraries that are loaded one after the other make the union of their files, in their order.
use Rattle.std.proofs.Common.{◌≡◌, ◌≢◌, ℕ, suc, ◌+◌, ◌<◌, ◌≤◌, ◌==◌, ◌||◌, Bool, true, false, cond, List, [], ◌∷◌, ◌++◌, length, refl, sym, ap, subst, ◌∙◌, arith, add-one, append_assoc, append-nil, eq-eqb}
use Rattle.std.specs.Prelude.{map, filter}
use Rattle.std.specs.FinMap.{empty}
use Rattle.std.specs.List.{AllByRecursion, flat_map, list_any}
use Rattle.std.proofs.lemmas.List.{map-append}
use Rattle.std.proofs.lemmas.List.Elements.{filter-append}
use Rattle.std.proofs.lemmas.Bool.Decides.{nat_tests}
use Rattle.catalogue_editions.specs.declared.history_entry.HistoryEntry.{HistoryEntry}
use Rattle.catalogue_editions.specs.declared.batch.Batch.{Batch}
use Rattle.catalogue_lock.specs.History.{changes_of}
use Rattle.catalogue_lock.specs.Rule.{EndedOk}
use Rattle.iso2709_frame.specs.Frames.{frames}
use Rattle.catalogue_core.specs.Entries.{entries_of}
use Rattle.union_files.specs.Limits.{Contents}
use Rattle.union_files.specs.Deliveries.{codes_of, AreDistinct, delivery, has_refused}
use Rattle.union_files.specs.Inputs.{deliveries}
use Rattle.union_files.specs.Unions.{HasUnited}
use Rattle.union_files.specs.declared.loaded.Loaded.{Loaded}
use Rattle.union_files.proofs.CourseLaws.{united, delivered-files}
use Rattle.union_files.proofs.ListLaws.{all_both, each_weaker}
use Rattle.union_files.proofs.ReportLaws.{reported_both}
use Rattle.union_files.specs.Courses.{Course, AreNumbered, AreReported, course_text, delivery_of, ended_of, file_of_course}
use Rattle.union_files.specs.declared.reports.Reports.{Reports}
use Rattle.union_words.specs.Words.{LibraryFile}
use Rattle.union_follow.proofs.EntryLaws.{pair, entries_prefix}
use Rattle.union_follow.specs.Following.{HasFollowed, IsInOrder}
use Rattle.union_follow.specs.Turning.{AreTurnedFrom, HasTurned, IsBelow, IsTurned, turns_as}

-- ---- numbers

-- turns have their number
turns_numbers : (pass : ℕ) (batches : List Batch) → AllByRecursion (λ (e : HistoryEntry). e.pass ≡ pass) (turns_as pass batches)
turns_numbers pass [] = tt
turns_numbers pass (batch ∷ batches) = (refl, turns_numbers pass batches)

entries_append : (xs ys : List HistoryEntry) → entries_of (xs ++ ys) ≡ entries_of xs ++ entries_of ys
entries_append xs ys = map-append pair xs ys

changes_append : (pass : ℕ) (xs ys : List (ℕ × Batch)) → changes_of pass (xs ++ ys) ≡ changes_of pass xs ++ changes_of pass ys
changes_append pass xs ys =
    ap (map (λ (e : ℕ × Batch). e.1)) (filter-append (λ (e : ℕ × Batch). e.0 == pass) xs ys)
    ∙ map-append (λ (e : ℕ × Batch). e.1) (filter (λ (e : ℕ × Batch). e.0 == pass) xs) (filter (λ (e : ℕ × Batch). e.0 == pass) ys)

changes_both : (pass : ℕ) (xs ys : List HistoryEntry) → changes_of pass (entries_of (xs ++ ys)) ≡ changes_of pass (entries_of xs) ++ changes_of pass (entries_of ys)
changes_both pass xs ys = ap (changes_of pass) (entries_append xs ys) ∙ changes_append pass (entries_of xs) (entries_of ys)

-- other numbers have no batches under this one
pub changes_none : (pass : ℕ) (history : List HistoryEntry) → AllByRecursion (λ (e : HistoryEntry). e.pass ≢ pass) history
    → changes_of pass (entries_of history) ≡ []
changes_none pass [] differ = refl
changes_none pass (e ∷ history) differ =
    elim (e.pass == pass) as (λ b. (e.pass == pass) ≡ b
    → map (λ (e : ℕ × Batch). e.1) (cond b ((e.pass, e.batch) ∷ filter (λ (e : ℕ × Batch). e.0 == pass) (entries_of history)) (filter (λ (e : ℕ × Batch). e.0 == pass) (entries_of history))) ≡ [])
    [ true ↦ λ is. absurd (differ.0 (grind (arith, nat_tests, is))) | false ↦ λ is. changes_none pass history differ.1 ] refl

-- and turns have all of theirs
changes_all : (pass : ℕ) (batches : List Batch) → changes_of pass (entries_of (turns_as pass batches)) ≡ batches
changes_all pass [] = refl
changes_all pass (batch ∷ batches) = rw (eq-eqb pass pass refl) (ap (λ (rest : List Batch). batch ∷ rest) (changes_all pass batches))

-- ---- order

order_turns : (pass : ℕ) (batches : List Batch) (more : List HistoryEntry) → AllByRecursion (λ (e : HistoryEntry). suc pass ≤ e.pass) more
    → IsInOrder more → IsInOrder (turns_as pass batches ++ more)
order_turns pass [] more above order = order
order_turns pass (batch ∷ batches) more above order = (
  all_both (λ (e : HistoryEntry). pass ≤ e.pass) (turns_as pass batches) more
      (each_weaker (λ (e : HistoryEntry). e.pass ≡ pass) (λ e. pass ≤ e.pass) (turns_as pass batches) (λ e is. omega (arith, is)) (turns_numbers pass batches))
      (each_weaker (λ (e : HistoryEntry). suc pass ≤ e.pass) (λ e. pass ≤ e.pass) more (λ e above. omega (arith, above)) above),
  order_turns pass batches more above order,
)

-- ---- the courses

-- what the loading of files, from this number on, comes to: a course for each, and turns that follow the history
pub record Goes (contents : Contents) (place : ℕ) (files : List LibraryFile) (history now : List HistoryEntry) (before after : Reports) : Type 0 where
  pub courses : List Course
  pub files_are : map file_of_course courses ≡ files
  pub free : AllByRecursion (λ (c : Course). c.prefer ≡ []) courses
  pub numbers : AreNumbered place courses
  pub reported : AreReported contents courses before after
  pub more : List HistoryEntry
  pub now_is : now ≡ history ++ more
  pub ended : AllByRecursion (EndedOk (entries_of now)) (map ended_of courses)
  pub least : AllByRecursion (λ (e : HistoryEntry). place ≤ e.pass) more
  pub most : AllByRecursion (λ (e : HistoryEntry). e.pass < place + length courses) more
  pub order : IsInOrder more

pub below_more : (place : ℕ) (history : List HistoryEntry) (batches : List Batch) → IsBelow place history → IsBelow (suc place) (history ++ turns_as place batches)
below_more place history batches below =
    all_both (λ (e : HistoryEntry). e.pass < suc place) history (turns_as place batches)
    (each_weaker (λ (e : HistoryEntry). e.pass < place) (λ e. e.pass < suc place) history (λ e low. omega (arith, low)) below)
    (each_weaker (λ (e : HistoryEntry). e.pass ≡ place) (λ e. e.pass < suc place) (turns_as place batches) (λ e is. omega (arith, is)) (turns_numbers place batches))

-- a number that is above those of a history has no batches in it
pub below_none : (pass : ℕ) (history : List HistoryEntry) → IsBelow pass history → changes_of pass (entries_of history) ≡ []
below_none pass history below =
    changes_none pass history (each_weaker (λ (e : HistoryEntry). e.pass < pass) (λ e. e.pass ≢ pass) history (λ e low same. omega (arith, low, same)) below)

-- and turns under it leave the next number free
pub below_turned : (pass : ℕ) (history now : List HistoryEntry) → IsBelow pass history → HasTurned pass history now → IsBelow (pass + 1) now
below_turned pass history now below turned =
    subst (λ n. IsBelow n now) (sym (add-one pass)) (subst (IsBelow (suc pass)) (sym turned.1) (below_more pass history turned.0 below))

-- the batches under a number, where the history before has lower ones and what follows higher ones
own_here : (place : ℕ) (history : List HistoryEntry) (batches : List Batch) (more : List HistoryEntry) → IsBelow place history
    → AllByRecursion (λ (e : HistoryEntry). suc place ≤ e.pass) more → changes_of place (entries_of ((history ++ turns_as place batches) ++ more)) ≡ batches
own_here place history batches more below above =
    let lower = changes_none place history (each_weaker (λ (e : HistoryEntry). e.pass < place) (λ e. e.pass ≢ place) history (λ e low same. omega (arith, low, same)) below) in
    let higher = changes_none place more (each_weaker (λ (e : HistoryEntry). suc place ≤ e.pass) (λ e. e.pass ≢ place) more (λ e high same. omega (arith, high, same)) above) in
    changes_both place (history ++ turns_as place batches) more
    ∙ (ap (λ (rest : List Batch). changes_of place (entries_of (history ++ turns_as place batches)) ++ rest) higher
    ∙ (append-nil (changes_of place (entries_of (history ++ turns_as place batches)))
    ∙ (changes_both place history (turns_as place batches)
    ∙ (ap (λ (front : List Batch). front ++ changes_of place (entries_of (turns_as place batches))) lower ∙ changes_all place batches))))

own_seen_here : (place : ℕ) (history : List HistoryEntry) (batches : List Batch) → IsBelow place history
    → changes_of place (entries_of (history ++ turns_as place batches)) ≡ batches
own_seen_here place history batches below =
    let lower = changes_none place history (each_weaker (λ (e : HistoryEntry). e.pass < place) (λ e. e.pass ≢ place) history (λ e low same. omega (arith, low, same)) below) in
    changes_both place history (turns_as place batches)
    ∙ (ap (λ (front : List Batch). front ++ changes_of place (entries_of (turns_as place batches))) lower ∙ changes_all place batches)

or_false : (a : Bool) → (a || false) ≡ a
or_false true = refl
or_false false = refl

pub goes : (contents : Contents) (place : ℕ) (files : List LibraryFile) (history now : List HistoryEntry) (before after : Reports) → IsBelow place history
    → AreTurnedFrom contents place files history now before after → Goes contents place files history now before after
goes contents place [] history now before after below turned = record {
  courses = [];
  files_are = refl;
  free = tt;
  numbers = tt;
  reported = record {
    whole = tt;
    text = ap (λ (r : Reports). r.text.items) turned.1 ∙ sym (append-nil before.text.items);
    refused = ap (λ (r : Reports). r.refused) turned.1 ∙ sym (or_false before.refused);
  };
  more = [];
  now_is = turned.0 ∙ sym (append-nil history);
  ended = tt;
  least = tt;
  most = tt;
  order = tt;
}
goes contents place (file ∷ files) history now before after below turned =
    let middle = turned.0 in
    let between = turned.1 in
    let one : IsTurned place file.library (frames (contents file.path)) history middle before between = turned.2 in
    let batches = one.batches in
    let here = history ++ turns_as place batches in
    let later : Goes contents (suc place) files middle now between after =
    goes contents (suc place) files middle now between after (subst (IsBelow (suc place)) (sym one.applied) (below_more place history batches below)) turned.3 in
    let now_is : now ≡ here ++ later.more = later.now_is ∙ ap (λ (h : List HistoryEntry). h ++ later.more) one.applied in
    let course : Course = record {
      prefer = [];
      library = file.library;
      path = file.path;
      failed = false;
      number = place;
      own = batches;
      seen = entries_of middle;
    } in
    let end : EndedOk (entries_of now) (ended_of course) = record {
      own = ap (λ (h : List HistoryEntry). changes_of place (entries_of h)) now_is ∙ own_here place history batches later.more below later.least;
      own_seen = ap (λ (h : List HistoryEntry). changes_of place (entries_of h)) one.applied ∙ own_seen_here place history batches below;
      seen = entries_prefix middle now (later.more, sym later.now_is);
    } in
    record {
      courses = course ∷ later.courses;
      files_are = ap (λ (rest : List LibraryFile). file ∷ rest) later.files_are;
      free = (refl, later.free);
      numbers = (refl, later.numbers);
      reported = reported_both contents course later.courses before between after (record {
        whole = (one.read, tt);
        text = one.text ∙ ap (λ (t : List ℕ). before.text.items ++ t) (sym (append-nil (course_text contents course)));
        refused = one.refused ∙ ap (λ (r : Bool). before.refused || r) (sym (or_false (has_refused (delivery [] file.library (frames (contents file.path))))));
      }) later.reported;
      more = turns_as place batches ++ later.more;
      now_is = now_is ∙ append_assoc history (turns_as place batches) later.more;
      ended = (end, later.ended);
      least = all_both (λ (e : HistoryEntry). place ≤ e.pass) (turns_as place batches) later.more
          (each_weaker (λ (e : HistoryEntry). e.pass ≡ place) (λ e. place ≤ e.pass) (turns_as place batches) (λ e is. omega (arith, is)) (turns_numbers place batches))
          (each_weaker (λ (e : HistoryEntry). suc place ≤ e.pass) (λ e. place ≤ e.pass) later.more (λ e high. omega (arith, high)) later.least);
      most = all_both (λ (e : HistoryEntry). e.pass < place + length (course ∷ later.courses)) (turns_as place batches) later.more
          (each_weaker (λ (e : HistoryEntry). e.pass ≡ place) (λ e. e.pass < place + length (course ∷ later.courses)) (turns_as place batches) (λ e is. omega (arith, is)) (turns_numbers place batches))
          (each_weaker (λ (e : HistoryEntry). e.pass < suc place + length later.courses) (λ e. e.pass < place + length (course ∷ later.courses)) later.more (λ e low. omega (arith, low)) later.most);
      order = order_turns place batches later.more later.least later.order;
    }

-- ---- the union

entries_below : (k : ℕ) (history : List HistoryEntry) → AllByRecursion (λ (e : HistoryEntry). e.pass < k) history
    → AllByRecursion (λ (e : ℕ × Batch). e.0 < k) (entries_of history)
entries_below k [] below = tt
entries_below k (e ∷ history) below = (below.0, entries_below k history below.1)

-- what libraries come to that were loaded one after the other
pub followed : (contents : Contents) (files : List LibraryFile) (loaded : Loaded) (none after : Reports) → loaded.catalogue.names ≡ empty → none.text.items ≡ [] → none.refused ≡ false
    → AreTurnedFrom contents 0 files [] loaded.catalogue.history none after → AreDistinct (codes_of (deliveries [] contents files))
    → loaded.reports.items ≡ after.text.items → loaded.refused ≡ after.refused → HasFollowed (deliveries [] contents files) loaded
followed contents files loaded none after unnamed blank calm turned distinct reports refused =
    let all : Goes contents 0 files [] loaded.catalogue.history none after = goes contents 0 files [] loaded.catalogue.history none after tt turned in
    let same : map (delivery_of contents) all.courses ≡ deliveries [] contents files
    = delivered-files [] contents all.courses all.free ∙ ap (deliveries [] contents) all.files_are in
    record {
      united = subst (λ ds. HasUnited empty ds loaded) same
          (united empty contents all.courses loaded unnamed all.numbers all.ended
          (entries_below (length all.courses) loaded.catalogue.history (subst (AllByRecursion (λ (e : HistoryEntry). e.pass < length all.courses)) (sym all.now_is)
          (each_weaker (λ (e : HistoryEntry). e.pass < 0 + length all.courses) (λ e. e.pass < length all.courses) all.more (λ e low. omega (arith, low)) all.most)))
          (subst (λ ds. AreDistinct (codes_of ds)) (sym same) distinct)
          all.reported.whole
          (reports ∙ (all.reported.text ∙ ap (λ (t : List ℕ). t ++ flat_map (course_text contents) all.courses) blank))
          (refused ∙ (all.reported.refused ∙ ap (λ (r : Bool). r || list_any has_refused (map (delivery_of contents) all.courses)) calm)));
      order = subst IsInOrder (sym all.now_is) all.order;
    }
