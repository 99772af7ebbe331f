-- What the passes of a closed desk have seen, and the replies over it.
use Rattle.std.proofs.Common.{◌≡◌, ◌≢◌, ℕ, zero, suc, ◌+◌, ◌<◌, ◌≤◌, Bool, true, false, cond, ◌==◌, List, [], ◌∷◌, ◌++◌, length, refl, sym, ap, subst, ◌∙◌, arith}
use Rattle.std.specs.Prelude.{map, filter, nat_le, Some, slice_get, All, Any}
use Rattle.std.specs.List.{AllByRecursion}
use Rattle.std.proofs.lemmas.Bool.Decides.{nat_tests}
use Rattle.std.proofs.lemmas.List.Elements.{All-from_recursion, recursion_from_All}
use Rattle.authority_names.specs.Leads.{Table}
use Rattle.catalogue_editions.specs.declared.batch.Batch.{Batch}
use Rattle.catalogue_editions.specs.declared.history_entry.HistoryEntry.{HistoryEntry}
use Rattle.catalogue_lock.specs.Ended.{Ended}
use Rattle.catalogue_lock.specs.History.{changes_of}
use Rattle.catalogue_lock.specs.Rule.{EndedOk}
use Rattle.catalogue_query.specs.declared.answer.Answer.{Answer}
use Rattle.catalogue_query.specs.declared.query.Query.{Query}
use Rattle.catalogue_core.specs.Entries.{entries_of}
use Rattle.union_files.proofs.ListLaws.{all_both, each_place, each_weaker, element, first_of_both}
use Rattle.load_sessions.proofs.ReplyLaws.{replied_over}
use Rattle.union_files.specs.Courses.{Course, AreNumbered, ended_of}
use Rattle.catalogue_query.specs.Replies.{AreReplies}
use Rattle.union_files.proofs.InterleavingLaws.{each-at}
use Rattle.union_load.specs.Asked.{HasAsked}

abbrev Entries : Type 0
Entries = List (ℕ × Batch)

pub asked_over : (names : Table) (history : List HistoryEntry) (low known : ℕ) (questions : List Query) (replies : List (ℕ × Answer)) (left : Ended Batch)
    → EndedOk (entries_of history) left → low ≤ known → HasAsked names known questions replies left → AreReplies names history low questions replies
asked_over names history low known questions replies left ended least asked = record {
  replied = replied_over names left.seen (entries_of history) low known questions replies ended.seen least asked.replied;
  all = asked.all;
}

-- ---- whose the entries are

-- an entry of that number stands among the changes of the number
is-equal : (m n : ℕ) → m ≡ n → (m == n) ≡ true
is-equal m n h = grind (arith, nat_tests)

unnumbered : (n : ℕ) (entries : Entries) → changes_of n entries ≡ [] → AllByRecursion (λ entry. entry.0 ≢ n) entries
unnumbered n [] none = tt
unnumbered n (entry ∷ entries) none =
    elim (entry.0 == n) as (λ t. (entry.0 ≡ n → t ≡ true)
    → map (λ (e : ℕ × Batch). e.1) (cond t (entry ∷ filter (λ (e : ℕ × Batch). e.0 == n) entries) (filter (λ (e : ℕ × Batch). e.0 == n) entries)) ≡ []
    → AllByRecursion (λ entry. entry.0 ≢ n) (entry ∷ entries)) [
      | true ↦ λ tested none. cc
      | false ↦ λ tested none. ((λ is. (let clash : false ≡ true = tested is in cc)), unnumbered n entries none)
    ] (is-equal entry.0 n) none

-- a pass without changes made no entry
ended_idle : (history : Entries) (left : Ended Batch) (place : ℕ) (entry : ℕ × Batch) → EndedOk history left → left.own ≡ [] → slice_get history place ≡ Some entry
    → entry.0 ≢ left.number
ended_idle history left place entry ended idle at =
    each-at (λ entry. entry.0 ≢ left.number) history place entry (unnumbered left.number history (ended.own ∙ idle)) at

changes-both : (n : ℕ) (front back : Entries) → changes_of n (front ++ back) ≡ changes_of n front ++ changes_of n back
changes-both n [] back = refl
changes-both n (entry ∷ front) back =
    elim (entry.0 == n) as (λ t. map (λ (e : ℕ × Batch). e.1) (cond t (entry ∷ filter (λ (e : ℕ × Batch). e.0 == n) (front ++ back)) (filter (λ (e : ℕ × Batch). e.0 == n) (front ++ back)))
    ≡ map (λ (e : ℕ × Batch). e.1) (cond t (entry ∷ filter (λ (e : ℕ × Batch). e.0 == n) front) (filter (λ (e : ℕ × Batch). e.0 == n) front)) ++ changes_of n back)
    [ true ↦ ap (λ (rest : List Batch). entry.1 ∷ rest) (changes-both n front back) | false ↦ changes-both n front back ]

nothing-behind : (xs ys : List Batch) → xs ++ ys ≡ xs → ys ≡ []
nothing-behind [] ys same = same
nothing-behind (x ∷ xs) ys same = nothing-behind xs ys (cc)

behind_seen : (n : ℕ) (seen rest : Entries) (place : ℕ) (entry : ℕ × Batch) → slice_get (seen ++ rest) place ≡ Some entry → length seen ≤ place
    → AllByRecursion (λ entry. entry.0 ≢ n) rest → entry.0 ≢ n
behind_seen n [] rest place entry at behind all = each-at (λ entry. entry.0 ≢ n) rest place entry all at
behind_seen n (first ∷ seen) rest zero entry at behind all = absurd (omega (arith, behind))
behind_seen n (first ∷ seen) rest (suc place) entry at behind all = behind_seen n seen rest place entry at (omega (arith, behind)) all

-- nor did a pass after what it has seen
ended_behind : (history : Entries) (left : Ended Batch) (place : ℕ) (entry : ℕ × Batch) → EndedOk history left → length left.seen ≤ place
    → slice_get history place ≡ Some entry → entry.0 ≢ left.number
ended_behind history left place entry ended behind at =
    let rest = ended.seen.0 in
    let none : changes_of left.number rest ≡ [] = nothing-behind (changes_of left.number left.seen) (changes_of left.number rest)
    (sym (changes-both left.number left.seen rest) ∙ (ap (changes_of left.number) ended.seen.1 ∙ (ended.own ∙ sym ended.own_seen))) in
    behind_seen left.number left.seen rest place entry (subst (λ all. slice_get all place ≡ Some entry) (sym ended.seen.1) at) behind
    (unnumbered left.number rest none)

-- what follows of each follows of one
of_any : {A : Type 0} (P : A → Type 0) (Q : Type 0) (xs : List A) → Any P xs → AllByRecursion (λ x. P x → Q) xs → Q
of_any P Q xs one each =
    let here = All-from_recursion (λ x. P x → Q) xs each one.0 one.1 one.2 in subst (λ x. P x → Q) one.3 here one.4

last_of_both : {A : Type 0} (P : A → Type 0) (xs ys : List A) → AllByRecursion P (xs ++ ys) → AllByRecursion P ys
last_of_both P [] ys all = all
last_of_both P (x ∷ xs) ys all = last_of_both P xs ys all.1

both_each : {A : Type 0} (P Q R : A → Type 0) (xs : List A) → ((x : A) → P x → Q x → R x) → AllByRecursion P xs → AllByRecursion Q xs → AllByRecursion R xs
both_each P Q R [] follows ps qs = tt
both_each P Q R (x ∷ xs) follows ps qs = (follows x ps.0 qs.0, both_each P Q R xs follows ps.1 qs.1)

-- ---- a desk that was closed

-- what is so of the history of a desk that was closed, of whose passes the last two, an asker beside and a late one, made no turn
pub record IsClosed (history : Entries) (done : List (Ended Batch)) (beside late : Ended Batch) (made floor : ℕ) : Type 0 where
  pub ended : AllByRecursion (EndedOk history) done
  pub beside_ended : EndedOk history beside
  pub late_ended : EndedOk history late
  pub numbers : AllByRecursion (λ entry. entry.0 + 1 < made) history
  pub whole : length history ≤ floor

pub is-closed : (history : Entries) (done : List (Ended Batch)) (beside late : Ended Batch) (made known : ℕ)
    → All (EndedOk history) ((done ++ beside ∷ []) ++ late ∷ []) → All (λ entry. entry.0 < made + 1) history
    → ((n : ℕ) → n < made + 1 → Any (λ (left : Ended Batch). left.number ≡ n) ((done ++ beside ∷ []) ++ late ∷ []))
    → AllByRecursion (λ left. left.number + 1 < made) done → AllByRecursion (λ left. length left.seen ≤ known) (done ++ beside ∷ [])
    → beside.own ≡ [] → late.own ≡ [] → IsClosed history done beside late made known
is-closed history done beside late made known ended made_by numbers few seen idle idle_late =
    let all = (done ++ beside ∷ []) ++ late ∷ [] in
    let ends : AllByRecursion (EndedOk history) all = recursion_from_All (EndedOk history) all ended in
    let ends_front : AllByRecursion (EndedOk history) (done ++ beside ∷ []) = first_of_both (EndedOk history) (done ++ beside ∷ []) (late ∷ []) ends in
    let ends_done : AllByRecursion (EndedOk history) done = first_of_both (EndedOk history) done (beside ∷ []) ends_front in
    let ends_beside : EndedOk history beside = (last_of_both (EndedOk history) done (beside ∷ []) ends_front).0 in
    let ends_late : EndedOk history late = (last_of_both (EndedOk history) (done ++ beside ∷ []) (late ∷ []) ends).0 in
    let low : AllByRecursion (λ (entry : ℕ × Batch). entry.0 < made + 1) history = recursion_from_All (λ entry. entry.0 < made + 1) history made_by in
    let below : (place : ℕ) (entry : ℕ × Batch) → slice_get history place ≡ Some entry → entry.0 + 1 < made = λ place entry at.
    of_any (λ (left : Ended Batch). left.number ≡ entry.0) (entry.0 + 1 < made) all (numbers entry.0 (each-at (λ entry. entry.0 < made + 1) history place entry low at))
    (all_both (λ (left : Ended Batch). left.number ≡ entry.0 → entry.0 + 1 < made) (done ++ beside ∷ []) (late ∷ [])
    (all_both (λ (left : Ended Batch). left.number ≡ entry.0 → entry.0 + 1 < made) done (beside ∷ [])
    (each_weaker (λ (left : Ended Batch). left.number + 1 < made) (λ left. left.number ≡ entry.0 → entry.0 + 1 < made) done (λ left h is. subst (λ n. n + 1 < made) is h) few)
    ((λ is. absurd (ended_idle history beside place entry ends_beside idle at (sym is))), tt))
    ((λ is. absurd (ended_idle history late place entry ends_late idle_late at (sym is))), tt)) in
    record {
      ended = ends_done;
      beside_ended = ends_beside;
      late_ended = ends_late;
      numbers = each_place (λ entry. entry.0 + 1 < made) history below;
      whole = at_most (nat_le (length history) known) refl
          (λ entry at. of_any (λ (left : Ended Batch). left.number ≡ entry.0) ⊥ all (numbers entry.0 (each-at (λ entry. entry.0 < made + 1) history known entry low at))
          (all_both (λ (left : Ended Batch). left.number ≡ entry.0 → ⊥) (done ++ beside ∷ []) (late ∷ [])
          (both_each (EndedOk history) (λ (left : Ended Batch). length left.seen ≤ known) (λ left. left.number ≡ entry.0 → ⊥) (done ++ beside ∷ [])
          (λ left end behind is. ended_behind history left known entry end behind at (sym is)) ends_front seen)
          ((λ is. ended_idle history late known entry ends_late idle_late at (sym is)), tt)));
    }
  where
    is-within : (m n : ℕ) → nat_le m n ≡ true → m ≤ n
    is-within m n h = grind (arith, nat_tests)

    is-beyond : (m n : ℕ) → nat_le m n ≡ false → n < m
    is-beyond m n h = grind (arith, nat_tests)

    at_most : (t : Bool) → nat_le (length history) known ≡ t → ((entry : ℕ × Batch) → slice_get history known ≡ Some entry → ⊥) → length history ≤ known
    at_most true is none = is-within (length history) known is
    at_most false is none = (let at = element history known (is-beyond (length history) known is) in absurd (none at.0 at.1))

-- the numbers of sessions are below that of the asker
pub numbered_below : (first : ℕ) (courses : List Course) (made : ℕ) → AreNumbered first courses → first + length courses + 1 ≤ made
    → AllByRecursion (λ left. left.number + 1 < made) (map ended_of courses)
numbered_below first [] made numbers few = tt
numbered_below first (course ∷ courses) made numbers few =
    ((let is : course.number ≡ first = numbers.0 in omega (arith, few)), numbered_below (suc first) courses made numbers.1 (omega (arith, few)))
