-- What is told of the lines of a file of questions by replies to its questions.
use Rattle.std.proofs.Common.{◌≡◌, ℕ, ◌+◌, ◌-◌, ◌≤◌, ◌==◌, Bool, true, false, cond, List, [], ◌∷◌, ◌++◌, zero, suc, length, map, take, drop, refl, sym, ap, subst, ◌∙◌, arith, length-append, take-append-drop, get_or, ◌<◌, drop-cons, add-one, append_assoc}
use Rattle.std.specs.Prelude.{Option, Result, Ok, Err}
use Rattle.std.specs.List.{AllByRecursion, flat_map}
use Rattle.std.proofs.Math.Seq.{drop-append_seam}
use Rattle.std.proofs.lemmas.List.{length-map, length-drop, length-take, map-append}
use Rattle.std.proofs.lemmas.Grind.{flat_map-append}
use Rattle.union_watch.specs.declared.ask_line.AskLine.{AskLine as LineInPlace}
use Rattle.authority_names.specs.Leads.{Table}
use Rattle.catalogue_editions.specs.declared.batch.Batch.{Batch}
use Rattle.catalogue_editions.specs.declared.history_entry.HistoryEntry.{HistoryEntry}
use Rattle.catalogue_export.specs.Writing.{IsWrittenTo, HasMoved}
use Rattle.catalogue_export.proofs.WritingLaws.{moved-more}
use Rattle.catalogue_query.specs.Queries.{query_of}
use Rattle.catalogue_query.specs.declared.answer.Answer.{Answer}
use Rattle.catalogue_query.specs.declared.query.Query.{Query}
use Rattle.catalogue_query.specs.declared.query.QueryRefusal.{QueryRefusal}
use Rattle.catalogue_query.specs.Replies.{Replied, tells}
use Rattle.catalogue_core.specs.Entries.{entries_of, history_of}
use Rattle.catalogue_query.specs.LineTexts.{IsAnswer, ended_lines}
use Rattle.union_watch.specs.AskLines.{line_meaning, with_line, read_line, given, question_of, asked_lines, lines_in, questions_in}
use Rattle.union_watch.specs.Lateness.{late, beside, NeverFall, AreTimely}
use Rattle.union_watch.specs.Told.{Told, Reply, Refused, IsToldOf, AreTold, numbers_of, told_of, told_first, left_behind, told_text, told_text_of}

-- the first entries of a history are the history of its first entries
first-entries : (n : ℕ) (history : List HistoryEntry) → history_of (take n (entries_of history)) ≡ take n history
first-entries zero history = refl
first-entries (suc n) [] = refl
first-entries (suc n) (entry ∷ history) = ap (λ (h : List HistoryEntry). entry ∷ h) (first-entries n history)

answer-is : (names : Table) (history : List HistoryEntry) (query : Query) (reply : ℕ × Answer) → tells names (take reply.0 (entries_of history)) query reply.1
    → IsAnswer names query (take reply.0 history) (ended_lines reply.1.lines)
answer-is names history query reply says =
    subst (λ front. IsAnswer names query front (ended_lines reply.1.lines)) (first-entries reply.0 history)
    (record { editions = says.0; resolved = says.1; answer = ap ended_lines says.2 })

abbrev numbers : List (ℕ × Answer) → List ℕ
numbers replies = map (λ (reply : ℕ × Answer). reply.0) replies

-- what is told by the replies to the questions of lines
record Tells (names : Table) (history : List HistoryEntry) (lines : List (List ℕ)) (told : List Told) (replies : List (ℕ × Answer)) : Type 0 where
  told_is : AreTold names history lines told
  numbers_are : numbers_of told ≡ numbers replies

abbrev TellsAll : Table → List HistoryEntry → List (List ℕ) → Type 0
TellsAll names history lines = (known : ℕ) (replies : List (ℕ × Answer)) → Replied names (entries_of history) known (flat_map question_of lines) replies
    → length replies ≡ length (flat_map question_of lines) → Tells names history lines (told_of (map read_line lines) replies) replies

tells-more : (names : Table) (history : List HistoryEntry) (line : List ℕ) (lines : List (List ℕ)) (found : Result Query QueryRefusal) → query_of line ≡ found
    → TellsAll names history lines → (known : ℕ) (replies : List (ℕ × Answer))
    → Replied names (entries_of history) known (given found ++ flat_map question_of lines) replies
    → length replies ≡ length (given found ++ flat_map question_of lines)
    → Tells names history (line ∷ lines) (told_of (with_line line found ∷ map read_line lines) replies) replies
tells-more names history line lines (Ok query) is behind known [] replied long = absurd (omega (arith, long))
tells-more names history line lines (Ok query) is behind known (reply ∷ replies) replied long =
    let rest = behind reply.0 replies replied.3 (omega (arith, long)) in record {
      told_is = (subst (λ found. IsToldOf names history line found (Reply reply.0 line (ended_lines reply.1.lines))) (sym is) (refl, answer-is names history query reply replied.2), rest.told_is);
      numbers_are = ap (λ (ns : List ℕ). reply.0 ∷ ns) rest.numbers_are;
    }
tells-more names history line lines (Err refusal) is behind known replies replied long =
    let rest = behind known replies replied long in record {
      told_is = (subst (λ found. IsToldOf names history line found (Refused refusal)) (sym is) refl, rest.told_is);
      numbers_are = rest.numbers_are;
    }

tells-all : (names : Table) (history : List HistoryEntry) (lines : List (List ℕ)) → TellsAll names history lines
tells-all names history [] known [] replied long = record { told_is = tt; numbers_are = refl }
tells-all names history [] known (reply ∷ replies) replied long = absurd replied
tells-all names history (line ∷ lines) known replies replied long =
    tells-more names history line lines (query_of line) refl (tells-all names history lines) known replies replied long

-- the numbers of replies never fall
never-fall : (names : Table) (history : List (ℕ × Batch)) (known : ℕ) (questions : List Query) (replies : List (ℕ × Answer))
    → Replied names history known questions replies → NeverFall known (length history) (numbers replies)
never-fall names history known questions [] replied = tt
never-fall names history known [] (reply ∷ replies) replied = absurd replied
never-fall names history known (question ∷ questions) (reply ∷ replies) replied =
    (replied.0, replied.1, never-fall names history reply.0 questions replies replied.3)

-- those to late questions are that of all turns
all-late : (names : Table) (history : List (ℕ × Batch)) (known : ℕ) (questions : List Query) (replies : List (ℕ × Answer)) → length history ≤ known
    → Replied names history known questions replies → AllByRecursion (λ number. number ≡ length history) (numbers replies)
all-late names history known questions [] past replied = tt
all-late names history known [] (reply ∷ replies) past replied = absurd replied
all-late names history known (question ∷ questions) (reply ∷ replies) past replied =
    (omega (arith, replied.0, replied.1), all-late names history reply.0 questions replies (omega (arith, replied.0)) replied.3)

-- replies that know more know also less
replied-lower : (names : Table) (history : List (ℕ × Batch)) (low known : ℕ) (questions : List Query) (replies : List (ℕ × Answer)) → low ≤ known
    → Replied names history known questions replies → Replied names history low questions replies
replied-lower names history low known questions [] under replied = tt
replied-lower names history low known [] (reply ∷ replies) under replied = absurd replied
replied-lower names history low known (question ∷ questions) (reply ∷ replies) under replied =
    (omega (arith, replied.0), replied.1, replied.2, replied.3)

-- late replies after others
replied-behind : (names : Table) (history : List (ℕ × Batch)) (known : ℕ) (first later : List Query) (replies more : List (ℕ × Answer)) → known ≤ length history
    → Replied names history known first replies → length replies ≡ length first → Replied names history (length history) later more
    → Replied names history known (first ++ later) (replies ++ more)
replied-behind names history known [] later [] more within replied long behind = replied-lower names history known (length history) later more within behind
replied-behind names history known [] later (reply ∷ replies) more within replied long behind = absurd replied
replied-behind names history known (question ∷ first) later [] more within replied long behind = absurd (omega (arith, long))
replied-behind names history known (question ∷ first) later (reply ∷ replies) more within replied long behind =
    (replied.0, replied.1, replied.2, replied-behind names history reply.0 first later replies more replied.1 replied.3 (omega (arith, long)) behind)

-- what is beside, and after it what is late, is all
pub beside-late : {X : Type 0} (workers : ℕ) (all : List X) → beside workers all ++ late workers all ≡ all
beside-late workers all =
    elim (workers == 1) as (λ one. cond one [] (take (length all - 1) all) ++ cond one all (drop (length all - 1) all) ≡ all)
    [ true ↦ refl | false ↦ take-append-drop (length all - 1) all ]

-- the late numbers of replies to divided questions are those of the late ones
late-are : (one : Bool) (all : List Query) (first later : List ℕ) → length first ≡ length (cond one [] (take (length all - 1) all))
    → length later ≡ length (cond one all (drop (length all - 1) all))
    → cond one (first ++ later) (drop (length (first ++ later) - 1) (first ++ later)) ≡ later
late-are true all [] later none long = refl
late-are true all (number ∷ first) later none long = absurd (omega (arith, none))
late-are false all first later front long =
    let at : length (first ++ later) - 1 ≡ length first
    = omega (arith, length-append first later, front, long, length-take (length all - 1) all, length-drop (length all - 1) all) in
    ap (λ n. drop n (first ++ later)) at ∙ drop-append_seam first later

-- the replies to the questions of a file, which were divided by the number of workers: what is told of its lines, and over how
-- many turns
pub told-watched : (names : Table) (workers : ℕ) (asks : List ℕ) (history : List HistoryEntry) (first later : List (ℕ × Answer))
    → Replied names (entries_of history) 0 (beside workers (questions_in asks)) first → length first ≡ length (beside workers (questions_in asks))
    → Replied names (entries_of history) (length history) (late workers (questions_in asks)) later → length later ≡ length (late workers (questions_in asks))
    → AreTold names history (asked_lines asks) (told_of (lines_in asks) (first ++ later))
    × AreTimely workers (length history) (numbers_of (told_of (lines_in asks) (first ++ later)))
told-watched names workers asks history first later beside_is beside_long late_is late_long =
    let entries = entries_of history in
    let questions = questions_in asks in
    let turns : length entries ≡ length history = length-map history (λ (entry : HistoryEntry). (entry.pass, entry.batch)) in
    let late_all : Replied names entries (length entries) (late workers questions) later
    = subst (λ n. Replied names entries n (late workers questions) later) (sym turns) late_is in
    let both : Replied names entries 0 questions (first ++ later)
    = subst (λ qs. Replied names entries 0 qs (first ++ later)) (beside-late workers questions)
    (replied-behind names entries 0 (beside workers questions) (late workers questions) first later (omega arith) beside_is beside_long late_all) in
    let long : length (first ++ later) ≡ length questions
    = length-append first later ∙ (ap (λ n. n + length later) beside_long ∙ (ap (λ n. length (beside workers questions) + n) late_long
    ∙ (sym (length-append (beside workers questions) (late workers questions)) ∙ ap length (beside-late workers questions)))) in
    let tells = tells-all names history (asked_lines asks) 0 (first ++ later) both long in
    let those : numbers (first ++ later) ≡ numbers first ++ numbers later = map-append (λ (reply : ℕ × Answer). reply.0) first later in (
      tells.told_is,
      record {
        never_fall =
            subst (NeverFall 0 (length history)) (sym tells.numbers_are)
            (subst (λ n. NeverFall 0 n (numbers (first ++ later))) turns (never-fall names entries 0 questions (first ++ later) both));
        late =
            let last : late workers (numbers (first ++ later)) ≡ numbers later
            = ap (late workers) those
            ∙ late-are (workers == 1) questions (numbers first) (numbers later)
            (length-map first (λ (reply : ℕ × Answer). reply.0) ∙ beside_long) (length-map later (λ (reply : ℕ × Answer). reply.0) ∙ late_long) in
            subst (λ ns. AllByRecursion (λ number. number ≡ length history) (late workers ns)) (sym tells.numbers_are)
            (subst (AllByRecursion (λ number. number ≡ length history)) (sym last)
            (subst (λ n. AllByRecursion (λ number. number ≡ n) (numbers later)) turns
            (all-late names entries (length entries) (late workers questions) later (omega arith) late_all)));
      },
    )

-- what is told of the lines from a place on begins with what is told of the line there
pub told-next : (lines : List LineInPlace) (place : ℕ) (other : LineInPlace) (replies : List (ℕ × Answer)) → place < length lines
    → told_text_of (told_of (map line_meaning (drop place lines)) replies)
    ≡ told_text_of (told_first (line_meaning (get_or lines place other)) replies)
    ++ told_text_of (told_of (map line_meaning (drop (place + 1) lines)) (left_behind (line_meaning (get_or lines place other)) replies))
told-next lines place other replies within =
    let line = line_meaning (get_or lines place other) in
    ap (λ left. told_text_of (told_of (map line_meaning left) replies)) (drop-cons lines place other within)
    ∙ flat_map-append told_text (told_first line replies) (told_of (map line_meaning (drop (suc place) lines)) (left_behind line replies))
    ∙ ap (λ n. told_text_of (told_first line replies) ++ told_text_of (told_of (map line_meaning (drop n lines)) (left_behind line replies))) (sym (add-one place))

-- what is told of the lines before a place was written, or is pending, and what is told of the others makes up the whole
pub record Goes (whole_text : List ℕ) (lines : List LineInPlace) (replies : List (ℕ × Answer)) (pending : List ℕ) (old now : Option (List ℕ)) : Type 0 where
  pub text : List ℕ
  pub whole : whole_text ≡ text ++ told_text_of (told_of (map line_meaning lines) replies)
  pub moved : IsWrittenTo text pending old now

pub told-moved : (lines : List LineInPlace) (place : ℕ) (other : LineInPlace) (replies left : List (ℕ × Answer)) (whole text pending rest : List ℕ)
    (old mid now : Option (List ℕ)) (before after : ℕ) → place < length lines
    → whole ≡ text ++ told_text_of (told_of (map line_meaning (drop place lines)) replies) → IsWrittenTo text pending old mid
    → HasMoved (pending ++ told_text_of (told_first (line_meaning (get_or lines place other)) replies)) rest (record { old = mid; new = now; before = before; after = after }) (Ok tt)
    → left ≡ left_behind (line_meaning (get_or lines place other)) replies
    → Goes whole (drop (place + 1) lines) left rest old now
told-moved lines place other replies left whole text pending rest old mid now before after within whole_is moved more left_is =
    let first = told_text_of (told_first (line_meaning (get_or lines place other)) replies) in
    let others : List (ℕ × Answer) → List ℕ = λ replies. told_text_of (told_of (map line_meaning (drop (place + 1) lines)) replies) in
    record {
      text = text ++ first;
      whole =
          whole_is ∙ ap (λ told. text ++ told) (told-next lines place other replies within)
          ∙ sym (append_assoc text first (others (left_behind (line_meaning (get_or lines place other)) replies)))
          ∙ ap (λ replies. (text ++ first) ++ others replies) (sym left_is);
      moved = moved-more old mid now text pending first rest before after moved more;
    }
