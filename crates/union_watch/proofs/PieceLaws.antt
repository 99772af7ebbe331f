-- A text that is written in pieces, of which the last may still be pending.
use Rattle.std.proofs.Common.{◌≡◌, ℕ, ◌+◌, suc, List, [], ◌∷◌, ◌++◌, drop, sym, ap, ◌∙◌, refl, add-one, drop-cons, append-nil}
use Rattle.std.specs.Prelude.{Result, Ok, Err, Some, slice_get}
use Rattle.std.specs.declared.option.Option.{Option}
use Rattle.std.proofs.lemmas.Option.{get_or_from_slice_get, slice_get_within}
use Rattle.catalogue_export.specs.Writing.{IsWrittenTo, HasMoved, HasWritten}
use Rattle.catalogue_export.specs.declared.export_fail.ExportFail.{ExportFail}
use Rattle.catalogue_export.specs.declared.export_fail.ExportFail.TheVariants.{WriteFault}
use Rattle.catalogue_export.proofs.WritingLaws.{Appends-nothing, moved-more, rest-written, stopped-written}

abbrev pub Known : Type 0
Known = Option (List ℕ)

-- nothing is written yet of what is pending
pub pending-all : (written : Known) (pending : List ℕ) → IsWrittenTo pending pending written written
pending-all written pending = record { front = []; split = refl; grown = Appends-nothing written }

-- the writing came to its end, but for what is pending
pub moved-all : (old new : Known) (before after : ℕ) (text rest : List ℕ) → IsWrittenTo text rest old new → after ≡ before
    → HasMoved text rest (record { old = old; new = new; before = before; after = after }) (Ok tt)
moved-all old new before after text rest so_far same = record {
  written = so_far;
  failed = λ f. (let clash : Ok tt ≡ Err WriteFault = f in cc);
  calm = λ f. same;
}

-- the writing of more text stops half-way, and so does that of the whole
pub moved-stops : (old mid new : Known) (before middle after : ℕ) (text pending more rest whole later last : List ℕ) (fail : ExportFail)
    → IsWrittenTo text pending old mid → middle ≡ before
    → HasMoved (pending ++ more) rest (record { old = mid; new = new; before = middle; after = after }) (Err fail)
    → whole ≡ text ++ (more ++ later) → HasMoved whole last (record { old = old; new = new; before = before; after = after }) (Err fail)
moved-stops old mid new before middle after text pending more rest whole later last fail so_far calm moved is =
    let stopped = stopped-written old mid new before middle after text pending more rest whole later fail so_far calm moved is in
    record { written = stopped.written; failed = stopped.failed; calm = stopped.calm }

-- what is left from a place on begins with what stands there
pub left-from : {X : Type 0} (xs : List X) (place : ℕ) (x : X) → slice_get xs place ≡ Some x → drop place xs ≡ x ∷ drop (place + 1) xs
left-from xs place x at =
    drop-cons xs place x (slice_get_within xs place x at) ∙ ap (λ y. y ∷ drop (suc place) xs) (get_or_from_slice_get xs place x x at)
    ∙ ap (λ n. x ∷ drop n xs) (sym (add-one place))

-- one text is written, another after it, and then the rest
pub both-written : (old a b new : Known) (n₀ n₁ n₂ n₃ : ℕ) (first pending second rest : List ℕ) (result : Result (Unit {0}) ExportFail)
    → HasMoved first pending (record { old = old; new = a; before = n₀; after = n₁ }) (Ok tt)
    → HasMoved (pending ++ second) rest (record { old = a; new = b; before = n₁; after = n₂ }) (Ok tt)
    → HasWritten rest (record { old = b; new = new; before = n₂; after = n₃ }) result
    → HasWritten (first ++ second) (record { old = old; new = new; before = n₀; after = n₃ }) result
both-written old a b new n₀ n₁ n₂ n₃ first pending second rest result one two three =
    rest-written old b new n₀ n₂ n₃ (first ++ second) rest result (moved-more old a b first pending second rest n₁ n₂ one.written two)
    (two.calm (λ is. cc) ∙ one.calm (λ is. cc)) three

-- one text is written, and the writing of another stops half-way
pub second-stops : (old a b : Known) (n₀ n₁ n₂ : ℕ) (first pending second rest : List ℕ) (fail : ExportFail)
    → HasMoved first pending (record { old = old; new = a; before = n₀; after = n₁ }) (Ok tt)
    → HasMoved (pending ++ second) rest (record { old = a; new = b; before = n₁; after = n₂ }) (Err fail)
    → HasWritten (first ++ second) (record { old = old; new = b; before = n₀; after = n₂ }) (Err fail)
second-stops old a b n₀ n₁ n₂ first pending second rest fail one two =
    stopped-written old a b n₀ n₁ n₂ first pending second rest (first ++ second) [] fail one.written (one.calm (λ is. cc)) two
    (ap (λ text. first ++ text) (sym (append-nil second)))
