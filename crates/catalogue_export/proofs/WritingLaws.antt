-- A text that is written piece by piece.
use Rattle.std.proofs.Common.{◌≡◌, ◌≤◌, ℕ, ◌+◌, List, [], ◌++◌, length, take, sym, ap, subst, ◌∙◌, append_assoc, append-nil, arith, length-append, refl}
use Rattle.std.specs.Prelude.{Result, Ok, Err}
use Rattle.std.proofs.KnownBytes.{Appends-trans}
use Rattle.std.proofs.Math.Seq.{take-append-add}
use Rattle.std.proofs.lemmas.List.{take-append-le, take_all}
use Rattle.std.specs.declared.option.Option.{Option}
use Rattle.std.specs.declared.option.Option.TheVariants.{Some, None}
use Rattle.std.specs.Io.KnownBytes.{Appends}
use Rattle.union_io.specs.Writing.{AppendsFront}
use Rattle.std.specs.Prelude.{OnOk, OnErr}
use Rattle.union_io.specs.Causes.{Rose}
use Rattle.catalogue_export.specs.Writing.{IsWrittenTo, HasMoved, HasWritten, GainsFront}
use Rattle.catalogue_export.specs.declared.export_fail.ExportFail.{ExportFail}
use Rattle.catalogue_export.specs.declared.export_fail.ExportFail.TheVariants.{Memory}

pub Appends-nothing : (written : Option (List ℕ)) → Appends written written []
Appends-nothing None = tt
Appends-nothing (Some bytes) = sym (append-nil bytes)

-- nothing is written yet of no text
pub written-none : (written : Option (List ℕ)) → IsWrittenTo [] [] written written
written-none written = record { front = []; split = refl; grown = Appends-nothing written }

-- more text was pending, and a prefix of it was written
pub written-more : (old mid new : Option (List ℕ)) (text pending more rest : List ℕ) → IsWrittenTo text pending old mid
    → IsWrittenTo (pending ++ more) rest mid new → IsWrittenTo (text ++ more) rest old new
written-more old mid new text pending more rest a b = record {
  front = a.front ++ b.front;
  split = ap (λ t. t ++ more) a.split ∙ append_assoc a.front pending more ∙ ap (λ t. a.front ++ t) b.split ∙ sym (append_assoc a.front b.front rest);
  grown = Appends-trans old mid new a.front b.front a.grown b.grown;
}

-- a prefix of what was pending was written, and so a prefix of the whole text
pub front-more : (old mid new : Option (List ℕ)) (text pending more whole later : List ℕ) → IsWrittenTo text pending old mid
    → AppendsFront mid new (pending ++ more) → whole ≡ text ++ (more ++ later) → AppendsFront old new whole
front-more old mid new text pending more whole later a b is =
    let split : whole ≡ a.front ++ ((pending ++ more) ++ later) =
    is ∙ ap (λ t. t ++ (more ++ later)) a.split ∙ append_assoc a.front pending (more ++ later)
    ∙ ap (λ t. a.front ++ t) (sym (append_assoc pending more later)) in
    let within : length a.front + b.0 ≤ length whole =
    omega (arith, b.1, ap length split, length-append a.front ((pending ++ more) ++ later), length-append (pending ++ more) later) in
    let is_front : take (length a.front + b.0) whole ≡ a.front ++ take b.0 (pending ++ more) =
    ap (take (length a.front + b.0)) split ∙ take-append-add a.front ((pending ++ more) ++ later) b.0
    ∙ ap (λ t. a.front ++ t) (take-append-le b.0 (pending ++ more) later b.1) in
    (length a.front + b.0, within, subst (Appends old new) (sym is_front) (Appends-trans old mid new a.front (take b.0 (pending ++ more)) a.grown b.2))

-- what was pending was written, and so the whole text
pub all-written : (old mid new : Option (List ℕ)) (text pending : List ℕ) → IsWrittenTo text pending old mid → Appends mid new pending
    → Appends old new text
all-written old mid new text pending a b = subst (Appends old new) (sym a.split) (Appends-trans old mid new a.front pending a.grown b)

-- the writing of more text stops half-way, and so does the writing of the whole
pub stopped-written : (old mid new : Option (List ℕ)) (before middle after : ℕ) (text pending more rest whole later : List ℕ) (fail : ExportFail)
    → IsWrittenTo text pending old mid → middle ≡ before
    → HasMoved (pending ++ more) rest (record { old = mid; new = new; before = middle; after = after }) (Err fail)
    → whole ≡ text ++ (more ++ later) → HasWritten whole (record { old = old; new = new; before = before; after = after }) (Err fail)
stopped-written old mid new before middle after text pending more rest whole later fail so_far calm moved is = record {
  written = front-more old mid new text pending more whole later so_far moved.written is;
  failed = λ f. subst (λ n. Rose n after) calm (moved.failed f);
  calm = λ f. moved.calm f ∙ calm;
}

-- more text was written, but for what is pending
pub moved-more : (old mid new : Option (List ℕ)) (text pending more rest : List ℕ) (before after : ℕ) → IsWrittenTo text pending old mid
    → HasMoved (pending ++ more) rest (record { old = mid; new = new; before = before; after = after }) (Ok tt) → IsWrittenTo (text ++ more) rest old new
moved-more old mid new text pending more rest before after so_far moved = written-more old mid new text pending more rest so_far moved.written

-- the rest was written, or a prefix of it
pub rest-written : (old mid new : Option (List ℕ)) (before middle after : ℕ) (text pending : List ℕ) (result : Result (Unit {0}) ExportFail)
    → IsWrittenTo text pending old mid → middle ≡ before
    → HasWritten pending (record { old = mid; new = new; before = middle; after = after }) result
    → HasWritten text (record { old = old; new = new; before = before; after = after }) result
rest-written old mid new before middle after text pending (Ok done) so_far calm end = record {
  written = all-written old mid new text pending so_far end.written;
  failed = λ f. subst (λ n. Rose n after) calm (end.failed f);
  calm = λ f. end.calm f ∙ calm;
}
rest-written old mid new before middle after text pending (Err fail) so_far calm end = record {
  written = front-more old mid new text pending [] text [] so_far (subst (AppendsFront mid new) (sym (append-nil pending)) end.written) (sym (append-nil text));
  failed = λ f. subst (λ n. Rose n after) calm (end.failed f);
  calm = λ f. end.calm f ∙ calm;
}

pub on-ok : {T E P : Type 0} (result : Result T E) → P → OnOk result P
on-ok (Ok value) holds = holds
on-ok (Err error) holds = tt

-- a list that stays as it was, or gains all
pub gains-none : {A : Type 0} (old new more : List A) → new ≡ old → GainsFront old new more
gains-none old new more same = record { front = []; rest = more; split = refl; grown = same ∙ sym (append-nil old) }

-- what it gained is taken back
pub taken-back : {A : Type 0} (had : ℕ) (old new more : List A) → had ≡ length old → GainsFront old new more → take had new ≡ old
taken-back had old new more is gained =
    ap (take had) gained.grown ∙ (take-append-le had old gained.front (omega (arith, is)) ∙ take_all had old (omega (arith, is)))

pub gains-all : {A : Type 0} (old new more : List A) → new ≡ old ++ more → GainsFront old new more
gains-all old new more is = record { front = more; rest = []; split = sym (append-nil more); grown = is }

-- a list that gained some of these, and then a prefix of the next, has gained a prefix of all
pub gains-more : {A : Type 0} (old mid new before more later whole : List A) → mid ≡ old ++ before → GainsFront mid new more
    → whole ≡ before ++ (more ++ later) → GainsFront old new whole
gains-more old mid new before more later whole so_far gained is = record {
  front = before ++ gained.front;
  rest = gained.rest ++ later;
  split = is ∙ ap (λ l. before ++ (l ++ later)) gained.split ∙ ap (λ l. before ++ l) (append_assoc gained.front gained.rest later)
      ∙ sym (append_assoc before gained.front (gained.rest ++ later));
  grown = gained.grown ∙ ap (λ l. l ++ gained.front) so_far ∙ append_assoc old before gained.front;
}

-- what stops has gained a prefix, where what goes on has gained all
pub on-err : {T E : Type 0} {P : Type 0} (result : Result T E) → P → OnErr result P
on-err (Ok value) p = tt
on-err (Err fail) p = p

-- where nothing was begun, nothing was written, and no write failed
pub none-written : (written : Option (List ℕ)) (faults : ℕ) (text : List ℕ)
    → HasWritten text (record { old = written; new = written; before = faults; after = faults }) (Err Memory)
none-written written faults text = record {
  written = (0, omega arith, Appends-nothing written);
  failed = λ is. cc;
  calm = λ is. refl;
}
