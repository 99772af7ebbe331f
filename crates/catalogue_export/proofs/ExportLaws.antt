-- An export that is written list by list.
use Rattle.std.proofs.Common.{◌≡◌, ℕ, Bor, List, [], ◌++◌, map, refl, sym, ap, subst, ◌∙◌, append_assoc, append-nil}
use Rattle.std.specs.Prelude.{Result, Ok, Err, OnOk, OnErr}
use Rattle.std.specs.List.{flat_map}
use Rattle.std.specs.declared.option.Option.{Option}
use Rattle.std.proofs.lemmas.Grind.{flat_map-append}
use Rattle.std.proofs.lemmas.List.{map-append}
use Rattle.catalogue_export.specs.Writing.{HasWritten, GainsFront, Output, IsExport}
use Rattle.catalogue_export.specs.declared.export_fail.ExportFail.{ExportFail}
use Rattle.catalogue_export.specs.declared.export_fail.ExportFail.TheVariants.{Memory}
use Rattle.catalogue_export.proofs.WritingLaws.{Appends-nothing, written-none, front-more, rest-written, none-written, gains-none, gains-more}

-- before the first list nothing is written
pub export-begin : {X Y : Type 0} (told : X → List ℕ) (noted : X → List Y) (written : Option (List ℕ)) (faults : ℕ) (left : List Y)
    → IsExport told noted [] (record { old = written; new = written; before = faults; after = faults }) left left (Ok tt)
export-begin told noted written faults left = record {
  written = record { written = Appends-nothing written; failed = λ is. cc; calm = λ is. refl };
  gained = sym (append-nil left);
  stopped = tt;
}

-- where nothing was begun, nothing was written
pub export-unmade : {X Y : Type 0} (told : X → List ℕ) (noted : X → List Y) (all : List X) (written : Option (List ℕ)) (faults : ℕ) (left : List Y)
    → IsExport told noted all (record { old = written; new = written; before = faults; after = faults }) left left (Err Memory)
export-unmade told noted all written faults left = record {
  written = none-written written faults (flat_map told all);
  gained = tt;
  stopped = gains-none left left (flat_map noted all) refl;
}

gained-then : {T E Y : Type 0} (result : Result T E) (old mid new before more whole : List Y) → whole ≡ before ++ more → mid ≡ old ++ before
    → OnOk result (new ≡ mid ++ more) → OnOk result (new ≡ old ++ whole)
gained-then (Ok value) old mid new before more whole is first second =
    second ∙ ap (λ l. l ++ more) first ∙ append_assoc old before more ∙ ap (λ l. old ++ l) (sym is)
gained-then (Err fail) old mid new before more whole is first second = tt

stopped-then : {T E Y : Type 0} (result : Result T E) (old mid new before more whole : List Y) → whole ≡ before ++ more → mid ≡ old ++ before
    → OnErr result (GainsFront mid new more) → OnErr result (GainsFront old new whole)
stopped-then (Ok value) old mid new before more whole is first second = tt
stopped-then (Err fail) old mid new before more whole is first second =
    gains-more old mid new before more [] whole first second (is ∙ ap (λ l. before ++ l) (sym (append-nil more)))

-- one list was exported, and then another one as far as it came
pub export-then : {X Y : Type 0} (told : X → List ℕ) (noted : X → List Y) (xs ys : List X) (old mid new : Option (List ℕ)) (before middle after : ℕ)
    (left more most : List Y) (result : Result (Unit {0}) ExportFail)
    → IsExport told noted xs (record { old = old; new = mid; before = before; after = middle }) left more (Ok tt)
    → IsExport told noted ys (record { old = mid; new = new; before = middle; after = after }) more most result
    → IsExport told noted (xs ++ ys) (record { old = old; new = new; before = before; after = after }) left most result
export-then told noted xs ys old mid new before middle after left more most result first second =
    let out : Output = record { old = old; new = new; before = before; after = after } in
    record {
      written = subst (λ text. HasWritten text out result) (sym (flat_map-append told xs ys))
          (rest-written old mid new before middle after (flat_map told xs ++ flat_map told ys) (flat_map told ys) result
          (record { front = flat_map told xs; split = refl; grown = first.written.written }) (first.written.calm (λ is. cc)) second.written);
      gained = gained-then result left more most (flat_map noted xs) (flat_map noted ys) (flat_map noted (xs ++ ys)) (flat_map-append noted xs ys) first.gained second.gained;
      stopped = stopped-then result left more most (flat_map noted xs) (flat_map noted ys) (flat_map noted (xs ++ ys)) (flat_map-append noted xs ys) first.gained second.stopped;
    }

-- the export of a list stopped, and so did that of a longer one
pub export-stops : {X Y : Type 0} (told : X → List ℕ) (noted : X → List Y) (xs ys : List X) (old new : Option (List ℕ)) (before after : ℕ)
    (left most : List Y) (fail : ExportFail)
    → IsExport told noted xs (record { old = old; new = new; before = before; after = after }) left most (Err fail)
    → IsExport told noted (xs ++ ys) (record { old = old; new = new; before = before; after = after }) left most (Err fail)
export-stops told noted xs ys old new before after left most fail first = record {
  written = record {
    written = front-more old old new [] [] (flat_map told xs) (flat_map told (xs ++ ys)) (flat_map told ys) (written-none old) first.written.written
        (flat_map-append told xs ys);
    failed = first.written.failed;
    calm = first.written.calm;
  };
  gained = tt;
  stopped = gains-more left left most [] (flat_map noted xs) (flat_map noted ys) (flat_map noted (xs ++ ys)) (sym (append-nil left)) first.stopped
      (flat_map-append noted xs ys);
}

-- the export of a list is that of an equal one
export-is : {X Y : Type 0} (told : X → List ℕ) (noted : X → List Y) (xs ys : List X) (out : Output) (left most : List Y)
    (result : Result (Unit {0}) ExportFail) → xs ≡ ys → IsExport told noted xs out left most result → IsExport told noted ys out left most result
export-is told noted xs ys out left most result is export = subst (λ all. IsExport told noted all out left most result) is export

-- all but this rest of a list was exported
pub record IsExportedTo {X Y : Type 0} (told : X → List ℕ) (noted : X → List Y) (all rest : List (Bor X)) (out : Output) (old new : List Y) : Type 0 where
  pub done : List (Bor X)
  pub split : all ≡ done ++ rest
  pub so_far : IsExport told noted (map (λ e. e.now) done) out old new (Ok tt)

pub to-begin : {X Y : Type 0} (told : X → List ℕ) (noted : X → List Y) (all : List (Bor X)) (written : Option (List ℕ)) (faults : ℕ) (left : List Y)
    → IsExportedTo told noted all all (record { old = written; new = written; before = faults; after = faults }) left left
to-begin told noted all written faults left = record { done = []; split = refl; so_far = export-begin told noted written faults left }

-- the next ones were exported too
pub to-more : {X Y : Type 0} (told : X → List ℕ) (noted : X → List Y) (all rest front later : List (Bor X)) (old mid new : Option (List ℕ))
    (before middle after : ℕ) (left more most : List Y) → rest ≡ front ++ later
    → IsExportedTo told noted all rest (record { old = old; new = mid; before = before; after = middle }) left more
    → IsExport told noted (map (λ (e : Bor X). e.now) front) (record { old = mid; new = new; before = middle; after = after }) more most (Ok tt)
    → IsExportedTo told noted all later (record { old = old; new = new; before = before; after = after }) left most
to-more told noted all rest front later old mid new before middle after left more most is first next = record {
  done = first.done ++ front;
  split = first.split ∙ ap (λ es. first.done ++ es) is ∙ sym (append_assoc first.done front later);
  so_far = export-is told noted _ _ _ left most (Ok tt) (sym (map-append (λ (e : Bor _). e.now) first.done front))
      (export-then told noted (map (λ (e : Bor _). e.now) first.done) (map (λ (e : Bor _). e.now) front) old mid new before middle after left more most (Ok tt)
      first.so_far next);
}

-- the export of the next ones stopped, and so did that of all
pub to-stop : {X Y : Type 0} (told : X → List ℕ) (noted : X → List Y) (all rest front later : List (Bor X)) (old mid new : Option (List ℕ))
    (before middle after : ℕ) (left more most : List Y) (fail : ExportFail) → rest ≡ front ++ later
    → IsExportedTo told noted all rest (record { old = old; new = mid; before = before; after = middle }) left more
    → IsExport told noted (map (λ (e : Bor X). e.now) front) (record { old = mid; new = new; before = middle; after = after }) more most (Err fail)
    → IsExport told noted (map (λ (e : Bor X). e.now) all) (record { old = old; new = new; before = before; after = after }) left most (Err fail)
to-stop told noted all rest front later old mid new before middle after left more most fail is first next =
    let seen = λ (e : Bor _). e.now in
    export-is told noted ((map seen first.done ++ map seen front) ++ map seen later) (map seen all) _ left most (Err fail)
    (append_assoc (map seen first.done) (map seen front) (map seen later) ∙ ap (λ es. map seen first.done ++ es) (sym (map-append seen front later))
    ∙ sym (map-append seen first.done (front ++ later)) ∙ sym (ap (map seen) (first.split ∙ ap (λ es. first.done ++ es) is)))
    (export-stops told noted (map seen first.done ++ map seen front) (map seen later) old new before after left most fail
    (export-then told noted (map seen first.done) (map seen front) old mid new before middle after left more most (Err fail) first.so_far next))

-- nothing is left to be exported
pub to-end : {X Y : Type 0} (told : X → List ℕ) (noted : X → List Y) (all : List (Bor X)) (out : Output) (left most : List Y)
    → IsExportedTo told noted all [] out left most → IsExport told noted (map (λ (e : Bor X). e.now) all) out left most (Ok tt)
to-end told noted all out left most first =
    export-is told noted _ _ out left most (Ok tt) (sym (ap (map (λ (e : Bor _). e.now)) (first.split ∙ append-nil first.done))) first.so_far
