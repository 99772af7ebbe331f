-- What a batch leaves that loads records in ascending order of their ids.
use Rattle.std.proofs.Common.{◌≡◌, ℕ, true, List, [], ◌∷◌, ◌++◌, map, ap, refl, ◌∙◌}
use Rattle.std.specs.Prelude.{fold, Option, None, Some}
use Rattle.std.specs.declared.cmp.Ordering.{Ordering}
use Rattle.std.specs.declared.cmp.Ordering.TheVariants.{Less, Equal, Greater}
use Rattle.std.specs.Ordering.{is_gt, match_ordering, ordering_reverse}
use Rattle.std.specs.BTreeMap.{insert_entry}
use Rattle.std.specs.Map.{values_of}
use Rattle.union_base.specs.declared.record_id.RecordId.{RecordId}
use Rattle.union_base.specs.RecordIds.{id_cmp}
use Rattle.field_merge.specs.KeptLaws.{id_total}
use Rattle.catalogue_editions.specs.CurrentRecords.{after_op}
use Rattle.catalogue_editions.specs.Ids.{least}
use Rattle.catalogue_editions.specs.Net.{is_behind}
use Rattle.catalogue_editions.specs.declared.edition.Edition.{Edition}
use Rattle.catalogue_editions.specs.declared.op.Op.{Op}
use Rattle.catalogue_editions.specs.declared.op.Op.TheVariants.{Load}

-- an edition under its id
abbrev pub named : Edition → RecordId × Edition
named e = (least e, e)

-- the id is greater than each of the editions' ids
abbrev pub IsAbove : RecordId → List Edition → Type 0
IsAbove id [] = Unit {0}
IsAbove id (e ∷ es) = (id_cmp id (least e) ≡ Greater) × IsAbove id es

-- what so many operations leave are these editions, and what is behind the last is above all
pub record AreLeft (library : List ℕ) (ops : List Op) (editions : List Edition) (last : Option Edition) : Type 0 where
  pub left : fold (after_op library) [] ops ≡ map named editions
  pub above : (e : Edition) → is_behind last e ≡ true → IsAbove (least e) editions

-- an edition whose id is above all goes to the end
insert-last : (e : Edition) (es : List Edition) → IsAbove (least e) es → insert_entry id_cmp (map named es) (least e) e ≡ map named (es ++ e ∷ [])
insert-last e [] above = refl
insert-last e (x ∷ es) above =
    ap (λ r. match_ordering r ((least e, e) ∷ named x ∷ map named es) ((least x, e) ∷ map named es) (named x ∷ insert_entry id_cmp (map named es) (least e) e)) above.0
    ∙ ap (λ rest. named x ∷ rest) (insert-last e es above.1)

greater : (r : Ordering) → is_gt r ≡ true → r ≡ Greater
greater Less h = cc
greater Equal h = cc
greater Greater h = refl

reversed : {r s : Ordering} → r ≡ ordering_reverse s → s ≡ Greater → r ≡ Less
reversed turned is = turned ∙ ap ordering_reverse is

turned-back : {r s : Ordering} → r ≡ ordering_reverse s → s ≡ Less → r ≡ Greater
turned-back turned is = turned ∙ ap ordering_reverse is

-- what is above an id is above what that is above
above-too : (a b c : RecordId) → id_cmp a b ≡ Greater → id_cmp b c ≡ Greater → id_cmp a c ≡ Greater
above-too a b c ab bc =
    turned-back (id_total.antisymm a c)
    (id_total.trans c b a (reversed (id_total.antisymm c b) bc) (reversed (id_total.antisymm b a) ab))

above-all : (a b : RecordId) (es : List Edition) → id_cmp a b ≡ Greater → IsAbove b es → IsAbove a es
above-all a b [] ab above = tt
above-all a b (e ∷ es) ab above = (above-too a b (least e) ab above.0, above-all a b es ab above.1)

above-more : (id : RecordId) (es : List Edition) (e : Edition) → IsAbove id es → id_cmp id (least e) ≡ Greater → IsAbove id (es ++ e ∷ [])
above-more id [] e above more = (more, tt)
above-more id (x ∷ es) e above more = (above.0, above-more id es e above.1 more)

-- at first nothing is left
pub left-begin : (library : List ℕ) → AreLeft library [] [] None
left-begin library = record { left = refl; above = λ e behind. tt }

-- one load more, whose id is above the last
pub left-next : {library : List ℕ} {ops : List Op} {editions : List Edition} {last : Option Edition} → AreLeft library ops editions last
    → (e : Edition) → is_behind last e ≡ true → (more : List Op) → fold (after_op library) [] more ≡ after_op library (fold (after_op library) [] ops) (Load e)
    → AreLeft library more (editions ++ e ∷ []) (Some e)
left-next {library} {ops} {editions} {last} before e behind more is = record {
  left = is ∙ ap (λ all. insert_entry id_cmp all (least e) e) before.left ∙ insert-last e editions (before.above e behind);
  above = λ k after.
      let gt = greater (id_cmp (least k) (least e)) after in
      above-more (least k) editions e (above-all (least k) (least e) editions gt (before.above e behind)) gt;
}

-- the editions alone
pub editions-of : (editions : List Edition) → values_of (map named editions) ≡ editions
editions-of [] = refl
editions-of (e ∷ es) = ap (λ rest. e ∷ rest) (editions-of es)
