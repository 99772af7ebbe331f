-- The names that a shelf keeps, with their counts of faults.
use Rattle.std.proofs.Common.{◌≡◌, ◌≢◌, ◌⊎◌, ℕ, List, [], ◌∷◌, refl, sym, ap, ◌∙◌, inl, inr, cond, Bool, true, false, Some, None, unwrap_or, ◌||◌}
use Rattle.std.specs.Option.{is_some}
use Rattle.std.proofs.lemmas.Bool.{false_from_ne_true}
use Rattle.std.proofs.lemmas.Cmp.{nat_list_cmp_total, tied_itself}
use Rattle.std.proofs.lemmas.Map.Text.{is_eq-slice_cmp}
use Rattle.std.specs.declared.option.Option.{Option}
use Rattle.std.specs.declared.cmp.Ordering.{Ordering}
use Rattle.std.specs.declared.cmp.Ordering.TheVariants.{Less, Equal, Greater}
use Rattle.std.specs.Ordering.{nat_cmp, is_eq}
use Rattle.std.specs.Cmp.Lexicographic.{slice_cmp}
use Rattle.std.specs.FinMap.{nat_cmp-IsAntisymmetric, slice_cmp-IsAntisymmetric}
use Rattle.std.specs.BTreeMap.{is_at}
use Rattle.std.specs.Map.{lookup}
use Rattle.union_io.specs.Causes.{next_count}
use Rattle.union_io.specs.Names.{is_among, AddsName}
use Rattle.union_io.specs.Opened.{names_in, count_in}

-- the order of texts
abbrev text_cmp : List ℕ → List ℕ → Ordering
text_cmp = slice_cmp nat_cmp

-- texts that tie are one text
tied_texts : (x y : List ℕ) → text_cmp x y ≡ Equal → x ≡ y
tied_texts = slice_cmp-IsAntisymmetric nat_cmp-IsAntisymmetric

-- a test that a text passes shows which text it is
passed_text : (x y : List ℕ) → is_eq (text_cmp x y) ≡ true → x ≡ y
passed_text x y =
    elim (text_cmp x y)
    as (λ o. (o ≡ Equal → x ≡ y) → is_eq o ≡ true → x ≡ y) [
      | Less ↦ λ same passed. cc
      | Equal ↦ λ same passed. same refl
      | Greater ↦ λ same passed. cc
    ]
    (tied_texts x y)

-- a text passes the test for itself
passes_itself : (x y : List ℕ) → x ≡ y → is_eq (text_cmp x y) ≡ true
passes_itself x y same = rw (← same) (ap is_eq (tied_itself nat_list_cmp_total x))

-- a text that differs fails the test
pub fails_other : (name other : List ℕ) → other ≢ name → is_at (text_cmp name) other ≡ false
fails_other name other differs =
    false_from_ne_true (is_at (text_cmp name) other) (λ passed. differs (sym (passed_text name other passed)))

-- what a test of the first name and a look-up in the others find
first_or_later : (passes : Bool) (count : ℕ) (later : Option ℕ) → passes || is_some later ≡ is_some (cond passes (Some count) later)
first_or_later true count later = refl
first_or_later false count later = refl

-- a name is among the names exactly where a look-up finds it
pub is_among-names_in : (counts : List (List ℕ × ℕ)) (name : List ℕ)
    → is_among name (names_in counts) ≡ is_some (lookup (is_at (text_cmp name)) counts)
unfolding is_among
is_among-names_in [] name = refl
is_among-names_in (e ∷ es) name =
    ap (λ passes. passes || is_among name (names_in es)) (sym (is_eq-slice_cmp name e.0)) ∙
    ap (λ later. is_eq (text_cmp name e.0) || later) (is_among-names_in es name) ∙
    first_or_later (is_eq (text_cmp name e.0)) e.1 (lookup (is_at (text_cmp name)) es)

-- a name that is there already adds nothing
pub AddsName-found : (counts : List (List ℕ × ℕ)) (name : List ℕ)
    → is_some (lookup (is_at (text_cmp name)) counts) ≡ true → AddsName (names_in counts) (names_in counts) name
AddsName-found counts name found = record {
  added = is_among-names_in counts name ∙ found;
  kept = λ other there. there;
  only = λ other there. inl there;
}

-- what a look-up finds after one name was set
abbrev SetsName : List (List ℕ × ℕ) → List (List ℕ × ℕ) → List ℕ → Type 0
SetsName old new name =
    (other : List ℕ) → lookup (is_at (text_cmp other)) new ≡ cond (is_at (text_cmp name) other) (Some 0) (lookup (is_at (text_cmp other)) old)

set_kept : (passes : Bool) (found : Option ℕ) → is_some found ≡ true → is_some (cond passes (Some 0) found) ≡ true
set_kept true found was = refl
set_kept false found was = was

set_only : (passes : Bool) (found : Option ℕ) → is_some (cond passes (Some 0) found) ≡ true → (is_some found ≡ true) ⊎ (passes ≡ true)
set_only true found is = inr refl
set_only false found is = inl is

-- an entry that is put in adds its name, and no other
pub AddsName-set : (old new : List (List ℕ × ℕ)) (name : List ℕ) → SetsName old new name → AddsName (names_in old) (names_in new) name
AddsName-set old new name sets = record {
  added =
      is_among-names_in new name ∙ ap is_some (sets name) ∙
      ap (λ passes. is_some (cond passes (Some 0) (lookup (is_at (text_cmp name)) old))) (passes_itself name name refl);
  kept = λ other there.
      is_among-names_in new other ∙ ap is_some (sets other) ∙
      set_kept (is_at (text_cmp name) other) (lookup (is_at (text_cmp other)) old) (sym (is_among-names_in old other) ∙ there);
  only = λ other there.
      elim (set_only (is_at (text_cmp name) other) (lookup (is_at (text_cmp other)) old) (sym (ap is_some (sets other)) ∙ sym (is_among-names_in new other) ∙ there)) [
        | inl was ↦ inl (is_among-names_in old other ∙ was)
        | inr passed ↦ inr (sym (passed_text name other passed))
      ];
}

is_missed : (found : Option ℕ) → is_some found ≡ false → found ≡ None
is_missed None missed = refl
is_missed (Some count) missed = cc

-- a new name has the count that an absent one has
pub count_in-set : (old new : List (List ℕ × ℕ)) (name : List ℕ) → is_some (lookup (is_at (text_cmp name)) old) ≡ false
    → SetsName old new name → (other : List ℕ) → count_in new other ≡ count_in old other
count_in-set old new name absent sets other =
    ap (λ found. unwrap_or found 0) (sets other) ∙
    elim (is_eq (text_cmp name other))
    as (λ t. (t ≡ true → name ≡ other) → unwrap_or (cond t (Some 0) (lookup (is_at (text_cmp other)) old)) 0 ≡ count_in old other) [
      | true ↦ λ same.
          sym (ap (λ found. unwrap_or found 0)
          (ap (λ n. lookup (is_at (text_cmp n)) old) (sym (same refl)) ∙ is_missed (lookup (is_at (text_cmp name)) old) absent))
      | false ↦ λ same. refl
    ]
    (passed_text name other)

-- a count that is found and raised
pub count_in-raised : (old new : List (List ℕ × ℕ)) (name : List ℕ) (count : ℕ)
    → Some count ≡ lookup (is_at (text_cmp name)) old → lookup (is_at (text_cmp name)) new ≡ Some (next_count count)
    → count_in new name ≡ next_count (count_in old name)
count_in-raised old new name count was is =
    ap (λ found. unwrap_or found 0) is ∙ ap (λ found. next_count (unwrap_or found 0)) was
