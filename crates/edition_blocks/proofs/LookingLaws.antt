-- Editions in order, and what stands under some numbers.
use Rattle.std.proofs.Common.{◌≡◌, ℕ, ◌+◌, ◌<◌, List, [], ◌∷◌, ◌++◌, length, get_or, take, map, sym, ap, ◌∙◌, arith}
use Rattle.std.specs.Prelude.{filter_map, Option}
use Rattle.std.specs.Option.{option_map}
use Rattle.std.specs.List.{cons_option}
use Rattle.std.specs.List.Sorted.{IsSorted, IsSortedBy}
use Rattle.std.specs.Ordering.{is_lt}
use Rattle.std.proofs.lemmas.List.{get_or-map, length-map, take_more}
use Rattle.std.proofs.lemmas.List.Elements.{filter_map-append}
use Rattle.swoosh_resolver.specs.Tables.{block_at}
use Rattle.catalogue_editions.specs.Ids.{edition_cmp}
use Rattle.catalogue_editions.specs.declared.edition.Edition.{Edition}
use Rattle.edition_blocks.proofs.BlockLaws.{Block}

-- the editions of values that are in order of these
pub sorted-editions : {P : Type 0} (edition : P → Edition) (all : List P) → IsSortedBy (λ a b. is_lt (edition_cmp (edition a) (edition b))) all → IsSorted edition_cmp (map edition all)
sorted-editions edition [] up k d low within = absurd (omega arith)
sorted-editions {P} edition (x ∷ rest) up k d low within =
    let all : List P = x ∷ rest in
    let below : k + 1 < length all = omega (arith, length-map all edition) in
    rw (get_or-map edition all (k + 1) x d below, get_or-map edition all k x d (omega arith)) (up k x low below)

abbrev pub value_at : List (Option Block) → ℕ → Option Edition
value_at blocks n = option_map (λ e. e.value) (block_at blocks n)

-- with one number more looked at
pub found-more : {X : Type 0} (f : ℕ → Option X) (numbers : List ℕ) (place : ℕ) (found : Option X) → place < length numbers → found ≡ f (get_or numbers place 0)
    → filter_map f (take (place + 1) numbers) ≡ filter_map f (take place numbers) ++ cons_option found []
found-more f numbers place found within is =
    ap (filter_map f) (take_more numbers place 0 within)
    ∙ filter_map-append f (take place numbers) (get_or numbers place 0 ∷ [])
    ∙ ap (λ o. filter_map f (take place numbers) ++ cons_option o []) (sym is)
