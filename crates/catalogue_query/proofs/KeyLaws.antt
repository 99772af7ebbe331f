-- The editions that have an index key are those that the query of the key asks for.
use Rattle.std.proofs.Common.{◌≡◌, ℕ, ◌&&◌, ◌||◌, List, [], ◌∷◌, ◌++◌, map, filter, refl, sym, ap, ◌∙◌}
use Rattle.std.specs.declared.cmp.Ordering.{Ordering}
use Rattle.std.specs.declared.cmp.Ordering.TheVariants.{Less, Equal, Greater}
use Rattle.std.specs.Ordering.{is_eq, ordering_then}
use Rattle.std.specs.List.{flat_map}
use Rattle.std.proofs.lemmas.List.Concat.{flat_map-cons}
use Rattle.std.proofs.lemmas.List.Elements.{filter_agree}
use Rattle.union_base.specs.SortedLists.{has}
use Rattle.match_features.specs.Kept.{texts_cmp, pairs_cmp}
use Rattle.match_features.specs.declared.keys.FeatureKey.TheVariants as key
use Rattle.authority_names.specs.Leads.{Table}
use Rattle.catalogue_core.specs.Histories.{MapOf}
use Rattle.catalogue_core.specs.Ids.{least}
use Rattle.catalogue_core.specs.IndexKeys.{has_key}
use Rattle.catalogue_editions.specs.declared.edition.Edition.{Edition}
use Rattle.union_base.specs.Alike.{same_text}
use Rattle.catalogue_query.specs.Lines.{edition_line}
use Rattle.catalogue_query.specs.Answers.{stands_in, pair_stands_in, is_asked, told, told_of_all}
use Rattle.catalogue_query.specs.declared.query.Query.TheVariants.{Isbn, Issn, Control, Title}
use Rattle.catalogue_query.proofs.WorkLaws.{key-same_text}

text-stands : (text : List ℕ) (texts : List (List ℕ)) → has texts_cmp texts text ≡ stands_in text texts
text-stands text [] = refl
text-stands text (held ∷ texts) =
    ap (λ b. b || has texts_cmp texts text) (key-same_text text held) ∙ ap (λ b. same_text held text || b) (text-stands text texts)

both-equal : (r s : Ordering) → is_eq (ordering_then r s) ≡ (is_eq r && is_eq s)
both-equal Less s = refl
both-equal Equal s = refl
both-equal Greater s = refl

pair-stands : (source number : List ℕ) (pairs : List (List ℕ × List ℕ)) → has pairs_cmp pairs (source, number) ≡ pair_stands_in source number pairs
pair-stands source number [] = refl
pair-stands source number (pair ∷ pairs) =
    ap (λ b. b || has pairs_cmp pairs (source, number))
    (both-equal (texts_cmp source pair.0) (texts_cmp number pair.1)
    ∙ ap (λ b. b && is_eq (texts_cmp number pair.1)) (key-same_text source pair.0) ∙ ap (λ b. same_text pair.0 source && b) (key-same_text number pair.1))
    ∙ ap (λ b. (same_text pair.0 source && same_text pair.1 number) || b) (pair-stands source number pairs)

-- an edition of which only its line is told
told-each : (says : Edition → List (List ℕ)) → ((e : Edition) → says e ≡ edition_line (least e) ∷ []) → (some : List Edition) → map (λ e. edition_line (least e)) some ≡ flat_map says some
told-each says is [] = refl
told-each says is (e ∷ some) =
    ap (λ lines. edition_line (least e) ∷ lines) (told-each says is some) ∙ sym (flat_map-cons says e some ∙ ap (λ lines. lines ++ flat_map says some) (is e))

module _ (names : Table) (records : MapOf Edition) (all : List Edition) where
  -- the lines of the editions that have a key are what is told of those that the query asks for
  pub told-isbn : (digits : List ℕ) → map (λ e. edition_line (least e)) (filter (has_key (key.Isbn digits)) all) ≡ told_of_all names (Isbn digits) records all
  told-isbn digits =
      ap (map (λ e. edition_line (least e))) (filter_agree (has_key (key.Isbn digits)) (is_asked names (Isbn digits)) (λ e. text-stands digits e.features.isbns) all)
      ∙ told-each (told names (Isbn digits) records) (λ e. refl) (filter (is_asked names (Isbn digits)) all)

  pub told-issn : (number : List ℕ) → map (λ e. edition_line (least e)) (filter (has_key (key.Issn number)) all) ≡ told_of_all names (Issn number) records all
  told-issn number =
      ap (map (λ e. edition_line (least e))) (filter_agree (has_key (key.Issn number)) (is_asked names (Issn number)) (λ e. text-stands number e.features.issns) all)
      ∙ told-each (told names (Issn number) records) (λ e. refl) (filter (is_asked names (Issn number)) all)

  pub told-control : (source number : List ℕ) → map (λ e. edition_line (least e)) (filter (has_key (key.Control (source, number))) all) ≡ told_of_all names (Control source number) records all
  told-control source number =
      ap (map (λ e. edition_line (least e)))
      (filter_agree (has_key (key.Control (source, number))) (is_asked names (Control source number)) (λ e. pair-stands source number e.features.control) all)
      ∙ told-each (told names (Control source number) records) (λ e. refl) (filter (is_asked names (Control source number)) all)

  pub told-title : (form : List ℕ) → map (λ e. edition_line (least e)) (filter (has_key (key.Title form)) all) ≡ told_of_all names (Title form) records all
  told-title form =
      ap (map (λ e. edition_line (least e))) (filter_agree (has_key (key.Title form)) (is_asked names (Title form)) (λ e. text-stands form e.features.titles) all)
      ∙ told-each (told names (Title form) records) (λ e. refl) (filter (is_asked names (Title form)) all)
