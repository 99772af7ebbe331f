-- The editions of a work, and how many works there are.
use Rattle.std.proofs.Common.{◌≡◌, ℕ, suc, Bool, true, false, cond, List, [], ◌∷◌, length, map, filter, refl, sym, ap, ◌∙◌}
use Rattle.std.specs.declared.cmp.Ordering.TheVariants.{Less, Equal, Greater}
use Rattle.std.specs.Ordering.{is_eq, is_lt, ordering_reverse}
use Rattle.std.specs.Cmp.Lexicographic.{texts_ties}
use Rattle.std.specs.List.{list_all, flat_map}
use Rattle.std.proofs.lemmas.List.Concat.{flat_map-cons}
use Rattle.union_base.specs.Both.{both_true, true_both}
use Rattle.union_base.specs.IdLaws.{ids_apart}
use Rattle.union_base.specs.SortedLists.{is_ascending, set_of}
use Rattle.union_base.specs.declared.record_id.RecordId.{RecordId}
use Rattle.union_base.proofs.SortedListLaws.{same_ascending, is_ascending-union}
use Rattle.work_clusters.specs.Works.{key_cmp, is_key, works_of, ids_under}
use Rattle.union_base.specs.RecordIds.{id_cmp}
use Rattle.work_clusters.proofs.WorksLaws.{key_total, id_total, has-set_of, ids_under-works_of, keys_of-works_of}
use Rattle.catalogue_core.specs.Ids.{least, edition_cmp}
use Rattle.catalogue_core.specs.EditionKeys.{work_key_by, work_pairs}
use Rattle.authority_names.specs.Leads.{Table}
use Rattle.catalogue_core.specs.Histories.{MapOf}
use Rattle.catalogue_editions.specs.declared.edition.Edition.{Edition}
use Rattle.union_base.specs.Alike.{same_text}
use Rattle.catalogue_query.specs.Lines.{edition_line}
use Rattle.catalogue_query.specs.Answers.{is_asked, told, told_of_all, work_keys}
use Rattle.catalogue_query.specs.declared.query.Query.TheVariants.{Work}

-- a key is a text where the two are equal, byte by byte
pub key-same_text : (key text : List ℕ) → is_key key text ≡ same_text text key
key-same_text key text =
    ap is_eq (key_total.antisymm key text) ∙ elim (key_cmp text key) as (λ r. is_eq (ordering_reverse r) ≡ is_eq r) [ Less ↦ refl | Equal ↦ refl | Greater ↦ refl ]
    ∙ sym (texts_ties text key)

-- an id stands with the key where the edition that it names is of the work
ids_of_work : (names : Table) (key : List ℕ) (all : List Edition) → map (λ p. p.1) (filter (λ p. is_key key p.0) (work_pairs names all)) ≡ map least (filter (is_asked names (Work key)) all)
ids_of_work names key [] = refl
ids_of_work names key (e ∷ all) =
    ap (λ b. map (λ p. p.1) (cond b ((work_key_by names e, least e) ∷ filter (λ p. is_key key p.0) (work_pairs names all)) (filter (λ p. is_key key p.0) (work_pairs names all)))) (key-same_text key (work_key_by names e))
    ∙ elim (same_text (work_key_by names e) key) as (λ b. map (λ p. p.1) (cond b ((work_key_by names e, least e) ∷ filter (λ p. is_key key p.0) (work_pairs names all)) (filter (λ p. is_key key p.0) (work_pairs names all)))
    ≡ map least (cond b (e ∷ filter (is_asked names (Work key)) all) (filter (is_asked names (Work key)) all))) [
      | true ↦ ap (λ ids. least e ∷ ids) (ids_of_work names key all)
      | false ↦ ids_of_work names key all
    ]

-- some of the editions stand in the order of all
behind-some : (p : Edition → Bool) (e : Edition) (all : List Edition) → list_all (λ y. is_lt (edition_cmp e y)) all ≡ true → list_all (λ id. is_lt (id_cmp (least e) id)) (map least (filter p all)) ≡ true
behind-some p e [] h = refl
behind-some p e (x ∷ all) h =
    let parts = both_true (is_lt (edition_cmp e x)) (list_all (λ y. is_lt (edition_cmp e y)) all) h in
    elim (p x) as (λ b. list_all (λ id. is_lt (id_cmp (least e) id)) (map least (cond b (x ∷ filter p all) (filter p all))) ≡ true) [
      | true ↦ true_both (is_lt (id_cmp (least e) (least x))) _ parts.0 (behind-some p e all parts.1)
      | false ↦ behind-some p e all parts.1
    ]

ascending-some : (p : Edition → Bool) (all : List Edition) → is_ascending edition_cmp all ≡ true → is_ascending id_cmp (map least (filter p all)) ≡ true
ascending-some p [] h = refl
ascending-some p (e ∷ all) h =
    let parts = both_true (list_all (λ y. is_lt (edition_cmp e y)) all) (is_ascending edition_cmp all) h in
    elim (p e) as (λ b. is_ascending id_cmp (map least (cond b (e ∷ filter p all) (filter p all))) ≡ true) [
      | true ↦ true_both (list_all (λ id. is_lt (id_cmp (least e) id)) (map least (filter p all))) _ (behind-some p e all parts.0) (ascending-some p all parts.1)
      | false ↦ ascending-some p all parts.1
    ]

-- ids in order are a set
set_of-ascending : (ids : List RecordId) → is_ascending id_cmp ids ≡ true → set_of id_cmp ids ≡ ids
set_of-ascending ids h = same_ascending id_total ids_apart (set_of id_cmp ids) ids (is_ascending-union id_total [] ids refl) h (has-set_of id_total ids_apart ids)

-- the ids under a work key name the editions of the work, in their order
pub ids_under-works : (names : Table) (key : List ℕ) (all : List Edition) → is_ascending edition_cmp all ≡ true → ids_under (works_of (work_pairs names all)) key ≡ map least (filter (is_asked names (Work key)) all)
ids_under-works names key all h =
    ids_under-works_of (work_pairs names all) key ∙ ap (set_of id_cmp) (ids_of_work names key all)
    ∙ set_of-ascending (map least (filter (is_asked names (Work key)) all)) (ascending-some (is_asked names (Work key)) all h)

told-each : (names : Table) (key : List ℕ) (records : MapOf Edition) (some : List Edition) → map edition_line (map least some) ≡ flat_map (told names (Work key) records) some
told-each names key records [] = refl
told-each names key records (e ∷ some) = ap (λ lines. edition_line (least e) ∷ lines) (told-each names key records some) ∙ sym (flat_map-cons (told names (Work key) records) e some)

-- so their lines are what is told of the work
pub told-work : (names : Table) (key : List ℕ) (records : MapOf Edition) (all : List Edition) → is_ascending edition_cmp all ≡ true
    → map edition_line (ids_under (works_of (work_pairs names all)) key) ≡ told_of_all names (Work key) records all
told-work names key records all h = ap (map edition_line) (ids_under-works names key all h) ∙ told-each names key records (filter (is_asked names (Work key)) all)

keys-pairs : (names : Table) (all : List Edition) → map (λ p. p.0) (work_pairs names all) ≡ map (work_key_by names) all
keys-pairs names [] = refl
keys-pairs names (e ∷ all) = ap (λ keys. work_key_by names e ∷ keys) (keys-pairs names all)

length-keyed : {X : Type 0} (works : List (List ℕ × X)) → length works ≡ length (map (λ work. work.0) works)
length-keyed [] = refl
length-keyed (w ∷ works) = ap suc (length-keyed works)

-- there are as many works as work keys
pub length-works : (names : Table) (all : List Edition) → length (works_of (work_pairs names all)) ≡ length (work_keys names all)
length-works names all = length-keyed (works_of (work_pairs names all)) ∙ ap length (keys_of-works_of (work_pairs names all) ∙ ap (set_of key_cmp) (keys-pairs names all))
