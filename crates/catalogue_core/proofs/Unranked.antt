-- A preference changes nothing of a resolution but fixed parts and slots: with all of these put aside, what the records resolve
-- to is the resolution of the records with all of these put aside, and those are the same by any preference.
use Rattle.std.proofs.Common.{◌≡◌, ◌<◌, ℕ, zero, suc, Bool, true, false, ◌&&◌, IsTrue, List, [], ◌∷◌, map, replicate, refl, sym, ap, subst, ◌∙◌, arith}
use Rattle.std.specs.Prelude.{Option, Some, None, slice_index}
use Rattle.std.proofs.lemmas.Option.{same_Some}
use Rattle.std.specs.List.{cons_option, list_all}
use Rattle.std.specs.Option.{option_map}
use Rattle.std.specs.Str.{is_utf8}
use Rattle.std.proofs.lemmas.Str.{is_utf8-from_IsUtf8, IsUtf8-from_ascii, IsUtf8-nil}
use Rattle.std.specs.Ordering.{is_lt}
use Rattle.union_base.specs.Both.{true_both}
use Rattle.union_base.specs.SortedLists.{is_ascending}
use Rattle.marc_parts.specs.declared.marc_record.Record.{Record}
use Rattle.field_merge.specs.Contents.{slot, untitled, content}
use Rattle.field_merge.specs.Equal.{same_contents}
use Rattle.field_merge.specs.GreaterLaws.{greater-idempotent}
use Rattle.field_merge.specs.Orders.{slot_cmp, fixed_cmp}
use Rattle.field_merge.specs.declared.rank.Rank.{Rank}
use Rattle.field_merge.specs.declared.slot.Slot.{Slot}
use Rattle.field_merge.specs.declared.fixed.Fixed.{Fixed}
use Rattle.field_merge.specs.declared.content.Content.{Content}
use Rattle.catalogue_editions.specs.Sound.{is_sound}
use Rattle.catalogue_editions.specs.SoundLaws.{sound_parts, sound_whole}
use Rattle.catalogue_editions.specs.Equal.{same_editions}
use Rattle.catalogue_editions.specs.Ids.{edition_cmp}
use Rattle.catalogue_editions.specs.Joining.{join}
use Rattle.catalogue_editions.specs.JoinLaws.{edition_join_laws}
use Rattle.catalogue_editions.specs.MatchLaws.{edition_match_laws}
use Rattle.record_editions.specs.RecordLaws.{is_loaded}
use Rattle.record_editions.specs.Records.{where_true, edition_made, edition}
use Rattle.catalogue_editions.specs.Resolutions.{IsOrderedResolution}
use Rattle.catalogue_core.specs.Preferring.{editions_by, unranked}
use Rattle.catalogue_editions.proofs.Apart.{one-ordered}
use Rattle.catalogue_core.proofs.Images.{image-resolves}
use Rattle.catalogue_editions.specs.declared.edition.Edition.{Edition}

-- ---- an edition with its fixed part and its slots put aside

abbrev no_rank : Rank
no_rank = record { level = 0; class = 0; stamp = []; library = []; control = [] }

abbrev no_fixed : Fixed
no_fixed = record {
  rank = no_rank;
  codes = record { status = 0x6E; kind = 0x61; level = 0x6D; control = 0x20; coding = 0x61; encoding = 0x20; form = 0x61; part = 0x20; last = 0x30 };
  text = replicate 40 0x20;
}

abbrev no_title : Slot
no_title = slot no_rank untitled

abbrev bare_content : Content → Content
bare_content c = record {
  contributors = c.contributors;
  fixed = no_fixed;
  f005 = None;
  f010 = None;
  f040 = None;
  f1xx = None;
  f240 = None;
  f245 = no_title;
  united = c.united;
  kept = c.kept;
}

ascii-blanks : (n i : ℕ) → slice_index (replicate n 0x20) i < 128
ascii-blanks zero zero = omega arith
ascii-blanks zero (suc i) = omega arith
ascii-blanks (suc n) zero = omega arith
ascii-blanks (suc n) (suc i) = ascii-blanks n i

blanks_utf8 : is_utf8 (replicate 40 0x20) ≡ true
blanks_utf8 = is_utf8-from_IsUtf8 (replicate 40 0x20) (IsUtf8-from_ascii (replicate 40 0x20) (ascii-blanks 40))

sound-bare : (c : Content) → IsTrue (is_sound c) → IsTrue (is_sound (bare_content c))
sound-bare c sound =
    let parts = sound_parts c sound in
    sound_whole (bare_content c) (record {
      ids = parts.ids;
      fixed = blanks_utf8;
      f005 = refl;
      f010 = refl;
      f040 = refl;
      f1xx = refl;
      f240 = refl;
      f245 = true_both (is_utf8 []) true (is_utf8-from_IsUtf8 [] IsUtf8-nil) refl;
      storable = parts.storable;
      united = parts.united;
    })

abbrev bare : Edition → Edition
bare e = record {
  features = e.features;
  content = bare_content e.content;
  linked = e.linked;
  sound = sound-bare e.content e.sound;
}

bare-join : (x y : Edition) → join (bare x) (bare y) ≡ bare (join x y)
bare-join x y =
    same_editions (join (bare x) (bare y)) (bare (join x y)) refl
    (same_contents (join (bare x) (bare y)).content (bare (join x y)).content (record {
      contributors = refl;
      fixed = greater-idempotent fixed_cmp no_fixed;
      f005 = refl;
      f010 = refl;
      f040 = refl;
      f1xx = refl;
      f240 = refl;
      f245 = greater-idempotent slot_cmp no_title;
      united = refl;
    }))

-- ---- the records with these put aside

bare-cons : (a b : Option Edition) (xs ys : List Edition) → option_map bare a ≡ option_map bare b → map bare xs ≡ map bare ys
    → map bare (cons_option a xs) ≡ map bare (cons_option b ys)
bare-cons None None xs ys first rest = rest
bare-cons None (Some y) xs ys first rest = cc
bare-cons (Some x) None xs ys first rest = cc
bare-cons (Some x) (Some y) xs ys first rest =
    let same : bare x ≡ bare y = same_Some (bare x) (bare y) first in
    (λ i. same i ∷ rest i)

module _ (prefer other : List (List ℕ)) where
  bare-made : (library : List ℕ) (r : Record) (loaded : IsTrue (is_loaded library r))
      → bare (edition_made prefer library r loaded) ≡ bare (edition_made other library r loaded)
  bare-made library r loaded =
      same_editions (bare (edition_made prefer library r loaded)) (bare (edition_made other library r loaded)) refl
      (same_contents (bare_content (content prefer library r)) (bare_content (content other library r)) (record {
        contributors = refl;
        fixed = refl;
        f005 = refl;
        f010 = refl;
        f040 = refl;
        f1xx = refl;
        f240 = refl;
        f245 = refl;
        united = refl;
      }))

  same-where : (b : Bool) (one two : b ≡ true → Edition) → ((h : b ≡ true) → bare (one h) ≡ bare (two h))
      → option_map bare (where_true b one) ≡ option_map bare (where_true b two)
  same-where true one two same = ap Some (same refl)
  same-where false one two same = refl

  bare-edition : (library : List ℕ) (r : Record) → option_map bare (edition prefer library r) ≡ option_map bare (edition other library r)
  bare-edition library r =
      same-where (is_loaded library r) (edition_made prefer library r) (edition_made other library r) (bare-made library r)

  bare-editions : (records : List (List ℕ × Record)) → map bare (editions_by prefer records) ≡ map bare (editions_by other records)
  bare-editions [] = refl
  bare-editions (one ∷ rest) =
      bare-cons (edition prefer one.0 one.1) (edition other one.0 one.1) (editions_by prefer rest) (editions_by other rest)
      (bare-edition one.0 one.1) (bare-editions rest)

-- ---- resolutions

all-bare : (p : Edition → Bool) → ((y : Edition) → p (bare y) ≡ p y) → (editions : List Edition)
    → list_all p (map bare editions) ≡ list_all p editions
all-bare p same [] = refl
all-bare p same (y ∷ ys) = λ i. same y i && all-bare p same ys i

ascending-bare : (editions : List Edition) → is_ascending edition_cmp (map bare editions) ≡ is_ascending edition_cmp editions
ascending-bare [] = refl
ascending-bare (x ∷ xs) = λ i. all-bare (λ y. is_lt (edition_cmp x y)) (λ y. refl) xs i && ascending-bare xs i

ordered-bare : (list editions : List Edition) → IsOrderedResolution list editions → IsOrderedResolution (map bare list) (map bare editions)
ordered-bare list editions r = record {
  resolved = image-resolves bare edition_join_laws edition_match_laws (λ x y. refl) bare-join list editions r.resolved;
  ascending = ascending-bare editions ∙ r.ascending;
}

unranked-bare : (editions : List Edition) → map unranked (map bare editions) ≡ map unranked editions
unranked-bare [] = refl
unranked-bare (x ∷ xs) = ap (λ rest. unranked x ∷ rest) (unranked-bare xs)

pub same-unranked : (prefer other : List (List ℕ)) (records : List (List ℕ × Record)) (one two : List Edition)
    → IsOrderedResolution (editions_by prefer records) one → IsOrderedResolution (editions_by other records) two
    → map unranked one ≡ map unranked two
same-unranked prefer other records one two by_prefer by_other =
    let same : map bare one ≡ map bare two =
    one-ordered (map bare (editions_by prefer records)) (map bare one) (map bare two)
    (ordered-bare (editions_by prefer records) one by_prefer)
    (subst (λ list. IsOrderedResolution list (map bare two)) (sym (bare-editions prefer other records))
    (ordered-bare (editions_by other records) two by_other)) in
    sym (unranked-bare one) ∙ ap (map unranked) same ∙ unranked-bare two
