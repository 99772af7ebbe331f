-- The edition of a library's record is its own: it has that one contributor, and one level in all its ranks.
use Rattle.std.proofs.Common.{◌≡◌, ◌≤◌, ℕ, true, ◌&&◌, ◌==◌, IsTrue, List, [], ◌∷◌, refl, ap, ◌∙◌, arith}
use Rattle.std.specs.Prelude.{nat_le, codes, find, Option, Some, None}
use Rattle.std.specs.Option.{option_map}
use Rattle.std.specs.Cmp.Lexicographic.{nat_list_eq_equiv}
use Rattle.std.proofs.lemmas.Bool.Decides.{nat_tests}
use Rattle.union_base.specs.Both.{true_both}
use Rattle.union_base.specs.declared.field.Field.{Field}
use Rattle.marc_parts.specs.declared.marc_record.Record.{Record}
use Rattle.marc_parts.specs.Parts.{first_under}
use Rattle.field_merge.specs.Preferences.{most_codes}
use Rattle.field_merge.proofs.LevelLaws.{level-most}
use Rattle.field_merge.specs.Ranks.{rank}
use Rattle.field_merge.specs.Contents.{is_main_entry, slot, contributor, content}
use Rattle.field_merge.specs.declared.rank.Rank.{Rank}
use Rattle.catalogue_editions.specs.Batches.{is_one_of, is_at_level, has_one_level, is_own}
use Rattle.record_editions.specs.Records.{IsEditionOf}
use Rattle.catalogue_editions.specs.declared.edition.Edition.{Edition}

same_number : (n : ℕ) → (n == n) ≡ true
same_number n = grind (arith, nat_tests)

at_most : (m n : ℕ) → m ≤ n → nat_le m n ≡ true
at_most m n within = grind (arith, nat_tests)

slot-level : (k : Rank) (o : Option Field) → is_at_level k.level (option_map (slot k) o) ≡ true
slot-level k None = refl
slot-level k (Some f) = same_number k.level

content-level : (prefer : List (List ℕ)) (library : List ℕ) (r : Record) → has_one_level (content prefer library r) ≡ true
content-level prefer library r =
    let k = rank prefer library r in
    let c = content prefer library r in
    true_both (nat_le k.level most_codes && (k.level == k.level))
    ((is_at_level k.level c.f005 && (is_at_level k.level c.f010 && is_at_level k.level c.f040)) && (is_at_level k.level c.f1xx && is_at_level k.level c.f240))
    (true_both (nat_le k.level most_codes) (k.level == k.level) (at_most k.level most_codes (level-most prefer library)) (same_number k.level))
    (true_both (is_at_level k.level c.f005 && (is_at_level k.level c.f010 && is_at_level k.level c.f040)) (is_at_level k.level c.f1xx && is_at_level k.level c.f240)
    (true_both (is_at_level k.level c.f005) (is_at_level k.level c.f010 && is_at_level k.level c.f040)
    (slot-level k (first_under (codes "005") r.fields))
    (true_both (is_at_level k.level c.f010) (is_at_level k.level c.f040)
    (slot-level k (first_under (codes "010") r.fields)) (slot-level k (first_under (codes "040") r.fields))))
    (true_both (is_at_level k.level c.f1xx) (is_at_level k.level c.f240)
    (slot-level k (find is_main_entry r.fields)) (slot-level k (first_under (codes "240") r.fields))))

pub own-edition : (prefer : List (List ℕ)) (library : List ℕ) (r : Record) (e : Edition) → IsEditionOf prefer library r e → IsTrue (is_own library e)
own-edition prefer library r e is =
    ap (λ c. is_one_of library c.contributors && has_one_level c) is.content
    ∙ true_both (is_one_of library (contributor library r ∷ [])) (has_one_level (content prefer library r))
    (nat_list_eq_equiv.refl library) (content-level prefer library r)
