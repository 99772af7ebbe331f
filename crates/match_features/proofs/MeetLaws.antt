-- Meeting is reflexive and symmetric, and what meets one side of a union meets the union.
use Rattle.std.proofs.Common.{◌≡◌, Bool, true, false, ◌&&◌, ◌||◌, IsTrue, List, filter, refl, sym, ap, ◌∙◌}
use Rattle.std.specs.declared.cmp.Ordering.{Ordering}
use Rattle.std.specs.Cmp.{IsTotalOrder}
use Rattle.std.specs.Cmp.Lexicographic.{nat_list_cmp_total}
use Rattle.std.specs.FinMap.{IsAntisymmetric}
use Rattle.union_base.specs.SortedLists.{have_common}
use Rattle.union_base.specs.Ties.{texts_apart}
use Rattle.union_base.proofs.SortedListLaws.{have_common-symmetric}
use Rattle.merge_laws.specs.Resolution.{MatchLaws}
use Rattle.match_features.specs.declared.features.Features.{Features}
use Rattle.match_features.specs.KeptLaws.{pairs_total, pairs_tie}
use Rattle.match_features.specs.Joining.{join}
use Rattle.match_features.specs.JoinLaws.{parts}
use Rattle.match_features.specs.Meeting.{meet_by_control, meet_by_isbn, meet_by_issn, is_no_serial, have_common_but_serials, meet_by_title, meet}
use Rattle.match_features.proofs.MemberLaws.{common-kept, common-itself, common-from_member, member-from_common, member-filter, member-from_filter}

-- what follows from each side of a test follows from the test
pub or_more : (a b c d : Bool) → (a ≡ true → c ≡ true) → (b ≡ true → d ≡ true) → (a || b) ≡ true → (c || d) ≡ true
or_more true b c d p q h = ap (λ t. t || d) (p refl)
or_more false b true d p q h = refl
or_more false b false d p q h = q h

pub and_more : (a b c d : Bool) → (a ≡ true → c ≡ true) → (b ≡ true → d ≡ true) → (a && b) ≡ true → (c && d) ≡ true
and_more true b c d p q h = ap (λ t. t && d) (p refl) ∙ q h
and_more false b c d p q h = cc

same-from_both : (a b : Bool) → (a ≡ true → b ≡ true) → (b ≡ true → a ≡ true) → a ≡ b
same-from_both true b p q = sym (p refl)
same-from_both false true p q = q refl
same-from_both false false p q = refl

-- what is common to two lists and passes a test is so in either order
module _ {K : Type 0} {R : K → K → Ordering} (o : IsTotalOrder R) (ties : IsAntisymmetric R) (p : K → Bool) where
  common_filter-swap : (xs ys : List K) → have_common R (filter p xs) ys ≡ true → have_common R (filter p ys) xs ≡ true
  common_filter-swap xs ys h =
      let some = member-from_common o ties (filter p xs) ys h in
      let kept = member-from_filter p xs some.0 some.1 in
      common-from_member o ties (filter p ys) xs some.0 (member-filter p ys some.0 some.2 kept.1) kept.0

  common_filter-symmetric : (xs ys : List K) → have_common R (filter p xs) ys ≡ have_common R (filter p ys) xs
  common_filter-symmetric xs ys = same-from_both _ _ (common_filter-swap xs ys) (common_filter-swap ys xs)

meet-itself : (x : Features) → IsTrue (meet x x)
meet-itself x =
    ap (λ t. ((t || meet_by_isbn x x) || meet_by_issn x x) || meet_by_title x x) (common-itself pairs_total pairs_tie x.control (parts x).some)

meet-symmetric : (x y : Features) → meet x y ≡ meet y x
meet-symmetric x y =
    let control = have_common-symmetric pairs_total x.control y.control in
    let types = have_common-symmetric nat_list_cmp_total x.types y.types in
    let isbns = have_common-symmetric nat_list_cmp_total x.isbns y.isbns in
    let issns = have_common-symmetric nat_list_cmp_total x.issns y.issns in
    let others : have_common_but_serials x.types y.types ≡ have_common_but_serials y.types x.types =
    common_filter-symmetric nat_list_cmp_total texts_apart is_no_serial x.types y.types in
    let titles = have_common-symmetric nat_list_cmp_total x.titles y.titles in
    let dates = have_common-symmetric nat_list_cmp_total x.dates y.dates in
    let names = have_common-symmetric nat_list_cmp_total x.names y.names in
    λ i. ((control i || (types i && isbns i)) || (types i && issns i)) || (((others i && titles i) && dates i) && names i)

meet-join : (x y z : Features) → IsTrue (meet x y) → IsTrue (meet x (join y z))
meet-join x y z h =
    let texts = common-kept nat_list_cmp_total texts_apart in
    let w = join y z in
    or_more (meet_by_control x y || meet_by_isbn x y || meet_by_issn x y) (meet_by_title x y)
    (meet_by_control x w || meet_by_isbn x w || meet_by_issn x w) (meet_by_title x w)
    (or_more (meet_by_control x y || meet_by_isbn x y) (meet_by_issn x y) (meet_by_control x w || meet_by_isbn x w) (meet_by_issn x w)
    (or_more (meet_by_control x y) (meet_by_isbn x y) (meet_by_control x w) (meet_by_isbn x w)
    (common-kept pairs_total pairs_tie x.control y.control z.control)
    (and_more _ _ _ _ (texts x.types y.types z.types) (texts x.isbns y.isbns z.isbns)))
    (and_more _ _ _ _ (texts x.types y.types z.types) (texts x.issns y.issns z.issns)))
    (and_more _ _ _ _ (and_more _ _ _ _ (and_more _ _ _ _ (texts (filter is_no_serial x.types) y.types z.types) (texts x.titles y.titles z.titles))
    (texts x.dates y.dates z.dates)) (texts x.names y.names z.names))
    h

pub features_match_laws : MatchLaws meet join
features_match_laws = record {
  reflexive = meet-itself;
  symmetric = λ x y h. sym (meet-symmetric x y) ∙ h;
  representative = meet-join;
}
