-- Lists that share no key, resolved side by side.
use Rattle.std.proofs.Common.{◌≡◌, ◌+◌, Bool, List, [], ◌∷◌, ◌++◌, length, get_or, map, refl, sym, ◌∙◌, ap, subst, inl, inr, arith, length-append}
use Rattle.std.specs.Prelude.{Contains, AllPairs}
use Rattle.std.proofs.lemmas.List.{get_or_append_left, get_or-append-add, get_or_default, get_or_at, flat_map_more, map-append, map_push}
use Rattle.std.proofs.lemmas.List.Concat.{flat_map-append}
use Rattle.std.proofs.lemmas.List.Elements.{Contains-append_right, Contains-append_cases}
use Rattle.merge_laws.specs.Resolution.{JoinLaws, MatchLaws, KeyLaws, IsResolution, DoNotMatch}
use Rattle.merge_laws.proofs.Places.{Contains-head, AllPairs-none, AllPairs-append}
use Rattle.merge_laws.proofs.Resolutions.{IsResolution-append, apart-from_resolution}
use Rattle.merge_laws.proofs.Tags.{member-from_tag}
use Rattle.swoosh_halves.proofs.Pairing.{resolved_itself}
use Rattle.key_groups.specs.Groups.{ShareNoKey, AreCutApart, together}
use Rattle.key_groups.proofs.Grouping.{group_from_together}

-- a value of a group shares no key with a stranger, nor with a value of an earlier group
next_apart : {A K : Type 0} {has_key : A → K → Type 0} (strangers : List A) (front : List (List A)) (group : List A) (back : List (List A)) → AreCutApart has_key strangers (front ++ group ∷ back) → (x y : A) → Contains (strangers ++ together front) x → Contains group y → ShareNoKey has_key x y
next_apart strangers front group back cut x y cx cy = elim (Contains-append_cases strangers (together front) x cx) [
  | inl s ↦ cut.beside x y group s (Contains-append_right front (group ∷ back) group (Contains-head group back)) cy
  | inr o ↦ (
      let (l, ll, d) = group_from_together front x o in
      let long = length-append front (group ∷ back) in
      cut.groups_apart l (length front) [] ll (omega (arith, long)) x y
      (subst (λ g. Contains g x) (sym (get_or_append_left front (group ∷ back) [] l ll)) d)
      (subst (λ g. Contains g y) (sym (get_or_at front group back [] (length front) refl)) cy))
]

-- the groups alone are cut apart, and so are those in the front and in the back of them
pub cut_groups : {A K : Type 0} {has_key : A → K → Type 0} (strangers : List A) (groups : List (List A)) → AreCutApart has_key strangers groups → AreCutApart has_key [] groups
cut_groups {has_key = has_key} strangers groups cut = record {
  strangers_apart = AllPairs-none (ShareNoKey has_key);
  beside = λ x y group cx. (let (i, within, same) = cx in absurd (omega (arith, within)));
  groups_apart = cut.groups_apart;
}

pub cut_front : {A K : Type 0} {has_key : A → K → Type 0} (front back : List (List A)) → AreCutApart has_key [] (front ++ back) → AreCutApart has_key [] front
cut_front {has_key = has_key} front back cut = record {
  strangers_apart = AllPairs-none (ShareNoKey has_key);
  beside = λ x y group cx. (let (i, within, same) = cx in absurd (omega (arith, within)));
  groups_apart = λ l m d lm ml x y cx cy.
      let long = length-append front back in
      cut.groups_apart l m d lm (omega (arith, ml, long)) x y
      (subst (λ g. Contains g x) (sym (get_or_append_left front back d l (omega (arith, lm, ml)))) cx)
      (subst (λ g. Contains g y) (sym (get_or_append_left front back d m ml)) cy);
}

pub cut_back : {A K : Type 0} {has_key : A → K → Type 0} (front back : List (List A)) → AreCutApart has_key [] (front ++ back) → AreCutApart has_key [] back
cut_back {has_key = has_key} front back cut = record {
  strangers_apart = AllPairs-none (ShareNoKey has_key);
  beside = λ x y group cx. (let (i, within, same) = cx in absurd (omega (arith, within)));
  groups_apart = λ l m d lm ml x y cx cy.
      let long = length-append front back in
      cut.groups_apart (length front + l) (length front + m) d (omega (arith, lm)) (omega (arith, ml, long)) x y
      (subst (λ g. Contains g x) (sym (get_or-append-add front back l d)) cx)
      (subst (λ g. Contains g y) (sym (get_or-append-add front back m d)) cy);
}

-- no value of a group in the front shares a key with one in the back
parts_apart : {A K : Type 0} {has_key : A → K → Type 0} (front back : List (List A)) → AreCutApart has_key [] (front ++ back) → (x y : A) → Contains (together front) x → Contains (together back) y → ShareNoKey has_key x y
parts_apart front back cut x y cx cy =
    let (l, ll, d) = group_from_together front x cx in
    let (m, ml, e) = group_from_together back y cy in
    let long = length-append front back in
    cut.groups_apart l (length front + m) [] (omega (arith, ll)) (omega (arith, ml, long)) x y
    (subst (λ g. Contains g x) (sym (get_or_append_left front back [] l ll)) d)
    (subst (λ g. Contains g y) (sym (get_or-append-add front back m [])) e)

module _ {A K : Type 0} {match : A → A → Bool} {merge : A → A → A} {has_key : A → K → Type 0} {shares : A → A → Bool} (join : JoinLaws merge) (laws : MatchLaws match merge) (keys : KeyLaws match merge has_key shares) where
  -- values that share no key do not match
  keys_apart : (x y : A) → ShareNoKey has_key x y → DoNotMatch match x y
  keys_apart x y none = ((λ m. let (k, hx, hy) = keys.matching x y m in none k hx hy), (λ m. let (k, hy, hx) = keys.matching y x m in none k hx hy))

  -- so strangers are their own resolution
  pub strangers_resolved : (strangers : List A) → AllPairs (ShareNoKey has_key) strangers → IsResolution match merge strangers strangers
  strangers_resolved strangers none = resolved_itself join laws strangers (λ i j d ij jl. keys_apart (get_or strangers i d) (get_or strangers j d) (none i j d ij jl))

  -- a block has its keys from the values, so the blocks of lists that share no key share none, and stand side by side
  pub resolved_beside : (I J E F : List A) → ((x y : A) → Contains I x → Contains J y → ShareNoKey has_key x y) → IsResolution match merge I E → IsResolution match merge J F → IsResolution match merge (I ++ J) (E ++ F)
  resolved_beside I J E F none p q =
      let free : (e f : A) → Contains E e → Contains F f → ShareNoKey has_key e f = λ e f ce cf k he hf.
      let (x, cx, hx, up) = member-from_tag join laws keys.merged I e k (p.derived e ce) he in
      let (y, cy, hy, up') = member-from_tag join laws keys.merged J f k (q.derived f cf) hf in
      none x y cx cy k hx hy in
      IsResolution-append join laws I J E F (E ++ F) p q
      (resolved_itself join laws (E ++ F) (AllPairs-append (DoNotMatch match) E F (apart-from_resolution join laws I E p) (apart-from_resolution join laws J F q)
      (λ e f ce cf. keys_apart e f (free e f ce cf))))

  -- one group more is resolved beside the strangers and the groups before it
  pub resolved_more : {G : Type 0} (strangers : List A) (groups front rest : List G) (group : G) (values : G → List A) (all blocks : List A) → groups ≡ front ++ group ∷ rest → AreCutApart has_key strangers (map values groups) → IsResolution match merge (strangers ++ together (map values front)) all → IsResolution match merge (values group) blocks → IsResolution match merge (strangers ++ together (map values (front ++ group ∷ []))) (all ++ blocks)
  resolved_more strangers groups front rest group values all blocks whole cut done new =
      let lists : map values groups ≡ map values front ++ values group ∷ map values rest = ap (map values) whole ∙ map-append values front (group ∷ rest) in
      let more : (strangers ++ together (map values front)) ++ values group ≡ strangers ++ together (map values (front ++ group ∷ [])) =
      flat_map_more (λ g. g) strangers (map values front) (values group) ∙ ap (λ ls. strangers ++ together ls) (sym (map_push values front group)) in
      subst (λ list. IsResolution match merge list (all ++ blocks)) more
      (resolved_beside (strangers ++ together (map values front)) (values group) all blocks
      (next_apart strangers (map values front) (values group) (map values rest) (subst (AreCutApart has_key strangers) lists cut)) done new)

  -- and all groups beside the strangers
  pub resolved_all : (strangers : List A) (groups : List (List A)) (all : List A) → AreCutApart has_key strangers groups → IsResolution match merge (together groups) all → IsResolution match merge (strangers ++ together groups) (strangers ++ all)
  resolved_all strangers groups all cut done =
      resolved_beside strangers (together groups) strangers all
      (λ x y cx cy. let (l, ll, d) = group_from_together groups y cy in cut.beside x y (get_or groups l []) cx (l, ll, get_or_default groups l (get_or groups l []) [] ll) d)
      (strangers_resolved strangers cut.strangers_apart) done

  -- the groups of two lists side by side
  pub groups_beside : (front back : List (List A)) (one other : List A) → AreCutApart has_key [] (front ++ back) → IsResolution match merge (together front) one → IsResolution match merge (together back) other → IsResolution match merge (together (front ++ back)) (one ++ other)
  groups_beside front back one other cut p q =
      subst (λ (list : List A). IsResolution match merge list (one ++ other)) (sym (flat_map-append (λ (g : List A). g) front back))
      (resolved_beside (together front) (together back) one other (parts_apart front back cut) p q)
