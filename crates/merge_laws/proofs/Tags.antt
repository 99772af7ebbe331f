-- Values that bear tags, where a merge bears the tags of both its sides and no others, as an edition bears the ids of its
-- contributors. Where one member of a list alone bears a tag, the tag tells which value of the resolution dominates it.
use Rattle.std.proofs.Common.{◌≡◌, Bool, List, subst, inl, inr}
use Rattle.std.specs.Prelude.{◌⊎◌, ◌↔◌, Contains}
use Rattle.merge_laws.specs.Resolution.{JoinLaws, MatchLaws, Derives, member, merged, IsDominated, IsResolution}
use Rattle.merge_laws.proofs.Resolutions.{IsDominated-refl, IsDominated-trans, IsDominated-left, IsDominated-right, same-from_dominating}

module _ {A T : Type 0} {match : A → A → Bool} {merge : A → A → A} {has : A → T → Type 0} (join : JoinLaws merge) (laws : MatchLaws match merge) (tags : (x y : A) (t : T) → has (merge x y) t ↔ (has x t ⊎ has y t)) where
  -- what dominates a value bears its tags
  pub tag-from_dominated : (x y : A) (t : T) → IsDominated match merge x y → has x t → has y t
  tag-from_dominated x y t d h = subst (λ z. has z t) d.absorbed ((tags x y t).1 (inl h))

  -- what derives from a list has each of its tags from a member that it dominates
  pub member-from_tag : (I : List A) (r : A) (t : T) → Derives match merge I r → has r t → (x : A) × Contains I x × has x t × IsDominated match merge x r
  member-from_tag I r t (member c) h = (r, c, h, IsDominated-refl join laws r)
  member-from_tag I _ t (merged {a = a} {b = b} p q m) h = elim ((tags a b t).0 h) [
    | inl mine ↦ (let (x, c, bears, d) = member-from_tag I a t p mine in (x, c, bears, IsDominated-trans join laws x a (merge a b) d (IsDominated-left join laws a b)))
    | inr its ↦ (let (x, c, bears, d) = member-from_tag I b t q its in (x, c, bears, IsDominated-trans join laws x b (merge a b) d (IsDominated-right join laws a b)))
  ]

  -- a member that alone bears a tag is dominated by each value that derives and bears it
  pub dominated-from_tag : (I : List A) (x : A) (t : T) → ((y : A) → Contains I y → has y t → y ≡ x) → (r : A) → Derives match merge I r → has r t → IsDominated match merge x r
  dominated-from_tag I x t alone r p h =
      let (y, c, bears, d) = member-from_tag I r t p h in
      subst (λ z. IsDominated match merge z r) (alone y c bears) d

  -- so one member of the resolution bears it
  pub same-from_tag : (I E : List A) (x : A) (t : T) → IsResolution match merge I E → ((y : A) → Contains I y → has y t → y ≡ x) → (e f : A) → Contains E e → Contains E f → has e t → has f t → e ≡ f
  same-from_tag I E x t r alone e f ce cf he hf =
      same-from_dominating join laws I E r x e f ce cf
      (dominated-from_tag I x t alone e (r.derived e ce) he)
      (dominated-from_tag I x t alone f (r.derived f cf) hf)
