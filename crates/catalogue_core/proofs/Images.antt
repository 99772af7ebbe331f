-- A map that merging and matching respect takes resolutions to resolutions.
use Rattle.std.proofs.Common.{◌≡◌, ◌<◌, Bool, List, length, get_or, map, sym, ap, subst, ◌∙◌, arith}
use Rattle.std.specs.Prelude.{Contains}
use Rattle.std.proofs.lemmas.List.{get_or-map, length-map, get_or_default}
use Rattle.merge_laws.specs.Resolution.{JoinLaws, MatchLaws, Derives, member, merged, IsResolution, IsCovered, AreApart}
use Rattle.merge_laws.proofs.Resolutions.{IsResolution-from_apart, apart-from_resolution}

module _ {A : Type 0} (g : A → A) where
  pub Contains-map : (xs : List A) (x : A) → Contains xs x → Contains (map g xs) (g x)
  Contains-map xs x (k, kl, e) =
      (k, omega (arith, length-map xs g), get_or-map g xs k x (g x) kl ∙ ap g e)

  pub member-from_map : (xs : List A) (y : A) → Contains (map g xs) y → (x : A) × Contains xs x × (g x ≡ y)
  member-from_map xs y (k, kl, e) =
      let within : k < length xs = omega (arith, length-map xs g) in
      let x = get_or xs k y in
      (x, (k, within, get_or_default xs k x y within), sym (get_or-map g xs k y y within) ∙ e)

  module _ {match : A → A → Bool} {merge : A → A → A} (join : JoinLaws merge) (laws : MatchLaws match merge)
      (same_match : (x y : A) → match (g x) (g y) ≡ match x y) (same_merge : (x y : A) → merge (g x) (g y) ≡ g (merge x y)) where
    -- what derives from a list has an image that derives from the list of images
    image-derives : (list : List A) (r : A) → Derives match merge list r → Derives match merge (map g list) (g r)
    image-derives list r (member c) = member (Contains-map list r c)
    image-derives list _ (merged {a = a} {b = b} p q m) =
        subst (Derives match merge (map g list)) (same_merge a b)
        (merged (image-derives list a p) (image-derives list b q) (same_match a b ∙ m))

    -- the images of what resolves a list resolve the list of images
    pub image-resolves : (list resolution : List A) → IsResolution match merge list resolution
        → IsResolution match merge (map g list) (map g resolution)
    image-resolves list resolution r =
        IsResolution-from_apart join laws (map g list) (map g resolution)
        (λ y c. let (x, inside, is) = member-from_map resolution y c in
        subst (Derives match merge (map g list)) is (image-derives list x (r.derived x inside)))
        (λ y c. let (x, inside, is) = member-from_map list y c in
        subst (IsCovered match merge (map g resolution)) is (covers x inside))
        apart
      where
        covers : (x : A) → Contains list x → IsCovered match merge (map g resolution) (g x)
        covers x inside =
            let (s, there, above) = r.covered x (member inside) in (
              g s,
              Contains-map resolution s there,
              record {
                matches = same_match x s ∙ above.matches;
                absorbed = same_merge x s ∙ ap g above.absorbed;
              },
            )

        apart : AreApart match (map g resolution)
        apart i j d ij jl =
            let within : j < length resolution = omega (arith, length-map resolution g) in
            let before : i < length resolution = omega arith in
            let x = get_or resolution i d in
            let y = get_or resolution j d in
            let never = apart-from_resolution join laws list resolution r i j d ij within in
            let same : match (get_or (map g resolution) i d) (get_or (map g resolution) j d) ≡ match x y =
            (λ k. match (get_or-map g resolution i d d before k) (get_or-map g resolution j d d within k)) ∙ same_match x y in
            let turned : match (get_or (map g resolution) j d) (get_or (map g resolution) i d) ≡ match y x =
            (λ k. match (get_or-map g resolution j d d within k) (get_or-map g resolution i d d before k)) ∙ same_match y x in
            (λ m. never.0 (sym same ∙ m), λ m. never.1 (sym turned ∙ m))
