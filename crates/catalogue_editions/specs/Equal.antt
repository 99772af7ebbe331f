-- Editions that have the same features and the same content are equal.
use Rattle.std.proofs.Common.{◌≡◌, true, IsTrue}
use mathlib.Core.HLevel.{Σ_prop_path}
use Rattle.std.proofs.Math.Bool.{Bool-set}
use Rattle.match_features.specs.declared.features.Features.{Features}
use Rattle.field_merge.specs.declared.content.Content.{Content}
use Rattle.catalogue_editions.specs.Linked.{are_linked}
use Rattle.catalogue_editions.specs.Sound.{is_sound}
use Rattle.catalogue_editions.specs.declared.edition.Edition.{Edition}

-- editions with the same features and the same content are one
pub same_editions : (x y : Edition) → x.features ≡ y.features → x.content ≡ y.content → x ≡ y
same_editions x y features content =
    let linked : ◌≡◌ {A = (d : Features × Content) × IsTrue (are_linked d.1.contributors d.0.control)} ((x.features, x.content), x.linked) ((y.features, y.content), y.linked) =
    Σ_prop_path (λ d. Bool-set (are_linked d.1.contributors d.0.control) true) (λ i. (features i, content i)) in
    let sound : ◌≡◌ {A = (d : Content) × IsTrue (is_sound d)} (x.content, x.sound) (y.content, y.sound) =
    Σ_prop_path (λ d. Bool-set (is_sound d) true) content in
    λ i. record {
      features = features i;
      content = content i;
      linked = (linked i).1;
      sound = (sound i).1;
    }
