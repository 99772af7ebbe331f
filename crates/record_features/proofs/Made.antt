-- Features that were made of seven lists.
use Rattle.std.proofs.Common.{◌≡◌, ℕ, List, Result, Ok, Err, IfOk, ◌∙◌}
use Rattle.union_base.specs.declared.memory.Memory.{Memory}
use Rattle.match_features.specs.declared.features.Features.{Features}
use Rattle.match_features.specs.JoinLaws.{same_features}

-- the seven lists are those of the features
pub record AreListsOf (a : List (List ℕ × List ℕ)) (b c d e f g : List (List ℕ)) (x : Features) : Type 0 where
  pub control : a ≡ x.control
  pub types : b ≡ x.types
  pub isbns : c ≡ x.isbns
  pub issns : d ≡ x.issns
  pub titles : e ≡ x.titles
  pub dates : f ≡ x.dates
  pub names : g ≡ x.names

pub features_made : (r : Result Features Memory) (a : List (List ℕ × List ℕ)) (b c d e f g : List (List ℕ)) (x : Features)
    → IfOk r (λ m. m.control ≡ a) → IfOk r (λ m. m.types ≡ b) → IfOk r (λ m. m.isbns ≡ c) → IfOk r (λ m. m.issns ≡ d)
    → IfOk r (λ m. m.titles ≡ e) → IfOk r (λ m. m.dates ≡ f) → IfOk r (λ m. m.names ≡ g) → AreListsOf a b c d e f g x
    → IfOk r (λ m. m ≡ x)
features_made (Ok m) a b c d e f g x control types isbns issns titles dates names same =
    same_features m x (record {
      control = control ∙ same.control;
      types = types ∙ same.types;
      isbns = isbns ∙ same.isbns;
      issns = issns ∙ same.issns;
      titles = titles ∙ same.titles;
      dates = dates ∙ same.dates;
      names = names ∙ same.names;
    })
features_made (Err failed) a b c d e f g x control types isbns issns titles dates names same = tt
