-- Keys that compare as equal are one key, by whichever test answers as key_eq does.
use Rattle.std.proofs.Common.{◌≡◌, ℕ, Bool, true, false, List, sym, ◌∙◌}
use Rattle.match_features.specs.Keys.{key_eq}
use Rattle.match_features.proofs.KeyLaws.{features_keys_exact}
use Rattle.match_features.specs.declared.keys.FeatureKey.{FeatureKey}
use Rattle.match_features.specs.declared.keys.FeatureKey.TheVariants.{Control, Isbn, Issn, Title, Description, TitleOfMany}

-- the test answers as key_eq does, for keys of one kind, and tells the kinds apart
pub record TellsKeys (eq : FeatureKey → FeatureKey → Bool) : Type 0 where
  pub controls : (p q : List ℕ × List ℕ) → eq (Control p) (Control q) ≡ key_eq (Control p) (Control q)
  pub isbns : (a b : List ℕ) → eq (Isbn a) (Isbn b) ≡ key_eq (Isbn a) (Isbn b)
  pub issns : (a b : List ℕ) → eq (Issn a) (Issn b) ≡ key_eq (Issn a) (Issn b)
  pub titles : (a b : List ℕ) → eq (Title a) (Title b) ≡ key_eq (Title a) (Title b)
  pub descriptions : (p q : List ℕ × List ℕ × List ℕ) → eq (Description p) (Description q) ≡ key_eq (Description p) (Description q)
  pub manys : (a b : List ℕ) → eq (TitleOfMany a) (TitleOfMany b) ≡ key_eq (TitleOfMany a) (TitleOfMany b)
  pub control_isbn : (p : List ℕ × List ℕ) (b : List ℕ) → eq (Control p) (Isbn b) ≡ false
  pub control_issn : (p : List ℕ × List ℕ) (b : List ℕ) → eq (Control p) (Issn b) ≡ false
  pub control_title : (p : List ℕ × List ℕ) (b : List ℕ) → eq (Control p) (Title b) ≡ false
  pub control_description : (p : List ℕ × List ℕ) (q : List ℕ × List ℕ × List ℕ) → eq (Control p) (Description q) ≡ false
  pub control_many : (p : List ℕ × List ℕ) (b : List ℕ) → eq (Control p) (TitleOfMany b) ≡ false
  pub isbn_control : (a : List ℕ) (q : List ℕ × List ℕ) → eq (Isbn a) (Control q) ≡ false
  pub isbn_issn : (a : List ℕ) (b : List ℕ) → eq (Isbn a) (Issn b) ≡ false
  pub isbn_title : (a : List ℕ) (b : List ℕ) → eq (Isbn a) (Title b) ≡ false
  pub isbn_description : (a : List ℕ) (q : List ℕ × List ℕ × List ℕ) → eq (Isbn a) (Description q) ≡ false
  pub isbn_many : (a : List ℕ) (b : List ℕ) → eq (Isbn a) (TitleOfMany b) ≡ false
  pub issn_control : (a : List ℕ) (q : List ℕ × List ℕ) → eq (Issn a) (Control q) ≡ false
  pub issn_isbn : (a : List ℕ) (b : List ℕ) → eq (Issn a) (Isbn b) ≡ false
  pub issn_title : (a : List ℕ) (b : List ℕ) → eq (Issn a) (Title b) ≡ false
  pub issn_description : (a : List ℕ) (q : List ℕ × List ℕ × List ℕ) → eq (Issn a) (Description q) ≡ false
  pub issn_many : (a : List ℕ) (b : List ℕ) → eq (Issn a) (TitleOfMany b) ≡ false
  pub title_control : (a : List ℕ) (q : List ℕ × List ℕ) → eq (Title a) (Control q) ≡ false
  pub title_isbn : (a : List ℕ) (b : List ℕ) → eq (Title a) (Isbn b) ≡ false
  pub title_issn : (a : List ℕ) (b : List ℕ) → eq (Title a) (Issn b) ≡ false
  pub title_description : (a : List ℕ) (q : List ℕ × List ℕ × List ℕ) → eq (Title a) (Description q) ≡ false
  pub title_many : (a : List ℕ) (b : List ℕ) → eq (Title a) (TitleOfMany b) ≡ false
  pub description_control : (p : List ℕ × List ℕ × List ℕ) (q : List ℕ × List ℕ) → eq (Description p) (Control q) ≡ false
  pub description_isbn : (p : List ℕ × List ℕ × List ℕ) (b : List ℕ) → eq (Description p) (Isbn b) ≡ false
  pub description_issn : (p : List ℕ × List ℕ × List ℕ) (b : List ℕ) → eq (Description p) (Issn b) ≡ false
  pub description_title : (p : List ℕ × List ℕ × List ℕ) (b : List ℕ) → eq (Description p) (Title b) ≡ false
  pub description_many : (p : List ℕ × List ℕ × List ℕ) (b : List ℕ) → eq (Description p) (TitleOfMany b) ≡ false
  pub many_control : (a : List ℕ) (q : List ℕ × List ℕ) → eq (TitleOfMany a) (Control q) ≡ false
  pub many_isbn : (a : List ℕ) (b : List ℕ) → eq (TitleOfMany a) (Isbn b) ≡ false
  pub many_issn : (a : List ℕ) (b : List ℕ) → eq (TitleOfMany a) (Issn b) ≡ false
  pub many_title : (a : List ℕ) (b : List ℕ) → eq (TitleOfMany a) (Title b) ≡ false
  pub many_description : (a : List ℕ) (q : List ℕ × List ℕ × List ℕ) → eq (TitleOfMany a) (Description q) ≡ false

tells_key_eq : (eq : FeatureKey → FeatureKey → Bool) → TellsKeys eq → (j k : FeatureKey) → eq j k ≡ key_eq j k
tells_key_eq eq t (Control p) (Control q) = t.controls p q
tells_key_eq eq t (Isbn a) (Isbn b) = t.isbns a b
tells_key_eq eq t (Issn a) (Issn b) = t.issns a b
tells_key_eq eq t (Title a) (Title b) = t.titles a b
tells_key_eq eq t (Description p) (Description q) = t.descriptions p q
tells_key_eq eq t (TitleOfMany a) (TitleOfMany b) = t.manys a b
tells_key_eq eq t (Control p) (Isbn b) = t.control_isbn p b
tells_key_eq eq t (Control p) (Issn b) = t.control_issn p b
tells_key_eq eq t (Control p) (Title b) = t.control_title p b
tells_key_eq eq t (Control p) (Description q) = t.control_description p q
tells_key_eq eq t (Control p) (TitleOfMany b) = t.control_many p b
tells_key_eq eq t (Isbn a) (Control q) = t.isbn_control a q
tells_key_eq eq t (Isbn a) (Issn b) = t.isbn_issn a b
tells_key_eq eq t (Isbn a) (Title b) = t.isbn_title a b
tells_key_eq eq t (Isbn a) (Description q) = t.isbn_description a q
tells_key_eq eq t (Isbn a) (TitleOfMany b) = t.isbn_many a b
tells_key_eq eq t (Issn a) (Control q) = t.issn_control a q
tells_key_eq eq t (Issn a) (Isbn b) = t.issn_isbn a b
tells_key_eq eq t (Issn a) (Title b) = t.issn_title a b
tells_key_eq eq t (Issn a) (Description q) = t.issn_description a q
tells_key_eq eq t (Issn a) (TitleOfMany b) = t.issn_many a b
tells_key_eq eq t (Title a) (Control q) = t.title_control a q
tells_key_eq eq t (Title a) (Isbn b) = t.title_isbn a b
tells_key_eq eq t (Title a) (Issn b) = t.title_issn a b
tells_key_eq eq t (Title a) (Description q) = t.title_description a q
tells_key_eq eq t (Title a) (TitleOfMany b) = t.title_many a b
tells_key_eq eq t (Description p) (Control q) = t.description_control p q
tells_key_eq eq t (Description p) (Isbn b) = t.description_isbn p b
tells_key_eq eq t (Description p) (Issn b) = t.description_issn p b
tells_key_eq eq t (Description p) (Title b) = t.description_title p b
tells_key_eq eq t (Description p) (TitleOfMany b) = t.description_many p b
tells_key_eq eq t (TitleOfMany a) (Control q) = t.many_control a q
tells_key_eq eq t (TitleOfMany a) (Isbn b) = t.many_isbn a b
tells_key_eq eq t (TitleOfMany a) (Issn b) = t.many_issn a b
tells_key_eq eq t (TitleOfMany a) (Title b) = t.many_title a b
tells_key_eq eq t (TitleOfMany a) (Description q) = t.many_description a q

-- keys that the test finds equal are one key
pub exact_keys : {eq : FeatureKey → FeatureKey → Bool} → TellsKeys eq → (j k : FeatureKey) → eq j k ≡ true → j ≡ k
exact_keys {eq} t j k h = features_keys_exact j k (sym (tells_key_eq eq t j k) ∙ h)
