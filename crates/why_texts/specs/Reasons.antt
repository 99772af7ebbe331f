-- By what two editions match, as text: for each rule that holds of them, a value each that both have.
use Rattle.std.specs.Prelude.{ℕ, List, [], ◌++◌, codes, Option, Some, None}
use Rattle.match_features.specs.Kept.{texts_cmp, pairs_cmp}
use Rattle.match_features.specs.declared.features.Features.{Features}
use Rattle.edition_derivations.specs.Common.{first_common, first_common_but_serials}

-- what is told of a value, where there is one
abbrev pub of_some : {K : Type 0} → Option K → (K → List ℕ) → List ℕ
of_some None told = []
of_some (Some value) told = told value

-- a control number with its source
abbrev pub control_text : List ℕ × List ℕ → List ℕ
control_text pair = codes "  control number (" ++ (pair.0 ++ (codes ")" ++ pair.1))

-- a number under its name, and a type of record
abbrev pub number_text : List ℕ → List ℕ → List ℕ → List ℕ
number_text name number kind = name ++ (number ++ (codes ", type " ++ kind))

-- a title, a date, a name and a type of record
abbrev pub description_text : List ℕ → List ℕ → List ℕ → List ℕ → List ℕ
description_text title date name kind =
    codes "  title " ++ (title ++ (codes ", date " ++ (date ++ (codes ", name " ++ (name ++ (codes ", type " ++ kind))))))

-- some control number is common to both
abbrev pub control_reason : Features → Features → List ℕ
control_reason x y = of_some (first_common pairs_cmp x.control y.control) control_text

-- some type and some ISBN are
abbrev pub isbn_reason : Features → Features → List ℕ
isbn_reason x y =
    of_some (first_common texts_cmp x.types y.types) (λ kind.
    of_some (first_common texts_cmp x.isbns y.isbns) (λ isbn. number_text (codes "  ISBN ") isbn kind))

-- some type and some ISSN are
abbrev pub issn_reason : Features → Features → List ℕ
issn_reason x y =
    of_some (first_common texts_cmp x.types y.types) (λ kind.
    of_some (first_common texts_cmp x.issns y.issns) (λ issn. number_text (codes "  ISSN ") issn kind))

-- some type that is no serial's, some title, some date and some name are
abbrev pub title_reason : Features → Features → List ℕ
title_reason x y =
    of_some (first_common_but_serials x.types y.types) (λ kind.
    of_some (first_common texts_cmp x.titles y.titles) (λ title.
    of_some (first_common texts_cmp x.dates y.dates) (λ date.
    of_some (first_common texts_cmp x.names y.names) (λ name. description_text title date name kind))))

-- each rule that holds of the two
abbrev pub reasons_text : Features → Features → List ℕ
reasons_text x y = control_reason x y ++ (isbn_reason x y ++ (issn_reason x y ++ title_reason x y))
