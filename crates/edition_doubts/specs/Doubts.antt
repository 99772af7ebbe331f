-- Which reasons stand of the records of an edition.
use Rattle.std.specs.Prelude.{Bool, List, [], ◌∷◌, filter, map}
use Rattle.field_merge.specs.declared.content.Content.{Content}
use Rattle.catalogue_editions.specs.declared.edition.Edition.{Edition}
use Rattle.edition_doubts.specs.Reasons.{shares_no_title, shares_no_isbn, languages_differ, carriers_differ, statements_differ}
use Rattle.edition_doubts.specs.Sets.{are_joined_by_sets}
use Rattle.edition_doubts.specs.OwnNumbers.{are_joined_by_own}
use Rattle.edition_doubts.specs.declared.doubts.Doubt.{Doubt}
use Rattle.edition_doubts.specs.declared.doubts.Doubt.TheVariants.{Titles, Isbns, Languages, Carriers, Statements, Sets, OwnNumbers}

-- what the records say
abbrev pub contents_of : List Edition → List Content
contents_of records = map (λ r. r.content) records

-- whether a reason stands of the records
abbrev pub stands : List Edition → Doubt → Bool
stands records Titles = shares_no_title records
stands records Isbns = shares_no_isbn records
stands records Languages = languages_differ (contents_of records)
stands records Carriers = carriers_differ (contents_of records)
stands records Statements = statements_differ (contents_of records)
stands records Sets = are_joined_by_sets records (contents_of records)
stands records OwnNumbers = are_joined_by_own records

-- all reasons, in the order in which they are told
abbrev pub all_doubts : List Doubt
all_doubts = Titles ∷ (Isbns ∷ (Languages ∷ (Carriers ∷ (Statements ∷ (Sets ∷ (OwnNumbers ∷ []))))))

-- the reasons that stand
abbrev pub doubts_of : List Edition → List Doubt
doubts_of records = filter (stands records) all_doubts
