-- The fields of an edition's record as text, each with the records that have it.
use Rattle.std.specs.Prelude.{ℕ, if◌then◌else◌, List, [], ◌∷◌, ◌++◌, codes, map, Option, Some, None}
use Rattle.std.specs.List.{flat_map}
use Rattle.std.specs.Ordering.{is_eq}
use Rattle.union_base.specs.OneLine.{shown}
use Rattle.union_base.specs.declared.field.Field.{Field}
use Rattle.union_base.specs.declared.record_id.RecordId.{RecordId}
use Rattle.field_merge.specs.Orders.{rank_cmp}
use Rattle.field_merge.specs.declared.content.Content.{Content}
use Rattle.field_merge.specs.declared.rank.Rank.{Rank}
use Rattle.catalogue_editions.specs.declared.edition.Edition.{Edition}
use Rattle.edition_sources.specs.Shown.{rank_in, field_in, why_above, has_united}
use Rattle.edition_sources.specs.declared.shown_once.Part.{Part}
use Rattle.edition_sources.specs.declared.shown_once.Part.TheVariants.{Fixed, Stamp, Number, Source, MainEntry, UniformTitle, Title}
use Rattle.edition_sources.specs.declared.ranking.Reason.{Reason}
use Rattle.edition_sources.specs.declared.ranking.Reason.TheVariants.{Preference, Encoding, Date, Id}
use Rattle.why_texts.specs.Ids.{id_text, ids_text}
use Rattle.why_texts.specs.Answers.{size_text}
use Rattle.why_texts.specs.FieldTexts.{body_text}
use Rattle.why_texts.specs.Reasons.{of_some}

-- by what one record's field is shown and not another's
abbrev pub reason_name : Reason → List ℕ
reason_name Preference = codes "preference"
reason_name Encoding = codes "encoding level"
reason_name Date = codes "date of 005"
reason_name Id = codes "id"

-- the record of a rank
abbrev pub rank_text : Rank → List ℕ
rank_text k = k.library ++ (0x2E ∷ k.control)

-- another record with such a field, and why that one's is not shown
abbrev pub other_text : Rank → Rank → List ℕ
other_text winner k =
    (if is_eq (rank_cmp winner k) then [] else codes ", before " ++ (rank_text k ++ (codes " by " ++ reason_name (why_above winner k))))

-- the same of a record's content
abbrev pub other_in : Part → Rank → Content → List ℕ
other_in part winner c = of_some (rank_in part c) (other_text winner)

-- the tag of a field
abbrev pub tag_text : Option Field → List ℕ
tag_text (Some f) = f.tag
tag_text None = codes "leader/05-09, 17-19 and 008"

-- what the field has, or else the leader's codes and 008
abbrev pub words_text : Content → Option Field → List ℕ
words_text c (Some f) = body_text f.body
words_text c None =
    c.fixed.codes.status
    ∷ (c.fixed.codes.kind
    ∷ (c.fixed.codes.level
    ∷ (c.fixed.codes.control
    ∷ (c.fixed.codes.coding
    ∷ (0x2C ∷ (0x20 ∷ (c.fixed.codes.encoding ∷ (c.fixed.codes.form ∷ (c.fixed.codes.part ∷ (0x2C ∷ (0x20 ∷ shown c.fixed.text)))))))))))

-- of what an edition shows once: its tag, whose it is, which other records have such a field, and why theirs is not shown, and what it
-- has
abbrev pub line_text : Part → Content → List Content → Rank → Option Field → List ℕ
line_text part c contents winner field =
    tag_text field
    ++ (codes " of " ++ (rank_text winner ++ (flat_map (other_in part winner) contents ++ (codes ": " ++ (words_text c field ++ codes "\n")))))

-- the same of a part of the content
unfoldable pub winner_text : Part → Content → List Content → Rank → List ℕ
winner_text part c contents winner = line_text part c contents winner (field_in part c)

-- the same, where there is such a field
abbrev pub part_text : Part → Content → List Content → List ℕ
part_text part c contents = of_some (rank_in part c) (winner_text part c contents)

-- all that an edition shows once
unfoldable pub parts_text : Content → List Content → List ℕ
parts_text c contents =
    part_text Fixed c contents
    ++ (part_text Stamp c contents
    ++ (part_text Number c contents
    ++ (part_text Source c contents
    ++ (part_text MainEntry c contents ++ (part_text UniformTitle c contents ++ part_text Title c contents)))))

-- the record that has the field, where it is this one
abbrev pub having_text : Field → Content → List ℕ
having_text f c = (if has_united f c then codes " " ++ ids_text c.contributors else [])

-- a field of which an edition shows all: its tag, the records that have it, and what it has
unfoldable pub united_text : List Content → Field → List ℕ
united_text contents f =
    f.tag ++ (codes " of" ++ (flat_map (having_text f) contents ++ (codes ": " ++ (body_text f.body ++ codes "\n"))))

-- what the records say
abbrev pub contents_of : List Edition → List Content
contents_of records = map (λ r. r.content) records

-- the fields of a content: what an edition shows once, and then the others in their order
abbrev pub content_text : Content → List Content → List ℕ
content_text c contents = parts_text c contents ++ flat_map (united_text contents) c.united

-- the record's edition, and its fields, by what its records say
unfoldable pub fields_text : RecordId → Edition → List Edition → List ℕ
fields_text id e records =
    id_text id ++ (codes ": an edition of " ++ (size_text e ++ (codes "\n" ++ content_text e.content (contents_of records))))
