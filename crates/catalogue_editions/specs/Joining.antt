-- What editions merge to: the merge of their features with the merge of their contents.
use Rattle.match_features.specs.Joining.{join as join_features}
use Rattle.field_merge.specs.Merging.{join as join_contents}
use Rattle.catalogue_editions.specs.LinkedLaws.{linked-union}
use Rattle.catalogue_editions.specs.SoundLaws.{sound-join}
use Rattle.catalogue_editions.specs.declared.edition.Edition.{Edition}

-- two editions merged: their features and their contents are
abbrev pub join : Edition → Edition → Edition
join x y = record {
  features = join_features x.features y.features;
  content = join_contents x.content y.content;
  linked = linked-union x.content.contributors y.content.contributors x.features.control y.features.control x.linked y.linked;
  sound = sound-join x.content y.content x.sound y.sound;
}
