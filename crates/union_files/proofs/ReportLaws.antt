-- The reports on one library more.
use Rattle.std.proofs.Common.{◌≡◌, Bool, true, false, ◌||◌, List, [], ◌∷◌, ◌++◌, append_assoc, append-nil, refl, ap, ◌∙◌}
use Rattle.std.specs.Prelude.{map}
use Rattle.std.specs.List.{list_any, flat_map}
use Rattle.union_files.specs.Limits.{Contents}
use Rattle.union_files.specs.Deliveries.{has_refused}
use Rattle.union_files.specs.Courses.{Course, AreReported, course_text, delivery_of}
use Rattle.union_files.specs.declared.reports.Reports.{Reports}

or_assoc : (a b c : Bool) → ((a || (b || false)) || c) ≡ (a || (b || c))
or_assoc true b c = refl
or_assoc false true c = refl
or_assoc false false c = refl

pub reported_both : (contents : Contents) (course : Course) (courses : List Course) (before between now : Reports)
    → AreReported contents (course ∷ []) before between → AreReported contents courses between now → AreReported contents (course ∷ courses) before now
reported_both contents course courses before between now one more = record {
  whole = (one.whole.0, more.whole);
  text = more.text ∙ (ap (λ t. t ++ flat_map (course_text contents) courses) one.text
      ∙ (append_assoc before.text.items (course_text contents course ++ []) (flat_map (course_text contents) courses)
      ∙ ap (λ t. before.text.items ++ (t ++ flat_map (course_text contents) courses)) (append-nil (course_text contents course))));
  refused = more.refused ∙ (ap (λ r. r || list_any has_refused (map (delivery_of contents) courses)) one.refused
      ∙ or_assoc before.refused (has_refused (delivery_of contents course)) (list_any has_refused (map (delivery_of contents) courses)));
}
