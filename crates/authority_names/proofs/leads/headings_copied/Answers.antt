use Rattle.std.proofs.Common.{◌≡◌, ◌++◌, ◌∷◌, [], None, nat_eq, sym, ap, subst, ◌∙◌, append_assoc}
use Rattle.std.specs.Cmp.Lexicographic.{pointwise, nat_list_eq_equiv}
use Rattle.std.specs.List.{IsDistinct}
use Rattle.std.specs.Map.{keys_of}
use Rattle.indexmap.specs.IndexMap.{insert_entry}
use Rattle.indexmap.proofs.MapLemmas.{absent_before}
use Rattle.authority_names.proofs.TableLaws.{Entries, entry_at, insert-fresh}
use Rattle.authority_names.proofs.leads.headings_copied.Goals as goal

pub loop-heading-preserved : goal.loop-heading-preserved
loop-heading-preserved c =
    let copy = c.loop-heading.copy.entries in
    let heading = c.in-Some.heading.now in
    let lead = c.in-Some.lead.now in
    let rest = c.next.new.self in
    let along : copy ++ (heading, lead) ∷ rest ≡ c.args.headings.now.entries =
    ap (λ (es : Entries). copy ++ es) (sym c.in-Some.ensures.steps) ∙ c.loop-heading.invariant.0 in
    let absent : entry_at copy heading ≡ None =
    absent_before nat_list_eq_equiv copy rest (heading, lead)
    (subst (λ (es : Entries). IsDistinct (pointwise nat_eq) (keys_of es)) (sym along) c.loop-heading.invariant.1) in
    let added : c.insert.new.self.entries ≡ copy ++ (heading, lead) ∷ [] =
    c.in_ok-insert.ensures.entries ∙ ap (λ k. insert_entry (pointwise nat_eq) copy k lead) c.in_ok-copied.ensures
    ∙ insert-fresh copy heading lead absent in (
      ap (λ (es : Entries). es ++ rest) added ∙ append_assoc copy ((heading, lead) ∷ []) rest ∙ along,
      c.loop-heading.invariant.1,
    )
