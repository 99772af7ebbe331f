use Rattle.std.proofs.Common.{◌∷◌, [], ap, length-append, sym, ◌∙◌, arith, if◌then◌else◌}
use Rattle.std.specs.Prelude.{Some}
use Rattle.std.specs.FinMap.{get}
use Rattle.std.specs.List.{list_any}
use Rattle.std.proofs.lemmas.List.Folds.{list_any-append}
use Rattle.authority_names.specs.Names.{is_same}
use Rattle.authority_names.specs.Leads.{joined_lead}
use Rattle.authority_names.specs.Places.{table_of}
use Rattle.authority_names.proofs.NameLaws.{led_once_more}
use Rattle.authority_names.proofs.leads.lead_all.Goals as goal

pub loop-variant-preserved : goal.loop-variant-preserved
loop-variant-preserved c =
    let was = c.loop-variant.invariant in
    let told = c.lead_to.ensures in
    let more = length-append c.loop-variant.yielded (c.in-Some.variant ∷ []) in
    record {
      can_next = was.can_next;
      is_finite = was.is_finite;
      room = (let room = told.room in let before = was.room in omega arith);
      places = told.places;
      place = (let longer = told.longer in let before = was.place in omega arith);
      kept = λ t h. told.kept t (was.kept t h);
      table = λ t h x.
          let here = told.table t (was.kept t h) x in
          let before = was.table t h x in
          let lead = get (table_of c.args.headings.now.entries) x in
          let this = is_same c.in-Some.variant x in
          here
          ∙ ap (λ l. if this then Some (joined_lead l t) else l) before
          ∙ led_once_more (list_any (λ v. is_same v x) c.loop-variant.yielded) this lead t
          ∙ sym (ap (λ b. if b then Some (joined_lead lead t) else lead) (list_any-append (λ v. is_same v x) c.loop-variant.yielded (c.in-Some.variant ∷ [])));
    }
