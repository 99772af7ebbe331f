use Rattle.std.proofs.Common.{◌≡◌, sym, ◌∙◌}
use Rattle.catalogue_core.proofs.catalogue.Catalogue.keep_works.Goals as goal

pub invariant_of-self : goal.invariant_of-self
invariant_of-self c =
    let x = c.self.inside in
    let k = c.self.invariant in
    record {
      current = k.current;
      resolved = k.resolved;
      housed = k.housed;
      clustered = λ ws is.
          let same : c.in_ok-works.works.works ≡ ws = cc in
          sym same ∙ c.in_ok-works.ensures;
    }
