use Rattle.std.proofs.Common.{refl}
use Rattle.gathered_catalogue.proofs.GatherLaws.{editions-from}
use Rattle.gathered_catalogue.proofs.gathered.Gathered.into_resolved.Goals as goal

pub of-requires : goal.of-requires
of-requires g c =
    editions-from c.as_slice.result.now c.in_ok-records.records.items c.in_ok-editions.editions.items c.in_ok-records.ensures c.in_ok-editions.ensures c.self.inside.history.items
    c.as_slice.ensures.value
