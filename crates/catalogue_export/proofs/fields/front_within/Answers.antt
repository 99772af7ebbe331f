use Rattle.std.proofs.Common.{◌≡◌, true, false, length, take, refl, ap}
use Rattle.std.specs.Prelude.{nat_le}
use Rattle.catalogue_export.specs.Exported.{front_within}
use Rattle.catalogue_export.proofs.FittingLaws.{yes_le, no_le}
use Rattle.catalogue_export.proofs.fields.front_within.Goals as goal

pub returns-then-text-most : goal.returns-then-text-most
unfolding front_within
returns-then-text-most c =
    let fits : nat_le (length c.args.text.now) c.args.most ≡ true = yes_le _ _ c.if-text-most.true in
    rw fits refl

pub returns-else-text-most : goal.returns-else-text-most
unfolding front_within
returns-else-text-most c =
    let over : nat_le (length c.args.text.now) c.args.most ≡ false = no_le _ _ c.if-text-most.false in
    rw over (ap (λ n. take n c.args.text.now) c.last_boundary.ensures.value)
