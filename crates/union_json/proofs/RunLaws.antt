-- How a run ends that wrote what it made.
use Rattle.std.proofs.Common.{◌≡◌, true, false, refl}
use Rattle.union_words.specs.Statuses.{is_done, is_early}
use Rattle.union_words.specs.declared.status.Status.{Status}
use Rattle.union_words.specs.declared.status.Status.TheVariants.{Done, DoneWithRefusals, Usage, OpenFault, ReadFault, WriteFault, TooLong, Memory}

-- a run that came to its end is no early one
pub done-late : (status : Status) → is_done status ≡ true → is_early status ≡ false
done-late Done done = refl
done-late DoneWithRefusals done = refl
done-late Usage done = cc
done-late (OpenFault i) done = cc
done-late (ReadFault i) done = cc
done-late WriteFault done = refl
done-late (TooLong i) done = cc
done-late Memory done = cc
