use Rattle.std.proofs.Common.{inl, refl}
use Rattle.union_words.specs.Meanings.{file_meaning}
use Rattle.union_files.specs.Inputs.{input_of}
use Rattle.union_files.proofs.opening.open_file.Goals as goal

pub returns-in-Err-Failed-clause-stops : goal.returns-in-Err-Failed-clause-stops
returns-in-Err-Failed-clause-stops g c =
    λ rest. record {
      file = input_of (file_meaning c.args.file.now);
      one = inl refl;
      named = refl;
      failed = rw (c.in-Err-Failed.field-0-is, c.in-Ok.ensures) at c.in-Err-Failed.ensures.counts;
      others = rw c.in-Ok.ensures at c.in-Err-Failed.ensures.others;
    }
