-- `alpha_writing::code` meets its contract. The invariant: the code is being laid, and what is to come is that of the samples that are left.
use mathlib.Core.Path.{◌≡◌}
use mathlib.Core.Bool.{true}
use Prim.Native.Nat.{◌+◌, ◌≤◌}
use lib.ListN.{length}
use Rattle.bitstream_writer.specs.Passes.{Laying}
use Rattle.alpha_elements.specs.Kinds.{mask_of}
use Rattle.alpha_elements.specs.Limits.{sample_limit, samples_in_range}
use Rattle.alpha_elements.specs.Elements.{encode_alpha}
use Rattle.alpha_writing.specs.Writing.{code_from}
use Rattle.alpha_writing.proofs.code.Given as goal

abbrev pub invariant-loop-rest : goal.invariant-loop-rest
invariant-loop-rest g l =
    record {
      few : length l.rest ≤ sample_limit;
      small : samples_in_range l.kind l.rest ≡ true;
      carried : l.prev ≤ mask_of l.kind + 1;
      laying : Laying g.P.Pass.Lays l.fn.out 0 (encode_alpha l.kind l.fn.samples) l.out l.at (code_from l.kind l.prev l.rest);
    }

abbrev pub decreases-loop-rest : goal.decreases-loop-rest
decreases-loop-rest g l = length l.rest
