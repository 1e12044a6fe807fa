-- `entropy_writing::Coefficients::acs` meets its contract. The invariant: the code is being laid, and what is to come is that of the state and of the
-- coefficients that are left.
use Prim.Native.Nat.{ℕ, ◌≤◌}
use lib.IntN.{pos, nat_abs}
use lib.ListN.{length, drop, get_or}
use Rattle.bitstream_writer.specs.Passes.{Laying}
use Rattle.entropy_elements.specs.Limits.{most, list_limit}
use Rattle.entropy_writing.specs.Writing.{AcFits, first_acs, acs_code}
use Rattle.entropy_writing.proofs.Coefficients.acs.Given as goal

abbrev pub invariant-loop-zeros : goal.invariant-loop-zeros
invariant-loop-zeros g l =
    record {
      fits : AcFits l.s;
      few : length l.rest ≤ list_limit;
      small : (i : ℕ) → nat_abs (get_or l.rest i (pos 0)) ≤ most;
      laying : Laying g.P.Pass.Lays l.fn.out l.start (acs_code first_acs (drop l.self.blocks l.self.list.now)) l.out l.at (acs_code l.s l.rest);
    }

abbrev pub decreases-loop-zeros : goal.decreases-loop-zeros
decreases-loop-zeros g l = length l.rest
