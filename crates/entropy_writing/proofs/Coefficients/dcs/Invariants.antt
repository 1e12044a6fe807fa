-- `entropy_writing::Coefficients::dcs` meets its contract. The invariant: the code is being laid, and what is to come is that of the state.
use Prim.Native.Nat.{◌+◌, ◌-◌}
use lib.ListN.{drop}
use Rattle.bitstream_writer.specs.Passes.{Laying}
use Rattle.entropy_elements.specs.Elements.{encode}
use Rattle.entropy_writing.specs.Writing.{DcFits, dcs_code}
use Rattle.entropy_writing.proofs.Coefficients.dcs.Given as goal

abbrev pub invariant-loop-c : goal.invariant-loop-c
invariant-loop-c g l =
    record {
      fits : DcFits l.s;
      laying : Laying g.P.Pass.Lays l.fn.out 0 (encode l.self.blocks l.self.list.now) l.out l.at (dcs_code (l.self.blocks - (l.c-index + 1)) l.s (drop l.c-index (drop 1 l.self.list.now)));
    }
