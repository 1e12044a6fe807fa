-- `entropy_writing::Coefficients::code` meets its contract: the DCs, and then what is to come.
use Rattle.entropy_writing.proofs.WritingLaws.{encode-none}
use Rattle.entropy_writing.proofs.Coefficients.code.Goals as goal

pub returns-then-self-eq0 : goal.returns-then-self-eq0
returns-then-self-eq0 g c =
    rw (encode-none c.args.self.now.list.now c.if-self-eq0.true) (g.met.P.Pass.laws.none c.args.out.now 0)
