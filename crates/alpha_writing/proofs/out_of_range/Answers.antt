use mathlib.Core.Path.{◌∙◌}
use native.Mathlib.Omega.{arith}
use Rattle.alpha_writing.proofs.RangeLaws.{range-more, range_all}
use Rattle.alpha_writing.proofs.out_of_range.Goals as goal

pub loop-s-preserved : goal.loop-s-preserved
loop-s-preserved c =
    let l = c.loop-s in
    l.invariant ∙ rw c.from.ensures (range-more c.args.kind c.args.samples.now l.s-index l.wrong c.mask-mask.result c.mask-mask.ensures (omega arith))

pub returns : goal.returns
returns c = range_all c.args.kind c.args.samples.now c.loop-s.s-index c.loop-s.wrong c.loop-s.invariant (omega arith)
