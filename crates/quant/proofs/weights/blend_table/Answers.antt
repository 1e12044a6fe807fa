use mathlib.Core.Path.{◌≡◌}
use native.Mathlib.Omega.{arith}
use borrow.Author.Rules.{rules}
use lib.ListN.{length, length-set}
use Rattle.quant.proofs.BlendLaws.{blend-more, blend-all}
use Rattle.quant.proofs.weights.blend_table.Goals as goal

pub loop-i-preserved : goal.loop-i-preserved
loop-i-preserved c =
    let l = c.loop-i in
    let n : length c.args.t ≡ 64 = search rules in
    (simp length-set l.invariant.0, blend-more _ _ l.out l.i l.invariant.1 (omega arith) (omega (arith, l.invariant.0)) c.blend_weight.ensures)

pub returns : goal.returns
returns c =
    let l = c.loop-i in
    let n : length c.args.t ≡ 64 = search rules in
    blend-all _ _ l.out l.i l.invariant.1 (omega arith) (omega (arith, l.invariant.0))
