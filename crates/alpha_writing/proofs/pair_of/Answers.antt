-- `alpha_writing::pair_of` meets its contract.
use native.Mathlib.Omega.{arith}
use Rattle.alpha_writing.proofs.RangeLaws.{first-in_range}
use Rattle.alpha_writing.proofs.WritingLaws.{code-pair}
use Rattle.alpha_writing.proofs.pair_of.Goals as goal

pub pair_word-requires : goal.pair_word-requires
pair_word-requires c =
    let small = first-in_range c.args.kind c.args.samples.now c.requires.small in
    let run = c.run_of-run.ensures in
    (c.requires.carried, omega (arith, small, c.from-v.ensures), run.some, run.most)

pub returns : goal.returns
returns c =
    let k = c.args.kind in
    let ss = c.args.samples.now in
    let run = c.run_of-run.ensures in
    let w = c.pair_word.ensures in
    record {
      some = run.some;
      inside = run.inside;
      carried = omega (arith, first-in_range k ss c.requires.small, c.from-v.ensures);
      short = w.1;
      is = rw (w.0, c.from-v.ensures) (code-pair k c.args.prev c.requires.some run);
    }
