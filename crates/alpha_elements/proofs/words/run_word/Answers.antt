-- `alpha_elements::words::run_word` meets its contract: zeros in front only widen a field.
use native.Mathlib.Omega.{arith}
use Rattle.alpha_elements.proofs.WordLaws.{one-spells, short-spells, long-spells}
use Rattle.alpha_elements.proofs.words.run_word.Goals as goal
use Rattle.alpha_elements.proofs.words.run_word.Goals.{then-n-le16, else-n-le16}

pub returns-then-n-eq1 : goal.returns-then-n-eq1
returns-then-n-eq1 c = one-spells _ c.if-n-eq1.true

pub returns-after-n-le16 : goal.returns-after-n-le16
returns-after-n-le16 c =
    let n = c.args.n in
    elim c.if-n-le16.branch [
      | then-n-le16 w ↦ rw (c.from.ensures, w.result-is) (short-spells n (omega arith) (omega (arith, w.if-n-le16.true)))
      | else-n-le16 w ↦ rw (c.from.ensures, w.result-is) (long-spells n (omega (arith, w.if-n-le16.false)) c.requires.1)
    ]
