-- `codeword::words::combo_word` meets its contract: below the limit the codeword is 2^r + n mod 2^r, and above it exp-Golomb's with zeros in front.
use Rattle.codeword.proofs.WordLaws.{rice-spells, far-spells}
use Rattle.codeword.proofs.words.combo_word.Goals as goal

pub returns-then-m-limit : goal.returns-then-m-limit
returns-then-m-limit c =
    let a = c.args in
    rw (c.pow2-one.ensures, c.from-m.ensures)
    (rice-spells a.last_q a.r a.e a.n c.requires.0 c.requires.1 (rw (c.pow2-one.ensures, c.from.ensures, c.from-m.ensures) at c.if-m-limit.true))

pub returns : goal.returns
returns c =
    let a = c.args in
    let w = c.exp_golomb_word-w in
    far-spells a.last_q a.r a.e a.n c.requires.0 w.result.len w.result.bits
    (rw (c.pow2-one.ensures, c.from.ensures, c.from-m.ensures) at c.if-m-limit.false)
    (rw (c.pow2-one.ensures, c.from.ensures, c.from-m.ensures) at w.ensures.0)
    w.ensures.1
