-- `bitstream_writer::put` meets its contract: the bits begun and the field are one word, which goes in from the byte begun on.
use mathlib.Core.Path.{sym, ◌∙◌}
use native.Mathlib.Omega.{arith}
use borrow.Author.Rules.{rules}
use lib.Pow.{pow_pos}
use Rattle.bitstream.proofs.PutLaws.{word_lt, put_word}
use Rattle.bitstream_writer.proofs.put.Goals as goal

pub overflow_mul-word : goal.overflow_mul-word
overflow_mul-word c =
    let a = c.args in
    rw c.pow2.ensures (omega (arith, word_lt a.n a.v c.begun-begun.ensures c.requires.0))

pub nonzero_rem-word : goal.nonzero_rem-word
nonzero_rem-word c = rw c.pow2-2.ensures (pow_pos c.args.n)

pub overflow_add-word : goal.overflow_add-word
overflow_add-word c =
    let a = c.args in
    let b = c.begun-begun in
    rw (c.pow2.ensures, c.pow2-2.ensures) (omega (arith, word_lt a.n a.v b.ensures c.requires.0))

pub returns-clause-buffer : goal.returns-clause-buffer
returns-clause-buffer c =
    let a = c.args in
    (rw (c.pow2.ensures, c.pow2-2.ensures) at c.emit.ensures)
    ∙ sym (put_word a.n a.v c.begun-begun.ensures (omega arith) (λ j. search rules))
