-- `codeword_peek::read` meets its contract.
use Rattle.std.proofs.Common.{drop, sym, ap, ◌∙◌, subst, arith}
use Rattle.bitstream.specs.Bits.{bits_of}
use Rattle.bitstream.proofs.AnswerLaws.{told-taken}
use Rattle.bitstream.specs.Windows.{word_at, shown}
use Rattle.bitstream.proofs.PlaceLaws.{word-shows}
use Rattle.codeword.specs.Codewords.{read_code}
use Rattle.codeword_peek.specs.Peeks.{peeked, Foretells}
use Rattle.codeword_peek.specs.declared.Peeked.{Peeked}
use Rattle.codeword_peek.proofs.PeekLaws.{peeked-foretells}
use Rattle.codeword_peek.proofs.read.Goals as goal

pub returns : goal.returns
returns c =
    let a = c.args in
    let p = a.payload.now in
    let one = c.peek-one.result in
    let s = word-shows p a.at c.if-payload-at.false in
    let f = subst (λ (x : Peeked). Foretells a.book (word_at p a.at) x.len x.value)
    (sym (c.peek-one.ensures ∙ ap (peeked a.book) c.window.ensures)) (peeked-foretells a.book c.requires.0 (word_at p a.at)) in
    told-taken (read_code a.book) p a.at c.requires.1 one.value one.len
    (f.is shown (drop a.at (bits_of p)) s (omega arith) c.if-one-gt-SHOWN.false) (omega (arith, c.if-one-gt-SHOWN.false, s.long))
