-- `codeword_peek::code_len` meets its contract.
use Rattle.std.proofs.Common.{◌∙◌, arith}
use Rattle.codeword_peek.proofs.ComboLaws.{length-picked}
use Rattle.codeword_peek.proofs.code_len.Goals as goal

pub returns : goal.returns
returns c =
    let a = c.args in
    let s = c.requires.0 in
    c.pick.ensures ∙ length-picked a.b.last a.b.r a.b.e a.q _ s.last (omega arith) (omega (arith, s.last, s.exp, c.requires.1))
