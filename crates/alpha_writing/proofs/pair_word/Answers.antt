-- `alpha_writing::pair_word` meets its contract: two words side by side are one field.
use mathlib.Core.Path.{refl}
use native.Mathlib.Omega.{arith}
use Rattle.bitstream_writer.proofs.WordLaws.{word-spelt, is_word}
use Rattle.alpha_writing.proofs.WritingLaws.{pair-short, pair_is}
use Rattle.alpha_writing.proofs.pair_word.Goals as goal

pub join-requires : goal.join-requires
join-requires c =
    let a = c.args in
    let d = c.difference_word-difference in
    let r = c.run_word-run in (
      is_word (word-spelt {w = d.result} d.ensures refl),
      is_word (word-spelt {w = r.result} r.ensures refl),
      omega (arith, pair-short a.kind a.prev a.v a.n {d = d.result} {r = r.result} d.ensures r.ensures),
    )

pub returns : goal.returns
returns c =
    let a = c.args in
    let d = c.difference_word-difference in
    let r = c.run_word-run in
    let j = c.join.ensures in (
      pair_is a.kind a.prev a.v a.n {d = d.result} {r = r.result} d.ensures r.ensures j,
      omega (arith, j.count, pair-short a.kind a.prev a.v a.n {d = d.result} {r = r.result} d.ensures r.ensures),
    )
