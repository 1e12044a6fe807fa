use mathlib.Core.Path.{◌≡◌, sym, ap, ◌∙◌}
use mathlib.Core.List.{List}
use Prim.Native.Nat.{ℕ, ◌+◌, ◌-◌, ◌*◌, ◌/◌, ◌%◌, ◌^◌}
use native.Mathlib.Omega.{arith}
use lib.ListN.{set}
use Rattle.bitstream.specs.Bits.{field}
use Rattle.bitstream.specs.Puts.{stored_from}
use Rattle.bitstream.proofs.FieldLaws.{field-split}
use Rattle.bitstream.proofs.PutLaws.{from-none, from_byte, from_last}
use Rattle.bitstream_writer.proofs.bytes.emit.Goals as goal

pub loop-j-preserved : goal.loop-j-preserved
loop-j-preserved c =
    let at = c.loop-j in
    let word = c.args.word in
    let w = c.store in
    let l : ℕ = at.left - 8 in
    let e : 8 + l ≡ at.left = omega arith in (
      ap (λ (b : List ℕ). stored_from b (at.j + 1) (field l word)) w.ensures
          ∙ sym (from_byte at.buf at.j (word / 2 ^ l) (field l word) (omega arith))
          ∙ ap (stored_from at.buf at.j) (sym (field-split 8 l word) ∙ ap (λ (k : ℕ). field k word) e)
          ∙ at.invariant.0,
      omega (arith, w.auto),
      omega arith,
    )

pub returns-then-left-gt0 : goal.returns-then-left-gt0
returns-then-left-gt0 c =
    let at = c.loop-j in
    let word = c.args.word in
    let x : ℕ = word * 2 ^ (8 - at.left) in
    let m : x % 18446744073709551616 % 256 ≡ x % 256 = omega arith in
    let j : at.j ≡ c.args.i + c.args.n / 8 = omega arith in
    c.store-then-left-gt0.ensures
    ∙ ap (set at.buf (c.args.i + c.args.n / 8)) m
    ∙ ap (λ (k : ℕ). set at.buf k (x % 256)) (sym j)
    ∙ sym (from_last at.buf at.j at.left word (omega arith) (omega arith) (omega arith))
    ∙ at.invariant.0

pub returns-else-left-gt0 : goal.returns-else-left-gt0
unfolding field
returns-else-left-gt0 c =
    let at = c.loop-j in
    let word = c.args.word in
    let z : 0 ≡ at.left = omega arith in
    sym (from-none at.buf at.j) ∙ ap (λ (k : ℕ). stored_from at.buf at.j (field k word)) z ∙ at.invariant.0
