-- `bitstream_writer::words::put_word` meets its contract: more than 56 bits are put in two parts, of which the first is zeros.
use mathlib.Core.Path.{◌≡◌, ap, ap₂, ◌∙◌}
use mathlib.Core.List.{List}
use Prim.Native.Nat.{ℕ, ◌+◌, ◌-◌}
use native.Mathlib.Omega.{arith}
use Rattle.bitstream.specs.Bits.{field}
use Rattle.bitstream.specs.Bytes.{put_at}
use Rattle.bitstream_writer.proofs.WordLaws.{put-wide}
use Rattle.bitstream_writer.proofs.words.put_word.Goals as goal

pub returns-else-w-le56-clause-buffer : goal.returns-else-w-le56-clause-buffer
returns-else-w-le56-clause-buffer c =
    let a = c.args in
    let front = c.put-mid.ensures in
    let n : ℕ = a.w.len - 34 in
    let len : n + 34 ≡ a.w.len = omega arith in
    c.put-else-w-le56.ensures.buffer
    ∙ ap₂ (λ (l : List ℕ) (p : ℕ). put_at l p (field 34 a.w.bits)) front.buffer front.next
    ∙ put-wide a.buf.now a.at n 34 a.w.bits (omega arith) c.requires.0.small
    ∙ ap (λ (k : ℕ). put_at a.buf.now a.at (field k a.w.bits)) len
