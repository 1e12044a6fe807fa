-- `bitstream::Cursor::read_bits` meets its contract.
use mathlib.Core.Path.{◌≡◌, sym, ap, ap₂, ◌∙◌}
use mathlib.Core.List.{List}
use Prim.Native.Nat.{ℕ, ◌+◌, ◌-◌, ◌≤◌, ◌<◌}
use native.Mathlib.Omega.{arith}
use lib.ListN.{length, drop, length-drop}
use Rattle.bitstream.specs.Bits.{bits_of}
use Rattle.answers.specs.Reading.{Parsed}
use Rattle.bitstream.specs.Reading.{read_bits}
use Rattle.bitstream.specs.Told.{payload_limit, gives, outcome, outcome_at}
use Rattle.bitstream.proofs.BitsLaws.{length-bits}
use Rattle.bitstream.proofs.ReadLaws.{read_bits-wide, read_bits-field, read_field-short, read_field-all, outcome_at-fits, outcome_at-long}
use Rattle.bitstream.proofs.Cursor.read_bits.Goals as goal

-- of a payload that is not too long, the outcome is the reader's
read_at : (s : List ℕ) (p n : ℕ) → length s ≤ payload_limit → {x : Parsed} → read_bits n (drop p (bits_of s)) ≡ x → outcome_at (read_bits n) s p ≡ outcome p (drop p (bits_of s)) x
read_at s p n h e = outcome_at-fits (read_bits n) s p h ∙ ap (outcome p (drop p (bits_of s))) e

pub returns-then-payload-gt-PAYLOAD_LIMIT : goal.returns-then-payload-gt-PAYLOAD_LIMIT
returns-then-payload-gt-PAYLOAD_LIMIT c = let a = c.args in sym (outcome_at-long (read_bits a.n) a.payload.now a.self.at c.if-payload-gt-PAYLOAD_LIMIT.true)

pub returns-then-n-gt32 : goal.returns-then-n-gt32
returns-then-n-gt32 c =
    let a = c.args in
    sym (read_at a.payload.now a.self.at a.n c.if-payload-gt-PAYLOAD_LIMIT.false (read_bits-wide a.n (drop a.self.at (bits_of a.payload.now)) c.if-n-gt32.true))

pub returns-then-unread-width : goal.returns-then-unread-width
returns-then-unread-width c =
    let a = c.args in
    let bs = drop a.self.at (bits_of a.payload.now) in
    let fits : length a.payload.now ≤ payload_limit = omega arith in
    let narrow : a.n ≤ 32 = omega arith in
    let short : length bs < a.n = omega (arith, c.unread.ensures) in
    sym (read_at a.payload.now a.self.at a.n fits (read_bits-field a.n bs narrow ∙ read_field-short a.n bs short))

pub overflow_add-result : goal.overflow_add-result
overflow_add-result c =
    let a = c.args in
    omega (arith, c.unread.ensures, length-drop a.self.at (bits_of a.payload.now), length-bits a.payload.now)

pub returns : goal.returns
returns c =
    let a = c.args in
    let bs = drop a.self.at (bits_of a.payload.now) in
    let fits : length a.payload.now ≤ payload_limit = omega arith in
    let narrow : a.n ≤ 32 = omega arith in
    let room : a.n ≤ length bs = omega (arith, c.unread.ensures) in
    let next : a.self.at + a.n ≡ a.self.at + (length bs - length (drop a.n bs)) = omega (arith, length-drop a.n bs) in
    ap₂ gives c.field_at.ensures next
    ∙ sym (read_at a.payload.now a.self.at a.n fits (read_bits-field a.n bs narrow ∙ read_field-all a.n bs room))
