-- `alpha_reading::AlphaPayload::end` meets its contract, case by case.
use Prim.Native.Nat.{ℕ, ◌-◌, ◌*◌}
use native.Mathlib.Omega.{arith}
use mathlib.Core.Path.{◌≡◌, sym, ◌∙◌}
use mathlib.Core.List.{List}
use lib.ListN.{length, drop, length-drop}
use Rattle.bitstream.specs.Bits.{bits_of}
use Rattle.bitstream.proofs.BitsLaws.{length-bits}
use Rattle.alpha_elements.proofs.StepLaws.{finish-tail, finish-padding, finish-ended}
use Rattle.alpha_reading.proofs.AlphaPayload.end.Goals as goal

-- the bits that are left
unread : (p : List ℕ) (at : ℕ) → length (drop at (bits_of p)) ≡ length p * 8 - at
unread p at = omega (arith, length-drop at (bits_of p), length-bits p)

pub returns-then-saturating_sub-gt7 : goal.returns-then-saturating_sub-gt7
returns-then-saturating_sub-gt7 c =
    let a = c.args in
    let h = unread a.self.payload.now a.c.at in
    record { is = λ st out. finish-tail st out _ (omega (arith, h, c.saturating_sub.ensures, c.if-saturating_sub-gt7.true)) }

pub returns-then-end_of_data : goal.returns-then-end_of_data
returns-then-end_of_data c =
    let a = c.args in
    let h = unread a.self.payload.now a.c.at in
    record { is = λ st out. finish-ended st out _ (omega (arith, h, c.saturating_sub.ensures, c.if-saturating_sub-gt7.false)) (sym c.end_of_data.ensures ∙ c.if-end_of_data.true) }

pub returns-else-end_of_data : goal.returns-else-end_of_data
returns-else-end_of_data c =
    let a = c.args in
    let h = unread a.self.payload.now a.c.at in
    record { is = λ st out. finish-padding st out _ (omega (arith, h, c.saturating_sub.ensures, c.if-saturating_sub-gt7.false)) (sym c.end_of_data.ensures ∙ c.if-end_of_data.false) }
