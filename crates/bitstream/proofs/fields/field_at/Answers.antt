-- `bitstream::fields::field_at` meets its contract.
use mathlib.Core.Path.{◌≡◌, sym, ap, ◌∙◌, subst}
use Prim.Native.Nat.{ℕ, ◌+◌, ◌-◌, ◌/◌, ◌^◌, ◌<◌}
use native.Mathlib.Omega.{arith}
use lib.ListN.{take, drop}
use lib.Pow.{shr-shr}
use Rattle.bitstream.specs.Bits.{bits_of, number}
use Rattle.bitstream.specs.Windows.{shown, Shows}
use Rattle.bitstream.proofs.PlaceLaws.{number-take-32, word-shows}
use Rattle.bitstream.proofs.WindowLaws.{shows-take}
use Rattle.bitstream.proofs.fields.field_at.Goals as goal
use Rattle.bitstream.proofs.fields.field_at.Goals.{After-window-w}

-- what is shown of the payload
field_is : (c : After-window-w) → let a = c.args in
    c.window-w.result / 2 / 2 ^ (63 - a.n) ≡ number (take a.n (drop a.p (bits_of a.payload.now)))
field_is c =
    let a = c.args in
    let w = c.window-w.result in
    let e : 1 + (63 - a.n) ≡ 64 - a.n = omega arith in
    let s = subst (λ (x : ℕ). Shows shown x (drop a.p (bits_of a.payload.now))) (sym c.window-w.ensures) (word-shows a.payload.now a.p (omega arith)) in
    shr-shr w 1 (63 - a.n) ∙ ap (λ (k : ℕ). w / 2 ^ k) e ∙ shows-take shown w (drop a.p (bits_of a.payload.now)) s (omega arith) a.n (omega arith)

pub overflow_cast-result-then-p-payload : goal.overflow_cast-result-then-p-payload
overflow_cast-result-then-p-payload c =
    let a = c.args in
    record { fits = subst (λ (x : ℕ). x < 2 ^ 32) (sym (field_is c)) (number-take-32 a.n (drop a.p (bits_of a.payload.now)) (omega arith)) }

pub returns-then-p-payload : goal.returns-then-p-payload
returns-then-p-payload c = field_is c

pub overflow_cast-result-2 : goal.overflow_cast-result-2
overflow_cast-result-2 c =
    let a = c.args in
    record { fits = subst (λ (x : ℕ). x < 2 ^ 32) (sym c.field_plain.ensures) (number-take-32 a.n (drop a.p (bits_of a.payload.now)) (omega arith)) }
