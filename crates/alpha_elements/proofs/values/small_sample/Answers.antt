-- `alpha_elements::values::small_sample` meets its contract: a sample goes up or down, mod 2^w.
use Prim.Native.Nat.{◌+◌, ◌-◌}
use native.Mathlib.Nat.{mod-lt}
use native.Mathlib.Omega.{arith}
use mathlib.Core.Path.{sym}
use Rattle.alpha_elements.specs.Kinds.{mask_of}
use Rattle.alpha_elements.proofs.ValueLaws.{sample-up, sample-down}
use Rattle.alpha_elements.proofs.values.small_sample.Goals as goal

pub returns-then-negative : goal.returns-then-negative
returns-then-negative c =
    let a = c.args in
    rw (c.mask-mask.ensures, c.if-negative.true)
    (sym (sample-down a.kind a.prev a.m c.requires.0 c.requires.1), omega (arith, mod-lt (a.prev + mask_of a.kind - (a.m + 1)) {m = mask_of a.kind + 1} (omega arith)))

pub returns-else-negative : goal.returns-else-negative
returns-else-negative c =
    let a = c.args in
    rw (c.mask-mask.ensures, c.if-negative.false)
    (sym (sample-up a.kind a.prev a.m), omega (arith, mod-lt (a.prev + a.m) {m = mask_of a.kind + 1} (omega arith)))
