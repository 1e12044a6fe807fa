-- `alpha_elements::values::escaped_sample` meets its contract: a previous value of -1 is the mask, mod 2^w.
use Prim.Native.Nat.{◌+◌}
use native.Mathlib.Nat.{mod-lt}
use native.Mathlib.Omega.{arith}
use mathlib.Core.Path.{sym}
use Rattle.alpha_elements.specs.Kinds.{mask_of}
use Rattle.alpha_elements.proofs.ValueLaws.{sample-add}
use Rattle.alpha_elements.proofs.values.escaped_sample.Goals as goal

pub returns : goal.returns
returns c =
    let a = c.args in
    rw c.mask-mask.ensures
    (sym (sample-add a.kind a.prev a.raw), omega (arith, mod-lt (a.prev + mask_of a.kind + a.raw) {m = mask_of a.kind + 1} (omega arith)))
