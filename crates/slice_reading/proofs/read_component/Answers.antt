-- `slice_reading::read_component` meets its contract: the first zeros of the list are as many as the component has coefficients.
use Prim.Native.Nat.{◌*◌}
use mathlib.Core.Path.{ap, ◌∙◌}
use native.Mathlib.Omega.{arith}
use lib.IntN.{pos}
use lib.ListN.{take}
use Rattle.std.proofs.lemmas.List.{take-replicate}
use Rattle.slice_shape.specs.Shapes.{component_list}
use Rattle.slice_reading.proofs.read_component.Goals as goal

pub read_all-requires : goal.read_all-requires
read_all-requires c =
    let n = 64 * c.args.blocks in
    (c.requires.0, omega (arith, c.requires.1), ap (take n) c.requires.2 ∙ take-replicate n component_list (pos 0) (omega (arith, c.requires.1)))
