-- The codes of three lists that are fit to be coded.
use Rattle.std.specs.Prelude.{Bool, List}
use Rattle.entropy_elements.specs.Elements.{encode}
use Rattle.slice_shape.specs.Shapes.{Components}
use Rattle.entropy_writing.specs.declared.Coefficients.{Coefficients}

abbrev pub codes_in : Components Coefficients → Components (List Bool)
codes_in lists = record { y = encode lists.y.blocks lists.y.list.now; cb = encode lists.cb.blocks lists.cb.list.now; cr = encode lists.cr.blocks lists.cr.list.now }
