-- What a selector stands for, as a result and a number.
use Rattle.alpha_elements.specs.Kinds.{Selection, selects, no_kind, code_of}
use Rattle.slice_shape.specs.Shapes.{BlocksAnswer, counts, unknown}
use Rattle.probe.specs.Numbers.{Number}

abbrev pub blocks_number : BlocksAnswer → Number
blocks_number (counts n) = record { result = 0; value = n }
blocks_number (unknown k) = record { result = k; value = 0 }

-- a kind has its own code
abbrev pub kind_number : Selection → Number
kind_number (selects kind) = record { result = 0; value = code_of kind }
kind_number (no_kind k) = record { result = k; value = 0 }
