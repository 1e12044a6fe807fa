-- `slice_writing::encode_blocks` meets its contract: what is left of the test of the range.
use mathlib.Core.Path.{sym, ◌∙◌}
use borrow.Author.Tests.{not-false}
use Rattle.entropy_elements.specs.Limits.{in_range}
use Rattle.slice_writing.proofs.encode_blocks.Goals as goal

pub invariant_of-slice-clause-small : goal.invariant_of-slice-clause-small
invariant_of-slice-clause-small c = not-false (in_range c.args.blocks.now) (sym c.out_of_range.ensures ∙ c.if-out_of_range.false)
