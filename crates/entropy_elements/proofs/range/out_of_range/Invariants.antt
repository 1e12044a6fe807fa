-- `entropy_elements::range::out_of_range` meets its contract. The invariant: whether one before the index is out of range.
use Rattle.std.proofs.Common.{◌≡◌, ltb, nat_abs, take}
use Rattle.std.specs.List.{list_any}
use Rattle.entropy_elements.specs.Limits.{most}
use Rattle.entropy_elements.proofs.range.out_of_range.Given as goal

abbrev pub invariant-loop-c : goal.invariant-loop-c
invariant-loop-c l = l.wrong ≡ list_any (λ c. ltb most (nat_abs c)) (take l.c-index l.coeffs)
