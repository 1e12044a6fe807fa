-- DCs and levels by computation: at the sign flip and at both ends of the range, and one step too far.
-- Assumes nothing.
use mathlib.Core.Path.{◌≡◌, refl}
use mathlib.Core.Bool.{true, false}
use lib.IntN.{pos, negsuc}
use Rattle.std.specs.Prelude.{Some, None}
use Rattle.codeword_signs.specs.Signs.{integer_of, turned}
use Rattle.entropy_elements.specs.Values.{some_dc, dc_of, first_dc, next_dc, level_of}

-- ---- the first DC
first-top : first_dc 1073741822 ≡ some_dc (pos 536870911) false 3
unfolding first_dc dc_of integer_of
first-top = refl

first-over : first_dc 1073741824 ≡ None
unfolding first_dc dc_of integer_of
first-over = refl

-- ---- differences: after -1, the difference -1 has symbol 2
flipped : next_dc (negsuc 0) true 2 ≡ some_dc (negsuc 1) true 1
unfolding next_dc dc_of integer_of turned
flipped = refl

-- from one end of the range to the other
up : next_dc (negsuc 536870910) false 2147483644 ≡ some_dc (pos 536870911) false 1073741822
unfolding next_dc dc_of integer_of turned
up = refl

down : next_dc (pos 536870911) false 2147483643 ≡ some_dc (negsuc 536870910) true 1073741822
unfolding next_dc dc_of integer_of turned
down = refl

over : next_dc (pos 536870911) false 2 ≡ None
unfolding next_dc dc_of integer_of turned
over = refl

-- ---- levels
level-top : level_of false 536870910 ≡ Some (pos 536870911)
unfolding level_of
level-top = refl

level-bottom : level_of true 536870910 ≡ Some (negsuc 536870910)
unfolding level_of
level-bottom = refl

level-over : level_of true 536870911 ≡ None
unfolding level_of
level-over = refl
