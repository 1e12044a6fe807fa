-- What the definitions give, by computation: document 01's section Bits, and its rows on four and five zero bytes.
-- Assumes nothing.
use mathlib.Core.Path.{◌≡◌, refl}
use mathlib.Core.Bool.{true, false}
use mathlib.Core.List.{[], ◌∷◌, ◌++◌}
use lib.ListN.{drop}
use Rattle.bitstream.specs.Bits.{field, number, bits_of, zeros, ended}
use Rattle.bitstream.specs.Bytes.{bytes, pack, stored, put_at}
use Rattle.bitstream.specs.Reading.{read_field, read_bits, zero_prefix}
use Rattle.bitstream.specs.Told.{gives, refusal, within, outcome_at}

-- the most significant bit of a byte comes first, and bytes in order
first_bit : bits_of (128 ∷ 1 ∷ []) ≡ true ∷ zeros 14 ++ (true ∷ [])
unfolding bits_of field
first_bit = refl

-- a field takes the low bits of any number, the most significant first
low_bits : field 3 14 ≡ true ∷ true ∷ false ∷ []
unfolding field
low_bits = refl

spelled : number (true ∷ false ∷ true ∷ []) ≡ 5
unfolding number
spelled = refl

-- zero bits up to a byte; the bytes beyond a code keep their content
packed : pack (field 10 1023) ≡ 255 ∷ 192 ∷ []
unfolding pack bytes number field
packed = refl

kept : stored (1 ∷ 2 ∷ 3 ∷ []) (field 10 1023) ≡ 255 ∷ 192 ∷ 3 ∷ []
unfolding stored pack bytes number field
kept = refl

-- bits put at bit 4: those before stay, those behind in the byte become 0, the byte after keeps its content
put-at : put_at (255 ∷ 255 ∷ []) 4 (field 2 1) ≡ 244 ∷ 255 ∷ []
unfolding put_at stored pack bytes number bits_of field
put-at = refl

nine-bits : outcome_at (read_bits 9) (64 ∷ 128 ∷ []) 1 ≡ gives 258 10
unfolding outcome_at within read_bits read_field number bits_of field
nine-bits = refl

too_wide : outcome_at (read_bits 33) [] 0 ≡ refusal 6
unfolding outcome_at within read_bits bits_of
too_wide = refl

-- no bits are asked for, past the end
nothing : outcome_at (read_bits 0) [] 7 ≡ gives 0 7
unfolding outcome_at within read_bits read_field number bits_of
nothing = refl

four-zero-bytes : outcome_at (zero_prefix 32) (0 ∷ 0 ∷ 0 ∷ 0 ∷ []) 0 ≡ refusal 5
unfolding outcome_at within zero_prefix bits_of field
four-zero-bytes = refl

five-zero-bytes : outcome_at (zero_prefix 32) (0 ∷ 0 ∷ 0 ∷ 0 ∷ 0 ∷ []) 0 ≡ refusal 6
unfolding outcome_at within zero_prefix bits_of field
five-zero-bytes = refl

three-zeros : outcome_at (zero_prefix 3) (136 ∷ []) 1 ≡ gives 3 5
unfolding outcome_at within zero_prefix bits_of field
three-zeros = refl

-- data has ended behind the last 1, however many zeros follow
not-ended : ended (bits_of (128 ∷ 0 ∷ 0 ∷ 0 ∷ 0 ∷ [])) ≡ false
unfolding ended bits_of field
not-ended = refl

has_ended : ended (drop 1 (bits_of (128 ∷ 0 ∷ 0 ∷ 0 ∷ 0 ∷ []))) ≡ true
unfolding ended bits_of field
has_ended = refl
