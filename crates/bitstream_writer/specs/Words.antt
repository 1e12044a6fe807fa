-- A run of bits as one field: the len low bits of a number.
use Rattle.std.specs.Prelude.{ℕ, ◌+◌, ◌^◌, ◌≤◌, ◌<◌, ◌≡◌, Bool, List, [], ◌∷◌, ◌++◌}
use Rattle.bitstream.specs.Bits.{field}
use Rattle.bitstream_writer.specs.declared.Word.{Word}

-- value has its 1 within 33 bits, and all in front of it are zeros
pub record Spells (bits : List Bool) (len value : ℕ) : Type 0 where
  pub is : field len value ≡ bits
  pub fits : value < 2 ^ len
  pub small : value < 2 ^ 33
  pub short : len ≤ 68

-- the word of len' and value' is that of len and value with one bit more behind it
pub record OneMore (len value : ℕ) (bit : Bool) (len' value' : ℕ) : Type 0 where
  pub is : field len' value' ≡ field len value ++ bit ∷ []
  pub count : len' ≡ len + 1
  pub fits : value' < 2 ^ len'
  pub small : value' < 2 ^ 34

-- a word's bits
abbrev pub word_bits : Word → List Bool
word_bits w = field w.len w.bits

-- the bits are those of w, which words::put_word takes
pub record WordOf (bits : List Bool) (w : Word) : Type 0 where
  pub is : word_bits w ≡ bits
  pub fits : w.bits < 2 ^ w.len
  pub small : w.bits < 2 ^ 34
  pub short : w.len ≤ 69

abbrev pub IsWord : Word → Type 0
IsWord w = WordOf (word_bits w) w

-- the word w is that of a with that of b behind it
pub record Joins (a b w : Word) : Type 0 where
  pub is : word_bits w ≡ word_bits a ++ word_bits b
  pub count : w.len ≡ a.len + b.len
  pub fits : w.bits < 2 ^ w.len
