-- A word of eight bytes, and what it shows of the bits that are unread: the first of its 64 digits stand for the first bits.
use Rattle.std.specs.Prelude.{ℕ, ◌-◌, ◌*◌, ◌/◌, ◌%◌, ◌^◌, ◌≤◌, ◌<◌, ◌≡◌, Bool, List, length, take, drop}
use Rattle.bitstream.specs.Bits.{number, bits_of}

-- the word at bit p: eight bytes, without the bits before p
unfoldable pub word_at : List ℕ → ℕ → ℕ
word_at s p = (number (bits_of (take 8 (drop (p / 8) s))) * 2 ^ (p % 8)) % 2 ^ 64

-- so many bits such a word shows at any p: up to 7 of its 64 stand before p
abbrev pub shown : ℕ
shown = 57

-- the first n digits of w are the first n bits
pub record Shows (n w : ℕ) (bs : List Bool) : Type 0 where
  pub fits : w < 2 ^ 64
  pub long : n ≤ length bs
  pub is : w / 2 ^ (64 - n) ≡ number (take n bs)
