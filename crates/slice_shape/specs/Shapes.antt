-- The shape of a slice: document 01, "What the cart keeps", "Slice scan" and refusal 13.
use Rattle.std.specs.Prelude.{ℕ, ◌+◌, ◌*◌, ◌≤◌, Bool, cond, ◌&&◌, ◌||◌, leb, eqb, List, ℤ, pos, replicate}
pub use Rattle.slice_scan.specs.declared.Components.{Components}

-- chroma format 2 is 4:2:2 and 3 is 4:4:4; scan 0 is progressive and 1 interlaced
abbrev pub known_chroma : ℕ → Bool
known_chroma f = eqb f 2 || eqb f 3

abbrev pub known_scan : ℕ → Bool
known_scan s = eqb s 0 || eqb s 1

abbrev pub is_interlaced : ℕ → Bool
is_interlaced s = eqb s 1

-- the blocks of Cb, and those of Cr, in a macroblock; Y has 4
unfoldable pub chroma_blocks : ℕ → ℕ
chroma_blocks f = cond (eqb f 2) 2 4

-- the blocks of a macroblock with c blocks of each chroma component
abbrev pub blocks_per : ℕ → ℕ
blocks_per c = 4 + 2 * c

-- a number of blocks, or the refusal of an unknown chroma format
pub data BlocksAnswer : Type 0 where
  counts : ℕ → BlocksAnswer
  unknown : ℕ → BlocksAnswer

unfoldable pub counted : ℕ → ℕ → BlocksAnswer
counted f n = cond (known_chroma f) (counts n) (unknown 13)

abbrev pub chroma_blocks_of : ℕ → BlocksAnswer
chroma_blocks_of f = counted f (chroma_blocks f)

abbrev pub blocks_of : ℕ → BlocksAnswer
blocks_of f = counted f (blocks_per (chroma_blocks f))

abbrev pub macroblock_limit : ℕ
macroblock_limit = 8

abbrev pub in_limit : ℕ → Bool
in_limit m = leb 1 m && leb m macroblock_limit

-- the coefficients of m macroblocks
abbrev pub slice_length : ℕ → ℕ → ℕ
slice_length m c = 64 * (m * blocks_per c)

-- ---- how much a slice has at the most

-- the blocks of a component: 4 of each macroblock. It is the shape of a slice that says so, and not what the coefficient coder takes in a call (its
-- block_limit), which may be more.
abbrev pub component_limit : ℕ
component_limit = macroblock_limit * 4

-- the coefficients of a component, and of the slice
abbrev pub component_list : ℕ
component_list = 64 * component_limit

abbrev pub slice_list : ℕ
slice_list = 3 * component_list

-- a list for each component, before anything is read or scanned into it
abbrev pub zero_lists : Components (List ℤ)
zero_lists = let zeros = replicate component_list (pos 0) in record { y = zeros; cb = zeros; cr = zeros }

-- ---- what the tests of the shape leave, for the code within

pub record InSliceLimits (m c : ℕ) : Type 0 where
  pub some-m : 1 ≤ m
  pub few-m : m ≤ macroblock_limit
  pub some-c : 1 ≤ c
  pub few-c : c ≤ 4
