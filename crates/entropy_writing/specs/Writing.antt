-- The encoder's own terms, in its functions' contracts: the code from a state on, coefficient by coefficient.
use Rattle.std.specs.Prelude.{ℕ, ◌-◌, ◌≤◌, Bool, false, not, List, [], ◌∷◌, ◌++◌, ℤ, pos, nat_abs, ◌-ℤ◌}
use Rattle.std.specs.Ordering.{int_eq}
use Rattle.codeword.specs.Codewords.{code}
use Rattle.codeword_books.specs.Books.{dc_book, run_book, level_book}
use Rattle.codeword.specs.Words.{InUse}
use Rattle.codeword_signs.specs.Signs.{is_negative, symbol_of, turned}
use Rattle.entropy_elements.specs.Elements.{bits, ac_elements, dc_elements}
use Rattle.entropy_elements.specs.Limits.{most}
use Rattle.entropy_writing.specs.declared.WriterDcs.{WriterDcs}
use Rattle.entropy_writing.specs.declared.WriterAcs.{WriterAcs}

-- ---- DC

pub record DcFits (s : WriterDcs) : Type 0 where
  pub book : InUse s.book
  pub dc : nat_abs s.dc ≤ most

abbrev pub first_dcs : ℤ → WriterDcs
first_dcs c = record { dc = c; negative = false; book = dc_book 3 }

abbrev pub dc_bits : WriterDcs → ℤ → List Bool
dc_bits s c = code s.book (symbol_of (turned s.negative (c -ℤ s.dc)))

abbrev pub dc_after : WriterDcs → ℤ → WriterDcs
dc_after s c = record { dc = c; negative = is_negative (c -ℤ s.dc); book = dc_book (nat_abs (c -ℤ s.dc)) }

-- n DCs are due, and then AC
unfoldable pub dcs_code : ℕ → WriterDcs → List ℤ → List Bool
dcs_code n s cs = bits (dc_elements n s.dc s.negative s.book cs)

-- ---- AC

pub record AcFits (s : WriterAcs) : Type 0 where
  pub runs : InUse s.runs
  pub levels : InUse s.levels

abbrev pub first_acs : WriterAcs
first_acs = record { runs = run_book 4; levels = level_book 1 }

-- what is no zero has a level
abbrev pub is_level : ℤ → Bool
is_level c = not (int_eq c (pos 0))

-- a run, and a level with its sign
abbrev pub ac_bits : WriterAcs → ℕ → ℤ → List Bool
ac_bits s run c = code s.runs run ++ (code s.levels (nat_abs c - 1) ++ (is_negative c ∷ []))

abbrev pub acs_after : ℕ → ℤ → WriterAcs
acs_after run c = record { runs = run_book run; levels = level_book (nat_abs c - 1) }

-- where no zero has been passed
unfoldable pub acs_code : WriterAcs → List ℤ → List Bool
acs_code s cs = bits (ac_elements s.runs s.levels 0 cs)
