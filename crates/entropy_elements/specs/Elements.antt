-- The code of scanned coefficients: document 01, "Choice of codebook" and AC; RDD 36, 7.1.1. A list of coefficients is a list of elements, each with
-- the codebook that it is written in; the code is their bits, one after another.
use Rattle.std.specs.Prelude.{ℕ, zero, suc, ◌+◌, Bool, true, false, List, [], ◌∷◌, ◌++◌, ℤ, pos, negsuc, nat_abs, ◌-ℤ◌}
use Rattle.codeword.specs.Codewords.{code, code_length}
use Rattle.codeword_books.specs.Books.{first_book, dc_book, run_book, level_book}
use Rattle.codeword_signs.specs.Signs.{is_negative, symbol_of, turned}
use Rattle.codeword.specs.declared.Codebook.{Codebook}

-- a DC codeword's symbol, a run, a level's symbol with its sign (1 is negative)
pub data Element : Type 0 where
  dc_element : Codebook → ℕ → Element
  run_element : Codebook → ℕ → Element
  level_element : Codebook → ℕ → Bool → Element

unfoldable pub element_bits : Element → List Bool
element_bits (dc_element b s) = code b s
element_bits (run_element b n) = code b n
element_bits (level_element b s g) = code b s ++ (g ∷ [])

unfoldable pub bits : List Element → List Bool
bits [] = []
bits (e ∷ es) = element_bits e ++ bits es

-- codeword lengths and sign bits
unfoldable pub element_length : Element → ℕ
element_length (dc_element b s) = code_length b s
element_length (run_element b n) = code_length b n
element_length (level_element b s g) = code_length b s + 1

unfoldable pub size : List Element → ℕ
size [] = 0
size (e ∷ es) = element_length e + size es

-- AC: the codebooks of the next run and level, and how many zeros were passed since the last level. A trailing run is not written.
unfoldable pub ac_elements : Codebook → Codebook → ℕ → List ℤ → List Element
ac_elements rb lb p [] = []
ac_elements rb lb p (pos zero ∷ cs) = ac_elements rb lb (suc p) cs
ac_elements rb lb p (pos (suc m) ∷ cs) = run_element rb p ∷ level_element lb m false ∷ ac_elements (run_book p) (level_book m) 0 cs
ac_elements rb lb p (negsuc m ∷ cs) = run_element rb p ∷ level_element lb m true ∷ ac_elements (run_book p) (level_book m) 0 cs

-- DC: how many are due, the last DC, whether the last difference was negative, and the codebook that its magnitude chose; then AC
unfoldable pub dc_elements : ℕ → ℤ → Bool → Codebook → List ℤ → List Element
dc_elements zero dc neg book cs = ac_elements (run_book 4) (level_book 1) 0 cs
dc_elements (suc n) dc neg book [] = []
dc_elements (suc n) dc neg book (c ∷ cs) =
    dc_element book (symbol_of (turned neg (c -ℤ dc))) ∷ dc_elements n c (is_negative (c -ℤ dc)) (dc_book (nat_abs (c -ℤ dc))) cs

-- of b blocks: the first DC stands for itself, and counts as a difference of 3
unfoldable pub elements_of : ℕ → List ℤ → List Element
elements_of zero cs = []
elements_of (suc b) [] = []
elements_of (suc b) (c ∷ cs) = dc_element first_book (symbol_of c) ∷ dc_elements b c false (dc_book 3) cs

unfoldable pub encode : ℕ → List ℤ → List Bool
encode b cs = bits (elements_of b cs)
