-- The length of a code: it is the sum of its elements' lengths, and at most 2w + 5 bits for each coefficient below 2^w.
-- Assumes nothing.
use Prim.Native.Nat.{ℕ, zero, suc, ◌+◌, ◌*◌, ◌^◌, ◌≤◌, ◌<◌}
use native.Mathlib.Nat.{mul-le-mul_right}
use native.Mathlib.Omega.{arith}
use mathlib.Core.Path.{◌≡◌, refl, sym, ap, ap₂, ◌∙◌, subst}
use mathlib.Core.Bool.{Bool, false}
use mathlib.Core.List.{List, [], ◌∷◌}
use lib.IntN.{ℤ, pos, negsuc, nat_abs, ◌-ℤ◌}
use lib.ListN.{length, length-append}
use Rattle.common.proofs.Integers.{nat_abs-sub}
use Rattle.codeword.specs.Codewords.{code, code_length}
use Rattle.codeword_books.specs.Books.{first_book, dc_book, run_book, level_book}
use Rattle.codeword.specs.Words.{InUse}
use Rattle.codeword_signs.specs.Signs.{is_negative, symbol_of, turned}
use Rattle.codeword.specs.declared.Codebook.{Codebook}
use Rattle.codeword.proofs.CodeLaws.{in-use-fit, code-length}
use Rattle.codeword_books.proofs.BookLaws.{first_book-in-use, dc_book-in-use, run_book-in-use, level_book-in-use}
use Rattle.codeword_books.proofs.LengthLaws.{dc-le, level-le, run-le, first-le, first-zero}
use Rattle.codeword_signs.proofs.SignLaws.{nat_abs-turned, symbol-le}
use Rattle.entropy_elements.specs.Elements.{Element, dc_element, run_element, level_element, element_bits, element_length, bits, size, ac_elements, dc_elements, elements_of, encode}
use Rattle.entropy_elements.specs.Limits.{most}
use Rattle.entropy_elements.proofs.StepLaws.{symbol-small, diff-small}
use Rattle.entropy_elements.proofs.RoundTrip.{Small}

-- ---- the sum of lengths

-- an element in one of the codebooks in use, with a symbol below 2^32
abbrev pub Proper : Element → Type 0
Proper (dc_element b s) = InUse b × (s < 2 ^ 32)
Proper (run_element b n) = InUse b × (n < 2 ^ 32)
Proper (level_element b s g) = InUse b × (s < 2 ^ 32)

abbrev pub AllProper : List Element → Type 0
AllProper [] = Unit {0}
AllProper (e ∷ es) = Proper e × AllProper es

pub word-length : (b : Codebook) (n : ℕ) → InUse b → n < 2 ^ 32 → length (code b n) ≡ code_length b n
word-length b n u h = code-length b n (in-use-fit b u) h

pub element-length : (e : Element) → Proper e → length (element_bits e) ≡ element_length e
unfolding element_bits element_length
element-length (dc_element b s) p = word-length b s p.0 p.1
element-length (run_element b n) p = word-length b n p.0 p.1
element-length (level_element b s g) p = length-append (code b s) (g ∷ []) ∙ ap (λ (i : ℕ). i + 1) (word-length b s p.0 p.1)

pub bits-length : (es : List Element) → AllProper es → length (bits es) ≡ size es
unfolding bits size
bits-length [] p = refl
bits-length (e ∷ es) p = length-append (element_bits e) (bits es) ∙ ap₂ (λ (a b : ℕ). a + b) (element-length e p.0) (bits-length es p.1)

pub ac-proper : (cs : List ℤ) (rb lb : Codebook) (p : ℕ) → InUse rb → InUse lb → p + length cs < 2 ^ 32 → Small cs → AllProper (ac_elements rb lb p cs)
unfolding ac_elements
ac-proper [] rb lb p ur ul h sm = tt
ac-proper (pos zero ∷ cs) rb lb p ur ul h sm = ac-proper cs rb lb (suc p) ur ul (omega arith) sm.1
ac-proper (pos (suc m) ∷ cs) rb lb p ur ul h sm =
    ((ur, omega arith), ((ul, omega (arith, sm.0)), ac-proper cs (run_book p) (level_book m) 0 (run_book-in-use p) (level_book-in-use m) (omega arith) sm.1))
ac-proper (negsuc m ∷ cs) rb lb p ur ul h sm =
    ((ur, omega arith), ((ul, omega (arith, sm.0)), ac-proper cs (run_book p) (level_book m) 0 (run_book-in-use p) (level_book-in-use m) (omega arith) sm.1))

pub dc-proper : (n : ℕ) (dc : ℤ) (neg : Bool) (book : Codebook) (cs : List ℤ) → InUse book → length cs < 2 ^ 32 → nat_abs dc ≤ most → Small cs
    → AllProper (dc_elements n dc neg book cs)
unfolding dc_elements
dc-proper zero dc neg book cs u h hd sm = ac-proper cs (run_book 4) (level_book 1) 0 (run_book-in-use 4) (level_book-in-use 1) (omega arith) sm
dc-proper (suc n) dc neg book [] u h hd sm = tt
dc-proper (suc n) dc neg book (c ∷ cs) u h hd sm =
    ((u, diff-small neg dc c hd sm.0), dc-proper n c (is_negative (c -ℤ dc)) (dc_book (nat_abs (c -ℤ dc))) cs (dc_book-in-use (nat_abs (c -ℤ dc))) (omega arith) sm.0 sm.1)

pub all-proper : (b : ℕ) (cs : List ℤ) → length cs < 2 ^ 32 → Small cs → AllProper (elements_of b cs)
unfolding elements_of
all-proper zero cs h sm = tt
all-proper (suc b) [] h sm = tt
all-proper (suc b) (c ∷ cs) h sm =
    ((first_book-in-use, symbol-small c (omega (arith, sm.0))), dc-proper b c false (dc_book 3) cs (dc_book-in-use 3) (omega arith) sm.0 sm.1)

pub encode-length : (b : ℕ) (cs : List ℤ) → length cs < 2 ^ 32 → Small cs → length (encode b cs) ≡ size (elements_of b cs)
unfolding encode
encode-length b cs h sm = bits-length (elements_of b cs) (all-proper b cs h sm)

-- ---- the bound

abbrev pub Below : ℕ → List ℤ → Type 0
Below w [] = Unit {0}
Below w (c ∷ cs) = (nat_abs c < 2 ^ w) × Below w cs

-- what a codebook's codewords cost at most
abbrev RunLe : Codebook → Type 0
RunLe b = (n : ℕ) → n < 2 ^ 32 → code_length b n ≤ 2 * n + 3

abbrev LevelLe : ℕ → Codebook → Type 0
LevelLe w b = (n : ℕ) → n + 2 ≤ 2 ^ w → code_length b n ≤ 2 * w + 1

abbrev DcLe : ℕ → Codebook → Type 0
DcLe w b = (n : ℕ) → n + 4 ≤ 2 ^ suc (suc w) → code_length b n ≤ 2 * w + 4

run-books : (r : ℕ) → RunLe (run_book r)
run-books r n h = run-le n h r

level-books : (w y : ℕ) → w ≤ 60 → LevelLe w (level_book y)
level-books w y hw n h = level-le w n hw h y

dc-books : (w a : ℕ) → w ≤ 60 → DcLe w (dc_book a)
dc-books w a hw n h = dc-le w n hw h a

-- a run of p, a level, and x bits for l more coefficients
pair_size : (w : ℕ) (rb lb : Codebook) (p s l x : ℕ) → w ≤ 60 → RunLe rb → LevelLe w lb → p < 2 ^ 32 → s + 2 ≤ 2 ^ w → x ≤ (2 * w + 5) * (0 + l)
    → code_length rb p + (code_length lb s + 1 + x) ≤ (2 * w + 5) * (p + suc l)
pair_size w rb lb p s l x hw hr hl hp hs hx = omega (arith, hr p hp, hl s hs, mul-le-mul_right {m = 2} {n = 2 * w + 5} p (omega arith))

pub ac-size : (w : ℕ) (cs : List ℤ) (rb lb : Codebook) (p : ℕ) → w ≤ 60 → RunLe rb → LevelLe w lb → p + length cs < 2 ^ 32 → Below w cs
    → size (ac_elements rb lb p cs) ≤ (2 * w + 5) * (p + length cs)
unfolding ac_elements size element_length
ac-size w [] rb lb p hw hr hl h b = omega arith
ac-size w (pos zero ∷ cs) rb lb p hw hr hl h b =
    let e : suc p + length cs ≡ p + suc (length cs) = omega arith in
    subst (λ (i : ℕ). size (ac_elements rb lb (suc p) cs) ≤ (2 * w + 5) * i) e (ac-size w cs rb lb (suc p) hw hr hl (omega arith) b.1)
ac-size w (pos (suc m) ∷ cs) rb lb p hw hr hl h b =
    pair_size w rb lb p m (length cs) (size (ac_elements (run_book p) (level_book m) 0 cs)) hw hr hl (omega arith) (let a = b.0 in omega arith)
    (ac-size w cs (run_book p) (level_book m) 0 hw (run-books p) (level-books w m hw) (omega arith) b.1)
ac-size w (negsuc m ∷ cs) rb lb p hw hr hl h b =
    pair_size w rb lb p m (length cs) (size (ac_elements (run_book p) (level_book m) 0 cs)) hw hr hl (omega arith) (let a = b.0 in omega arith)
    (ac-size w cs (run_book p) (level_book m) 0 hw (run-books p) (level-books w m hw) (omega arith) b.1)

diff-symbol : (w : ℕ) (b : Bool) (dc c : ℤ) → nat_abs dc < 2 ^ w → nat_abs c < 2 ^ w → symbol_of (turned b (c -ℤ dc)) + 4 ≤ 2 ^ suc (suc w)
diff-symbol w b dc c hd hc = omega (arith, symbol-le (turned b (c -ℤ dc)), nat_abs-turned b (c -ℤ dc), nat_abs-sub c dc)

-- one bit is to spare for each DC
pub dc-size : (w n : ℕ) (dc : ℤ) (neg : Bool) (book : Codebook) (cs : List ℤ) → w ≤ 60 → DcLe w book → n ≤ length cs → length cs < 2 ^ 32 → nat_abs dc < 2 ^ w
    → Below w cs → size (dc_elements n dc neg book cs) + n ≤ (2 * w + 5) * length cs
unfolding dc_elements size element_length
dc-size w zero dc neg book cs hw hb hn hl hd b =
    let e : 0 + length cs ≡ length cs = omega arith in
    let k = subst (λ (i : ℕ). size (ac_elements (run_book 4) (level_book 1) 0 cs) ≤ (2 * w + 5) * i) e (ac-size w cs (run_book 4) (level_book 1) 0 hw (run-books 4) (level-books w 1 hw) (omega arith) b) in
    omega arith
dc-size w (suc n) dc neg book [] hw hb hn hl hd b = absurd (omega arith)
dc-size w (suc n) dc neg book (c ∷ cs) hw hb hn hl hd b =
    let d : ℤ = c -ℤ dc in
    let ih = dc-size w n c (is_negative d) (dc_book (nat_abs d)) cs hw (dc-books w (nat_abs d) hw) (omega arith) (omega arith) b.0 b.1 in
    let x = hb (symbol_of (turned neg d)) (diff-symbol w neg dc c hd b.0) in
    omega arith

first-symbol : (w : ℕ) (c : ℤ) → nat_abs c < 2 ^ w → symbol_of c < 2 ^ suc w
first-symbol w c h = omega (arith, symbol-le c)

some_size : (w b : ℕ) (cs : List ℤ) → 1 ≤ w → w ≤ 58 → length cs ≡ 64 * b → b < 2 ^ 20 → Below w cs → size (elements_of b cs) ≤ (2 * w + 5) * length cs
unfolding elements_of size element_length
some_size w zero cs h1 hw hl hb s = omega arith
some_size w (suc b) [] h1 hw hl hb s = absurd (omega arith)
some_size w (suc b) (c ∷ cs) h1 hw hl hb s =
    let f = first-le w (symbol_of c) h1 hw (first-symbol w c s.0) in
    let x = dc-size w b c false (dc_book 3) cs (omega arith) (dc-books w 3 (omega arith)) (omega arith) (omega arith) s.0 s.1 in
    omega arith

-- ---- w = 0: every coefficient is 0; the first DC takes 6 bits, not 5, and the other places make up for it

ac-none : (cs : List ℤ) (rb lb : Codebook) (p : ℕ) → Below 0 cs → ac_elements rb lb p cs ≡ []
unfolding ac_elements
ac-none [] rb lb p b = refl
ac-none (pos zero ∷ cs) rb lb p b = ac-none cs rb lb (suc p) b.1
ac-none (pos (suc m) ∷ cs) rb lb p b = absurd (let a = b.0 in omega arith)
ac-none (negsuc m ∷ cs) rb lb p b = absurd (let a = b.0 in omega arith)

zero-symbol : (c : ℤ) → nat_abs c < 2 ^ 0 → code_length first_book (symbol_of c) ≤ 6
zero-symbol c h = let e : symbol_of c ≡ 0 = omega (arith, symbol-le c) in subst (λ (n : ℕ). code_length first_book n ≤ 6) (sym e) first-zero

none-size : (b : ℕ) (cs : List ℤ) → length cs ≡ 64 * b → b < 2 ^ 20 → Below 0 cs → size (elements_of b cs) ≤ 5 * length cs
unfolding elements_of size element_length dc_elements
none-size zero cs hl hb s = omega arith
none-size (suc b) [] hl hb s = absurd (omega arith)
none-size (suc zero) (c ∷ cs) hl hb s =
    let f = zero-symbol c s.0 in
    let e : size (ac_elements (run_book 4) (level_book 1) 0 cs) ≡ 0 = ap size (ac-none cs (run_book 4) (level_book 1) 0 s.1) in
    omega arith
none-size (suc (suc b)) (c ∷ cs) hl hb s =
    let f = zero-symbol c s.0 in
    let x = dc-size 0 (suc b) c false (dc_book 3) cs (omega arith) (dc-books 0 3 (omega arith)) (omega arith) (omega arith) s.0 s.1 in
    omega arith

-- 2w + 5 bits for each coefficient
pub size-le : (w b : ℕ) (cs : List ℤ) → w ≤ 58 → length cs ≡ 64 * b → b < 2 ^ 20 → Below w cs → size (elements_of b cs) ≤ (2 * w + 5) * length cs
size-le zero b cs hw hl hb s = none-size b cs hl hb s
size-le (suc w) b cs hw hl hb s = some_size (suc w) b cs (omega arith) hw hl hb s
