-- One step of the decoder: it reads the element that was written, and a step that moves takes a bit at least.
-- Assumes nothing.
use Prim.Native.Nat.{ℕ, ◌-◌, ◌*◌, ◌^◌, ◌≤◌, ◌<◌}
use native.Mathlib.Omega.{arith}
use mathlib.Core.Path.{◌≡◌, ap, ap₂, ◌∙◌}
use mathlib.Core.Bool.{Bool, true, false, ◌||◌, or-true}
use mathlib.Core.List.{List, [], ◌∷◌, ◌++◌}
use lib.Dec.{eqb, leb, ltb}
use lib.IntN.{ℤ, nat_abs, ◌+ℤ◌, ◌-ℤ◌}
use lib.ListN.{length, length-append}
use borrow.Author.Tests.{le-leb, lt-ltb, ne_eqb}
use Rattle.common.proofs.Choices.{cond_yes, cond_no}
use Rattle.common.proofs.Integers.{add_back, nat_abs-sub}
use Rattle.bitstream.specs.Bits.{ended}
use Rattle.answers.specs.Reading.{Parsed, got}
use Rattle.answers.specs.Machine.{moved, stop, refuses, from, rejected, accepted, on_read}
use Rattle.answers.proofs.StepLaws.{Takes, Shrinks, refuses-takes, stop-takes, moved-takes, cond-takes, on_read-takes}
use Rattle.answers.proofs.MachineLaws as M
use Rattle.answers.proofs.EndLaws.{Over, accepted-over, from-ends}
use Rattle.codeword.specs.Codewords.{code, read_code}
use Rattle.codeword_books.specs.Books.{first_book, dc_book, run_book, level_book}
use Rattle.codeword.specs.Words.{InUse}
use Rattle.codeword_signs.specs.Signs.{is_negative, symbol_of, integer_of, turned, signed}
use Rattle.codeword.specs.declared.Codebook.{Codebook}
use Rattle.codeword.proofs.CodeLaws.{code_one, code-pos, in-use-fit}
use Rattle.codeword_books.proofs.BookLaws.{first_book-in-use}
use Rattle.codeword.proofs.ReadCodeLaws.{read-code, code_read}
use Rattle.codeword_signs.proofs.SignLaws.{integer-symbol, turned-turned, nat_abs-turned, symbol-le}
use Rattle.entropy_elements.specs.Limits.{most}
use Rattle.entropy_elements.specs.Decoding.{nil, State, first, next, run, level, StepC, after_dc, dc_to, next_to, run_to, level_to, step, left_of, finish, start, decode}

-- ---- symbols are below 2^32

pub symbol-small : (z : ℤ) → nat_abs z ≤ 2 * most → symbol_of z < 2 ^ 32
symbol-small z h = omega (arith, symbol-le z)

pub diff-small : (b : Bool) (dc c : ℤ) → nat_abs dc ≤ most → nat_abs c ≤ most → symbol_of (turned b (c -ℤ dc)) < 2 ^ 32
diff-small b dc c hd hc = symbol-small (turned b (c -ℤ dc)) (omega (arith, nat_abs-turned b (c -ℤ dc), nat_abs-sub c dc))

-- ---- a codeword in use, read

pub read-in-use : (cb : Codebook) (n : ℕ) (rest : List Bool) → InUse cb → n < 2 ^ 32 → read_code cb (code cb n ++ rest) ≡ got n rest
read-in-use cb n rest u h = read-code cb n rest (in-use-fit cb u) h

-- ---- one step reads the element that was written

dc_to-ok : (more left : ℕ) (dc : ℤ) (neg : Bool) (book : Codebook) (t : List Bool) → nat_abs dc ≤ most → dc_to more left dc neg book t ≡ moved (after_dc more left dc neg book) (dc ∷ []) t
unfolding dc_to
dc_to-ok more left dc neg book t h = cond_yes _ _ (le-leb (nat_abs dc) most h)

pub step-first : (more left : ℕ) (c : ℤ) (t : List Bool) → nat_abs c ≤ most
    → step (first more left) (code first_book (symbol_of c) ++ t) ≡ moved (after_dc more left c false (dc_book 3)) (c ∷ []) t
unfolding step
step-first more left c t h =
    ap (λ (x : Parsed). on_read x (λ s u. dc_to more left (integer_of s) false (dc_book 3) u))
    (read-in-use first_book (symbol_of c) t first_book-in-use (symbol-small c (omega arith)))
    ∙ ap (λ (z : ℤ). dc_to more left z false (dc_book 3) t) (integer-symbol c)
    ∙ dc_to-ok more left c false (dc_book 3) t h

pub step-next : (more left : ℕ) (dc : ℤ) (neg : Bool) (book : Codebook) (c : ℤ) (t : List Bool) → InUse book → nat_abs dc ≤ most → nat_abs c ≤ most
    → step (next more left dc neg book) (code book (symbol_of (turned neg (c -ℤ dc))) ++ t)
    ≡ moved (after_dc more left c (is_negative (c -ℤ dc)) (dc_book (nat_abs (c -ℤ dc)))) (c ∷ []) t
unfolding step
step-next more left dc neg book c t u hd h =
    let d : ℤ = c -ℤ dc in
    let e : turned neg (integer_of (symbol_of (turned neg d))) ≡ d = ap (turned neg) (integer-symbol (turned neg d)) ∙ turned-turned neg d in
    ap (λ (x : Parsed). on_read x (λ s v. next_to more left dc (turned neg (integer_of s)) v))
    (read-in-use book (symbol_of (turned neg d)) t u (diff-small neg dc c hd h))
    ∙ ap (λ (z : ℤ). next_to more left dc z t) e
    ∙ ap (λ (z : ℤ). dc_to more left z (is_negative d) (dc_book (nat_abs d)) t) (add_back dc c)
    ∙ dc_to-ok more left c (is_negative d) (dc_book (nat_abs d)) t h

pub step_run : (left : ℕ) (rb lb : Codebook) (p : ℕ) (t : List Bool) → InUse rb → p < left → p < 2 ^ 32
    → step (run left rb lb) (code rb p ++ t) ≡ moved (level (left - p) (run_book p) lb) (nil p) t
unfolding step run_to
step_run left rb lb p t u h b =
    cond_no _ _ (ap₂ (λ (x y : Bool). x || y) (ne_eqb left 0 (λ e. omega arith)) (code_one rb p t))
    ∙ ap (λ (x : Parsed). on_read x (λ n v. run_to left lb n v)) (read-in-use rb p t u b)
    ∙ cond_yes _ _ (lt-ltb p left h)

pub step-level : (left : ℕ) (rb lb : Codebook) (s : ℕ) (g : Bool) (t : List Bool) → InUse lb → s < most
    → step (level left rb lb) (code lb s ++ (g ∷ t)) ≡ moved (run (left - 1) rb (level_book s)) (signed g s ∷ []) t
unfolding step level_to
step-level left rb lb s g t u h =
    ap (λ (x : Parsed). on_read x (λ s v. level_to left rb s v)) (read-in-use lb s (g ∷ t) u (omega arith))
    ∙ cond_yes _ _ (lt-ltb s most h)

pub step-ended : (left : ℕ) (rb lb : Codebook) (z : List Bool) → ended z ≡ true → step (run left rb lb) z ≡ stop
unfolding step
step-ended left rb lb z e = rw (e, or-true)

-- ---- a step that moves takes a bit at least

read-takes : (cb : Codebook) (bs : List Bool) {k : ℕ → List Bool → StepC} → Shrinks k → Takes 1 bs (on_read (read_code cb bs) k)
read-takes cb bs sh =
    on_read-takes (read_code cb bs) (λ n u e. omega (arith, ap length (code_read cb bs n u e).0, length-append (code cb n) u, code-pos cb n)) sh

dc-takes : (more left : ℕ) (dc : ℤ) (neg : Bool) (book : Codebook) (u : List Bool) → Takes 0 u (dc_to more left dc neg book u)
unfolding dc_to
dc-takes more left dc neg book u = cond-takes (leb (nat_abs dc) most) (moved-takes (omega arith)) refuses-takes

level-takes : (left : ℕ) (rb : Codebook) → Shrinks (λ s t. level_to left rb s t)
unfolding level_to
level-takes left rb s [] = refuses-takes
level-takes left rb s (g ∷ u) = cond-takes (ltb s most) (moved-takes (omega arith)) refuses-takes

pub step-takes : (st : State) (bs : List Bool) → Takes 1 bs (step st bs)
unfolding step run_to
step-takes (first m l) bs = read-takes first_book bs (λ n u. dc-takes m l (integer_of n) false (dc_book 3) u)
step-takes (next m l dc neg book) bs =
    read-takes book bs
    (λ n u. dc-takes m l (dc +ℤ turned neg (integer_of n)) (is_negative (turned neg (integer_of n))) (dc_book (nat_abs (turned neg (integer_of n)))) u)
step-takes (run l rb lb) bs =
    cond-takes (eqb l 0 || ended bs) stop-takes (read-takes rb bs (λ n u. cond-takes (ltb n l) (moved-takes (omega arith)) refuses-takes))
step-takes (level l rb lb) bs = read-takes lb bs (level-takes l rb)

-- ---- the laws of a reader of elements, at this coder

pub from-moved : (st : State) (out : List ℤ) (bs : List Bool) (s : State) (o : List ℤ) (t : List Bool) → step st bs ≡ moved s o t
    → from step finish st out bs ≡ from step finish s (out ++ o) t
from-moved = M.from-moved step finish step-takes

pub from-stop : (st : State) (out : List ℤ) (bs : List Bool) → step st bs ≡ stop → from step finish st out bs ≡ accepted (out ++ nil (left_of st)) bs
from-stop = M.from-stop step finish step-takes

pub from-refused : (st : State) (out : List ℤ) (bs : List Bool) (k : ℕ) → step st bs ≡ refuses k → from step finish st out bs ≡ rejected k bs
from-refused = M.from-refused step finish step-takes

-- a reading never stays under way
pub decode-ends : (b : ℕ) (bs : List Bool) → Over (decode b bs)
unfolding decode
decode-ends b bs = from-ends step finish step-takes (λ st out u. accepted-over) (start b) [] bs
