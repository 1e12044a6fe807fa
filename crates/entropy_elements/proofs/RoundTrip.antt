-- The round trip: the code of coefficients, with anything behind it that has ended, decodes to them and leaves just that.
-- Assumes nothing.
use Prim.Native.Nat.{ℕ, zero, suc, ◌+◌, ◌-◌, ◌*◌, ◌^◌, ◌≤◌, ◌<◌}
use native.Mathlib.Omega.{arith}
use mathlib.Core.Path.{◌≡◌, refl, sym, ap, ◌∙◌}
use mathlib.Core.Bool.{Bool, true, false}
use mathlib.Core.List.{List, [], ◌∷◌, ◌++◌, append_assoc, append-nil}
use lib.IntN.{ℤ, pos, negsuc, nat_abs, ◌-ℤ◌}
use lib.ListN.{length}
use Rattle.bitstream.specs.Bits.{ended}
use Rattle.answers.specs.Machine.{from, accepted}
use Rattle.codeword.specs.Codewords.{code}
use Rattle.codeword_books.specs.Books.{first_book, dc_book, run_book, level_book}
use Rattle.codeword.specs.Words.{InUse}
use Rattle.codeword_signs.specs.Signs.{is_negative, symbol_of, turned, signed}
use Rattle.codeword.specs.declared.Codebook.{Codebook}
use Rattle.codeword_books.proofs.BookLaws.{dc_book-in-use, run_book-in-use, level_book-in-use}
use Rattle.entropy_elements.specs.Elements.{element_bits, bits, ac_elements, dc_elements, elements_of, encode}
use Rattle.entropy_elements.specs.Limits.{most}
use Rattle.entropy_elements.specs.Decoding.{nil, first, next, run, level, after_dc, step, finish, decode}
use Rattle.entropy_elements.proofs.StepLaws.{step-first, step-next, step_run, step-level, step-ended, from-moved, from-stop}

-- every coefficient is in range
abbrev pub Small : List ℤ → Type 0
Small [] = Unit {0}
Small (c ∷ cs) = (nat_abs c ≤ most) × Small cs

-- ---- runs and levels

nil-shift : (p : ℕ) (cs : List ℤ) → nil (suc p) ++ cs ≡ nil p ++ pos 0 ∷ cs
nil-shift zero cs = refl
nil-shift (suc p) cs = ap {B = List ℤ} (λ r. pos 0 ∷ r) (nil-shift p cs)

-- a run and a level
pair-back : (left : ℕ) (rb lb : Codebook) (p s : ℕ) (g : Bool) (out : List ℤ) (t : List Bool) → InUse rb → InUse lb → p < left → p < 2 ^ 32 → s < most
    → from step finish (run left rb lb) out (code rb p ++ (code lb s ++ (g ∷ t)))
    ≡ from step finish (run (left - p - 1) (run_book p) (level_book s)) (out ++ nil p ++ (signed g s ∷ [])) t
pair-back left rb lb p s g out t ur ul h b k =
    from-moved (run left rb lb) out _ _ _ _ (step_run left rb lb p (code lb s ++ (g ∷ t)) ur h b)
    ∙ from-moved (level (left - p) (run_book p) lb) (out ++ nil p) _ _ _ _ (step-level (left - p) (run_book p) lb s g t ul k)

-- p zeros were passed before cs
abbrev AcBack : List ℤ → Type 0
AcBack cs = (left : ℕ) (rb lb : Codebook) (p : ℕ) (out : List ℤ) (z : List Bool) → InUse rb → InUse lb → left ≡ p + length cs → left < 2 ^ 32 → Small cs
    → ended z ≡ true → from step finish (run left rb lb) out (bits (ac_elements rb lb p cs) ++ z) ≡ accepted (out ++ (nil p ++ cs)) z

regroup : {A : Type 0} (a b : List A) (g : A) (c z : List A) → a ++ (b ++ (g ∷ []) ++ c) ++ z ≡ a ++ (b ++ (g ∷ (c ++ z)))
regroup a b g c z = simp append_assoc

-- one coefficient that is not 0
level-back : (cs : List ℤ) → AcBack cs → (left : ℕ) (rb lb : Codebook) (p s : ℕ) (g : Bool) (out : List ℤ) (z : List Bool) → InUse rb → InUse lb
    → left ≡ p + suc (length cs) → left < 2 ^ 32 → s < most → Small cs → ended z ≡ true
    → from step finish (run left rb lb) out (code rb p ++ (code lb s ++ (g ∷ []) ++ bits (ac_elements (run_book p) (level_book s) 0 cs)) ++ z)
    ≡ accepted (out ++ (nil p ++ signed g s ∷ cs)) z
level-back cs ih left rb lb p s g out z ur ul hl hb hs sm e =
    let rest : List Bool = bits (ac_elements (run_book p) (level_book s) 0 cs) in
    ap (λ (t : List Bool). from step finish (run left rb lb) out t) (regroup (code rb p) (code lb s) g rest z)
    ∙ pair-back left rb lb p s g out (rest ++ z) ur ul (omega arith) (omega arith) hs
    ∙ ih (left - p - 1) (run_book p) (level_book s) 0 (out ++ nil p ++ (signed g s ∷ [])) z (run_book-in-use p) (level_book-in-use s) (omega arith) (omega arith) sm e
    ∙ ap (λ (o : List ℤ). accepted o z) (simp append_assoc)

pub ac-back : (cs : List ℤ) → AcBack cs
unfolding ac_elements bits element_bits
ac-back [] left rb lb p out z ur ul hl hb sm e =
    let lp : left ≡ p = omega arith in
    from-stop (run left rb lb) out z (step-ended left rb lb z e)
    ∙ ap (λ (o : List ℤ). accepted (out ++ o) z) (ap nil lp ∙ sym (append-nil (nil p)))
ac-back (pos zero ∷ cs) left rb lb p out z ur ul hl hb sm e =
    ac-back cs left rb lb (suc p) out z ur ul (omega arith) hb sm.1 e ∙ ap (λ (o : List ℤ). accepted (out ++ o) z) (nil-shift p cs)
ac-back (pos (suc m) ∷ cs) left rb lb p out z ur ul hl hb sm e = level-back cs (ac-back cs) left rb lb p m false out z ur ul hl hb sm.0 sm.1 e
ac-back (negsuc m ∷ cs) left rb lb p out z ur ul hl hb sm e = level-back cs (ac-back cs) left rb lb p m true out z ur ul hl hb sm.0 sm.1 e

-- ---- the DCs that are due, and then the runs and levels

pub dc-back : (n : ℕ) (dc : ℤ) (neg : Bool) (book : Codebook) (cs : List ℤ) (left : ℕ) (out : List ℤ) (z : List Bool) → InUse book → length cs ≡ n + left
    → left < 2 ^ 32 → nat_abs dc ≤ most → Small cs → ended z ≡ true
    → from step finish (after_dc n left dc neg book) out (bits (dc_elements n dc neg book cs) ++ z) ≡ accepted (out ++ cs) z
unfolding dc_elements bits element_bits
dc-back zero dc neg book cs left out z u hl hb hd sm e =
    ac-back cs left (run_book 4) (level_book 1) 0 out z (run_book-in-use 4) (level_book-in-use 1) (omega arith) hb sm e
dc-back (suc n) dc neg book [] left out z u hl hb hd sm e = absurd (omega arith)
dc-back (suc n) dc neg book (c ∷ cs) left out z u hl hb hd sm e =
    let d : ℤ = c -ℤ dc in
    let rest : List Bool = bits (dc_elements n c (is_negative d) (dc_book (nat_abs d)) cs) in
    ap (λ (t : List Bool). from step finish (next n left dc neg book) out t) (append_assoc (code book (symbol_of (turned neg d))) rest z)
    ∙ from-moved (next n left dc neg book) out _ _ _ _ (step-next n left dc neg book c (rest ++ z) u hd sm.0)
    ∙ dc-back n c (is_negative d) (dc_book (nat_abs d)) cs left (out ++ (c ∷ [])) z (dc_book-in-use (nat_abs d)) (omega arith) hb sm.0 sm.1 e
    ∙ ap (λ (o : List ℤ). accepted o z) (append_assoc out (c ∷ []) cs)

-- ---- the whole

pub decode-encode : (b : ℕ) (cs : List ℤ) (z : List Bool) → length cs ≡ 64 * b → b < 2 ^ 20 → Small cs → ended z ≡ true → decode b (encode b cs ++ z) ≡ accepted cs z
unfolding decode encode elements_of bits element_bits
decode-encode zero [] z hl hb sm e = from-stop (run 0 (run_book 4) (level_book 1)) [] z (step-ended 0 (run_book 4) (level_book 1) z e)
decode-encode zero (c ∷ cs) z hl hb sm e = absurd (omega arith)
decode-encode (suc b) [] z hl hb sm e = absurd (omega arith)
decode-encode (suc b) (c ∷ cs) z hl hb sm e =
    let rest : List Bool = bits (dc_elements b c false (dc_book 3) cs) in
    ap (λ (t : List Bool). from step finish (first b (63 * suc b)) [] t) (append_assoc (code first_book (symbol_of c)) rest z)
    ∙ from-moved (first b (63 * suc b)) [] _ _ _ _ (step-first b (63 * suc b) c (rest ++ z) sm.0)
    ∙ dc-back b c false (dc_book 3) cs (63 * suc b) (c ∷ []) z (dc_book-in-use 3) (omega arith) (omega arith) sm.0 sm.1 e
