-- Laws of the encoder's own terms: the code's length, and the code from a state on, one coefficient at a time.
-- Assumes nothing.
use Prim.Native.Nat.{ℕ, zero, suc, ◌+◌, ◌-◌, ◌*◌, ◌≤◌, ◌<◌}
use native.Mathlib.Nat.{add-zero, zero-add}
use native.Mathlib.Numerals.{add-one}
use native.Mathlib.Omega.{arith}
use mathlib.Core.Path.{◌≡◌, refl, sym, ap, ap₂, ◌∙◌}
use mathlib.Core.Bool.{Bool, true, false, not, cond}
use mathlib.Core.List.{List, [], ◌∷◌, ◌++◌, append_assoc}
use Rattle.std.proofs.lemmas.Bool.{ltb-false}
use Rattle.std.proofs.lemmas.Bool.Decides.{Decides-int_eq}
use Rattle.std.proofs.lemmas.List.Sums.{prefix_len_passes}
use Rattle.std.specs.Ordering.{int_eq}
use lib.Dec.{ltb}
use lib.IntN.{ℤ, pos, negsuc, nat_abs, ◌-ℤ◌}
use lib.ListN.{length, take, drop, get_or, length-take, length-drop, drop_of_length-le}
use lib.Seq.{drop-cons}
use Rattle.std.proofs.lemmas.List.Quantifiers.{position-Some}
use Rattle.std.specs.List.{position, prefix_len}
use Rattle.std.specs.Prelude.{Some, None}
use Rattle.std.proofs.lemmas.List.{get_or-take, get_or-drop, drop-drop}
use mir.Syntax.{w32}
use mir.Val.{SFits, to_z, of_z}
use mir.Facts.{to_z-of_z}
use Rattle.common.proofs.Integers.{sfits-nat_abs, nat_abs-sub}
use Rattle.bitstream_writer.specs.declared.Word.{Word}
use Rattle.bitstream_writer.specs.Words.{WordOf, word_bits}
use Rattle.codeword.specs.Codewords.{code}
use Rattle.codeword.specs.declared.Codebook.{Codebook}
use Rattle.codeword_books.specs.Books.{first_book, run_book, level_book}
use Rattle.codeword_signs.specs.Signs.{is_negative, symbol_of}
use Rattle.codeword_books.proofs.BookLaws.{dc_book-in-use, run_book-in-use, level_book-in-use}
use Rattle.entropy_elements.specs.Elements.{element_bits, bits, ac_elements, dc_elements, elements_of, encode}
use Rattle.entropy_elements.specs.Limits.{most, Encodable}
use Rattle.entropy_writing.specs.Writing.{DcFits, first_dcs, dc_bits, dc_after, dcs_code, AcFits, first_acs, is_level, ac_bits, acs_after, acs_code}
use Rattle.entropy_writing.specs.declared.WriterDcs.{WriterDcs}
use Rattle.entropy_writing.specs.declared.WriterAcs.{WriterAcs}
use Rattle.entropy_elements.proofs.RangeLaws.{nat_abs-in_range, small-below}
use Rattle.entropy_elements.proofs.SizeLaws.{encode-length, size-le}

-- no blocks have no code
pub encode-none : {b : ℕ} (cs : List ℤ) → b ≡ 0 → encode b cs ≡ []
unfolding encode elements_of bits
encode-none cs e = rw e

-- ---- the length of the code: 63 bits for each coefficient

pub encode-le : {b : ℕ} {cs : List ℤ} → Encodable b cs → length (encode b cs) ≤ 4032 * b
encode-le {b} {cs} f =
    let s = small-below cs f.small in
    omega (arith, f.full, f.few, encode-length b cs (omega (arith, f.full, f.few)) s.0, size-le 29 b cs (omega arith) f.full (omega (arith, f.few)) s.1)

-- ---- numbers of 32 bits: a coefficient, and the difference of two

abbrev read : ℤ → ℤ
read z = to_z w32 (of_z w32 z)

read_is : (z : ℤ) → nat_abs z ≤ 2 * most → read z ≡ z
read_is z h = to_z-of_z {w = w32} (sfits-nat_abs z (omega arith))

module _ (c dc : ℤ) (hc : nat_abs c ≤ most) (hd : nat_abs dc ≤ most) where
  pub diff-le : nat_abs (c -ℤ dc) ≤ 2 * most
  diff-le = omega (arith, nat_abs-sub c dc)

  diff_is : read c -ℤ read dc ≡ c -ℤ dc
  diff_is = ap₂ ◌-ℤ◌ (read_is c (omega arith)) (read_is dc (omega arith))

  pub diff-fits : SFits w32 (read c -ℤ read dc)
  diff-fits = rw diff_is (sfits-nat_abs (c -ℤ dc) (omega (arith, diff-le)))

  pub diff-read : read (read c -ℤ read dc) ≡ c -ℤ dc
  diff-read = ap read diff_is ∙ read_is (c -ℤ dc) diff-le

-- ---- DC

-- the coefficient at n, as the code reads it
module _ {b : ℕ} {cs : List ℤ} (f : Encodable b cs) (n : ℕ) where
  abbrev pub at : ℤ
  at = read (get_or cs n (pos 0))

  at-is : at ≡ get_or cs n (pos 0)
  at-is = read_is (get_or cs n (pos 0)) (omega (arith, nat_abs-in_range cs n f.small))

  pub at_small : nat_abs at ≤ most
  at_small = rw at-is (nat_abs-in_range cs n f.small)

-- the i-th of the m coefficients from k on, as the code reads it
module _ {b : ℕ} {cs : List ℤ} (f : Encodable b cs) (k m i : ℕ) where
  abbrev pub item : ℤ
  item = read (get_or (take m (drop k cs)) i (pos 0))

  module _ (h : i < length (take m (drop k cs))) where
    item_within : (i < m) × (i < length (drop k cs))
    item_within = let l = rw length-take at h in (omega (arith, l), omega (arith, l))

    item-at : item ≡ at f (k + i)
    item-at = ap read (get_or-take m (drop k cs) i (pos 0) item_within.0 ∙ get_or-drop k cs i (pos 0))

    pub item_small : nat_abs item ≤ most
    item_small = rw item-at (at_small f (k + i))

first_step : (b : ℕ) (cs : List ℤ) → 0 < b → 0 < length cs
    → encode b cs ≡ code first_book (symbol_of (get_or cs 0 (pos 0))) ++ dcs_code (b - 1) (first_dcs (get_or cs 0 (pos 0))) (drop 1 cs)
unfolding encode elements_of bits element_bits dcs_code
first_step zero cs h l = absurd (omega arith)
first_step (suc b) [] h l = absurd (omega arith)
first_step (suc b) (c ∷ cs) h l = let e : suc b - 1 ≡ b = omega arith in rw e

dc-step : (n : ℕ) (s : WriterDcs) (c : ℤ) (cs : List ℤ) → dcs_code (suc n) s (c ∷ cs) ≡ dc_bits s c ++ dcs_code n (dc_after s c) cs
unfolding dcs_code dc_elements bits element_bits
dc-step n s c cs = refl

module _ {b : ℕ} {cs : List ℤ} (f : Encodable b cs) where
  pub encode-first : {t : WriterDcs} → 0 < b → t ≡ first_dcs (at f 0) → encode b cs ≡ code first_book (symbol_of (at f 0)) ++ dcs_code (b - 1) t (drop 1 cs)
  encode-first h e = rw (e, at-is f 0) (first_step b cs h (omega (arith, f.full)))

  pub dcs-next : {t : WriterDcs} (n : ℕ) (s : WriterDcs) → n < b → t ≡ dc_after s (at f n)
      → dcs_code (b - n) s (drop n cs) ≡ dc_bits s (at f n) ++ dcs_code (b - (n + 1)) t (drop (n + 1) cs)
  dcs-next n s h e =
      let m : b - n ≡ suc (b - (n + 1)) = omega arith in
      let l : n < length cs = omega (arith, f.full) in
      rw (e, at-is f n, m, add-one n, drop-cons cs n (pos 0) l) (dc-step (b - suc n) s (get_or cs n (pos 0)) (drop (suc n) cs))

-- where none is due, AC follows
pub dcs-end : (b : ℕ) (s : WriterDcs) (cs : List ℤ) (n : ℕ) → n ≡ b → dcs_code (b - n) s (drop n cs) ≡ acs_code first_acs (drop b cs)
unfolding dcs_code dc_elements acs_code
dcs-end b s cs n e =
    let z : b - n ≡ 0 = omega arith in
    ap₂ (λ (m k : ℕ). dcs_code m s (drop k cs)) z e

pub first_fits : (c : ℤ) → nat_abs c ≤ most → DcFits (first_dcs c)
first_fits c h = record { book = dc_book-in-use 3; dc = h }

pub dc-fits : (s : WriterDcs) (c : ℤ) → nat_abs c ≤ most → DcFits (dc_after s c)
dc-fits s c h = record { book = dc_book-in-use (nat_abs (c -ℤ s.dc)); dc = h }

-- the same of the items behind the first, as a loop over them has it
module _ {b : ℕ} {cs : List ℤ} (f : Encodable b cs) where
  pub first_fits-in : {t : WriterDcs} → t ≡ first_dcs (at f 0) → DcFits t
  first_fits-in e = rw e (first_fits (at f 0) (at_small f 0))

  module _ (i : ℕ) (s : WriterDcs) where
    -- i + 1 of all are passed where i of these are
    behind : drop i (drop 1 cs) ≡ drop (i + 1) cs
    behind = let n : 1 + i ≡ i + 1 = omega arith in drop-drop i 1 cs ∙ ap (λ (k : ℕ). drop k cs) n

    pub dcs-fits : {t : WriterDcs} → i < length (take (b - 1) (drop 1 cs)) → t ≡ dc_after s (item f 1 (b - 1) i) → DcFits t
    dcs-fits h e = rw e (dc-fits s (item f 1 (b - 1) i) (item_small f 1 (b - 1) i h))

    pub dcs-end-in : 0 < b → length (take (b - 1) (drop 1 cs)) ≡ i → dcs_code (b - (i + 1)) s (drop i (drop 1 cs)) ≡ acs_code first_acs (drop b cs)
    dcs-end-in h e = rw behind (dcs-end b s cs (i + 1) (omega (arith, e, length-take {A = ℤ}, length-drop {A = ℤ}, f.full)))

  pub dcs-next-in : {t : WriterDcs} (i : ℕ) (s : WriterDcs) → i < length (take (b - 1) (drop 1 cs)) → t ≡ dc_after s (item f 1 (b - 1) i)
      → dcs_code (b - (i + 1)) s (drop i (drop 1 cs)) ≡ dc_bits s (item f 1 (b - 1) i) ++ dcs_code (b - (i + 1 + 1)) t (drop (i + 1) (drop 1 cs))
  dcs-next-in i s h e =
      let n : 1 + i ≡ i + 1 = omega arith in
      let c : item f 1 (b - 1) i ≡ at f (i + 1) = item-at f 1 (b - 1) i h ∙ ap (λ (k : ℕ). at f k) n in
      rw (behind i s, behind (i + 1) s, c) (dcs-next f (i + 1) s (omega (arith, (item_within f 1 (b - 1) i h).0)) (e ∙ ap (dc_after s) c))

-- ---- AC

module _ (rb lb : Codebook) where
  -- n zeros are passed
  pass : (p n : ℕ) (cs : List ℤ) → n ≤ length cs → ((k : ℕ) → k < n → get_or cs k (pos 0) ≡ pos 0) → ac_elements rb lb p cs ≡ ac_elements rb lb (p + n) (drop n cs)
  unfolding ac_elements
  pass p zero cs h z = ap (λ (q : ℕ). ac_elements rb lb q cs) (sym (add-zero p))
  pass p (suc n) [] h z = absurd (omega arith)
  pass p (suc n) (c ∷ cs) h z =
      let more : suc p + n ≡ p + suc n = omega arith in
      ap (λ (x : ℤ). ac_elements rb lb p (x ∷ cs)) (z 0 (omega arith))
      ∙ pass (suc p) n cs (omega arith) (λ k i. z (suc k) (omega arith))
      ∙ ap (λ (q : ℕ). ac_elements rb lb q (drop n cs)) more

  -- a coefficient of magnitude m + 1, after a run
  level-step : (run m : ℕ) (c : ℤ) (cs : List ℤ) → nat_abs c ≡ suc m
      → code rb run ++ ((code lb m ++ (is_negative c ∷ [])) ++ bits (ac_elements (run_book run) (level_book m) 0 cs))
      ≡ ac_bits (record { runs = rb; levels = lb }) run c ++ acs_code (acs_after run c) cs
  unfolding acs_code
  level-step run m c cs h = let e : nat_abs c - 1 ≡ m = omega arith in rw e (simp append_assoc)

  step : (run : ℕ) (c : ℤ) (cs : List ℤ) → 0 < nat_abs c
      → bits (ac_elements rb lb run (c ∷ cs)) ≡ ac_bits (record { runs = rb; levels = lb }) run c ++ acs_code (acs_after run c) cs
  unfolding ac_elements bits element_bits
  step run (pos zero) cs h = absurd (omega arith)
  step run (pos (suc m)) cs h = level-step run m (pos (suc m)) cs refl
  step run (negsuc m) cs h = level-step run m (negsuc m) cs refl

-- ---- the zeros before a level

turned_not : (a b : Bool) → not a ≡ b → a ≡ not b
turned_not true b e = ap not e
turned_not false b e = ap not e

zero-is : (c : ℤ) → is_level c ≡ false → c ≡ pos 0
zero-is c e = (Decides-int_eq c (pos 0)).0 (turned_not (int_eq c (pos 0)) false e)

level_some : (c : ℤ) → is_level c ≡ true → 0 < nat_abs c
level_some (pos zero) e = cc
level_some (pos (suc m)) e = omega arith
level_some (negsuc m) e = omega arith

none_left : (k n : ℕ) (b : Bool) → ltb k n ≡ b → cond b (Some k) None ≡ None → n ≤ k
none_left k n true e is = cc
none_left k n false e is = ltb-false k n e

pub ac-fits : (run : ℕ) (c : ℤ) → AcFits (acs_after run c)
ac-fits run c = record { runs = run_book-in-use run; levels = level_book-in-use (nat_abs c - 1) }

-- n zeros, and the level behind them as the code reads it
module _ (cs : List ℤ) (n : ℕ) (small : (i : ℕ) → nat_abs (get_or cs i (pos 0)) ≤ most) (is : position is_level cs ≡ Some n) where
  abbrev level : ℤ
  level = get_or cs n (pos 0)

  found : (n < length cs) × (is_level level ≡ true) × ((k : ℕ) → k < n → is_level (get_or cs k (pos 0)) ≡ false)
  found = position-Some is_level cs n (pos 0) is

  level-is : read level ≡ level
  level-is = read_is level (omega (arith, small n))

  pub level_there : 0 < nat_abs (read level)
  level_there = rw level-is (level_some level found.1)

  pub acs-fits : {t : WriterAcs} → t ≡ acs_after n (read level) → AcFits t
  acs-fits e = rw e (ac-fits n (read level))

  pub acs-next : {t : WriterAcs} (s : WriterAcs) → t ≡ acs_after n (read level) → acs_code s cs ≡ ac_bits s n (read level) ++ acs_code t (drop (n + 1) cs)
  unfolding acs_code
  acs-next s e =
      ap bits (pass s.runs s.levels 0 n cs (omega (arith, found.0)) (λ k h. zero-is (get_or cs k (pos 0)) (found.2 k h)))
      ∙ rw (zero-add, e, level-is, add-one n, drop-cons cs n (pos 0) found.0) (step s.runs s.levels n level (drop (suc n) cs) (level_some level found.1))

pub acs-end : (s : WriterAcs) (cs : List ℤ) → position is_level cs ≡ None → acs_code s cs ≡ []
unfolding acs_code ac_elements bits
acs-end s cs is =
    let is_zero : ℤ → Bool = λ c. not (is_level c) in
    let k : ℕ = prefix_len is_zero cs in
    let far : length cs ≤ k = none_left k (length cs) (ltb k (length cs)) refl is in
    let zero = λ (i : ℕ) (h : i < length cs). zero-is (get_or cs i (pos 0)) (turned_not (is_level (get_or cs i (pos 0))) true (prefix_len_passes is_zero cs i (pos 0) (omega arith))) in
    ap bits (pass s.runs s.levels 0 (length cs) cs (omega arith) zero
    ∙ ap (ac_elements s.runs s.levels (0 + length cs)) (drop_of_length-le cs {i = length cs} (omega arith)))

pub acs-first-fits : {t : WriterAcs} → t ≡ first_acs → AcFits t
acs-first-fits e = rw e (record { runs = run_book-in-use 4; levels = level_book-in-use 1 })

-- the words of a run and a level; z is c as the code reads it
pub ac-words : (s : WriterAcs) (run : ℕ) {z c : ℤ} {v w : Word} → z ≡ c → WordOf (code s.runs run) v
    → WordOf (code s.levels (nat_abs z - 1) ++ (is_negative z ∷ [])) w → word_bits v ++ word_bits w ≡ ac_bits s run c
ac-words s run e v w = ap₂ ◌++◌ v.is w.is ∙ ap (ac_bits s run) e
