-- One step of the decoder: it reads the element that was written, and a step that moves takes a bit at least.
-- Assumes nothing.
use Prim.Native.Nat.{ℕ, zero, suc, ◌+◌, ◌-◌, ◌^◌, ◌≤◌, ◌<◌}
use native.Mathlib.Omega.{arith}
use mathlib.Core.Path.{◌≡◌, refl, ap, ◌∙◌}
use mathlib.Core.Bool.{Bool, true, false, cond, ◌&&◌}
use mathlib.Core.List.{List, [], ◌∷◌, ◌++◌, append_assoc}
use lib.Dec.{leb, ltb, eqb}
use lib.Pow.{pow_pos}
use lib.IntN.{ℤ, pos, negsuc, nat_abs, ◌-ℤ◌}
use lib.ListN.{length, replicate, length-append}
use borrow.Author.Tests.{le-leb, leb-true, leb-false, le-ltb, lt-ltb, ne_eqb, eqb-true, eqb-false}
use Rattle.common.proofs.Choices.{cond_yes, cond_no}
use Rattle.std.proofs.lemmas.Bool.{and_parts}
use Rattle.bitstream.specs.Bits.{field, ended}
use Rattle.bitstream.specs.Reading.{read_field}
use Rattle.answers.specs.Machine.{moved, stop, refuses, from, rejected, accepted, on_read}
use Rattle.bitstream.proofs.ReadLaws.{read_field-field, field-read_field}
use Rattle.answers.proofs.StepLaws.{on_read-got, Takes, Shrinks, refuses-takes, stop-takes, moved-takes, cond-takes, on_read-takes}
use Rattle.answers.proofs.MachineLaws as M
use Rattle.answers.proofs.EndLaws.{Over, accepted-over, rejected-over, cond_over, from-ends}
use Rattle.codeword_signs.specs.Signs.{is_negative}
use Rattle.alpha_elements.specs.declared.AlphaChannelType.{AlphaChannelType}
use Rattle.alpha_elements.specs.Kinds.{width_of, small_width_of, limit_of}
use Rattle.alpha_elements.specs.Limits.{run_limit}
use Rattle.alpha_elements.specs.Values.{residue}
use Rattle.alpha_elements.specs.Elements.{small_element, escaped_element, alpha_run_element, run_bits, alpha_element_bits, difference_element}
use Rattle.alpha_elements.specs.Decoding.{AlphaState, difference, alpha_run, StepA, difference_to, small_to, difference_step, alpha_run_to, long_to, short_to, run_step, alpha_step, alpha_finish, decode_alpha}
use Rattle.alpha_elements.proofs.KindLaws.{pow_small}
use Rattle.alpha_elements.proofs.ValueLaws.{Previous, signed_is, residue-lt, sample-difference, sample-residue}
use Rattle.alpha_elements.proofs.ElementLaws.{run-one, run_short, run_long}

-- ---- the cases of a run

module _ (left v n : ℕ) (t : List Bool) where
  pub run_to-ok : n ≤ left → alpha_run_to left v n t ≡ moved (difference (left - n) (pos v)) (replicate n v) t
  unfolding alpha_run_to
  run_to-ok h = cond_yes _ _ (le-leb n left h)

module _ (left v f : ℕ) (t : List Bool) where
  pub long_to-low : f < 16 → long_to left v f t ≡ refuses 9
  long_to-low h = cond_yes _ _ (lt-ltb f 16 h)

  pub long_to-run : 16 ≤ f → long_to left v f t ≡ alpha_run_to left v (f + 1) t
  long_to-run h = cond_no _ _ (le-ltb f 16 h)

-- the short form's field is not 0
pub short_to-run : (left v f : ℕ) (t : List Bool) → 0 < f → short_to left v f t ≡ alpha_run_to left v (f + 1) t
short_to-run left v zero t h = absurd (omega arith)
short_to-run left v (suc f) t h = refl

-- ---- one step reads the run that was written

module _ (left v n : ℕ) (t : List Bool) where
  back : 1 < n → alpha_run_to left v (n - 1 + 1) t ≡ alpha_run_to left v n t
  back h = let e : n - 1 + 1 ≡ n = omega arith in ap (λ (i : ℕ). alpha_run_to left v i t) e

  run_step-short : 1 < n → n ≤ 16 → run_step left v (run_bits n ++ t) ≡ alpha_run_to left v n t
  unfolding run_step
  run_step-short h g =
      ap (λ (w : List Bool). run_step left v (w ++ t)) (run_short n h g)
      ∙ on_read-got (λ f u. short_to left v f u) (read_field-field 4 (n - 1) t (omega arith))
      ∙ short_to-run left v (n - 1) t (omega arith)
      ∙ back h

  run_step-long : 16 < n → n ≤ run_limit → run_step left v (run_bits n ++ t) ≡ alpha_run_to left v n t
  unfolding run_step
  run_step-long h g =
      ap (λ (w : List Bool). run_step left v (w ++ t)) (run_long n (omega arith) h)
      ∙ ap (λ (u : List Bool). on_read (read_field 4 u) (λ f u. short_to left v f u)) (append_assoc (field 4 0) (field 11 (n - 1)) t)
      ∙ on_read-got (λ f u. short_to left v f u) (read_field-field 4 0 (field 11 (n - 1) ++ t) (omega arith))
      ∙ on_read-got (λ f u. long_to left v f u) (read_field-field 11 (n - 1) t (omega arith))
      ∙ long_to-run left v (n - 1) t (omega arith)
      ∙ back (omega arith)

  run_step-one : n ≡ 1 → run_step left v (run_bits n ++ t) ≡ alpha_run_to left v n t
  unfolding run_step
  run_step-one e = rw (e, run-one)

  run_step-run_to : 1 ≤ n → n ≤ run_limit → run_step left v (run_bits n ++ t) ≡ alpha_run_to left v n t
  run_step-run_to h g = go (eqb n 1) (leb n 16) refl refl
    where
      up : (n ≡ 1 → ⊥) → 1 < n
      up f = omega arith

      go : (a b : Bool) → eqb n 1 ≡ a → leb n 16 ≡ b → run_step left v (run_bits n ++ t) ≡ alpha_run_to left v n t
      go true b ea eb = run_step-one (eqb-true n 1 ea)
      go false true ea eb = run_step-short (up (eqb-false n 1 ea)) (leb-true n 16 eb)
      go false false ea eb = run_step-long (leb-false n 16 eb) g

pub step_run : (k : AlphaChannelType) (left v n : ℕ) (t : List Bool) → 1 ≤ n → n ≤ run_limit → n ≤ left
    → alpha_step k (alpha_run left v) (alpha_element_bits k (alpha_run_element n) ++ t) ≡ moved (difference (left - n) (pos v)) (replicate n v) t
unfolding alpha_step alpha_element_bits
step_run k left v n t h g l = run_step-run_to left v n t h g ∙ run_to-ok left v n t l

-- ---- one step reads the difference that was written

pub and-true : (a b : Bool) → a && b ≡ true → (a ≡ true) × (b ≡ true)
and-true = and_parts

module _ (k : AlphaChannelType) (left : ℕ) (p : ℤ) (t : List Bool) where
  read_small : (m : ℕ) (g : Bool) → m < limit_of k → difference_step k left p (alpha_element_bits k (small_element m g) ++ t) ≡ small_to k left p m (g ∷ t)
  unfolding difference_step alpha_element_bits
  read_small m g h =
      ap (λ (u : List Bool). on_read (read_field (small_width_of k) u) (λ m u. small_to k left p m u)) (append_assoc (field (small_width_of k) m) (g ∷ []) t)
      ∙ on_read-got (λ m u. small_to k left p m u) (read_field-field (small_width_of k) m (g ∷ t) (omega (arith, pow_small k)))

  read-escaped : (v : ℕ) → v < 2 ^ width_of k → difference_step k left p (alpha_element_bits k (escaped_element v) ++ t) ≡ difference_to k left p (pos v) t
  unfolding difference_step alpha_element_bits
  read-escaped v h = on_read-got (λ v u. difference_to k left p (pos v) u) (read_field-field (width_of k) v t h)

  read-difference : (s : ℕ) → Previous (2 ^ width_of k) p → s < 2 ^ width_of k
      → difference_step k left p (alpha_element_bits k (difference_element k (pos s -ℤ p)) ++ t) ≡ moved (alpha_run left s) [] t
  unfolding difference_element
  read-difference s hp hs = go (leb 1 (nat_abs d) && leb (nat_abs d) (limit_of k)) refl
    where
      d : ℤ
      d = pos s -ℤ p

      go : (c : Bool) → leb 1 (nat_abs d) && leb (nat_abs d) (limit_of k) ≡ c
          → difference_step k left p (alpha_element_bits k (cond c (small_element (nat_abs d - 1) (is_negative d)) (escaped_element (residue (2 ^ width_of k) d))) ++ t) ≡ moved (alpha_run left s) [] t
      go true e =
          let ab = and_parts (leb 1 (nat_abs d)) (leb (nat_abs d) (limit_of k)) e in
          let one : 1 ≤ nat_abs d = leb-true 1 (nat_abs d) ab.0 in
          let lim : nat_abs d ≤ limit_of k = leb-true (nat_abs d) (limit_of k) ab.1 in
          read_small (nat_abs d - 1) (is_negative d) (omega arith)
          ∙ ap (λ (z : ℤ). difference_to k left p z t) (signed_is d one)
          ∙ ap (λ (x : ℕ). moved (alpha_run left x) [] t) (sample-difference k s hs p)
      go false e =
          read-escaped (residue (2 ^ width_of k) d) (residue-lt (2 ^ width_of k) d (pow_pos (width_of k)))
          ∙ ap (λ (x : ℕ). moved (alpha_run left x) [] t) (sample-residue k s hs p hp)

pub step-difference : (k : AlphaChannelType) (left : ℕ) (p : ℤ) (s : ℕ) (t : List Bool) → 0 < left → Previous (2 ^ width_of k) p → s < 2 ^ width_of k
    → alpha_step k (difference left p) (alpha_element_bits k (difference_element k (pos s -ℤ p)) ++ t) ≡ moved (alpha_run left s) [] t
unfolding alpha_step
step-difference k left p s t h hp hs = cond_no _ _ (ne_eqb left 0 (λ e. omega arith)) ∙ read-difference k left p t s hp hs

-- ---- the end

pub step_end : (k : AlphaChannelType) (p : ℤ) (z : List Bool) → alpha_step k (difference 0 p) z ≡ stop
unfolding alpha_step
step_end k p z = refl

module _ (st : AlphaState) (out : List ℕ) (z : List Bool) where
  pub finish-tail : 7 < length z → alpha_finish st out z ≡ rejected 11 z
  unfolding alpha_finish
  finish-tail h = cond_yes _ _ (lt-ltb 7 (length z) h)

  module _ (few : length z ≤ 7) where
    pub finish-padding : ended z ≡ false → alpha_finish st out z ≡ rejected 12 z
    unfolding alpha_finish
    finish-padding e = cond_no _ _ (le-ltb 7 (length z) few) ∙ cond_no _ _ e

    pub finish-ended : ended z ≡ true → alpha_finish st out z ≡ accepted out z
    unfolding alpha_finish
    finish-ended e = cond_no _ _ (le-ltb 7 (length z) few) ∙ cond_yes _ _ e

-- ---- a step that moves takes a bit at least

-- a field, behind the bits of bs that came before it
field-takes : (w : ℕ) (t : List Bool) {d : ℕ} {bs : List Bool} {k : ℕ → List Bool → StepA} → length t + d ≤ length bs → Shrinks k → Takes d bs (on_read (read_field w t) k)
field-takes w t h sh =
    on_read-takes (read_field w t) (λ n u e. omega (arith, ap length (field-read_field w t n u e).0, length-append (field w n) u)) sh

run_to-takes : (left v n : ℕ) (t : List Bool) {d : ℕ} {bs : List Bool} → length t + d ≤ length bs → Takes d bs (alpha_run_to left v n t)
unfolding alpha_run_to
run_to-takes left v n t h = cond-takes (leb n left) (moved-takes h) refuses-takes

long_to-takes : (left v : ℕ) → Shrinks (λ f u. long_to left v f u)
long_to-takes left v f u = cond-takes (ltb f 16) refuses-takes (run_to-takes left v (f + 1) u (omega arith))

short_to-takes : (left v : ℕ) → Shrinks (λ f u. short_to left v f u)
short_to-takes left v zero u = field-takes 11 u (omega arith) (long_to-takes left v)
short_to-takes left v (suc f) u = run_to-takes left v (suc f + 1) u (omega arith)

small_to-takes : (k : AlphaChannelType) (left : ℕ) (p : ℤ) → Shrinks (λ m u. small_to k left p m u)
small_to-takes k left p m [] = refuses-takes
small_to-takes k left p m (g ∷ u) = moved-takes (omega arith)

difference_step-takes : (k : AlphaChannelType) (left : ℕ) (p : ℤ) (bs : List Bool) → Takes 1 bs (difference_step k left p bs)
unfolding difference_step
difference_step-takes k left p [] = refuses-takes
difference_step-takes k left p (true ∷ bs) = field-takes (width_of k) bs (omega arith) (λ n u. moved-takes (omega arith))
difference_step-takes k left p (false ∷ bs) = field-takes (small_width_of k) bs (omega arith) (small_to-takes k left p)

run_step-takes : (left v : ℕ) (bs : List Bool) → Takes 1 bs (run_step left v bs)
unfolding run_step
run_step-takes left v [] = refuses-takes
run_step-takes left v (true ∷ bs) = run_to-takes left v 1 bs (omega arith)
run_step-takes left v (false ∷ bs) = field-takes 4 bs (omega arith) (short_to-takes left v)

pub step-takes : (k : AlphaChannelType) (st : AlphaState) (bs : List Bool) → Takes 1 bs (alpha_step k st bs)
unfolding alpha_step
step-takes k (difference left p) bs = cond-takes (eqb left 0) stop-takes (difference_step-takes k left p bs)
step-takes k (alpha_run left v) bs = run_step-takes left v bs

-- ---- the laws of a reader of elements, at this coder

module _ (k : AlphaChannelType) where
  pub from-moved : (st : AlphaState) (out : List ℕ) (bs : List Bool) (s : AlphaState) (o : List ℕ) (t : List Bool) → alpha_step k st bs ≡ moved s o t
      → from (alpha_step k) alpha_finish st out bs ≡ from (alpha_step k) alpha_finish s (out ++ o) t
  from-moved = M.from-moved (alpha_step k) alpha_finish (step-takes k)

  pub from-stop : (st : AlphaState) (out : List ℕ) (bs : List Bool) → alpha_step k st bs ≡ stop → from (alpha_step k) alpha_finish st out bs ≡ alpha_finish st out bs
  from-stop = M.from-stop (alpha_step k) alpha_finish (step-takes k)

  pub from-refused : (st : AlphaState) (out : List ℕ) (bs : List Bool) (n : ℕ) → alpha_step k st bs ≡ refuses n → from (alpha_step k) alpha_finish st out bs ≡ rejected n bs
  from-refused = M.from-refused (alpha_step k) alpha_finish (step-takes k)

  finish-over : (st : AlphaState) (out : List ℕ) (bs : List Bool) → Over (alpha_finish st out bs)
  unfolding alpha_finish
  finish-over st out bs = cond_over (ltb 7 (length bs)) rejected-over (cond_over (ended bs) accepted-over rejected-over)

  -- a reading never stays under way
  pub decode_alpha-ends : (n : ℕ) (bs : List Bool) → Over (decode_alpha k n bs)
  unfolding decode_alpha
  decode_alpha-ends n bs = from-ends (alpha_step k) alpha_finish (step-takes k) finish-over (difference n (negsuc 0)) [] bs
