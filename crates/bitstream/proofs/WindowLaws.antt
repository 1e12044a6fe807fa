-- Laws of a word that shows the first bits: fewer of them, those behind some, and what may be read of it: a bit, a prefix of zeros.
-- Assumes nothing.
use mathlib.Core.Path.{◌≡◌, sym, ap, ap₂, ◌∙◌, subst}
use mathlib.Core.Bool.{Bool, true}
use mathlib.Core.List.{List, [], ◌∷◌, ◌++◌, append_assoc}
use Prim.Native.Nat.{ℕ, ◌+◌, ◌-◌, ◌*◌, ◌/◌, ◌%◌, ◌^◌, ◌≤◌, ◌<◌}
use native.Mathlib.Nat.{mod-lt, pow-suc}
use native.Mathlib.Omega.{arith}
use lib.ListN.{length, take, drop, length-drop, take-append-drop}
use lib.Seq.{take-take, take-add, length-take-le}
use lib.Dec.{eqb}
use lib.Count.{count_leading_zeros, leading_top}
use lib.Pow as P
use lib.Pow.{pow_pos, shl-shr, shr-shr, high, low}
use Rattle.common.proofs.Numbers.{shl-mod}
use Rattle.bitstream.specs.Bits.{field, number, zeros}
use Rattle.answers.specs.Reading.{got}
use Rattle.bitstream.specs.Windows.{Shows}
use Rattle.bitstream.proofs.FieldLaws.{field-widen, number_lt, field-number, number_append, number-take}
use Rattle.bitstream.proofs.ReadLaws.{read_field-all}
use Rattle.bitstream.proofs.AnswerLaws.{bit-some}

-- the first a bits and m behind them, as numbers
pub number-take-add : (a m : ℕ) (bs : List Bool) → a + m ≤ length bs → number (take (a + m) bs) ≡ number (take a bs) * 2 ^ m + number (take m (drop a bs))
number-take-add a m bs h =
    ap number (take-add a m bs) ∙ number_append (take a bs) (take m (drop a bs))
    ∙ ap (λ (k : ℕ). number (take a bs) * 2 ^ k + number (take m (drop a bs))) (length-take-le m (drop a bs) (omega (arith, length-drop a bs)))

number-take-below : (m : ℕ) (bs : List Bool) → m ≤ length bs → number (take m bs) < 2 ^ m
number-take-below m bs h = subst (λ (k : ℕ). number (take m bs) < 2 ^ k) (length-take-le m bs h) (number_lt (take m bs))

module _ (n w : ℕ) (bs : List Bool) (s : Shows n w bs) (narrow : n ≤ 64) where
  pub shows-take : (m : ℕ) → m ≤ n → w / 2 ^ (64 - m) ≡ number (take m bs)
  shows-take m h =
      let e : 64 - m ≡ 64 - n + (n - m) = omega arith in
      let len : length (take n bs) ≡ m + (n - m) = length-take-le n bs s.long ∙ omega arith in
      ap (λ (k : ℕ). w / 2 ^ k) e ∙ sym (shr-shr w (64 - n) (n - m))
      ∙ ap (λ (x : ℕ). x / 2 ^ (n - m)) s.is
      ∙ number-take (take n bs) m (n - m) len
      ∙ ap number (take-take m n bs h)

  -- behind the first a bits
  pub shows-on : (a : ℕ) → a ≤ n → Shows (n - a) ((w * 2 ^ a) % 2 ^ 64) (drop a bs)
  shows-on a h =
      let m : ℕ = n - a in
      let k : ℕ = 64 - n in
      let all : 64 ≡ 64 - a + a = omega arith in
      let upper : 64 - a ≡ m + k = omega arith in
      let lower : 64 - m ≡ a + k = omega arith in
      let whole : n ≡ a + m = omega arith in
      let rest : number (take m (drop a bs)) < 2 ^ m = number-take-below m (drop a bs) (omega (arith, length-drop a bs, s.long)) in
      record {
        fits = mod-lt (w * 2 ^ a) (pow_pos 64);
        long = omega (arith, length-drop a bs, s.long);
        is = ap (λ (x : ℕ). (w * 2 ^ a) % 2 ^ x / 2 ^ (64 - m)) all
            ∙ ap₂ (λ (x y : ℕ). x / 2 ^ y) (shl-mod w (64 - a) a) lower
            ∙ sym (shr-shr (w % 2 ^ (64 - a) * 2 ^ a) a k)
            ∙ ap (λ (x : ℕ). x / 2 ^ k) (shl-shr (w % 2 ^ (64 - a)) a ∙ ap (λ (x : ℕ). w % 2 ^ x) upper)
            ∙ P.field w m k
            ∙ ap (λ (x : ℕ). x % 2 ^ m) (s.is ∙ ap (λ (x : ℕ). number (take x bs)) whole ∙ number-take-add a m bs (omega (arith, s.long)))
            ∙ low (number (take a bs)) m rest;
      }

  pub shows-bit : 0 < n → bs ≡ eqb (w / 2 ^ 63) 1 ∷ drop 1 bs
  shows-bit h = bit-some bs (w / 2 ^ 63) (drop 1 bs) (read_field-all 1 bs (omega (arith, s.long)) ∙ ap (λ (x : ℕ). got x (drop 1 bs)) (sym (shows-take 1 h)))

  -- the leading zeros of w are those before the first 1
  module _ (q : ℕ) (e : q ≡ count_leading_zeros 64 w) (some : 0 < w) (h : q < n) where
    first_one : number (take (q + 1) bs) ≡ 1
    first_one =
        let top = leading_top 64 w some s.fits in
        let j : ℕ = top.0 in
        let k : 64 - (q + 1) ≡ j = omega (arith, top.1) in
        let lo : w - 2 ^ j < 2 ^ j = omega (arith, top.2, top.3, pow-suc 2 j) in
        let sum : w ≡ 1 * 2 ^ j + (w - 2 ^ j) = omega (arith, top.2) in
        sym (shows-take (q + 1) (omega arith)) ∙ ap (λ (x : ℕ). w / 2 ^ x) k ∙ ap (λ (x : ℕ). x / 2 ^ j) sum ∙ high 1 j lo

    pub shows-prefix : bs ≡ zeros q ++ true ∷ drop (q + 1) bs
    unfolding field
    shows-prefix =
        let len : length (take (q + 1) bs) ≡ q + 1 = length-take-le (q + 1) bs (omega (arith, s.long)) in
        let one : take (q + 1) bs ≡ zeros q ++ (true ∷ []) =
        sym (field-number (take (q + 1) bs)) ∙ ap₂ field len first_one ∙ sym (field-widen q 1 1 (omega arith)) in
        sym (take-append-drop (q + 1) bs) ∙ ap (λ (l : List Bool). l ++ drop (q + 1) bs) one ∙ append_assoc (zeros q) (true ∷ []) (drop (q + 1) bs)

    -- m bits behind the 1, with the 1 in front of them
    pub shows-behind : (m : ℕ) → q + 1 + m ≤ n → w / 2 ^ (64 - (q + 1 + m)) ≡ 2 ^ m + number (take m (drop (q + 1) bs))
    shows-behind m l =
        let one : 1 * 2 ^ m ≡ 2 ^ m = omega arith in
        shows-take (q + 1 + m) l ∙ number-take-add (q + 1) m bs (omega (arith, s.long))
        ∙ ap (λ (x : ℕ). x + number (take m (drop (q + 1) bs))) (ap (λ (x : ℕ). x * 2 ^ m) first_one ∙ one)
