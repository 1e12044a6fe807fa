-- A list whose places from one on are 0, and a store among them.
-- Assumes nothing.
use Prim.Native.Nat.{ℕ, zero, suc, ◌+◌, ◌-◌, ◌≤◌, ◌<◌}
use native.Mathlib.Numerals.{add-one}
use native.Mathlib.Omega.{arith}
use mathlib.Core.Path.{◌≡◌, refl, sym, ap, ◌∙◌}
use mathlib.Core.List.{List, [], ◌∷◌, ◌++◌, append_assoc}
use lib.IntN.{ℤ, pos}
use lib.ListN.{length, take, drop, set, length-set}
use lib.Seq.{take-suc-set, take-add, drop-drop, drop-set-lt}
use Rattle.entropy_elements.specs.Decoding.{nil}
use Rattle.entropy_steps.specs.Standing.{ZeroBehind}

take-nil : (k n : ℕ) → k ≤ n → take k (nil n) ≡ nil k
take-nil zero n h = refl
take-nil (suc k) zero h = absurd (omega arith)
take-nil (suc k) (suc n) h = ap {B = List ℤ} (λ l. pos 0 ∷ l) (take-nil k n (omega arith))

drop-nil : (k n : ℕ) → drop k (nil n) ≡ nil (n - k)
drop-nil zero n = let e : n ≡ n - 0 = omega arith in ap nil e
drop-nil (suc k) zero = let e : 0 ≡ 0 - suc k = omega arith in ap nil e
drop-nil (suc k) (suc n) = let e : n - k ≡ suc n - suc k = omega arith in drop-nil k n ∙ ap nil e

module _ {total place : ℕ} {out : List ℤ} (z : ZeroBehind total place out) (i : ℕ) (v : ℤ) (low : place ≤ i) (high : i < total) where
  pub take_put : take (i + 1) (set out i v) ≡ take place out ++ (nil (i - place) ++ (v ∷ []))
  take_put =
      let long : length out ≡ total = z.long in
      let e : i ≡ place + (i - place) = omega arith in
      let b : take (i - place) (drop place out) ≡ nil (i - place) = ap (take (i - place)) z.behind ∙ take-nil (i - place) (total - place) (omega arith) in
      ap (λ (n : ℕ). take n (set out i v)) (add-one i)
      ∙ take-suc-set out i v (omega arith)
      ∙ ap (λ (l : List ℤ). l ++ (v ∷ [])) (ap (λ (n : ℕ). take n out) e ∙ take-add place (i - place) out ∙ ap (λ (l : List ℤ). take place out ++ l) b)
      ∙ append_assoc (take place out) (nil (i - place)) (v ∷ [])

  pub zero-put : ZeroBehind total (i + 1) (set out i v)
  zero-put =
      let e : i + 1 ≡ place + (i + 1 - place) = omega arith in
      let f : total - place - (i + 1 - place) ≡ total - (i + 1) = omega arith in
      record {
        behind =
            drop-set-lt (i + 1) out i v (omega arith)
            ∙ ap (λ (n : ℕ). drop n out) e
            ∙ sym (drop-drop (i + 1 - place) place out)
            ∙ ap (drop (i + 1 - place)) z.behind
            ∙ drop-nil (i + 1 - place) (total - place)
            ∙ ap nil f;
        long = length-set out i v ∙ z.long;
      }
