-- Laws on `tab`: its length, its elements, and that a list with those elements is it.
-- Assumes nothing.
use mathlib.Core.Path.{◌≡◌, refl, sym, ap, ◌∙◌}
use mathlib.Core.List.{List}
use Prim.Native.Nat.{ℕ, zero, suc, ◌<◌}
use native.Mathlib.Nat.{not-suc-le-zero, le_of_suc-le-suc}
use native.Mathlib.Omega.{arith}
use lib.IntN.{ℤ, pos}
use lib.ListN.{length, get_or}
use lib.Seq.{ext_get_or}
use Rattle.slice_scan.specs.Scan.{tab}

pub length-tab : (n : ℕ) (f : ℕ → ℤ) → length (tab n f) ≡ n
length-tab zero f = refl
length-tab (suc n) f = ap suc (length-tab n (λ k. f (suc k)))

pub tab-at : (n : ℕ) (f : ℕ → ℤ) (k : ℕ) → k < n → get_or (tab n f) k (pos 0) ≡ f k
tab-at zero f k h = absurd (not-suc-le-zero h)
tab-at (suc n) f zero h = refl
tab-at (suc n) f (suc k) h = tab-at n (λ i. f (suc i)) k (le_of_suc-le-suc h)

pub tab-ext : (n : ℕ) (f : ℕ → ℤ) (l : List ℤ) → length l ≡ n → ((k : ℕ) → k < n → get_or l k (pos 0) ≡ f k) → l ≡ tab n f
tab-ext n f l e h =
    ext_get_or (pos 0) l (tab n f) (e ∙ sym (length-tab n f)) (λ k b. h k (omega arith) ∙ sym (tab-at n f k (omega arith)))
