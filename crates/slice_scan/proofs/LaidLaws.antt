-- Laws on `Laid`, the invariant and the promise of every loop here: none, one store, equal values, one part behind another, and the whole list.
-- Assumes nothing.
use mathlib.Core.Path.{◌≡◌, refl, ap, ◌∙◌}
use mathlib.Core.List.{List}
use Prim.Native.Nat.{ℕ, ◌+◌, ◌-◌, ◌*◌, ◌<◌}
use native.Mathlib.Nat.{not-suc-le-zero, zero-add, suc-mul}
use native.Mathlib.Numerals.{add-one}
use native.Mathlib.Omega.{arith}
use lib.IntN.{ℤ, pos}
use lib.ListN.{length, set, length-set}
use lib.Seq.{get_or-set_same, get_or-set_other}
use Rattle.slice_scan.specs.Scan.{tab}
use Rattle.slice_scan.specs.Shapes.{Laid}
use Rattle.slice_scan.proofs.TabLaws.{tab-ext}

pub laid_none : (f : ℕ → ℤ) (d : ℕ) (l : List ℤ) → Laid f d 0 l l
laid_none f d l = record { long = refl; kept = λ k h. refl; laid = λ k h. absurd (not-suc-le-zero h) }

pub laid_by : {f g : ℕ → ℤ} {d n : ℕ} {l l₁ : List ℤ} → Laid f d n l l₁ → ((k : ℕ) → k < n → f k ≡ g k) → Laid g d n l l₁
laid_by a e = record { long = a.long; kept = a.kept; laid = λ k h. a.laid k h ∙ e k h }

pub laid_then : {f g : ℕ → ℤ} {d m n : ℕ} {l l₁ l₂ : List ℤ} → Laid f d m l l₁ → Laid g (d + m) n l₁ l₂ → ((k : ℕ) → k < n → g k ≡ f (m + k))
    → Laid f d (m + n) l l₂
laid_then {d = d} {m = m} a b e =
    record {
      long = b.long ∙ a.long;
      kept = λ k h. b.kept k (omega arith) ∙ a.kept k h;
      laid = λ k h. grind (arith, a.laid k, b.kept (d + k), b.laid (k - m), e (k - m));
    }

pub laid-set : {f : ℕ → ℤ} {d n : ℕ} {l l₁ : List ℤ} (v : ℤ) → Laid f d n l l₁ → d + n < length l₁ → v ≡ f n → Laid f d (n + 1) l (set l₁ (d + n) v)
laid-set {f} {d} {n} {l} {l₁} v a h e =
    laid_then a
    (record {
      long = length-set l₁ (d + n) v;
      kept = λ k b. get_or-set_other l₁ (d + n) k v (pos 0) (omega arith);
      laid = λ k b. grind (arith, get_or-set_same l₁ (d + n) v (pos 0) h);
    })
    (λ k b. e ∙ ap f (omega arith))

-- part number m, where each has c places
pub laid-part : {f g : ℕ → ℤ} {d : ℕ} (m : ℕ) {c s : ℕ} {l l₁ l₂ : List ℤ} → Laid f d (m * c) l l₁ → Laid g s c l₁ l₂ → s ≡ d + m * c
    → ((k : ℕ) → k < c → g k ≡ f (m * c + k)) → Laid f d ((m + 1) * c) l l₂
laid-part m a b from e = rw (add-one, suc-mul) (laid_then a (rw from at b) e)

pub laid-tab : {f : ℕ → ℤ} {k n : ℕ} {l l₁ : List ℤ} → Laid f 0 k l l₁ → k ≡ n → length l ≡ n → l₁ ≡ tab n f
laid-tab {f} {n = n} {l₁ = l₁} a e h = tab-ext n f l₁ (a.long ∙ h) (λ i b. rw zero-add at (a.laid i (omega arith)))
