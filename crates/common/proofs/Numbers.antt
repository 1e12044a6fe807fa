-- Laws on numbers: powers of two as a machine shifts by them. `one_shl` is the library's.
-- Assumes nothing.
use mathlib.Core.Path.{◌≡◌, sym, ap, ap₂, ◌∙◌}
use Prim.Native.Nat.{ℕ, ◌+◌, ◌*◌, ◌%◌, ◌^◌}
use native.Mathlib.Nat.{add-zero}
use lib.Pow.{pow_pos, mod-pow-add, low, shl-shr}
pub use Rattle.std.proofs.lemmas.Nat.{one_shl}

-- what a shift to the left leaves of v in i + j digits
pub shl-mod : (v i j : ℕ) → (v * 2 ^ j) % 2 ^ (i + j) ≡ v % 2 ^ i * 2 ^ j
shl-mod v i j =
    let none : (v * 2 ^ j) % 2 ^ j ≡ 0 = ap (λ (x : ℕ). x % 2 ^ j) (sym (add-zero (v * 2 ^ j))) ∙ low v j (pow_pos j) in
    mod-pow-add (v * 2 ^ j) i j ∙ ap₂ (λ (a b : ℕ). a % 2 ^ i * 2 ^ j + b) (shl-shr v j) none ∙ add-zero (v % 2 ^ i * 2 ^ j)
