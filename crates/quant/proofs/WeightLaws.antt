-- Laws of a table's flags, in document 01's words: valid is "every weight is 2..63", loaded is "differs".
-- Assumes nothing.
use mathlib.Core.Path.{◌≡◌}
use mathlib.Core.Bool.{true, ◌&&◌}
use mathlib.Core.List.{List}
use mathlib.Core.Logic.{◌↔◌}
use Prim.Native.Nat.{ℕ, ◌≤◌, ◌<◌}
use native.Mathlib.Omega.{arith}
use lib.Dec.{leb}
use lib.ListN.{length, get_or}
use Rattle.std.proofs.lemmas.Bool.Decides.{nat_tests, Decides-not}
use Rattle.std.proofs.lemmas.List.Elements.{All-get_or, All-from_get_or}
use Rattle.std.proofs.lemmas.List.Sums.{AllPass-from_list_all, list_all-from_AllPass}
use Rattle.std.proofs.lemmas.Slice.Eq.{bytes_eq-Decides}
use Rattle.quant.specs.Tables.{fours}
use Rattle.quant.specs.Weights.{valid_table, loads_luma, loads_chroma}
use Rattle.quant.specs.declared.QuantMatrices.{QuantMatrices}

-- ---- valid exactly if all weights are 2..63

abbrev Valid : ℕ → Type 0
Valid w = (leb 2 w && leb w 63) ≡ true

pub valid-each : (l : List ℕ) → valid_table l ≡ true → (k : ℕ) → k < length l → (2 ≤ get_or l k 0) × (get_or l k 0 ≤ 63)
unfolding valid_table
valid-each l e k h = grind (arith, nat_tests, All-get_or Valid l k 0 h (AllPass-from_list_all _ l e))

pub each-valid : (l : List ℕ) → ((k : ℕ) → k < length l → (2 ≤ get_or l k 0) × (get_or l k 0 ≤ 63)) → valid_table l ≡ true
unfolding valid_table
each-valid l f = list_all-from_AllPass _ l (All-from_get_or Valid l 0 (λ k h. grind (arith, nat_tests, f k h)))

-- ---- loaded exactly if the table differs

pub loads-luma : (m : QuantMatrices) → (loads_luma m ≡ true) ↔ (m.luma ≡ fours → ⊥)
unfolding loads_luma
loads-luma m = Decides-not _ (bytes_eq-Decides m.luma fours)

pub loads-chroma : (m : QuantMatrices) → (loads_chroma m ≡ true) ↔ (m.chroma ≡ m.luma → ⊥)
unfolding loads_chroma
loads-chroma m = Decides-not _ (bytes_eq-Decides m.chroma m.luma)
