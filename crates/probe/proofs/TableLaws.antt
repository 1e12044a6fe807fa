-- Laws of the entries of the block scans, case by case.
-- Assumes nothing.
use mathlib.Core.Path.{◌≡◌, sym, ap, ◌∙◌}
use mathlib.Core.List.{List, []}
use Prim.Native.Nat.{ℕ, ◌≤◌, ◌<◌}
use native.Mathlib.Omega.{arith}
use lib.ListN.{length, get_or, get_or-eq_default}
use borrow.Author.Tests.{lt-ltb, le-ltb}
use Rattle.probe.specs.Tables.{unknown_entry, entry_at, entry_of, scans, scan_tables}
use Rattle.probe.specs.Numbers.{Number}

-- ---- an entry

module _ (t : List ℕ) (i : ℕ) where
  pub entry-within : i < length t → entry_at t i ≡ record { result = 0; value = get_or t i 0 }
  unfolding entry_at
  entry-within h = simp (lt-ltb i (length t) h)

  pub entry_past : length t ≤ i → entry_at t i ≡ unknown_entry
  unfolding entry_at
  entry_past h = simp (le-ltb i (length t) h)

-- there is no table of that number
pub entry-none : (ts : List (List ℕ)) (n i : ℕ) → length ts ≤ n → entry_of ts n i ≡ unknown_entry
entry-none ts n i h = ap (λ (t : List ℕ). entry_at t i) (get_or-eq_default ts [] h) ∙ entry_past [] i (omega arith)

module _ {e : Number} {us : List (List ℕ)} (n i : ℕ) where
  pub entry_in : {ts : List (List ℕ)} → ts ≡ us → e ≡ entry_of ts n i → e ≡ entry_of us n i
  entry_in same is = is ∙ ap (λ (x : List (List ℕ)). entry_of x n i) same

  pub entry-unknown : us ≡ [] → e ≡ unknown_entry → e ≡ entry_of us n i
  entry-unknown none is = entry_in (sym none) (is ∙ sym (entry_past [] i (omega arith)))

pub entry-parts : {e f : Number} → e ≡ f → (e.result ≡ f.result) × (e.value ≡ f.value)
entry-parts is = (ap (λ (x : Number). x.result) is, ap (λ (x : Number). x.value) is)

-- ---- the tables of an unknown selector

pub scan-unknown : (n : ℕ) → 1 < n → scan_tables n ≡ []
unfolding scan_tables
scan-unknown n h = get_or-eq_default scans [] {n = n} (omega arith)
