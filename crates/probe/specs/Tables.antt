-- What an entry of a block scan is: a result and a number. A selector that is unknown names no tables, so a call is refused exactly where the table that
-- it asks for has no such entry.
use Rattle.std.specs.Prelude.{ℕ, true, false, cond, List, [], ◌∷◌, ltb, length, get_or}
use Rattle.quant.specs.Scans.{scan_of, inv_of}
use Rattle.probe.specs.Numbers.{Number}

-- ---- an entry

abbrev pub unknown_entry : Number
unknown_entry = record { result = 13; value = 0 }

unfoldable pub entry_at : List ℕ → ℕ → Number
entry_at t i = cond (ltb i (length t)) (record { result = 0; value = get_or t i 0 }) unknown_entry

-- of the table of that number
abbrev pub entry_of : List (List ℕ) → ℕ → ℕ → Number
entry_of ts n i = entry_at (get_or ts n []) i

-- ---- the tables

abbrev pub two : List ℕ → List ℕ → List (List ℕ)
two t u = t ∷ u ∷ []

-- 0 progressive, 1 interlaced; of each the scan, then its inverse
abbrev pub scans : List (List (List ℕ))
scans = two (scan_of false) (inv_of false) ∷ two (scan_of true) (inv_of true) ∷ []

unfoldable pub scan_tables : ℕ → List (List ℕ)
scan_tables n = get_or scans n []
