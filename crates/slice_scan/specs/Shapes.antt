-- What the slice scan asks of its callers, and what its loops promise one another.
use Rattle.std.specs.Prelude.{◌≡◌, List, ℕ, ◌+◌, ◌*◌, ◌≤◌, ◌<◌, ℤ, pos, length, get_or}

-- a component to scan: c blocks from off on, of the per blocks of each of mbs macroblocks
pub record Shape (mbs per off c nblocks nout : ℕ) : Type 0 where
  pub some-mbs : 1 ≤ mbs
  pub few-mbs : mbs ≤ 8
  pub some-c : 1 ≤ c
  pub inside : off + c ≤ per
  pub few-per : per ≤ 12
  pub long-blocks : nblocks ≡ 64 * (mbs * per)
  pub long-out : nout ≡ 64 * (mbs * c)

-- three scanned lists to place, and the list of their blocks
pub record Lists (mbs c ny ncb ncr nout : ℕ) : Type 0 where
  pub some-mbs : 1 ≤ mbs
  pub few-mbs : mbs ≤ 8
  pub some-c : 1 ≤ c
  pub few-c : c ≤ 4
  pub long-y : ny ≡ 64 * (mbs * 4)
  pub long-cb : ncb ≡ 64 * (mbs * c)
  pub long-cr : ncr ≡ 64 * (mbs * c)
  pub long-out : nout ≡ 64 * (mbs * (4 + 2 * c))

-- every entry of a scan is a scanned index
pub record Indices (scan : List ℕ) : Type 0 where
  pub below : (k : ℕ) → k < 64 → get_or scan k 0 < 64

-- new has f 0, .., f (n - 1) from d on, and before d it is old. What stands behind them is left open: the next ones are laid there.
pub record Laid (f : ℕ → ℤ) (d n : ℕ) (old new : List ℤ) : Type 0 where
  pub long : length new ≡ length old
  pub kept : (k : ℕ) → k < d → get_or new k (pos 0) ≡ get_or old k (pos 0)
  pub laid : (k : ℕ) → k < n → get_or new (d + k) (pos 0) ≡ f k
