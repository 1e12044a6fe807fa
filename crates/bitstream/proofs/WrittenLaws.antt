-- Laws of the answers that every coder shares: what comes of a code and a buffer, where the bits were counted.
-- Assumes nothing.
use Prim.Native.Nat.{ℕ, ◌≤◌, ◌<◌}
use mathlib.Core.Path.{◌≡◌, sym}
use mathlib.Core.Bool.{Bool}
use mathlib.Core.List.{List}
use lib.ListN.{length}
use borrow.Author.Tests.{le-leb, lt-leb}
use Rattle.bitstream.specs.Bytes.{bytes_for, stored}
use Rattle.answers.specs.Answers.{encoding, wrote, needs}
use Rattle.bitstream.specs.Written.{written}

module _ {n : ℕ} (code : List Bool) (old : List ℕ) (counted : n ≡ length code) where
  pub written-room : length old < bytes_for n → encoding (needs (bytes_for n)) old ≡ written code old
  unfolding written
  written-room h = rw (← counted) (sym (simp (lt-leb (bytes_for n) (length old) h)))

  pub written-done : {r : ℕ} {buf : List ℕ} → bytes_for n ≤ length old → r ≡ length code → buf ≡ stored old code
      → encoding (wrote (record { bytes = bytes_for n; bits = r })) buf ≡ written code old
  unfolding written
  written-done h e s = rw (e, s, ← counted) (sym (simp (le-leb (bytes_for n) (length old) h)))
