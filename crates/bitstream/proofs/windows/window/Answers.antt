-- `bitstream::windows::window` meets its contract.
use mathlib.Core.Path.{ap}
use Prim.Native.Nat.{ℕ, ◌*◌, ◌%◌, ◌^◌}
use Rattle.bitstream.specs.Windows.{word_at}
use Rattle.bitstream.proofs.windows.window.Goals as goal

pub returns : goal.returns
unfolding word_at
returns c = ap (λ (w : ℕ). (w * 2 ^ (c.args.p % 8)) % 2 ^ 64) c.load8.ensures
