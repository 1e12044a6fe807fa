-- `entropy_reading::PayloadReader::see` meets its contract.
use Prim.Native.Nat.{ℕ}
use mathlib.Core.Path.{sym, subst}
use native.Mathlib.Omega.{arith}
use lib.ListN.{drop}
use Rattle.bitstream.specs.Bits.{bits_of}
use Rattle.bitstream.specs.Windows.{shown, Shows}
use Rattle.bitstream.proofs.PlaceLaws.{word-shows}
use Rattle.entropy_reading.proofs.ShownLaws.{pair-short, pair-shown}
use Rattle.entropy_reading.proofs.PayloadReader.see.Goals as goal

pub overflow_add-used : goal.overflow_add-used
overflow_add-used c =
    record {
      fits = omega (
        arith,
        pair-short (bits_of c.args.self.now.payload.now) c.args.s c.requires.books c.window-w.result c.peek-run.result c.peek-level.result c.peek-run.ensures
            c.peek-level.ensures,
      );
    }

pub overflow_add-used-2 : goal.overflow_add-used-2
overflow_add-used-2 c =
    record {
      fits = omega (
        arith,
        pair-short (bits_of c.args.self.now.payload.now) c.args.s c.requires.books c.window-w.result c.peek-run.result c.peek-level.result c.peek-run.ensures
            c.peek-level.ensures,
      );
    }

pub returns : goal.returns
returns c =
    let s = c.args.s in
    let p = c.args.self.now.payload.now in
    let B = bits_of p in
    let shows = subst (λ (x : ℕ). Shows shown x (drop s.at B)) (sym c.window-w.ensures) (word-shows p s.at c.if-self-s.false) in
    pair-shown B s c.requires.books c.window-w.result c.peek-run.result c.peek-level.result c.peek-run.ensures c.peek-level.ensures shows c.if-used-gt-SHOWN.false
