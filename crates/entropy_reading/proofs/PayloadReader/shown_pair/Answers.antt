-- `entropy_reading::PayloadReader::shown_pair` meets its contract.
use Prim.Native.Nat.{◌*◌}
use mathlib.Core.Path.{sym}
use native.Mathlib.Omega.{arith}
use Rattle.std.proofs.lemmas.Result.{err_from_is_err_and}
use Rattle.bitstream.specs.Bits.{bits_of}
use Rattle.bitstream.proofs.BitsLaws.{length-bits}
use Rattle.entropy_reading.proofs.ShownLaws.{shown-far, shown-room, shown-on}
use Rattle.entropy_reading.proofs.PayloadReader.shown_pair.Goals as goal

pub overflow_add-mid : goal.overflow_add-mid
overflow_add-mid c = let r = c.args.self.now in omega (arith, c.requires.1.sign.within, r.fits, length-bits r.payload.now)

pub overflow_add-end : goal.overflow_add-end
overflow_add-end c = let r = c.args.self.now in omega (arith, c.requires.1.sign.within, r.fits, length-bits r.payload.now)

pub overflow_add-end-2 : goal.overflow_add-end-2
overflow_add-end-2 c = let r = c.args.self.now in omega (arith, c.requires.1.sign.within, r.fits, length-bits r.payload.now)

pub returns-in_err-behind : goal.returns-in_err-behind
returns-in_err-behind c =
    let r = c.args.self.now in
    let a = c.args.pair in
    let p = err_from_is_err_and c.from_residual.result c.from_residual.ensures.1 in
    rw (p.1, p.2) (shown-far (bits_of r.payload.now) (64 * r.blocks) c.args.s c.requires.0 a.run a.level a.negative c.requires.1 c.in_err-behind.field-0.0 (sym c.in_err-behind.ensures))

pub level_to-requires : goal.level_to-requires
level_to-requires c =
    let r = c.args.self.now in
    let a = c.args.pair in
    let z = c.in_ok-behind in
    omega (arith, r.few, shown-room (bits_of r.payload.now) (64 * r.blocks) c.args.s c.requires.0 a.run a.level a.negative c.requires.1 z.behind (sym z.ensures))

pub returns : goal.returns
returns c =
    let r = c.args.self.now in
    let a = c.args.pair in
    let z = c.in_ok-behind in
    rw (c.level_to.ensures, c.level_of.ensures) (shown-on (bits_of r.payload.now) (64 * r.blocks) c.args.s c.requires.0 a.run a.level a.negative c.requires.1 z.behind (sym z.ensures))
