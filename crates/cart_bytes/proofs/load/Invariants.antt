-- `cart_bytes::load` meets its contract. The invariant: the first i numbers of out are those of the bytes.
use Rattle.std.proofs.Common.{◌≡◌, take}
use Rattle.cart_bytes.specs.Bytes.{ints_of}
use Rattle.cart_bytes.proofs.load.Given as goal

abbrev pub invariant-loop-i : goal.invariant-loop-i
invariant-loop-i l = take l.i l.out ≡ take l.i (ints_of l.bytes)
