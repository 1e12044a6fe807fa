-- `cart_bytes::store` meets its contract. The invariant: the first 4 i bytes of out are those of the list.
use Rattle.std.proofs.Common.{◌≡◌, ◌*◌, take}
use Rattle.cart_bytes.specs.Bytes.{bytes_of}
use Rattle.cart_bytes.proofs.store.Given as goal

abbrev pub invariant-loop-i : goal.invariant-loop-i
invariant-loop-i l = take (4 * l.i) l.out ≡ take (4 * l.i) (bytes_of l.list)
