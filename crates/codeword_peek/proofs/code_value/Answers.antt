-- `codeword_peek::code_value` meets its contract.
use Rattle.std.proofs.Common.{◌≡◌, ◌+◌, ◌-◌, ◌*◌, ◌%◌, ◌^◌, ◌≤◌, mod-eq_of_lt, arith}
use Rattle.common.proofs.Numbers.{one_shl}
use Rattle.codeword.specs.Codewords.{width, base}
use Rattle.codeword_peek.specs.Peeks.{as_book}
use Rattle.codeword_peek.proofs.ComboLaws.{value-picked}
use Rattle.codeword_peek.proofs.code_value.Goals as goal
use Rattle.codeword_peek.proofs.code_value.Goals.{After-pick-less}

-- what the two choices come to
chosen : (c : After-pick-less) → let a = c.args in
    (c.pick.result * 2 ^ a.b.r ≤ 96) × (c.pick-less.result ≤ 6) × (2 ^ c.pick-less.result ≤ a.x + c.pick.result * 2 ^ a.b.r)
    × (a.x + c.pick.result * 2 ^ a.b.r - 2 ^ c.pick-less.result ≡ base (as_book a.b) a.q + (a.x - 2 ^ width (as_book a.b) a.q))
chosen c =
    let a = c.args in
    let s = c.requires.0 in
    value-picked a.b.last a.b.r a.b.e a.q s.last s.rice s.exp c.pick.result c.pick-less.result a.x c.pick.ensures c.pick-less.ensures
    c.requires.2

-- the shifts lose nothing
more-is : (c : After-pick-less) → let a = c.args in (c.pick.result * 2 ^ a.b.r) % 2 ^ 32 ≡ c.pick.result * 2 ^ a.b.r
more-is c = mod-eq_of_lt (omega (arith, (chosen c).0))

less-is : (c : After-pick-less) → (1 * 2 ^ c.pick-less.result) % 2 ^ 32 ≡ 2 ^ c.pick-less.result
less-is c = one_shl c.pick-less.result 32 (omega (arith, (chosen c).1))

pub overflow_sub-result : goal.overflow_sub-result
overflow_sub-result c = rw (more-is c, less-is c) (chosen c).2

pub returns : goal.returns
returns c = rw (more-is c, less-is c) (chosen c).3
