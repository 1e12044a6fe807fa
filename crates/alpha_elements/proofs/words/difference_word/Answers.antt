-- `alpha_elements::words::difference_word` meets its contract: an arm is a case of difference_element.
use Prim.Native.Nat.{◌+◌, ◌-◌, ◌<◌, ◌≤◌}
use native.Mathlib.Omega.{arith}
use Rattle.alpha_elements.specs.Kinds.{limit_of}
use Rattle.alpha_elements.proofs.WordLaws.{up_small, up-far, same, down-small, down-far}
use Rattle.alpha_elements.proofs.words.difference_word.Goals as goal

pub returns-then-m-limit : goal.returns-then-m-limit
returns-then-m-limit c =
    let a = c.args in
    let near : a.v + 1 - a.prev ≤ limit_of a.kind = rw c.limit-limit.ensures at c.if-m-limit.true in
    rw (up_small a.kind a.prev a.v c.if-prev-v.true near) c.small_word.ensures

pub returns-else-m-limit : goal.returns-else-m-limit
returns-else-m-limit c =
    let a = c.args in
    let far : limit_of a.kind < a.v + 1 - a.prev = rw c.limit-limit.ensures at c.if-m-limit.false in
    rw (up-far a.kind a.prev a.v c.if-prev-v.true far) (rw c.mask-turn.ensures at c.escaped_word.ensures)

pub returns-then-m-eq0 : goal.returns-then-m-eq0
returns-then-m-eq0 c =
    let a = c.args in
    rw (same a.kind a.prev a.v c.if-prev-v.false c.if-m-eq0.true) c.escaped_word-then-m-eq0.ensures

pub returns-then-m-limit-2 : goal.returns-then-m-limit-2
returns-then-m-limit-2 c =
    let a = c.args in
    let near : a.prev - 1 - a.v ≤ limit_of a.kind = rw c.limit-limit.ensures at c.if-m-limit-2.true in
    rw (down-small a.kind a.prev a.v c.if-prev-v.false (omega (arith, c.if-m-eq0.false)) near) c.small_word-then-m-limit-2.ensures

pub returns-else-m-limit-2 : goal.returns-else-m-limit-2
returns-else-m-limit-2 c =
    let a = c.args in
    let far : limit_of a.kind < a.prev - 1 - a.v = rw c.limit-limit.ensures at c.if-m-limit-2.false in
    rw (down-far a.kind a.prev a.v c.if-prev-v.false (omega (arith, c.if-m-eq0.false)) c.requires.0 far)
    (rw c.mask-turn.ensures at c.escaped_word-else-m-limit-2.ensures)
