-- `codeword::read::exp_suffix` meets its contract.
use mathlib.Core.Path.{sym}
use Prim.Native.Nat.{◌+◌, ◌-◌, ◌^◌, ◌≤◌}
use native.Mathlib.Omega.{arith}
use lib.Pow.{pow_mono}
use Rattle.bitstream.proofs.ReadLaws.{outcome_at-long}
use Rattle.codeword.specs.Codewords.{suffix}
use Rattle.codeword.proofs.AnswerLaws.{wide-told}
use Rattle.codeword.proofs.read.exp_suffix.Goals as goal

pub returns-then-payload-gt-PAYLOAD_LIMIT : goal.returns-then-payload-gt-PAYLOAD_LIMIT
returns-then-payload-gt-PAYLOAD_LIMIT c =
    let a = c.args in
    sym (outcome_at-long (suffix (a.q + a.k) (a.base + (2 ^ (a.q + a.k) - 2 ^ a.k))) a.payload.now a.c.at c.if-payload-gt-PAYLOAD_LIMIT.true)

pub returns-then-k-gt32 : goal.returns-then-k-gt32
returns-then-k-gt32 c =
    let a = c.args in
    wide-told a.payload.now a.c.at (a.q + a.k) (a.base + (2 ^ (a.q + a.k) - 2 ^ a.k)) (omega arith) (omega arith)

pub returns-then-n-gt32 : goal.returns-then-n-gt32
returns-then-n-gt32 c =
    let a = c.args in
    wide-told a.payload.now a.c.at (a.q + a.k) (a.base + (2 ^ (a.q + a.k) - 2 ^ a.k)) (omega arith) (omega arith)

pub overflow_sub-pow2 : goal.overflow_sub-pow2
overflow_sub-pow2 c =
    let a = c.args in
    let h : a.k ≤ a.q + a.k = omega arith in
    omega (arith, pow_mono h)
