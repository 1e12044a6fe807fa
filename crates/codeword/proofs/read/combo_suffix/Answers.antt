-- `codeword::read::combo_suffix` meets its contract: each return is a case of `read_suffix`.
use mathlib.Core.Path.{sym, ap, ◌∙◌}
use Prim.Native.Nat.{ℕ, ◌+◌, ◌-◌, ◌*◌, ◌^◌, ◌≤◌}
use native.Mathlib.Nat.{mul-le-mul}
use native.Mathlib.Omega.{arith}
use lib.Pow.{pow_mono}
use Rattle.answers.specs.Reading.{Reader}
use Rattle.bitstream.specs.Told.{outcome_at}
use Rattle.bitstream.proofs.ReadLaws.{outcome_at-long}
use Rattle.codeword.specs.Codewords.{read_suffix}
use Rattle.codeword.specs.declared.Codebook.TheVariants.{RiceExp}
use Rattle.codeword.proofs.ReadCodeLaws.{read_suffix-low, read_suffix-high}
use Rattle.codeword.proofs.AnswerLaws.{wide-told, heavy-told}
use Rattle.codeword.proofs.read.combo_suffix.Goals as goal

-- ---- at most last_q zeros

pub returns-then-payload-gt-PAYLOAD_LIMIT : goal.returns-then-payload-gt-PAYLOAD_LIMIT
returns-then-payload-gt-PAYLOAD_LIMIT c =
    let a = c.args in
    sym (outcome_at-long (read_suffix (RiceExp a.last_q a.r a.e) a.q) a.payload.now a.c.at c.if-payload-gt-PAYLOAD_LIMIT.true)

pub returns-then-r-gt32 : goal.returns-then-r-gt32
returns-then-r-gt32 c =
    let a = c.args in
    wide-told a.payload.now a.c.at a.r (a.q * 2 ^ a.r) (omega arith) (omega arith)
    ∙ ap (λ (m : Reader). outcome_at m a.payload.now a.c.at) (sym (read_suffix-low a.last_q a.r a.e a.q (omega arith)))

pub returns-then-q-last_q : goal.returns-then-q-last_q
returns-then-q-last_q c =
    let a = c.args in
    (rw (c.from.ensures, c.pow2.ensures) at c.read_suffix.ensures)
    ∙ ap (λ (m : Reader). outcome_at m a.payload.now a.c.at) (sym (read_suffix-low a.last_q a.r a.e a.q (omega arith)))

-- ---- more zeros

pub returns-then-r-gt31 : goal.returns-then-r-gt31
returns-then-r-gt31 c =
    let a = c.args in
    let w : ℕ = a.q - (a.last_q + 1) + a.e in
    let one : 1 ≤ a.last_q + 1 = omega arith in
    let wide : 32 ≤ a.r = omega arith in
    let big : 1 * 2 ^ 32 ≤ (a.last_q + 1) * 2 ^ a.r = mul-le-mul one (pow_mono wide) in
    c.exp_suffix.ensures
    ∙ heavy-told a.payload.now a.c.at w (2 ^ 32 + (2 ^ w - 2 ^ a.e)) ((a.last_q + 1) * 2 ^ a.r + (2 ^ w - 2 ^ a.e)) (omega arith) (omega arith)
    ∙ ap (λ (m : Reader). outcome_at m a.payload.now a.c.at) (sym (read_suffix-high a.last_q a.r a.e a.q (omega arith)))

pub returns : goal.returns
returns c =
    let a = c.args in
    (rw (c.from-2.ensures, c.pow2-2.ensures) at c.exp_suffix-2.ensures)
    ∙ ap (λ (m : Reader). outcome_at m a.payload.now a.c.at) (sym (read_suffix-high a.last_q a.r a.e a.q (omega arith)))
