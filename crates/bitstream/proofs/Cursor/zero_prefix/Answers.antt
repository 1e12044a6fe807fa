-- `bitstream::Cursor::zero_prefix` meets its contract.
use mathlib.Core.Path.{sym, ◌∙◌}
use native.Mathlib.Omega.{arith}
use Rattle.bitstream.specs.Reading.{zero_prefix}
use Rattle.bitstream.proofs.ReadLaws.{outcome_at-fits, outcome_at-long}
use Rattle.bitstream.proofs.Cursor.zero_prefix.Goals as goal

pub returns-then-payload-gt-PAYLOAD_LIMIT : goal.returns-then-payload-gt-PAYLOAD_LIMIT
returns-then-payload-gt-PAYLOAD_LIMIT c = let a = c.args in sym (outcome_at-long (zero_prefix a.cap) a.payload.now a.self.at c.if-payload-gt-PAYLOAD_LIMIT.true)

pub returns : goal.returns
returns c =
    let a = c.args in
    c.zeros_at.ensures ∙ sym (outcome_at-fits (zero_prefix a.cap) a.payload.now a.self.at (omega arith))
