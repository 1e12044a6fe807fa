-- `alpha_elements::arguments::test` meets its contract: what is left where nothing is refused.
use native.Mathlib.Omega.{arith}
use mathlib.Core.Path.{sym}
use Rattle.alpha_elements.proofs.ArgumentLaws.{arguments-taken}
use Rattle.alpha_elements.proofs.arguments.test.Goals as goal

pub returns-else-payload-gt-PAYLOAD_LIMIT : goal.returns-else-payload-gt-PAYLOAD_LIMIT
returns-else-payload-gt-PAYLOAD_LIMIT c =
    let a = c.args in
    sym (arguments-taken a.kind a.samples a.payload (sym c.in_ok-chosen.ensures) (omega arith) (omega arith))
