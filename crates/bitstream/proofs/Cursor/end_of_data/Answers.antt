-- `bitstream::Cursor::end_of_data` meets its contract.
use mathlib.Core.Path.{sym, ◌∙◌}
use Rattle.bitstream.proofs.PlaceLaws.{word_some}
use Rattle.bitstream.proofs.Cursor.end_of_data.Goals as goal

pub returns-then-window-ne0 : goal.returns-then-window-ne0
returns-then-window-ne0 c =
    let w = c.before in
    let a = w.args in
    sym (word_some a.payload.now a.self.at w.if-payload-at.false (λ z. c.if-window-ne0.true (w.window.ensures ∙ z)))
