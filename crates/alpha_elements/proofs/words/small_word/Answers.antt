-- `alpha_elements::words::small_word` meets its contract: a sign behind a field is one digit more.
use Rattle.alpha_elements.proofs.WordLaws.{small-spells}
use Rattle.alpha_elements.proofs.words.small_word.Goals as goal

pub returns : goal.returns
returns c =
    rw (c.small_width.ensures, c.from.ensures, c.from-2.ensures) (small-spells c.args.kind c.args.m c.args.negative c.requires)
