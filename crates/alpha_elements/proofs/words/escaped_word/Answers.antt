-- `alpha_elements::words::escaped_word` meets its contract: a 1 in front of a field is 2^w more.
use Rattle.alpha_elements.proofs.WordLaws.{escaped-spells}
use Rattle.alpha_elements.proofs.words.escaped_word.Goals as goal

pub returns : goal.returns
returns c =
    rw (c.from.ensures, c.width.ensures, c.mask.ensures) (escaped-spells c.args.kind c.args.raw c.requires)
