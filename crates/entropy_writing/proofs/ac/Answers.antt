-- `entropy_writing::ac` meets its contract.
use mir.Facts.{to_z-of_z}
use Rattle.bitstream_writer.proofs.WordLaws.{is_word, pair-length}
use Rattle.entropy_writing.proofs.WritingLaws.{ac-words}
use Rattle.entropy_writing.proofs.ac.Goals as goal

pub put_pair-requires : goal.put_pair-requires
put_pair-requires g c =
    let words = ac-words c.args.s c.args.run (to_z-of_z c.ranges.c) c.run_word.ensures c.level_word.ensures in
    (is_word c.run_word.ensures, is_word c.level_word.ensures, rw (← words, pair-length) at c.requires.2)

pub returns : goal.returns
returns g c = rw (ac-words c.args.s c.args.run (to_z-of_z c.ranges.c) c.run_word.ensures c.level_word.ensures) at c.put_pair.ensures
