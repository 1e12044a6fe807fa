use mathlib.Core.Path.{refl, ◌∙◌}
use native.Mathlib.Omega.{arith}
use Rattle.bitstream_writer.proofs.WordLaws.{is_word}
use Rattle.bitstream_writer.proofs.PassLaws.{laying-start, laying-at, word-more, word-room}
use Rattle.entropy_writing.proofs.WritingLaws.{item_small, first_fits-in, encode-first, dcs-fits, dcs-next-in, dcs-end-in}
use Rattle.entropy_writing.proofs.Coefficients.dcs.Goals as goal

pub put_word-at-requires : goal.put_word-at-requires
put_word-at-requires g c =
    let a = c.args in
    let start = laying-start g.met.P.Pass.laws a.out.now 0 _ in
    let w = c.first_word.ensures in
    (is_word w, word-room g.met.P.Pass.laws start _ _ (encode-first c.args.self.now.encodable c.requires.0 refl) _ w.is (omega arith) c.requires.1)

pub loop-c-init : goal.loop-c-init
loop-c-init g c =
    let a = c.args in
    let first = c.first_dcs-s.ensures in
    let start = laying-start g.met.P.Pass.laws a.out.now 0 _ in
    record {
      fits = first_fits-in c.args.self.now.encodable first;
      laying = word-more g.met.P.Pass.laws start _ _ (encode-first c.args.self.now.encodable c.requires.0 first) _ c.first_word.ensures.is c.put_word-at.ensures;
    }

pub dc_word-requires : goal.dc_word-requires
dc_word-requires g c = (c.loop-c.invariant.fits, item_small c.args.self.now.encodable 1 _ c.loop-c.c-index c.loop-c-test.true)

pub put_word-at-requires-in-loop-c : goal.put_word-at-requires-in-loop-c
put_word-at-requires-in-loop-c g c =
    let l = c.loop-c in
    let w = c.dc_word.ensures in
    let kept = l.auto.out ∙ c.put_word-at.auto.out in
    (is_word w, rw kept (word-room g.met.P.Pass.laws l.invariant.laying _ _ (dcs-next-in c.args.self.now.encodable l.c-index l.s c.loop-c-test.true refl) _ w.is (omega arith) c.requires.1))

pub dc_after-s-requires : goal.dc_after-s-requires
dc_after-s-requires g c = (c.loop-c.invariant.fits, item_small c.args.self.now.encodable 1 _ c.loop-c.c-index c.loop-c-test.true)

pub loop-c-preserved : goal.loop-c-preserved
loop-c-preserved g c =
    let f = c.args.self.now.encodable in
    let l = c.loop-c in
    let h = c.loop-c-test.true in
    let after = c.dc_after-s.ensures in
    record {
      fits = dcs-fits f l.c-index l.s h after;
      laying = word-more g.met.P.Pass.laws l.invariant.laying _ _ (dcs-next-in f l.c-index l.s h after) _ c.dc_word.ensures.is c.put_word-at-in-loop-c.ensures;
    }

pub returns : goal.returns
returns g c =
    let l = c.loop-c in
    laying-at l.invariant.laying (dcs-end-in c.args.self.now.encodable l.c-index l.s c.requires.0 (omega arith))
