use mathlib.Core.Path.{refl, sym, ◌∙◌}
use native.Mathlib.Omega.{arith}
use lib.ListN.{length, length-drop}
use Rattle.std.proofs.lemmas.Bool.{eqb-true}
use Rattle.std.proofs.lemmas.Slice.{between_to_end}
use Rattle.bitstream_writer.proofs.PassLaws.{laying-start, laying-last, word-more, word-room}
use Rattle.alpha_writing.proofs.RangeLaws.{range_drop}
use Rattle.alpha_writing.proofs.WritingLaws.{start-zero, code-start, code-end}
use Rattle.alpha_writing.proofs.code.Goals as goal

pub loop-rest-init : goal.loop-rest-init
loop-rest-init g c =
    let a = c.args in
    let start = c.start-prev.ensures in
    record {
      few = c.requires.0;
      small = c.requires.1;
      carried = omega (arith, start-zero c.start-prev.result start);
      laying = rw (code-start a.kind c.start-prev.result a.samples.now start) (laying-start g.met.P.Pass.laws a.out.now 0 _);
    }

pub put-at-requires : goal.put-at-requires
put-at-requires g c =
    let l = c.loop-rest in
    let pair = c.pair_of-pair.ensures in
    let word = c.pair_of-pair.result.word in
    let laws = g.met.P.Pass.laws in
    (omega (arith, pair.short), rw l.auto.out (laws.less (omega arith) (word-room laws l.invariant.laying _ _ pair.is word refl (omega arith) c.requires.2)))

pub offset_bounds-rest-pair : goal.offset_bounds-rest-pair
offset_bounds-rest-pair g c = omega (arith, c.pair_of-pair.ensures.inside, c.loop-rest.invariant.few)

pub loop-rest-preserved : goal.loop-rest-preserved
loop-rest-preserved g c =
    let l = c.loop-rest in
    let r = c.pair_of-pair.result in
    let s = c.pair_of-pair.ensures in
    let rest = between_to_end l.rest.now r.run (length l.rest.now) (omega arith) in
    record {
      few = rw rest (omega (arith, length-drop r.run l.rest.now, l.invariant.few));
      small = rw rest (range_drop c.args.kind r.run l.rest.now l.invariant.small);
      carried = s.carried;
      laying = rw rest (word-more g.met.P.Pass.laws l.invariant.laying _ _ s.is _ refl c.put-at.ensures);
    }

pub returns : goal.returns
returns g c =
    let l = c.loop-rest in
    laying-last g.met.P.Pass.laws l.invariant.laying (code-end c.args.kind l.prev l.rest.now (eqb-true _ 0 (sym c.is_empty.ensures ∙ c.loop-rest-test.false)))
