use mathlib.Core.Path.{refl, sym, ◌∙◌}
use Prim.Native.Nat.{◌+◌}
use native.Mathlib.Omega.{arith}
use lib.IntN.{pos}
use lib.ListN.{length, length-drop}
use Rattle.std.proofs.lemmas.List.{get_or-drop}
use Rattle.std.proofs.lemmas.Slice.{between_to_end}
use Rattle.bitstream_writer.proofs.PassLaws.{laying-start, laying-more, laying-last, laying-room}
use Rattle.entropy_elements.proofs.RangeLaws.{nat_abs-in_range}
use Rattle.entropy_writing.proofs.WritingLaws.{level_there, acs-next, acs-end, acs-first-fits, acs-fits}
use Rattle.entropy_writing.proofs.Coefficients.acs.Goals as goal

pub loop-zeros-init : goal.loop-zeros-init
loop-zeros-init g c =
    let f = c.args.self.now.encodable in
    let cs = c.args.self.now.list.now in
    let first = c.first_acs-s.ensures in
    let rest = between_to_end cs c.args.self.now.blocks (length cs) (omega arith) in
    record {
      fits = acs-first-fits first;
      few = rw rest (omega (arith, length-drop c.args.self.now.blocks cs, f.full, f.few));
      small = λ i. rw (rest, get_or-drop c.args.self.now.blocks cs i (pos 0)) (nat_abs-in_range cs (c.args.self.now.blocks + i) f.small);
      laying = rw (rest, first) (laying-start g.met.P.Pass.laws c.args.out.now c.args.start _);
    }

pub ac-at-requires : goal.ac-at-requires
ac-at-requires g c =
    let l = c.loop-zeros in
    let n = c.in-Some.zeros in
    let is = sym c.zeros.ensures ∙ c.in-Some.is in
    let next = acs-next l.rest.now n l.invariant.small is l.s refl in (
      l.invariant.fits,
      level_there l.rest.now n l.invariant.small is,
      rw l.auto.out (laying-room g.met.P.Pass.laws l.invariant.laying _ _ next (omega arith) c.requires),
    )

pub acs_after-s-requires : goal.acs_after-s-requires
acs_after-s-requires g c =
    let l = c.loop-zeros in
    level_there l.rest.now c.in-Some.zeros l.invariant.small (sym c.zeros.ensures ∙ c.in-Some.is)

pub loop-zeros-preserved : goal.loop-zeros-preserved
loop-zeros-preserved g c =
    let l = c.loop-zeros in
    let n = c.in-Some.zeros in
    let after = c.acs_after-s.ensures in
    let is = sym c.zeros.ensures ∙ c.in-Some.is in
    let next = acs-next l.rest.now n l.invariant.small is l.s after in
    let rest = between_to_end l.rest.now (n + 1) (length l.rest.now) (omega arith) in
    record {
      fits = acs-fits l.rest.now n l.invariant.small is after;
      few = rw rest (omega (arith, length-drop (n + 1) l.rest.now, l.invariant.few));
      small = λ i. rw (rest, get_or-drop (n + 1) l.rest.now i (pos 0)) (l.invariant.small (n + 1 + i));
      laying = rw rest (laying-more g.met.P.Pass.laws l.invariant.laying _ _ next c.ac-at.ensures);
    }

pub returns : goal.returns
returns g c =
    let l = c.loop-zeros in
    laying-last g.met.P.Pass.laws l.invariant.laying (acs-end l.s l.rest.now (sym c.zeros.ensures ∙ c.in_default.is))
