-- A further read takes from `input` what it puts behind the bytes that stand in `buf`.
use Rattle.std.proofs.Common.{◌≡◌, ℕ, ◌+◌, ◌≤◌, List, ◌++◌, arith, length, take, sym, ap, ◌∙◌, subst}
use Rattle.std.proofs.KnownBytes.{Consumes-trans}
use Rattle.std.proofs.lemmas.Grind.{common_steps}
use Rattle.std.proofs.lemmas.List.{length-take-le, take-append-le}
use Rattle.std.proofs.Math.Seq.{take-append-add}
use Rattle.std.specs.Io.KnownBytes.{Consumes}
use Rattle.decode.proofs.read_full.Goals as goal

-- what stands in front, and then the start of what was written there
take_two : (a n : ℕ) (xs ys zs : List ℕ) → a ≤ length xs → n ≤ length ys
    → take (a + n) (take a xs ++ (ys ++ zs)) ≡ take a xs ++ take n ys
take_two a n xs ys zs h k =
    ap (λ m. take (m + n) (take a xs ++ (ys ++ zs))) (sym (length-take-le a xs h))
    ∙ take-append-add (take a xs) (ys ++ zs) n
    ∙ ap (λ l. take a xs ++ l) (take-append-le n ys zs k)

pub loop-done-preserved : goal.loop-done-preserved
loop-done-preserved g c = record {
  same_length = grind (arith, common_steps);
  within = grind (arith, common_steps);
  consumed = subst (Consumes _ _)
      (sym (take_two c.loop-done.done c.in_ok-n.n c.loop-done.buf c.read.new.buf _ c.loop-done.invariant.within c.in_ok-n.ensures.bound.0))
      (Consumes-trans _ _ _ _ _ c.loop-done.invariant.consumed c.in_ok-n.ensures.bytes.0);
}
