-- `bitstream::fields::ended_at` meets its contract.
use mathlib.Core.Path.{sym, ap, ap₂, ◌∙◌}
use mathlib.Core.Bool.{Bool, ◌&&◌}
use Prim.Native.Nat.{ℕ, ◌+◌, ◌-◌, ◌/◌, ◌%◌, ◌^◌}
use native.Mathlib.Omega.{arith}
use lib.ListN.{drop, get_or}
use borrow.Author.Tests.{eq-eqb, ne_eqb}
use Rattle.bitstream.specs.Bits.{bits_of, ended}
use Rattle.bitstream.proofs.PlaceLaws.{ended_at, ended-past, ended_all}
use Rattle.bitstream.proofs.fields.ended_at.Goals as goal

pub returns-then-payload-i : goal.returns-then-payload-i
returns-then-payload-i c = let a = c.args in sym (ended-past a.payload.now a.p c.if-payload-i.true)

pub returns-then-from-pow2-ne0 : goal.returns-then-from-pow2-ne0
returns-then-from-pow2-ne0 c =
    let a = c.args in
    let s = a.payload.now in
    let p = a.p in
    let e = ap₂ (λ (x y : ℕ). x % y) c.from.ensures c.pow2.ensures in
    sym (ended_at s p (omega arith)
    ∙ ap (λ (t : Bool). t && ended (bits_of (drop (p / 8 + 1) s))) (ne_eqb (get_or s (p / 8) 0 % 2 ^ (8 - p % 8)) 0 (λ z. c.if-from-pow2-ne0.true (e ∙ z))))

pub returns : goal.returns
returns c =
    let a = c.args in
    let s = a.payload.now in
    let p = a.p in
    let e = ap₂ (λ (x y : ℕ). x % y) c.from.ensures c.pow2.ensures in
    c.zero_from.ensures
    ∙ ended_all s (p / 8 + 1) (λ k. (c.type_inv.payload k).fits)
    ∙ sym (ended_at s p (omega arith)
    ∙ ap (λ (t : Bool). t && ended (bits_of (drop (p / 8 + 1) s))) (eq-eqb (get_or s (p / 8) 0 % 2 ^ (8 - p % 8)) 0 (sym e ∙ c.if-from-pow2-ne0.false)))
