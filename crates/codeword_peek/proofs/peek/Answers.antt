-- `codeword_peek::peek` meets its contract.
use Rattle.std.proofs.Common.{◌≡◌, ℕ, ◌+◌, ◌-◌, ◌/◌, ◌^◌, ◌<◌, ◌≤◌, sym, ap, ◌∙◌, subst, ap₂, arith, le-leb}
use lib.Count.{count_leading_zeros, leading_le}
use borrow.Author.Tests.{lt-leb}
use Rattle.common.proofs.Choices.{cond_yes, cond_no}
use Rattle.bitstream.specs.Windows.{shown}
use Rattle.codeword.specs.Codewords.{width, base}
use Rattle.codeword_peek.specs.Peeks.{length_at, symbol_at, as_book, Small}
use Rattle.codeword_peek.specs.declared.Combo.{Combo}
use Rattle.codeword_peek.specs.declared.Peeked.{Peeked}
use Rattle.codeword_peek.proofs.ComboLaws.{combo-widths, combo-bases, combo-small}
use Rattle.codeword_peek.proofs.PeekLaws.{number_fits}
use Rattle.codeword_peek.proofs.peek.Goals as goal
use Rattle.codeword_peek.proofs.peek.Goals.{After-combo_of-b, After-code_len-len, Else-len-gt-SHOWN, After-code_value}

small : (c : After-combo_of-b) → Small c.combo_of-b.result
small c = subst Small (sym c.combo_of-b.ensures) (combo-small c.args.book c.requires)

pub code_len-len-requires : goal.code_len-len-requires
code_len-len-requires c = (small c, leading_le 64 c.args.w)

-- the suffix's width, and the codeword's length
width_is : (c : After-combo_of-b) → let a = c.args in width (as_book c.combo_of-b.result) (count_leading_zeros 64 a.w) ≡ width a.book (count_leading_zeros 64 a.w)
width_is c =
    let a = c.args in
    ap (λ (b : Combo). width (as_book b) (count_leading_zeros 64 a.w)) c.combo_of-b.ensures ∙ combo-widths a.book (count_leading_zeros 64 a.w)

length-is : (c : After-code_len-len) → c.code_len-len.result ≡ length_at c.args.book c.args.w
unfolding length_at
length-is c = c.code_len-len.ensures ∙ ap (λ (x : ℕ). count_leading_zeros 64 c.args.w + 1 + x) (width_is c.before)

pub returns-then-len-gt-SHOWN : goal.returns-then-len-gt-SHOWN
returns-then-len-gt-SHOWN c =
    let a = c.args in
    ap₂ {C = Peeked} (λ (x y : ℕ). record { len = x; value = y }) (length-is c.before)
    (sym (cond_no (symbol_at a.book a.w) 0 (lt-leb (length_at a.book a.w) shown (omega (arith, length-is c.before, c.if-len-gt-SHOWN.true)))))

-- the codeword's number
number_is : (c : Else-len-gt-SHOWN) → let v = c.args.w in
    (2 ^ width (as_book c.combo_of-b.result) (count_leading_zeros 64 v) ≤ v / 2 ^ (64 - c.code_len-len.result)) × (v / 2 ^ (64 - c.code_len-len.result) < 2 ^ 31)
number_is c =
    let a = c.args in
    rw (width_is c.before.before, length-is c.before) (number_fits a.book c.requires a.w (omega (arith, length-is c.before, c.if-len-gt-SHOWN.false)) c.ranges.w.fits)

pub overflow_cast-x-2 : goal.overflow_cast-x-2
overflow_cast-x-2 c = record { fits = omega (arith, (number_is c).1) }

pub code_value-requires : goal.code_value-requires
code_value-requires c = (small c.before.before, leading_le 64 c.args.w, (number_is c).0, (number_is c).1)

-- the symbol
symbol-is : (c : After-code_value) → c.code_value.result ≡ symbol_at c.args.book c.args.w
unfolding symbol_at
symbol-is c =
    let a = c.args in
    let q = count_leading_zeros 64 a.w in
    let base-is : base (as_book c.combo_of-b.result) q ≡ base a.book q =
    ap (λ (b : Combo). base (as_book b) q) c.combo_of-b.ensures ∙ combo-bases a.book q in
    c.code_value.ensures
    ∙ ap₂ (λ (x y : ℕ). x + (a.w / 2 ^ (64 - c.code_len-len.result) - 2 ^ y)) base-is (width_is c.before.before.before)
    ∙ ap (λ (x : ℕ). base a.book q + (a.w / 2 ^ (64 - x) - 2 ^ width a.book q)) (length-is c.before.before)

pub returns : goal.returns
returns c =
    let a = c.args in
    ap₂ {C = Peeked} (λ (x y : ℕ). record { len = x; value = y }) (length-is c.before.before)
    (symbol-is c ∙ sym (cond_yes (symbol_at a.book a.w) 0 (le-leb (length_at a.book a.w) shown (omega (arith, length-is c.before.before, c.if-len-gt-SHOWN.false)))))
