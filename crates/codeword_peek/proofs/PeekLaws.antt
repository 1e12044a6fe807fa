-- What the leading zeros of a word tell of the codeword at its top.
-- Assumes nothing.
use Rattle.std.proofs.Common.{◌≡◌, ℕ, zero, suc, ◌+◌, ◌-◌, ◌*◌, ◌/◌, ◌^◌, ◌<◌, ◌≤◌, Bool, List, ◌++◌, length, take, drop, sym, refl, ap, ◌∙◌, subst, ap₂, arith, length-drop, take-append-drop, length-take-le, drop-drop, pow_mono, pow-add, shr_lt, le-leb}
use lib.Count.{count_leading_zeros, leading_of_zero, leading_le, leading_top}
use lib.Pow.{shl-shr, shr_mono}
use Rattle.common.proofs.Choices.{cond_yes}
use Rattle.bitstream.specs.Bits.{field, number}
use Rattle.answers.specs.Reading.{Parsed, got, after}
use Rattle.bitstream.specs.Windows.{shown, Shows}
use Rattle.bitstream.proofs.FieldLaws.{number_lt, field-number}
use Rattle.bitstream.proofs.ReadLaws.{zero_prefix-zeros}
use Rattle.bitstream.proofs.WindowLaws.{shows-prefix, shows-behind}
use Rattle.codeword.specs.Codewords.{limit, width, base, read_suffix, read_code}
use Rattle.codeword.specs.Words.{InUse}
use Rattle.codeword.specs.declared.Codebook.{Codebook}
use Rattle.codeword.specs.declared.Codebook.TheVariants.{ExpGolomb, RiceExp}
use Rattle.codeword.proofs.ReadCodeLaws.{suffix-field}
use Rattle.codeword_peek.specs.Peeks.{length_at, symbol_at, peeked, Foretells, combo_of, as_book, Small}
use Rattle.codeword_peek.specs.declared.Combo.{Combo}
use Rattle.codeword_peek.proofs.ComboLaws.{combo-widths, combo-bases, combo-small, width-le, width-short, base-small}

-- the number of a codeword that has w digits behind its 1
number-bounds : (v q w : ℕ) → 0 < v → v < 2 ^ 64 → q ≡ count_leading_zeros 64 v → q + 1 + w ≤ 64
    → (2 ^ w ≤ v / 2 ^ (64 - (q + 1 + w))) × (v / 2 ^ (64 - (q + 1 + w)) < 2 ^ (w + 1))
number-bounds v q w some fits e h =
    let top = leading_top 64 v some fits in
    let j : ℕ = top.0 in
    let k : ℕ = 64 - (q + 1 + w) in
    let sum : w + k ≡ j = omega (arith, top.1) in
    let sum' : suc j ≡ w + 1 + k = omega arith in
    let lo : 2 ^ w * 2 ^ k ≤ v = subst (λ (x : ℕ). x ≤ v) (ap (λ (i : ℕ). 2 ^ i) (sym sum) ∙ pow-add 2 w k) top.2 in (
      subst (λ (x : ℕ). x ≤ v / 2 ^ k) (shl-shr (2 ^ w) k) (shr_mono k lo),
      shr_lt (w + 1) k (subst (λ (i : ℕ). v < 2 ^ i) sum' top.3),
    )

-- so few zeros are in every codebook's limit
prefix-fits : (cb : Codebook) (q : ℕ) → q + 1 + width cb q ≤ shown → q ≤ limit cb
unfolding width
prefix-fits (ExpGolomb k) q h = omega arith
prefix-fits (RiceExp l r e) q h = omega arith

module _ (cb : Codebook) (n v : ℕ) (bs : List Bool) (s : Shows n v bs) (narrow : n ≤ shown) (some : 0 < v) (q : ℕ) (e : q ≡ count_leading_zeros 64 v) where
  abbrev w : ℕ
  w = width cb q

  foretold : q + 1 + w ≤ n → w ≤ 30 → base cb q ≤ 96 + 2 ^ w
      → read_code cb bs ≡ got (base cb q + (v / 2 ^ (64 - (q + 1 + w)) - 2 ^ w)) (drop (q + 1 + w) bs)
  unfolding read_code read_suffix
  foretold h small low =
      let rest : List Bool = drop (q + 1) bs in
      let x : ℕ = number (take w rest) in
      let len : length (take w rest) ≡ w = length-take-le w rest (omega (arith, length-drop (q + 1) bs, s.long)) in
      let fits : x < 2 ^ w = subst (λ (i : ℕ). x < 2 ^ i) len (number_lt (take w rest)) in
      let most : 2 ^ w ≤ 2 ^ 30 = pow_mono small in
      let suffix-is : rest ≡ field w x ++ drop w rest =
      sym (take-append-drop w rest) ∙ ap (λ (l : List Bool). l ++ drop w rest) (sym (field-number (take w rest)) ∙ ap (λ (i : ℕ). field i x) len) in
      let value : base cb q + x ≡ base cb q + (v / 2 ^ (64 - (q + 1 + w)) - 2 ^ w) =
      omega (arith, shows-behind n v bs s (omega arith) q e some (omega arith) w h) in
      ap (read_code cb) (shows-prefix n v bs s (omega arith) q e some (omega arith))
      ∙ ap (λ (y : Parsed). after y (read_suffix cb)) (zero_prefix-zeros (limit cb) q rest (prefix-fits cb q (omega arith)))
      ∙ ap (read_suffix cb q) suffix-is
      ∙ suffix-field w (base cb q) x (drop w rest) (omega arith) fits (omega arith)
      ∙ ap₂ got value (drop-drop w (q + 1) bs)

-- ---- of a codebook in use

some_one : (v : ℕ) → count_leading_zeros 64 v < 64 → 0 < v
some_one zero h = absurd (omega (arith, leading_of_zero 64))
some_one (suc v) h = omega arith

module _ (cb : Codebook) (used : InUse cb) (v : ℕ) where
  abbrev b : Combo
  b = combo_of cb

  abbrev q : ℕ
  q = count_leading_zeros 64 v

  abbrev u : ℕ
  u = width cb q

  small : Small b
  small = combo-small cb used

  length-le : length_at cb v ≤ 256
  unfolding length_at
  length-le = omega (arith, leading_le 64 v, combo-widths cb q, width-le b.last b.r b.e q small.last small.rice small.exp (leading_le 64 v))

  module _ (h : length_at cb v ≤ shown) where
    narrow-suffix : u ≤ 30
    unfolding length_at
    narrow-suffix = omega (arith, combo-widths cb q, width-short b.last b.r b.e q small.last small.rice small.exp (omega (arith, combo-widths cb q)))

    low-base : base cb q ≤ 96 + 2 ^ u
    low-base =
        let e : 2 ^ width (as_book b) q ≡ 2 ^ u = ap (λ (i : ℕ). 2 ^ i) (combo-widths cb q) in
        omega (arith, combo-bases cb q, base-small b.last b.r b.e q small.last small.rice small.exp)

    -- the codeword's number
    pub number_fits : v < 2 ^ 64 → (2 ^ u ≤ v / 2 ^ (64 - length_at cb v)) × (v / 2 ^ (64 - length_at cb v) < 2 ^ 31)
    unfolding length_at
    number_fits fits =
        let bounds = number-bounds v q u (some_one v (omega arith)) fits refl (omega arith) in
        let top : 2 ^ (u + 1) ≤ 2 ^ 31 = pow_mono {j = 31} (omega (arith, narrow-suffix)) in
        (bounds.0, omega (arith, bounds.1))

    symbol-read : (n : ℕ) (bs : List Bool) → Shows n v bs → n ≤ shown → length_at cb v ≤ n → read_code cb bs ≡ got (symbol_at cb v) (drop (length_at cb v) bs)
    unfolding length_at symbol_at
    symbol-read n bs s narrow l = foretold cb n v bs s narrow (some_one v (omega arith)) q refl l narrow-suffix low-base

  -- what is seen is what is read
  pub peeked-foretells : Foretells cb v (peeked cb v).len (peeked cb v).value
  unfolding length_at
  peeked-foretells =
      record {
        some = omega arith;
        short = length-le;
        is = λ n bs s narrow l.
            let h : length_at cb v ≤ shown = omega arith in
            symbol-read h n bs s narrow l ∙ ap (λ (x : ℕ). got x (drop (length_at cb v) bs)) (sym (cond_yes (symbol_at cb v) 0 (le-leb (length_at cb v) shown h)));
      }
