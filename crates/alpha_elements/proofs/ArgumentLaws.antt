-- Laws of a call's arguments: the cases of their test, what is left where they are taken, and what the call then comes to.
-- Assumes nothing.
use Prim.Native.Nat.{ℕ, ◌≤◌}
use native.Mathlib.Omega.{arith}
use mathlib.Core.Path.{◌≡◌, refl, sym, ap, ◌∙◌}
use mathlib.Core.Bool.{Bool, true, false, cond, ◌&&◌}
use mathlib.Core.List.{List}
use lib.Dec.{leb}
use lib.ListN.{length}
use borrow.Author.Tests.{le-leb, leb-true}
use Rattle.common.proofs.Choices.{cond_yes}
use Rattle.answers.specs.Answers.{refuse, decoding, declines, encoding}
use Rattle.bitstream.specs.Told.{payload_limit}
use Rattle.bitstream.specs.Written.{written}
use Rattle.alpha_elements.specs.declared.AlphaChannelType.{AlphaChannelType}
use Rattle.alpha_elements.specs.Kinds.{Selection, selects, no_kind, on_kind, kind_of}
use Rattle.alpha_elements.specs.Limits.{sample_limit, samples_in_range}
use Rattle.alpha_elements.specs.Elements.{encode_alpha}
use Rattle.alpha_elements.specs.Answers.{alpha_arguments, alpha_reading_of, decode_alpha_of, alpha_writing_of, encode_alpha_of}

module _ (code n p : ℕ) where
  -- of a kind that is known
  abbrev of_kind : AlphaChannelType → Selection
  of_kind k = cond (leb n sample_limit && leb p payload_limit) (selects k) (no_kind 1)

  by_kind : {s : Selection} → kind_of code ≡ s → alpha_arguments code n p ≡ on_kind s of_kind no_kind
  unfolding alpha_arguments
  by_kind e = ap (λ (s : Selection). on_kind s of_kind no_kind) e

  module _ {k : AlphaChannelType} (known : kind_of code ≡ selects k) where
    pub arguments-taken : n ≤ sample_limit → p ≤ payload_limit → alpha_arguments code n p ≡ selects k
    arguments-taken few h = by_kind known ∙ simp (le-leb n sample_limit few, le-leb p payload_limit h)

  -- what is left where they are taken
  pub record AlphaTaken : Type 0 where
    pub few : n ≤ sample_limit
    pub short : p ≤ payload_limit

  pub taken_of : {k : AlphaChannelType} → alpha_arguments code n p ≡ selects k → AlphaTaken
  taken_of {k} e = chosen (kind_of code) refl
    where
      within : (x y : Bool) (j : AlphaChannelType) → leb n sample_limit ≡ x → leb p payload_limit ≡ y → cond (x && y) (selects j) (no_kind 1) ≡ selects k → AlphaTaken
      within true true j ex ey f = record { few = leb-true n sample_limit ex; short = leb-true p payload_limit ey }
      within true false j ex ey f = absurd (cc)
      within false y j ex ey f = absurd (cc)

      chosen : (s : Selection) → kind_of code ≡ s → AlphaTaken
      chosen (selects j) s = within (leb n sample_limit) (leb p payload_limit) j refl refl (sym (by_kind s) ∙ e)
      chosen (no_kind r) s = absurd (let f : no_kind r ≡ selects k = sym (by_kind s) ∙ e in let z : ◌≡◌ {A = ℕ} 0 1 = cc in omega arith)

-- ---- decoding and encoding, by what their arguments are answered, s

pub decode-by : (payload : List ℕ) (code : ℕ) (old : List ℕ) {s : Selection} → alpha_arguments code (length old) (length payload) ≡ s
    → decode_alpha_of payload code old ≡ on_kind s (λ k. alpha_reading_of k payload (length old)) (λ r. decoding (refuse r) old)
unfolding decode_alpha_of
decode-by payload code old e = ap (λ (s : Selection). on_kind s (λ k. alpha_reading_of k payload (length old)) (λ r. decoding (refuse r) old)) e

pub encode-by : (samples : List ℕ) (code : ℕ) (old : List ℕ) {s : Selection} → alpha_arguments code (length samples) 0 ≡ s
    → encode_alpha_of samples code old ≡ on_kind s (λ k. alpha_writing_of k samples old) (λ r. encoding (declines r) old)
unfolding encode_alpha_of
encode-by samples code old e = ap (λ (s : Selection). on_kind s (λ k. alpha_writing_of k samples old) (λ r. encoding (declines r) old)) e

-- ---- writing, by the samples' range

module _ (k : AlphaChannelType) (samples old : List ℕ) where
  pub writing-in : samples_in_range k samples ≡ true → alpha_writing_of k samples old ≡ written (encode_alpha k samples) old
  unfolding alpha_writing_of
  writing-in e = cond_yes _ _ e
