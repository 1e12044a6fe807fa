-- Laws of a call's arguments: when they are taken, what is left then, and what the call comes to.
-- Assumes nothing.
use Prim.Native.Nat.{ℕ, ◌*◌, ◌≤◌}
use mathlib.Core.Path.{◌≡◌, ap}
use mathlib.Core.List.{List}
use native.Mathlib.Omega.{arith}
use lib.IntN.{ℤ}
use lib.ListN.{length}
use borrow.Author.Tests.{le-leb, eq-eqb}
use Rattle.std.proofs.lemmas.Bool.Decides.{nat_tests}
use Rattle.answers.specs.Answers.{ArgumentsAnswer, fit, unfit, on_arguments, refuse, decoding, declines, encoding}
use Rattle.bitstream.specs.Told.{payload_limit}
use Rattle.entropy_elements.specs.Limits.{block_limit}
use Rattle.entropy_elements.specs.Answers.{coefficient_arguments, reading_of, decode_of, writing_of, encode_of}

module _ (each p b n : ℕ) where
  pub arguments-taken : b ≤ block_limit → p ≤ payload_limit → n ≡ each * b → coefficient_arguments each p b n ≡ fit
  unfolding coefficient_arguments
  arguments-taken few short e = simp (le-leb b block_limit few, le-leb p payload_limit short, eq-eqb n (each * b) e)

  -- what is left where they are taken
  pub record Taken : Type 0 where
    pub few : b ≤ block_limit
    pub short : p ≤ payload_limit
    pub full : n ≡ each * b

  pub taken_of : coefficient_arguments each p b n ≡ fit → Taken
  unfolding coefficient_arguments
  taken_of e = record { few = grind (arith, nat_tests); short = grind (arith, nat_tests); full = grind (arith, nat_tests) }

-- ---- decoding and encoding, by what their arguments are answered

module _ (p : List ℕ) (b : ℕ) (old : List ℤ) where
  pub decode_of-unfit : {k : ℕ} → coefficient_arguments 64 (length p) b (length old) ≡ unfit k → decode_of p b old ≡ decoding (refuse k) old
  unfolding decode_of
  decode_of-unfit e = ap (λ (x : ArgumentsAnswer). on_arguments x (reading_of p b) (λ k. decoding (refuse k) old)) e

  pub decode_of-fit : coefficient_arguments 64 (length p) b (length old) ≡ fit → decode_of p b old ≡ reading_of p b
  unfolding decode_of
  decode_of-fit e = ap (λ (x : ArgumentsAnswer). on_arguments x (reading_of p b) (λ k. decoding (refuse k) old)) e

  pub decode_of-fits : b ≤ block_limit → length p ≤ payload_limit → length old ≡ 64 * b → decode_of p b old ≡ reading_of p b
  decode_of-fits h l e = decode_of-fit (arguments-taken 64 (length p) b (length old) h l e)

module _ (cs : List ℤ) (b : ℕ) (old : List ℕ) where
  pub encode_of-unfit : {k : ℕ} → coefficient_arguments 64 0 b (length cs) ≡ unfit k → encode_of cs b old ≡ encoding (declines k) old
  unfolding encode_of
  encode_of-unfit e = ap (λ (x : ArgumentsAnswer). on_arguments x (writing_of cs b old) (λ k. encoding (declines k) old)) e

  pub encode_of-fit : coefficient_arguments 64 0 b (length cs) ≡ fit → encode_of cs b old ≡ writing_of cs b old
  unfolding encode_of
  encode_of-fit e = ap (λ (x : ArgumentsAnswer). on_arguments x (writing_of cs b old) (λ k. encoding (declines k) old)) e
