-- Laws of the alpha encoder's own terms: the code from a sample on, a pair at a time, and a pair's word.
-- Assumes nothing.
use Prim.Native.Nat.{ℕ, ◌+◌, ◌≤◌, ◌<◌}
use native.Mathlib.Omega.{arith}
use mathlib.Core.Path.{◌≡◌, refl, sym, ap, ap₂, ◌∙◌}
use mathlib.Core.Bool.{Bool, true, false, cond}
use mathlib.Core.List.{List, [], ◌∷◌, ◌++◌, append_assoc}
use lib.Dec.{leb, eqb}
use lib.IntN.{ℤ, pos, negsuc, ◌-ℤ◌}
use lib.ListN.{length, drop, get_or}
use Rattle.bitstream_writer.specs.declared.Word.{Word}
use Rattle.bitstream_writer.specs.Words.{Spells, Joins, word_bits}
use Rattle.bitstream_writer.proofs.WordLaws.{word-spelt, word-length}
use Rattle.alpha_elements.specs.declared.AlphaChannelType.{AlphaChannelType}
use Rattle.alpha_elements.specs.Values.{previous_of}
use Rattle.alpha_elements.specs.Elements.{AlphaElement, run_bits, alpha_element_bits, alpha_bits, run_length, difference_element, alpha_elements_of, encode_alpha}
use Rattle.alpha_elements.proofs.KindLaws.{sizes}
use Rattle.alpha_elements.proofs.ElementLaws.{run_length_lem, element-length}
use Rattle.alpha_elements.proofs.SizeLaws.{difference-le}
use Rattle.alpha_elements.proofs.Unique.{start-unique}
use Rattle.alpha_writing.specs.Writing.{elements_from, code_from, pair_bits, RunOf}

-- ---- the code from a sample on

pub start-zero : (p : ℕ) → previous_of p ≡ negsuc 0 → p ≡ 0
start-zero p e = start-unique p 0 e refl

code-all : (k : AlphaChannelType) (ss : List ℕ) → code_from k 0 ss ≡ encode_alpha k ss
unfolding code_from elements_from encode_alpha alpha_elements_of
code-all k [] = refl
code-all k (s ∷ ss) = refl

pub code-start : (k : AlphaChannelType) (p : ℕ) (ss : List ℕ) → previous_of p ≡ negsuc 0 → code_from k p ss ≡ encode_alpha k ss
code-start k p ss e = ap (λ (q : ℕ). code_from k q ss) (start-zero p e) ∙ code-all k ss

pub code-end : (k : AlphaChannelType) (p : ℕ) (ss : List ℕ) → length ss ≡ 0 → code_from k p ss ≡ []
unfolding code_from elements_from alpha_bits
code-end k p [] h = refl
code-end k p (s ∷ ss) h = absurd (omega arith)

pub code-pair : (k : AlphaChannelType) (p : ℕ) {ss : List ℕ} {n : ℕ} → 0 < length ss → RunOf ss n
    → code_from k p ss ≡ pair_bits k p (get_or ss 0 0) n ++ code_from k (get_or ss 0 0 + 1) (drop n ss)
unfolding code_from elements_from alpha_bits alpha_element_bits pair_bits
code-pair k p {ss = []} h r = absurd (omega arith)
code-pair k p {ss = v ∷ ss} {n = n} h r =
    let d : AlphaElement = difference_element k (pos v -ℤ previous_of p) in
    ap (λ (es : List AlphaElement). alpha_bits k (d ∷ es)) (r.is k)
    ∙ sym (append_assoc (alpha_element_bits k d) (run_bits n) (code_from k (v + 1) (drop n (v ∷ ss))))

-- ---- a pair's word

run_length-le : (n : ℕ) → run_length n ≤ 16
unfolding run_length
run_length-le n = go (eqb n 1) (leb n 16)
  where
    go : (a b : Bool) → cond a 1 (cond b 5 16) ≤ 16
    go true b = omega arith
    go false true = omega arith
    go false false = omega arith

pub run_short : (n : ℕ) {m y : ℕ} → Spells (run_bits n) m y → m ≤ 16
run_short n {m} {y} r = let w : Word = record { len = m; bits = y } in omega (arith, word-length (word-spelt {w = w} r refl), run_length_lem n, run_length-le n)

-- the words of a difference and of a run
module _ (k : AlphaChannelType) (p v n : ℕ) {d r : Word} (difference : Spells (alpha_element_bits k (difference_element k (pos v -ℤ previous_of p))) d.len d.bits)
    (run : Spells (run_bits n) r.len r.bits) where
  pub pair-short : d.len + r.len ≤ 33
  pair-short =
      let z : ℤ = pos v -ℤ previous_of p in
      omega (arith, run_short n run, word-length (word-spelt {w = d} difference refl), element-length k (difference_element k z), difference-le k z, (sizes k).width)

  pub pair_is : {w : Word} → Joins d r w → word_bits w ≡ pair_bits k p v n
  unfolding pair_bits
  pair_is j = j.is ∙ ap₂ ◌++◌ difference.is run.is
