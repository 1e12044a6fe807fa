-- Any two outcomes that a promise allows are equal: of `try_from`, `arguments::test` and `start`. `code`, `width`, `small_width`, `limit`, `mask`,
-- `most_bits` and the two samples promise `r ≡ X`, which `equal-unique` of common covers, and the words promise `Spells`, which `word-unique` of
-- bitstream_writer covers.
-- Assumes nothing.
use Prim.Native.Nat.{ℕ, zero, suc}
use Rattle.std.specs.Prelude.{Result, Ok, Err}
use mathlib.Core.Path.{◌≡◌, refl, sym, ap, ◌∙◌}
use lib.IntN.{negsuc}
use Rattle.answers.proofs.Unique.{refusal_of, refusal_of-number}
use Rattle.answers.specs.declared.Refusal.{Refusal}
use Rattle.alpha_elements.specs.declared.AlphaChannelType.{AlphaChannelType}
use Rattle.alpha_elements.specs.Kinds.{Selection, selects, no_kind, told_kind}
use Rattle.alpha_elements.specs.Values.{previous_of}

-- ---- AlphaChannelType::try_from and arguments::test: what an answer says tells the answer

kind_from : Selection → Result AlphaChannelType Refusal
kind_from (selects k) = Ok k
kind_from (no_kind r) = Err (refusal_of r)

kind_from-told : (r : Result AlphaChannelType Refusal) → kind_from (told_kind r) ≡ r
unfolding kind_from
kind_from-told (Ok k) = refl
kind_from-told (Err why) = ap Err (refusal_of-number why)

pub kind-unique : (x : Selection) (r r' : Result AlphaChannelType Refusal) → told_kind r ≡ x → told_kind r' ≡ x → r ≡ r'
kind-unique x r r' e f = sym (kind_from-told r) ∙ ap kind_from (e ∙ sym f) ∙ kind_from-told r'

-- ---- values::start

previous-start : (r : ℕ) → previous_of r ≡ negsuc 0 → r ≡ 0
previous-start zero e = refl
previous-start (suc q) e = absurd (cc)

pub start-unique : (r r' : ℕ) → previous_of r ≡ negsuc 0 → previous_of r' ≡ negsuc 0 → r ≡ r'
start-unique r r' e f = previous-start r e ∙ sym (previous-start r' f)
