-- Laws of the outcomes over the bit layer, case by case.
-- Assumes nothing.
use mathlib.Core.Path.{◌≡◌, sym, ap, ◌∙◌}
use mathlib.Core.List.{List}
use Prim.Native.Nat.{ℕ, ◌+◌, ◌*◌, ◌≤◌, ◌<◌}
use lib.ListN.{length}
use borrow.Author.Tests.{le-leb, lt-leb}
use Rattle.bitstream.specs.Bytes.{bytes_for}
use Rattle.bitstream.specs.Told.{payload_limit, Outcome, gives, refusal}
use Rattle.probe.specs.Bits.{result_of, value_of, next_told, put_outcome, put_buffer, align_outcome, Answers}

-- an answer that says what x says, where x is y
pub answers-as : {x : Outcome} {r v n : ℕ} (y : Outcome) → Answers x r v n → x ≡ y → (r ≡ result_of y) × ((v ≡ value_of y) × (n ≡ next_told y))
answers-as y a e = (a.result-is ∙ ap result_of e, (a.value-is ∙ ap value_of e, a.next-is ∙ ap next_told e))

module _ (buf : List ℕ) (at n : ℕ) where
  pub put-long : payload_limit < length buf → put_outcome buf at n ≡ refusal 1
  unfolding put_outcome
  put-long h = simp (lt-leb (length buf) payload_limit h)

  pub put-wide : length buf ≤ payload_limit → 56 < n → put_outcome buf at n ≡ refusal 1
  unfolding put_outcome
  put-wide h w = simp (le-leb (length buf) payload_limit h, lt-leb n 56 w)

  module _ (h : length buf ≤ payload_limit) (w : n ≤ 56) where
    pub put-no-room : 8 * length buf < at + n → put_outcome buf at n ≡ refusal 3
    unfolding put_outcome
    put-no-room r = simp (le-leb (length buf) payload_limit h, le-leb n 56 w, lt-leb (at + n) (8 * length buf) r)

    pub put-room : at + n ≤ 8 * length buf → put_outcome buf at n ≡ gives 0 (at + n)
    unfolding put_outcome
    put-room r = simp (le-leb (length buf) payload_limit h, le-leb n 56 w, le-leb (at + n) (8 * length buf) r)

  -- what a put says and leaves, once its outcome is known
  pub put_as : (v : ℕ) {x : Outcome} → put_outcome buf at n ≡ x
      → (result_of x ≡ result_of (put_outcome buf at n)) × ((next_told x ≡ next_told (put_outcome buf at n)) × (put_buffer x buf at n v ≡ put_buffer (put_outcome buf at n) buf at n v))
  put_as v e = (ap result_of (sym e), (ap next_told (sym e), ap (λ (o : Outcome). put_buffer o buf at n v) (sym e)))

module _ (at : ℕ) where
  pub align-far : 8 * payload_limit < at → align_outcome at ≡ refusal 1
  unfolding align_outcome
  align-far h = simp (lt-leb at (8 * payload_limit) h)

  pub align-near : at ≤ 8 * payload_limit → align_outcome at ≡ gives 0 (8 * bytes_for at)
  unfolding align_outcome
  align-near h = simp (le-leb at (8 * payload_limit) h)
