-- What decoding and encoding alpha answer, by document 01's numbers, and what each lent buffer then holds: document 01, "Refusal numbers" and the
-- limits. The argument checks come in the order 13, 1, 4, 3.
use Rattle.std.specs.Prelude.{ℕ, cond, ◌&&◌, List, leb, length}
use Rattle.bitstream.specs.Bits.{bits_of}
use Rattle.bitstream.specs.Told.{payload_limit}
use Rattle.answers.specs.Answers.{refuse, Decoding, decoding, settled, Size, declines, Encoding, encoding}
use Rattle.bitstream.specs.Written.{written}
use Rattle.alpha_elements.specs.declared.AlphaChannelType.{AlphaChannelType}
use Rattle.alpha_elements.specs.Kinds.{Selection, selects, no_kind, on_kind, kind_of}
use Rattle.alpha_elements.specs.Limits.{sample_limit, samples_in_range}
use Rattle.alpha_elements.specs.Elements.{encode_alpha}
use Rattle.alpha_elements.specs.Decoding.{decode_alpha}

-- ---- the arguments: a kind's code number, samples, and a payload of so many bytes (none to encode)

unfoldable pub alpha_arguments : ℕ → ℕ → ℕ → Selection
alpha_arguments code samples payload = on_kind (kind_of code) (λ k. cond (leb samples sample_limit && leb payload payload_limit) (selects k) (no_kind 1)) no_kind

-- ---- decoding, into a list whose length is the number of samples

-- the reading of a payload as n samples
abbrev pub alpha_reading_of : AlphaChannelType → List ℕ → ℕ → Decoding ℕ
alpha_reading_of k payload n = settled 0 (bits_of payload) n (decode_alpha k n (bits_of payload))

unfoldable pub decode_alpha_of : List ℕ → ℕ → List ℕ → Decoding ℕ
decode_alpha_of payload code old =
    on_kind (alpha_arguments code (length old) (length payload)) (λ k. alpha_reading_of k payload (length old)) (λ r. decoding (refuse r) old)

-- ---- encoding

-- the writing of samples: their range is looked at before the room
unfoldable pub alpha_writing_of : AlphaChannelType → List ℕ → List ℕ → Encoding Size
alpha_writing_of k samples old = cond (samples_in_range k samples) (written (encode_alpha k samples) old) (encoding (declines 4) old)

unfoldable pub encode_alpha_of : List ℕ → ℕ → List ℕ → Encoding Size
encode_alpha_of samples code old = on_kind (alpha_arguments code (length samples) 0) (λ k. alpha_writing_of k samples old) (λ r. encoding (declines r) old)
