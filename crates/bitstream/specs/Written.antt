-- What is told of a code, and what comes of it and a lent buffer: document 01, "Refusal numbers". Without room for all of it nothing is written, and the
-- needed bytes are reported.
use Rattle.std.specs.Prelude.{ℕ, Bool, cond, List, leb, length}
use Rattle.answers.specs.Answers.{Size, wrote, needs, Encoding, encoding}
use Rattle.bitstream.specs.Bytes.{bytes_for, stored}

abbrev pub size_of : List Bool → Size
size_of code = record { bytes = bytes_for (length code); bits = length code }

-- a code goes into a buffer that is long enough for it
unfoldable pub written : List Bool → List ℕ → Encoding Size
written code old =
    cond (leb (bytes_for (length code)) (length old)) (encoding (wrote (size_of code)) (stored old code)) (encoding (needs (bytes_for (length code))) old)
