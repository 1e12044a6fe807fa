-- What decoding and encoding answer, by document 01's numbers, and what each lent list or buffer then holds: document 01, "Refusal numbers".
use Rattle.std.specs.Prelude.{ℕ, ◌-◌, Bool, List, length, replicate}
use Rattle.answers.specs.Machine.{Out, accepted, rejected, going}

-- ---- arguments: they are taken, or the number of their refusal

pub data ArgumentsAnswer : Type 0 where
  fit : ArgumentsAnswer
  unfit : ℕ → ArgumentsAnswer

-- what comes of arguments that are taken; or of a refusal's number
abbrev pub on_arguments : {A : Type 0} → ArgumentsAnswer → A → (ℕ → A) → A
on_arguments fit x other = x
on_arguments (unfit k) x other = other k

-- ---- decoding: done with the bits read, or a refusal's number; and the list

pub data DecodeAnswer : Type 0 where
  read : ℕ → DecodeAnswer
  refuse : ℕ → DecodeAnswer

pub record Decoding (O : Type 0) : Type 0 where
  pub answer : DecodeAnswer
  pub list : List O

abbrev pub decoding : {O : Type 0} → DecodeAnswer → List O → Decoding O
decoding a l = record { answer = a; list = l }

-- what a reading of the bits bs comes to, for a list of n values: a refusal sets the whole list to zero, z. (A reading to the end is never going on:
-- `from-ends` of proofs/EndLaws.)
abbrev pub settled : {S O : Type 0} → O → List Bool → ℕ → Out S O → Decoding O
settled z bs n (accepted os rest) = decoding (read (length bs - length rest)) os
settled z bs n (rejected k u) = decoding (refuse k) (replicate n z)
settled z bs n (going st o u) = decoding (refuse 5) (replicate n z)

-- ---- encoding: done with what is told of the code, or a refusal's number with the bytes that the code needs; and the buffer

-- a code's bytes, and its bits before the padding
pub record Size : Type 0 where
  pub bytes : ℕ
  pub bits : ℕ

-- T is the size of one code, or those of several
pub data EncodeAnswer (T : Type 0) : Type 0 where
  wrote : T → EncodeAnswer T
  unwritten : ℕ → ℕ → EncodeAnswer T

-- no room: 3, and the needed bytes are reported
abbrev pub needs : {T : Type 0} → ℕ → EncodeAnswer T
needs bytes = unwritten 3 bytes

-- any other refusal reports none
abbrev pub declines : {T : Type 0} → ℕ → EncodeAnswer T
declines k = unwritten k 0

pub record Encoding (T : Type 0) : Type 0 where
  pub answer : EncodeAnswer T
  pub buffer : List ℕ

abbrev pub encoding : {T : Type 0} → EncodeAnswer T → List ℕ → Encoding T
encoding a b = record { answer = a; buffer = b }
