-- Any two outcomes that a promise allows are equal, whatever the answer and what the lent list or buffer then holds are promised to be.
-- Assumes nothing.
use mathlib.Core.Path.{◌≡◌, refl, sym, ap, ◌∙◌}
use mathlib.Core.Bool.{Bool, false, cond}
use mathlib.Core.List.{List}
use Prim.Native.Nat.{ℕ}
use lib.Dec.{eqb}
use Rattle.std.specs.Prelude.{Result, Ok, Err}
use Rattle.answers.specs.Refusals.{number_of}
use Rattle.answers.specs.Answers.{ArgumentsAnswer, fit, unfit, DecodeAnswer, read, refuse, Decoding, decoding, Size, EncodeAnswer, wrote, unwritten, Encoding, encoding}
use Rattle.answers.specs.Told.{told_arguments, told_decoded, reached_says, told_code, told_encoding, told_encoded}
use Rattle.answers.specs.declared.Refusal.{Refusal}
use Rattle.answers.specs.declared.Refusal.TheVariants.{Limit, Length, Value, Short, Codeword, Overrun, Range, LongRun, AlphaOverrun, Tail, Padding, Selector}
use Rattle.answers.specs.declared.Code.{Code}
use Rattle.answers.specs.declared.EncodeRefusal.{EncodeRefusal}
use Rattle.answers.specs.declared.EncodeRefusal.TheVariants.{Room, Refused}

-- ---- what an answer says tells the answer

pub refusal_of : ℕ → Refusal
refusal_of k =
    cond (eqb k 1) Limit
    (cond (eqb k 2) Length
    (cond (eqb k 4) Value
    (cond (eqb k 5) Short
    (cond (eqb k 6) Codeword
    (cond (eqb k 7) Overrun
    (cond (eqb k 8) Range
    (cond (eqb k 9) LongRun (cond (eqb k 10) AlphaOverrun (cond (eqb k 11) Tail (cond (eqb k 12) Padding Selector))))))))))

pub refusal_of-number : (r : Refusal) → refusal_of (number_of r) ≡ r
unfolding refusal_of
refusal_of-number Limit = refl
refusal_of-number Length = refl
refusal_of-number Value = refl
refusal_of-number Short = refl
refusal_of-number Codeword = refl
refusal_of-number Overrun = refl
refusal_of-number Range = refl
refusal_of-number LongRun = refl
refusal_of-number AlphaOverrun = refl
refusal_of-number Tail = refl
refusal_of-number Padding = refl
refusal_of-number Selector = refl

-- 3 is the answer without room, and no refusal's number
number-room : (r : Refusal) → eqb (number_of r) 3 ≡ false
number-room Limit = refl
number-room Length = refl
number-room Value = refl
number-room Short = refl
number-room Codeword = refl
number-room Overrun = refl
number-room Range = refl
number-room LongRun = refl
number-room AlphaOverrun = refl
number-room Tail = refl
number-room Padding = refl
number-room Selector = refl

-- so an encoder's answer A is told from the number
pub unwritten-back : {A : Type 0} (room : A) (other : Refusal → A) (r : Refusal) → cond (eqb (number_of r) 3) room (other (refusal_of (number_of r))) ≡ other r
unwritten-back room other r = ap (λ (b : Bool). cond b room (other (refusal_of (number_of r)))) (number-room r) ∙ ap other (refusal_of-number r)

pub number-unique : (w : Refusal) (r r' : ℕ) → r ≡ number_of w → r' ≡ number_of w → r ≡ r'
number-unique w r r' e f = e ∙ sym f

arguments_of : ArgumentsAnswer → Result (Unit {0}) Refusal
arguments_of fit = Ok tt
arguments_of (unfit k) = Err (refusal_of k)

arguments_of-told : (r : Result (Unit {0}) Refusal) → arguments_of (told_arguments r) ≡ r
unfolding arguments_of
arguments_of-told (Ok u) = refl
arguments_of-told (Err why) = ap Err (refusal_of-number why)

decoded_of : DecodeAnswer → Result ℕ Refusal
decoded_of (read n) = Ok n
decoded_of (refuse k) = Err (refusal_of k)

decoded_of-told : (r : Result ℕ Refusal) → decoded_of (told_decoded r) ≡ r
unfolding decoded_of
decoded_of-told (Ok n) = refl
decoded_of-told (Err why) = ap Err (refusal_of-number why)

-- T is what is told of C, and tells it
module _ {C T : Type 0} (told : C → T) (back : T → C) (back-told : (c : C) → back (told c) ≡ c) where
  encoding_of : EncodeAnswer T → Result C EncodeRefusal
  encoding_of (wrote t) = Ok (back t)
  encoding_of (unwritten k needed) = cond (eqb k 3) (Err (Room needed)) (Err (Refused (refusal_of k)))

  encoding_of-told : (r : Result C EncodeRefusal) → encoding_of (told_encoding told r) ≡ r
  unfolding encoding_of
  encoding_of-told (Ok c) = ap Ok (back-told c)
  encoding_of-told (Err (Room needed)) = refl
  encoding_of-told (Err (Refused why)) = unwritten-back (Err (Room 0)) (λ w. Err (Refused w)) why

  pub encoding-unique : (x : Encoding T) (r r' : Result C EncodeRefusal) (b b' : List ℕ) → encoding (told_encoding told r) b ≡ x → encoding (told_encoding told r') b' ≡ x
      → (r ≡ r') × (b ≡ b')
  encoding-unique x r r' b b' e f =
      let same : encoding (told_encoding told r) b ≡ encoding (told_encoding told r') b' = e ∙ sym f in
      (sym (encoding_of-told r) ∙ ap (λ (y : Encoding T). encoding_of y.answer) same ∙ encoding_of-told r', ap (λ (y : Encoding T). y.buffer) same)

-- ---- the promises: of arguments, of decoding and of encoding

pub arguments-unique : (x : ArgumentsAnswer) (r r' : Result (Unit {0}) Refusal) → told_arguments r ≡ x → told_arguments r' ≡ x → r ≡ r'
arguments-unique x r r' e f = sym (arguments_of-told r) ∙ ap arguments_of (e ∙ sym f) ∙ arguments_of-told r'

pub decode-unique : {O : Type 0} (x : Decoding O) (r r' : Result ℕ Refusal) (l l' : List O) → decoding (told_decoded r) l ≡ x → decoding (told_decoded r') l' ≡ x
    → (r ≡ r') × (l ≡ l')
decode-unique {O} x r r' l l' e f =
    let same : decoding (told_decoded r) l ≡ decoding (told_decoded r') l' = e ∙ sym f in
    (sym (decoded_of-told r) ∙ ap (λ (y : Decoding O). decoded_of y.answer) same ∙ decoded_of-told r', ap (λ (y : Decoding O). y.list) same)

pub encode-unique : (x : Encoding Size) (r r' : Result Code EncodeRefusal) (b b' : List ℕ) → encoding (told_encoded r) b ≡ x → encoding (told_encoded r') b' ≡ x
    → (r ≡ r') × (b ≡ b')
encode-unique = encoding-unique told_code (λ s. record { bytes = s.bytes; bits = s.bits }) (λ c. refl)

-- where a reading stands: the answer is one, and where it is no refusal so is the list
reached_of-says : {O : Type 0} (z : O) (n : ℕ) (r : Result ℕ Refusal) (l : List O) → decoded_of (reached_says z n r l).answer ≡ r
unfolding decoded_of
reached_of-says z n (Ok at) l = refl
reached_of-says z n (Err why) l = ap Err (refusal_of-number why)

pub reached-unique : {O : Type 0} (z : O) (n : ℕ) (x : Decoding O) (r r' : Result ℕ Refusal) (l l' : List O) → reached_says z n r l ≡ x → reached_says z n r' l' ≡ x → r ≡ r'
reached-unique {O} z n x r r' l l' e f =
    sym (reached_of-says z n r l) ∙ ap (λ (d : Decoding O). decoded_of d.answer) (e ∙ sym f) ∙ reached_of-says z n r' l'
