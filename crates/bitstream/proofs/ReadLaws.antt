-- Laws of reading: a field, a prefix of zeros, and what an answer says of the bits.
-- Assumes nothing.
use mathlib.Core.Path.{◌≡◌, refl, sym, ap, ap₂, ◌∙◌, subst}
use mathlib.Core.Bool.{Bool, true, false}
use mathlib.Core.List.{List, [], ◌∷◌, ◌++◌, append_assoc}
use Prim.Native.Nat.{ℕ, zero, suc, ◌+◌, ◌-◌, ◌/◌, ◌^◌, ◌≤◌, ◌<◌}
use native.Mathlib.Nat.{mod-eq_of_lt}
use native.Mathlib.Numerals.{add-one}
use native.Mathlib.Omega.{arith}
use native.Mathlib.Decide.{dec_le}
use lib.ListN.{length, get_or, take, drop, length-append, length-drop, take-append-drop, drop_of_length-le}
use lib.Pow.{shr_lt}
use lib.Seq.{take_at, drop_at, length-take-le, drop-cons, drop-append_seam, drop-drop}
use borrow.Author.Tests.{le-leb, lt-leb}
use Rattle.bitstream.specs.Bits.{odd, field, number, bits_of, zeros}
use Rattle.answers.specs.Reading.{Parsed, got, refused, Reader, after, ◌then◌}
use Rattle.bitstream.specs.Reading.{read_field, read_bits, one_more, zero_prefix}
use Rattle.bitstream.specs.Told.{payload_limit, Outcome, gives, refusal, outcome, within, outcome_at}
use Rattle.bitstream.proofs.FieldLaws.{length-field, field-split, number-field, number_lt, field-number}

-- ---- a field

module _ (n : ℕ) (bs : List Bool) where
  pub read_field-short : length bs < n → read_field n bs ≡ refused 5
  unfolding read_field
  read_field-short h = simp (lt-leb n (length bs) h)

  pub read_field-all : n ≤ length bs → read_field n bs ≡ got (number (take n bs)) (drop n bs)
  unfolding read_field
  read_field-all h = simp (le-leb n (length bs) h)

  pub read_bits-wide : 32 < n → read_bits n bs ≡ refused 6
  unfolding read_bits
  read_bits-wide h = simp (lt-leb n 32 h)

  pub read_bits-field : n ≤ 32 → read_bits n bs ≡ read_field n bs
  unfolding read_bits
  read_bits-field h = simp (le-leb n 32 h)

-- a field reads back, whatever follows it
pub read_field-field : (n v : ℕ) (rest : List Bool) → v < 2 ^ n → read_field n (field n v ++ rest) ≡ got v rest
read_field-field n v rest h =
    read_field-all n (field n v ++ rest) (omega (arith, length-append (field n v) rest, length-field n v))
    ∙ ap₂ got (ap number (take_at (field n v) rest n (length-field n v)) ∙ number-field n v ∙ mod-eq_of_lt h) (drop_at (field n v) rest n (length-field n v))

-- whatever reads is that field
pub field-read_field : (n : ℕ) (bs : List Bool) (v : ℕ) (rest : List Bool) → read_field n bs ≡ got v rest → (bs ≡ field n v ++ rest) × (v < 2 ^ n)
field-read_field n bs v rest e = go (dec_le n (length bs))
  where
    go : Dec (n ≤ length bs) → (bs ≡ field n v ++ rest) × (v < 2 ^ n)
    go (no h) =
        let s : read_field n bs ≡ refused 5 = read_field-short n bs (omega arith) in
        absurd (let z : ◌≡◌ {A = ℕ} 0 1 = cc in omega arith)
    go (yes h) =
        let g : got (number (take n bs)) (drop n bs) ≡ got v rest = sym (read_field-all n bs h) ∙ e in
        let ev : number (take n bs) ≡ v = cc in
        let er : drop n bs ≡ rest = cc in
        let l : length (take n bs) ≡ n = length-take-le n bs h in
        let back : field n v ≡ take n bs = ap₂ field (sym l) (sym ev) ∙ field-number (take n bs) in (
          sym (ap₂ (λ (a b : List Bool). a ++ b) back (sym er) ∙ take-append-drop n bs),
          subst (λ (x : ℕ). x < 2 ^ n) ev (subst (λ (i : ℕ). number (take n bs) < 2 ^ i) l (number_lt (take n bs))),
        )

-- a field of n bits and one bit more, read at once
module _ (n : ℕ) (bs : List Bool) where
  pub read_field-bit : (v : ℕ) (t : List Bool) → read_field (n + 1) bs ≡ got v t → (read_field n bs ≡ got (v / 2) (odd v ∷ t)) × (v / 2 < 2 ^ n)
  unfolding field
  read_field-bit v t e =
      let f = field-read_field (n + 1) bs v t e in
      let half : v / 2 < 2 ^ n = shr_lt n 1 f.1 in
      let last : v / 2 ^ 0 ≡ v = omega arith in
      let parts : bs ≡ field n (v / 2) ++ (odd v ∷ t) =
      f.0 ∙ ap (λ (l : List Bool). l ++ t) (field-split n 1 v) ∙ append_assoc (field n (v / 2)) (field 1 v) t
      ∙ ap (λ (x : ℕ). field n (v / 2) ++ (odd x ∷ t)) last in
      (ap (read_field n) parts ∙ read_field-field n (v / 2) (odd v ∷ t) half, half)

  -- cut off in the field or before the bit, it is refused alike
  pub read_field-bit-no : {A : Type 0} (k : ℕ) → read_field (n + 1) bs ≡ refused k → (g : Parsed → A) (y : ℕ → A)
      → g (refused 5) ≡ y 5 → ((m : ℕ) → g (got m []) ≡ y 5) → g (read_field n bs) ≡ y k
  read_field-bit-no k e g y field_Cut bit_cut = go (dec_le (n + 1) (length bs))
    where
      inside : length bs < n + 1 → Dec (n ≤ length bs) → g (read_field n bs) ≡ y 5
      inside h (no l) = ap g (read_field-short n bs (omega arith)) ∙ field_Cut
      inside h (yes l) = ap g (read_field-all n bs l ∙ ap (got (number (take n bs))) (drop_of_length-le bs {i = n} (omega arith))) ∙ bit_cut (number (take n bs))

      go : Dec (n + 1 ≤ length bs) → g (read_field n bs) ≡ y k
      go (yes h) =
          let all : read_field (n + 1) bs ≡ got (number (take (n + 1) bs)) (drop (n + 1) bs) = read_field-all (n + 1) bs h in
          absurd (let z : ◌≡◌ {A = ℕ} 0 1 = cc in omega arith)
      go (no h) =
          let s : read_field (n + 1) bs ≡ refused 5 = read_field-short (n + 1) bs (omega arith) in
          let five : 5 ≡ k = cc in
          inside (omega arith) (dec_le n (length bs)) ∙ ap y five

-- ---- a prefix of zeros

pub zero_prefix-zeros : (cap z : ℕ) (rest : List Bool) → z ≤ cap → zero_prefix cap (zeros z ++ true ∷ rest) ≡ got z rest
unfolding zero_prefix
zero_prefix-zeros cap zero rest h = refl
zero_prefix-zeros zero (suc z) rest h = absurd (omega arith)
zero_prefix-zeros (suc cap) (suc z) rest h = ap one_more (zero_prefix-zeros cap z rest (omega arith))

one_more-got : (x : Parsed) (z : ℕ) (rest : List Bool) → one_more x ≡ got z rest → (y : ℕ) × (x ≡ got y rest) × (z ≡ suc y)
one_more-got (got y t) z rest e = (y, (cc), (cc))
one_more-got (refused k) z rest e = absurd (let w : ◌≡◌ {A = ℕ} 0 1 = cc in omega arith)

pub zeros-zero_prefix : (cap : ℕ) (bs : List Bool) (z : ℕ) (rest : List Bool) → zero_prefix cap bs ≡ got z rest → (bs ≡ zeros z ++ true ∷ rest) × (z ≤ cap)
unfolding zero_prefix
zeros-zero_prefix cap [] z rest e = absurd (let w : ◌≡◌ {A = ℕ} 0 1 = cc in omega arith)
zeros-zero_prefix cap (true ∷ bs) z rest e =
    let p : 0 ≡ z = cc in
    let q : bs ≡ rest = cc in
    (ap₂ (λ (i : ℕ) (r : List Bool). zeros i ++ true ∷ r) p q, omega arith)
zeros-zero_prefix zero (false ∷ bs) z rest e = absurd (let w : ◌≡◌ {A = ℕ} 0 1 = cc in omega arith)
zeros-zero_prefix (suc cap) (false ∷ bs) z rest e =
    let m = one_more-got (zero_prefix cap bs) z rest e in
    let ih = zeros-zero_prefix cap bs m.0 rest m.1 in
    (ap {B = List Bool} (λ r. false ∷ r) ih.0 ∙ ap (λ (i : ℕ). zeros i ++ true ∷ rest) (sym m.2), omega (arith, m.2, ih.1))

-- one bit at a time, at bit j
module _ (B : List Bool) (j cap : ℕ) where
  next : j < length B → (b : Bool) → get_or B j false ≡ b → drop j B ≡ b ∷ drop (j + 1) B
  next h b e = drop-cons B j false h ∙ ap₂ (λ (x : Bool) (n : ℕ). x ∷ drop n B) e (sym (add-one j))

  pub zero_prefix-end : length B ≤ j → zero_prefix cap (drop j B) ≡ refused 5
  unfolding zero_prefix
  zero_prefix-end h = ap (zero_prefix cap) (drop_of_length-le B h)

  pub zero_prefix-one : j < length B → get_or B j false ≡ true → zero_prefix cap (drop j B) ≡ got 0 (drop (j + 1) B)
  unfolding zero_prefix
  zero_prefix-one h e = ap (zero_prefix cap) (next h true e)

  pub zero_prefix-full : j < length B → get_or B j false ≡ false → cap ≡ 0 → zero_prefix cap (drop j B) ≡ refused 6
  unfolding zero_prefix
  zero_prefix-full h e z = ap₂ zero_prefix z (next h false e)

  pub zero_prefix-more : j < length B → get_or B j false ≡ false → 0 < cap → zero_prefix cap (drop j B) ≡ one_more (zero_prefix (cap - 1) (drop (j + 1) B))
  unfolding zero_prefix
  zero_prefix-more h e z = let f : cap ≡ suc (cap - 1) = omega arith in ap₂ zero_prefix f (next h false e)

-- ---- the count of zeros, as a loop goes on with it

abbrev pub counted : ℕ → Parsed → Parsed
counted q (got z t) = got (q + z) t
counted q (refused k) = refused k

counted_none : (x : Parsed) → x ≡ counted 0 x
counted_none (got z t) = let e : z ≡ 0 + z = omega arith in ap (λ (n : ℕ). got n t) e
counted_none (refused k) = refl

counted-more : (q : ℕ) (x : Parsed) → counted q (one_more x) ≡ counted (q + 1) x
counted-more q (got z t) = let e : q + suc z ≡ q + 1 + z = omega arith in ap (λ (n : ℕ). got n t) e
counted-more q (refused k) = refl

-- the bits from p up to bit at are zeros that were passed
module _ (B : List Bool) (p cap : ℕ) where
  abbrev pub Passed : ℕ → Type 0
  Passed at = zero_prefix cap (drop p B) ≡ counted (at - p) (zero_prefix (cap - (at - p)) (drop at B))

  pub passed_none : Passed p
  passed_none =
      let z : 0 ≡ p - p = omega arith in
      let f : cap ≡ cap - (p - p) = omega arith in
      ap (λ (k : ℕ). zero_prefix k (drop p B)) f ∙ counted_none (zero_prefix (cap - (p - p)) (drop p B))
      ∙ ap (λ (k : ℕ). counted k (zero_prefix (cap - (p - p)) (drop p B))) z

  module _ (at : ℕ) (low : p ≤ at) (E : Passed at) where
    pub passed-one : at < length B → get_or B at false ≡ true → gives (at - p) (at + 1) ≡ outcome p (drop p B) (zero_prefix cap (drop p B))
    passed-one h b =
        let z : at - p + 0 ≡ at - p = omega arith in
        let n : p + (length (drop p B) - length (drop (at + 1) B)) ≡ at + 1 = omega (arith, length-drop p B, length-drop (at + 1) B) in
        sym (ap (outcome p (drop p B)) (E ∙ ap (counted (at - p)) (zero_prefix-one B at (cap - (at - p)) h b)) ∙ ap₂ gives z n)

    pub passed-full : at < length B → get_or B at false ≡ false → cap ≤ at - p → refusal 6 ≡ outcome p (drop p B) (zero_prefix cap (drop p B))
    passed-full h b e = sym (ap (outcome p (drop p B)) (E ∙ ap (counted (at - p)) (zero_prefix-full B at (cap - (at - p)) h b (omega arith))))

    pub passed-end : length B ≤ at → refusal 5 ≡ outcome p (drop p B) (zero_prefix cap (drop p B))
    passed-end h = sym (ap (outcome p (drop p B)) (E ∙ ap (counted (at - p)) (zero_prefix-end B at (cap - (at - p)) h)))

    pub passed-more : at < length B → get_or B at false ≡ false → at - p < cap → Passed (at + 1)
    passed-more h b l =
        let e : cap - (at - p) - 1 ≡ cap - (at + 1 - p) = omega arith in
        let q : at - p + 1 ≡ at + 1 - p = omega arith in
        E ∙ ap (counted (at - p)) (zero_prefix-more B at (cap - (at - p)) h b (omega arith))
        ∙ counted-more (at - p) (zero_prefix (cap - (at - p) - 1) (drop (at + 1) B))
        ∙ ap₂ (λ (x y : ℕ). counted x (zero_prefix y (drop (at + 1) B))) q e

-- ---- what an answer says

pub within-fits : (s : List ℕ) (x : Outcome) → length s ≤ payload_limit → within s x ≡ x
unfolding within
within-fits s x h = simp (le-leb (length s) payload_limit h)

pub within-long : (s : List ℕ) (x : Outcome) → payload_limit < length s → within s x ≡ refusal 1
unfolding within
within-long s x h = simp (lt-leb (length s) payload_limit h)

-- ---- a reader's answer depends on the bits that it took alone

-- pre is what a reader took: the same comes of it whatever stands behind it
pub record Took (m : Reader) (bs : List Bool) (v : ℕ) (rest : List Bool) : Type 0 where
  pub pre : List Bool
  pub is : bs ≡ pre ++ rest
  pub again : (t : List Bool) → m (pre ++ t) ≡ got v t

abbrev pub Local : Reader → Type 0
Local m = (bs : List Bool) (v : ℕ) (rest : List Bool) → m bs ≡ got v rest → Took m bs v rest

pub read_field-local : (n : ℕ) → Local (read_field n)
read_field-local n bs v rest e =
    let f = field-read_field n bs v rest e in
    record { pre = field n v; is = f.0; again = λ t. read_field-field n v t f.1 }

pub read_bits-local : (n : ℕ) → Local (read_bits n)
read_bits-local n bs v rest e = go (dec_le n 32)
  where
    go : Dec (n ≤ 32) → Took (read_bits n) bs v rest
    go (yes h) =
        let t = read_field-local n bs v rest (sym (read_bits-field n bs h) ∙ e) in
        record { pre = t.pre; is = t.is; again = λ u. read_bits-field n (t.pre ++ u) h ∙ t.again u }
    go (no h) =
        let s : read_bits n bs ≡ refused 6 = read_bits-wide n bs (omega arith) in
        absurd (let z : ◌≡◌ {A = ℕ} 0 1 = cc in omega arith)

pub zero_prefix-local : (cap : ℕ) → Local (zero_prefix cap)
zero_prefix-local cap bs v rest e =
    let f = zeros-zero_prefix cap bs v rest e in
    record {
      pre = zeros v ++ (true ∷ []);
      is = f.0 ∙ sym (append_assoc (zeros v) (true ∷ []) rest);
      again = λ t. ap (zero_prefix cap) (append_assoc (zeros v) (true ∷ []) t) ∙ zero_prefix-zeros cap v t f.1;
    }

pub bind-local : (m : Reader) (f : ℕ → Reader) → Local m → ((v : ℕ) → Local (f v)) → Local (m then f)
bind-local m f lm lf bs w rest e = go (m bs) refl e
  where
    go : (x : Parsed) → m bs ≡ x → after x f ≡ got w rest → Took (m then f) bs w rest
    go (refused k) ex ey = absurd (let z : ◌≡◌ {A = ℕ} 0 1 = cc in omega arith)
    go (got v mid) ex ey =
        let a = lm bs v mid ex in
        let b = lf v mid w rest ey in
        record {
          pre = a.pre ++ b.pre;
          is = a.is ∙ ap (λ (l : List Bool). a.pre ++ l) b.is ∙ sym (append_assoc a.pre b.pre rest);
          again = λ t. ap (λ (l : List Bool). after (m l) f) (append_assoc a.pre b.pre t) ∙ ap (λ (x : Parsed). after x f) (a.again (b.pre ++ t)) ∙ b.again t;
        }

-- ---- what an answer says of a payload

-- the reader m at bit p of a payload that is not too long
module _ (m : Reader) (s : List ℕ) (p : ℕ) where
  pub outcome_at-fits : length s ≤ payload_limit → outcome_at m s p ≡ outcome p (drop p (bits_of s)) (m (drop p (bits_of s)))
  unfolding outcome_at
  outcome_at-fits h = within-fits s (outcome p (drop p (bits_of s)) (m (drop p (bits_of s)))) h

  pub outcome_at-long : payload_limit < length s → outcome_at m s p ≡ refusal 1
  unfolding outcome_at
  outcome_at-long h = within-long s (outcome p (drop p (bits_of s)) (m (drop p (bits_of s)))) h

  -- a refusal that was told is the reader's
  pub told-refused : length s ≤ payload_limit → (k : ℕ) → refusal k ≡ outcome_at m s p → m (drop p (bits_of s)) ≡ refused k
  told-refused h k e = go (m (drop p (bits_of s))) (e ∙ outcome_at-fits h)
    where
      go : (x : Parsed) → refusal k ≡ outcome p (drop p (bits_of s)) x → x ≡ refused k
      go (got v rest) f = absurd (let z : ◌≡◌ {A = ℕ} 0 1 = cc in omega arith)
      go (refused j) f = cc

  -- a value that was told is the reader's, and what is then unread begins at the next position
  pub told-got : Local m → length s ≤ payload_limit → (v q : ℕ) → gives v q ≡ outcome_at m s p
      → (m (drop p (bits_of s)) ≡ got v (drop q (bits_of s))) × (p ≤ q) × (q - p ≤ length (drop p (bits_of s)))
  told-got local h v q e = go (m (drop p (bits_of s))) refl (e ∙ outcome_at-fits h)
    where
      go : (x : Parsed) → m (drop p (bits_of s)) ≡ x → gives v q ≡ outcome p (drop p (bits_of s)) x
          → (x ≡ got v (drop q (bits_of s))) × (p ≤ q) × (q - p ≤ length (drop p (bits_of s)))
      go (refused j) r f = absurd (let z : ◌≡◌ {A = ℕ} 0 1 = cc in omega arith)
      go (got w rest) r f =
          let t = local (drop p (bits_of s)) w rest r in
          let pre : List Bool = t.pre in
          let same : v ≡ w = cc in
          let at : q ≡ p + (length (drop p (bits_of s)) - length rest) = cc in
          let len : length (drop p (bits_of s)) ≡ length pre + length rest = ap length t.is ∙ length-append pre rest in
          let nxt : p + length pre ≡ q = omega arith in
          let unread : rest ≡ drop q (bits_of s) =
          sym (drop-append_seam pre rest) ∙ ap (drop (length pre)) (sym t.is) ∙ drop-drop (length pre) p (bits_of s) ∙ ap (λ (k : ℕ). drop k (bits_of s)) nxt in
          (ap₂ got (sym same) unread, omega arith, omega arith)

-- reading on behind a value counts from where the reading began
on-behind : (m : Reader) → Local m → (B : List Bool) (p q : ℕ) → p ≤ q → q - p ≤ length (drop p B)
    → outcome q (drop q B) (m (drop q B)) ≡ outcome p (drop p B) (m (drop q B))
on-behind m lm B p q low high = go (m (drop q B)) refl
  where
    go : (x : Parsed) → m (drop q B) ≡ x → outcome q (drop q B) x ≡ outcome p (drop p B) x
    go (refused k) e = refl
    go (got v rest) e =
        let t = lm (drop q B) v rest e in
        let len : length (drop q B) ≡ length t.pre + length rest = ap length t.is ∙ length-append t.pre rest in
        let same : q + (length (drop q B) - length rest) ≡ p + (length (drop p B) - length rest) = omega (arith, length-drop p B, length-drop q B) in
        ap (gives v) same

-- what comes of m and then f, once m's answer is told
module _ (m : Reader) (f : ℕ → Reader) (s : List ℕ) (p : ℕ) where
  then-fits : length s ≤ payload_limit → (x : Parsed) → m (drop p (bits_of s)) ≡ x → outcome p (drop p (bits_of s)) (after x f) ≡ outcome_at (m then f) s p
  then-fits h x e = sym (outcome_at-fits (m then f) s p h ∙ ap (λ (y : Parsed). outcome p (drop p (bits_of s)) (after y f)) e)

  pub told-after : Local m → (v q : ℕ) → Local (f v) → gives v q ≡ outcome_at m s p → outcome_at (f v) s q ≡ outcome_at (m then f) s p
  told-after lm v q lf e = go (dec_le (length s) payload_limit)
    where
      go : Dec (length s ≤ payload_limit) → outcome_at (f v) s q ≡ outcome_at (m then f) s p
      go (no h) =
          let l : outcome_at m s p ≡ refusal 1 = outcome_at-long m s p (omega arith) in
          absurd (let z : ◌≡◌ {A = ℕ} 0 1 = cc in omega arith)
      go (yes h) =
          let g = told-got m s p lm h v q e in
          outcome_at-fits (f v) s q h ∙ on-behind (f v) lf (bits_of s) p q g.1 g.2 ∙ then-fits h (got v (drop q (bits_of s))) g.0

  pub told-stop : (k : ℕ) → refusal k ≡ outcome_at m s p → refusal k ≡ outcome_at (m then f) s p
  told-stop k e = go (dec_le (length s) payload_limit)
    where
      go : Dec (length s ≤ payload_limit) → refusal k ≡ outcome_at (m then f) s p
      go (no h) =
          let l : payload_limit < length s = omega arith in
          e ∙ outcome_at-long m s p l ∙ sym (outcome_at-long (m then f) s p l)
      go (yes h) = then-fits h (refused k) (told-refused m s p h k e)
