-- What a pass over the words of a code lays, from a bit of a buffer on: it counts their bits, or it writes them.
use Rattle.std.specs.Prelude.{ℕ, ◌+◌, ◌*◌, ◌^◌, ◌≤◌, ◌<◌, ◌≡◌, Bool, List, [], ◌++◌, length, refl}
use Rattle.std.proofs.Common.{sym, ◌∙◌, add-zero, append-nil, subst, length-append, arith}
use Rattle.bitstream.specs.Puts.{Holds, Puts}
use Rattle.bitstream.proofs.PutLaws.{puts_then}

-- A pass: Room k n is whether a buffer of k bytes has room for a code up to bit n, and Lays buf p bits buf' p' is what it leaves of the
-- buffer and of the position where it laid bits.
pub record PassLaws (Room : ℕ → ℕ → Type 0) (Lays : List ℕ → ℕ → List Bool → List ℕ → ℕ → Type 0) : Type 0 where
  pub less : {k m n : ℕ} → m ≤ n → Room k n → Room k m
  pub none : (buf : List ℕ) (p : ℕ) → Lays buf p [] buf p
  pub behind : {buf buf' buf'' : List ℕ} {p p' p'' : ℕ} {a b : List Bool} → Lays buf p a buf' p' → Lays buf' p' b buf'' p'' → Lays buf p (a ++ b) buf'' p''
  pub next : {buf buf' : List ℕ} {p p' : ℕ} {bits : List Bool} → Lays buf p bits buf' p' → p' ≡ p + length bits

-- from the buffer e and the bit p, a pass is laying whole: buf and at are where it stands, and rest is to come
pub record Laying (Lays : List ℕ → ℕ → List Bool → List ℕ → ℕ → Type 0) (e : List ℕ) (p : ℕ) (whole : List Bool) (buf : List ℕ) (at : ℕ) (rest : List Bool) : Type 0 where
  pub left : at + length rest ≡ p + length whole
  pub on : {buf' : List ℕ} {p' : ℕ} → Lays buf at rest buf' p' → Lays e p whole buf' p'

-- ---- counting

-- the position alone moves
pub record Counts (buf : List ℕ) (p : ℕ) (bits : List Bool) (buf' : List ℕ) (p' : ℕ) : Type 0 where
  pub next : p' ≡ p + length bits
  pub kept : buf' ≡ buf

-- far below what a position can count
abbrev pub Countable : ℕ → ℕ → Type 0
Countable k n = n < 2 ^ 63

pub counting_laws : PassLaws Countable Counts
counting_laws =
    record {
      less = λ h r. omega arith;
      none = λ buf p. record { next = omega arith; kept = refl };
      behind = λ {a = a} {b = b} x y. record { next = omega (arith, x.next, y.next, length-append a b); kept = y.kept ∙ x.kept };
      next = λ x. x.next;
    }

-- ---- writing

-- inside the buffer too
pub record Inside (k n : ℕ) : Type 0 where
  pub inside : n ≤ 8 * k
  pub below : n < 2 ^ 63

puts_none : (buf : List ℕ) (p : ℕ) → Puts buf p [] buf p
puts_none buf p =
    record {
      next = sym (add-zero p);
      held = λ old bs H. subst (λ (l : List Bool). Holds old l buf p) (sym (append-nil bs)) H;
    }

pub writing_laws : PassLaws Inside Puts
writing_laws =
    record {
      less = λ h r. record { inside = omega (arith, r.inside); below = omega (arith, r.below) };
      none = puts_none;
      behind = puts_then;
      next = λ x. x.next;
    }
