-- One step of a reader of elements, whatever the elements are: what was read at it, and that it takes bits.
-- Assumes nothing.
use Prim.Native.Nat.{ℕ, ◌+◌, ◌≤◌}
use native.Mathlib.Omega.{arith}
use mathlib.Core.Path.{◌≡◌, refl, ap}
use mathlib.Core.Bool.{Bool, true, false, cond}
use mathlib.Core.List.{List}
use lib.ListN.{length}
use Rattle.answers.specs.Reading.{Parsed, got, refused}
use Rattle.answers.specs.Machine.{Step, moved, stop, refuses, on_read}

module _ {S O : Type 0} where
  -- ---- an element begins with what is read

  pub on_read-no : {x : Parsed} {k : ℕ} (f : ℕ → List Bool → Step S O) → x ≡ refused k → on_read x f ≡ refuses k
  on_read-no f e = ap (λ (y : Parsed). on_read y f) e

  pub on_read-got : {x : Parsed} {n : ℕ} {t : List Bool} (f : ℕ → List Bool → Step S O) → x ≡ got n t → on_read x f ≡ f n t
  on_read-got f e = ap (λ (y : Parsed). on_read y f) e

  -- ---- a step that moves takes d bits at least

  -- whatever the step x moves to leaves d bits fewer than bs
  pub record Takes (d : ℕ) (bs : List Bool) (x : Step S O) : Type 0 where
    pub fewer : (s : S) (o : List O) (t : List Bool) → x ≡ moved s o t → length t + d ≤ length bs

  -- what follows a value takes none back
  abbrev pub Shrinks : (ℕ → List Bool → Step S O) → Type 0
  Shrinks k = (n : ℕ) (u : List Bool) → Takes 0 u (k n u)

  pub refuses-takes : {d k : ℕ} {bs : List Bool} → Takes d bs (refuses k)
  refuses-takes = record { fewer = λ s o t e. absurd (let z : ◌≡◌ {A = ℕ} 0 1 = cc in omega arith) }

  pub stop-takes : {d : ℕ} {bs : List Bool} → Takes d bs stop
  stop-takes = record { fewer = λ s o t e. absurd (let z : ◌≡◌ {A = ℕ} 0 1 = cc in omega arith) }

  pub moved-takes : {d : ℕ} {bs u : List Bool} {s : S} {o : List O} → length u + d ≤ length bs → Takes d bs (moved s o u)
  moved-takes {u = u} h = record { fewer = λ s o t e. let p : u ≡ t = cc in let q = ap length p in omega arith }

  pub cond-takes : {d : ℕ} {bs : List Bool} {x y : Step S O} (b : Bool) → Takes d bs x → Takes d bs y → Takes d bs (cond b x y)
  cond-takes true h g = h
  cond-takes false h g = g

  pub on_read-takes : {d : ℕ} {bs : List Bool} {k : ℕ → List Bool → Step S O} (x : Parsed) → ((n : ℕ) (u : List Bool) → x ≡ got n u → length u + d ≤ length bs)
      → Shrinks k → Takes d bs (on_read x k)
  on_read-takes (got n u) h sh = record { fewer = λ s o t e. let a = (sh n u).fewer s o t e in omega (arith, h n u refl) }
  on_read-takes (refused n) h sh = refuses-takes
