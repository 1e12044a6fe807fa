-- A DC that was read: the reader of coefficients steps as the transition answers.
-- Assumes nothing.
use Prim.Native.Nat.{ℕ, ◌≤◌}
use mathlib.Core.Path.{◌≡◌, refl}
use mathlib.Core.Bool.{Bool, true, false, cond}
use mathlib.Core.List.{List, [], ◌∷◌}
use lib.Dec.{leb}
use lib.IntN.{ℤ, nat_abs, ◌+ℤ◌}
use lib.ListN.{length, drop}
use borrow.Author.Tests.{leb-true}
use Rattle.answers.specs.Machine.{moved, refuses}
use Rattle.codeword.specs.Codewords.{read_code}
use Rattle.codeword_books.specs.Books.{first_book, dc_book}
use Rattle.codeword_books.proofs.BookLaws.{dc_book-in-use}
use Rattle.codeword_signs.specs.Signs.{is_negative, integer_of, turned}
use Rattle.entropy_elements.specs.Limits.{most}
use Rattle.entropy_elements.specs.Decoding.{after_dc, dc_to}
use Rattle.std.specs.Prelude.{None}
use Rattle.entropy_elements.specs.Values.{some_dc, dc_of, first_dc, next_dc}
use Rattle.entropy_steps.specs.Given.{Gives}
use Rattle.entropy_steps.specs.DcSteps.{first_state, next_state, first_due, dc_due, dc_step_of, DcStepped}
use Rattle.entropy_steps.specs.declared.Dcs.{Dcs}
use Rattle.entropy_steps.proofs.ElementLaws.{element-got}

-- behind the codeword
dc-told : (B : List Bool) (z : ℤ) (neg : Bool) (m q : ℕ) → q ≤ length B
    → DcStepped B (λ bs c. dc_to c.dcs c.places z neg (dc_book m) (drop q bs)) (dc_step_of (dc_of z neg m) q)
unfolding dc_to dc_of dc_step_of
dc-told B z neg m q h = go (leb (nat_abs z) most) refl
  where
    go : (b : Bool) → leb (nat_abs z) most ≡ b
        → DcStepped B (λ bs c. cond b (moved (after_dc c.dcs c.places z neg (dc_book m)) (z ∷ []) (drop q bs)) (refuses 8)) (dc_step_of (cond b (some_dc z neg m) None) q)
    go true e = record { is = λ c. refl; keeps = record { range = leb-true (nat_abs z) most e; within = h; book = dc_book-in-use m } }
    go false e = record { is = λ c. refl; keeps = tt }

pub first-stepped : (B : List Bool) (v q : ℕ) → Gives (read_code first_book) B 0 v q → DcStepped B first_due (dc_step_of (first_dc v) q)
unfolding first_dc
first-stepped B v q g = element-got first_state first_book B (λ c. refl) (λ c. refl) g.is (dc-told B (integer_of v) false 3 q g.within)

pub next-stepped : (B : List Bool) (s : Dcs) (v q : ℕ) → Gives (read_code s.book) B s.at v q
    → DcStepped B (dc_due s) (dc_step_of (next_dc s.dc s.negative v) q)
unfolding next_dc
next-stepped B s v q g =
    let d : ℤ = turned s.negative (integer_of v) in
    element-got (next_state s) s.book (drop s.at B) (λ c. refl) (λ c. refl) g.is (dc-told B (s.dc +ℤ d) (is_negative d) (nat_abs d) q g.within)
