-- Any two answers that a promise `r ≡ X` allows are equal, whatever X is.
-- Assumes nothing.
use mathlib.Core.Path.{◌≡◌, sym, ◌∙◌}

pub equal-unique {ℓ} : {A : Type ℓ} (x : A) {r r' : A} → r ≡ x → r' ≡ x → r ≡ r'
equal-unique x e f = e ∙ sym f
