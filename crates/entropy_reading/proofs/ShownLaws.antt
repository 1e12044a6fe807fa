-- A run, a level and its sign out of one word.
-- Assumes nothing.
use Prim.Native.Nat.{ℕ, ◌+◌, ◌-◌, ◌*◌, ◌/◌, ◌%◌, ◌^◌, ◌≤◌, ◌<◌}
use native.Mathlib.Nat.{mod-eq_of_lt}
use native.Mathlib.Omega.{arith}
use mathlib.Core.Path.{◌≡◌, sym, ap, ◌∙◌, subst}
use mathlib.Core.Bool.{Bool}
use mathlib.Core.List.{List, ◌∷◌}
use lib.Dec.{eqb}
use lib.ListN.{drop, length-drop}
use lib.Seq.{drop-drop}
use Rattle.answers.specs.Reading.{got}
use Rattle.bitstream.specs.Windows.{shown, Shows}
use Rattle.bitstream.proofs.WindowLaws.{shows-on, shows-bit}
use Rattle.codeword.specs.Codewords.{read_code}
use Rattle.codeword.specs.declared.Codebook.{Codebook}
use Rattle.codeword_peek.specs.Peeks.{peeked, Foretells}
use Rattle.codeword_peek.specs.declared.Peeked.{Peeked}
use Rattle.codeword_peek.proofs.PeekLaws.{peeked-foretells}
use Rattle.answers.specs.declared.Refusal.{Refusal}
use Rattle.entropy_elements.specs.Values.{level_of}
use Rattle.entropy_steps.specs.Given.{Gives, HasBit}
use Rattle.entropy_steps.specs.RunSteps.{BooksInUse, RunDue, run_step_of, RunStepped}
use Rattle.entropy_steps.specs.LevelSteps.{level_step_of}
use Rattle.entropy_steps.specs.PairSteps.{PairStepped}
use Rattle.entropy_steps.specs.declared.Acs.{Acs}
use Rattle.std.specs.Prelude.{Result, Ok, Err}
use lib.IntN.{ℤ}
use Rattle.entropy_steps.proofs.RunLaws.{run_step_of-to, run-stepped}
use Rattle.entropy_steps.proofs.LevelLaws.{sign-stepped, level-stepped}
use Rattle.entropy_steps.proofs.PairLaws.{pair-no, pair-on}
use Rattle.entropy_reading.specs.Shown.{PairShown}

-- w shows n bits from p on
module _ (B : List Bool) (p n w : ℕ) (s : Shows n w (drop p B)) (narrow : n ≤ shown) where
  shows-next : (a : ℕ) → a ≤ n → Shows (n - a) ((w * 2 ^ a) % 2 ^ 64) (drop (p + a) B)
  shows-next a h = subst (λ (l : List Bool). Shows (n - a) ((w * 2 ^ a) % 2 ^ 64) l) (drop-drop a p B) (shows-on n w (drop p B) s (omega arith) a h)

  gives-code : (cb : Codebook) (len v : ℕ) → Foretells cb w len v → len ≤ n → Gives (read_code cb) B p v (p + len)
  gives-code cb len v f h =
      record {
        is = f.is n (drop p B) s narrow h ∙ ap (got v) (drop-drop len p B);
        within = omega (arith, f.some, s.long, length-drop p B);
      }

  has-sign : 0 < n → HasBit B p (eqb (w / 2 ^ 63) 1) (p + 1)
  has-sign h =
      record {
        is = shows-bit n w (drop p B) s (omega arith) h ∙ ap (λ (l : List Bool). eqb (w / 2 ^ 63) 1 ∷ l) (drop-drop 1 p B);
        within = omega (arith, s.long, length-drop p B);
      }

-- what was seen in the word at s
module _ (B : List Bool) (s : Acs) (books : BooksInUse s) (w : ℕ) (run level : Peeked) where
  -- what is shown behind the run
  abbrev behind : ℕ
  behind = (w * 2 ^ (run.len % 64)) % 2 ^ 64

  module _ (er : run ≡ peeked s.runs w) (el : level ≡ peeked s.levels behind) where
    first-is : Foretells s.runs w run.len run.value
    first-is = subst (λ (x : Peeked). Foretells s.runs w x.len x.value) (sym er) (peeked-foretells s.runs books.runs w)

    second_is : Foretells s.levels behind level.len level.value
    second_is = subst (λ (x : Peeked). Foretells s.levels behind x.len x.value) (sym el) (peeked-foretells s.levels books.levels behind)

    pub pair-short : run.len + level.len ≤ 512
    pair-short = omega (arith, first-is.short, second_is.short)

    pub pair-shown : Shows shown w (drop s.at B) → run.len + level.len + 1 ≤ shown → PairShown B s run level (eqb ((behind * 2 ^ level.len) % 2 ^ 64 / 2 ^ 63) 1)
    pair-shown shows used =
        let whole : run.len % 64 ≡ run.len = mod-eq_of_lt (omega arith) in
        let mid : ℕ = s.at + run.len in
        let later = subst (λ (i : ℕ). Shows (shown - run.len) ((w * 2 ^ i) % 2 ^ 64) (drop mid B)) (sym whole)
        (shows-next B s.at shown w shows (omega arith) run.len (omega arith)) in
        record {
          first = gives-code B s.at shown w shows (omega arith) s.runs run.len run.value first-is (omega arith);
          second = gives-code B mid (shown - run.len) behind later (omega arith) s.levels level.len level.value second_is (omega arith);
          sign = has-sign B (mid + level.len) (shown - run.len - level.len) ((behind * 2 ^ level.len) % 2 ^ 64)
              (shows-next B mid (shown - run.len) behind later (omega arith) level.len (omega arith)) (omega arith) (omega arith);
        }

-- what was seen leads on: from where the run led, if it led on
module _ (B : List Bool) (total : ℕ) (s : Acs) (due : RunDue B total s) (run level : Peeked) (negative : Bool) (shows : PairShown B s run level negative) where
  abbrev mid : ℕ
  mid = s.at + run.len

  led : (x : Result Acs Refusal) → run_step_of total s run.value mid ≡ x → RunStepped B total s x
  led x e = subst (λ (y : Result Acs Refusal). RunStepped B total s y) e (run-stepped B total s due run.value mid shows.first)

  pub shown-far : (why : Refusal) → run_step_of total s run.value mid ≡ Err why → PairStepped B total s (Err why)
  shown-far why e = pair-no B total s why (led (Err why) e)

  module _ (n : Acs) (e : run_step_of total s run.value mid ≡ Ok n) where
    pub shown-room : n.place < total
    shown-room = (led (Ok n) e).keeps.room

    pub shown-on : PairStepped B total s (level_step_of (level_of negative level.value) n level.value (mid + level.len + 1))
    shown-on =
        let x : Result (ℤ × Acs) Refusal = level_step_of (level_of negative level.value) n level.value (mid + level.len + 1) in
        let second : Gives (read_code n.levels) B n.at level.value (mid + level.len) =
        subst (λ (t : Acs). Gives (read_code t.levels) B t.at level.value (mid + level.len)) (sym (run_step_of-to total s run.value mid n e)) shows.second in
        pair-on B total s n (led (Ok n) e) x
        (level-stepped B n level.value (mid + level.len) second x
        (sign-stepped B n level.value (mid + level.len) negative (mid + level.len + 1) shows.sign (led (Ok n) e).keeps.books.runs))
