-- Where a reading of coefficients stands: it begins, a DC or a run and its level is stored, it is refused, or it ends. A loop's proof cites these laws
-- alone.
-- Assumes nothing.
use Prim.Native.Nat.{ℕ, zero, suc, ◌+◌, ◌-◌, ◌*◌, ◌≤◌, ◌<◌}
use native.Mathlib.Omega.{arith}
use mathlib.Core.Path.{◌≡◌, refl, sym, ap, ◌∙◌, subst}
use mathlib.Core.Bool.{Bool, true}
use mathlib.Core.List.{List, [], ◌∷◌, ◌++◌}
use lib.IntN.{ℤ, pos}
use lib.ListN.{length, take, drop, set, length-replicate, take-append-drop}
use Rattle.answers.specs.Answers.{read, decoding, settled}
use Rattle.answers.specs.Machine.{stop, refuses, accepted, Rejects, from}
use Rattle.answers.specs.Refusals.{number_of}
use Rattle.answers.specs.declared.Refusal.{Refusal}
use Rattle.answers.proofs.StandLaws.{stands_on, stands-rejects, stands-accepts}
use Rattle.bitstream.specs.Bits.{ended}
use Rattle.codeword.specs.declared.Codebook.{Codebook}
use Rattle.codeword_books.specs.Books.{run_book, level_book}
use Rattle.codeword_books.proofs.BookLaws.{run_book-in-use, level_book-in-use}
use Rattle.entropy_elements.specs.Decoding.{nil, State, first, run, after_dc, step, left_of, finish, start, decode}
use Rattle.entropy_elements.proofs.StepLaws.{step-ended, from-moved, from-stop, from-refused}
use Rattle.entropy_steps.specs.DcSteps.{first_state, next_state, first_due, dc_due, behind_dc, dc_moves, DcsIn, DcStepped}
use Rattle.entropy_steps.specs.RunSteps.{run_state}
use Rattle.entropy_steps.specs.PairSteps.{PairTo, PairStepped}
use Rattle.entropy_steps.specs.Standing.{CoefficientsStand, left_behind, DcsStand, AcsStand, behind_dcs}
use Rattle.entropy_steps.specs.declared.Dcs.{Dcs}
use Rattle.std.specs.Prelude.{Ok, Err}
use Rattle.entropy_steps.specs.declared.Acs.{Acs}
use Rattle.entropy_steps.proofs.ZeroLaws.{take_put, zero-put}

-- ---- a value is stored at place i behind zeros; a step is refused; no element is due

module _ {B : List Bool} {blocks : ℕ} {st : State} {place at : ℕ} {out : List ℤ} (s : CoefficientsStand B blocks st place at out) where
  put : (i : ℕ) (v : ℤ) (st' : State) (at' : ℕ) → place ≤ i → i < 64 * blocks → at' ≤ length B
      → from step finish st (take place out) (drop at B) ≡ from step finish st' (take place out ++ (nil (i - place) ++ (v ∷ []))) (drop at' B)
      → CoefficientsStand B blocks st' (i + 1) at' (set out i v)
  put i v st' at' low high w e =
      record {
        stands = stands_on step finish s.stands st' (i + 1) at' (set out i v) (nil (i - place) ++ (v ∷ [])) e (take_put s.zeros i v low high) w;
        zeros = zero-put s.zeros i v low high;
      }

  refuse-here : (k : ℕ) → step st (drop at B) ≡ refuses k → Rejects k (decode blocks B)
  refuse-here k e = stands-rejects step finish s.stands k (record { bits = drop at B; is = from-refused st (take place out) (drop at B) k e })

  stop-here : step st (drop at B) ≡ stop → left_of st ≡ 64 * blocks - place → decoding (read at) out ≡ settled (pos 0) B (64 * blocks) (decode blocks B)
  stop-here e l =
      let whole : take place out ++ nil (left_of st) ≡ out =
      ap (λ (t : List ℤ). take place out ++ t) (ap nil l ∙ sym s.zeros.behind) ∙ take-append-drop place out in
      stands-accepts step finish s.stands (pos 0) (64 * blocks) out
      (from-stop st (take place out) (drop at B) e ∙ ap (λ (t : List ℤ). accepted t (drop at B)) whole)

  -- the DC t that is due here is stored
  put-dc : (t : Dcs) → place < blocks → DcsIn B t → step st (drop at B) ≡ dc_moves B (left_behind blocks (place + 1)) t → DcsStand B blocks (place + 1) t (set out place t.dc)
  put-dc t h k e =
      let st' : State = behind_dc t (left_behind blocks (place + 1)) in
      let none : 0 ≡ place - place = omega arith in
      record {
        here = put place t.dc st' t.at (omega arith) (omega arith) k.within
            (from-moved st (take place out) (drop at B) _ _ _ e
            ∙ ap (λ (j : ℕ). from step finish st' (take place out ++ (nil j ++ (t.dc ∷ []))) (drop t.at B)) none);
        range = k.range;
        due = omega arith;
        book = k.book;
      }

-- ---- the start

at-start : (B : List Bool) (blocks : ℕ) (out : List ℤ) → out ≡ nil (64 * blocks) → CoefficientsStand B blocks (start blocks) 0 0 out
unfolding decode
at-start B blocks out e =
    let all : 64 * blocks ≡ 64 * blocks - 0 = omega arith in
    record {
      stands = record { same = refl; within = omega arith };
      zeros = record { behind = e ∙ ap nil all; long = ap length e ∙ length-replicate (64 * blocks) (pos 0) };
    }

run-full : (left : ℕ) (rb lb : Codebook) (bs : List Bool) → left ≡ 0 → step (run left rb lb) bs ≡ stop
unfolding step
run-full left rb lb bs e = rw e

-- no block: nothing is read
pub none_read : (B : List Bool) (blocks : ℕ) (out : List ℤ) → blocks ≡ 0 → out ≡ nil (64 * blocks)
    → decoding (read 0) out ≡ settled (pos 0) B (64 * blocks) (decode blocks B)
none_read B (suc b) out z e = absurd (omega arith)
none_read B zero out z e = stop-here (at-start B 0 out e) (run-full 0 (run_book 4) (level_book 1) B refl) refl

-- ---- DCs

-- the first one
module _ (B : List Bool) (blocks : ℕ) (out : List ℤ) (some : 0 < blocks) (clear : out ≡ nil (64 * blocks)) where
  first-due : CoefficientsStand B blocks (first_state (left_behind blocks 1)) 0 0 out
  first-due = go blocks some (at-start B blocks out clear)
    where
      go : (b : ℕ) → 0 < b → CoefficientsStand B b (start b) 0 0 out → CoefficientsStand B b (first_state (left_behind b 1)) 0 0 out
      go zero h s = absurd (omega arith)
      go (suc b) h s = let e : b ≡ suc b - 1 = omega arith in subst (λ (k : ℕ). CoefficientsStand B (suc b) (first k (63 * suc b)) 0 0 out) e s

  pub dcs-first : (t : Dcs) → DcStepped B first_due (Ok t) → DcsStand B blocks 1 t (set out 0 t.dc)
  dcs-first t g = put-dc first-due t some g.keeps (g.is (left_behind blocks 1))

  pub first-rejects : (why : Refusal) → DcStepped B first_due (Err why) → Rejects (number_of why) (decode blocks B)
  first-rejects why g = refuse-here first-due (number_of why) (g.is (left_behind blocks 1))

-- the others
module _ {B : List Bool} {blocks n : ℕ} {s : Dcs} {out : List ℤ} (d : DcsStand B blocks n s out) where
  next-due : n < blocks → CoefficientsStand B blocks (next_state s (left_behind blocks (n + 1))) n s.at out
  next-due h =
      let e : blocks - n ≡ suc (blocks - (n + 1)) = omega arith in
      subst (λ (k : ℕ). CoefficientsStand B blocks (after_dc k (63 * blocks) s.dc s.negative s.book) n s.at out) e d.here

  pub dcs-put : (t : Dcs) → n < blocks → DcStepped B (dc_due s) (Ok t) → DcsStand B blocks (n + 1) t (set out n t.dc)
  dcs-put t h g = put-dc (next-due h) t h g.keeps (g.is (left_behind blocks (n + 1)))

  pub next-rejects : (why : Refusal) → n < blocks → DcStepped B (dc_due s) (Err why) → Rejects (number_of why) (decode blocks B)
  next-rejects why h g = refuse-here (next-due h) (number_of why) (g.is (left_behind blocks (n + 1)))

  pub dcs-all : blocks ≤ n → AcsStand B blocks (behind_dcs blocks s.at) out
  dcs-all h =
      let e : n ≡ blocks = omega (arith, d.due) in
      let none : blocks - n ≡ 0 = omega (arith, d.due) in
      let rest : 63 * blocks ≡ 64 * blocks - blocks = omega arith in
      let a : CoefficientsStand B blocks (run (63 * blocks) (run_book 4) (level_book 1)) n s.at out =
      subst (λ (k : ℕ). CoefficientsStand B blocks (after_dc k (63 * blocks) s.dc s.negative s.book) n s.at out) none d.here in
      let b = subst (λ (k : ℕ). CoefficientsStand B blocks (run (63 * blocks) (run_book 4) (level_book 1)) k s.at out) e a in
      record {
        here = subst (λ (k : ℕ). CoefficientsStand B blocks (run k (run_book 4) (level_book 1)) blocks s.at out) rest b;
        room = omega arith;
        books = record { runs = run_book-in-use 4; levels = level_book-in-use 1 };
      }

-- ---- runs and levels

module _ {B : List Bool} {blocks : ℕ} {s : Acs} {out : List ℤ} (a : AcsStand B blocks s out) where
  pub acs-put : (v : ℤ) (n : Acs) → PairTo B (64 * blocks) s v n → AcsStand B blocks n (set out (n.place - 1) v)
  acs-put v n g =
      let e : n.place - 1 + 1 ≡ n.place = omega (arith, g.further) in
      record {
        here = subst (λ (k : ℕ). CoefficientsStand B blocks (run_state (64 * blocks) n) k n.at (set out (n.place - 1) v)) e
            (put a.here (n.place - 1) v (run_state (64 * blocks) n) n.at (omega (arith, g.further)) (omega (arith, g.further, g.room)) g.within
            (g.is (take s.place out)));
        room = g.room;
        books = g.books;
      }

  -- a refusal is the whole reading's
  pub acs-rejects : (why : Refusal) → PairStepped B (64 * blocks) s (Err why) → Rejects (number_of why) (decode blocks B)
  acs-rejects why g = stands-rejects step finish a.here.stands (number_of why) (g (take s.place out))

  pub acs-ended : ended (drop s.at B) ≡ true → decoding (read s.at) out ≡ settled (pos 0) B (64 * blocks) (decode blocks B)
  acs-ended e = stop-here a.here (step-ended (64 * blocks - s.place) s.runs s.levels (drop s.at B) e) refl

  pub acs-full : 64 * blocks ≤ s.place → decoding (read s.at) out ≡ settled (pos 0) B (64 * blocks) (decode blocks B)
  acs-full h = stop-here a.here (run-full (64 * blocks - s.place) s.runs s.levels (drop s.at B) (omega arith)) refl
