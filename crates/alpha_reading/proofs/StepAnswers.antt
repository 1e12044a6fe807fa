-- One step of the decoder, by what was read of a payload at it, as the code answers. A function's proof cites these laws alone.
-- Assumes nothing.
use Prim.Native.Nat.{ℕ, ◌+◌, ◌-◌, ◌/◌, ◌^◌, ◌≤◌, ◌<◌}
use native.Mathlib.Omega.{arith}
use mathlib.Core.Path.{◌≡◌, refl, sym, ap, ◌∙◌}
use mathlib.Core.Bool.{Bool, true, false, cond}
use mathlib.Core.List.{List, [], ◌∷◌}
use lib.Dec.{leb, eqb}
use lib.IntN.{ℤ, pos}
use lib.ListN.{length, replicate, drop, length-append, length-drop}
use borrow.Author.Tests.{leb-true, eq-eqb, ne_eqb}
use Rattle.std.specs.Prelude.{Result, Ok, Err}
use Rattle.answers.specs.Reading.{Parsed, got, refused}
use Rattle.answers.specs.Refusals.{number_of}
use Rattle.answers.specs.Machine.{moved, refuses, on_read}
use Rattle.answers.specs.Stepped.{Stepped}
use Rattle.answers.specs.declared.Refusal.{Refusal}
use Rattle.answers.specs.declared.Refusal.TheVariants.{AlphaOverrun, LongRun}
use Rattle.answers.proofs.StepLaws.{on_read-got}
use Rattle.answers.proofs.SteppedLaws.{stepped-no, stepped-got, stepped_by}
use Rattle.bitstream.specs.Bits.{odd, field, bits_of}
use Rattle.bitstream.specs.Reading.{read_field, read_bits}
use Rattle.bitstream.specs.Told.{payload_limit, gives, refusal, outcome_at}
use Rattle.bitstream.specs.declared.Cursor.{Cursor}
use Rattle.bitstream.proofs.FieldLaws.{length-field}
use Rattle.bitstream.proofs.ReadLaws.{read_field-short, read_field-all, read_bits-field, field-read_field, read_field-bit, read_field-bit-no, read_bits-local, told-got, told-refused}
use Rattle.bitstream.proofs.AnswerLaws.{bit-some}
use Rattle.codeword_signs.specs.Signs.{signed}
use Rattle.alpha_elements.specs.declared.AlphaChannelType.{AlphaChannelType}
use Rattle.alpha_elements.specs.Kinds.{width_of, small_width_of, limit_of, mask_of}
use Rattle.alpha_elements.specs.Values.{sample_of, previous_of}
use Rattle.alpha_elements.specs.Decoding.{StepA, difference, alpha_run, difference_to, small_to, difference_step, alpha_run_to, long_to, short_to, run_step}
use Rattle.alpha_elements.proofs.KindLaws.{pow-width, pow-small-sign, sizes}
use Rattle.alpha_elements.proofs.StepLaws.{long_to-low, long_to-run, short_to-run}
use Rattle.alpha_reading.specs.Steps.{sample_moves, SampleIn, SampleStepped, run_of, alpha_run_moves, AlphaRunIn, AlphaRunStepped}

-- the magnitude - 1, with the sign behind it
abbrev pub small_spelt : ℕ → ℤ
small_spelt v = signed (odd v) (v / 2)

-- the small field and its sign are one field: where one of them is cut off, the answer is the same
small-field : (k : AlphaChannelType) (left : ℕ) (p : ℤ) (bs : List Bool)
    → on_read (read_field (small_width_of k) bs) (λ m u. small_to k left p m u) ≡ on_read (read_field (small_width_of k + 1) bs) (λ v u. difference_to k left p (small_spelt v) u)
small-field k left p bs = go (read_field (small_width_of k + 1) bs) refl
  where
    go : (y : Parsed) → read_field (small_width_of k + 1) bs ≡ y
        → on_read (read_field (small_width_of k) bs) (λ m u. small_to k left p m u) ≡ on_read y (λ v u. difference_to k left p (small_spelt v) u)
    go (got v t) e = on_read-got (λ m u. small_to k left p m u) (read_field-bit (small_width_of k) bs v t e).0
    go (refused n) e = read_field-bit-no (small_width_of k) bs n e (λ y. on_read y (λ m u. small_to k left p m u)) refuses refl (λ m. refl)

-- a step that wants a bit is refused where there is none
bit-none : (bs : List Bool) (n : ℕ) → read_field 1 bs ≡ refused n → (f : List Bool → StepA) → f [] ≡ refuses 5 → f bs ≡ refuses n
bit-none [] n e f none =
    let x : refused 5 ≡ refused n = sym (read_field-short 1 [] (omega arith)) ∙ e in
    none ∙ (cc)
bit-none (g ∷ u) n e f none = let x = read_field-all 1 (g ∷ u) (omega arith) in absurd (cc)

module _ (p : List ℕ) (fits : length p ≤ payload_limit) where
  abbrev B : List Bool
  B = bits_of p

  -- ---- what was read of the payload, which is not too long

  module _ (at w : ℕ) (narrow : w ≤ 32) where
    read-none : (why : Refusal) → refusal (number_of why) ≡ outcome_at (read_bits w) p at → read_field w (drop at B) ≡ refused (number_of why)
    read-none why e = sym (read_bits-field w (drop at B) narrow) ∙ told-refused (read_bits w) p at fits (number_of why) e

    -- the value v, and the bits behind it
    pub record FieldRead (v : ℕ) (c : Cursor) : Type 0 where
      pub is : read_field w (drop at B) ≡ got v (drop c.at B)
      pub small : v < 2 ^ w
      pub within : 0 < w → c.at ≤ length B

    pub read-some : (v : ℕ) (c : Cursor) → gives v c.at ≡ outcome_at (read_bits w) p at → FieldRead v c
    read-some v c e =
        let t = told-got (read_bits w) p at (read_bits-local w) fits v c.at e in
        let is : read_field w (drop at B) ≡ got v (drop c.at B) = sym (read_bits-field w (drop at B) narrow) ∙ t.0 in
        let f = field-read_field w (drop at B) v (drop c.at B) is in
        let long : length (drop at B) ≡ w + length (drop c.at B) = ap length f.0 ∙ omega (arith, length-append (field w v) (drop c.at B), length-field w v) in
        record { is = is; small = f.1; within = λ some. omega (arith, long, t.1, t.2, length-drop at B) }

  -- ---- an element begins with what was read

  module _ {C T : Type 0} {to : C → T → StepA} {Keeps : T → Type 0} (at : ℕ) where
    -- a bit
    module _ (step : C → List Bool → StepA) where
      pub bit-refused : ((s : C) → step s [] ≡ refuses 5) → (why : Refusal) → refusal (number_of why) ≡ outcome_at (read_bits 1) p at
          → Stepped to Keeps (λ s. step s (drop at B)) (Err why)
      bit-refused none why e =
          record { is = λ s. bit-none (drop at B) (number_of why) (read-none at 1 (omega arith) why e) (step s) (none s); keeps = tt }

      pub bit-read : (v : ℕ) (c : Cursor) → gives v c.at ≡ outcome_at (read_bits 1) p at → (b : Bool) → eqb v 1 ≡ b → {r : Result T Refusal}
          → Stepped to Keeps (λ s. step s (b ∷ drop c.at B)) r → Stepped to Keeps (λ s. step s (drop at B)) r
      bit-read v c e b t =
          stepped_by (λ s. ap (step s) (bit-some (drop at B) v (drop c.at B) (read-some at 1 (omega arith) v c e).is ∙ ap (λ (x : Bool). x ∷ drop c.at B) t))

    -- a field of w bits
    module _ (w : ℕ) (narrow : w ≤ 32) (f : C → ℕ → List Bool → StepA) where
      pub field-refused : (why : Refusal) → refusal (number_of why) ≡ outcome_at (read_bits w) p at → Stepped to Keeps (λ s. on_read (read_field w (drop at B)) (f s)) (Err why)
      field-refused why e = stepped-no f (λ s. refl) (read-none at w narrow why e)

      pub field-read : (v : ℕ) (c : Cursor) → gives v c.at ≡ outcome_at (read_bits w) p at → {r : Result T Refusal} → Stepped to Keeps (λ s. f s v (drop c.at B)) r
          → Stepped to Keeps (λ s. on_read (read_field w (drop at B)) (f s)) r
      field-read v c e = stepped-got f (λ s. refl) (read-some at w narrow v c e).is

  -- ---- a difference

  module _ (k : AlphaChannelType) (prev at : ℕ) where
    abbrev step : ℕ → List Bool → StepA
    step left bs = difference_step k left (previous_of prev) bs

    pub difference-refused : (why : Refusal) → refusal (number_of why) ≡ outcome_at (read_bits 1) p at → SampleStepped B k prev at (Err why)
    unfolding difference_step
    difference-refused why e = bit-refused at step (λ left. refl) why e

    -- the first bit was read, and then a field of w bits is due, which spells the difference
    module _ (first : ℕ) (b : Cursor) (e : gives first b.at ≡ outcome_at (read_bits 1) p at) where
      abbrev Behind : ℕ → (ℕ → ℤ) → Result (ℕ × Cursor) Refusal → Type 0
      Behind w spelt r = Stepped (sample_moves B) (SampleIn B k) (λ left. on_read (read_field w (drop b.at B)) (λ v u. difference_to k left (previous_of prev) (spelt v) u)) r

      behind-refused : (w : ℕ) (spelt : ℕ → ℤ) → w ≤ 32 → (why : Refusal) → refusal (number_of why) ≡ outcome_at (read_bits w) p b.at → Behind w spelt (Err why)
      behind-refused w spelt narrow why f = field-refused b.at w narrow (λ left v u. difference_to k left (previous_of prev) (spelt v) u) why f

      behind-read : (w : ℕ) (spelt : ℕ → ℤ) → w ≤ 32 → 0 < w → (v : ℕ) (c : Cursor) → gives v c.at ≡ outcome_at (read_bits w) p b.at → (x : ℕ)
          → (x ≡ sample_of k (previous_of prev) (spelt v)) × (x ≤ mask_of k) → Behind w spelt (Ok (x, c))
      behind-read w spelt narrow some v c f x s =
          field-read b.at w narrow (λ left v u. difference_to k left (previous_of prev) (spelt v) u) v c f
          (record {
            is = λ left. ap (λ (y : ℕ). moved (alpha_run left y) [] (drop c.at B)) (sym s.0);
            keeps = record { range = s.1; within = (read-some b.at w narrow v c f).within some };
          })

      -- a 1: all of the difference
      module _ (one : first ≡ 1) where
        escaped : {r : Result (ℕ × Cursor) Refusal} → Behind (width_of k) pos r → SampleStepped B k prev at r
        unfolding difference_step
        escaped = bit-read at step first b e true (eq-eqb first 1 one)

        pub escaped-refused : (why : Refusal) → refusal (number_of why) ≡ outcome_at (read_bits (width_of k)) p b.at → SampleStepped B k prev at (Err why)
        escaped-refused why f = escaped (behind-refused (width_of k) pos (omega (arith, (sizes k).width)) why f)

        module _ (raw : ℕ) (c : Cursor) (f : gives raw c.at ≡ outcome_at (read_bits (width_of k)) p b.at) where
          pub escaped-fits : raw ≤ mask_of k
          escaped-fits = omega (arith, (read-some b.at (width_of k) (omega (arith, (sizes k).width)) raw c f).small, pow-width k)

          pub escaped-read : (x : ℕ) → (x ≡ sample_of k (previous_of prev) (pos raw)) × (x ≤ mask_of k) → SampleStepped B k prev at (Ok (x, c))
          escaped-read x s = escaped (behind-read (width_of k) pos (omega (arith, (sizes k).width)) (omega (arith, (sizes k).narrow)) raw c f x s)

      -- a 0: the magnitude - 1, with the sign behind it
      module _ (none : first ≡ 1 → ⊥) where
        small : {r : Result (ℕ × Cursor) Refusal} → Behind (small_width_of k + 1) small_spelt r → SampleStepped B k prev at r
        unfolding difference_step
        small r = bit-read at step first b e false (ne_eqb first 1 none) (stepped_by (λ left. small-field k left (previous_of prev) (drop b.at B)) r)

        pub small-refused : (why : Refusal) → refusal (number_of why) ≡ outcome_at (read_bits (small_width_of k + 1)) p b.at → SampleStepped B k prev at (Err why)
        small-refused why f = small (behind-refused (small_width_of k + 1) small_spelt (omega (arith, (sizes k).small)) why f)

        module _ (v : ℕ) (c : Cursor) (f : gives v c.at ≡ outcome_at (read_bits (small_width_of k + 1)) p b.at) where
          pub small-fits : v / 2 < limit_of k
          small-fits = omega (arith, (read-some b.at (small_width_of k + 1) (omega (arith, (sizes k).small)) v c f).small, pow-small-sign k)

          pub small-read : (x : ℕ) → (x ≡ sample_of k (previous_of prev) (small_spelt v)) × (x ≤ mask_of k) → SampleStepped B k prev at (Ok (x, c))
          small-read x s = small (behind-read (small_width_of k + 1) small_spelt (omega (arith, (sizes k).small)) (omega arith) v c f x s)

  -- ---- a run

  module _ (left at : ℕ) where
    abbrev Run : (ℕ → StepA) → Result (ℕ × Cursor) Refusal → Type 0
    Run due r = Stepped (alpha_run_moves B left) (AlphaRunIn B left) due r

    run_of-stepped : (n : ℕ) (c : Cursor) → 0 < n → c.at ≤ length B → Run (λ v. alpha_run_to left v n (drop c.at B)) (run_of left n c)
    unfolding alpha_run_to run_of
    run_of-stepped n c some w = go (leb n left) refl
      where
        go : (b : Bool) → leb n left ≡ b → Run (λ v. cond b (moved (difference (left - n) (pos v)) (replicate n v) (drop c.at B)) (refuses 10)) (cond b (Ok (n, c)) (Err AlphaOverrun))
        go true e = record { is = λ v. refl; keeps = record { some = some; room = leb-true n left e; within = w } }
        go false e = record { is = λ v. refl; keeps = tt }

    pub run-refused : (why : Refusal) → refusal (number_of why) ≡ outcome_at (read_bits 1) p at → AlphaRunStepped B left at (Err why)
    unfolding run_step
    run-refused why e = bit-refused at (λ v bs. run_step left v bs) (λ v. refl) why e

    module _ (first : ℕ) (b : Cursor) (e : gives first b.at ≡ outcome_at (read_bits 1) p at) where
      pub run-one : first ≡ 1 → AlphaRunStepped B left at (run_of left 1 b)
      unfolding run_step
      run-one one =
          bit-read at (λ v bs. run_step left v bs) first b e true (eq-eqb first 1 one)
          (run_of-stepped 1 b (omega arith) ((read-some at 1 (omega arith) first b e).within (omega arith)))

      -- a 0: the short field
      module _ (none : first ≡ 1 → ⊥) where
        short : {r : Result (ℕ × Cursor) Refusal} → Run (λ v. on_read (read_field 4 (drop b.at B)) (λ n u. short_to left v n u)) r → AlphaRunStepped B left at r
        unfolding run_step
        short = bit-read at (λ v bs. run_step left v bs) first b e false (ne_eqb first 1 none)

        pub short-refused : (why : Refusal) → refusal (number_of why) ≡ outcome_at (read_bits 4) p b.at → AlphaRunStepped B left at (Err why)
        short-refused why f = short (field-refused b.at 4 (omega arith) (λ v n u. short_to left v n u) why f)

        module _ (n : ℕ) (c : Cursor) (f : gives n c.at ≡ outcome_at (read_bits 4) p b.at) where
          short-then : {r : Result (ℕ × Cursor) Refusal} → Run (λ v. short_to left v n (drop c.at B)) r → AlphaRunStepped B left at r
          short-then r = short (field-read b.at 4 (omega arith) (λ v n u. short_to left v n u) n c f r)

          pub short-read : (n ≡ 0 → ⊥) → AlphaRunStepped B left at (run_of left (n + 1) c)
          short-read z =
              short-then (stepped_by (λ v. short_to-run left v n (drop c.at B) (omega arith))
              (run_of-stepped (n + 1) c (omega arith) ((read-some b.at 4 (omega arith) n c f).within (omega arith))))

          -- it is 0: the long field
          module _ (z : n ≡ 0) where
            long : {r : Result (ℕ × Cursor) Refusal} → Run (λ v. on_read (read_field 11 (drop c.at B)) (λ m u. long_to left v m u)) r → AlphaRunStepped B left at r
            long r = short-then (stepped_by (λ v. ap (λ (m : ℕ). short_to left v m (drop c.at B)) z) r)

            pub long-refused : (why : Refusal) → refusal (number_of why) ≡ outcome_at (read_bits 11) p c.at → AlphaRunStepped B left at (Err why)
            long-refused why g = long (field-refused c.at 11 (omega arith) (λ v m u. long_to left v m u) why g)

            module _ (m : ℕ) (d : Cursor) (g : gives m d.at ≡ outcome_at (read_bits 11) p c.at) where
              long-then : {r : Result (ℕ × Cursor) Refusal} → Run (λ v. long_to left v m (drop d.at B)) r → AlphaRunStepped B left at r
              long-then r = long (field-read c.at 11 (omega arith) (λ v m u. long_to left v m u) m d g r)

              pub long-low : m < 16 → AlphaRunStepped B left at (Err LongRun)
              long-low h = long-then (record { is = λ v. long_to-low left v m (drop d.at B) h; keeps = tt })

              pub long-read : 16 ≤ m → AlphaRunStepped B left at (run_of left (m + 1) d)
              long-read h =
                  long-then (stepped_by (λ v. long_to-run left v m (drop d.at B) h)
                  (run_of-stepped (m + 1) d (omega arith) ((read-some c.at 11 (omega arith) m d g).within (omega arith))))
