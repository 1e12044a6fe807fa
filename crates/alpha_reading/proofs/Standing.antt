-- Where a reading stands between two pairs of a difference and a run. `AlphaStands` is the loop's invariant, and its proof cites the laws below and
-- those of answers alone.
-- Assumes nothing.
use Prim.Native.Nat.{ℕ, ◌+◌, ◌-◌, ◌≤◌, ◌<◌}
use native.Mathlib.Numerals.{add-one}
use native.Mathlib.Omega.{arith}
use mathlib.Core.Path.{◌≡◌, refl, sym, ap, ap₂, ◌∙◌}
use mathlib.Core.Bool.{Bool}
use mathlib.Core.List.{List, [], ◌++◌, append-nil, append_assoc}
use lib.IntN.{ℤ, pos, negsuc}
use lib.ListN.{length, replicate, take, drop, length-append, length-drop, length-replicate}
use lib.Seq.{take_at, take_all, length-take-le}
use borrow.Author.Tests.{ne_eqb}
use Rattle.common.proofs.Choices.{cond_no}
use Rattle.answers.specs.Refusals.{number_of}
use Rattle.std.specs.Prelude.{Ok, Err}
use Rattle.answers.specs.Machine.{from}
use Rattle.answers.specs.Answers.{read, refuse, decoding, settled}
use Rattle.answers.specs.declared.Refusal.{Refusal}
use Rattle.answers.proofs.StandLaws.{rejects-settled, stands_on, stands-rejects, stands-accepts}
use Rattle.bitstream.specs.declared.Cursor.{Cursor}
use Rattle.alpha_elements.specs.declared.AlphaChannelType.{AlphaChannelType}
use Rattle.alpha_elements.specs.Values.{previous_of}
use Rattle.alpha_elements.specs.Decoding.{difference, alpha_run, difference_step, run_step, alpha_step, alpha_finish, decode_alpha}
use Rattle.alpha_elements.proofs.Unique.{start-unique}
use Rattle.alpha_elements.proofs.StepLaws.{step_end, from-moved, from-stop, from-refused}
use Rattle.alpha_reading.specs.Steps.{difference_due, SampleStepped, AlphaRunStepped, from_difference, PairOn, AlphaPairStepped, AlphaStands, AlphaEnds}
use Rattle.alpha_reading.specs.declared.Alphas.{Alphas}

-- ---- a difference and its run

difference-due : (k : AlphaChannelType) (left : ℕ) (p : ℤ) (bs : List Bool) → 0 < left → alpha_step k (difference left p) bs ≡ difference_step k left p bs
unfolding alpha_step
difference-due k left p bs h = cond_no _ _ (ne_eqb left 0 (λ e. omega arith))

run-due : (k : AlphaChannelType) (left v : ℕ) (bs : List Bool) → alpha_step k (alpha_run left v) bs ≡ run_step left v bs
unfolding alpha_step
run-due k left v bs = refl

module _ (B : List Bool) (k : AlphaChannelType) (total : ℕ) (s : Alphas) (room : s.place < total) where
  due : alpha_step k (difference (total - s.place) (previous_of s.prev)) (drop s.cursor.at B) ≡ difference_due k s.prev s.cursor.at B (total - s.place)
  due = difference-due k (total - s.place) (previous_of s.prev) (drop s.cursor.at B) (omega arith)

  pub pair-refused : (why : Refusal) → SampleStepped B k s.prev s.cursor.at (Err why) → AlphaPairStepped B k total s (Err why)
  pair-refused why d = λ out. record { bits = drop s.cursor.at B; is = from-refused k _ out (drop s.cursor.at B) (number_of why) (due ∙ d.is (total - s.place)) }

  module _ (v : ℕ) (c : Cursor) (d : SampleStepped B k s.prev s.cursor.at (Ok (v, c))) where
    on-sample : (out : List ℕ) → from_difference B k total s out ≡ from (alpha_step k) alpha_finish (alpha_run (total - s.place) v) out (drop c.at B)
    on-sample out =
        from-moved k _ out (drop s.cursor.at B) _ _ _ (due ∙ d.is (total - s.place))
        ∙ ap (λ (l : List ℕ). from (alpha_step k) alpha_finish (alpha_run (total - s.place) v) l (drop c.at B)) (append-nil out)

    pub pair-run-refused : (why : Refusal) → AlphaRunStepped B (total - s.place) c.at (Err why) → AlphaPairStepped B k total s (Err why)
    pair-run-refused why r = λ out.
        record {
          bits = drop c.at B;
          is = on-sample out ∙ from-refused k _ out (drop c.at B) (number_of why) (run-due k (total - s.place) v (drop c.at B) ∙ r.is v);
        }

    pub pair-on : (n : ℕ) (b : Cursor) → AlphaRunStepped B (total - s.place) c.at (Ok (n, b))
        → AlphaPairStepped B k total s (Ok (v, record { cursor = b; place = s.place + n; prev = v + 1 }))
    pair-on n b r =
        let less : total - s.place - n ≡ total - (s.place + n) = omega arith in
        let many : n ≡ s.place + n - s.place = omega arith in
        let fits : n ≤ total - s.place = r.keeps.room in
        record {
          is = λ out.
              on-sample out
              ∙ from-moved k _ out (drop c.at B) _ _ _ (run-due k (total - s.place) v (drop c.at B) ∙ r.is v)
              ∙ ap₂ (λ (i j : ℕ). from (alpha_step k) alpha_finish (difference i (pos v)) (out ++ replicate j v) (drop b.at B)) less many
              ∙ ap (λ (q : ℕ). from (alpha_step k) alpha_finish (difference (total - (s.place + n)) (previous_of q)) (out ++ replicate (s.place + n - s.place) v) (drop b.at B))
              (sym (add-one v));
          further = omega (arith, r.keeps.some);
          room = omega arith;
          within = r.keeps.within;
          range = omega (arith, d.keeps.range);
        }

-- ---- the start, a pair that moves, the end

pub stands-start : (B : List Bool) (k : AlphaChannelType) (out : List ℕ) (c : Cursor) (prev : ℕ) → c.at ≡ 0 → previous_of prev ≡ negsuc 0
    → AlphaStands B k (length out) (record { cursor = c; place = 0; prev = prev }) out
unfolding decode_alpha
stands-start B k out c prev z e =
    let all : length out - 0 ≡ length out = omega arith in
    record {
      stands = record {
        same = ap₂ (λ (i : ℕ) (p : ℤ). from (alpha_step k) alpha_finish (difference i p) [] (drop c.at B)) all e
            ∙ ap (λ (j : ℕ). from (alpha_step k) alpha_finish (difference (length out) (negsuc 0)) [] (drop j B)) z;
        within = omega arith;
      };
      long = refl;
      room = omega arith;
      range = omega (arith, start-unique prev 0 e refl);
    }

module _ {B : List Bool} {k : AlphaChannelType} {total : ℕ} {s : Alphas} {out : List ℕ} (a : AlphaStands B k total s out) where
  -- the part of the list that is lent comes back filled with the run's samples
  module _ (v : ℕ) (n : Alphas) (g : PairOn B k total s v n) where
    abbrev run : ℕ
    run = n.place - s.place

    abbrev behind : List ℕ
    behind = drop s.place out

    lent : length (take run behind) ≡ run
    lent = length-take-le run behind (omega (arith, length-drop s.place out, a.long, g.room))

    pub stands-fill : (part : List ℕ) → part ≡ replicate (length (take run behind)) v → AlphaStands B k total n (take s.place out ++ (part ++ drop run behind))
    stands-fill part e =
        let filled : part ≡ replicate run v = e ∙ ap (λ (i : ℕ). replicate i v) lent in
        let front : length (take s.place out) ≡ s.place = length-take-le s.place out (omega (arith, a.long, a.room)) in
        let count : length (take s.place out ++ part) ≡ n.place =
        omega (arith, length-append (take s.place out) part, ap length filled, length-replicate run v, g.further) in
        let split : take s.place out ++ (part ++ drop run behind) ≡ (take s.place out ++ part) ++ drop run behind = sym (append_assoc (take s.place out) part (drop run behind)) in
        record {
          stands = stands_on (alpha_step k) alpha_finish a.stands _ n.place n.cursor.at _ (replicate run v) (g.is (take s.place out))
              (ap (take n.place) split ∙ take_at (take s.place out ++ part) (drop run behind) n.place count ∙ ap (λ (l : List ℕ). take s.place out ++ l) filled) g.within;
          long = ap length split ∙ omega (arith, length-append (take s.place out ++ part) (drop run behind), length-drop run behind, length-drop s.place out, a.long, g.further, g.room);
          room = g.room;
          range = g.range;
        }

  -- no sample is left
  module _ (all : total ≤ s.place) where
    last : from (alpha_step k) alpha_finish (difference (total - s.place) (previous_of s.prev)) (take s.place out) (drop s.cursor.at B)
        ≡ alpha_finish (difference 0 (previous_of s.prev)) out (drop s.cursor.at B)
    last =
        let none : total - s.place ≡ 0 = omega arith in
        let p : ℤ = previous_of s.prev in
        let whole : take s.place out ≡ out = take_all s.place out (omega (arith, a.long)) in
        ap₂ (λ (i : ℕ) (t : List ℕ). from (alpha_step k) alpha_finish (difference i p) t (drop s.cursor.at B)) none whole
        ∙ from-stop k (difference 0 p) out (drop s.cursor.at B) (step_end k p (drop s.cursor.at B))

    pub stands-done : AlphaEnds (drop s.cursor.at B) (Ok tt) → decoding (read s.cursor.at) out ≡ settled 0 B total (decode_alpha k total B)
    stands-done e = stands-accepts (alpha_step k) alpha_finish a.stands 0 total out (last ∙ e.is (difference 0 (previous_of s.prev)) out)

    pub stands-refused : (why : Refusal) → AlphaEnds (drop s.cursor.at B) (Err why) → decoding (refuse (number_of why)) (replicate total 0) ≡ settled 0 B total (decode_alpha k total B)
    stands-refused why e =
        rejects-settled 0 B total (number_of why)
        (stands-rejects (alpha_step k) alpha_finish a.stands (number_of why)
        (record { bits = drop s.cursor.at B; is = last ∙ e.is (difference 0 (previous_of s.prev)) out }))
