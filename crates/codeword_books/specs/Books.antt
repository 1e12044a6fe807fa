-- The choice of codebook: document 01, "Choice of codebook"; RDD 36, Tables 9 to 11. E(k) is `ExpGolomb k`, C(q, r, e) is `RiceExp q r e`.
use Rattle.std.specs.Prelude.{ℕ, cond, leb}
use Rattle.codeword.specs.declared.Codebook.{Codebook}
use Rattle.codeword.specs.declared.Codebook.TheVariants.{ExpGolomb, RiceExp}

-- of the first DC
abbrev pub first_book : Codebook
first_book = ExpGolomb 5

-- of a DC difference, by the magnitude of the last one: 0 E0; 1 E1; 2 C(1,2,3); else E3
unfoldable pub dc_book : ℕ → Codebook
dc_book n = cond (leb n 0) (ExpGolomb 0) (cond (leb n 1) (ExpGolomb 1) (cond (leb n 2) (RiceExp 1 2 3) (ExpGolomb 3)))

-- of a run, by the last run: 0..1 C(2,0,1); 2..3 C(1,0,1); 4 E0; 5..8 C(1,1,2); 9..14 E1; else E2
unfoldable pub run_book : ℕ → Codebook
run_book n =
    cond (leb n 1) (RiceExp 2 0 1)
    (cond (leb n 3) (RiceExp 1 0 1)
    (cond (leb n 4) (ExpGolomb 0)
    (cond (leb n 8) (RiceExp 1 1 2) (cond (leb n 14) (ExpGolomb 1) (ExpGolomb 2)))))

-- of a level - 1, by the last such symbol: 0 C(2,0,2); 1 C(1,0,1); 2 C(2,0,1); 3 E0; 4..7 E1; else E2
unfoldable pub level_book : ℕ → Codebook
level_book n =
    cond (leb n 0) (RiceExp 2 0 2)
    (cond (leb n 1) (RiceExp 1 0 1)
    (cond (leb n 2) (RiceExp 2 0 1)
    (cond (leb n 3) (ExpGolomb 0) (cond (leb n 7) (ExpGolomb 1) (ExpGolomb 2)))))
