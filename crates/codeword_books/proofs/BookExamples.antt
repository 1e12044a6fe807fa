-- The choice of codebook, computed at both ends of each row of document 01's tables.
-- Assumes nothing.
use mathlib.Core.Path.{◌≡◌, refl}
use Rattle.codeword.specs.declared.Codebook.TheVariants.{ExpGolomb, RiceExp}
use Rattle.codeword_books.specs.Books.{dc_book, run_book, level_book}

-- ---- after a DC difference of this magnitude

dc-at-0 : dc_book 0 ≡ ExpGolomb 0
unfolding dc_book
dc-at-0 = refl

dc-at-1 : dc_book 1 ≡ ExpGolomb 1
unfolding dc_book
dc-at-1 = refl

dc-at-2 : dc_book 2 ≡ RiceExp 1 2 3
unfolding dc_book
dc-at-2 = refl

dc-at-3 : dc_book 3 ≡ ExpGolomb 3
unfolding dc_book
dc-at-3 = refl

dc-at-4294967295 : dc_book 4294967295 ≡ ExpGolomb 3
unfolding dc_book
dc-at-4294967295 = refl

-- ---- after this run

run-at-0 : run_book 0 ≡ RiceExp 2 0 1
unfolding run_book
run-at-0 = refl

run-at-1 : run_book 1 ≡ RiceExp 2 0 1
unfolding run_book
run-at-1 = refl

run-at-2 : run_book 2 ≡ RiceExp 1 0 1
unfolding run_book
run-at-2 = refl

run-at-3 : run_book 3 ≡ RiceExp 1 0 1
unfolding run_book
run-at-3 = refl

run-at-4 : run_book 4 ≡ ExpGolomb 0
unfolding run_book
run-at-4 = refl

run-at-5 : run_book 5 ≡ RiceExp 1 1 2
unfolding run_book
run-at-5 = refl

run-at-8 : run_book 8 ≡ RiceExp 1 1 2
unfolding run_book
run-at-8 = refl

run-at-9 : run_book 9 ≡ ExpGolomb 1
unfolding run_book
run-at-9 = refl

run-at-14 : run_book 14 ≡ ExpGolomb 1
unfolding run_book
run-at-14 = refl

run-at-15 : run_book 15 ≡ ExpGolomb 2
unfolding run_book
run-at-15 = refl

run-at-4294967295 : run_book 4294967295 ≡ ExpGolomb 2
unfolding run_book
run-at-4294967295 = refl

-- ---- after a level of this symbol

level-at-0 : level_book 0 ≡ RiceExp 2 0 2
unfolding level_book
level-at-0 = refl

level-at-1 : level_book 1 ≡ RiceExp 1 0 1
unfolding level_book
level-at-1 = refl

level-at-2 : level_book 2 ≡ RiceExp 2 0 1
unfolding level_book
level-at-2 = refl

level-at-3 : level_book 3 ≡ ExpGolomb 0
unfolding level_book
level-at-3 = refl

level-at-4 : level_book 4 ≡ ExpGolomb 1
unfolding level_book
level-at-4 = refl

level-at-7 : level_book 7 ≡ ExpGolomb 1
unfolding level_book
level-at-7 = refl

level-at-8 : level_book 8 ≡ ExpGolomb 2
unfolding level_book
level-at-8 = refl

level-at-4294967295 : level_book 4294967295 ≡ ExpGolomb 2
unfolding level_book
level-at-4294967295 = refl
