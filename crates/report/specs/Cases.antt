-- Document 01, "Cases on each side": the thirteen starred cases, each the state before a step and the state after it.
-- The word stands at P; registers and flags not named start at 0 and stay; P becomes N where no other P is named.
-- Assumes nothing.
use Rattle.std.specs.Prelude.{ℕ, Bool, List, [], ◌∷◌, replicate, set}
use Rattle.report.specs.AnnexA.{Mem, T, F}
use Rattle.report.specs.Section3.{State}

-- A board of 48 main words, w at P, and v at the address 20 (hex), with 8 ports that hold 7 each.
abbrev pub board : ℕ → ℕ → ℕ → Mem
board w p v = record { main = set (set (replicate 48 0) 0x20 v) p w; ports = replicate 8 7 }

-- A word and the state it is met in: the word, P, A, X, B.
abbrev pub met : ℕ → ℕ → ℕ → ℕ → Bool → State
met w p a x b = (board w p 0, p, a, x, 0, b, F)

abbrev pub Case : Type 0
Case = State × State

abbrev pub starred : List Case
starred =
    -- 00500001, A 7FFFFFFF: A 80000000, STOP
    (met 0x00500001 0 0x7FFFFFFF 0 F, (board 0x00500001 0 0, 1, 0x80000000, 0, 0, F, T)) ∷
    -- 00400001, A FFFFFFFF: A 0, B 1
    (met 0x00400001 0 0xFFFFFFFF 0 F, (board 0x00400001 0 0, 1, 0, 0, 0, T, F)) ∷
    -- 00700001, A 80000000: A 7FFFFFFF, STOP
    (met 0x00700001 0 0x80000000 0 F, (board 0x00700001 0 0, 1, 0x7FFFFFFF, 0, 0, F, T)) ∷
    -- 01000000, A FFFFFFFF: B 1
    (met 0x01000000 0 0xFFFFFFFF 0 F, (board 0x01000000 0 0, 1, 0xFFFFFFFF, 0, 0, T, F)) ∷
    -- 01600000, A FFFFFFFF, B 0: B 0
    (met 0x01600000 0 0xFFFFFFFF 0 F, (board 0x01600000 0 0, 1, 0xFFFFFFFF, 0, 0, F, F)) ∷
    -- 2C0FFFFF, X 1: STOP, nothing written
    (met 0x2C0FFFFF 0 0 1 F, (board 0x2C0FFFFF 0 0, 1, 0, 1, 0, F, T)) ∷
    -- C0400000, P 7: A 8, B 0
    (met 0xC0400000 7 0 0 F, (board 0xC0400000 7 0, 8, 8, 0, 0, F, F)) ∷
    -- 08400000, B 0: STOP
    (met 0x08400000 0 0 0 F, (board 0x08400000 0 0, 1, 0, 0, 0, F, T)) ∷
    -- 283FFFFF, X 1, B 0: P + 1, no halt
    (met 0x283FFFFF 0 0 1 F, (board 0x283FFFFF 0 0, 1, 0, 1, 0, F, F)) ∷
    -- 06100100, P 7: P 100 (hex), Y 8
    (met 0x06100100 7 0 0 F, (board 0x06100100 7 0, 0x100, 0, 0, 8, F, F)) ∷
    -- 16100020, P 7, main 20 (hex) holds 00100000: P 0, Y 8, STOP
    ((board 0x16100020 7 0x00100000, 7, 0, 0, 0, F, F), (board 0x16100020 7 0x00100000, 0, 0, 0, 8, F, T)) ∷
    -- 10C00000, A 1, B 1: A 80000000, B 1
    (met 0x10C00000 0 1 0 T, (board 0x10C00000 0 0, 1, 0x80000000, 0, 0, T, F)) ∷
    -- 20CFFFFF, X 1, A 40000000: A 80000000, STOP by overflow
    (met 0x20CFFFFF 0 0x40000000 1 F, (board 0x20CFFFFF 0 0, 1, 0x80000000, 1, 0, F, T)) ∷ []
