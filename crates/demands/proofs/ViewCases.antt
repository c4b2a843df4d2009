-- The printed cases of a view (document 01, "The other operations"), computed: C has no views, so they are not among the lines of peer/cases.txt.
-- The board has 64 words in main and 16 ports, all clear but main 8, which holds 5, and port 8, which holds 7.
-- Assumes nothing.
use Prim.Native.Nat.{ℕ, zero, suc}
use mathlib.Core.Path.{◌≡◌, refl}
use mathlib.Core.Bool.{Bool, true, false}
use mathlib.Core.List.{List, [], ◌∷◌}
use lib.ListN.{length, set}
use Rattle.machine.specs.declared.Place.{Place}
use Rattle.machine.specs.declared.Place.TheVariants.{Main, Port}
use Rattle.viper.specs.Views.{viewed, view_fitted}

abbrev clear : ℕ → List ℕ
clear zero = []
clear (suc n) = 0 ∷ clear n

abbrev main : List ℕ
main = set (clear 64) 8 5

abbrev ports : List ℕ
ports = set (clear 16) 8 7

abbrev at_main : ℕ → Place
at_main a = Main (record { 0 = a })

abbrev at_port : ℕ → Place
at_port a = Port (record { 0 = a })

-- The words viewed, and whether they are wholly fitted.
abbrev pub view : Place → ℕ → List ℕ × Bool
view q n = (viewed main ports q n, view_fitted (length main) (length ports) q n)

-- Three words with the one that is not clear, from either store.
pub stretches : ◌≡◌ {A = List (List ℕ × Bool)} (view (at_main 7) 3 ∷ view (at_port 7) 3 ∷ []) ((0 ∷ 5 ∷ 0 ∷ [], true) ∷ (0 ∷ 7 ∷ 0 ∷ [], true) ∷ [])
stretches = refl

-- A whole store; and one word more, the last word and one more, a word past the end: not wholly fitted, so empty.
pub whole : ◌≡◌ {A = List (List ℕ × Bool)} (view (at_main 0) 64 ∷ view (at_port 0) 16 ∷ view (at_main 63) 1 ∷ []) ((main, true) ∷ (ports, true) ∷ (0 ∷ [], true) ∷ [])
whole = refl

pub unfitted : ◌≡◌ {A = List (List ℕ × Bool)}
    (view (at_main 0) 65 ∷ view (at_main 63) 2 ∷ view (at_main 64) 1 ∷ view (at_port 0) 17 ∷ view (at_port 15) 2 ∷ view (at_port 0xFFFFFFFF) 1
    ∷ view (at_port 16) 18446744073709551609 ∷ [])
    (([], false) ∷ ([], false) ∷ ([], false) ∷ ([], false) ∷ ([], false) ∷ ([], false) ∷ ([], false) ∷ [])
unfitted = refl

-- No word: empty, and fitted exactly when the address is at most the length.
pub none : ◌≡◌ {A = List (List ℕ × Bool)}
    (view (at_main 0) 0 ∷ view (at_main 64) 0 ∷ view (at_main 65) 0 ∷ view (at_port 16) 0 ∷ view (at_port 17) 0 ∷ [])
    (([], true) ∷ ([], true) ∷ ([], false) ∷ ([], true) ∷ ([], false) ∷ [])
none = refl
