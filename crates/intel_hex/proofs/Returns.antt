-- Carriage returns put before line feeds change only how a line ends, since no digit is a line feed.
-- Assumes nothing.
use Prim.Native.Nat.{ℕ, ◌+◌, ◌-◌, ◌/◌, ◌%◌}
use mathlib.Core.Path.{◌≡◌, refl, ap, ◌∙◌}
use mathlib.Core.Bool.{Bool, true, false, cond, ◌&&◌}
use mathlib.Core.List.{List, [], ◌∷◌, ◌++◌}
use native.Mathlib.Omega.{arith}
use lib.Dec.{ltb, eqb}
use lib.ListN.{drop}
use borrow.Author.Tests.{ne_eqb}
use Rattle.text.specs.Digits.{digit}
use Rattle.intel_hex.specs.Layout.{pairs}
use Rattle.intel_hex.specs.Lines.{ending_of, ending}
use Rattle.intel_hex.specs.Returns.{first_choice, other_choices, with_returns}

-- The end of a line, with a carriage return or without, and what follows it.
abbrev pub feed : Bool → List ℕ → List ℕ
feed true rest = 13 ∷ 10 ∷ rest
feed false rest = 10 ∷ rest

abbrev pub feed_size : Bool → ℕ
feed_size true = 2
feed_size false = 1

pub feed_ends : (return : Bool) (rest : List ℕ) → ending (feed return rest) ≡ feed_size return
unfolding ending ending_of
feed_ends true rest = refl
feed_ends false rest = refl

pub feed_some : (return : Bool) → ltb 0 (feed_size return) ≡ true
feed_some true = refl
feed_some false = refl

pub after_feed : (return : Bool) (rest : List ℕ) → drop (feed_size return) (feed return rest) ≡ rest
after_feed true rest = refl
after_feed false rest = refl

pub feed_chosen : (choices : List Bool) (rest : List ℕ)
    → with_returns choices (10 ∷ rest) ≡ feed (first_choice choices) (with_returns (other_choices choices) rest)
unfolding with_returns
feed_chosen [] rest = refl
feed_chosen (true ∷ choices) rest = refl
feed_chosen (false ∷ choices) rest = refl

pub others_stay : (choices : List Bool) (sign : ℕ) (text : List ℕ) → (sign ≡ 10 → ⊥) → with_returns choices (sign ∷ text) ≡ sign ∷ with_returns choices text
unfolding with_returns
others_stay choices sign text g = rw (ne_eqb sign 10 g)

no_feed : (d : ℕ) → digit d ≡ 10 → ⊥
no_feed d e = go (ltb d 10) refl
  where
    go : (t : Bool) → ltb d 10 ≡ t → ⊥
    go true q =
        let n : 48 + d ≡ 10 = rw q at e in
        omega arith
    go false q =
        let n : 65 + (d - 10) ≡ 10 = rw q at e in
        omega arith

pub pairs_stay : (choices : List Bool) (bytes rest : List ℕ) → with_returns choices (pairs bytes ++ rest) ≡ pairs bytes ++ with_returns choices rest
pairs_stay choices [] rest = refl
pairs_stay choices (b ∷ bytes) rest =
    let high = digit (b / 16 % 16) in
    let low = digit (b % 16) in
    let more = pairs bytes ++ rest in
    others_stay choices high (low ∷ more) (no_feed (b / 16 % 16))
    ∙ ap (λ (t : List ℕ). high ∷ t) (others_stay choices low more (no_feed (b % 16)) ∙ ap (λ (t : List ℕ). low ∷ t) (pairs_stay choices bytes rest))

pub none_put : (text : List ℕ) → with_returns [] text ≡ text
unfolding with_returns
none_put [] = refl
none_put (sign ∷ text) = go (eqb sign 10) (none_put text)
  where
    go : (feeds : Bool) → with_returns [] text ≡ text
        → cond (feeds && false) (13 ∷ []) [] ++ (sign ∷ with_returns (cond feeds [] []) text) ≡ sign ∷ text
    go true e = ap (λ (t : List ℕ). sign ∷ t) e
    go false e = ap (λ (t : List ℕ). sign ∷ t) e
