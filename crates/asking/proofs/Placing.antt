-- The place asked for, by which store's name the text begins with, from what `strip_prefix` says of the two names.
-- Assumes nothing.
use Rattle.std.proofs.Common.{ℕ, List, true, false, ◌≡◌, take, drop, nat_eq}
use Rattle.std.specs.Prelude.{Option, None}
use Rattle.std.specs.Option.{option_map}
use Rattle.std.specs.Cmp.Lexicographic.{pointwise}
use Rattle.machine.specs.declared.Place.TheVariants.{Main, Port}
use Rattle.text.specs.Text.{text}
use Rattle.text.proofs.Standing.{begins_is}
use Rattle.counter.specs.Routine.{line_after}
use Rattle.asking.specs.Asking.{asked}

module _ (t rest : List ℕ) (number : Option ℕ) (behind : rest ≡ drop 5 t) (read : number ≡ line_after 5 0 rest) where
  pub in_main : pointwise nat_eq (take 5 t) (text "main ") ≡ true → option_map (λ a. Main (record { 0 = a })) number ≡ asked t
  unfolding asked
  in_main e = rw (← begins_is (text "main ") t, e, read, behind)

  pub in_ports : pointwise nat_eq (take 5 t) (text "main ") ≡ false
      → pointwise nat_eq (take 5 t) (text "port ") ≡ true
      → option_map (λ a. Port (record { 0 = a })) number ≡ asked t
  unfolding asked
  in_ports n e = rw (← begins_is (text "main ") t, n, ← begins_is (text "port ") t, e, read, behind)

pub in_neither : (t : List ℕ)
    → pointwise nat_eq (take 5 t) (text "main ") ≡ false
    → pointwise nat_eq (take 5 t) (text "port ") ≡ false
    → None ≡ asked t
unfolding asked
in_neither t n o = rw (← begins_is (text "main ") t, n, ← begins_is (text "port ") t, o)
