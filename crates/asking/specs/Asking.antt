-- What `who` reads first, the place that is asked for, and the line that it prints of a hit (document 02, W7).
-- Assumes nothing.
use Rattle.std.specs.Prelude.{ℕ, cond, List, ◌++◌, drop, Option, None}
use Rattle.std.specs.Option.{option_map}
use Rattle.machine.specs.declared.Place.{Place}
use Rattle.machine.specs.declared.Place.TheVariants.{Main, Port}
use Rattle.text.specs.Text.{text}
use Rattle.text.specs.Digits.{decimal, hex}
use Rattle.text.specs.Stands.{begins}
use Rattle.counter.specs.Routine.{line_after}

-- `main 0000A` or `port 00000`, and a line feed: after the store's name, the line of five digits.
unfoldable pub asked : List ℕ → Option Place
asked t =
    let number = line_after 5 0 (drop 5 t) in
    cond (begins (text "main ") t) (option_map (λ a. Main (record { 0 = a })) number)
    (cond (begins (text "port ") t) (option_map (λ a. Port (record { 0 = a })) number)
    None)

-- How many operations back, P of the instruction, and the word's value before it and now.
unfoldable pub hit_line : ℕ → ℕ → ℕ → ℕ → List ℕ
hit_line back p old new =
    text "back "
    ++ decimal back
    ++ (text " P " ++ hex 5 p)
    ++ (text " old " ++ hex 8 old)
    ++ (text " new " ++ hex 8 new)
    ++ text "\n"
