-- The two names are tried in turn, and the digits stand behind.
-- Assumes nothing.
use Rattle.std.proofs.Common.{◌∙◌, Some, None}
use Rattle.asking.proofs.Placing.{in_main, in_ports, in_neither}
use Rattle.asking.proofs.place.asked_place.Goals as goal

pub returns-in_err-read_line : goal.returns-in_err-read_line
returns-in_err-read_line c =
    let name = c.in-Some.ensures.cases in
    c.from_residual.ensures ∙ in_main c.args.text.now _ None name.1 c.in_err-read_line.ensures name.0

pub returns-in-Some : goal.returns-in-Some
returns-in-Some c =
    let name = c.in-Some.ensures.cases in
    in_main c.args.text.now _ (Some _) name.1 c.in_ok-read_line.ensures name.0

pub returns-in_err-number : goal.returns-in_err-number
returns-in_err-number c = c.from_residual-in_err-number.ensures ∙ in_neither c.args.text.now c.in_default.ensures.cases c.in_err-number.ensures.cases

pub returns-in_err-read_line-2 : goal.returns-in_err-read_line-2
returns-in_err-read_line-2 c =
    let name = c.in_ok-number.ensures.cases in
    c.from_residual-in_err-read_line-2.ensures
    ∙ in_ports c.args.text.now _ None name.1 c.in_err-read_line-2.ensures c.in_default.ensures.cases name.0

pub returns : goal.returns
returns c =
    let name = c.in_ok-number.ensures.cases in
    in_ports c.args.text.now _ (Some _) name.1 c.in_ok-read_line-2.ensures c.in_default.ensures.cases name.0
