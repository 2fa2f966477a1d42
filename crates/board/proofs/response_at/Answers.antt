-- `board::response_at` meets its contract. Assumes nothing.
use mathlib.Core.Path.{◌≡◌, sym, ◌∙◌}
use native.Mathlib.Omega.{arith}
use lib.ListN.{length, get_or-eq_default}
use borrow.Author.Rules.{rules}
use Rattle.base.proofs.ListLaws.{length-mapped}
use Rattle.board.specs.rules.Board.{no_response}
use Rattle.board.proofs.response_at.Goals as goal

pub returns : goal.returns
returns c =
    let b = c.args.b in
    let n : length b.places ≡ 64 = search (rules, length-mapped) in
    c.no_response.ensures ∙ sym (get_or-eq_default b.places no_response (omega (arith, n, c.if-i-lt64.false)))
