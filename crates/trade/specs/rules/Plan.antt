-- The plan of a price, mode by mode (document 01, "Who trades").
use Rattle.std.specs.Prelude.{Bool, true, false, cond, not, ◌&&◌, ℕ, ◌-◌, ◌*◌, leb, ltb, eqb}

-- what the Contra Order takes after Customers and before the others, and whether all the rest goes to it
pub record Plan : Type 0 where
  pub want : ℕ
  pub final : Bool

abbrev pub go_on : ℕ → Plan
go_on n = record { want = n; final = false }

abbrev pub clean_up : ℕ → Plan
clean_up n = record { want = n; final = true }

-- p: the price; left: the size left on arriving there; held: what the Contra Order holds; A: the size of all responses there; G: the guarantee

-- below the stop, the others pro rata; at the stop the Contra Order up to G, the others, all the rest to the Contra Order
unfoldable pub mode1 : ℕ → ℕ → ℕ → ℕ → Plan
mode1 stop G p held = cond (ltb p stop) (go_on 0) (clean_up (G - held))

-- more than 2A left, below the initiating price: all are filled and the Contra Order gets A; else the clean-up price, where it takes what it lacks of G
unfoldable pub mode2 : ℕ → ℕ → ℕ → ℕ → ℕ → ℕ → Plan
mode2 initiating G p left held A = cond (ltb (2 * A) left && not (eqb p initiating)) (go_on A) (clean_up (G - held))

-- as mode 1 below its stop; as mode 2 from there; but once the Contra Order holds G it matches nothing, and clean-up is where at most A is left
unfoldable pub mode3 : ℕ → ℕ → ℕ → ℕ → ℕ → ℕ → ℕ → Plan
mode3 limit initiating G p left held A =
    cond (ltb p limit) (go_on 0)
    (cond (leb G held)
    (cond (ltb A left && not (eqb p initiating)) (go_on 0) (clean_up 0))
    (mode2 initiating G p left held A))

-- stop: the stop or auto-match limit as it works
abbrev pub plan_of : ℕ → ℕ → ℕ → ℕ → ℕ → ℕ → ℕ → ℕ → Plan
plan_of mode stop initiating G p left held A =
    cond (eqb mode 1) (mode1 stop G p held)
    (cond (eqb mode 2) (mode2 initiating G p left held A)
    (mode3 stop initiating G p left held A))
