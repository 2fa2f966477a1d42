-- The stated form of an order and of an event (document 01, "The tape", W-201 for amends and W-205 for collared orders). The participant is free on every kind (W-206): no test reads it.
use Rattle.std.specs.Prelude.{Bool, true, false, cond, not, ◌&&◌, ◌||◌, List, [], ◌∷◌, ℕ, ◌+◌, ◌-◌, leb, ltb, eqb}
use Rattle.words.specs.rules.Bits.{bit_at}
use Rattle.tape.specs.declared.order.Order.{Order}
use Rattle.tape.specs.declared.event.Event.{Event}
use Rattle.tape.specs.declared.form.Range.{Range}
use Rattle.tape.specs.declared.form.Shape.{Shape}

-- every test of a list holds, after `b`; on a list that is written out this computes to `b && t₁ && t₂ && ..`
abbrev pub all_from : Bool → List Bool → Bool
all_from b [] = b
all_from b (t ∷ ts) = all_from (b && t) ts

abbrev pub within : ℕ → ℕ → ℕ → Bool
within x low high = leb low x && leb x high

-- ---- orders

-- no stop in mode 2, a price else
abbrev pub stop_formed : ℕ → ℕ → Bool
stop_formed mode stop = (eqb mode 2 && eqb stop 0) || (not (eqb mode 2) && within stop 1 999999)

-- the result: for a buy the displayed price minus the collar, for a sell the displayed price plus the collar
abbrev pub collar_result : ℕ → ℕ → ℕ → ℕ
collar_result side displayed collar = cond (eqb side 2) (displayed + collar) (displayed - collar)

-- a collared order on the other side: both fields are zero where there is none, and else prices; the result is one too
abbrev pub collar_formed : ℕ → ℕ → ℕ → Bool
collar_formed side displayed collar =
    (eqb displayed 0 && eqb collar 0)
    || (within displayed 1 999999 && within collar 1 999999 && within (collar_result side displayed collar) 1 999999)

-- side, mode, marks (bits 0 to 3), size (0 is number 3's), prices, best bid and offer, times, interval, the collared order
unfoldable pub order_tests : Order → List Bool
order_tests o =
    within o.side 1 2
    ∷ within o.mode 1 3
    ∷ leb o.marks 15
    ∷ leb o.size 100000
    ∷ within o.limit 1 999999
    ∷ stop_formed o.mode o.stop
    ∷ within o.nbb 1 999999
    ∷ within o.nbo 1 999999
    ∷ leb o.bb 999999
    ∷ within o.bo 1 1000000
    ∷ leb o.time 86400000
    ∷ ltb o.opens o.closes
    ∷ leb o.closes 86400000
    ∷ within o.interval 100 1000
    ∷ collar_formed o.side o.displayed o.collar
    ∷ []

unfoldable pub order_formed : Order → Bool
order_formed o = all_from true (order_tests o)

-- ---- events

abbrev pub range : ℕ → ℕ → Range
range low high = record { low = low; high = high }

abbrev pub inside : ℕ → Range → Bool
inside x r = within x r.low r.high

abbrev pub unused : Range
unused = range 0 0

abbrev pub sides : Range
sides = range 1 2

abbrev pub sizes : Range
sizes = range 1 100000

abbrev pub prices : Range
prices = range 1 999999

abbrev pub any_number : Range
any_number = range 0 4294967295

abbrev pub bids : Range
bids = range 0 999999

abbrev pub offers : Range
offers = range 1 1000000

-- a row of the table: the marks, whether their bits 0 and 1 may be set, the side, and the fields 12, 16, 20, 24
abbrev pub row : Range → Bool → Range → Range → Range → Range → Range → Shape
row marks low side f12 f16 f20 f24 = record { marks = marks; low = low; side = side; f12 = f12; f16 = f16; f20 = f20; f24 = f24 }

-- the table, by kind: 1 GTX response, 2 cancel, 3 limit order or quote, 4 market order, 5 quotes, 6 amend; nothing fits another kind
unfoldable pub shape_of : ℕ → Shape
shape_of kind =
    cond (eqb kind 1) (row (range 0 1) true sides sizes prices unused unused)
    (cond (eqb kind 2) (row unused true unused any_number unused unused unused)
    (cond (eqb kind 3) (row (range 0 3) true sides sizes prices unused unused)
    (cond (eqb kind 4) (row (range 0 1) true sides sizes unused unused unused)
    (cond (eqb kind 5) (row (range 0 15) false unused prices prices bids offers)
    (cond (eqb kind 6) (row unused true unused any_number sizes prices unused)
    (row (range 1 0) true unused unused unused unused unused))))))

unfoldable pub shape_tests : Shape → Event → List Bool
shape_tests s e =
    leb e.time 86400000
    ∷ inside e.marks s.marks
    ∷ (s.low || (not (bit_at e.marks 0) && not (bit_at e.marks 1)))
    ∷ inside e.side s.side
    ∷ inside e.f12 s.f12
    ∷ inside e.f16 s.f16
    ∷ inside e.f20 s.f20
    ∷ inside e.f24 s.f24
    ∷ []

unfoldable pub event_formed : Event → Bool
event_formed e = all_from true (shape_tests (shape_of e.kind) e)
