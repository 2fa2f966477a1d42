-- A sell is the mirror of a buy: each price p becomes 1,000,000 - p, bids and offers, with their Customer marks, change places.
use Rattle.std.specs.Prelude.{Bool, cond, ℕ, eqb}
use Rattle.base.specs.Price.{mirrored}
use Rattle.words.specs.rules.Bits.{bit_at, with_bit, without_bit}
use Rattle.tape.specs.rules.Fields.{size_of, price_of, name_of, new_size_of, new_price_of, nbb_of, nbo_of, bb_of, bo_of}
use Rattle.tape.specs.declared.order.Order.{Order}
use Rattle.tape.specs.declared.event.Event.{Event}

-- marks with mark i set or clear
abbrev pub with_mark : ℕ → ℕ → Bool → ℕ
with_mark m i set = cond set (with_bit m i) (without_bit m i)

-- mark bits 2 and 3, Customer at BB and at BO, change places
unfoldable pub mirrored_marks : ℕ → ℕ
mirrored_marks m = with_mark (with_mark m 2 (bit_at m 3)) 3 (bit_at m 2)

-- buy for sell, sell for buy
unfoldable pub mirrored_side : ℕ → ℕ
mirrored_side s = cond (eqb s 1) 2 (cond (eqb s 2) 1 s)

-- a price, unless there is none: what stands for none stays
abbrev pub mirrored_unless : Bool → ℕ → ℕ
mirrored_unless none p = cond none p (mirrored p)

-- there is no stop in mode 2, and no collared order where the displayed price is 0; the collar is a difference of prices, and stays
unfoldable pub mirrored_order : Order → Order
mirrored_order o =
    record {
      side = mirrored_side o.side;
      mode = o.mode;
      marks = mirrored_marks o.marks;
      size = o.size;
      limit = mirrored o.limit;
      stop = mirrored_unless (eqb o.mode 2) o.stop;
      nbb = mirrored o.nbo;
      nbo = mirrored o.nbb;
      bb = mirrored o.bo;
      bo = mirrored o.bb;
      time = o.time;
      opens = o.opens;
      closes = o.closes;
      interval = o.interval;
      displayed = mirrored_unless (eqb o.displayed 0) o.displayed;
      collar = o.collar;
    }

-- a GTX response, a limit order: its side and its price
unfoldable pub mirrored_priced : Event → Event
mirrored_priced e = record { sequence = e.sequence; time = e.time; kind = e.kind; marks = e.marks; side = mirrored_side e.side; f12 = size_of e; f16 = mirrored (price_of e); f20 = e.f20; f24 = e.f24; participant = e.participant }

-- a market order: its side
unfoldable pub mirrored_market : Event → Event
mirrored_market e = record { sequence = e.sequence; time = e.time; kind = e.kind; marks = e.marks; side = mirrored_side e.side; f12 = size_of e; f16 = e.f16; f20 = e.f20; f24 = e.f24; participant = e.participant }

-- quotes: NBB for NBO, BB for BO, and their marks
unfoldable pub mirrored_quotes : Event → Event
mirrored_quotes e = record { sequence = e.sequence; time = e.time; kind = e.kind; marks = mirrored_marks e.marks; side = e.side; f12 = mirrored (nbo_of e); f16 = mirrored (nbb_of e); f20 = mirrored (bo_of e); f24 = mirrored (bb_of e); participant = e.participant }

-- an amend: its new price
unfoldable pub mirrored_amend : Event → Event
mirrored_amend e = record { sequence = e.sequence; time = e.time; kind = e.kind; marks = e.marks; side = e.side; f12 = name_of e; f16 = new_size_of e; f20 = mirrored (new_price_of e); f24 = e.f24; participant = e.participant }

-- a cancel has nothing to mirror
unfoldable pub mirrored_event : Event → Event
mirrored_event e =
    cond (eqb e.kind 1) (mirrored_priced e)
    (cond (eqb e.kind 3) (mirrored_priced e)
    (cond (eqb e.kind 4) (mirrored_market e)
    (cond (eqb e.kind 5) (mirrored_quotes e)
    (cond (eqb e.kind 6) (mirrored_amend e)
    e))))

-- the buy that an order or an event is for the engine
unfoldable pub buy_order : Order → Order
buy_order o = cond (eqb o.side 2) (mirrored_order o) o

unfoldable pub buy_event : Bool → Event → Event
buy_event sell e = cond sell (mirrored_event e) e
