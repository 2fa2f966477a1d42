-- What the fields of an event hold, by its kind (document 01, "The tape"): the paper's words for them.
use Rattle.std.specs.Prelude.{ℕ}
use Rattle.tape.specs.declared.event.Event.{Event}

-- of a response, an order or a quote
abbrev pub size_of : Event → ℕ
size_of e = e.f12

abbrev pub price_of : Event → ℕ
price_of e = e.f16

-- of a cancel and of an amend: the sequence of the GTX response that it names
abbrev pub name_of : Event → ℕ
name_of e = e.f12

-- of an amend: the size and the price that the GTX response gets
abbrev pub new_size_of : Event → ℕ
new_size_of e = e.f16

abbrev pub new_price_of : Event → ℕ
new_price_of e = e.f20

-- of quotes
abbrev pub nbb_of : Event → ℕ
nbb_of e = e.f12

abbrev pub nbo_of : Event → ℕ
nbo_of e = e.f16

abbrev pub bb_of : Event → ℕ
bb_of e = e.f20

abbrev pub bo_of : Event → ℕ
bo_of e = e.f24
