-- What the Contra Order takes and what is left to the others at a price, by computation: cases a and h of document 01, case a as a sell, and both sides with a Customer and a market order. Assumes nothing.
use mathlib.Core.Path.{◌≡◌, refl}
use mathlib.Core.List.{List, [], ◌∷◌}
use Rattle.base.specs.Lists.{sum}
use Rattle.share.specs.rules.Fills.{sizes}
use Rattle.tape.specs.declared.order.Order.{Order}
use Rattle.tape.specs.declared.event.Event.{Event}
use Rattle.run.specs.promises.Figures.{order, gtx, event, by_customer, market}
use Rattle.run.proofs.Figures.{Computed}
use Rattle.trade.specs.rules.Plan.{clean_up}
use Rattle.promise.specs.rules.Sides.{left_at_price, plan_at_price, customers_at_price, others_at_price, left_to_others_at_price}

-- a. 100 to buy, the stop at 108: Contra 40 there, and 30 for the others' 100
abbrev responses_a : List Event
responses_a = gtx 1 30 105 ∷ gtx 2 60 108 ∷ gtx 3 40 108 ∷ []

abbrev order_a : Order
order_a = order 1 1 100 110 108

left-a : left_at_price order_a responses_a 108 ∷ left_to_others_at_price order_a responses_a 108 ∷ sum (sizes (others_at_price order_a responses_a 108)) ∷ left_to_others_at_price order_a responses_a 105 ∷ [] ≡ 70 ∷ 30 ∷ 100 ∷ 100 ∷ []
unfolding Computed
left-a = refl

plan-a : plan_at_price order_a responses_a 108 ≡ clean_up 40
unfolding Computed
plan-a = refl

-- and the same to sell, mirrored about 105: the stop at 102
abbrev bids_a : List Event
bids_a = event 1 1 1 30 105 ∷ event 1 2 1 60 102 ∷ event 1 3 1 40 102 ∷ []

abbrev sell_a : Order
sell_a = order 2 1 100 100 102

left-sell : left_at_price sell_a bids_a 102 ∷ left_to_others_at_price sell_a bids_a 102 ∷ sum (sizes (others_at_price sell_a bids_a 102)) ∷ left_to_others_at_price sell_a bids_a 105 ∷ [] ≡ 70 ∷ 30 ∷ 100 ∷ 100 ∷ []
unfolding Computed
left-sell = refl

plan-sell : plan_at_price sell_a bids_a 102 ≡ clean_up 40
unfolding Computed
plan-sell = refl

-- h. the limit is 103: at 104 the Contra Order matches 80, and 100 is left to the others, who are 80; at 106 20 is left
abbrev responses_h : List Event
responses_h = gtx 1 20 101 ∷ gtx 2 80 104 ∷ gtx 3 30 106 ∷ []

abbrev order_h : Order
order_h = order 1 3 200 110 103

left-h : left_at_price order_h responses_h 104 ∷ left_to_others_at_price order_h responses_h 104 ∷ left_at_price order_h responses_h 106 ∷ left_to_others_at_price order_h responses_h 106 ∷ [] ≡ 180 ∷ 100 ∷ 20 ∷ 20 ∷ []
unfolding Computed
left-h = refl

-- a market order of 20 ends it: 80 is left at 108, of which a Customer has 10 and the Contra Order 40; 30 is left for the others' 100
abbrev sold_to : List Event
sold_to = by_customer (gtx 1 10 108) ∷ gtx 2 60 108 ∷ gtx 3 40 108 ∷ market 4 2 20 ∷ []

left-sold : left_at_price order_a sold_to 108 ∷ sum (sizes (customers_at_price order_a sold_to 108)) ∷ left_to_others_at_price order_a sold_to 108 ∷ sum (sizes (others_at_price order_a sold_to 108)) ∷ [] ≡ 80 ∷ 10 ∷ 30 ∷ 100 ∷ []
unfolding Computed
left-sold = refl

-- and to sell
abbrev bought_from : List Event
bought_from = by_customer (event 1 1 1 10 102) ∷ event 1 2 1 60 102 ∷ event 1 3 1 40 102 ∷ market 4 1 20 ∷ []

left-bought : left_at_price sell_a bought_from 102 ∷ sum (sizes (customers_at_price sell_a bought_from 102)) ∷ left_to_others_at_price sell_a bought_from 102 ∷ sum (sizes (others_at_price sell_a bought_from 102)) ∷ [] ≡ 80 ∷ 10 ∷ 30 ∷ 100 ∷ []
unfolding Computed
left-bought = refl
