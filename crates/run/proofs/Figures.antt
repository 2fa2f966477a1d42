-- Cases a to k of document 01, and which firm stands behind a response, by computation. Assumes nothing.
use mathlib.Core.Path.{◌≡◌, refl}
use Rattle.words.specs.rules.Bits.{with_bit, without_bit, ones_in, clear_in}
use Rattle.base.specs.Lists.{filter, sum}
use Rattle.board.specs.rules.Board.{empty_board, live_in, seated_at, find_in, inserted, in_sequence}
use Rattle.share.specs.rules.Share.{shares}
use Rattle.tape.specs.rules.Form.{order_tests, order_formed, shape_of, shape_tests, event_formed}
use Rattle.trade.specs.rules.Trade.{level_fills, top, entry, next, guarantee_of, offers_at, level_at, walk, market_price, levels, fills}
use Rattle.trade.specs.rules.Plan.{mode1, mode2, mode3}
use Rattle.trade.specs.rules.Write.{fills_of}
use Rattle.base.specs.Price.{mirrored}
use Rattle.mirror.specs.rules.Mirror.{mirrored_marks, mirrored_side, mirrored_order, mirrored_priced, mirrored_market, mirrored_quotes, mirrored_amend, mirrored_event, buy_order, buy_event}
use Rattle.auction.specs.rules.Accept.{counted_offer, initiating_of, tick_of, bound_of, guaranteed_of, range_refusal, buy_refusal, order_refusal, terms_of, quotes_of, opened_by, accept_of}
use Rattle.events.specs.rules.Step.{event_refusal, sight_of, ended_by_time, head_after, turn_of, close_turn}
use Rattle.decision.specs.rules.Decide.{gtx_outcome, cancel_outcome, amend_outcome, sell_limit_outcome, bid_quotes, buy_limit_outcome, limit_outcome, market_outcome, new_quotes, quotes_outcome, outcome_of}
use Rattle.auction.specs.rules.Firm.{participant_of}
use Rattle.auction.specs.rules.Range.{bound_now, range_of}
use Rattle.fills.specs.rules.Fills.{deal_of}
use Rattle.run.specs.promises.Figures.{cases, Figures, FirmFigures}

-- all that an auction computes by, opened
unfoldable pub Computed : {A : Type 0} → A → A → Type 0
unfolding with_bit without_bit ones_in clear_in filter sum empty_board live_in seated_at find_in inserted in_sequence shares order_tests order_formed shape_of shape_tests event_formed level_fills top entry next guarantee_of offers_at mode1 mode2 mode3 level_at walk market_price levels fills fills_of mirrored mirrored_marks mirrored_side mirrored_order mirrored_priced mirrored_market mirrored_quotes mirrored_amend mirrored_event buy_order buy_event counted_offer initiating_of tick_of bound_of guaranteed_of range_refusal buy_refusal order_refusal terms_of quotes_of opened_by accept_of event_refusal gtx_outcome cancel_outcome amend_outcome sell_limit_outcome bid_quotes buy_limit_outcome limit_outcome market_outcome new_quotes quotes_outcome outcome_of sight_of ended_by_time head_after turn_of close_turn bound_now range_of deal_of
Computed x y = x ≡ y

pub figures : Figures
unfolding cases Computed
figures = refl

pub firm-figures : FirmFigures
unfolding Computed participant_of
firm-figures = (refl, refl, refl, refl)
