-- The ★ table and the table of lengths, computed from the definitions.
-- Assumes nothing.
use mathlib.Core.Path.{refl}
use Rattle.words.specs.Least.{least_from}
use Rattle.words.specs.Runs.{run, part, splice}
use Rattle.words.specs.Bytes.{word_of, byte_in}
use Rattle.words.specs.Best.{best_below}
use Rattle.words.specs.Bits.{with_bit, without_mask}
use Rattle.ring.specs.Rings.{fits, place_after, age, held}
use Rattle.shape.specs.Calls.{call}
use Rattle.places.specs.Slots.{take_rule}
use Rattle.registers.specs.Fields.{fifo_word, fifo_code}
use Rattle.frame.specs.Length.{data_length}
use Rattle.frame.specs.Malformed.{malformed}
use Rattle.frame.specs.Rank.{rank}
use Rattle.frame.specs.Sent.{as_sent}
use Rattle.element.specs.Word0.{word0}
use Rattle.element.specs.Word1.{form_bits, rx_word1, tx_word1}
use Rattle.element.specs.Elements.{element}
use Rattle.element.specs.Headers.{frame_in, tx_header_in}
use Rattle.element.specs.Bytes.{sent_byte, sent_from}
use Rattle.layout.specs.Sections.{section}
use Rattle.layout.specs.Verdict.{partner, verdict}
use Rattle.filter.specs.Matching.{by_type, matches}
use Rattle.filter.specs.Search.{filter_at, first_match}
use Rattle.filter.specs.Destination.{unmatched, rx_buffer, by_action, by_search, destination}
use Rattle.engine.specs.Calls.{output_refusals}
use Rattle.engine.specs.Fitness.{shared_ring_size, shared_unfit, unfit}
use Rattle.engine.specs.Keeping.{keep_rule}
use Rattle.engine.specs.States.{fifo_ring}
use Rattle.receiving.specs.Receive.{receive_refusals, into_fifo, into_buffer, into_nothing}
use Rattle.requesting.specs.Requesting.{dedicated_refusals, written, requests}
use Rattle.choosing.specs.Choosing.{is_candidate, choice, choice_refusals, chooses}
use Rattle.handler.specs.Stars.{StarsHold, LengthsHold}

pub stars_hold : StarsHold
unfolding call verdict least_from partner section unfit fits held age shared_unfit shared_ring_size malformed data_length
    receive_refusals destination by_search first_match filter_at matches by_type by_action rx_buffer unmatched
    into_fifo into_buffer into_nothing keep_rule take_rule fifo_word fifo_code fifo_ring place_after
    part splice run element word0 form_bits rx_word1 tx_word1 word_of rank
    dedicated_refusals requests written with_bit without_mask
    choice_refusals output_refusals chooses choice best_below is_candidate frame_in tx_header_in as_sent
    sent_from sent_byte byte_in
stars_hold =
    (refl, (refl, (refl, (refl, (refl, (refl, (refl, (refl, (refl, (refl, (refl, (refl, (refl, (refl, tt))))))))))))))

pub lengths_hold : LengthsHold
unfolding call verdict least_from partner section fifo_word fifo_code
lengths_hold = (refl, (refl, (refl, (refl, (refl, (refl, tt))))))
