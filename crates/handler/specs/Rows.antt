-- The paper's table of refusals: a number, the calls that have it, and when it applies to them.
use Rattle.std.specs.Prelude.{ℕ, ◌+◌, Bool, false, not, ◌&&◌, ◌||◌, List, [], ◌∷◌, eqb, ltb, length}
use Rattle.words.specs.Least.{least_from}
use Rattle.words.specs.Rules.{Ruling, refuse_if}
use Rattle.shape.specs.Refusals.{Refusal, names, Refusals}
use Rattle.registers.specs.Fields.{memory_words, dedicated, shared}
use Rattle.registers.specs.Given.{all_named}
use Rattle.frame.specs.Malformed.{malformed}
use Rattle.layout.specs.Sections.{sections_of}
use Rattle.layout.specs.Verdict.{plain, over, past, partner, has_partner}
use Rattle.engine.specs.Buffers.{no_tx_buffer, is_pending, in_shared_fifo}
use Rattle.engine.specs.Calls.{World, is_unfit}
use Rattle.taking.specs.Places.{no_place, place_free, no_rx_buffer, buffer_free}
use Rattle.requesting.specs.Places.{none_free}
use Rattle.requesting.specs.Requesting.{not_dedicated}
use Rattle.choosing.specs.Choosing.{choice}
use Rattle.reporting.specs.Reporting.{is_chosen}
use Rattle.events.specs.Events.{no_event, event_free}
use Rattle.handler.specs.Calls.{Call, Given, given}

abbrev pub is_among : ℕ → List ℕ → Bool
is_among n [] = false
is_among n (m ∷ ms) = eqb n m || is_among n ms

-- a row of the table, for a call: with the sections that the refusal names, and of a number alone
abbrev pub naming : Given → Refusal → List ℕ → Bool → Ruling Refusal
naming g a calls t = refuse_if (is_among g.call calls && t) a

abbrev pub row : Given → ℕ → List ℕ → Bool → Ruling Refusal
row g n calls t = naming g (plain n) calls t

abbrev pub all_but_start : List ℕ
all_but_start = 2 ∷ 3 ∷ 4 ∷ 5 ∷ 6 ∷ 7 ∷ 8 ∷ 9 ∷ 10 ∷ 11 ∷ 12 ∷ 13 ∷ 14 ∷ 15 ∷ []

-- the first of the seven sections that has a fault
abbrev pub first_with : (ℕ → Bool) → ℕ
first_with fault = least_from fault 0 7

unfoldable pub rows : World → Call → Refusals
rows w c =
    let s = w.state in
    let g = given c in
    let r = g.registers in
    let words = length w.memory in
    let ss = sections_of r in
    let beyond = first_with (past (memory_words r) ss) in
    let pair = first_with (has_partner ss) in
    row g 10 (1 ∷ []) (eqb (memory_words r) 0 || ltb 4352 (memory_words r) || not (eqb words (memory_words r)))
    ∷ row g 11 (1 ∷ []) (not (all_named r))
    ∷ naming g (names 12 (first_with (over r)) 7) (1 ∷ []) (ltb (first_with (over r)) 7)
    ∷ row g 13 (1 ∷ []) (ltb 32 (dedicated r + shared r))
    ∷ naming g (names 14 beyond 7) (1 ∷ []) (ltb beyond 7)
    ∷ naming g (names 15 pair (partner ss pair)) (1 ∷ []) (ltb pair 7)
    ∷ row g 20 all_but_start (is_unfit w)
    ∷ row g 21 (2 ∷ 7 ∷ 8 ∷ []) (malformed g.frame g.bytes)
    ∷ row g 22 (2 ∷ []) (g.frame.fdf && not s.regs.fdon)
    ∷ row g 23 (3 ∷ 4 ∷ []) (no_place s g.fifo g.place)
    ∷ row g 23 (5 ∷ 6 ∷ []) (no_rx_buffer s g.buffer)
    ∷ row g 23 (7 ∷ []) (not_dedicated s g.buffer)
    ∷ row g 23 (9 ∷ 11 ∷ []) (no_tx_buffer s g.buffer)
    ∷ row g 23 (12 ∷ 13 ∷ []) (no_event s g.place)
    ∷ row g 24 (7 ∷ []) (is_pending s g.buffer)
    ∷ row g 25 (8 ∷ []) (none_free s)
    ∷ row g 26 (9 ∷ []) (in_shared_fifo s g.buffer)
    ∷ row g 27 (9 ∷ []) (not (is_pending s g.buffer))
    ∷ row g 28 (11 ∷ []) (not (is_chosen (choice s w.memory) g.buffer))
    ∷ row g 29 (3 ∷ 4 ∷ []) (place_free s g.fifo g.place)
    ∷ row g 29 (5 ∷ 6 ∷ []) (buffer_free s g.buffer)
    ∷ row g 29 (12 ∷ 13 ∷ []) (event_free s g.place)
    ∷ row g 30 (3 ∷ 5 ∷ 10 ∷ []) (not (eqb (length g.output) 64))
    ∷ []
