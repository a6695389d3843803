-- Where a received frame goes.
use Rattle.std.specs.Prelude.{ℕ, Bool, true, false, not, ◌&&◌, Option, Some, None, List, eqb, ltb, leb}
use Rattle.words.specs.Choice.{pick}
use Rattle.words.specs.Fields.{bits}
use Rattle.words.specs.Bits.{is_set}
use Rattle.registers.specs.Fields.{buffers, anfs, anfe, rrfs, rrfe}
use Rattle.registers.specs.declared.Registers.{Registers}
use Rattle.frame.specs.declared.Frame.{Frame}
use Rattle.filter.specs.Search.{list_of, filter_at, first_match}
use Rattle.filter.specs.declared.lists.FilterList.{FilterList}
use Rattle.filter.specs.declared.Reason.{Reason}
use Rattle.filter.specs.declared.Reason.TheVariants.{Remote, Reject, NoMatch, PriorityOnly, Debug, Misfiled}
use Rattle.filter.specs.declared.Reason.TheVariants.{Locked}
use Rattle.filter.specs.declared.Destination.{Destination}
use Rattle.filter.specs.declared.Destination.TheVariants.{Fifo, Buffer, Discarded}

-- where a frame goes, with the index of the element that matched, if one did; a reason has the number that is below
pub data Goes : Type 0 where
  -- to FIFO 0 or 1; whether with priority
  to_fifo : ℕ → Bool → Option ℕ → Goes
  -- to an Rx buffer; the index
  to_buffer : ℕ → ℕ → Goes
  -- the reason's number
  discarded : ℕ → Option ℕ → Goes

-- the reasons, numbered in the order in which document 01 lists them
abbrev pub reason : Reason → ℕ
reason Remote = 0
reason Reject = 1
reason NoMatch = 2
reason PriorityOnly = 3
reason Debug = 4
reason Misfiled = 5
reason Locked = 6

-- what an answer of the code says
abbrev pub meaning : Destination → Goes
meaning (Fifo k priority m) = to_fifo k priority m
meaning (Buffer b i) = to_buffer b i
meaning (Discarded why m) = discarded (reason why) m

-- 1: remote frames of a kind are out: RRFS, or RRFE of 29 bits
abbrev pub remote_out : Registers → Bool → Bool
remote_out g xtd = pick xtd (rrfe g) (rrfs g)

-- 2: the field for frames that no element matches, ANFS, or ANFE of 29 bits: 0 and 1 name a FIFO, the others discard
abbrev pub non_matching : Registers → Bool → ℕ
non_matching g xtd = pick xtd (anfe g) (anfs g)

unfoldable pub unmatched : ℕ → Goes
unmatched anf =
    pick (eqb anf 0) (to_fifo 0 false None)
    (pick (eqb anf 1) (to_fifo 1 false None)
    (discarded (reason NoMatch) None))

-- 4, action 7: ID2 bits 10:9 not 0 means debug, bits 5:0 name the buffer, past the count misfiled. 5: new data locks it
unfoldable pub rx_buffer : ℕ → ℕ → ℕ → ℕ → Goes
rx_buffer id2 count newdata i =
    pick (not (eqb (bits 10 9 id2) 0)) (discarded (reason Debug) (Some i))
    (pick (leb count (bits 5 0 id2)) (discarded (reason Misfiled) (Some i))
    (pick (is_set newdata (bits 5 0 id2)) (discarded (reason Locked) (Some i))
    (to_buffer (bits 5 0 id2) i)))

-- 4: what the action of the element that matched does. One of action 0 never matches, so the last case is action 7
unfoldable pub by_action : ℕ → ℕ → ℕ → ℕ → ℕ → Goes
by_action action id2 count newdata i =
    pick (eqb action 1) (to_fifo 0 false (Some i))
    (pick (eqb action 2) (to_fifo 1 false (Some i))
    (pick (eqb action 3) (discarded (reason Reject) (Some i))
    (pick (eqb action 4) (discarded (reason PriorityOnly) (Some i))
    (pick (eqb action 5) (to_fifo 0 true (Some i))
    (pick (eqb action 6) (to_fifo 1 true (Some i))
    (rx_buffer id2 count newdata i))))))

-- by what the search in a list answers
unfoldable pub by_search : Registers → List ℕ → FilterList → ℕ → ℕ → Goes
by_search g mem l newdata i =
    pick (ltb i l.count)
    (by_action (filter_at mem l i).action (filter_at mem l i).id2 (buffers g) newdata i)
    (unmatched (non_matching g l.xtd))

-- 1 remote frames go out first; 2 the list of the frame's kind is searched; 3 to 5 the first match decides
unfoldable pub destination : Registers → List ℕ → Frame → ℕ → Goes
destination g mem f newdata =
    pick (f.rtr && remote_out g f.xtd) (discarded (reason Remote) None)
    (by_search g mem (list_of g f.xtd) newdata (first_match mem (list_of g f.xtd) f.id))
