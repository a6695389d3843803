-- The first i lines are read, and their numbers are the words; what follows them is left.
use Rattle.std.proofs.Common.{rules}
use Rattle.printout.proofs.Lines.{wrong_length, one_more_line, left_after, unread_line, none_left}
use Rattle.printout.proofs.Lines.{all_read, registers_read}
use Rattle.printout.proofs.reading.registers.Goals as goal

pub returns-then-input-ne108 : goal.returns-then-input-ne108
returns-then-input-ne108 c = λ e. search (wrong_length, rules)

pub loop-i-preserved : goal.loop-i-preserved
loop-i-preserved c =
    let a = c.in-Some.ensures.steps in
    let w = c.in_ok-words.ensures {u = tt} in (
      rw a.1
          (rw a.2
          (one_more_line c.args.input.now c.loop-i.i-iterator.count c.in-Some.line.now c.next.new.self.iter.rest.now
          (search rules) (search rules) c.loop-i.words c.loop-i.invariant.1 c.loop-i.invariant.0 (search rules) w.0 _ w.1)),
      search rules,
      search rules,
      search (left_after, rules),
    )

pub returns-in_err-words : goal.returns-in_err-words
returns-in_err-words c =
    rw c.from_residual.ensures
    (unread_line c.args.input.now c.loop-i.i-iterator.count c.in-Some.line.now c.next.new.self.iter.rest.now
    (search rules) (search rules) (c.in_err-words.ensures {u = tt}))

pub returns : goal.returns
returns c = (search (all_read, none_left, rules), search (registers_read, none_left, rules))
