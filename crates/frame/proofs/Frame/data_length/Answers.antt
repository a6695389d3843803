-- An FD frame has the bytes of its DLC's entry, and no entry is above 64.
use borrow.Author.Tests.{not-false}
use Rattle.frame.proofs.Lengths.{length_fd, fd_most}
use Rattle.frame.proofs.Frame.data_length.Goals as goal

pub returns-then-self-lt16 : goal.returns-then-self-lt16
returns-then-self-lt16 c =
    (length_fd _ _ _ c.if-self.false (not-false c.args.self.fdf c.if-not-self.false), fd_most c.args.self.dlc)
