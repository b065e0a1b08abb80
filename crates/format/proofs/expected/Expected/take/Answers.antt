use Rattle.std.proofs.Common.{arith}
use Rattle.format.proofs.Scans.{low_takes, high_takes, expr_takes}
use Rattle.format.proofs.expected.Expected.take.Goals as goal

pub returns-then-byte-lt-BASE : goal.returns-then-byte-lt-BASE
returns-then-byte-lt-BASE c = low_takes c.args.self.now c.args.byte c.if-self-gt0.true c.if-byte-lt-BASE.true

pub returns-else-byte-lt-BASE : goal.returns-else-byte-lt-BASE
returns-else-byte-lt-BASE c = high_takes c.args.self.now c.args.byte c.if-self-gt0.true c.if-byte-lt-BASE.false

pub returns-then-self-gt0-2 : goal.returns-then-self-gt0-2
returns-then-self-gt0-2 c = expr_takes c.args.self.now c.args.byte c.in_ok-shape.shape (omega (arith, c.if-self-gt0.false)) c.if-self-gt0-2.true c.in_ok-shape.ensures
