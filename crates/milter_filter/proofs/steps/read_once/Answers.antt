use Rattle.std.proofs.Common.{[], sym, arith}
use Rattle.std.specs.Io.KnownBytes.{Consumes}
use Rattle.std.proofs.KnownBytes.{Consumes-kept, Consumes-nil}
use Rattle.milter_filter.specs.Connections.{connected}
use Rattle.milter_filter.proofs.Turns.{idle-completes, serving-opens}
use Rattle.milter_filter.proofs.steps.read_once.Goals as goal

pub returns-in-Ok-eq0-clause-ends : goal.returns-in-Ok-eq0-clause-ends
returns-in-Ok-eq0-clause-ends g c =
    let filter = c.args.filter.now in
    let waiting = c.args.backlog.now in
    let w = g.W.Write.contents c.args.writer.now in
    let unread = g.R.Read.remaining c.args.reader.now in
    let left = g.R.Read.remaining c.read.new.self in
    let bytes = c.in-Ok-eq0.ensures.bytes in
    let none : Consumes unread left [] = rw c.in-Ok-eq0.field-0-test at bytes.0 in (
      [],
      (
        record {
          new = connected filter waiting;
          completes = idle-completes filter waiting unread left w c.requires.serving c.requires.done none;
          state_is = c.requires.serving.serving;
        },
        sym c.unread.ensures,
        bytes.1 c.in-Ok-eq0.field-0-test (let room = c.read.auto.buf in omega (arith, c.requires.room, room)),
      ),
    )

pub returns-in-WouldBlock-clause-turns : goal.returns-in-WouldBlock-clause-turns
returns-in-WouldBlock-clause-turns g c =
    let filter = c.args.filter.now in
    let waiting = c.args.backlog.now in
    let w = g.W.Write.contents c.args.writer.now in
    let unread = g.R.Read.remaining c.args.reader.now in
    let left = g.R.Read.remaining c.read.new.self in
    let none = Consumes-kept unread unread left [] (Consumes-nil unread) c.in-Err.ensures.bytes in (
      [],
      (
        idle-completes filter waiting unread left w c.requires.serving c.requires.done none,
        serving-opens filter waiting c.requires.serving,
      ),
    )

pub returns-in_default : goal.returns-in_default
returns-in_default g c =
    let filter = c.args.filter.now in
    let waiting = c.args.backlog.now in
    let w = g.W.Write.contents c.args.writer.now in
    let unread = g.R.Read.remaining c.args.reader.now in
    let left = g.R.Read.remaining c.read.new.self in
    let none = Consumes-kept unread unread left [] (Consumes-nil unread) c.in-Err.ensures.bytes in
    record {
      turns = tt;
      ends = (
        [],
        record {
          new = connected filter waiting;
          completes = idle-completes filter waiting unread left w c.requires.serving c.requires.done none;
          state_is = c.requires.serving.serving;
        },
      );
    }
