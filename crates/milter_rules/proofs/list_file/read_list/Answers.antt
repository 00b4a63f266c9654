use Rattle.std.proofs.Common.{sym}
use Rattle.milter_rules.proofs.list_file.read_list.Goals as goal

pub returns-clause-found : goal.returns-clause-found
returns-clause-found c =
    record {
      source_is = c.in_ok-source.ensures;
      bytes = c.in-Some.bytes.now;
      there = sym (rw (c.in-Some.is, c.as_slice.ensures) at c.bytes_named.ensures);
      has = rw c.in_ok-list.ensures c.in-Ok.ensures.has;
    }
