use Rattle.milter_load_stats.proofs.BucketValues.{close, highest, lowest, next}
use Rattle.milter_load_stats.proofs.bucket.buckets_have_their_values.Goals as goal

pub returns-clause-lowest : goal.returns-clause-lowest
returns-clause-lowest c = lowest

pub returns-clause-highest : goal.returns-clause-highest
returns-clause-highest c = highest

pub returns-clause-close : goal.returns-clause-close
returns-clause-close c = close

pub returns-clause-next : goal.returns-clause-next
returns-clause-next c = next
