-- `records::put_record` meets its contract: three numbers stored, each as it is, and the point number as the number that has its word. Assumes nothing.
use Rattle.std.proofs.Common.{refl, rules}
use Rattle.records.proofs.Gathered.{record_stored}
use Rattle.records.proofs.put_record.Goals as goal

pub returns : goal.returns
returns c = record_stored c.args.numbers.now c.args.m c.args.k c.args.v refl (search rules) (search rules) (search rules) (search rules) (search rules)
