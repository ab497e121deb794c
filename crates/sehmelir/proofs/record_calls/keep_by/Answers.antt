-- `sehmelir::record_calls::keep_by` meets its contract: what is wanted is within the path, and what was gathered of it is kept as the whole path. Assumes nothing.
use Rattle.std.proofs.Common.{arith, length}
use Rattle.runs.specs.Runs.{spread}
use Rattle.records.specs.Records.{record_numbers, record_posts}
use Rattle.record_paths.proofs.WantedRecords.{wants, gathered_path}
use Rattle.sehmelir.proofs.record_calls.keep_by.Goals as goal

pub gather-requires : goal.gather-requires
gather-requires c = omega (arith, c.requires, (wants (length c.args.path.now) c.args.grade).inside)

pub returns : goal.returns
returns c =
    let vs = c.args.path.now in
    c.keep_reply.ensures.replies (spread record_numbers vs) (spread record_posts vs) (gathered_path c.args.own.now vs c.requires.0 c.requires.1 c.gather.ensures)
