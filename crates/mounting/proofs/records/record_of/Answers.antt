use Rattle.std.proofs.Common.{[], sym, subst}
use Rattle.layout.specs.declared.pages.Tag.{Tag}
use Rattle.readings.specs.Versions.{bytes, deleted}
use Rattle.mounting.specs.Tagged.{tag_saying}
use Rattle.mounting.specs.Recorded.{Recorded}
use Rattle.mounting.proofs.RecordTurns.{recorded_version}
use Rattle.mounting.proofs.records.record_of.Goals as goal

pub returns-in-Data : goal.returns-in-Data
returns-in-Data c =
    subst (λ (t : Tag). Recorded c.args.keys.numbers.now (tag_saying t) c.version_record.result) (sym c.in-Data.is)
    (recorded_version c.args.keys.numbers.now (bytes []) c.in-Data.version c.successor.result _ c.version_record.ensures c.successor.ensures)

pub returns-in-Deletion : goal.returns-in-Deletion
returns-in-Deletion c =
    subst (λ (t : Tag). Recorded c.args.keys.numbers.now (tag_saying t) c.version_record-in-Deletion.result) (sym c.in-Deletion.is)
    (recorded_version c.args.keys.numbers.now deleted c.in-Deletion.version c.successor-in-Deletion.result _ c.version_record-in-Deletion.ensures c.successor-in-Deletion.ensures)
