use Rattle.readings.proofs.PageLaws.{pages_read}
use Rattle.readings.proofs.reading_depends_on_needed_versions_alone.Goals as goal

pub returns : goal.returns
returns c = pages_read
