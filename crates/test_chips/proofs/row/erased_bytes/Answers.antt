use Rattle.std.proofs.Common.{refl}
use Rattle.chip.specs.Pages.{erased_page}
use Rattle.test_chips.proofs.row.erased_bytes.Goals as goal

pub returns : goal.returns
unfolding erased_page
returns c = refl
