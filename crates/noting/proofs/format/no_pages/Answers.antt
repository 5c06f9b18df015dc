use Rattle.std.proofs.Common.{refl}
use Rattle.noting.specs.Fresh.{no_pages}
use Rattle.noting.proofs.format.no_pages.Goals as goal

pub returns : goal.returns
unfolding no_pages
returns c = refl
