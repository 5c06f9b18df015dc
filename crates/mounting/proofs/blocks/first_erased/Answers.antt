use Rattle.std.proofs.Common.{rules}
use Rattle.std.specs.List.{list_all}
use Rattle.std.proofs.lemmas.Iterator.Search.{position_from_yields_List}
use Rattle.mounting.specs.Tagged.{is_blank}
use Rattle.mounting.proofs.Chunks.{chunks_given}
use Rattle.mounting.proofs.blocks.first_erased.Goals as goal

pub returns-clause-first : goal.returns-clause-first
returns-clause-first c = λ blocks whole.
    position_from_yields_List (list_all is_blank) _ _ c.position.result c.position.ensures.ran
    (chunks_given c.args.per c.requires blocks c.args.tags.now c.chunks_exact.result c.chunks_exact.ensures.rest c.chunks_exact.ensures.size whole) (λ x b q k. search rules)
