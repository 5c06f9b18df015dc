use Rattle.std.proofs.Common.{◌≡◌, ℕ, false, List, position, Some, None, Option, MatchOption, rules, ◌∙◌}
use Rattle.std.specs.Option.{option_map}
use Rattle.std.specs.List.{list_all}
use Rattle.chip.specs.declared.BlockNumber.{BlockNumber}
use Rattle.layout.specs.declared.pages.Tag as layout
use Rattle.readings.specs.Mount.{erased_block}
use Rattle.mounting.specs.Tagged.{tag_sayings, is_blank}
use Rattle.mounting.specs.Blocks.{blocks_of, ErasedAt}
use Rattle.mounting.proofs.BlockTurns.{no_block, some_block}
use Rattle.mounting.proofs.blocks.erased_block.Goals as goal

found : (per blocks : ℕ) (ts : List layout.Tag) (r : Option BlockNumber) → option_map (λ (b : BlockNumber). b.0) r ≡ position (list_all is_blank) (blocks_of per blocks ts) →
    MatchOption r (erased_block per blocks (tag_sayings ts) ≡ false) (λ b. ErasedAt per blocks (tag_sayings ts) b.0)
found per blocks ts None e = no_block per blocks ts e
found per blocks ts (Some b) e = some_block per blocks ts b.0 e

pub returns : goal.returns
returns c =
    let e : option_map (λ (b : BlockNumber). b.0) c.map.result ≡ c.first_erased.result = search rules in
    λ blocks whole. found c.args.per blocks c.args.tags.all.now c.map.result (e ∙ c.first_erased.ensures.first blocks whole)
