use Rattle.std.proofs.Common.{◌≡◌, ◌*◌, ◌≤◌, length, Err, sym, ap, ◌∙◌, rules, arith}
use Rattle.readings.specs.Sayings.{sayings}
use Rattle.std.specs.Result.{result_ok}
use Rattle.refusals.specs.declared.types.Refusal.TheVariants as refusal
use Rattle.mounting.specs.Mounted.{verdict_in}
use Rattle.mounting.proofs.Store.{refuse_births, refuse_block, refuse_need, grant, differ, shuffled_keys, count_is, spare_is, room_fits}
use Rattle.mounting.proofs.Told.{many, agree, linked_at, mapped}
use Rattle.mounting.proofs.Bare.{tagged_clock}
use Rattle.mounting.proofs.BirthTurns.{clock_is}
use Rattle.mounting.proofs.index_of.Goals as goal

pub returns-then-not-births_differ : goal.returns-then-not-births_differ
returns-then-not-births_differ g c =
    let chip = c.args.chip.now in
    record {
      verdict = refuse_births _ _ (g.C.Chip.pages chip) c.args.tags.all.now c.requires.scanned.tagged _ _ c.size-blocks.ensures c.block_pages-per.ensures c.if-not-births_differ.ensures;
      tells = tt;
    }

pub erased_block-requires : goal.erased_block-requires
erased_block-requires g c =
    let least : 2 ≤ g.C.Chip.per = g.C.Chip.shape.least in
    let e = c.block_pages-per.ensures in
    omega arith

pub returns-in_err-spare-clause-verdict : goal.returns-in_err-spare-clause-verdict
returns-in_err-spare-clause-verdict g c =
    let chip = c.args.chip.now in
    let whole : length c.args.tags.all.now ≡ c.size-blocks.result * c.block_pages-per.result =
    many (g.C.Chip.pages chip) c.args.tags.all.now c.requires.scanned.tagged ∙ g.C.Chip.shape.whole chip ∙ (λ i. sym c.size-blocks.ensures i * sym c.block_pages-per.ensures i) in
    let no = rw (c.ok_or.ensures.ok_part ∙ ap result_ok c.in_err-spare.was) at (c.erased_block.ensures c.size-blocks.result whole) in
    let e : c.from_residual.result ≡ Err refusal.NotAStore = search rules in
    ap verdict_in e ∙ refuse_block _ _ (g.C.Chip.pages chip) c.args.tags.all.now c.requires.scanned.tagged _ _ c.size-blocks.ensures c.block_pages-per.ensures no

pub overflow_sub-blocks-2 : goal.overflow_sub-blocks-2
overflow_sub-blocks-2 g c =
    let least : 2 ≤ g.C.Chip.per = g.C.Chip.shape.least in
    let e = c.block_pages-per.ensures in
    let f = c.size-blocks.ensures in
    let some = c.requires.some in
    room_fits c.size-blocks.result c.block_pages-per.result (omega arith) (omega arith)

pub returns-then-blocks-per : goal.returns-then-blocks-per
returns-then-blocks-per g c =
    let pages = g.C.Chip.pages c.args.chip.now in
    let ts = c.args.tags.all.now in
    let tagged = c.requires.scanned.tagged in
    let eb = c.size-blocks.ensures in
    let ep = c.block_pages-per.ensures in
    let few = c.args.tags.few in
    let long = c.records_of-records.ensures.long in
    let count = count_is _ _ pages ts tagged _ _ eb ep c.records_of-records.result _ _ _ c.if-not-births_differ.ensures c.records_of-records.ensures.recorded c.as_slice.ensures c.requires.scanned.held (omega arith) c.needed_count-needed.ensures in
    record { verdict = refuse_need _ _ pages ts tagged _ _ eb ep c.needed_count-needed.result count c.if-blocks-per.true; tells = tt }

pub returns : goal.returns
returns g c =
    let pages = g.C.Chip.pages c.args.chip.now in
    let ts = c.args.tags.all.now in
    let rs = c.records_of-records.result in
    let told = c.requires.scanned in
    let tagged = told.tagged in
    let eb = c.size-blocks.ensures in
    let ep = c.block_pages-per.ensures in
    let few = c.args.tags.few in
    let long = c.records_of-records.ensures.long in
    let recorded = c.records_of-records.ensures.recorded in
    let apart = c.if-not-births_differ.ensures in
    let count = count_is _ _ pages ts tagged _ _ eb ep rs _ _ _ apart recorded c.as_slice.ensures told.held (omega arith) c.needed_count-needed.ensures in
    let all = many pages ts tagged in
    let whole : length ts ≡ c.size-blocks.result * c.block_pages-per.result = all ∙ g.C.Chip.shape.whole c.args.chip.now ∙ (λ i. sym eb i * sym ep i) in
    let spare = rw (c.ok_or.ensures.ok_part ∙ ap result_ok c.in_ok-spare.was) at (c.erased_block.ensures c.size-blocks.result whole) in
    let keys = shuffled_keys _ _ pages ts tagged _ _ eb ep recorded.0 recorded.1 in
    let free = spare_is _ _ pages ts tagged _ _ eb ep (g.C.Chip.shape.whole c.args.chip.now) c.in_ok-spare.spare.0 spare in
    record {
      verdict = grant _ _ pages ts tagged _ _ eb ep c.needed_count-needed.result told.begun apart spare.some count c.if-blocks-per.false;
      tells = record {
        counted = all;
        agree = agree pages ts rs recorded.0 tagged recorded.2 keys;
        linked = linked_at pages ts rs recorded.0 tagged recorded.2 keys _;
        mapped = λ s h. mapped pages ts rs recorded.0 tagged recorded.2 keys (differ _ _ pages ts tagged _ _ eb ep apart) (omega arith) s _ (c.sector_map-map.ensures.entries s h);
        clock = c.clock.ensures ∙ clock_is ts ∙ tagged_clock (sayings pages) ts tagged;
        newest = told.birth;
        held = told.held;
        label = told.label;
        spare_block = free.0;
        spare_erased = free.1;
      };
    }
